-- Powers by repeated squaring, and powers of elements.
use Rattle.std.specs.Prelude.{◌≡◌, ℕ, zero, suc, ◌+◌, ◌-◌, ◌/◌, ◌%◌, ◌<◌, ◌≤◌, Bool, true, false, cond, ◌&&◌, ◌==◌, ◌≢◌, Some, None, Option, nat_lt, refl}
use Rattle.std.proofs.Common.{sym, ap, ◌∙◌, arith}
use Rattle.std.proofs.lemmas.Bool.Decides.{nat_tests}
use Rattle.std.proofs.lemmas.Bool.{and_parts, ltb-true}
use Rattle.field.specs.Meaning.{Meaning, product_of, inverse_of}
use Rattle.field.specs.Powers.{power}

-- one turn of repeated squaring
power_suc : (times : ℕ → ℕ → ℕ) (k r a e : ℕ) → power times (suc k) r a e ≡ power times k (cond (e % 2 == 1) (times r a) r) (times a a) (e / 2)
unfolding power
power_suc times k r a e = refl

power_zero : (times : ℕ → ℕ → ℕ) (r a e : ℕ) → power times 0 r a e ≡ r
unfolding power
power_zero times r a e = refl

pub power_turn : (times : ℕ → ℕ → ℕ) (i r a e : ℕ) → i < 8 → power times (8 - i) r a e ≡ power times (8 - (i + 1)) (cond (e % 2 == 1) (times r a) r) (times a a) (e / 2)
power_turn times i r a e h =
    let n : 8 - i ≡ suc (8 - (i + 1)) = omega arith in
    ap (λ k. power times k r a e) n ∙ power_suc times (8 - (i + 1)) r a e

pub power_done : (times : ℕ → ℕ → ℕ) (i r a e : ℕ) → 8 ≤ i → power times (8 - i) r a e ≡ r
power_done times i r a e h =
    let n : 8 - i ≡ 0 = omega arith in
    ap (λ k. power times k r a e) n ∙ power_zero times r a e

-- what the test of the last bit chooses
pub odd_takes : (e x y : ℕ) → e % 2 ≡ 1 → cond (e % 2 == 1) x y ≡ x
odd_takes e x y h = grind (arith, nat_tests)

pub even_keeps : (e x y : ℕ) → (e % 2 ≢ 1) → cond (e % 2 == 1) x y ≡ y
even_keeps e x y h = grind (arith, nat_tests)

-- the invariant of the loop after one turn, from the values that the turn leaves
pub power_again : (times : ℕ → ℕ → ℕ) (i r a e r' a' v : ℕ) → i < 8 → cond (e % 2 == 1) (times r a) r ≡ r' → a' ≡ times a a → power times (8 - i) r a e ≡ v → power times (8 - (i + 1)) r' a' (e / 2) ≡ v
power_again times i r a e r' a' v h p q inv =
    ap (λ x. power times (8 - (i + 1)) x a' (e / 2)) (sym p) ∙ ap (λ x. power times (8 - (i + 1)) (cond (e % 2 == 1) (times r a) r) x (e / 2)) q ∙ sym (power_turn times i r a e h) ∙ inv

-- powers of elements are elements
pub power_closed : (times : ℕ → ℕ → ℕ) (m : ℕ) → ((a b : ℕ) → a < m → b < m → times a b < m) → (k r a e : ℕ) → r < m → a < m → power times k r a e < m
unfolding power
power_closed times m closed zero r a e h g = h
power_closed times m closed (suc k) r a e h g = power_closed times m closed k (cond (e % 2 == 1) (times r a) r) (times a a) (e / 2) (chosen (e % 2 == 1)) (closed a a g g)
  where
    chosen : (b : Bool) → cond b (times r a) r < m
    chosen true = closed r a h g
    chosen false = h

-- products that agree on the elements have the same powers
pub power_agrees : (times other : ℕ → ℕ → ℕ) (m : ℕ) → ((a b : ℕ) → a < m → b < m → times a b < m) → ((a b : ℕ) → a < m → b < m → other a b ≡ times a b) → (k r a e : ℕ) → r < m → a < m → power other k r a e ≡ power times k r a e
unfolding power
power_agrees times other m closed same zero r a e h g = refl
power_agrees times other m closed same (suc k) r a e h g =
    ap (λ x. power other k x (other a a) (e / 2)) (chosen (e % 2 == 1)) ∙ ap (λ x. power other k (cond (e % 2 == 1) (times r a) r) x (e / 2)) (same a a g g) ∙ power_agrees times other m closed same k (cond (e % 2 == 1) (times r a) r) (times a a) (e / 2) (within (e % 2 == 1)) (closed a a g g)
  where
    chosen : (b : Bool) → cond b (other r a) r ≡ cond b (times r a) r
    chosen true = same r a h g
    chosen false = refl

    within : (b : Bool) → cond b (times r a) r < m
    within true = closed r a h g
    within false = h

-- in a field where the inverse is the power of the size less two, that power of the total product answers for the inverse
pub inverse_found : (m : Meaning) → 2 ≤ m.size → ((a b : ℕ) → a < m.size → b < m.size → m.product a b < m.size) → ((a : ℕ) → m.inverse a ≡ power m.product 8 1 a (m.size - 2)) → (a : ℕ) → cond (nat_lt 0 a && nat_lt a m.size) (Some (power (product_of m) 8 1 a (m.size - 2))) None ≡ inverse_of m a
inverse_found m two closed inverse a = cond_same (nat_lt 0 a && nat_lt a m.size) (λ e. ap Some (power_agrees m.product (product_of m) m.size closed (λ x y p q. grind (arith, nat_tests)) 8 1 a (m.size - 2) (omega arith) (ltb-true a m.size (and_parts (nat_lt 0 a) (nat_lt a m.size) e).1) ∙ sym (inverse a)))
  where
    cond_same : (b : Bool) {x y : Option ℕ} → (b ≡ true → x ≡ y) → cond b x None ≡ cond b y None
    cond_same true h = h refl
    cond_same false h = refl
