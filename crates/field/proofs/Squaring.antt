-- The loop of repeated squaring.
use Rattle.std.proofs.Common.{◌≡◌, ℕ, zero, suc, ◌/◌, ◌%◌, ◌^◌, ◌<◌, cond, eqb, sym, refl, ap, ◌∙◌, arith}
use Rattle.field.specs.Powers.{power}

-- the loop stands at r, a and e: with e in some number of bits, r times the power e of a is the power asked for
pub record Squares (times : ℕ → ℕ → ℕ) (r a e base exponent : ℕ) : Type 0 where
  pub bits : ℕ
  pub within : e < 2 ^ bits
  pub same : power times bits r a e ≡ power times 8 1 base exponent

pub squares_start : (times : ℕ → ℕ → ℕ) (a e : ℕ) → e < 256 → Squares times 1 a e a e
squares_start times a e h = record { bits = 8; within = h; same = refl }

-- one turn, for whatever the test of the last bit chose
pub squares_turn : (times : ℕ → ℕ → ℕ) (r a e base exponent r' a' : ℕ) → 0 < e → cond (eqb (e % 2) 1) (times r a) r ≡ r' → a' ≡ times a a → Squares times r a e base exponent → Squares times r' a' (e / 2) base exponent
unfolding power
squares_turn times r a e base exponent r' a' some chosen squared s = go s.bits s.within s.same
  where
    go : (k : ℕ) → e < 2 ^ k → power times k r a e ≡ power times 8 1 base exponent → Squares times r' a' (e / 2) base exponent
    go zero h q = absurd (omega arith)
    go (suc k) h q = record {
      bits = k;
      within = omega arith;
      same = ap (λ x. power times k x a' (e / 2)) (sym chosen) ∙ ap (λ x. power times k (cond (eqb (e % 2) 1) (times r a) r) x (e / 2)) squared ∙ q;
    }

-- nothing of the exponent is left
none_left : (times : ℕ → ℕ → ℕ) (k r a : ℕ) → power times k r a 0 ≡ r
unfolding power
none_left times zero r a = refl
none_left times (suc k) r a = none_left times k r (times a a)

pub squares_end : (times : ℕ → ℕ → ℕ) (r a e base exponent : ℕ) → e ≡ 0 → Squares times r a e base exponent → r ≡ power times 8 1 base exponent
squares_end times r a e base exponent done s = sym (none_left times s.bits r a) ∙ ap (power times s.bits r a) (sym done) ∙ s.same
