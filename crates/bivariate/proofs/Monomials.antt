-- The polynomials 0 and y^j as lists.
use Rattle.std.proofs.Common.{◌≡◌, ℕ, ◌<◌, ◌≤◌, cond, ◌&&◌, eqb, ◌⊎◌, List, [], length, get_or, set, replicate, sym, ap, ◌∙◌, inl, inr, arith, length-set, get_or-set_other, get_or-set_same}
use lib.ListN.{length-replicate, get_or-replicate}
use Rattle.std.proofs.lemmas.Bool.{cases_eq, cond-true, cond-false, eq-eqb, ne_eqb, and_from, and_left, and_right}
use Rattle.field.specs.Made.{made}
use Rattle.bivariate.specs.Combinations.{zero_of, y_power_of}
use Rattle.field.proofs.Making.{made_is, made_at, made_same, length_made}

pub replicate_made : {X : Type 0} (n : ℕ) (x d : X) → replicate n x ≡ made n (λ _. x)
replicate_made n x d = made_is (λ _. x) (replicate n x) n d (length-replicate n x) (λ k h. get_or-replicate n k x d h)

-- 256 zeros
abbrev pub zeros : List ℕ
zeros = made 256 (λ _. 0)

pub zero_is : replicate {A = List ℕ} 8 (replicate {A = ℕ} 256 0) ≡ zero_of
unfolding zero_of
zero_is =
    replicate_made 8 (replicate {A = ℕ} 256 0) []
    ∙ made_same (λ _. replicate {A = ℕ} 256 0) (λ _. zeros) 8 [] (λ _ _. replicate_made {X = ℕ} 256 0 0)

pub zero_row : (c : ℕ) → c < 8 → get_or zero_of c [] ≡ zeros
unfolding zero_of
zero_row c h = made_at (λ _. zeros) 8 c [] h

pub length_zero : length zero_of ≡ 8
unfolding zero_of
length_zero = length_made (λ _. zeros) 8

-- the coefficient of x^i y^c of y^j
abbrev pub unit_at : ℕ → ℕ → ℕ → ℕ
unit_at j c i = cond (eqb c j && eqb i 0) 1 0

pub unit_here : (j c i : ℕ) → c ≡ j → i ≡ 0 → unit_at j c i ≡ 1
unit_here j c i p q = cond-true (eqb c j && eqb i 0) 1 0 (and_from (eqb c j) (eqb i 0) (eq-eqb c j p) (eq-eqb i 0 q))

pub unit_other_row : (j c i : ℕ) → (c ≡ j → ⊥) → unit_at j c i ≡ 0
unit_other_row j c i p = cond-false (eqb c j && eqb i 0) 1 0 (and_left (eqb c j) (eqb i 0) (ne_eqb c j p))

pub unit_other_place : (j c i : ℕ) → (i ≡ 0 → ⊥) → unit_at j c i ≡ 0
unit_other_place j c i p = cond-false (eqb c j && eqb i 0) 1 0 (and_right (eqb c j) (eqb i 0) (ne_eqb i 0 p))

module _ (j : ℕ) where
  -- row j: 1 and then zeros
  unit_row : (c : ℕ) → c ≡ j → set zeros 0 1 ≡ made 256 (unit_at j c)
  unit_row c e =
      made_is
      (unit_at j c)
      (set zeros 0 1)
      256
      0
      (length-set zeros 0 1 ∙ length_made {X = ℕ} (λ _. 0) 256)
      (λ i h. go i h (cases_eq i 0))
    where
      long : 0 < length zeros
      long = let e : length zeros ≡ 256 = length_made {X = ℕ} (λ _. 0) 256 in omega arith

      go : (i : ℕ) → i < 256 → (i ≡ 0) ⊎ (i ≡ 0 → ⊥) → get_or (set zeros 0 1) i 0 ≡ unit_at j c i
      go i h (inl p) =
          ap (λ k. get_or (set zeros 0 1) k 0) p
          ∙ get_or-set_same zeros 0 1 0 long
          ∙ sym (unit_here j c i e p)
      go i h (inr p) =
          get_or-set_other zeros 0 i 1 0 p ∙ made_at {X = ℕ} (λ _. 0) 256 i 0 h ∙ sym (unit_other_place j c i p)

  -- the other rows
  zero_unit_row : (c : ℕ) → (c ≡ j → ⊥) → zeros ≡ made 256 (unit_at j c)
  zero_unit_row c h = made_same (λ _. 0) (unit_at j c) 256 0 (λ i k. sym (unit_other_row j c i h))

  pub y_power_written : (q : List (List ℕ)) → j < 8 → q ≡ zero_of → set q j (set (get_or q j []) 0 1) ≡ y_power_of j
  unfolding y_power_of
  y_power_written q h e =
      ap (λ p. set p j (set (get_or p j []) 0 1)) e
      ∙ ap (λ row. set zero_of j (set row 0 1)) (zero_row j h)
      ∙ made_is
      (λ c. made 256 (unit_at j c))
      (set zero_of j one)
      8
      []
      (length-set zero_of j one ∙ length_zero)
      (λ c k. go c k (cases_eq c j))
    where
      one : List ℕ
      one = set zeros 0 1

      inside : j < length zero_of
      inside = let e : length zero_of ≡ 8 = length_zero in omega arith

      go : (c : ℕ) → c < 8 → (c ≡ j) ⊎ (c ≡ j → ⊥) → get_or (set zero_of j one) c [] ≡ made 256 (unit_at j c)
      go c k (inl p) = ap (λ n. get_or (set zero_of j one) n []) p ∙ get_or-set_same zero_of j one [] inside ∙ unit_row c p
      go c k (inr p) = get_or-set_other zero_of j c one [] p ∙ zero_row c k ∙ zero_unit_row c p

  pub y_power_none : (q : List (List ℕ)) → 8 ≤ j → q ≡ zero_of → q ≡ y_power_of j
  unfolding y_power_of zero_of
  y_power_none q h e =
      e
      ∙ made_same
      (λ _. zeros)
      (λ c. made 256 (unit_at j c))
      8
      []
      (λ c k. zero_unit_row c (λ p. absurd (omega arith)))
