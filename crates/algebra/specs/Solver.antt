-- A solver for identities of commutative rings: both sides are written as expressions, brought into a normal form,
-- and the identity holds in every ring where the normal forms agree, which `tt` says by computing.
use Rattle.std.specs.Prelude.{◌≡◌, refl, Bool, true, false, List, [], ◌∷◌, ℕ, zero, suc}
use Rattle.std.proofs.Common.{sym, ◌∙◌, ap, ap₂}
use Rattle.std.proofs.lemmas.Bool.{false≢true}
use Rattle.algebra.specs.Ring.{CommRing, zero_add, mul_one, add_mul, add_left_comm, mul_left_comm, mul_zero, zero_mul, neg_zero, neg_neg, neg_add, mul_neg, neg_mul, neg_add_self, eq_of_sub}
pub use Rattle.algebra.specs.NormalForm.{Expr, :var, :0, :1, ◌:+◌, ◌:*◌, :-◌, ◌:-◌, Identity, ◌:≡◌}
use Rattle.algebra.specs.NormalForm.{Term, term, at_most, equal, both, opposite, same, insert, merge, cancels, put, join, flip, negate, times, scale, expand, normal, Nothing, Valid}

module _ {K : Type 0} (R : CommRing K) where
  open R use {zero as 𝟘, one as 𝟙, add as ◌+◌, mul as ◌*◌, neg as -◌}

  infixl 65 ◌+◌
  infixl 70 ◌*◌
  infix 75 -◌
  -- the value of the variable of a number; zero past the end
  abbrev pub lookup : List K → ℕ → K
  lookup [] i = 𝟘
  lookup (x ∷ xs) zero = x
  lookup (x ∷ xs) (suc i) = lookup xs i

  -- the value of an expression where the variables have the values of the list
  abbrev pub value : List K → Expr → K
  value ρ (:var i) = lookup ρ i
  value ρ :0 = 𝟘
  value ρ :1 = 𝟙
  value ρ (a :+ b) = value ρ a + value ρ b
  value ρ (a :* b) = value ρ a * value ρ b
  value ρ (:- a) = - value ρ a

  -- the identity at the values of the list
  abbrev pub Holds : List K → Identity → Type 0
  Holds ρ (a :≡ b) = value ρ a ≡ value ρ b

  module _ (ρ : List K) where
    -- the product of the variables
    abbrev monomial : List ℕ → K
    monomial [] = 𝟙
    monomial (x ∷ xs) = lookup ρ x * monomial xs

    -- a with a sign
    abbrev signed : Bool → K → K
    signed true a = a
    signed false a = - a

    -- the value of a term
    abbrev of_term : Term → K
    of_term (term s xs) = signed s (monomial xs)

    -- the value of a sum of terms
    abbrev sum : List Term → K
    sum [] = 𝟘
    sum (t ∷ ts) = of_term t + sum ts

    equal_sound : (x y : ℕ) → equal x y ≡ true → x ≡ y
    equal_sound zero zero e = refl
    equal_sound zero (suc y) e = absurd (false≢true e)
    equal_sound (suc x) zero e = absurd (false≢true e)
    equal_sound (suc x) (suc y) e = ap suc (equal_sound x y e)

    both_sound : (a b : Bool) → both a b ≡ true → (a ≡ true) × (b ≡ true)
    both_sound true b e = (refl, e)
    both_sound false b e = absurd (false≢true e)

    same_sound : (xs ys : List ℕ) → same xs ys ≡ true → xs ≡ ys
    same_sound [] [] e = refl
    same_sound [] (y ∷ ys) e = absurd (false≢true e)
    same_sound (x ∷ xs) [] e = absurd (false≢true e)
    same_sound (x ∷ xs) (y ∷ ys) e =
        let h = both_sound (equal x y) (same xs ys) e in
        ap₂ ◌∷◌ (equal_sound x y h.0) (same_sound xs ys h.1)

    cancels_sound : (t u : Term) → cancels t u ≡ true → of_term t + of_term u ≡ 𝟘
    cancels_sound (term true xs) (term true ys) e = absurd (false≢true e)
    cancels_sound (term true xs) (term false ys) e =
        ap (λ x. monomial x + - monomial ys) (same_sound xs ys e) ∙ R.add_neg (monomial ys)
    cancels_sound (term false xs) (term true ys) e =
        ap (λ x. - monomial x + monomial ys) (same_sound xs ys e) ∙ neg_add_self R (monomial ys)
    cancels_sound (term false xs) (term false ys) e = absurd (false≢true e)

    put_sound : (t : Term) (us : List Term) → sum (put t us) ≡ of_term t + sum us
    put_sound t [] = refl
    put_sound t (u ∷ us) = go (cancels t u) refl (put_sound t us)
      where
        go : (b : Bool)
            → cancels t u ≡ b
            → sum (put t us) ≡ of_term t + sum us
            → sum (elim b [ true ↦ us | false ↦ u ∷ put t us ]) ≡ of_term t + (of_term u + sum us)
        go true e ih =
            sym (zero_add R (sum us))
            ∙ ap (λ x. x + sum us) (sym (cancels_sound t u e))
            ∙ R.add_assoc (of_term t) (of_term u) (sum us)
        go false e ih = ap (λ x. of_term u + x) ih ∙ add_left_comm R (of_term u) (of_term t) (sum us)

    join_sound : (ts us : List Term) → sum (join ts us) ≡ sum ts + sum us
    join_sound [] us = sym (zero_add R (sum us))
    join_sound (t ∷ ts) us =
        put_sound t (join ts us)
        ∙ ap (λ x. of_term t + x) (join_sound ts us)
        ∙ sym (R.add_assoc (of_term t) (sum ts) (sum us))

    opposite_sound : (s : Bool) (a : K) → signed (opposite s) a ≡ - signed s a
    opposite_sound true a = refl
    opposite_sound false a = sym (neg_neg R a)

    flip_sound : (t : Term) → of_term (flip t) ≡ - of_term t
    flip_sound (term s xs) = opposite_sound s (monomial xs)

    negate_sound : (ts : List Term) → sum (negate ts) ≡ - sum ts
    negate_sound [] = sym (neg_zero R)
    negate_sound (t ∷ ts) = ap₂ ◌+◌ (flip_sound t) (negate_sound ts) ∙ sym (neg_add R (of_term t) (sum ts))

    insert_sound : (x : ℕ) (ys : List ℕ) → monomial (insert x ys) ≡ lookup ρ x * monomial ys
    insert_sound x [] = refl
    insert_sound x (y ∷ ys) = go (at_most x y) (insert_sound x ys)
      where
        go : (b : Bool)
            → monomial (insert x ys) ≡ lookup ρ x * monomial ys
            → monomial (elim b [ true ↦ x ∷ y ∷ ys | false ↦ y ∷ insert x ys ]) ≡ lookup ρ x * (lookup ρ y * monomial ys)
        go true ih = refl
        go false ih =
            ap (λ a. lookup ρ y * a) ih ∙ mul_left_comm R (lookup ρ y) (lookup ρ x) (monomial ys)

    merge_sound : (xs ys : List ℕ) → monomial (merge xs ys) ≡ monomial xs * monomial ys
    merge_sound [] ys = sym (R.one_mul (monomial ys))
    merge_sound (x ∷ xs) ys =
        insert_sound x (merge xs ys)
        ∙ ap (λ a. lookup ρ x * a) (merge_sound xs ys)
        ∙ sym (R.mul_assoc (lookup ρ x) (monomial xs) (monomial ys))

    signed_mul : (s : Bool) (a b : K) → signed s (a * b) ≡ a * signed s b
    signed_mul true a b = refl
    signed_mul false a b = sym (mul_neg R a b)

    times_sound : (t u : Term) → of_term (times t u) ≡ of_term t * of_term u
    times_sound (term true xs) (term t ys) =
        ap (signed t) (merge_sound xs ys) ∙ signed_mul t (monomial xs) (monomial ys)
    times_sound (term false xs) (term t ys) =
        ap (signed (opposite t)) (merge_sound xs ys)
        ∙ opposite_sound t (monomial xs * monomial ys)
        ∙ ap -◌ (signed_mul t (monomial xs) (monomial ys))
        ∙ sym (neg_mul R (monomial xs) (signed t (monomial ys)))

    scale_sound : (t : Term) (us : List Term) → sum (scale t us) ≡ of_term t * sum us
    scale_sound t [] = sym (mul_zero R (of_term t))
    scale_sound t (u ∷ us) =
        ap₂ ◌+◌ (times_sound t u) (scale_sound t us) ∙ sym (R.mul_add (of_term t) (of_term u) (sum us))

    expand_sound : (ts us : List Term) → sum (expand ts us) ≡ sum ts * sum us
    expand_sound [] us = sym (zero_mul R (sum us))
    expand_sound (t ∷ ts) us =
        join_sound (scale t us) (expand ts us)
        ∙ ap₂ ◌+◌ (scale_sound t us) (expand_sound ts us)
        ∙ sym (add_mul R (of_term t) (sum ts) (sum us))

    normal_sound : (a : Expr) → sum (normal a) ≡ value ρ a
    normal_sound (:var i) = R.add_zero _ ∙ mul_one R _
    normal_sound :0 = refl
    normal_sound :1 = R.add_zero 𝟙
    normal_sound (a :+ b) = join_sound (normal a) (normal b) ∙ ap₂ ◌+◌ (normal_sound a) (normal_sound b)
    normal_sound (a :* b) = expand_sound (normal a) (normal b) ∙ ap₂ ◌*◌ (normal_sound a) (normal_sound b)
    normal_sound (:- a) = negate_sound (normal a) ∙ ap -◌ (normal_sound a)

    nothing_sound : (ts : List Term) → Nothing ts → sum ts ≡ 𝟘
    nothing_sound [] h = refl
    nothing_sound (t ∷ ts) h = absurd h

    -- an identity whose sides have no difference holds at all values
    pub solve : (q : Identity) → Valid q → Holds ρ q
    solve (a :≡ b) h =
        eq_of_sub
        R
        (value ρ a)
        (value ρ b)
        (sym (normal_sound (a :- b)) ∙ nothing_sound (normal (a :- b)) h)

  -- identities in one to six variables: the goal is read off the values
  pub ring1 : (q : Expr → Identity) → Valid (q (:var 0)) → (a : K) → Holds (a ∷ []) (q (:var 0))
  ring1 q h a = solve (a ∷ []) (q (:var 0)) h

  pub ring2 : (q : Expr → Expr → Identity)
      → Valid (q (:var 0) (:var 1))
      → (a b : K)
      → Holds (a ∷ b ∷ []) (q (:var 0) (:var 1))
  ring2 q h a b = solve (a ∷ b ∷ []) (q (:var 0) (:var 1)) h

  pub ring3 : (q : Expr → Expr → Expr → Identity)
      → Valid (q (:var 0) (:var 1) (:var 2))
      → (a b c : K)
      → Holds (a ∷ b ∷ c ∷ []) (q (:var 0) (:var 1) (:var 2))
  ring3 q h a b c = solve (a ∷ b ∷ c ∷ []) (q (:var 0) (:var 1) (:var 2)) h

  pub ring4 : (q : Expr → Expr → Expr → Expr → Identity)
      → Valid (q (:var 0) (:var 1) (:var 2) (:var 3))
      → (a b c d : K)
      → Holds (a ∷ b ∷ c ∷ d ∷ []) (q (:var 0) (:var 1) (:var 2) (:var 3))
  ring4 q h a b c d = solve (a ∷ b ∷ c ∷ d ∷ []) (q (:var 0) (:var 1) (:var 2) (:var 3)) h

  pub ring5 : (q : Expr → Expr → Expr → Expr → Expr → Identity)
      → Valid (q (:var 0) (:var 1) (:var 2) (:var 3) (:var 4))
      → (a b c d e : K)
      → Holds (a ∷ b ∷ c ∷ d ∷ e ∷ []) (q (:var 0) (:var 1) (:var 2) (:var 3) (:var 4))
  ring5 q h a b c d e = solve (a ∷ b ∷ c ∷ d ∷ e ∷ []) (q (:var 0) (:var 1) (:var 2) (:var 3) (:var 4)) h

  pub ring6 : (q : Expr → Expr → Expr → Expr → Expr → Expr → Identity)
      → Valid (q (:var 0) (:var 1) (:var 2) (:var 3) (:var 4) (:var 5))
      → (a b c d e f : K)
      → Holds (a ∷ b ∷ c ∷ d ∷ e ∷ f ∷ []) (q (:var 0) (:var 1) (:var 2) (:var 3) (:var 4) (:var 5))
  ring6 q h a b c d e f =
      solve (a ∷ b ∷ c ∷ d ∷ e ∷ f ∷ []) (q (:var 0) (:var 1) (:var 2) (:var 3) (:var 4) (:var 5)) h
