-- The coefficient of x^r y^u as a coefficient of the expansion of the coefficients of x^r.
use Rattle.std.proofs.Common.{◌≡◌, ℕ, zero, suc, ◌+◌, ◌<◌, ◌≤◌, min, List, sym, refl, ◌∙◌, ap₂, arith}
use Rattle.field.specs.Meaning.{Meaning, sum_of, product_of}
use Rattle.bivariate.specs.Horner.{entries, taylor_of, coefficient_of}
use Rattle.bivariate.specs.Combinations.{term_of, term_within, terms_of, discrepancy_of}
use Rattle.bivariate.proofs.Steps.{taylor_zero, taylor_suc_zero, taylor_suc_suc, coefficient_none}
use Rattle.field.proofs.Making.{made_at}
use Rattle.bivariate.proofs.Parts.{pick_below, pick_same}

module _ (m : Meaning) (a : ℕ) (cs ds : ℕ → ℕ) where
  -- an expansion goes by its coefficients alone
  taylor_same : (i n r : ℕ) → ((k : ℕ) → i ≤ k → k < i + n → cs k ≡ ds k) → taylor_of m a cs i n r ≡ taylor_of m a ds i n r
  taylor_same i zero r h = sym (taylor_zero m a cs i 0 r (omega arith)) ∙ taylor_zero m a ds i 0 r (omega arith)
  taylor_same i (suc n) zero h =
      taylor_suc_zero m a cs i n
      ∙ ap₂ (λ x y. sum_of m x (product_of m a y)) (h i (omega arith) (omega arith)) (taylor_same (suc i) n 0 (λ k l j. h k (omega arith) (omega arith)))
      ∙ sym (taylor_suc_zero m a ds i n)
  taylor_same i (suc n) (suc r) h =
      taylor_suc_suc m a cs i n r
      ∙ ap₂
      (λ x y. sum_of m x (product_of m a y))
      (taylor_same (suc i) n r (λ k l j. h k (omega arith) (omega arith)))
      (taylor_same (suc i) n (suc r) (λ k l j. h k (omega arith) (omega arith)))
      ∙ sym (taylor_suc_suc m a ds i n r)

  coefficient_same : (n r : ℕ) → ((k : ℕ) → k < n → cs k ≡ ds k) → coefficient_of m a cs n r ≡ coefficient_of m a ds n r
  unfolding coefficient_of
  coefficient_same n r h =
      pick_same
      r
      8
      (taylor_of m a cs 0 n r)
      0
      (coefficient_of m a ds n r)
      (λ l. taylor_same 0 n r (λ k _ j. h k (omega arith)) ∙ sym (pick_below r 8 (taylor_of m a ds 0 n r) 0 l))
      (λ l. sym (pick_same r 8 (taylor_of m a ds 0 n r) 0 0 (λ j. absurd (omega arith)) (λ _. refl)))

pub discrepancy_is : (m : Meaning) (q : List (List ℕ)) (l bound weight a b u r : ℕ) (terms : List ℕ) (n value : ℕ)
    → terms ≡ terms_of m q l bound weight a r
    → n ≡ min l 8
    → value ≡ coefficient_of m b (entries terms) (min n 8) u
    → value ≡ discrepancy_of m q l bound weight a b u r
unfolding discrepancy_of terms_of term_within
discrepancy_is m q l bound weight a b u r terms n value t e v =
    v
    ∙ ap₂ (λ xs k. coefficient_of m b (entries xs) k u) t (let f : min n 8 ≡ min l 8 = omega arith in f)
    ∙ coefficient_same
    m
    b
    (entries (terms_of m q l bound weight a r))
    (term_of m q bound weight a r)
    (min l 8)
    u
    (λ k h.
    made_at (term_within m q l bound weight a r) 8 k 0 (omega arith)
    ∙ pick_below k (min l 8) (term_of m q bound weight a r k) 0 h)

pub discrepancy_none : (m : Meaning) (q : List (List ℕ)) (l bound weight a b u r : ℕ) → 8 ≤ u → 0 ≡ discrepancy_of m q l bound weight a b u r
unfolding discrepancy_of
discrepancy_none m q l bound weight a b u r h = coefficient_none m b (term_of m q bound weight a r) (min l 8) u h
