-- The operations on numbers are those of the field of elements.
use Rattle.std.proofs.Common.{◌≡◌, ℕ, zero, suc, ◌<◌, ◌&&◌, ltb, List, [], ◌∷◌, length, get_or, Some, None, Option, sym, refl, ap, ◌∙◌, subst, ⊎_elim, arith}
use native.Mathlib.Decide.{ℕ_discrete}
use Rattle.std.proofs.lemmas.List.{get_or_past}
use Rattle.std.proofs.lemmas.Bool.{cases_eq, cases_lt, and_from, and_left, and_parts, cond-true, cond-false, cond_both, lt-ltb, le-ltb, ltb-true}
use Rattle.algebra.specs.Operations.{Operations, Lawful}
use Rattle.algebra.specs.Ring.{sub, mul_zero}
use Rattle.algebra.specs.Elements.{Elem, zero_element, inverse_element, element_ring, elements, into}
use Rattle.algebra.specs.Series.{Series}
use Rattle.algebra.specs.Evaluation.{eval}
use Rattle.algebra.proofs.Elements.{into_sum, into_product, into_negative, into_inverse, into_zero, number_into}
use Rattle.field.specs.Meaning.{Meaning, operations, sum_of, negative_of, product_of, inverse_of}
use Rattle.poly.specs.Arithmetic.{difference_of, times_inverse, quotient_of}
use Rattle.poly.specs.Polynomials.{Elements, value_of}

-- in a list of elements that counts as followed by zeros every member is an element
pub everywhere : (m : Meaning) → 0 < m.size → (xs : List ℕ) → Elements m xs → (i : ℕ) → get_or xs i 0 < m.size
everywhere m p xs h i = ⊎_elim (h i) (λ l. subst (λ x. x < m.size) (sym (get_or_past xs i 0 l)) p) (cases_lt i (length xs))

module _ (m : Meaning) (law : Lawful (operations m)) where
  abbrev o : Operations
  o = operations m

  open element_ring o law use {zero as 𝟘, one as 𝟙, add as ◌⊕◌, mul as ◌⊗◌, neg as ⊖◌}

  infixl 65 ◌⊕◌
  infixl 70 ◌⊗◌
  infix 75 ⊖◌
  -- the element of a number
  abbrev pub ⌈◌⌉ : ℕ → Elem o
  ⌈ a ⌉ = into o law a

  -- the inverse of an element, zero for zero
  abbrev inv : Elem o → Elem o
  inv = (elements o law).inv

  pub zero_is : 0 < m.size
  zero_is = omega (arith, law.two_elements)

  pub sum_element : (a b : ℕ) → sum_of m a b < m.size
  sum_element a b =
      cond_both (ltb a m.size && ltb b m.size) (m.sum a b) 0 (λ x. x < m.size)
      (λ e. let p = and_parts (ltb a m.size) (ltb b m.size) e in law.sum_closed a b (ltb-true a m.size p.0) (ltb-true b m.size p.1))
      (λ e. zero_is)

  pub product_element : (a b : ℕ) → product_of m a b < m.size
  product_element a b =
      cond_both (ltb a m.size && ltb b m.size) (m.product a b) 0 (λ x. x < m.size)
      (λ e. let p = and_parts (ltb a m.size) (ltb b m.size) e in law.product_closed a b (ltb-true a m.size p.0) (ltb-true b m.size p.1))
      (λ e. zero_is)

  negative_element : (a : ℕ) → negative_of m a < m.size
  negative_element a = cond_both (ltb a m.size) (m.negative a) 0 (λ x. x < m.size) (λ e. law.negative_closed a (ltb-true a m.size e)) (λ e. zero_is)

  pub sum_into : (a b : ℕ) → a < m.size → b < m.size → ⌈ sum_of m a b ⌉ ≡ ⌈ a ⌉ ⊕ ⌈ b ⌉
  sum_into a b h k =
      ap ⌈◌⌉ (cond-true (ltb a m.size && ltb b m.size) (m.sum a b) 0 (and_from _ _ (lt-ltb a m.size h) (lt-ltb b m.size k))) ∙ into_sum o law a b h k

  pub product_into : (a b : ℕ) → a < m.size → b < m.size → ⌈ product_of m a b ⌉ ≡ ⌈ a ⌉ ⊗ ⌈ b ⌉
  product_into a b h k =
      ap ⌈◌⌉ (cond-true (ltb a m.size && ltb b m.size) (m.product a b) 0 (and_from _ _ (lt-ltb a m.size h) (lt-ltb b m.size k))) ∙ into_product o law a b h k

  negative_into : (a : ℕ) → a < m.size → ⌈ negative_of m a ⌉ ≡ ⊖ ⌈ a ⌉
  negative_into a h = ap ⌈◌⌉ (cond-true (ltb a m.size) (m.negative a) 0 (lt-ltb a m.size h)) ∙ into_negative o law a h

  pub difference_element : (a b : ℕ) → difference_of m a b < m.size
  difference_element a b = sum_element a (negative_of m b)

  pub difference_into : (a b : ℕ) → a < m.size → b < m.size → ⌈ difference_of m a b ⌉ ≡ sub (element_ring o law) ⌈ a ⌉ ⌈ b ⌉
  difference_into a b h k = sum_into a (negative_of m b) h (negative_element b) ∙ ap (λ x. ⌈ a ⌉ ⊕ x) (negative_into b k)

  times_element : (a : ℕ) (b : Option ℕ) → times_inverse m a b < m.size
  times_element a None = zero_is
  times_element a (Some b) = product_element a b

  pub quotient_element : (a b : ℕ) → quotient_of m a b < m.size
  quotient_element a b = times_element a (inverse_of m b)

  inverse_zero : (a : Elem o) → a.0 ≡ 0 → inv a ≡ 𝟘
  unfolding inverse_element element_ring
  inverse_zero a h = go (ℕ_discrete a.0 0)
    where
      go : (c : Dec (a.0 ≡ 0)) → elim c [ yes e ↦ zero_element o law | no k ↦ (o.inverse a.0, law.inverse_closed a.0 a.1 k) ] ≡ zero_element o law
      go (yes e) = refl
      go (no k) = absurd (k h)

  quotient_zero : (a b : ℕ) → b ≡ 0 → quotient_of m a b ≡ 0
  quotient_zero a b e = ap (times_inverse m a) (cond-false (ltb 0 b && ltb b m.size) (Some (m.inverse b)) None (and_left _ _ (le-ltb 0 b (omega arith))))

  -- a quotient by what is not zero
  pub quotient_is : (a b : ℕ) → b < m.size → (b ≡ 0 → ⊥) → quotient_of m a b ≡ product_of m a (m.inverse b)
  quotient_is a b h k = ap (times_inverse m a) (cond-true (ltb 0 b && ltb b m.size) (Some (m.inverse b)) None (and_from _ _ (lt-ltb 0 b (let p : 0 < b = positive b k in p)) (lt-ltb b m.size h)))
    where
      positive : (x : ℕ) → (x ≡ 0 → ⊥) → 0 < x
      positive zero n = absurd (n refl)
      positive (suc x) n = omega arith

  pub quotient_into : (a b : ℕ) → a < m.size → b < m.size → ⌈ quotient_of m a b ⌉ ≡ ⌈ a ⌉ ⊗ inv ⌈ b ⌉
  quotient_into a b h k = ⊎_elim
      (λ e. ap ⌈◌⌉ (quotient_zero a b e) ∙ into_zero o law ∙ sym (ap (λ x. ⌈ a ⌉ ⊗ x) (inverse_zero ⌈ b ⌉ (number_into o law b k ∙ e)) ∙ mul_zero (element_ring o law) ⌈ a ⌉))
      (λ ne. ap ⌈◌⌉ (quotient_is a b k ne) ∙ product_into a (m.inverse b) h (law.inverse_closed b k ne) ∙ ap (λ x. ⌈ a ⌉ ⊗ x) (into_inverse o law b k ne))
      (cases_eq b 0)

  -- the polynomial with the coefficients of the list
  abbrev pub polynomial : List ℕ → Series (Elem o)
  polynomial cs n = ⌈ get_or cs n 0 ⌉

  pub value_element : (cs : List ℕ) (a : ℕ) → value_of m cs a < m.size
  unfolding value_of
  value_element [] a = zero_is
  value_element (c ∷ cs) a = sum_element c (product_of m a (value_of m cs a))

  pub value_into : (cs : List ℕ) (a : ℕ) → ((i : ℕ) → get_or cs i 0 < m.size) → a < m.size → ⌈ value_of m cs a ⌉ ≡ eval (element_ring o law) (length cs) (polynomial cs) ⌈ a ⌉
  unfolding value_of
  value_into [] a h k = into_zero o law
  value_into (c ∷ cs) a h k =
      sum_into c (product_of m a (value_of m cs a)) (h 0) (product_element a (value_of m cs a))
      ∙ ap (λ x. ⌈ c ⌉ ⊕ x) (product_into a (value_of m cs a) k (value_element cs a) ∙ ap (λ x. ⌈ a ⌉ ⊗ x) (value_into cs a (λ i. h (suc i)) k))
