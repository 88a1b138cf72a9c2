-- The total operations on numbers are those of the field on its elements, and their results are elements.
use Rattle.std.proofs.Common.{◌≡◌, ℕ, ◌<◌, Bool, true, false, cond, ◌&&◌, ltb, ◌⊎◌, sym, ap, ◌∙◌, subst, inl, inr, arith}
use Rattle.std.proofs.lemmas.Bool.{cases_Bool, cond-true, cond-false, lt-ltb, ltb-true, and_from, and_parts}
use Rattle.algebra.specs.Operations.{Lawful}
use Rattle.algebra.specs.Elements.{element_ring, into}
use Rattle.algebra.proofs.Elements.{into_sum, into_product, into_negative}
use Rattle.field.specs.Meaning.{Meaning, operations, sum_of, negative_of, product_of}

module _ (m : Meaning) (law : Lawful (operations m)) where
  open element_ring (operations m) law use {zero as 𝟘, one as 𝟙, add as ◌+◌, mul as ◌*◌, neg as -◌}

  infixl 65 ◌+◌
  infixl 70 ◌*◌
  infix 75 -◌
  pub zero_element : 0 < m.size
  zero_element = let h = law.two_elements in omega arith

  both : (a b : ℕ) → a < m.size → b < m.size → (ltb a m.size && ltb b m.size) ≡ true
  both a b h k = and_from (ltb a m.size) (ltb b m.size) (lt-ltb a m.size h) (lt-ltb b m.size k)

  -- a choice between an element and 0 is an element
  chosen : (t : Bool) (x : ℕ) → (t ≡ true → x < m.size) → cond t x 0 < m.size
  chosen t x h = go (cases_Bool t)
    where
      go : (t ≡ true) ⊎ (t ≡ false) → cond t x 0 < m.size
      go (inl e) = subst (λ (y : ℕ). y < m.size) (sym (cond-true t x 0 e)) (h e)
      go (inr e) = subst (λ (y : ℕ). y < m.size) (sym (cond-false t x 0 e)) zero_element

  pub sum_element : (a b : ℕ) → sum_of m a b < m.size
  sum_element a b =
      chosen
      (ltb a m.size && ltb b m.size)
      (m.sum a b)
      (λ e.
      let p = and_parts (ltb a m.size) (ltb b m.size) e in
      law.sum_closed a b (ltb-true a m.size p.0) (ltb-true b m.size p.1))

  pub product_element : (a b : ℕ) → product_of m a b < m.size
  product_element a b =
      chosen
      (ltb a m.size && ltb b m.size)
      (m.product a b)
      (λ e.
      let p = and_parts (ltb a m.size) (ltb b m.size) e in
      law.product_closed a b (ltb-true a m.size p.0) (ltb-true b m.size p.1))

  pub negative_element : (a : ℕ) → negative_of m a < m.size
  negative_element a = chosen (ltb a m.size) (m.negative a) (λ e. law.negative_closed a (ltb-true a m.size e))

  pub into_sum_of : (a b : ℕ)
      → a < m.size
      → b < m.size
      → into (operations m) law (sum_of m a b) ≡ into (operations m) law a + into (operations m) law b
  into_sum_of a b h k =
      ap (into (operations m) law) (cond-true (ltb a m.size && ltb b m.size) (m.sum a b) 0 (both a b h k))
      ∙ into_sum (operations m) law a b h k

  pub into_product_of : (a b : ℕ)
      → a < m.size
      → b < m.size
      → into (operations m) law (product_of m a b) ≡ into (operations m) law a * into (operations m) law b
  into_product_of a b h k =
      ap (into (operations m) law) (cond-true (ltb a m.size && ltb b m.size) (m.product a b) 0 (both a b h k))
      ∙ into_product (operations m) law a b h k

  pub into_negative_of : (a : ℕ) → a < m.size → into (operations m) law (negative_of m a) ≡ - into (operations m) law a
  into_negative_of a h =
      ap (into (operations m) law) (cond-true (ltb a m.size) (m.negative a) 0 (lt-ltb a m.size h))
      ∙ into_negative (operations m) law a h

  -- the step of Horner's rule, and of a sum of a row and a multiple of another
  pub into_multiple : (t k s : ℕ)
      → t < m.size
      → k < m.size
      → s < m.size
      → into (operations m) law (sum_of m t (product_of m k s))
      ≡ into (operations m) law t + into (operations m) law k * into (operations m) law s
  into_multiple t k s p q r =
      into_sum_of t (product_of m k s) p (product_element k s) ∙ ap (λ x. into (operations m) law t + x) (into_product_of k s q r)
