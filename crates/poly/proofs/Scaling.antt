-- Multiplication by an element that is not 0, and back.
use Rattle.std.proofs.Common.{◌≡◌, ℕ, ◌<◌, ap, ◌∙◌}
use Rattle.algebra.specs.Operations.{Operations, Lawful}
use Rattle.algebra.specs.Ring.{CommRing}
use Rattle.algebra.specs.Solver.{ring3, ◌:*◌, ◌:≡◌}
use Rattle.algebra.specs.Elements.{Elem, element_ring, elements, into}
use Rattle.algebra.proofs.Elements.{into_injective, into_nonzero}
use Rattle.field.specs.Meaning.{Meaning, operations, product_of}
use Rattle.poly.specs.Arithmetic.{quotient_of}
use Rattle.poly.proofs.Elementary.{product_element, product_into, quotient_element, quotient_into}

module _ (m : Meaning) (law : Lawful (operations m)) (b : ℕ) (high : b < m.size) (low : b ≡ 0 → ⊥) where
  abbrev o : Operations
  o = operations m

  abbrev R : CommRing (Elem o)
  R = element_ring o law

  -- the element of a number
  abbrev ⌈◌⌉ : ℕ → Elem o
  ⌈ a ⌉ = into o law a

  -- b times the quotient by b
  pub scaled_back : (a : ℕ) → a < m.size → product_of m b (quotient_of m a b) ≡ a
  scaled_back a h =
      into_injective o law _ _ (product_element m law _ _) h
      (product_into m law b (quotient_of m a b) high (quotient_element m law a b)
      ∙ ap (R.mul ⌈ b ⌉) (quotient_into m law a b h high)
      ∙ ring3 R (λ b a v. b :* (a :* v) :≡ (b :* v) :* a) tt ⌈ b ⌉ ⌈ a ⌉ ((elements o law).inv ⌈ b ⌉)
      ∙ ap (λ x. R.mul x ⌈ a ⌉) ((elements o law).inv_law ⌈ b ⌉ (into_nonzero o law b high low))
      ∙ R.one_mul ⌈ a ⌉)

  -- the quotient of a multiple of b by b
  pub back_scaled : (a : ℕ) → a < m.size → quotient_of m (product_of m b a) b ≡ a
  back_scaled a h =
      into_injective o law _ _ (quotient_element m law _ _) h
      (quotient_into m law (product_of m b a) b (product_element m law b a) high
      ∙ ap (λ x. R.mul x ((elements o law).inv ⌈ b ⌉)) (product_into m law b a high h)
      ∙ ring3 R (λ b a v. (b :* a) :* v :≡ (b :* v) :* a) tt ⌈ b ⌉ ⌈ a ⌉ ((elements o law).inv ⌈ b ⌉)
      ∙ ap (λ x. R.mul x ⌈ a ⌉) ((elements o law).inv_law ⌈ b ⌉ (into_nonzero o law b high low))
      ∙ R.one_mul ⌈ a ⌉)
