-- The numbers below the size of a lawful finite field, as a field in the sense of algebra.
use Rattle.std.proofs.Math.Path.{◌≡◌, ap}
use mathlib.Core.HLevel.{Σ_prop_path, Σ_prop_discrete, hedberg}
use Prim.Native.Nat.{ℕ, ◌<◌}
use Rattle.std.proofs.Math.Bridge.{le_prop}
use Rattle.std.proofs.Math.Decide.{dec_lt, ℕ_discrete}
use native.Mathlib.Omega.{arith}
use Rattle.algebra.specs.Operations.{Operations, Lawful}
use Rattle.algebra.specs.Ring.{CommRing, Field}

-- an element: a number below the size
abbrev pub Elem : Operations → Type 0
Elem o = (n : ℕ) × (n < o.size)

-- elements with the same number are the same
pub elem_path : (o : Operations) (a b : Elem o) → a.0 ≡ b.0 → a ≡ b
elem_path o a b e = Σ_prop_path {B = λ (n : ℕ). n < o.size} (λ n. le_prop) {u = a} {v = b} e

-- equality of elements is decidable
pub elem_decide : (o : Operations) (a b : Elem o) → Dec (a ≡ b)
elem_decide o = Σ_prop_discrete {B = λ (n : ℕ). n < o.size} (λ n. le_prop) ℕ_discrete

module _ (o : Operations) (law : Lawful o) where
  -- the element zero
  unfoldable pub zero_element : Elem o
  zero_element = (0, omega (arith, law.two_elements))

  -- the element one
  unfoldable pub one_element : Elem o
  one_element = (1, omega (arith, law.two_elements))

  -- the inverse of an element, zero for zero
  unfoldable pub inverse_element : Elem o → Elem o
  inverse_element a =
      elim (ℕ_discrete a.0 0) [ yes e ↦ zero_element | no h ↦ (o.inverse a.0, law.inverse_closed a.0 a.1 h) ]

  -- the numbers below the size, as a commutative ring
  unfoldable pub element_ring : CommRing (Elem o)
  unfolding zero_element one_element
  element_ring =
      record {
        is_set = hedberg (elem_decide o);
        zero = zero_element;
        one = one_element;
        add = λ a b. (o.sum a.0 b.0, law.sum_closed a.0 b.0 a.1 b.1);
        mul = λ a b. (o.product a.0 b.0, law.product_closed a.0 b.0 a.1 b.1);
        neg = λ a. (o.negative a.0, law.negative_closed a.0 a.1);
        add_assoc = λ a b c. elem_path o _ _ (law.sum_associates a.0 b.0 c.0 a.1 b.1 c.1);
        add_comm = λ a b. elem_path o _ _ (law.sum_commutes a.0 b.0 a.1 b.1);
        add_zero = λ a. elem_path o _ _ (law.sum_zero a.0 a.1);
        add_neg = λ a. elem_path o _ _ (law.sum_negative a.0 a.1);
        mul_assoc = λ a b c. elem_path o _ _ (law.product_associates a.0 b.0 c.0 a.1 b.1 c.1);
        mul_comm = λ a b. elem_path o _ _ (law.product_commutes a.0 b.0 a.1 b.1);
        one_mul = λ a. elem_path o _ _ (law.product_one a.0 a.1);
        mul_add = λ a b c. elem_path o _ _ (law.product_distributes a.0 b.0 c.0 a.1 b.1 c.1);
      }

  pub inverse_right : (a : Elem o) → (a ≡ element_ring.zero → ⊥) → element_ring.mul a (inverse_element a) ≡ element_ring.one
  unfolding element_ring zero_element one_element inverse_element
  inverse_right a h = elem_path o _ _ (go (ℕ_discrete a.0 0))
    where
      go : (c : Dec (a.0 ≡ 0))
          → o.product
          a.0
          (let e : Elem o = elim c [ yes e ↦ zero_element | no k ↦ (o.inverse a.0, law.inverse_closed a.0 a.1 k) ] in e.0)
          ≡ 1
      go (yes e) = absurd (h (elem_path o a zero_element e))
      go (no k) = law.product_inverse a.0 a.1 k

  pub zero_apart_one : element_ring.zero ≡ element_ring.one → ⊥
  unfolding element_ring zero_element one_element
  zero_apart_one e = let p : ◌≡◌ {A = ℕ} 0 1 = ap (λ (x : Elem o). x.0) e in omega arith

  -- the numbers below the size, as a field
  abbrev pub elements : Field (Elem o)
  elements =
      record {
        ring = element_ring;
        inv = inverse_element;
        inv_law = inverse_right;
        apart = zero_apart_one;
        decide = elem_decide o;
      }

  -- the element of a number, zero past the size
  unfoldable pub into : ℕ → Elem o
  into n = elim (dec_lt n o.size) [ yes h ↦ (n, h) | no h ↦ zero_element ]
