-- How the elements of a lawful finite field and their numbers correspond.
use mathlib.Core.Path.{◌≡◌, refl, sym, ◌∙◌, ap, ap₂}
use Prim.Native.Nat.{ℕ, ◌<◌}
use native.Mathlib.Decide.{dec_lt, ℕ_discrete}
use native.Mathlib.Omega.{arith}
use Rattle.algebra.specs.Operations.{Operations, Lawful}
use Rattle.algebra.specs.Elements.{Elem, elem_path, zero_element, one_element, inverse_element, element_ring, elements, into}

module _ (o : Operations) (law : Lawful o) where
  open element_ring o law use {zero as 𝟘, one as 𝟙, add as ◌+◌, mul as ◌*◌, neg as -◌}

  infixl 65 ◌+◌
  infixl 70 ◌*◌
  infix 75 -◌
  pub number_zero : 𝟘.0 ≡ 0
  unfolding element_ring zero_element
  number_zero = refl

  pub number_one : 𝟙.0 ≡ 1
  unfolding element_ring one_element
  number_one = refl

  pub number_add : (a b : Elem o) → (a + b).0 ≡ o.sum a.0 b.0
  unfolding element_ring
  number_add a b = refl

  pub number_mul : (a b : Elem o) → (a * b).0 ≡ o.product a.0 b.0
  unfolding element_ring
  number_mul a b = refl

  pub number_neg : (a : Elem o) → (- a).0 ≡ o.negative a.0
  unfolding element_ring
  number_neg a = refl

  pub number_inv : (a : Elem o) → (a.0 ≡ 0 → ⊥) → ((elements o law).inv a).0 ≡ o.inverse a.0
  unfolding inverse_element
  number_inv a h = go (ℕ_discrete a.0 0)
    where
      go : (c : Dec (a.0 ≡ 0))
          → (let e : Elem o
          = elim c [ yes e ↦ zero_element o law | no k ↦ (o.inverse a.0, law.inverse_closed a.0 a.1 k) ] in
          e.0)
          ≡ o.inverse a.0
      go (yes e) = absurd (h e)
      go (no k) = refl

  -- the number of the element of a number is that number
  pub number_into : (n : ℕ) → n < o.size → (into o law n).0 ≡ n
  unfolding into
  number_into n h = go (dec_lt n o.size)
    where
      go : (c : Dec (n < o.size))
          → (let e : Elem o = elim c [ yes h ↦ (n, h) | no h ↦ zero_element o law ] in e.0) ≡ n
      go (yes k) = refl
      go (no k) = absurd (k h)

  pub into_number : (a : Elem o) → into o law a.0 ≡ a
  into_number a = elem_path o (into o law a.0) a (number_into a.0 a.1)

  pub into_injective : (m n : ℕ) → m < o.size → n < o.size → into o law m ≡ into o law n → m ≡ n
  into_injective m n h k e =
      sym (number_into m h) ∙ ap (λ (x : Elem o). x.0) e ∙ number_into n k

  pub into_zero : into o law 0 ≡ 𝟘
  into_zero = elem_path o _ _ (number_into 0 (omega (arith, law.two_elements)) ∙ sym number_zero)

  pub into_one : into o law 1 ≡ 𝟙
  into_one = elem_path o _ _ (number_into 1 (omega (arith, law.two_elements)) ∙ sym number_one)

  pub into_sum : (m n : ℕ) → m < o.size → n < o.size → into o law (o.sum m n) ≡ into o law m + into o law n
  into_sum m n h k =
      elem_path
      o
      _
      _
      (number_into (o.sum m n) (law.sum_closed m n h k)
      ∙ sym (ap₂ o.sum (number_into m h) (number_into n k))
      ∙ sym (number_add (into o law m) (into o law n)))

  pub into_product : (m n : ℕ) → m < o.size → n < o.size → into o law (o.product m n) ≡ into o law m * into o law n
  into_product m n h k =
      elem_path
      o
      _
      _
      (number_into (o.product m n) (law.product_closed m n h k)
      ∙ sym (ap₂ o.product (number_into m h) (number_into n k))
      ∙ sym (number_mul (into o law m) (into o law n)))

  pub into_negative : (n : ℕ) → n < o.size → into o law (o.negative n) ≡ - into o law n
  into_negative n h =
      elem_path
      o
      _
      _
      (number_into (o.negative n) (law.negative_closed n h)
      ∙ sym (ap o.negative (number_into n h))
      ∙ sym (number_neg (into o law n)))

  pub into_inverse : (n : ℕ)
      → n < o.size
      → (n ≡ 0 → ⊥)
      → into o law (o.inverse n) ≡ (elements o law).inv (into o law n)
  into_inverse n h k =
      elem_path
      o
      _
      _
      (number_into (o.inverse n) (law.inverse_closed n h k)
      ∙ sym (ap o.inverse (number_into n h))
      ∙ sym (number_inv (into o law n) (λ e. k (sym (number_into n h) ∙ e))))

  pub into_nonzero : (n : ℕ) → n < o.size → (n ≡ 0 → ⊥) → into o law n ≡ 𝟘 → ⊥
  into_nonzero n h k e = k (into_injective n 0 h (omega (arith, law.two_elements)) (e ∙ sym into_zero))
