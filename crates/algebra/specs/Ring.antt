-- Commutative rings and fields over a type, and the first laws that follow.
use Rattle.std.specs.Prelude.{◌≡◌}
use Rattle.std.proofs.Common.{sym, ◌∙◌, ap, ap₂}

-- a commutative ring whose elements form the set K
pub record CommRing (K : Type 0) : Type 0 where
  pub is_set : IsSet K
  pub zero : K
  pub one : K
  pub add : K → K → K
  pub mul : K → K → K
  pub neg : K → K
  pub add_assoc : (a b c : K) → add (add a b) c ≡ add a (add b c)
  pub add_comm : (a b : K) → add a b ≡ add b a
  pub add_zero : (a : K) → add a zero ≡ a
  pub add_neg : (a : K) → add a (neg a) ≡ zero
  pub mul_assoc : (a b c : K) → mul (mul a b) c ≡ mul a (mul b c)
  pub mul_comm : (a b : K) → mul a b ≡ mul b a
  pub one_mul : (a : K) → mul one a ≡ a
  pub mul_add : (a b c : K) → mul a (add b c) ≡ add (mul a b) (mul a c)

-- a field with decidable equality; `inv` is the inverse of each element that is not zero
pub record Field (K : Type 0) : Type 0 where
  pub ring : CommRing K
  pub inv : K → K
  pub inv_law : (a : K) → (a ≡ ring.zero → ⊥) → ring.mul a (inv a) ≡ ring.one
  pub apart : ring.zero ≡ ring.one → ⊥
  pub decide : (a b : K) → Dec (a ≡ b)

-- no two elements other than zero have the product zero
abbrev pub Domain : {K : Type 0} → CommRing K → Type 0
Domain {K} R = (a b : K) → (a ≡ R.zero → ⊥) → R.mul a b ≡ R.zero → b ≡ R.zero

-- the difference a − b
abbrev pub sub : {K : Type 0} → CommRing K → K → K → K
sub R a b = R.add a (R.neg b)

module _ {K : Type 0} (R : CommRing K) where
  open R use {zero as 𝟘, one as 𝟙, add as ◌+◌, mul as ◌*◌, neg as -◌}

  infixl 65 ◌+◌
  infixl 70 ◌*◌
  infix 75 -◌
  pub zero_add : (a : K) → 𝟘 + a ≡ a
  zero_add a = R.add_comm 𝟘 a ∙ R.add_zero a

  pub neg_add_self : (a : K) → - a + a ≡ 𝟘
  neg_add_self a = R.add_comm (- a) a ∙ R.add_neg a

  pub mul_one : (a : K) → a * 𝟙 ≡ a
  mul_one a = R.mul_comm a 𝟙 ∙ R.one_mul a

  pub add_mul : (a b c : K) → (a + b) * c ≡ a * c + b * c
  add_mul a b c = R.mul_comm (a + b) c ∙ R.mul_add c a b ∙ ap₂ ◌+◌ (R.mul_comm c a) (R.mul_comm c b)

  pub add_left_comm : (a b c : K) → a + (b + c) ≡ b + (a + c)
  add_left_comm a b c = sym (R.add_assoc a b c) ∙ ap (λ x. x + c) (R.add_comm a b) ∙ R.add_assoc b a c

  pub mul_left_comm : (a b c : K) → a * (b * c) ≡ b * (a * c)
  mul_left_comm a b c = sym (R.mul_assoc a b c) ∙ ap (λ x. x * c) (R.mul_comm a b) ∙ R.mul_assoc b a c

  pub neg_add_cancel : (a b : K) → - a + (a + b) ≡ b
  neg_add_cancel a b = sym (R.add_assoc (- a) a b) ∙ ap (λ x. x + b) (neg_add_self a) ∙ zero_add b

  pub add_cancel_left : (a b c : K) → a + b ≡ a + c → b ≡ c
  add_cancel_left a b c e = sym (neg_add_cancel a b) ∙ ap (λ x. - a + x) e ∙ neg_add_cancel a c

  -- what sums with a to zero is the negative of a
  pub neg_unique : (a b : K) → a + b ≡ 𝟘 → b ≡ - a
  neg_unique a b e = add_cancel_left a b (- a) (e ∙ sym (R.add_neg a))

  pub mul_zero : (a : K) → a * 𝟘 ≡ 𝟘
  mul_zero a =
      add_cancel_left
      (a * 𝟘)
      (a * 𝟘)
      𝟘
      (sym (R.mul_add a 𝟘 𝟘) ∙ ap (λ x. a * x) (R.add_zero 𝟘) ∙ sym (R.add_zero (a * 𝟘)))

  pub zero_mul : (a : K) → 𝟘 * a ≡ 𝟘
  zero_mul a = R.mul_comm 𝟘 a ∙ mul_zero a

  pub neg_zero : - 𝟘 ≡ 𝟘
  neg_zero = sym (neg_unique 𝟘 𝟘 (R.add_zero 𝟘))

  pub neg_neg : (a : K) → - (- a) ≡ a
  neg_neg a = sym (neg_unique (- a) a (neg_add_self a))

  pub neg_add : (a b : K) → - (a + b) ≡ - a + - b
  neg_add a b =
      sym
      (neg_unique
      (a + b)
      (- a + - b)
      (R.add_assoc a b (- a + - b)
      ∙ ap (λ x. a + x) (add_left_comm b (- a) (- b) ∙ ap (λ x. - a + x) (R.add_neg b) ∙ R.add_zero (- a))
      ∙ R.add_neg a))

  pub mul_neg : (a b : K) → a * - b ≡ - (a * b)
  mul_neg a b = neg_unique (a * b) (a * - b) (sym (R.mul_add a b (- b)) ∙ ap (λ x. a * x) (R.add_neg b) ∙ mul_zero a)

  pub neg_mul : (a b : K) → - a * b ≡ - (a * b)
  neg_mul a b = R.mul_comm (- a) b ∙ mul_neg b a ∙ ap -◌ (R.mul_comm b a)

  -- elements whose difference is zero are equal
  pub eq_of_sub : (a b : K) → a + - b ≡ 𝟘 → a ≡ b
  eq_of_sub a b e =
      sym (neg_neg a) ∙ ap -◌ (sym (neg_unique a (- b) e)) ∙ neg_neg b

  pub sub_of_eq : (a b : K) → a ≡ b → a + - b ≡ 𝟘
  sub_of_eq a b e = ap (λ x. x + - b) e ∙ R.add_neg b

module _ {K : Type 0} (F : Field K) where
  abbrev R : CommRing K
  R = F.ring

  open R use {zero as 𝟘, one as 𝟙, add as ◌+◌, mul as ◌*◌, neg as -◌}

  infixl 65 ◌+◌
  infixl 70 ◌*◌
  infix 75 -◌
  pub inv_mul : (a : K) → (a ≡ 𝟘 → ⊥) → F.inv a * a ≡ 𝟙
  inv_mul a h = R.mul_comm (F.inv a) a ∙ F.inv_law a h

  pub mul_cancel_left : (a b c : K) → (a ≡ 𝟘 → ⊥) → a * b ≡ a * c → b ≡ c
  mul_cancel_left a b c h e = sym (back b) ∙ ap (λ x. F.inv a * x) e ∙ back c
    where
      back : (x : K) → F.inv a * (a * x) ≡ x
      back x = sym (R.mul_assoc (F.inv a) a x) ∙ ap (λ y. y * x) (inv_mul a h) ∙ R.one_mul x

  -- a field has no zero divisors
  pub no_zero_divisors : Domain R
  no_zero_divisors a b h e = mul_cancel_left a b 𝟘 h (e ∙ sym (mul_zero R a))

  pub mul_nonzero : (a b : K) → (a ≡ 𝟘 → ⊥) → (b ≡ 𝟘 → ⊥) → a * b ≡ 𝟘 → ⊥
  mul_nonzero a b h k e = k (no_zero_divisors a b h e)

  pub inv_nonzero : (a : K) → (a ≡ 𝟘 → ⊥) → F.inv a ≡ 𝟘 → ⊥
  inv_nonzero a h e = F.apart (sym (mul_zero R a) ∙ sym (ap (λ x. a * x) e) ∙ F.inv_law a h)

  -- different elements have a difference that is not zero
  pub sub_nonzero : (a b : K) → (a ≡ b → ⊥) → a + - b ≡ 𝟘 → ⊥
  sub_nonzero a b h e = h (eq_of_sub R a b e)
