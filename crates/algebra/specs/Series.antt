-- Power series over a commutative ring: sequences of coefficients, which form a commutative ring again.
use Rattle.std.specs.Prelude.{◌≡◌}
use Rattle.std.proofs.Math.Path.{refl, sym, ap, ap₂, fun_ext}
use Rattle.std.proofs.Common.{◌∙◌}
use mathlib.Core.HLevel.{Π_set}
use Prim.Native.Nat.{ℕ, zero, suc}
use Rattle.algebra.specs.Ring.{CommRing, zero_mul, sub}
use Rattle.algebra.specs.Solver.{ring3, ring4, ring5, ◌:+◌, ◌:*◌, ◌:≡◌}

-- a power series, by its coefficients
abbrev pub Series : Type 0 → Type 0
Series K = ℕ → K

-- the series without its first coefficient, one place down
abbrev pub tail : {K : Type 0} → Series K → Series K
tail f n = f (suc n)

module _ {K : Type 0} (R : CommRing K) where
  open R use {zero as 𝟘, one as 𝟙, add as ◌+◌, mul as ◌*◌, neg as -◌}

  infixl 65 ◌+◌
  infixl 70 ◌*◌
  infix 75 -◌
  -- the constant series a
  unfoldable pub constant : K → Series K
  constant a zero = a
  constant a (suc n) = 𝟘

  -- x times the series
  unfoldable pub shift : Series K → Series K
  shift f zero = 𝟘
  shift f (suc n) = f n

  -- the sum, coefficient by coefficient
  unfoldable pub sum_of : Series K → Series K → Series K
  sum_of f g n = f n + g n

  -- the negative, coefficient by coefficient
  unfoldable pub negative_of : Series K → Series K
  negative_of f n = - f n

  -- the multiple by an element, coefficient by coefficient
  unfoldable pub multiple_of : K → Series K → Series K
  multiple_of a f n = a * f n

  -- the product: the coefficient at n is the sum of f i * g j over i + j ≡ n
  unfoldable pub product_of : Series K → Series K → Series K
  product_of f g zero = f 0 * g 0
  product_of f g (suc n) = f 0 * g (suc n) + product_of (tail f) g n

  product_zero : (f : Series K) (n : ℕ) → product_of (λ _. 𝟘) f n ≡ 𝟘
  unfolding product_of
  product_zero f zero = zero_mul R (f 0)
  product_zero f (suc n) = ap₂ ◌+◌ (zero_mul R (f (suc n))) (product_zero f n) ∙ R.add_zero 𝟘

  pub product_one : (f : Series K) (n : ℕ) → product_of (constant 𝟙) f n ≡ f n
  unfolding product_of constant
  product_one f zero = R.one_mul (f 0)
  product_one f (suc n) = ap₂ ◌+◌ (R.one_mul (f (suc n))) (product_zero f n) ∙ R.add_zero (f (suc n))

  product_sum : (f g h : Series K) (n : ℕ)
      → product_of (sum_of f g) h n ≡ product_of f h n + product_of g h n
  unfolding product_of sum_of
  product_sum f g h zero = ring3 R (λ a b c. (a :+ b) :* c :≡ a :* c :+ b :* c) tt _ _ _
  product_sum f g h (suc n) =
      ap (λ x. (f 0 + g 0) * h (suc n) + x) (product_sum (tail f) (tail g) h n)
      ∙ ring5 R (λ a b c p q. (a :+ b) :* c :+ (p :+ q) :≡ (a :* c :+ p) :+ (b :* c :+ q)) tt _ _ _ _ _

  product_multiple : (a : K) (f g : Series K) (n : ℕ) → product_of (multiple_of a f) g n ≡ a * product_of f g n
  unfolding product_of multiple_of
  product_multiple a f g zero = R.mul_assoc a (f 0) (g 0)
  product_multiple a f g (suc n) =
      ap (λ x. a * f 0 * g (suc n) + x) (product_multiple a (tail f) g n)
      ∙ ring4 R (λ a b c p. a :* b :* c :+ a :* p :≡ a :* (b :* c :+ p)) tt _ _ _ _

  -- the product by recursion on its second factor
  product_last : (f g : Series K) (n : ℕ)
      → product_of f g (suc n) ≡ product_of f (tail g) n + f (suc n) * g 0
  unfolding product_of
  product_last f g zero = refl
  product_last f g (suc n) =
      ap (λ x. f 0 * g (suc (suc n)) + x) (product_last (tail f) g n) ∙ sym (R.add_assoc _ _ _)

  pub product_comm : (f g : Series K) (n : ℕ) → product_of f g n ≡ product_of g f n
  unfolding product_of
  product_comm f g zero = R.mul_comm (f 0) (g 0)
  product_comm f g (suc n) =
      ap (λ x. f 0 * g (suc n) + x) (product_comm (tail f) g n)
      ∙ ring3 R (λ a b p. a :* b :+ p :≡ p :+ b :* a) tt _ _ _
      ∙ sym (product_last g f n)

  pub product_assoc : (f g h : Series K) (n : ℕ)
      → product_of (product_of f g) h n ≡ product_of f (product_of g h) n
  unfolding product_of sum_of multiple_of
  product_assoc f g h zero = R.mul_assoc (f 0) (g 0) (h 0)
  product_assoc f g h (suc n) =
      ap
      (λ x. f 0 * g 0 * h (suc n) + x)
      (product_sum (multiple_of (f 0) (tail g)) (product_of (tail f) g) h n
      ∙ ap₂ ◌+◌ (product_multiple (f 0) (tail g) h n) (product_assoc (tail f) g h n))
      ∙ ring5
      R
      (λ a b c p q. a :* b :* c :+ (a :* p :+ q) :≡ a :* (b :* c :+ p) :+ q)
      tt
      (f 0)
      (g 0)
      (h (suc n))
      (product_of (tail g) h n)
      (product_of (tail f) (product_of g h) n)

  pub product_distributes : (f g h : Series K) (n : ℕ)
      → product_of f (sum_of g h) n ≡ product_of f g n + product_of f h n
  product_distributes f g h n =
      product_comm f (sum_of g h) n
      ∙ product_sum g h f n
      ∙ ap₂ ◌+◌ (product_comm g f n) (product_comm h f n)

  -- the power series over a ring, as a ring
  unfoldable pub series : CommRing (Series K)
  unfolding sum_of negative_of product_of constant
  series =
      record {
        is_set = Π_set (λ _. R.is_set);
        zero = λ _. 𝟘;
        one = constant 𝟙;
        add = sum_of;
        mul = product_of;
        neg = negative_of;
        add_assoc = λ f g h. fun_ext (λ n. R.add_assoc (f n) (g n) (h n));
        add_comm = λ f g. fun_ext (λ n. R.add_comm (f n) (g n));
        add_zero = λ f. fun_ext (λ n. R.add_zero (f n));
        add_neg = λ f. fun_ext (λ n. R.add_neg (f n));
        mul_assoc = λ f g h. fun_ext (product_assoc f g h);
        mul_comm = λ f g. fun_ext (product_comm f g);
        one_mul = λ f. fun_ext (product_one f);
        mul_add = λ f g h. fun_ext (product_distributes f g h);
      }

  -- the indeterminate x
  unfoldable pub X : Series K
  X = shift (constant 𝟙)

  -- the polynomial x − a
  abbrev pub x_minus : K → Series K
  x_minus a = sub series X (constant a)

  -- the polynomial a + x
  abbrev pub plus_x : K → Series K
  plus_x a = series.add (constant a) X
