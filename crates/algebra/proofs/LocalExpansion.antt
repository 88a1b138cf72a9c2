-- The expansion Q(a + x, b + y) of sums, multiples and products of polynomials in x and y.
use mathlib.Core.Path.{◌≡◌, sym, ◌∙◌, ap, ap₂, fun_ext}
use Prim.Native.Nat.{ℕ, zero, suc, ◌≤◌}
use Prim.Native.Nat
use native.Mathlib.Omega.{arith}
use Rattle.algebra.specs.Ring.{CommRing}
use Rattle.algebra.specs.Series.{Series, tail, constant, x_minus, series}
use Rattle.algebra.proofs.Coefficients.{add_at, neg_at, mul_at_zero, mul_at_suc, constant_mul_at}
use Rattle.algebra.proofs.Linear.{XMulAtZero, XMulAtSuc}
use Rattle.algebra.specs.Degree.{Below}
use Rattle.algebra.specs.Evaluation.{taylor}
use Rattle.algebra.specs.Bivariate.{Bivariate, scale, local_expansion}
use Rattle.algebra.proofs.Degree.{below_constant, below_x_minus}
use Rattle.algebra.proofs.Taylor.{taylor_add, taylor_neg, taylor_mul, taylor_multiple, taylor_constant, taylor_zero, taylor_bound, taylor_x_minus_self}

module _ {K : Type 0} (R : CommRing K) where
  open R use {zero as 𝟘, one as 𝟙, add as ◌+◌, mul as ◌*◌, neg as -◌}
  open series R use {zero as 𝟎, one as 𝟏, add as ◌⊕◌, mul as ◌⊗◌, neg as ⊖◌}
  open series (series R) use {add as ◌⊞◌, mul as ◌⊠◌, neg as ⊟◌}

  infixl 65 ◌+◌
  infixl 70 ◌*◌
  infix 75 -◌
  infixl 65 ◌⊕◌
  infixl 70 ◌⊗◌
  infix 75 ⊖◌
  infixl 65 ◌⊞◌
  infixl 70 ◌⊠◌
  infix 75 ⊟◌
  -- the coefficients of Q expanded at x = a
  abbrev pub expanded : ℕ → Bivariate K → K → Bivariate K
  expanded d Q a c = taylor R d (Q c) a

  expanded_mul : (c d e : ℕ) (P Q : Bivariate K) (a : K)
      → Nat.◌+◌ d e ≤ suc c
      → ((k : ℕ) → Below R d (P k))
      → ((k : ℕ) → Below R e (Q k))
      → (n : ℕ)
      → expanded c (P ⊠ Q) a n ≡ (expanded d P a ⊠ expanded e Q a) n
  expanded_mul c d e P Q a h b b' zero =
      ap (λ f. taylor R c f a) (mul_at_zero (series R) P Q)
      ∙ taylor_mul R c d e (P 0) (Q 0) a h (b 0) (b' 0)
      ∙ sym (mul_at_zero (series R) (expanded d P a) (expanded e Q a))
  expanded_mul c d e P Q a h b b' (suc n) =
      ap (λ f. taylor R c f a) (mul_at_suc (series R) P Q n)
      ∙ taylor_add R c (P 0 ⊗ Q (suc n)) ((tail P ⊠ Q) n) a
      ∙ ap₂
      ◌⊕◌
      (taylor_mul R c d e (P 0) (Q (suc n)) a h (b 0) (b' (suc n)))
      (expanded_mul c d e (tail P) Q a h (λ k. b (suc k)) b' n)
      ∙ sym (mul_at_suc (series R) (expanded d P a) (expanded e Q a) n)

  pub local_add : (d l : ℕ) (P Q : Bivariate K) (a b : K)
      → local_expansion R d l (P ⊞ Q) a b ≡ local_expansion R d l P a b ⊞ local_expansion R d l Q a b
  local_add d l P Q a b =
      ap
      (λ S. taylor (series R) l S (constant R b))
      (fun_ext
      (λ c.
      ap (λ f. taylor R d f a) (add_at (series R) P Q c)
      ∙ taylor_add R d (P c) (Q c) a
      ∙ sym (add_at (series R) (expanded d P a) (expanded d Q a) c)))
      ∙ taylor_add (series R) l (expanded d P a) (expanded d Q a) (constant R b)

  pub local_neg : (d l : ℕ) (Q : Bivariate K) (a b : K)
      → local_expansion R d l (⊟ Q) a b ≡ ⊟ local_expansion R d l Q a b
  local_neg d l Q a b =
      ap
      (λ S. taylor (series R) l S (constant R b))
      (fun_ext
      (λ c.
      ap (λ f. taylor R d f a) (neg_at (series R) Q c)
      ∙ taylor_neg R d (Q c) a
      ∙ sym (neg_at (series R) (expanded d Q a) c)))
      ∙ taylor_neg (series R) l (expanded d Q a) (constant R b)

  -- the expansion of a product is the product of the expansions
  pub local_mul : (c d e k l m : ℕ) (P Q : Bivariate K) (a b : K)
      → Nat.◌+◌ d e ≤ suc c
      → Nat.◌+◌ l m ≤ suc k
      → ((n : ℕ) → Below R d (P n))
      → ((n : ℕ) → Below R e (Q n))
      → Below (series R) l P
      → Below (series R) m Q
      → local_expansion R c k (P ⊠ Q) a b ≡ local_expansion R d l P a b ⊠ local_expansion R e m Q a b
  local_mul c d e k l m P Q a b h h' bP bQ yP yQ =
      ap (λ S. taylor (series R) k S (constant R b)) (fun_ext (expanded_mul c d e P Q a h bP bQ))
      ∙ taylor_mul
      (series R)
      k
      l
      m
      (expanded d P a)
      (expanded e Q a)
      (constant R b)
      h'
      (λ n q. ap (λ f. taylor R d f a) (yP n q) ∙ taylor_zero R d a)
      (λ n q. ap (λ f. taylor R e f a) (yQ n q) ∙ taylor_zero R e a)

  -- the expansion of g(x) · Q
  pub local_scale : (c d e l : ℕ) (g : Series K) (Q : Bivariate K) (a b : K) (u : ℕ)
      → Nat.◌+◌ d e ≤ suc c
      → Below R d g
      → ((n : ℕ) → Below R e (Q n))
      → local_expansion R c l (scale R g Q) a b u ≡ taylor R d g a ⊗ local_expansion R e l Q a b u
  local_scale c d e l g Q a b u h bg bQ =
      ap
      (λ S. taylor (series R) l S (constant R b) u)
      (fun_ext
      (λ n.
      taylor_mul R c d e g (Q n) a h bg (bQ n)
      ∙ sym (constant_mul_at (series R) (taylor R d g a) (expanded e Q a) n)))
      ∙ ap (λ S. S u) (taylor_multiple (series R) l (taylor R d g a) (expanded e Q a) (constant R b))
      ∙ constant_mul_at (series R) (taylor R d g a) (local_expansion R e l Q a b) u

  -- (x − a) · Q has at (r + 1, u) what Q has at (r, u), and nothing at (0, u)
  pub local_x_minus_at_zero : (d l : ℕ) (Q : Bivariate K) (a b : K) (u : ℕ)
      → ((n : ℕ) → Below R d (Q n))
      → local_expansion R (suc d) l (scale R (x_minus R a) Q) a b u 0 ≡ 𝟘
  local_x_minus_at_zero d l Q a b u h =
      ap (λ f. f 0) (local_scale (suc d) 2 d l (x_minus R a) Q a b u (omega arith) (below_x_minus R a) h)
      ∙ ap (λ g. (g ⊗ local_expansion R d l Q a b u) 0) (taylor_x_minus_self R 0 a)
      ∙ XMulAtZero R (local_expansion R d l Q a b u)

  pub local_x_minus_at_suc : (d l : ℕ) (Q : Bivariate K) (a b : K) (u r : ℕ)
      → ((n : ℕ) → Below R d (Q n))
      → local_expansion R (suc d) l (scale R (x_minus R a) Q) a b u (suc r) ≡ local_expansion R d l Q a b u r
  local_x_minus_at_suc d l Q a b u r h =
      ap (λ f. f (suc r)) (local_scale (suc d) 2 d l (x_minus R a) Q a b u (omega arith) (below_x_minus R a) h)
      ∙ ap (λ g. (g ⊗ local_expansion R d l Q a b u) (suc r)) (taylor_x_minus_self R 0 a)
      ∙ XMulAtSuc R (local_expansion R d l Q a b u) r

  -- the expansion of a constant multiple
  pub local_multiple_at : (d l : ℕ) (k : K) (Q : Bivariate K) (a b : K) (u r : ℕ)
      → ((n : ℕ) → Below R d (Q n))
      → local_expansion R d l (scale R (constant R k) Q) a b u r ≡ k * local_expansion R d l Q a b u r
  local_multiple_at d l k Q a b u r h =
      ap (λ f. f r) (local_scale d 1 d l (constant R k) Q a b u (omega arith) (below_constant R k) h)
      ∙ ap (λ g. (g ⊗ local_expansion R d l Q a b u) r) (taylor_constant R 0 k a)
      ∙ constant_mul_at R k (local_expansion R d l Q a b u) r

  -- the expansion of P less a constant multiple of Q
  pub local_sub_multiple_at : (d l : ℕ) (k : K) (P Q : Bivariate K) (a b : K) (u r : ℕ)
      → ((n : ℕ) → Below R d (Q n))
      → local_expansion R d l (P ⊞ ⊟ scale R (constant R k) Q) a b u r
      ≡ local_expansion R d l P a b u r + - (k * local_expansion R d l Q a b u r)
  local_sub_multiple_at d l k P Q a b u r h =
      let S : Bivariate K = scale R (constant R k) Q in
      ap (λ L. L u r) (local_add d l P (⊟ S) a b)
      ∙ ap (λ f. f r) (add_at (series R) (local_expansion R d l P a b) (local_expansion R d l (⊟ S) a b) u)
      ∙ add_at R (local_expansion R d l P a b u) (local_expansion R d l (⊟ S) a b u) r
      ∙ ap
      (λ x. local_expansion R d l P a b u r + x)
      (ap (λ L. L u r) (local_neg d l S a b)
      ∙ ap (λ f. f r) (neg_at (series R) (local_expansion R d l S a b) u)
      ∙ neg_at R (local_expansion R d l S a b u) r
      ∙ ap -◌ (local_multiple_at d l k Q a b u r h))

  -- any bound of the degree in x gives the same expansion
  pub local_bound : (d e l : ℕ) (Q : Bivariate K) (a b : K)
      → ((n : ℕ) → Below R d (Q n))
      → d ≤ e
      → local_expansion R e l Q a b ≡ local_expansion R d l Q a b
  local_bound d e l Q a b h k =
      ap (λ S. taylor (series R) l S (constant R b)) (fun_ext (λ n. taylor_bound R d e (Q n) a (h n) k))

  -- any bound of the degree in y gives the same expansion
  pub local_bound_y : (d k l : ℕ) (Q : Bivariate K) (a b : K)
      → Below (series R) k Q
      → k ≤ l
      → local_expansion R d l Q a b ≡ local_expansion R d k Q a b
  local_bound_y d k l Q a b h t =
      taylor_bound
      (series R)
      k
      l
      (expanded d Q a)
      (constant R b)
      (λ n q. ap (λ f. taylor R d f a) (h n q) ∙ taylor_zero R d a)
      t
