-- A polynomial over a domain has fewer roots than its degree bound; power series over a field are a domain.
use mathlib.Core.Path.{◌≡◌, sym, ◌∙◌, ap, fun_ext}
use Prim.Native.Nat.{ℕ, zero, suc, ◌<◌}
use Prim.Native.Nat
use native.Mathlib.Omega.{arith}
use native.Mathlib.Decide.{ℕ_discrete}
use Rattle.algebra.specs.Ring.{CommRing, Field, Domain, mul_zero, eq_of_sub, sub_of_eq, no_zero_divisors}
use Rattle.algebra.specs.Series.{Series, tail, x_minus, series}
use Rattle.algebra.proofs.Coefficients.{zero_at}
use Rattle.algebra.specs.Degree.{Below, Divisible}
use Rattle.algebra.specs.Evaluation.{eval, quotient}
use Rattle.algebra.specs.Interpolation.{Separate}
use Rattle.algebra.proofs.Degree.{zero_of_below, below_sub}
use Rattle.algebra.proofs.Divisibility.{mul_at_starts}
use Rattle.algebra.proofs.Evaluation.{eval_add, eval_neg, eval_x_minus_mul}
use Rattle.algebra.proofs.Quotient.{below_quotient, factor}

module _ {K : Type 0} where
  pub separate_tail : (m : ℕ) (α : ℕ → K) → Separate (suc m) α → Separate m (tail α)
  separate_tail m α s i j h k e =
      let p : suc i ≡ suc j = s (suc i) (suc j) (omega arith) (omega arith) e in omega arith

  -- a later member differs from the first
  pub separate_first : (m : ℕ) (α : ℕ → K) → Separate (suc m) α → (i : ℕ) → i < m → α (suc i) ≡ α 0 → ⊥
  separate_first m α s i h e = let p : suc i ≡ 0 = s (suc i) 0 (omega arith) (omega arith) e in omega arith

module _ {K : Type 0} (R : CommRing K) (domain : Domain R) where
  open R use {zero as 𝟘, one as 𝟙, add as ◌+◌, mul as ◌*◌, neg as -◌}
  open series R use {zero as 𝟎, one as 𝟏, add as ◌⊕◌, mul as ◌⊗◌, neg as ⊖◌}

  infixl 65 ◌+◌
  infixl 70 ◌*◌
  infix 75 -◌
  infixl 65 ◌⊕◌
  infixl 70 ◌⊗◌
  infix 75 ⊖◌
  -- a polynomial of degree below m with m roots is zero
  pub zero_by_values : (m : ℕ) (α : ℕ → K) (f : Series K)
      → Separate m α
      → Below R m f
      → ((i : ℕ) → i < m → eval R m f (α i) ≡ 𝟘)
      → f ≡ 𝟎
  zero_by_values zero α f s b v = zero_of_below R f b
  zero_by_values (suc m) α f s b v =
      let g : Series K = quotient R (suc m) f (α 0) in
      let c : Below R m g = below_quotient R m f (α 0) in
      let e : f ≡ x_minus R (α 0) ⊗ g = factor R (suc m) f (α 0) b (v 0 (omega arith)) in
      e
      ∙ ap
      (λ h. x_minus R (α 0) ⊗ h)
      (zero_by_values
      m
      (tail α)
      g
      (separate_tail m α s)
      c
      (λ i h.
      domain
      (α (suc i) + - α 0)
      (eval R m g (α (suc i)))
      (λ z. separate_first m α s i h (eq_of_sub R (α (suc i)) (α 0) z))
      (sym (ap (λ k. eval R (suc m) k (α (suc i))) e ∙ eval_x_minus_mul R m (α 0) g (α (suc i)) c)
      ∙ v (suc i) (omega arith))))
      ∙ mul_zero (series R) (x_minus R (α 0))

  -- polynomials of degree below m that agree at m points are equal
  pub equal_by_values : (m : ℕ) (α : ℕ → K) (f g : Series K)
      → Separate m α
      → Below R m f
      → Below R m g
      → ((i : ℕ) → i < m → eval R m f (α i) ≡ eval R m g (α i))
      → f ≡ g
  equal_by_values m α f g s b c v =
      eq_of_sub
      (series R)
      f
      g
      (zero_by_values
      m
      α
      (f ⊕ ⊖ g)
      s
      (below_sub R b c)
      (λ i h.
      eval_add R m f (⊖ g) (α i)
      ∙ ap (λ x. eval R m f (α i) + x) (eval_neg R m g (α i))
      ∙ sub_of_eq R _ _ (v i h)))

module _ {K : Type 0} (F : Field K) where
  abbrev R : CommRing K
  R = F.ring

  open R use {zero as 𝟘, one as 𝟙, add as ◌+◌, mul as ◌*◌, neg as -◌}
  open series R use {zero as 𝟎, mul as ◌⊗◌}

  infixl 70 ◌*◌
  infixl 70 ◌⊗◌
  -- a series with a coefficient that is not zero has a first one
  pub first_nonzero : (n : ℕ) (f : Series K)
      → (f n ≡ 𝟘 → ⊥)
      → (m : ℕ) × Divisible R m f × (f m ≡ 𝟘 → ⊥)
  first_nonzero zero f h = (0, λ k l. absurd (omega arith), h)
  first_nonzero (suc n) f h = go (F.decide (f 0) 𝟘) (first_nonzero n (tail f) h)
    where
      below : (m : ℕ) → f 0 ≡ 𝟘 → Divisible R m (tail f) → Divisible R (suc m) f
      below m e v zero l = e
      below m e v (suc k) l = v k (omega arith)

      go : Dec (f 0 ≡ 𝟘)
          → (m : ℕ) × Divisible R m (tail f) × (tail f m ≡ 𝟘 → ⊥)
          → (m : ℕ) × Divisible R m f × (f m ≡ 𝟘 → ⊥)
      go (no k) q = (0, λ k l. absurd (omega arith), k)
      go (yes e) q = (suc q.0, below q.0 e q.1, q.2)

  -- what a series with a first coefficient takes to zero is zero
  cancelled : (f g : Series K) (m : ℕ)
      → Divisible R m g
      → (g m ≡ 𝟘 → ⊥)
      → f ⊗ g ≡ 𝟎
      → (k : ℕ)
      → Divisible R k f
  cancelled f g m v h e zero n l = absurd (omega arith)
  cancelled f g m v h e (suc k) n l = last (cancelled f g m v h e k) (ℕ_discrete n k)
    where
      last : Divisible R k f → Dec (n ≡ k) → f n ≡ 𝟘
      last w (no q) = w n (omega arith)
      last w (yes q) =
          ap f q
          ∙ no_zero_divisors
          F
          (g m)
          (f k)
          h
          (R.mul_comm (g m) (f k)
          ∙ sym (mul_at_starts R k m f g w v)
          ∙ ap (λ s. s (Nat.◌+◌ k m)) e
          ∙ zero_at R (Nat.◌+◌ k m))

  -- power series over a field have no zero divisors
  pub series_domain : Domain (series R)
  series_domain f g h e = fun_ext (λ n. at n (F.decide (g n) 𝟘) ∙ sym (zero_at R n))
    where
      at : (n : ℕ) → Dec (g n ≡ 𝟘) → g n ≡ 𝟘
      at n (yes p) = p
      at n (no p) =
          let q = first_nonzero n g p in
          absurd
          (h
          (fun_ext
          (λ k. cancelled f g q.0 q.1 q.2 e (suc k) k (omega arith) ∙ sym (zero_at R k))))
