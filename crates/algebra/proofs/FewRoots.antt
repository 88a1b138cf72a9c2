-- A polynomial in y over the polynomials in x has fewer roots than its bound of the degree in y.
use mathlib.Core.Path.{◌≡◌, ◌∙◌, ap}
use mathlib.Core.List.{List}
use lib.ListN.{length, get_or}
use Prim.Native.Nat.{ℕ, ◌≤◌, ◌<◌}
use native.Mathlib.Omega.{arith}
use native.Mathlib.Decide.{dec_lt}
use Rattle.algebra.specs.Members.{Member, NoRepetition}
use Rattle.algebra.specs.Ring.{CommRing, Field, no_zero_divisors}
use Rattle.algebra.specs.Series.{Series, series}
use Rattle.algebra.proofs.Coefficients.{zero_at}
use Rattle.algebra.specs.Degree.{Below}
use Rattle.algebra.specs.Bivariate.{Bivariate}
use Rattle.algebra.specs.Interpolation.{Separate}
use Rattle.algebra.specs.RootSearch.{Nonzero, Root, Vanish, at_zero, Candidate}
use Rattle.algebra.proofs.Roots.{zero_by_values, series_domain}
use Rattle.algebra.proofs.ListMembers.{member_at, separate_members}

module _ {K : Type 0} (F : Field K) where
  abbrev R : CommRing K
  R = F.ring

  -- distinct roots of Q are fewer than l
  pub few_roots : (l m : ℕ) (Q : Bivariate K) (f : ℕ → Series K)
      → Nonzero R Q
      → Below (series R) l Q
      → Separate m f
      → ((i : ℕ) → i < m → Root R l Q (f i))
      → m < l
  few_roots l m Q f z b s v = go (dec_lt m l)
    where
      go : Dec (m < l) → m < l
      go (yes h) = h
      go (no h) =
          absurd
          (z
          (zero_by_values
          (series R)
          (series_domain F)
          l
          f
          Q
          (λ i j p q. s i j (omega arith) (omega arith))
          b
          (λ i p. v i (omega arith))))

  -- so are the members of a list of roots without repetition
  pub few_roots_list : (l : ℕ) (Q : Bivariate K) (fs : List (Series K))
      → Nonzero R Q
      → Below (series R) l Q
      → NoRepetition fs
      → ((f : Series K) → Member f fs → Root R l Q f)
      → length fs < l
  few_roots_list l Q fs z b o v =
      few_roots
      l
      (length fs)
      Q
      (λ i. get_or fs i (series R).zero)
      z
      b
      (separate_members fs (series R).zero o)
      (λ i h. v (get_or fs i (series R).zero) (member_at fs i (series R).zero h))

  -- a polynomial that x does not divide has fewer than l candidates
  pub few_candidates : (l m : ℕ) (Q : Bivariate K) (γ : ℕ → K)
      → (Vanish R l (at_zero Q) → ⊥)
      → Below (series R) l Q
      → Separate m γ
      → ((i : ℕ) → i < m → Candidate R l Q (γ i))
      → m < l
  few_candidates l m Q γ z b s v = go (dec_lt m l)
    where
      zeros : l ≤ m → at_zero Q ≡ (series R).zero
      zeros h =
          zero_by_values
          R
          (no_zero_divisors F)
          l
          γ
          (at_zero Q)
          (λ i j p q. s i j (omega arith) (omega arith))
          (λ c k. ap (λ f. f 0) (b c k) ∙ zero_at R 0)
          (λ i p. v i (omega arith))

      go : Dec (m < l) → m < l
      go (yes h) = h
      go (no h) = absurd (z (λ c k. ap (λ f. f c) (zeros (omega arith)) ∙ zero_at R c))
