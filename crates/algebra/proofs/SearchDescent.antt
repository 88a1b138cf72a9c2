-- What the search knows of its polynomial at each level.
use lib.ListN.{length}
use Prim.Native.Nat.{ℕ, suc, ◌<◌}
use Rattle.algebra.specs.Ring.{CommRing, Field}
use Rattle.algebra.specs.Series.{series}
use Rattle.algebra.specs.Degree.{Below}
use Rattle.algebra.specs.Bivariate.{Bivariate, Weighted}
use Rattle.algebra.specs.RootSearch.{Nonzero, strip, next}
use Rattle.algebra.specs.RootList.{Enumerates, search}
use Rattle.algebra.proofs.RootSteps.{weighted_next, below_next, nonzero_next}
use Rattle.algebra.proofs.Strip.{weighted_strip, below_strip_y, nonzero_strip}
use Rattle.algebra.proofs.SearchLevels.{search_lists, few_listed}

module _ {K : Type 0} (F : Field K) where
  abbrev R : CommRing K
  R = F.ring

  -- Q is not zero, of degree below l in y and of weighted degree below D where y weighs s
  abbrev pub Level : ℕ → ℕ → ℕ → Bivariate K → Type 0
  Level l D s Q = Weighted R s D Q × Below (series R) l Q × Nonzero R Q

  -- division by x stays on the level
  pub level_strip : (l n D s : ℕ) (Q : Bivariate K) → Level l D s Q → Level l D s (strip F l n Q)
  level_strip l n D s Q q =
      (weighted_strip F l n s D Q q.0, below_strip_y F l n Q q.1, nonzero_strip F l n Q q.1 q.2)

  -- the choice of a coefficient goes one level down
  pub level_next : (l D s : ℕ) (Q : Bivariate K) (γ : K) → Level l D (suc s) Q → Level l D s (next R l Q γ)
  level_next l D s Q γ q =
      (weighted_next R l s D Q γ q.0, below_next R l Q γ, nonzero_next R l Q γ q.1 q.2)

  -- on each level fewer than l words are found
  pub few_found : (ε : ℕ → K) (q l D s : ℕ) (Q : Bivariate K)
      → Enumerates q ε
      → Level l D s Q
      → length (search F ε q l D s Q) < l
  few_found ε q l D s Q en t =
      few_listed F l (suc s) Q (search F ε q l D s Q) t.2 t.1 (search_lists F ε q l D s Q en t.0)
