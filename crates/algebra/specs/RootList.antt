-- The list of all roots of Q with a given number of coefficients, level by level.
use Rattle.std.specs.Prelude.{◌≡◌, List, [], ◌∷◌, ◌++◌, map, length, ℕ, zero, suc, ◌<◌}
use Rattle.algebra.specs.Members.{Member, NoRepetition}
use Rattle.algebra.specs.Ring.{CommRing, Field}
use Rattle.algebra.specs.Series.{Series, tail}
use Rattle.algebra.specs.Evaluation.{eval, from_list}
use Rattle.algebra.specs.Interpolation.{Separate}
use Rattle.algebra.specs.Bivariate.{Bivariate}
use Rattle.algebra.specs.RootSearch.{Root, decide_vanish, at_zero, strip, next, at_constant}

-- ε 0, …, ε (q − 1) are all elements of K, each once
abbrev pub Enumerates : {K : Type 0} → ℕ → (ℕ → K) → Type 0
Enumerates {K} q ε = Separate q ε × ((a : K) → (i : ℕ) × (i < q) × (ε i ≡ a))

-- the first m coefficients of f
abbrev pub to_list : {K : Type 0} → ℕ → Series K → List K
to_list zero f = []
to_list (suc m) f = f 0 ∷ to_list m (tail f)

-- the words are exactly the roots of Q with m coefficients, each once
pub record ListsRoots {K : Type 0} (R : CommRing K) (l m : ℕ) (Q : Bivariate K) (ws : List (List K)) : Type 0 where
  pub long : (w : List K) → Member w ws → length w ≡ m
  pub sound : (w : List K) → Member w ws → Root R l Q (from_list R w)
  pub whole : (w : List K) → length w ≡ m → Root R l Q (from_list R w) → Member w ws
  pub once : NoRepetition ws

-- the words that begin with one of ε 0, …, ε (n − 1), and go on with a word that may follow it
unfoldable pub branches : {K : Type 0} → (ℕ → K) → (K → List (List K)) → ℕ → List (List K)
branches ε follow zero = []
branches ε follow (suc n) = branches ε follow n ++ map (λ w. ε n ∷ w) (follow (ε n))

-- what follows γ as the last coefficient: nothing more, where Q(x, γ) = 0 (its first D coefficients are zero); no word else
unfoldable pub ending : {K : Type 0} → Field K → ℕ → ℕ → Bivariate K → K → List (List K)
ending F l D Q γ = elim (decide_vanish F D (at_constant F.ring l Q γ)) [ yes v ↦ [] ∷ [] | no h ↦ [] ]

-- what follows γ as an earlier coefficient: the given words, where Q(0, γ) = 0; no word else
unfoldable pub continuing : {K : Type 0} → Field K → ℕ → Bivariate K → K → List (List K) → List (List K)
continuing F l Q γ ws = elim (F.decide (eval F.ring l (at_zero Q) γ) F.ring.zero) [ yes e ↦ ws | no h ↦ [] ]

-- the search for the roots of Q with s + 1 coefficients: divide by x, then try each element as the next coefficient
unfoldable pub search : {K : Type 0} → Field K → (ℕ → K) → ℕ → ℕ → ℕ → ℕ → Bivariate K → List (List K)
search F ε q l D zero Q = branches ε (ending F l D (strip F l D Q)) q
search F ε q l D (suc s) Q =
    branches ε (λ γ. continuing F l (strip F l D Q) γ (search F ε q l D s (next F.ring l (strip F l D Q) γ))) q
