-- Listing: the words of the code near a word heard, and the polynomial from whose roots they come.
use Rattle.std.specs.Prelude.{◌≡◌, ℕ, ◌+◌, ◌-◌, ◌*◌, ◌<◌, ◌≤◌, cond, ◌&&◌, ◌↔◌, List, [], ◌∷◌, ◌++◌, length, drop, ◌==◌, nat_lt, slice_index, slice_index_or}
use Rattle.algebra.specs.Operations.{Lawful}
use Rattle.algebra.specs.Elements.{Elem, element_ring, into}
use Rattle.algebra.specs.Series.{Series}
use Rattle.algebra.specs.Degree.{Below}
use Rattle.algebra.specs.Evaluation.{eval}
use Rattle.algebra.specs.Bivariate.{Bivariate, Weighted}
use Rattle.algebra.specs.Lattice.{nodal, InLattice}
use Rattle.algebra.specs.Members.{Member}
use Rattle.algebra.specs.RootSearch.{Nonzero}
use Rattle.algebra.specs.RootList.{ListsRoots}
use Rattle.field.specs.Meaning.{Meaning, Element, operations}
use Rattle.plan.specs.declared.Plan.{Plan}
use Rattle.plan.specs.Numbers.{degree_of, bound_of}
use Rattle.poly.specs.Arithmetic.{quotient_of}
use Rattle.code.specs.Codes.{InCode, support_of, multipliers_of}

-- 1 where two letters differ, 0 where they are the same
abbrev pub mismatch : ℕ → ℕ → ℕ
mismatch x y = cond (x == y) 0 1

-- the number of places where two words differ
abbrev pub distance : List ℕ → List ℕ → ℕ
distance [] ys = 0
distance (x ∷ xs) [] = 0
distance (x ∷ xs) (y ∷ ys) = mismatch x y + distance xs ys

-- v comes before w: at the first place where they differ v has the smaller letter
pub record Earlier (v w : List ℕ) : Type 0 where
  pub place : ℕ
  pub same : (i : ℕ) → i < place → slice_index v i ≡ slice_index w i
  pub smaller : slice_index_or v place 0 < slice_index w place

-- the words rise: each comes before all that follow it
abbrev pub Rising : List (List ℕ) → Type 0
Rising [] = Unit {0}
Rising (w ∷ ws) = ((v : List ℕ) → Member v ws → Earlier w v) × Rising ws

-- the words of the code within the plan's errors of the word heard: exactly those, each once, in rising order
pub record Nearby (p : Plan) (m : Meaning) (heard : List ℕ) (ws : List (List ℕ)) : Type 0 where
  pub exact : (w : List ℕ) → Member w ws ↔ (InCode p m w × (distance w heard ≤ p.w))
  pub rising : Rising ws

-- the words one after the other
abbrev pub joined : List (List ℕ) → List ℕ
joined [] = []
joined (w ∷ ws) = w ++ joined ws

-- the list begins with so many words, those near the word heard, and what follows them is as it was
pub record Listed (p : Plan) (m : Meaning) (heard before after : List ℕ) (words : ℕ) : Type 0 where
  pub near : List (List ℕ)
  pub nearby : Nearby p m heard near
  pub count : length near ≡ words
  pub written : after ≡ joined near ++ drop (words * p.n) before

-- s, the greatest degree of a message polynomial, as the weight of y
abbrev pub weight_of : Plan → ℕ
weight_of p = degree_of p.n p.t

-- D, the bound of the weighted degree: as many numbers of the workspace hold the coefficient of one power of y
abbrev pub width_of : Plan → ℕ
width_of p = bound_of p.n p.w p.k

-- the coefficient of x^i y^c of the polynomial that the workspace holds: D numbers for each power of y below l, lowest power of x first
abbrev pub coefficient_at : Plan → List ℕ → ℕ → ℕ → ℕ
coefficient_at p workspace c i =
    cond (nat_lt c p.l && nat_lt i (width_of p)) (slice_index workspace (c * width_of p + i)) 0

module _ (p : Plan) (m : Meaning) (law : Lawful (operations m)) where
  -- Q, the polynomial that the workspace holds, over the elements of the field
  abbrev pub polynomial_in : List ℕ → Bivariate (Elem (operations m))
  polynomial_in workspace c i = into (operations m) law (coefficient_at p workspace c i)

  -- the elements α_i of the support
  abbrev pub points : ℕ → Elem (operations m)
  points i = into (operations m) law (slice_index (support_of p) i)

  -- v_i × inverse(β_i), the letters of a word over their multipliers
  abbrev pub ordinates : List ℕ → ℕ → Elem (operations m)
  ordinates heard i = into (operations m) law (quotient_of m (slice_index heard i) (slice_index (multipliers_of p) i))

  -- V is the polynomial of degree below n with V(α_i) = v_i × inverse(β_i)
  pub record Through (heard : List ℕ) (V : Series (Elem (operations m))) : Type 0 where
    pub below : Below (element_ring (operations m) law) p.n V
    pub values : (i : ℕ) → i < p.n → eval (element_ring (operations m) law) p.n V (points i) ≡ ordinates heard i

  -- the lattice of the word heard, by the product A of all x − α_i and the polynomial V through the letters
  pub record InLatticeOf (heard : List ℕ) (Q : Bivariate (Elem (operations m))) : Type 0 where
    pub V : Series (Elem (operations m))
    pub through : Through heard V
    pub member : InLattice (element_ring (operations m) law) (nodal (element_ring (operations m) law) p.n points) V p.k p.l Q

  -- Q is not zero, has weighted degree below D, and is in the lattice of the word heard. Nothing else is said of Q: it is left open
  pub record Interpolates (heard : List ℕ) (Q : Bivariate (Elem (operations m))) : Type 0 where
    pub nonzero : Nonzero (element_ring (operations m) law) Q
    pub weighted : Weighted (element_ring (operations m) law) (weight_of p) (width_of p) Q
    pub lattice : InLatticeOf heard Q

  -- so many polynomials f of degree below n − t have Q(x, f) = 0: there is a list of exactly these, each once, of that length
  pub record Tested (Q : Bivariate (Elem (operations m))) (tested : ℕ) : Type 0 where
    pub roots : List (List (Elem (operations m)))
    pub all : ListsRoots (element_ring (operations m) law) p.l (p.n - p.t) Q roots
    pub count : length roots ≡ tested

-- the workspace holds l × D elements, then 0 as far as 32,768 numbers, and beyond them what it held before
pub record Held (p : Plan) (m : Meaning) (before after : List ℕ) : Type 0 where
  pub long : length after ≡ length before
  pub elements : (i : ℕ) → i < p.l * width_of p → Element m (slice_index after i)
  pub zeros : (i : ℕ) → p.l * width_of p ≤ i → i < 32768 → slice_index after i ≡ 0
  pub beyond : drop 32768 after ≡ drop 32768 before

-- what a listing does: words into the list, a polynomial Q into the workspace, and the count of Q's roots
pub record Decoded (p : Plan) (m : Meaning) (heard list list' workspace workspace' : List ℕ) (words tested : ℕ) : Type 0 where
  pub law : Lawful (operations m)
  pub listed : Listed p m heard list list' words
  pub held : Held p m workspace workspace'
  pub polynomial : Interpolates p m law heard (polynomial_in p m law workspace')
  pub candidates : Tested p m law (polynomial_in p m law workspace') tested
