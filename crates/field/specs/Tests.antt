-- Tests that the checker computes over all numbers below a bound or all entries of a table, and what they show.
use Rattle.std.specs.Prelude.{◌≡◌, ℕ, zero, suc, ◌<◌, Bool, true, false, not, cond, T, ◌⊎◌, List, [], ◌∷◌, length, ◌==◌, ◌≢◌, Some, MatchOption, find, slice_index}
use Rattle.std.proofs.Common.{sym, subst, inl, inr, not-suc-le-zero, arith, eqb→eq}
use Rattle.std.proofs.Math.Decide.{ℕ_discrete}
use Rattle.std.proofs.Math.Dec.{eqb_refl}

abbrev pub both : Bool → Bool → Bool
both true b = b
both false b = false

pub both_left : (a b : Bool) → T (both a b) → T a
both_left true b t = tt
both_left false b t = t

pub both_right : (a b : Bool) → T (both a b) → T b
both_right true b t = t
both_right false b t = absurd t

abbrev pub either : Bool → Bool → Bool
either true b = true
either false b = b

pub either_left : (a b : Bool) → T a → T (either a b)
either_left true b t = tt
either_left false b t = absurd t

pub either_right : (a b : Bool) → T b → T (either a b)
either_right true b t = tt
either_right false b t = t

pub either_cases : (a b : Bool) → T (either a b) → T a ⊎ T b
either_cases true b t = inl tt
either_cases false b t = inr t

-- the test passes at each number below n
unfoldable pub below : (ℕ → Bool) → ℕ → Bool
below f zero = true
below f (suc n) = both (f n) (below f n)

pub below_at : (f : ℕ → Bool) (n : ℕ) → T (below f n) → (k : ℕ) → k < n → T (f k)
unfolding below
below_at f zero t k h = absurd (not-suc-le-zero h)
below_at f (suc n) t k h = go (below_at f n (both_right (f n) (below f n) t) k) (ℕ_discrete k n)
  where
    go : (k < n → T (f k)) → Dec (k ≡ n) → T (f k)
    go rest (yes e) = subst (λ x. T (f x)) (sym e) (both_left (f n) (below f n) t)
    go rest (no e) = rest (omega arith)

-- some number below n passes the test
unfoldable pub some_below : (ℕ → Bool) → ℕ → Bool
some_below f zero = false
some_below f (suc n) = either (f n) (some_below f n)

pub some_below_at : (f : ℕ → Bool) (n : ℕ) → T (some_below f n) → (k : ℕ) × (k < n) × T (f k)
unfolding some_below
some_below_at f zero t = absurd t
some_below_at f (suc n) t = go (some_below_at f n) (either_cases (f n) (some_below f n) t)
  where
    go : (T (some_below f n) → (k : ℕ) × (k < n) × T (f k)) → T (f n) ⊎ T (some_below f n) → (k : ℕ) × (k < suc n) × T (f k)
    go rest (inl h) = (n, omega arith, h)
    go rest (inr h) = let r : (k : ℕ) × (k < n) × T (f k) = rest h in (r.0, omega arith, r.2)

-- the test passes at each entry
unfoldable pub each : (ℕ → Bool) → List ℕ → Bool
each f [] = true
each f (x ∷ xs) = both (f x) (each f xs)

-- p is an entry
unfoldable pub member : ℕ → List ℕ → Bool
member p [] = false
member p (x ∷ xs) = either (x == p) (member p xs)

pub each_at : (f : ℕ → Bool) (xs : List ℕ) → T (each f xs) → (p : ℕ) → T (member p xs) → T (f p)
unfolding each member
each_at f [] t p m = absurd m
each_at f (x ∷ xs) t p m = go (each_at f xs (both_right (f x) (each f xs) t) p) (either_cases (x == p) (member p xs) m)
  where
    go : (T (member p xs) → T (f p)) → T (x == p) ⊎ T (member p xs) → T (f p)
    go rest (inl e) = subst (λ y. T (f y)) (eqb→eq x p e) (both_left (f x) (each f xs) t)
    go rest (inr h) = rest h

-- an entry is found, and what is found is an entry
pub member_at : (xs : List ℕ) (k : ℕ) → k < length xs → T (member (slice_index xs k) xs)
unfolding member
member_at [] k h = absurd (not-suc-le-zero h)
member_at (x ∷ xs) zero h = either_left (x == x) (member x xs) (eqb_refl x)
member_at (x ∷ xs) (suc k) h = either_right (x == slice_index xs k) (member (slice_index xs k) xs) (member_at xs k (omega arith))

pub member_place : (p : ℕ) (xs : List ℕ) → T (member p xs) → (k : ℕ) × (k < length xs) × (slice_index xs k ≡ p)
unfolding member
member_place p [] t = absurd t
member_place p (x ∷ xs) t = go (member_place p xs) (either_cases (x == p) (member p xs) t)
  where
    go : (T (member p xs) → (k : ℕ) × (k < length xs) × (slice_index xs k ≡ p)) → T (x == p) ⊎ T (member p xs) → (k : ℕ) × (k < length (x ∷ xs)) × (slice_index (x ∷ xs) k ≡ p)
    go rest (inl e) = (0, omega arith, eqb→eq x p e)
    go rest (inr h) = let r : (k : ℕ) × (k < length xs) × (slice_index xs k ≡ p) = rest h in (suc r.0, omega arith, r.2)

-- a search for p finds p where it is an entry, and nothing where it is none
pub member_found : (p : ℕ) (xs : List ℕ) → MatchOption (find (λ q. q == p) xs) (T (member p xs) → ⊥) (λ q. (q ≡ p) × T (member p xs))
unfolding member
member_found p [] = λ t. t
member_found p (x ∷ xs) = go (x == p) (λ t. eqb→eq x p t) (member_found p xs)
  where
    go : (b : Bool) → (T b → x ≡ p) → MatchOption (find (λ q. q == p) xs) (T (member p xs) → ⊥) (λ q. (q ≡ p) × T (member p xs)) → MatchOption (cond b (Some x) (find (λ q. q == p) xs)) (T (either b (member p xs)) → ⊥) (λ q. (q ≡ p) × T (either b (member p xs)))
    go true e h = (e tt, tt)
    go false e h = h

pub not_equal : (m n : ℕ) → T (not (m == n)) → m ≢ n
not_equal m n t e = not_both (m == n) t (subst (λ x. T (m == x)) e (eqb_refl m))
  where
    not_both : (b : Bool) → T (not b) → T b → ⊥
    not_both true t u = t
    not_both false t u = u
