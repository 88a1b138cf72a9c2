-- The table of primes holds the primes of 3 to 251 and no other number, and every element but 0 has its inverse.
use Rattle.std.specs.Prelude.{◌≡◌, ℕ, ◌-◌, ◌*◌, ◌%◌, ◌<◌, ◌≤◌, Bool, not, T, ◌⊎◌, List, [], ◌∷◌, ◌==◌, ◌≢◌, Some, None, Option, MatchOption, find, nat_le, nat_lt, slice_index}
use Rattle.std.proofs.Common.{subst, inl, inr, arith, eqb→eq, ltb→lt, leb→le}
use Rattle.field.specs.Modular.{Prime, times}
use Rattle.field.specs.Powers.{power}
use Rattle.field.specs.Tests.{both, both_left, both_right, either, either_cases, below, below_at, some_below, some_below_at, each, each_at, member, member_at, member_place, member_found, not_equal}

unfoldable pub primes : List ℕ
primes = 3 ∷ 5 ∷ 7 ∷ 11 ∷ 13 ∷ 17 ∷ 19 ∷ 23 ∷ 29 ∷ 31 ∷ 37 ∷ 41 ∷ 43 ∷ 47 ∷ 53 ∷ 59 ∷ 61 ∷ 67 ∷ 71 ∷ 73 ∷ 79 ∷ 83 ∷ 89 ∷ 97 ∷ 101 ∷ 103 ∷ 107 ∷ 109 ∷ 113 ∷ 127 ∷ 131 ∷ 137 ∷ 139 ∷ 149 ∷ 151 ∷ 157 ∷ 163 ∷ 167 ∷ 173 ∷ 179 ∷ 181 ∷ 191 ∷ 193 ∷ 197 ∷ 199 ∷ 211 ∷ 223 ∷ 227 ∷ 229 ∷ 233 ∷ 239 ∷ 241 ∷ 251 ∷ []

-- d is no divisor of p, unless it is 0 or 1
undivided : ℕ → ℕ → Bool
undivided p d = either (nat_lt d 2) (not (p % d == 0))

entry_right : ℕ → Bool
entry_right p = both (both (nat_le 3 p) (nat_le p 251)) (below (undivided p) p)

inverse_right : ℕ → ℕ → Bool
inverse_right p a = either (a == 0) (a * power (times p) 8 1 a (p - 2) % p == 1)

entries_right : T (each entry_right primes)
unfolding each below entry_right undivided primes
entries_right = tt

inverses_right : T (each (λ p. below (inverse_right p) p) primes)
unfolding each below inverse_right power primes
inverses_right = tt

-- a divisor of p from 2 to 15, below p
divided : ℕ → ℕ → Bool
divided p d = both (both (nat_le 2 d) (nat_lt d p)) (p % d == 0)

complete : ℕ → Bool
complete p = either (nat_lt p 3) (either (member p primes) (some_below (divided p) 16))

table_complete : T (below complete 252)
unfolding below complete member some_below divided primes
table_complete = tt

listed_right : (p : ℕ) → T (member p primes) → T (entry_right p)
listed_right = each_at entry_right primes entries_right

-- every entry is a prime of 3 to 251
pub listed_from : (p : ℕ) → T (member p primes) → 3 ≤ p
unfolding entry_right
listed_from p t = leb→le 3 p (both_left (nat_le 3 p) (nat_le p 251) (both_left (both (nat_le 3 p) (nat_le p 251)) (below (undivided p) p) (listed_right p t)))

pub listed_to : (p : ℕ) → T (member p primes) → p ≤ 251
unfolding entry_right
listed_to p t = leb→le p 251 (both_right (nat_le 3 p) (nat_le p 251) (both_left (both (nat_le 3 p) (nat_le p 251)) (below (undivided p) p) (listed_right p t)))

pub listed_undivided : (p : ℕ) → T (member p primes) → (d : ℕ) → 2 ≤ d → d < p → p % d ≢ 0
unfolding entry_right undivided
listed_undivided p t d two less e = go (either_cases (nat_lt d 2) (not (p % d == 0)) (below_at (undivided p) p (both_right (both (nat_le 3 p) (nat_le p 251)) (below (undivided p) p) (listed_right p t)) d less))
  where
    go : T (nat_lt d 2) ⊎ T (not (p % d == 0)) → ⊥
    go (inl small) = omega (arith, ltb→lt d 2 small)
    go (inr none) = not_equal (p % d) 0 none e

-- every prime of 3 to 251 is an entry
pub prime_listed : (p : ℕ) → 3 ≤ p → p ≤ 251 → ((d : ℕ) → 2 ≤ d → d < p → p % d ≢ 0) → T (member p primes)
unfolding complete divided
prime_listed p h k q = go (either_cases (nat_lt p 3) (either (member p primes) (some_below (divided p) 16)) (below_at complete 252 table_complete p (omega arith)))
  where
    found : (d : ℕ) → T (divided p d) → ⊥
    found d t =
        let range = both_left (both (nat_le 2 d) (nat_lt d p)) (p % d == 0) t in
        q d (leb→le 2 d (both_left (nat_le 2 d) (nat_lt d p) range)) (ltb→lt d p (both_right (nat_le 2 d) (nat_lt d p) range)) (eqb→eq (p % d) 0 (both_right (both (nat_le 2 d) (nat_lt d p)) (p % d == 0) t))

    last : T (member p primes) ⊎ T (some_below (divided p) 16) → T (member p primes)
    last (inl t) = t
    last (inr t) = let r = some_below_at (divided p) 16 t in absurd (found r.0 r.2)

    go : T (nat_lt p 3) ⊎ T (either (member p primes) (some_below (divided p) 16)) → T (member p primes)
    go (inl small) = absurd (omega (arith, ltb→lt p 3 small))
    go (inr t) = last (either_cases (member p primes) (some_below (divided p) 16) t)

-- the power p − 2 is the inverse
pub listed_inverse : (p a : ℕ) → T (member p primes) → a < p → (a ≢ 0) → a * power (times p) 8 1 a (p - 2) % p ≡ 1
unfolding inverse_right
listed_inverse p a t h n = go (either_cases (a == 0) (a * power (times p) 8 1 a (p - 2) % p == 1) (below_at (inverse_right p) p (each_at (λ r. below (inverse_right r) r) primes inverses_right p t) a h))
  where
    go : T (a == 0) ⊎ T (a * power (times p) 8 1 a (p - 2) % p == 1) → a * power (times p) 8 1 a (p - 2) % p ≡ 1
    go (inl zero) = absurd (n (eqb→eq a 0 zero))
    go (inr one) = eqb→eq (a * power (times p) 8 1 a (p - 2) % p) 1 one

-- what the search through the table finds: at place k, or nowhere
pub found_at : (k p : ℕ) → k < 53 → slice_index primes k ≡ p → T (member p primes)
unfolding primes
found_at k p h e = subst (λ q. T (member q primes)) e (member_at primes k h)

pub listed_whole : (p : ℕ) → T (member p primes) → (3 ≤ p) × (p ≤ 251) × Prime p
listed_whole p t = (listed_from p t, listed_to p t, (omega (arith, listed_from p t), listed_undivided p t))

pub not_found : (p : ℕ) → ((k : ℕ) → k < 53 → slice_index primes k ≢ p) → (3 ≤ p) × (p ≤ 251) × Prime p → ⊥
unfolding primes
not_found p none h =
    let place = member_place p primes (prime_listed p h.0 h.1 h.2.1) in
    none place.0 place.1 place.2

-- what a search through the table finds is the number, a prime of 3 to 251; it finds every such prime
pub prime_found : (p : ℕ) → MatchOption (find (λ q. q == p) primes) ((3 ≤ p) × (p ≤ 251) × Prime p → ⊥) (λ q. (q ≡ p) × (3 ≤ p) × (p ≤ 251) × Prime p)
prime_found p = go (find (λ q. q == p) primes) (member_found p primes)
  where
    go : (o : Option ℕ) → MatchOption o (T (member p primes) → ⊥) (λ q. (q ≡ p) × T (member p primes)) → MatchOption o ((3 ≤ p) × (p ≤ 251) × Prime p → ⊥) (λ q. (q ≡ p) × (3 ≤ p) × (p ≤ 251) × Prime p)
    go None h = λ k. h (prime_listed p k.0 k.1 k.2.1)
    go (Some q) h = let w = listed_whole p h.1 in (h.0, w.0, w.1, w.2)
