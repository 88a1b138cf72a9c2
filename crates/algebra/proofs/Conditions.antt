-- Lists of conditions: members, and the order in which the powers of x come.
use mathlib.Core.Path.{◌≡◌, refl, sym, subst}
use mathlib.Core.List.{List, [], ◌∷◌, ◌++◌, append-nil, append_assoc}
use mathlib.Core.Logic.{◌⊎◌, inl, inr}
use Prim.Native.Nat.{ℕ, zero, suc, ◌+◌}
use native.Mathlib.Omega.{arith}
use Rattle.algebra.proofs.ListMembers.{member_left, member_append}
use Rattle.algebra.specs.Members.{Member}
use Rattle.algebra.specs.Conditions.{Condition, at_power, Prepared, Follows, WellOrdered}

module _ {K : Type 0} where
  -- with each condition the list has the one at the next lower power of x
  abbrev pub Closed : List (Condition K) → Type 0
  Closed cs = (c : Condition K) → Member c cs → Prepared cs c

  prepared_left : (c : Condition K) (xs ys : List (Condition K)) → Prepared xs c → Prepared (xs ++ ys) c
  prepared_left c xs ys h r e = member_left (at_power c r) xs ys (h r e)

  pub closed_last : (c : Condition K) (cs : List (Condition K)) → Closed cs → Prepared cs c → Closed (cs ++ (c ∷ []))
  closed_last c cs h k x m = go (member_append x cs (c ∷ []) m)
    where
      go : Member x cs ⊎ Member x (c ∷ []) → Prepared (cs ++ (c ∷ [])) x
      go (inl n) = prepared_left x cs (c ∷ []) (h x n)
      go (inr (inl e)) = subst (Prepared (cs ++ (c ∷ []))) (sym e) (prepared_left c cs (c ∷ []) k)
      go (inr (inr n)) = absurd n

  closed_follows : (ds cs : List (Condition K)) → Closed ds → Follows ds cs → Closed (ds ++ cs)
  closed_follows ds [] h f = subst Closed (sym (append-nil ds)) h
  closed_follows ds (c ∷ cs) h f =
      subst
      Closed
      (append_assoc ds (c ∷ []) cs)
      (closed_follows (ds ++ (c ∷ [])) cs (closed_last c ds h f.0) f.1)

  -- a well-ordered list is closed under lower powers of x
  pub well_ordered_closed : (cs : List (Condition K)) → WellOrdered cs → Closed cs
  well_ordered_closed cs f = closed_follows [] cs (λ c m. absurd m) f

  -- in a closed list stand all lower powers of x
  pub closed_below : (cs : List (Condition K)) (c : Condition K) (r n : ℕ)
      → Closed cs
      → Member c cs
      → r + n ≡ c.exponent_x
      → Member (at_power c r) cs
  closed_below cs c r zero h m e =
      let q : c.exponent_x ≡ r = omega arith in
      subst (λ k. Member (at_power c k) cs) q m
  closed_below cs c r (suc n) h m e =
      let q : c.exponent_x ≡ suc (r + n) = omega arith in
      closed_below cs (at_power c (r + n)) r n h (h c m (r + n) q) refl

  pub follows_append : (ds xs ys : List (Condition K)) → Follows ds xs → Follows (ds ++ xs) ys → Follows ds (xs ++ ys)
  follows_append ds [] ys f g = subst (λ zs. Follows zs ys) (append-nil ds) g
  follows_append ds (x ∷ xs) ys f g = (
    f.0,
    follows_append (ds ++ (x ∷ [])) xs ys f.1 (subst (λ zs. Follows zs ys) (sym (append_assoc ds (x ∷ []) xs)) g),
  )

  pub follows_left : (ds xs ys : List (Condition K)) → Follows ds (xs ++ ys) → Follows ds xs
  follows_left ds [] ys f = tt
  follows_left ds (x ∷ xs) ys f = (f.0, follows_left (ds ++ (x ∷ [])) xs ys f.1)

  pub follows_right : (ds xs ys : List (Condition K)) → Follows ds (xs ++ ys) → Follows (ds ++ xs) ys
  follows_right ds [] ys f = subst (λ zs. Follows zs ys) (sym (append-nil ds)) f
  follows_right ds (x ∷ xs) ys f =
      subst (λ zs. Follows zs ys) (append_assoc ds (x ∷ []) xs) (follows_right (ds ++ (x ∷ [])) xs ys f.1)

  -- the beginning of a well-ordered list is well ordered, and the condition that comes next is prepared
  pub well_ordered_before : (cs : List (Condition K)) (c : Condition K) → WellOrdered (cs ++ (c ∷ [])) → WellOrdered cs
  well_ordered_before cs c f = follows_left [] cs (c ∷ []) f

  pub well_ordered_prepared : (cs : List (Condition K)) (c : Condition K) → WellOrdered (cs ++ (c ∷ [])) → Prepared cs c
  well_ordered_prepared cs c f = (follows_right [] cs (c ∷ []) f).0

  pub well_ordered_last : (cs : List (Condition K)) (c : Condition K) → WellOrdered cs → Prepared cs c → WellOrdered (cs ++ (c ∷ []))
  well_ordered_last cs c f h = follows_append [] cs (c ∷ []) f (h, tt)
