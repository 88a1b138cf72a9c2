-- Members of lists of words, and lists without repetition.
use mathlib.Core.Path.{◌≡◌, refl, sym, ◌∙◌, ap, subst}
use mathlib.Core.Logic.{◌⊎◌, inl, inr}
use mathlib.Core.List.{List, [], ◌∷◌, ◌++◌, map, head-eq_of_cons-eq, tail-eq_of_cons-eq}
use lib.ListN.{length, get_or}
use Prim.Native.Nat.{ℕ, zero, suc, ◌≤◌, ◌<◌}
use native.Mathlib.Omega.{arith}
use native.Mathlib.Decide.{dec_lt}
use Rattle.algebra.specs.Members.{Member, NoRepetition}
use Rattle.algebra.specs.Interpolation.{Separate}
use Rattle.algebra.specs.RootList.{branches}

module _ {A : Type 0} where
  pub member_left : (a : A) (xs ys : List A) → Member a xs → Member a (xs ++ ys)
  member_left a [] ys h = absurd h
  member_left a (x ∷ xs) ys (inl e) = inl e
  member_left a (x ∷ xs) ys (inr h) = inr (member_left a xs ys h)

  pub member_right : (a : A) (xs ys : List A) → Member a ys → Member a (xs ++ ys)
  member_right a [] ys h = h
  member_right a (x ∷ xs) ys h = inr (member_right a xs ys h)

  pub member_last : (a : A) (xs : List A) → Member a (xs ++ (a ∷ []))
  member_last a xs = member_right a xs (a ∷ []) (inl refl)

  pub member_append : (a : A) (xs ys : List A) → Member a (xs ++ ys) → Member a xs ⊎ Member a ys
  member_append a [] ys h = inr h
  member_append a (x ∷ xs) ys (inl e) = inl (inl e)
  member_append a (x ∷ xs) ys (inr h) = go (member_append a xs ys h)
    where
      go : Member a xs ⊎ Member a ys → Member a (x ∷ xs) ⊎ Member a ys
      go (inl t) = inl (inr t)
      go (inr t) = inr t

  pub no_repetition_append : (xs ys : List A)
      → NoRepetition xs
      → NoRepetition ys
      → ((a : A) → Member a xs → Member a ys → ⊥)
      → NoRepetition (xs ++ ys)
  no_repetition_append [] ys h k d = k
  no_repetition_append (x ∷ xs) ys h k d = (
    λ m. go (member_append x xs ys m),
    no_repetition_append xs ys h.1 k (λ a p q. d a (inr p) q),
  )
    where
      go : Member x xs ⊎ Member x ys → ⊥
      go (inl t) = h.0 t
      go (inr t) = d x (inl refl) t

  -- the member at an index
  pub member_at : (xs : List A) (i : ℕ) (a : A) → i < length xs → Member (get_or xs i a) xs
  member_at [] i a h = absurd (omega arith)
  member_at (x ∷ xs) zero a h = inl refl
  member_at (x ∷ xs) (suc i) a h = inr (member_at xs i a (omega arith))

  -- in a list without repetition the members at different indices differ
  pub separate_members : (xs : List A) (a : A) → NoRepetition xs → Separate (length xs) (λ i. get_or xs i a)
  separate_members [] a h i j p q e = absurd (omega arith)
  separate_members (x ∷ xs) a h zero zero p q e = refl
  separate_members (x ∷ xs) a h zero (suc j) p q e =
      absurd (h.0 (subst (λ y. Member y xs) (sym e) (member_at xs j a (omega arith))))
  separate_members (x ∷ xs) a h (suc i) zero p q e =
      absurd (h.0 (subst (λ y. Member y xs) e (member_at xs i a (omega arith))))
  separate_members (x ∷ xs) a h (suc i) (suc j) p q e =
      ap suc (separate_members xs a h.1 i j (omega arith) (omega arith) e)

module _ {K : Type 0} where
  -- a word of those that begin with γ
  member_prefixed : (γ : K) (vs : List (List K)) (w : List K)
      → Member w (map (λ v. γ ∷ v) vs)
      → (v : List K) × Member v vs × (w ≡ γ ∷ v)
  member_prefixed γ [] w h = absurd h
  member_prefixed γ (v ∷ vs) w (inl e) = (v, inl refl, e)
  member_prefixed γ (v ∷ vs) w (inr h) = let t = member_prefixed γ vs w h in (t.0, inr t.1, t.2)

  prefixed_member : (γ : K) (vs : List (List K)) (v : List K) → Member v vs → Member (γ ∷ v) (map (λ v. γ ∷ v) vs)
  prefixed_member γ [] v h = absurd h
  prefixed_member γ (u ∷ vs) v (inl e) = inl (ap (λ x. γ ∷ x) e)
  prefixed_member γ (u ∷ vs) v (inr h) = inr (prefixed_member γ vs v h)

  no_repetition_prefixed : (γ : K) (vs : List (List K)) → NoRepetition vs → NoRepetition (map (λ v. γ ∷ v) vs)
  no_repetition_prefixed γ [] h = tt
  no_repetition_prefixed γ (v ∷ vs) h = (
    λ m. let t = member_prefixed γ vs (γ ∷ v) m in
        h.0 (subst (λ u. Member u vs) (sym (tail-eq_of_cons-eq t.2)) t.1),
    no_repetition_prefixed γ vs h.1,
  )

  module _ (ε : ℕ → K) (follow : K → List (List K)) where
    -- a word of the branches begins with an element tried, and goes on with a word that may follow it
    pub member_branches : (n : ℕ) (w : List K)
        → Member w (branches ε follow n)
        → (i : ℕ) × (i < n) × (v : List K) × Member v (follow (ε i)) × (w ≡ ε i ∷ v)
    unfolding branches
    member_branches zero w h = absurd h
    member_branches (suc n) w h =
        go (member_append w (branches ε follow n) (map (λ w. ε n ∷ w) (follow (ε n))) h) (member_branches n w)
      where
        go : Member w (branches ε follow n) ⊎ Member w (map (λ w. ε n ∷ w) (follow (ε n)))
            → (Member w (branches ε follow n)
            → (i : ℕ) × (i < n) × (v : List K) × Member v (follow (ε i)) × (w ≡ ε i ∷ v))
            → (i : ℕ) × (i < suc n) × (v : List K) × Member v (follow (ε i)) × (w ≡ ε i ∷ v)
        go (inl m) r = let t = r m in let k : t.0 < n = t.1 in (t.0, omega arith, t.2, t.3, t.4)
        go (inr m) r = let t = member_prefixed (ε n) (follow (ε n)) w m in (n, omega arith, t.0, t.1, t.2)

    pub branches_member : (n i : ℕ) (v : List K)
        → i < n
        → Member v (follow (ε i))
        → Member (ε i ∷ v) (branches ε follow n)
    unfolding branches
    branches_member zero i v h m = absurd (omega arith)
    branches_member (suc n) i v h m = go (dec_lt i n) (λ k. branches_member n i v k m)
      where
        go : Dec (i < n)
            → (i < n → Member (ε i ∷ v) (branches ε follow n))
            → Member (ε i ∷ v) (branches ε follow n ++ map (λ w. ε n ∷ w) (follow (ε n)))
        go (yes k) r = member_left (ε i ∷ v) (branches ε follow n) (map (λ w. ε n ∷ w) (follow (ε n))) (r k)
        go (no k) r =
            let e : i ≡ n = omega arith in
            member_right
            (ε i ∷ v)
            (branches ε follow n)
            (map (λ w. ε n ∷ w) (follow (ε n)))
            (subst
            (λ j. Member (ε j ∷ v) (map (λ w. ε n ∷ w) (follow (ε n))))
            (sym e)
            (prefixed_member (ε n) (follow (ε n)) v (subst (λ j. Member v (follow (ε j))) e m)))

    -- distinct elements tried, and no repetition after any of them, give no repetition
    pub no_repetition_branches : (q n : ℕ)
        → Separate q ε
        → n ≤ q
        → ((γ : K) → NoRepetition (follow γ))
        → NoRepetition (branches ε follow n)
    unfolding branches
    no_repetition_branches q zero s h o = tt
    no_repetition_branches q (suc n) s h o =
        no_repetition_append
        (branches ε follow n)
        (map (λ w. ε n ∷ w) (follow (ε n)))
        (no_repetition_branches q n s (omega arith) o)
        (no_repetition_prefixed (ε n) (follow (ε n)) (o (ε n)))
        (λ w p r.
        let t = member_branches n w p in
        let k : t.0 < n = t.1 in
        let u = member_prefixed (ε n) (follow (ε n)) w r in
        let e : t.0 ≡ n = s t.0 n (omega arith) (omega arith) (head-eq_of_cons-eq (sym t.4 ∙ u.2)) in
        absurd (omega arith))
