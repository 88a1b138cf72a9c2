-- Loops that write the first part of a list, and choices by a test of order.
use Rattle.std.proofs.Common.{◌≡◌, ℕ, ◌+◌, ◌-◌, ◌<◌, ◌≤◌, min, cond, ltb, ◌≢◌, ◌⊎◌, List, ◌++◌, length, take, drop, get_or, set, sym, refl, ap, ◌∙◌, subst, inl, inr, arith, length-set, get_or-set_other, get_or-set_same}
use Rattle.std.proofs.lemmas.List.{get_or-take, get_or-drop, get_or_append_left, get_or-append_right, length-take, length-drop, length-append}
use Rattle.std.proofs.lemmas.Bool.{cases_lt, cases_eq, cond-true, cond-false, lt-ltb, le-ltb}
use Rattle.field.specs.Made.{made}
use Rattle.field.proofs.Making.{made_is}

-- the first m of the list under change: below i they have the values of f, and from i on those of the list was
pub record Part {X : Type 0} (d : X) (f : ℕ → X) (was : List X) (m i : ℕ) (xs : List X) : Type 0 where
  pub long : length xs ≡ m
  pub done : (k : ℕ) → k < i → k < m → get_or xs k d ≡ f k
  pub left : (k : ℕ) → i ≤ k → k < m → get_or xs k d ≡ get_or was k d

module _ {X : Type 0} (d : X) (f : ℕ → X) (was : List X) (m : ℕ) where
  pub part_none : Part d f was (length (take m was)) 0 (take m was)
  part_none =
      record {
        long = refl;
        done = λ k l _. absurd (omega arith);
        left = λ k _ l. let e : length (take m was) ≡ min m (length was) = length-take m was in get_or-take m was k d (omega arith);
      }

  -- one value more
  pub part_write : (i : ℕ) (xs : List X) (v : X)
      → i < m
      → Part d f was m i xs
      → v ≡ f i
      → Part d f was m (i + 1) (set xs i v)
  part_write i xs v h u e =
      record {
        long = length-set xs i v ∙ u.long;
        done = λ k l n. go k l n (cases_eq k i);
        left = λ k l n. let ne : k ≢ i = omega arith in get_or-set_other xs i k v d ne ∙ u.left k (omega arith) n;
      }
    where
      inside : i < length xs
      inside = let q : length xs ≡ m = u.long in omega arith

      go : (k : ℕ) → k < i + 1 → k < m → (k ≡ i) ⊎ (k ≡ i → ⊥) → get_or (set xs i v) k d ≡ f k
      go k l n (inl q) = ap (λ j. get_or (set xs i v) j d) q ∙ get_or-set_same xs i v d inside ∙ e ∙ ap f (sym q)
      go k l n (inr q) = get_or-set_other xs i k v d q ∙ u.done k (omega arith) n

  -- what the next turn reads is as it was
  pub part_here : (i : ℕ) (xs : List X) → i < m → Part d f was m i xs → get_or xs i d ≡ get_or was i d
  part_here i xs h u = u.left i (omega arith) h

  -- the end, where f agrees with the list from m on
  pub part_end : (n i : ℕ) (xs : List X)
      → length was ≡ n
      → m ≤ n
      → m ≤ i
      → Part d f was m i xs
      → ((k : ℕ) → m ≤ k → k < n → get_or was k d ≡ f k)
      → xs ++ drop m was ≡ made n f
  part_end n i xs e l b u h = made_is f (xs ++ drop m was) n d long (λ k j. go k j (cases_lt k m))
    where
      long : length (xs ++ drop m was) ≡ n
      long =
          let p : length xs ≡ m = u.long in
          let q : length (drop m was) ≡ length was - m = length-drop m was in
          length-append xs (drop m was) ∙ omega (arith, p, q, e, l)

      go : (k : ℕ) → k < n → (k < m) ⊎ (m ≤ k) → get_or (xs ++ drop m was) k d ≡ f k
      go k j (inl a) =
          let p : length xs ≡ m = u.long in
          get_or_append_left xs (drop m was) d k (omega arith) ∙ u.done k (omega arith) a
      go k j (inr a) =
          let back : m + (k - m) ≡ k = omega arith in
          get_or-append_right xs (drop m was) m k d u.long a
          ∙ get_or-drop m was (k - m) d
          ∙ ap (λ p. get_or was p d) back
          ∙ h k a j

module _ {X : Type 0} (d : X) (f : ℕ → X) (was : List X) (m : ℕ) where
  pub part_all : (n i : ℕ) (xs : List X)
      → length was ≡ n
      → m ≤ n
      → length (take m was) ≤ i
      → Part d f was (length (take m was)) i xs
      → ((k : ℕ) → m ≤ k → k < n → get_or was k d ≡ f k)
      → xs ++ drop m was ≡ made n f
  part_all n i xs e l b u h =
      let p : length (take m was) ≡ min m (length was) = length-take m was in
      let q : length (take m was) ≡ m = omega arith in
      part_end d f was m n i xs e l (omega arith) (subst (λ (x : ℕ). Part d f was x i xs) q u) h

-- the choice by a test of order
pub pick_below : {X : Type 0} (a b : ℕ) (x y : X) → a < b → cond (ltb a b) x y ≡ x
pick_below a b x y h = cond-true (ltb a b) x y (lt-ltb a b h)

pub pick_above : {X : Type 0} (a b : ℕ) (x y : X) → b ≤ a → cond (ltb a b) x y ≡ y
pick_above a b x y h = cond-false (ltb a b) x y (le-ltb a b h)

-- a choice between equals
pub pick_same : {X : Type 0} (a b : ℕ) (x y z : X) → (a < b → x ≡ z) → (b ≤ a → y ≡ z) → cond (ltb a b) x y ≡ z
pick_same {X} a b x y z h k = go (cases_lt a b)
  where
    go : (a < b) ⊎ (b ≤ a) → cond (ltb a b) x y ≡ z
    go (inl l) = pick_below a b x y l ∙ h l
    go (inr l) = pick_above a b x y l ∙ k l
