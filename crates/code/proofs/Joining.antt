-- The loop that writes words to a list one after the other.
use Rattle.std.proofs.Common.{◌≡◌, ℕ, ◌+◌, ◌-◌, ◌*◌, ◌<◌, ◌≤◌, min, List, [], ◌∷◌, ◌++◌, map, length, get_or, take, drop, sym, refl, ap, ◌∙◌, ap₂, add-mul, mul-le-mul, one-mul, zero-mul, arith, length-append}
use Rattle.std.proofs.lemmas.List.{append_assoc, append-nil, map_more, take_at, take_all, drop_at, drop-drop, length-take, length-drop}
use Rattle.code.specs.Listing.{joined}

pub joined_append : (xs ys : List (List ℕ)) → joined (xs ++ ys) ≡ joined xs ++ joined ys
joined_append [] ys = refl
joined_append (x ∷ xs) ys = ap (λ zs. x ++ zs) (joined_append xs ys) ∙ sym (append_assoc x (joined xs) (joined ys))

-- the part that a write through a lent part leaves
pub put_part : (list part word : List ℕ) (start n : ℕ)
    → part ≡ take n word
    → take start list ++ (part ++ drop (start + n - start) (drop start list)) ≡ take start list ++ (take n word ++ drop (start + n) list)
put_part list part word start n e =
    ap₂
    (λ xs ys. take start list ++ (xs ++ ys))
    e
    (drop-drop (start + n - start) start list ∙ (let z : start + (start + n - start) ≡ start + n = omega arith in ap (λ k. drop k list) z))

module _ (list : List ℕ) (words : List (List ℕ)) (n : ℕ) where
  -- the first words at the start of the list, and what stood after them
  abbrev pub Put : ℕ → List ℕ → Type 0
  Put i xs = (xs ≡ joined (map (take n) (take i words)) ++ drop (i * n) list) × (length (joined (map (take n) (take i words))) ≡ i * n)

  pub put_none : Put 0 list
  put_none = let z : 0 ≡ 0 * n = sym (zero-mul n) in (ap (λ k. drop k list) z, z)

  -- one word more
  pub put_more : (i : ℕ) (xs ys word : List ℕ)
      → i < length words
      → Put i xs
      → word ≡ get_or words i []
      → length (take n word) ≡ n
      → ys ≡ take (i * n) xs ++ (take n word ++ drop (i * n + n) xs)
      → Put (i + 1) ys
  put_more i xs ys word h put e l is = (
    is
        ∙ ap₂ (λ us vs. us ++ (take n word ++ vs)) front back
        ∙ sym (append_assoc so_far (take n word) (drop (i * n + n) list))
        ∙ ap₂ (λ us k. us ++ drop k list) (sym next) (sym up),
    ap length next ∙ length-append so_far (take n word) ∙ ap₂ ◌+◌ put.1 l ∙ sym up,
  )
    where
      so_far : List ℕ
      so_far = joined (map (take n) (take i words))

      up : (i + 1) * n ≡ i * n + n
      up = add-mul i 1 n ∙ ap (λ k. i * n + k) (one-mul n)

      front : take (i * n) xs ≡ joined (map (take n) (take i words))
      front = ap (take (i * n)) put.0 ∙ take_at (joined (map (take n) (take i words))) (drop (i * n) list) (i * n) put.1

      back : drop (i * n + n) xs ≡ drop (i * n + n) list
      back =
          sym (drop-drop n (i * n) xs)
          ∙ ap (drop n) (ap (drop (i * n)) put.0 ∙ drop_at (joined (map (take n) (take i words))) (drop (i * n) list) (i * n) put.1)
          ∙ drop-drop n (i * n) list

      next : joined (map (take n) (take (i + 1) words)) ≡ joined (map (take n) (take i words)) ++ take n word
      next =
          ap joined (map_more (take n) words i [] h)
          ∙ joined_append (map (take n) (take i words)) (take n (get_or words i []) ∷ [])
          ∙ ap (λ us. joined (map (take n) (take i words)) ++ us) (append-nil (take n (get_or words i [])) ∙ ap (take n) (sym e))

  pub put_all : (i count : ℕ) (xs : List ℕ)
      → count ≤ i
      → i ≤ count
      → Put i xs
      → xs ≡ joined (map (take n) (take count words)) ++ drop (count * n) list
  put_all i count xs h k put =
      let e : i ≡ count = omega arith in
      put.0 ∙ ap (λ j. joined (map (take n) (take j words)) ++ drop (j * n) list) e

-- the first words stand at the start of the list, one after the other
unfoldable pub Putting : List ℕ → List (List ℕ) → ℕ → ℕ → List ℕ → Type 0
Putting list words n i xs = Put list words n i xs

module _ (list : List ℕ) (words : List (List ℕ)) (n : ℕ) where
  pub putting_none : Putting list words n 0 list
  unfolding Putting
  putting_none = put_none list words n

  -- a word before the last fits
  pub putting_fits : (i : ℕ) → i < length words → length words * n ≤ length list → i * n + n ≤ length list
  putting_fits i h fit =
      let up : (i + 1) * n ≡ i * n + 1 * n = add-mul i 1 n in
      let o : 1 * n ≡ n = one-mul n in
      let m : (i + 1) * n ≤ length words * n = mul-le-mul {n₁ = i + 1} {m₁ = n} {n₂ = length words} {m₂ = n} (omega arith) (omega arith) in
      omega arith

  pub putting_more : (i mid : ℕ) (xs part : List ℕ) (items : List (List ℕ))
      → items ≡ words
      → i < length items
      → length words * n ≤ length list
      → length xs ≡ length list
      → Putting list words n i xs
      → part ≡ take n (get_or items i [])
      → mid ≡ i * n + n - i * n
      → length part ≡ length (take mid (drop (i * n) xs))
      → Putting list words n (i + 1) (take (i * n) xs ++ (part ++ drop mid (drop (i * n) xs)))
  unfolding Putting
  putting_more i mid xs part items same h fit long put is m len =
      put_more
      list
      words
      n
      i
      xs
      (take (i * n) xs ++ (part ++ drop mid (drop (i * n) xs)))
      (get_or items i [])
      inside
      put
      (ap (λ ws. get_or ws i []) same)
      (sym (ap length is) ∙ whole)
      (ap (λ k. take (i * n) xs ++ (part ++ drop k (drop (i * n) xs))) m ∙ put_part xs part (get_or items i []) (i * n) n is)
    where
      inside : i < length words
      inside = let e : length items ≡ length words = ap length same in omega arith

      whole : length part ≡ n
      whole =
          let f : i * n + n ≤ length list = putting_fits i inside fit in
          let a : length (take mid (drop (i * n) xs)) ≡ min mid (length (drop (i * n) xs)) = length-take mid (drop (i * n) xs) in
          let b : length (drop (i * n) xs) ≡ length xs - i * n = length-drop (i * n) xs in
          let k : ℕ = i * n in
          omega arith

  pub putting_all : (i : ℕ) (xs : List ℕ)
      → length words ≤ i
      → i ≤ length words
      → Putting list words n i xs
      → xs ≡ joined (map (take n) words) ++ drop (length words * n) list
  unfolding Putting
  putting_all i xs h k put =
      put_all list words n i (length words) xs h k put
      ∙ ap (λ ws. joined (map (take n) ws) ++ drop (length words * n) list) (take_all (length words) words (omega arith))
