-- The words of a list, read back from the list that holds them one after the other.
use Rattle.std.proofs.Common.{◌≡◌, ℕ, zero, suc, ◌+◌, ◌*◌, ◌<◌, ◌≤◌, List, [], ◌∷◌, ◌++◌, map, length, get_or, take, drop, sym, refl, ap, ◌∙◌, subst, ap₂, inl, inr, add-mul, one-mul, zero-mul, arith, length-append}
use Rattle.std.specs.List.{range_with_len}
use Rattle.std.proofs.lemmas.List.FromFn.{fill_by_all}
use Rattle.std.proofs.lemmas.List.{append_assoc, take_at, drop_at, drop-drop}
use Rattle.algebra.specs.Members.{Member}
use Rattle.field.specs.Meaning.{Meaning}
use Rattle.plan.specs.declared.Plan.{Plan}
use Rattle.code.specs.Listing.{joined, Listed}

-- where a word's letters end and the next word begins
next : (i n : ℕ) → suc i * n ≡ n + i * n
next i n =
    let e : suc i ≡ 1 + i = omega arith in
    ap (λ k. k * n) e ∙ add-mul 1 i n ∙ ap (λ k. k + i * n) (one-mul n)

module _ (n : ℕ) (rest : List ℕ) where
  word_at : (ws : List (List ℕ))
      → ((w : List ℕ) → Member w ws → length w ≡ n)
      → (i : ℕ)
      → i < length ws
      → get_or ws i [] ≡ take n (drop (i * n) (joined ws ++ rest))
  word_at [] long i h = absurd (omega (arith, h))
  word_at (w ∷ ws) long zero h =
      sym
      (ap (λ k. take n (drop k (joined (w ∷ ws) ++ rest))) (zero-mul n)
      ∙ ap (take n) (append_assoc w (joined ws) rest)
      ∙ take_at w (joined ws ++ rest) n (long w (inl refl)))
  word_at (w ∷ ws) long (suc i) h =
      word_at ws (λ v k. long v (inr k)) i (omega (arith, h))
      ∙ ap (λ xs. take n (drop (i * n) xs)) (sym (drop_at w (joined ws ++ rest) n (long w (inl refl))))
      ∙ ap (take n) (drop-drop (i * n) n (w ++ (joined ws ++ rest)))
      ∙ ap₂ (λ k xs. take n (drop k xs)) (sym (next i n)) (sym (append_assoc w (joined ws) rest))

joined_length : (n : ℕ) (ws : List (List ℕ)) → ((w : List ℕ) → Member w ws → length w ≡ n) → length (joined ws) ≡ length ws * n
joined_length n [] long = sym (zero-mul n)
joined_length n (w ∷ ws) long =
    length-append w (joined ws)
    ∙ ap₂ ◌+◌ (long w (inl refl)) (joined_length n ws (λ v k. long v (inr k)))
    ∙ sym (next (length ws) n)

module _ (p : Plan) (m : Meaning) (heard before after : List ℕ) (words : ℕ) (l : Listed p m heard before after words) where
  each_long : (w : List ℕ) → Member w l.near → length w ≡ p.n
  each_long w k = ((l.nearby.exact w).0 k).0.long

  -- part i of n letters is word i
  pub words_listed : map (λ i. take p.n (drop (i * p.n) after)) (range_with_len 0 words) ≡ l.near
  words_listed =
      sym
      (fill_by_all (λ i. take p.n (drop (i * p.n) after)) l.near words [] l.count
      (λ k h.
      word_at p.n (drop (words * p.n) before) l.near each_long k (subst (λ c. k < c) (sym l.count) h)
      ∙ ap (λ xs. take p.n (drop (k * p.n) xs)) (sym l.written)))

  -- the words lie inside the list
  pub words_fit : words * p.n ≤ length after
  words_fit =
      let e : length after ≡ length (joined l.near) + length (drop (words * p.n) before) = ap length l.written ∙ length-append (joined l.near) (drop (words * p.n) before) in
      let j : length (joined l.near) ≡ words * p.n = joined_length p.n l.near each_long ∙ ap (λ c. c * p.n) l.count in
      omega arith
