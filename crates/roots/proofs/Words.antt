-- Words of coefficients, and what is read from them.
use Rattle.std.proofs.Common.{◌≡◌, ℕ, suc, ◌+◌, ◌≤◌, List, [], ◌∷◌, ◌++◌, length, take, set, sym, ap, ◌∙◌, arith, length-set}
use Rattle.std.proofs.lemmas.List.{append-nil, append_assoc, take_more_set, length-replicate}
use Rattle.roots.specs.Search.{zero_word}

-- the coefficients xs written into a word from place depth on
abbrev pub placed : List ℕ → ℕ → List ℕ → List ℕ
placed chosen depth [] = chosen
placed chosen depth (x ∷ xs) = placed (set chosen depth x) (suc depth) xs

-- where there is room, they are read after those before them
pub placed_take : (chosen : List ℕ) (depth : ℕ) (xs : List ℕ)
    → depth + length xs ≤ length chosen
    → take (depth + length xs) (placed chosen depth xs) ≡ take depth chosen ++ xs
placed_take chosen depth [] h =
    let e : depth + 0 ≡ depth = omega arith in ap (λ n. take n chosen) e ∙ sym (append-nil (take depth chosen))
placed_take chosen depth (x ∷ xs) h =
    let e : depth + suc (length xs) ≡ suc depth + length xs = omega arith in
    let up : suc depth ≡ depth + 1 = omega arith in
    let n : length (set chosen depth x) ≡ length chosen = length-set chosen depth x in
    ap (λ k. take k (placed (set chosen depth x) (suc depth) xs)) e
    ∙ placed_take (set chosen depth x) (suc depth) xs (omega arith)
    ∙ ap (λ k. take k (set chosen depth x) ++ xs) up
    ∙ ap (λ ys. ys ++ xs) (take_more_set chosen depth x (omega arith))
    ∙ append_assoc (take depth chosen) (x ∷ []) xs

pub zero_word_long : length zero_word ≡ 64
zero_word_long = length-replicate {A = ℕ} 64 0

-- coefficients written from the start of a word on
pub placed_read : (n : ℕ) (xs : List ℕ) → length xs ≡ n → n ≤ 64 → take n (placed zero_word 0 xs) ≡ xs
placed_read n xs e h =
    let k : n ≡ 0 + length xs = omega arith in
    let z : length zero_word ≡ 64 = zero_word_long in
    ap (λ j. take j (placed zero_word 0 xs)) k ∙ placed_take zero_word 0 xs (omega arith)
