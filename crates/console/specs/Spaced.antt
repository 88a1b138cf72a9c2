-- How words are written.
use Rattle.std.specs.Prelude.{ℕ, ◌*◌, List, [], ◌∷◌, ◌++◌, map, take, drop, codes, decimal}
use Rattle.std.specs.List.{range_with_len}

-- numbers one after the other, each with a blank before it
abbrev pub spaced : List ℕ → List ℕ
spaced [] = []
spaced (x ∷ xs) = (codes " " ++ decimal x) ++ spaced xs

-- the words of a list that holds so many of them one after the other, n letters each
abbrev pub words_of : ℕ → ℕ → List ℕ → List (List ℕ)
words_of n count list = map (λ i. take n (drop (i * n) list)) (range_with_len 0 count)

-- words one after the other, each on a line of its own, with the newline (10) before it
abbrev pub lined : List (List ℕ) → List ℕ
lined [] = []
lined (w ∷ ws) = ((10 ∷ codes "word") ++ spaced w) ++ lined ws
