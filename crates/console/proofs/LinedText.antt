-- One word more of a list that is written word by word.
use Rattle.std.proofs.Common.{◌≡◌, ℕ, ◌+◌, ◌*◌, List, [], ◌∷◌, ◌++◌, take, drop, codes, sym, refl, ap, ◌∙◌, append_assoc, append-nil, arith}
use Rattle.std.proofs.lemmas.List.FromFn.{map-range_with_len_more}
use Rattle.console.specs.Spaced.{spaced, words_of, lined}

lined_append : (vs ws : List (List ℕ)) → lined (vs ++ ws) ≡ lined vs ++ lined ws
lined_append [] ws = refl
lined_append (v ∷ vs) ws =
    ap (λ t. ((10 ∷ codes "word") ++ spaced v) ++ t) (lined_append vs ws)
    ∙ sym (append_assoc ((10 ∷ codes "word") ++ spaced v) (lined vs) (lined ws))

pub lined_more : (n : ℕ) (list : List ℕ) (i : ℕ) (word : List ℕ) → word ≡ take n (drop (i * n) list) → lined (words_of n i list) ++ ((10 ∷ codes "word") ++ spaced word) ≡ lined (words_of n (i + 1) list)
lined_more n list i word e =
    sym
    (ap lined (map-range_with_len_more (λ k. take n (drop (k * n) list)) 0 i i (omega arith) ∙ ap (λ w. words_of n i list ++ (w ∷ [])) (sym e))
    ∙ lined_append (words_of n i list) (word ∷ [])
    ∙ ap (λ t. lined (words_of n i list) ++ t) (append-nil ((10 ∷ codes "word") ++ spaced word)))
