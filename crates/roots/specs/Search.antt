-- The search for roots over numbers, level by level.
use Rattle.std.specs.Prelude.{ℕ, zero, suc, min, cond, List, [], ◌∷◌, ◌++◌, replicate, ◌==◌, slice_set}
use Rattle.field.specs.Meaning.{Meaning}
use Rattle.bivariate.specs.Roots.{column, all_zero, lower_of, column_value_of, shifted_of}

-- q divided by x as long as x divides it, at most n times
unfoldable pub stripped_of : ℕ → ℕ → List (List ℕ) → List (List ℕ)
stripped_of l zero q = q
stripped_of l (suc n) q = cond (all_zero (column q 0) (min l 8)) (stripped_of l n (lower_of q)) q

-- the lists f 0 to f (n − 1), one after the other
unfoldable pub joined : (ℕ → List (List ℕ)) → ℕ → List (List ℕ)
joined f zero = []
joined f (suc n) = joined f n ++ f n

-- the roots of q of degree at most s, each as the coefficients chosen before it and then its own from place depth on
unfoldable pub roots_of : Meaning → ℕ → ℕ → ℕ → List ℕ → ℕ → List (List ℕ) → List (List ℕ)
roots_of m l bound zero chosen depth q =
    joined (λ g. cond (all_zero (column_value_of m g l (stripped_of l bound q)) (min bound 256)) (slice_set chosen depth g ∷ []) []) m.size
roots_of m l bound (suc s) chosen depth q =
    joined
    (λ g.
    cond
    (column_value_of m g l (stripped_of l bound q) 0 == 0)
    (roots_of m l bound s (slice_set chosen depth g) (suc depth) (shifted_of m g l bound (suc s) (stripped_of l bound q)))
    [])
    m.size

-- 64 zeros
abbrev pub zero_word : List ℕ
zero_word = replicate 64 0
