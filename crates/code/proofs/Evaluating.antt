-- The loop that writes the word of a polynomial.
use Rattle.std.proofs.Common.{◌≡◌, ℕ, ◌+◌, ◌<◌, ◌≤◌, min, cond, ltb, List, ◌++◌, length, take, drop, set, replicate, sym, ◌∙◌, arith}
use lib.ListN.{length-replicate, get_or-replicate}
use Rattle.std.proofs.lemmas.List.{length-take}
use Rattle.field.specs.Meaning.{Meaning}
use Rattle.plan.specs.declared.Plan.{Plan}
use Rattle.bivariate.proofs.Parts.{Part, part_none, part_write, part_all, pick_below, pick_above}
use Rattle.code.specs.Decoding.{letter_of, evaluated_of}

-- what stands at place i of the array
abbrev array_at : Plan → Meaning → List ℕ → ℕ → ℕ
array_at p m f i = cond (ltb i p.n) (letter_of p m f i) 0

abbrev zeros : List ℕ
zeros = replicate {A = ℕ} 64 0

-- the first letters are those of the polynomial
unfoldable pub Evaluating : Plan → Meaning → List ℕ → ℕ → ℕ → List ℕ → Type 0
Evaluating p m f n i xs = Part 0 (array_at p m f) zeros n i xs

module _ (p : Plan) (m : Meaning) (f : List ℕ) where
  pub evaluating_none : (n : ℕ) → Evaluating p m f (length (take n zeros)) 0 (take n zeros)
  unfolding Evaluating
  evaluating_none n = part_none 0 (array_at p m f) zeros n

  pub evaluating_more : (n i : ℕ) (xs : List ℕ) (v : ℕ)
      → n ≡ p.n
      → i < length (take n zeros)
      → Evaluating p m f (length (take n zeros)) i xs
      → v ≡ letter_of p m f i
      → Evaluating p m f (length (take n zeros)) (i + 1) (set xs i v)
  unfolding Evaluating
  evaluating_more n i xs v en h u e =
      let l : length (take n zeros) ≡ min n (length zeros) = length-take n zeros in
      part_write 0 (array_at p m f) zeros _ i xs v h u (e ∙ sym (pick_below i p.n (letter_of p m f i) 0 (omega arith)))

  pub evaluating_all : (n i : ℕ) (xs : List ℕ)
      → n ≡ p.n
      → length (take n zeros) ≤ i
      → Evaluating p m f (length (take n zeros)) i xs
      → xs ++ drop n zeros ≡ evaluated_of p m f
  unfolding Evaluating evaluated_of
  evaluating_all n i xs en h u =
      part_all
      0
      (array_at p m f)
      zeros
      n
      64
      i
      xs
      (length-replicate {A = ℕ} 64 0)
      (let high : p.n ≤ 64 = p.n_high in omega arith)
      h
      u
      (λ k a b. get_or-replicate {A = ℕ} 64 k 0 0 b ∙ sym (pick_above k p.n (letter_of p m f k) 0 (omega arith)))
