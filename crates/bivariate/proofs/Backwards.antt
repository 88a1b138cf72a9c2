-- Loops that read the first numbers of a list from the last one down.
use Rattle.std.proofs.Common.{◌≡◌, ℕ, suc, ◌+◌, ◌<◌, ◌≤◌, min, List, [], ◌∷◌, ◌++◌, length, take, get_or, sym, ap, ◌∙◌, arith}
use Rattle.std.proofs.lemmas.List.{get_or-take, get_or_append_left, length-take, length_push}
use Rattle.std.proofs.Math.Seq.{get_or-append_seam}

-- what is still to be read: a first part of the list, with at most n members
pub record Left {X : Type 0} (d : X) (xs : List X) (n : ℕ) (rest : List X) : Type 0 where
  pub short : length rest ≤ n
  pub same : (k : ℕ) → k < length rest → get_or rest k d ≡ get_or xs k d

module _ {X : Type 0} (d : X) (xs : List X) (n : ℕ) where
  pub length_first : n ≤ length xs → length (take n xs) ≡ n
  length_first h = let e : length (take n xs) ≡ min n (length xs) = length-take n xs in omega arith

  pub left_all : n ≤ length xs → Left d xs n (take n xs)
  left_all h =
      let e : length (take n xs) ≡ n = length_first h in
      record { short = omega arith; same = λ k l. get_or-take n xs k d (omega arith) }

  module _ (rest new : List X) (x : X) (is : rest ≡ new ++ x ∷ []) (left : Left d xs n rest) where
    pub left_length : length rest ≡ suc (length new)
    left_length =
        let e : length (new ++ x ∷ []) ≡ length new + 1 = length_push new x in
        let f : length rest ≡ length (new ++ x ∷ []) = ap length is in
        omega arith

    pub left_more : Left d xs n new
    left_more =
        let e : length rest ≡ suc (length new) = left_length in
        let s : length rest ≤ n = left.short in
        record {
          short = omega arith;
          same = λ k l.
              sym (get_or_append_left new (x ∷ []) d k l)
              ∙ sym (ap (λ ys. get_or ys k d) is)
              ∙ left.same k (omega arith);
        }

    -- the one that is read
    pub left_read : x ≡ get_or xs (length new) d
    left_read =
        let e : length rest ≡ suc (length new) = left_length in
        sym (get_or-append_seam new x [] d)
        ∙ sym (ap (λ ys. get_or ys (length new) d) is)
        ∙ left.same (length new) (omega arith)
