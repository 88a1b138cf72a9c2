-- The places where two words differ, and the test of a word by their number.
use Rattle.std.proofs.Common.{◌≡◌, ℕ, ◌+◌, ◌≤◌, Bool, true, false, not, ◌&&◌, eqb, List, [], ◌∷◌, filter, length, take, Decides, sym, refl, ap, ◌∙◌, subst, arith}
use Rattle.std.specs.List.{zip}
use Rattle.std.proofs.lemmas.Bool.{cond-true, cond-false, and_parts, and_from}
use Rattle.field.specs.Meaning.{Meaning}
use Rattle.plan.specs.declared.Plan.{Plan}
use Rattle.code.specs.Codes.{Letters}
use Rattle.code.specs.Decoding.{Near}
use Rattle.code.specs.Listing.{mismatch, distance}

-- the distance is the number of the pairs of letters that differ
distance_of_pairs : (a b : List ℕ) (n : ℕ) → n ≡ length (filter (λ p. not (eqb p.0 p.1)) (zip a b)) → n ≡ distance a b
distance_of_pairs a b n e = e ∙ pairs a b
  where
    pairs : (a b : List ℕ) → length (filter (λ p. not (eqb p.0 p.1)) (zip a b)) ≡ distance a b
    pairs [] ys = refl
    pairs (x ∷ xs) [] = refl
    pairs (x ∷ xs) (y ∷ ys) = one (eqb x y) refl (pairs xs ys)
      where
        one : (b : Bool) → eqb x y ≡ b → length (filter (λ p. not (eqb p.0 p.1)) (zip xs ys)) ≡ distance xs ys → length (filter (λ p. not (eqb p.0 p.1)) ((x, y) ∷ zip xs ys)) ≡ mismatch x y + distance xs ys
        one true e r =
            ap length (cond-false (not (eqb x y)) ((x, y) ∷ filter (λ p. not (eqb p.0 p.1)) (zip xs ys)) (filter (λ p. not (eqb p.0 p.1)) (zip xs ys)) (ap not e))
            ∙ r
            ∙ (let z : mismatch x y ≡ 0 = cond-true (eqb x y) 0 1 e in omega arith)
        one false e r =
            ap length (cond-true (not (eqb x y)) ((x, y) ∷ filter (λ p. not (eqb p.0 p.1)) (zip xs ys)) (filter (λ p. not (eqb p.0 p.1)) (zip xs ys)) (ap not e))
            ∙ (let z : mismatch x y ≡ 1 = cond-false (eqb x y) 0 1 e in omega (arith, r))

-- both tests decide together
pub near_decided : (p : Plan) (m : Meaning) (heard array word : List ℕ) (n d w : ℕ) (letters close r : Bool)
    → n ≡ p.n
    → word ≡ take n array
    → d ≡ length (filter (λ p. not (eqb p.0 p.1)) (zip word heard))
    → w ≡ p.w
    → Decides letters (Letters m word)
    → Decides close (d ≤ w)
    → r ≡ (letters && close)
    → Decides r (Near p m heard array)
near_decided p m heard array word n d w letters close r en ew pairs e l c er = (
  λ t.
      let b = and_parts letters close (sym er ∙ t) in
      record {
        letters = subst (Letters m) is (l.0 b.0);
        close = subst (λ v. distance v heard ≤ p.w) is (let h : d ≤ w = c.0 b.1 in omega (arith, ed));
      },
  λ near.
      er
      ∙ and_from
      letters
      close
      (l.1 (subst (Letters m) (sym is) near.letters))
      (c.1 (let h : distance word heard ≤ p.w = subst (λ v. distance v heard ≤ p.w) (sym is) near.close in omega (arith, ed))),
)
  where
    ed : d ≡ distance word heard
    ed = distance_of_pairs word heard d pairs

    is : word ≡ take p.n array
    is = ew ∙ ap (λ k. take k array) en
