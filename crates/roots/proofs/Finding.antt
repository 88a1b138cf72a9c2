-- What the search puts down are all roots, each once.
use Rattle.std.proofs.Common.{◌≡◌, ℕ, suc, ◌<◌, ◌≤◌, List, [], map, length, get_or, take, sym, ap, ◌∙◌, arith}
use Rattle.std.proofs.lemmas.List.{length-map, get_or-map, take_all}
use Rattle.algebra.specs.Operations.{Operations, Lawful}
use Rattle.algebra.specs.Elements.{Elem, element_ring, elements, into}
use Rattle.algebra.specs.RootSearch.{Nonzero}
use Rattle.algebra.specs.RootList.{ListsRoots, search}
use Rattle.algebra.proofs.ListMembers.{member_at}
use Rattle.algebra.proofs.RootTheorems.{search_finds_roots}
use Rattle.field.specs.Meaning.{Meaning, operations}
use Rattle.bivariate.specs.Lifted.{polynomial_of, Sized}
use Rattle.bivariate.proofs.LiftedSizes.{within_weighted, narrow_below}
use Rattle.roots.specs.Search.{roots_of, zero_word}
use Rattle.roots.specs.Found.{numbers, Finds}
use Rattle.roots.proofs.Words.{placed, placed_read}
use Rattle.roots.proofs.Lifting.{roots_lift}

module _ (m : Meaning) (q : List (List ℕ)) (l bound degree : ℕ) (law : Lawful (operations m)) (small : l ≤ 8) (fits : bound ≤ 256) (sized : Sized (operations m) l bound degree q) where
  abbrev o : Operations
  o = operations m

  -- the roots as words of elements
  abbrev pub listed : List (List (Elem o))
  listed = search (elements o law) (into o law) m.size l bound degree (polynomial_of o law q)

  pub listed_roots : ListsRoots (element_ring o law) l (suc degree) (polynomial_of o law q) listed
  listed_roots =
      (search_finds_roots o law l bound degree (polynomial_of o law q) (within_weighted m law q bound degree sized.within)).0

  pub listed_few : Nonzero (element_ring o law) (polynomial_of o law q) → length listed < l
  listed_few nonzero =
      (search_finds_roots
      o
      law
      l
      bound
      degree
      (polynomial_of o law q)
      (within_weighted m law q bound degree sized.within)
      ).2
      nonzero
      (narrow_below m law q l sized.narrow)

  -- the words of numbers stand for them
  pub words_listed : roots_of m l bound degree zero_word 0 q ≡ map (λ w. placed zero_word 0 (numbers o w)) listed
  words_listed = roots_lift m law l bound small fits degree zero_word 0 q sized

  pub words_many : length (roots_of m l bound degree zero_word 0 q) ≡ length listed
  words_many = ap length words_listed ∙ length-map listed (λ w. placed zero_word 0 (numbers o w))

  -- the coefficients of root i
  pub word_at : (i : ℕ)
      → i < length listed
      → degree < 64
      → take (suc degree) (get_or (roots_of m l bound degree zero_word 0 q) i []) ≡ numbers o (get_or listed i [])
  word_at i h short =
      ap (λ ws. take (suc degree) (get_or ws i [])) words_listed
      ∙ ap (take (suc degree)) (get_or-map (λ w. placed zero_word 0 (numbers o w)) listed i [] [] h)
      ∙ placed_read
      (suc degree)
      (numbers o (get_or listed i []))
      (length-map (get_or listed i []) (λ a. a.0) ∙ listed_roots.long (get_or listed i []) (member_at listed i [] h))
      (omega arith)

-- the first seven words are all roots
pub found_all : (m : Meaning) (q : List (List ℕ)) (l bound degree : ℕ) (words : List (List ℕ)) (count : ℕ)
    → words ≡ take 7 (roots_of m l bound degree zero_word 0 q)
    → count ≡ length words
    → Finds m q l bound degree words count
found_all m q l bound degree words count done long law small fits short sized nonzero =
    record {
      roots = listed m q l bound degree law small fits sized;
      all = listed_roots m q l bound degree law small fits sized;
      many = sym same;
      few = omega (arith, same, few);
      coefficients = coefficients;
    }
  where
    few : length (listed m q l bound degree law small fits sized) < l
    few = listed_few m q l bound degree law small fits sized nonzero

    many : length (roots_of m l bound degree zero_word 0 q) ≡ length (listed m q l bound degree law small fits sized)
    many = words_many m q l bound degree law small fits sized

    -- there is room for all of them
    whole : words ≡ roots_of m l bound degree zero_word 0 q
    whole = done ∙ take_all 7 (roots_of m l bound degree zero_word 0 q) (omega (arith, many, few))

    same : count ≡ length (listed m q l bound degree law small fits sized)
    same = long ∙ ap length whole ∙ many

    coefficients : (i : ℕ)
        → i < count
        → take (suc degree) (get_or words i [])
        ≡ numbers (operations m) (get_or (listed m q l bound degree law small fits sized) i [])
    coefficients i h =
        ap (λ xs. take (suc degree) (get_or xs i [])) whole
        ∙ word_at m q l bound degree law small fits sized i (omega (arith, same)) short
