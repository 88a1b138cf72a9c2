-- The steps of a listing put together: what each step promises gives what the listing promises.
use Rattle.std.proofs.Common.{◌≡◌, ℕ, suc, ◌-◌, ◌*◌, ◌<◌, ◌≤◌, Bool, List, [], ◌++◌, map, length, get_or, take, drop, None, sym, ap, ◌∙◌, subst, ap₂, mul-le-mul, arith}
use Rattle.std.proofs.lemmas.List.{length-map}
use Rattle.std.proofs.lemmas.List.Sorted.{length_permutation}
use Rattle.std.specs.List.Sorted.{IsPermutation}
use Rattle.fault.specs.First.{First}
use Rattle.algebra.specs.Operations.{Lawful}
use Rattle.algebra.specs.Elements.{element_ring}
use Rattle.algebra.specs.RootList.{ListsRoots}
use Rattle.field.specs.Meaning.{Meaning, operations}
use Rattle.plan.specs.declared.Plan.{Plan}
use Rattle.plan.proofs.Facts as facts
use Rattle.bivariate.specs.Flat.{flat_of}
use Rattle.bivariate.specs.Lifted.{polynomial_of, Sized}
use Rattle.interpolation.specs.Runs.{Interpolant}
use Rattle.roots.specs.Found.{Found, Finds}
use Rattle.code.specs.Decoding.{places_of, Kept}
use Rattle.code.specs.Faults.{refusal_of, ListFails}
use Rattle.code.specs.Listing.{joined, weight_of, width_of, polynomial_in, Interpolates, Held, Listed, Tested, Decoded}
use Rattle.code.proofs.Interpolants as interpolants
use Rattle.code.proofs.Nearness.{nearby}
use Rattle.code.proofs.Readiness.{ready_size, ready_length, ready_room, ready_workspace}
use Rattle.code.proofs.Sorting.{Sorted}
use Rattle.code.proofs.Workspaces as workspaces

module _ (p : Plan) (m : Meaning) (law : Lawful (operations m)) (heard list workspace : List ℕ) (good : First refusal_of (ListFails p m heard (length list) (length workspace)) None) (q : List (List ℕ)) (b : Bool) (interpolant : Interpolant m (places_of p m heard) p.l (width_of p) (weight_of p) q b) where
  same : p.size ≡ m.size
  same = ready_size p m heard (length list) (length workspace) good

  heard_long : length heard ≡ p.n
  heard_long = ready_length p m heard (length list) (length workspace) good

  serves : interpolants.Serves p m law same heard (polynomial_of (operations m) law q) × ((c i : ℕ) → get_or (get_or q c []) i 0 < m.size)
  serves = interpolants.serves p m law same heard q b interpolant

  sized : Sized (operations m) p.l (width_of p) (weight_of p) q
  sized = interpolants.sized p m law same heard q serves.0 serves.1

  weight_small : weight_of p < 64
  weight_small = let h : p.n ≤ 64 = p.n_high in let k : 2 ≤ p.n = p.n_low in omega arith

  module _ (l bound degree tested : ℕ) (cs : List (List ℕ)) (el : l ≡ p.l) (eb : bound ≡ width_of p) (ed : degree ≡ weight_of p) (et : tested ≡ length cs) (finds : Finds m q l bound degree cs tested) where
    -- the roots that the search finds
    found : Found m law q p.l (weight_of p) cs tested
    found =
        subst
        (λ n. Finds m q n (width_of p) (weight_of p) cs tested)
        el
        (subst (λ n. Finds m q l n (weight_of p) cs tested) eb (subst (λ n. Finds m q l bound n cs tested) ed finds))
        law
        p.l_high
        (facts.bound_high p)
        weight_small
        sized
        serves.0.nonzero

    -- so many words fit into the list
    pub words_fit : (kept sorted : List (List ℕ)) (n : ℕ)
        → Kept p m heard cs (length cs) kept
        → IsPermutation kept sorted
        → n ≡ p.n
        → length sorted * n ≤ length list
    words_fit kept sorted n keeps shuffled e =
        let words : ℕ = length sorted in
        let k : length sorted ≡ length kept = length_permutation kept sorted shuffled in
        let few : length kept ≤ length cs = keeps.few in
        let f : tested < p.l = found.few in
        let a : words * n ≤ (p.l - 1) * p.n = mul-le-mul {n₁ = words} {m₁ = n} {n₂ = p.l - 1} {m₂ = p.n} (omega arith) (omega arith) in
        let r = ready_room p m heard (length list) (length workspace) good in
        omega arith

    -- Q, as the workspace holds it
    module _ (workspace' : List ℕ) (l' bound' : ℕ) (el' : l' ≡ p.l) (eb' : bound' ≡ width_of p) (flat : workspace' ≡ flat_of q l' bound' workspace) where
      room : 32768 ≤ length workspace
      room = ready_workspace p m heard (length list) (length workspace) good

      flattened : workspace' ≡ flat_of q p.l (width_of p) workspace
      flattened = flat ∙ ap (λ n. flat_of q n bound' workspace) el' ∙ ap (λ n. flat_of q p.l n workspace) eb'

      held : Held p m workspace workspace'
      held = subst (Held p m workspace) (sym flattened) (workspaces.held p m q workspace room sized)

      is : polynomial_in p m law workspace' ≡ polynomial_of (operations m) law q
      is = ap (polynomial_in p m law) flattened ∙ workspaces.written p m q workspace room sized law

      polynomial : Interpolates p m law heard (polynomial_in p m law workspace')
      polynomial =
          subst (Interpolates p m law heard) (sym is) (interpolants.interpolates p m law same heard (polynomial_of (operations m) law q) serves.0)

      dimension : suc (weight_of p) ≡ p.n - p.t
      dimension = let k : p.t < p.n = p.t_high in omega arith

      candidates : Tested p m law (polynomial_in p m law workspace') tested
      candidates =
          record {
            roots = found.roots;
            all =
                subst
                (λ Q. ListsRoots (element_ring (operations m) law) p.l (p.n - p.t) Q found.roots)
                (sym is)
                (subst (λ d. ListsRoots (element_ring (operations m) law) p.l d (polynomial_of (operations m) law q) found.roots) dimension found.all);
            count = found.many;
          }

      module _ (words n : ℕ) (kept sorted : List (List ℕ)) (list' : List ℕ) (en : n ≡ p.n) (ew : words ≡ length sorted) (keeps : Kept p m heard cs (length cs) kept) (shuffled : IsPermutation kept sorted) (rises : Sorted sorted (length sorted)) (put : list' ≡ joined (map (take n) sorted) ++ drop (length sorted * n) list) where
        listed : Listed p m heard list list' words
        listed =
            record {
              near = map (take p.n) sorted;
              nearby =
                  nearby
                  p
                  m
                  law
                  same
                  heard
                  heard_long
                  (polynomial_of (operations m) law q)
                  serves.0
                  cs
                  found.roots
                  found.all
                  (λ i h. found.coefficients i (subst (λ (k : ℕ). i < k) found.many h))
                  kept
                  sorted
                  (subst (λ k. Kept p m heard cs k kept) (sym (found.many ∙ et)) keeps)
                  shuffled
                  rises;
              count = length-map sorted (take p.n) ∙ sym ew;
              written = put ∙ ap₂ (λ k c. joined (map (take k) sorted) ++ drop (c * k) list) en (sym ew);
            }

        -- the listing does what it promises
        pub decoded : Decoded p m heard list list' workspace workspace' words tested
        decoded =
            record {
              law = law;
              listed = listed;
              held = held;
              polynomial = polynomial;
              candidates = candidates;
            }
