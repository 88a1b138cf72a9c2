-- The theorems of the roots and of the search for them, over every lawful finite field.
use Prim.Native.Nat.{suc}
use Rattle.algebra.specs.Operations.{Operations, Lawful}
use Rattle.algebra.specs.Elements.{element_ring, elements, into}
use Rattle.algebra.specs.RootList.{Enumerates, search}
use Rattle.algebra.specs.RootTheorems.{FewRoots, DivisionByX, DivisionEnds, RootStep, ConstantRoot, SearchFindsRoots}
use Rattle.algebra.proofs.Elements.{into_injective, into_number}
use Rattle.algebra.proofs.FewRoots.{few_roots}
use Rattle.algebra.proofs.RootSteps.{root_candidate, root_tail, weighted_next, below_next, nonzero_next, root_constant}
use Rattle.algebra.proofs.Lowering.{root_lower, nonzero_lower, weighted_lower, below_lower_y}
use Rattle.algebra.proofs.Strip.{strip_start}
use Rattle.algebra.proofs.ListedRoots.{listed, from_to_list}
use Rattle.algebra.proofs.SearchLevels.{search_lists, few_listed}

-- the numbers below the size are all elements, each once
pub elements_enumerated : (o : Operations) (law : Lawful o) → Enumerates o.size (into o law)
elements_enumerated o law = (λ i j. into_injective o law i j, λ a. (a.0, a.1, into_number o law a))

pub fewer_roots : FewRoots
fewer_roots o law = few_roots (elements o law)

pub division_by_x : DivisionByX
division_by_x o law l s D Q y v =
    let R = element_ring o law in (
      λ f. root_lower R l Q f v,
      nonzero_lower R l Q y v,
      weighted_lower R s D Q,
      below_lower_y R l Q y,
    )

pub division_ends : DivisionEnds
division_ends o law = strip_start (elements o law)

pub step_of_roots : RootStep
step_of_roots o law l s D Q f y =
    let R = element_ring o law in (
      root_candidate R l Q f,
      root_tail R l Q f,
      nonzero_next R l Q (f 0) y,
      weighted_next R l s D Q (f 0),
      below_next R l Q (f 0),
    )

pub constant_roots : ConstantRoot
constant_roots o law = root_constant (element_ring o law)

pub search_finds_roots : SearchFindsRoots
search_finds_roots o law l D s Q w =
    let F = elements o law in
    let R = element_ring o law in
    let r = search_lists F (into o law) o.size l D s Q (elements_enumerated o law) w in (
      r,
      λ f b e. (listed R l (suc s) Q (search F (into o law) o.size l D s Q) f r b e, from_to_list R (suc s) f b),
      λ z y. few_listed F l (suc s) Q (search F (into o law) o.size l D s Q) z y r,
    )
