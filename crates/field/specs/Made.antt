-- Lists made from a function of the place.
use Rattle.std.specs.Prelude.{ℕ, List, map}
use Rattle.std.specs.List.{range_with_len}

-- the list of the n values f 0 to f (n − 1)
unfoldable pub made : {X : Type 0} → ℕ → (ℕ → X) → List X
made n f = map f (range_with_len 0 n)
