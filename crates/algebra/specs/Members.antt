-- Members of lists.
use Rattle.std.specs.Prelude.{◌≡◌, ◌⊎◌, List, [], ◌∷◌}

-- a stands in the list
abbrev pub Member : {A : Type 0} → A → List A → Type 0
Member a [] = ⊥
Member a (b ∷ bs) = (a ≡ b) ⊎ Member a bs

-- nothing stands in the list twice
abbrev pub NoRepetition : {A : Type 0} → List A → Type 0
NoRepetition [] = Unit {0}
NoRepetition (a ∷ xs) = (Member a xs → ⊥) × NoRepetition xs
