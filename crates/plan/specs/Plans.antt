-- What a plan holds.
use Rattle.std.specs.Prelude.{◌≡◌, ℕ, ◌-◌, List, [], ◌∷◌, ◌++◌, length, replicate}
use Rattle.plan.specs.declared.asked.Parameters.{Parameters}
use Rattle.plan.specs.declared.Plan.{Plan}

-- the numbers that a plan holds
abbrev pub numbers_of : Plan → Parameters
numbers_of p = record { size = p.size; n = p.n; t = p.t; w = p.w; k = p.k; l = p.l }

-- a list in an array of 64, followed by zeros
abbrev pub padded : List ℕ → List ℕ
padded xs = xs ++ replicate (64 - length xs) 0

-- the plan holds exactly the numbers asked for, the support α and the multipliers β
pub record Asked (a : Parameters) (α β : List ℕ) (p : Plan) : Type 0 where
  pub numbers : numbers_of p ≡ a
  pub supported : p.support ≡ padded α
  pub multiplied : p.multipliers ≡ padded β

-- the numbers of the starting plan: two letters over the field of two elements, one error, multiplicity 1, width 3
abbrev pub starting_numbers : Parameters
starting_numbers = record { size = 2; n = 2; t = 1; w = 1; k = 1; l = 3 }

-- the support of the starting plan
abbrev pub starting_support : List ℕ
starting_support = 0 ∷ 1 ∷ []

-- the multipliers of the starting plan
abbrev pub starting_multipliers : List ℕ
starting_multipliers = 1 ∷ 1 ∷ []
