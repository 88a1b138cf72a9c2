-- The numbers of an alternant code and of its decoder by interpolation.
use Rattle.std.specs.Prelude.{ℕ, ◌+◌, ◌-◌, ◌*◌, ◌/◌, ◌<◌}

-- s, the greatest degree of a message polynomial
abbrev pub degree_of : ℕ → ℕ → ℕ
degree_of n t = n - t - 1

-- D, the bound under which the weighted degree of an interpolation polynomial stays
abbrev pub bound_of : ℕ → ℕ → ℕ → ℕ
bound_of n w k = k * (n - w)

-- the inequality: an interpolation polynomial has more coefficients, l·D - s·l(l-1)/2, than a zero of multiplicity k at each of n points gives equations, n·k(k+1)/2
abbrev pub Solvable : ℕ → ℕ → ℕ → ℕ → ℕ → Type 0
Solvable n t w k l = n * (k * (k + 1) / 2) + degree_of n t * (l * (l - 1) / 2) < l * bound_of n w k
