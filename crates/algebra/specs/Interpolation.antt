-- The polynomial through given points, in Newton's form.
use Rattle.std.specs.Prelude.{◌≡◌, ℕ, zero, suc, ◌<◌}
use Rattle.algebra.specs.Ring.{Field, sub}
use Rattle.algebra.specs.Series.{Series, tail, constant, x_minus, series}

-- the first m members of the sequence are distinct
abbrev pub Separate : {K : Type 0} → ℕ → (ℕ → K) → Type 0
Separate m α = (i j : ℕ) → i < m → j < m → α i ≡ α j → i ≡ j

-- the divided differences against the first point: (β(i + 1) − β 0) / (α(i + 1) − α 0)
abbrev pub differences : {K : Type 0} → Field K → (ℕ → K) → (ℕ → K) → ℕ → K
differences F α β i =
    F.ring.mul (sub F.ring (β (suc i)) (β 0)) (F.inv (sub F.ring (α (suc i)) (α 0)))

-- the polynomial of degree below m through the points (α i, β i), i < m: β 0 + (x − α 0) times the one through the divided differences
abbrev pub newton : {K : Type 0} → Field K → ℕ → (ℕ → K) → (ℕ → K) → Series K
newton F zero α β = (series F.ring).zero
newton F (suc m) α β =
    (series F.ring
    ).add
    (constant F.ring (β 0))
    ((series F.ring).mul (x_minus F.ring (α 0)) (newton F m (tail α) (differences F α β)))

-- its value at z
abbrev pub newton_value : {K : Type 0} → Field K → ℕ → (ℕ → K) → (ℕ → K) → K → K
newton_value F zero α β z = F.ring.zero
newton_value F (suc m) α β z =
    F.ring.add
    (β 0)
    (F.ring.mul (sub F.ring z (α 0)) (newton_value F m (tail α) (differences F α β) z))
