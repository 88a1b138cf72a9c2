-- Bounds on where the coefficients of a power series stand: degree from above, divisibility by a power of x from below.
use Rattle.std.specs.Prelude.{◌≡◌, ℕ, ◌≤◌, ◌<◌}
use Rattle.algebra.specs.Ring.{CommRing}
use Rattle.algebra.specs.Series.{Series}

-- f is a polynomial of degree below d: its coefficients from d on are zero
abbrev pub Below : {K : Type 0} → CommRing K → ℕ → Series K → Type 0
Below R d f = (n : ℕ) → d ≤ n → f n ≡ R.zero

-- x^m divides f: its first m coefficients are zero
abbrev pub Divisible : {K : Type 0} → CommRing K → ℕ → Series K → Type 0
Divisible R m f = (n : ℕ) → n < m → f n ≡ R.zero
