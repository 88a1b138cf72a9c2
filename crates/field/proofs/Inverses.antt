-- The inverse by a power, as the kinds of field mean it.
use Rattle.std.proofs.Common.{◌≡◌, ℕ, ◌-◌, ◌≤◌, ◌<◌, ◌&&◌, Bool, cond, Option, Some, None, nat_lt, refl, ap, ◌∙◌, mod-lt, arith}
use Rattle.field.specs.Binary.{binary}
use Rattle.field.specs.BinaryLaws as laws
use Rattle.field.specs.Meaning.{Meaning, product_of, inverse_of}
use Rattle.field.specs.Modular.{modular}
use Rattle.field.specs.Powers.{power}
use Rattle.field.specs.PowersLemmas.{inverse_found}

-- the power size − 2 of an element other than 0
abbrev pub by_power : Meaning → ℕ → ℕ → Option ℕ
by_power m size a = cond (nat_lt 0 a && nat_lt a size) (Some (power (product_of m) 8 1 a (size - 2))) None

pub binary_by_power : (m : ℕ) (all : Bool) (a size : ℕ) (r : Option ℕ)
    → 2 ≤ m
    → m ≤ 8
    → size ≡ (binary m all).size
    → r ≡ by_power (binary m all) size a
    → r ≡ inverse_of (binary m all) a
binary_by_power m all a size r low high e is =
    is
    ∙ ap (λ n. by_power (binary m all) n a) e
    ∙ inverse_found (binary m all) (omega (arith, laws.four_elements m low high)) (laws.closed m low high) (λ x. refl) a

pub prime_by_power : (p a size : ℕ) (r : Option ℕ)
    → 3 ≤ p
    → size ≡ (modular p).size
    → r ≡ by_power (modular p) size a
    → r ≡ inverse_of (modular p) a
prime_by_power p a size r low e is =
    is
    ∙ ap (λ n. by_power (modular p) n a) e
    ∙ inverse_found (modular p) (omega arith) (λ x y _ _. mod-lt _ (omega arith)) (λ x. refl) a
