-- What the makers of fields answer is what their conditions ask for.
use Rattle.std.proofs.Common.{◌≡◌, ℕ, ◌≤◌, ◌==◌, Some, None, Option, MatchOption, Result, IfOk, find, sym, subst, refl, inl, inr, arith}
use Rattle.std.specs.Option.{ok_or}
use Rattle.std.specs.Result.{result_err}
use Rattle.fault.specs.First.{Judged, Before}
use Rattle.fault.proofs.Unique.{judged}
use Rattle.field.specs.declared.refusal.FieldFault.{FieldFault}
use Rattle.field.specs.declared.refusal.FieldFault.TheVariants.{Degree, Characteristic}
use Rattle.field.specs.Faults.{refusal_of, PrimeFails, BinaryFails}
use Rattle.field.specs.Modular.{Prime}
use Rattle.field.specs.PrimeTable.{primes, prime_found}

-- a fault is known by its number
known : (f g : FieldFault) → (refusal_of f).number ≡ (refusal_of g).number → (refusal_of f).place ≡ (refusal_of g).place → f ≡ g
known Degree Degree e p = refl
known Degree Characteristic e p = absurd (omega (arith, e))
known Characteristic Degree e p = absurd (omega (arith, e))
known Characteristic Characteristic e p = refl

pub prime_made : (p : ℕ) → (3 ≤ p) × (p ≤ 251) × Prime p → Judged refusal_of (PrimeFails p) None
prime_made p h = judged refusal_of (PrimeFails p) known None none
  where
    none : (g : FieldFault) → PrimeFails p g → ⊥
    none Degree t = t
    none Characteristic t = t h

pub prime_refused : (p : ℕ) → ((3 ≤ p) × (p ≤ 251) × Prime p → ⊥) → Judged refusal_of (PrimeFails p) (Some Characteristic)
prime_refused p n = judged refusal_of (PrimeFails p) known (Some Characteristic) (n, none)
  where
    none : (g : FieldFault) → Before (refusal_of g) (refusal_of Characteristic) → PrimeFails p g → ⊥
    none Degree b t = t
    none Characteristic (inl b) t = omega (arith, b)
    none Characteristic (inr b) t = omega (arith, b.1)

-- what the search through the table of primes is to answer for p
abbrev pub Listed : ℕ → Result ℕ FieldFault → Type 0
Listed p r = Judged refusal_of (PrimeFails p) (result_err r) × IfOk r (λ q. (q ≡ p) × (3 ≤ q) × (q ≤ 251) × Prime q)

pub prime_entry : (p : ℕ) (r : Result ℕ FieldFault) → r ≡ ok_or (find (λ q. q == p) primes) Characteristic → Listed p r
prime_entry p r e = subst (Listed p) (sym e) (go (find (λ q. q == p) primes) (prime_found p))
  where
    go : (o : Option ℕ) → MatchOption o ((3 ≤ p) × (p ≤ 251) × Prime p → ⊥) (λ q. (q ≡ p) × (3 ≤ p) × (p ≤ 251) × Prime p) → Listed p (ok_or o Characteristic)
    go None h = (prime_refused p h, tt)
    go (Some q) h =
        let within = subst (λ (x : ℕ). (3 ≤ x) × (x ≤ 251) × Prime x) (sym h.0) (h.1, h.2, h.3) in
        (prime_made p (h.1, h.2, h.3), (h.0, within.0, within.1, within.2))

pub binary_made : (m : ℕ) → (2 ≤ m) × (m ≤ 8) → Judged refusal_of (BinaryFails m) None
binary_made m h = judged refusal_of (BinaryFails m) known None none
  where
    none : (g : FieldFault) → BinaryFails m g → ⊥
    none Degree t = t h
    none Characteristic t = t

pub binary_refused : (m : ℕ) → ((2 ≤ m) × (m ≤ 8) → ⊥) → Judged refusal_of (BinaryFails m) (Some Degree)
binary_refused m n = judged refusal_of (BinaryFails m) known (Some Degree) (n, none)
  where
    none : (g : FieldFault) → Before (refusal_of g) (refusal_of Degree) → BinaryFails m g → ⊥
    none Degree (inl b) t = omega (arith, b)
    none Degree (inr b) t = omega (arith, b.1)
    none Characteristic b t = t
