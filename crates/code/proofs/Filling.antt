-- The loops that write the letters over their multipliers, and the letters of the extended content.
use Rattle.std.proofs.Common.{◌≡◌, ℕ, ◌+◌, ◌<◌, ◌≤◌, List, length, get_or, set, ap, ◌∙◌, arith}
use Rattle.field.specs.Made.{made}
use Rattle.field.specs.Meaning.{Meaning}
use Rattle.field.proofs.Making.{Upto, upto_none, upto_write, upto_all}
use Rattle.poly.specs.Arithmetic.{quotient_of}
use Rattle.code.specs.Extension.{scaled_of, letter_at}

-- before i stand the letters over their multipliers
unfoldable pub Scaling : Meaning → List ℕ → List ℕ → List ℕ → ℕ → List ℕ → Type 0
Scaling m β content was i values = Upto 0 (λ k. quotient_of m (get_or content k 0) (get_or β k 0)) was i values

module _ (m : Meaning) (β content was : List ℕ) where
  pub scaling_none : Scaling m β content was 0 was
  unfolding Scaling
  scaling_none = upto_none 0 (λ k. quotient_of m (get_or content k 0) (get_or β k 0)) was

  pub scaling_more : (i v : ℕ) (values multipliers : List ℕ)
      → i < length was
      → Scaling m β content was i values
      → multipliers ≡ β
      → v ≡ quotient_of m (get_or content i 0) (get_or multipliers i 0)
      → Scaling m β content was (i + 1) (set values i v)
  unfolding Scaling
  scaling_more i v values multipliers h u q e =
      upto_write
      0
      (λ k. quotient_of m (get_or content k 0) (get_or β k 0))
      was
      i
      values
      v
      h
      u
      (e ∙ ap (λ xs. quotient_of m (get_or content i 0) (get_or xs i 0)) q)

  pub scaling_all : (i : ℕ) (values : List ℕ)
      → length was ≡ length content
      → length was ≤ i
      → Scaling m β content was i values
      → values ≡ scaled_of m β content
  unfolding Scaling scaled_of
  scaling_all i values e h u =
      upto_all 0 (λ k. quotient_of m (get_or content k 0) (get_or β k 0)) was (length content) i values e u (λ k l j. absurd (omega arith))

-- before i stand the letters of the extended content
unfoldable pub Filling : Meaning → List ℕ → List ℕ → List ℕ → List ℕ → List ℕ → ℕ → List ℕ → Type 0
Filling m α β content d was i word = Upto 0 (letter_at m α β content d) was i word

module _ (m : Meaning) (α β content d was : List ℕ) where
  pub filling_none : Filling m α β content d was 0 was
  unfolding Filling
  filling_none = upto_none 0 (letter_at m α β content d) was

  pub filling_more : (i v : ℕ) (word : List ℕ)
      → i < length was
      → Filling m α β content d was i word
      → v ≡ letter_at m α β content d i
      → Filling m α β content d was (i + 1) (set word i v)
  unfolding Filling
  filling_more i v word h u e = upto_write 0 (letter_at m α β content d) was i word v h u e

  pub filling_all : (n i : ℕ) (word : List ℕ)
      → length was ≡ n
      → length was ≤ i
      → Filling m α β content d was i word
      → word ≡ made n (letter_at m α β content d)
  unfolding Filling
  filling_all n i word e h u = upto_all 0 (letter_at m α β content d) was n i word e u (λ k l j. absurd (omega arith))
