-- How a content is extended to a word: by the polynomial through its letters, each over its multiplier.
use Rattle.std.specs.Prelude.{◌≡◌, ℕ, Bool, cond, List, length, Some, None, Option, nat_lt, slice_index}
use Rattle.field.specs.Meaning.{Meaning, product_of}
use Rattle.plan.specs.declared.Plan.{Plan}
use Rattle.poly.specs.Arithmetic.{quotient_of}
use Rattle.poly.specs.Newton.{made, coefficients_of, nested_of}
use Rattle.code.specs.declared.refusal.CodeFault.{CodeFault}
use Rattle.code.specs.declared.refusal.CodeFault.TheVariants.{Content, Room}
use Rattle.code.specs.Codes.{Evaluates, content_of}

-- the letters of a content, each over the multiplier of its place
unfoldable pub scaled_of : Meaning → List ℕ → List ℕ → List ℕ
scaled_of m β content = made (length content) (λ i. quotient_of m (slice_index content i) (slice_index β i))

-- what stands at place i: the content's letter, and after the content the multiplier times the value of Newton's form with the coefficients d
unfoldable pub letter_at : Meaning → List ℕ → List ℕ → List ℕ → List ℕ → ℕ → ℕ
letter_at m α β content d i = cond (nat_lt i (length content)) (slice_index content i) (product_of m (slice_index β i) (nested_of m α d (slice_index α i)))

-- the content extended to n places
unfoldable pub extension_of : Meaning → ℕ → List ℕ → List ℕ → List ℕ → List ℕ
extension_of m n α β content = made n (letter_at m α β content (coefficients_of m α (scaled_of m β content)))

-- xs is the one list of n numbers that begins with the content and has β_i × f(α_i) at every place i for some f of degree below n − t
pub record Extends (p : Plan) (m : Meaning) (content xs : List ℕ) : Type 0 where
  pub long : length xs ≡ p.n
  pub begins : content_of p xs ≡ content
  pub evaluation : (f : List ℕ) × Evaluates p m f xs
  pub only : (ys g : List ℕ) → length ys ≡ p.n → Evaluates p m g ys → content_of p ys ≡ content → ys ≡ xs

-- the faults that are found last: what the content is extended to is no word, or the room is less than n
abbrev pub last_fault : Bool → ℕ → ℕ → Option CodeFault
last_fault is_word room n = cond is_word (cond (nat_lt room n) (Some Room) None) (Some Content)
