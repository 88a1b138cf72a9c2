-- The code of a plan over a field.
use Rattle.std.specs.Prelude.{◌≡◌, ℕ, ◌-◌, ◌<◌, List, length, take, drop, slice_index}
use Rattle.field.specs.Meaning.{Meaning, Letter, product_of}
use Rattle.plan.specs.declared.Plan.{Plan}
use Rattle.poly.specs.Polynomials.{Polynomial, value_of}

-- the support of a plan: n distinct elements
abbrev pub support_of : Plan → List ℕ
support_of p = take p.n p.support

-- the multipliers of a plan: n elements that are not 0
abbrev pub multipliers_of : Plan → List ℕ
multipliers_of p = take p.n p.multipliers

-- a list of letters
abbrev pub Letters : Meaning → List ℕ → Type 0
Letters m xs = (i : ℕ) → i < length xs → Letter m (slice_index xs i)

-- f is a polynomial of degree below n − t, and at every place i stands β_i × f(α_i)
pub record Evaluates (p : Plan) (m : Meaning) (f xs : List ℕ) : Type 0 where
  pub polynomial : Polynomial m (p.n - p.t) f
  pub values : (i : ℕ) → i < p.n → slice_index xs i ≡ product_of m (slice_index (multipliers_of p) i) (value_of m f (slice_index (support_of p) i))

-- the code: the words of n letters with β_i × f(α_i) at every place i, for some polynomial f of degree below n − t
pub record InCode (p : Plan) (m : Meaning) (word : List ℕ) : Type 0 where
  pub long : length word ≡ p.n
  pub letters : Letters m word
  pub evaluation : (f : List ℕ) × Evaluates p m f word

-- the content of a word: its first n − t letters
abbrev pub content_of : Plan → List ℕ → List ℕ
content_of p word = take (p.n - p.t) word

-- the one word of the code that begins with the content
pub record WordOf (p : Plan) (m : Meaning) (content word : List ℕ) : Type 0 where
  pub member : InCode p m word
  pub begins : content_of p word ≡ content
  pub only : (w : List ℕ) → InCode p m w → content_of p w ≡ content → w ≡ word

-- the place begins with the one word of the code that begins with the content, and what follows is as it was
pub record Written (p : Plan) (m : Meaning) (content before after : List ℕ) : Type 0 where
  pub word : WordOf p m content (take p.n after)
  pub rest : drop p.n after ≡ drop p.n before
