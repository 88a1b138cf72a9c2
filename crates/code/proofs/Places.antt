-- What stands at a place of the extended content, as it is worked out there.
use Rattle.std.proofs.Common.{◌≡◌, ℕ, ◌<◌, ◌≤◌, ltb, List, length, get_or, sym, ap, ◌∙◌, ap₂}
use Rattle.std.proofs.lemmas.Bool.{cond-true, cond-false, lt-ltb, le-ltb}
use Rattle.field.specs.Meaning.{Meaning, product_of}
use Rattle.poly.specs.Newton.{nested_of}
use Rattle.code.specs.Extension.{letter_at}

module _ (m : Meaning) (α β content d : List ℕ) (i : ℕ) where
  -- the content's own letter
  pub within : i < length content → get_or content i 0 ≡ letter_at m α β content d i
  unfolding letter_at
  within h = sym (cond-true (ltb i (length content)) _ _ (lt-ltb i (length content) h))

  -- after the content, the multiplier times the value of Newton's form
  pub after : (support multipliers : List ℕ) (value letter : ℕ)
      → length content ≤ i
      → support ≡ α
      → multipliers ≡ β
      → value ≡ nested_of m support d (get_or support i 0)
      → letter ≡ product_of m (get_or multipliers i 0) value
      → letter ≡ letter_at m α β content d i
  unfolding letter_at
  after support multipliers value letter h a b v l =
      l
      ∙ ap₂ (λ xs y. product_of m (get_or xs i 0) y) b (v ∙ ap (λ xs. nested_of m xs d (get_or xs i 0)) a)
      ∙ sym (cond-false (ltb i (length content)) _ _ (le-ltb i (length content) h))
