-- The first fault is one only, where a fault is known by its number and place.
use Rattle.std.proofs.Common.{◌≡◌, ℕ, ◌<◌, ◌⊎◌, Some, None, Option, sym, refl, ap, inl, inr, arith}
use native.Mathlib.Decide.{dec_lt}
use Rattle.std.proofs.lemmas.Bool.Decides.{nat_tests}
use Rattle.fault.specs.declared.Refusal.{Refusal}
use Rattle.fault.specs.First.{rank, Before, First, Judged}

pub rank_injective : (a b : ℕ) → rank a ≡ rank b → a ≡ b
rank_injective a b e = grind (arith, nat_tests)

-- of two refusals one is before the other, unless number and place are the same
pub either : (a b : Refusal) → Before a b ⊎ (Before b a ⊎ ((a.number ≡ b.number) × (a.place ≡ b.place)))
either a b = by_rank (dec_lt (rank a.number) (rank b.number)) (dec_lt (rank b.number) (rank a.number))
  where
    by_place : a.number ≡ b.number → Dec (a.place < b.place) → Dec (b.place < a.place) → Before a b ⊎ (Before b a ⊎ ((a.number ≡ b.number) × (a.place ≡ b.place)))
    by_place e (yes p) d = inl (inr (e, p))
    by_place e (no p) (yes q) = inr (inl (inr (sym e, q)))
    by_place e (no p) (no q) = inr (inr (e, omega arith))

    by_rank : Dec (rank a.number < rank b.number) → Dec (rank b.number < rank a.number) → Before a b ⊎ (Before b a ⊎ ((a.number ≡ b.number) × (a.place ≡ b.place)))
    by_rank (yes p) d = inl (inl p)
    by_rank (no p) (yes q) = inr (inl (inl q))
    by_rank (no p) (no q) = by_place (rank_injective a.number b.number (omega arith)) (dec_lt a.place b.place) (dec_lt b.place a.place)

module _ {F : Type 0} (refusal : F → Refusal) (Holds : F → Type 0) (known : (f g : F) → (refusal f).number ≡ (refusal g).number → (refusal f).place ≡ (refusal g).place → f ≡ g) where
  unique : (o p : Option F) → First refusal Holds o → First refusal Holds p → p ≡ o
  unique None None h k = refl
  unique None (Some g) h k = absurd (h g k.0)
  unique (Some f) None h k = absurd (k f h.0)
  unique (Some f) (Some g) h k = go (either (refusal f) (refusal g))
    where
      go : Before (refusal f) (refusal g) ⊎ (Before (refusal g) (refusal f) ⊎ (((refusal f).number ≡ (refusal g).number) × ((refusal f).place ≡ (refusal g).place))) → Some g ≡ Some f
      go (inl b) = absurd (k.1 f b h.0)
      go (inr (inl b)) = absurd (h.1 g b k.0)
      go (inr (inr e)) = ap {B = Option F} Some (sym (known f g e.0 e.1))

  -- what is first is judged, both directions
  pub judged : (o : Option F) → First refusal Holds o → Judged refusal Holds o
  judged o h = record { first = h; only = λ p k. unique o p h k }
