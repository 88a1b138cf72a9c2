-- Which words spell which command.
use Rattle.std.specs.Prelude.{◌≡◌, ℕ, ◌<◌, ◌≤◌, ◌⊎◌, List, [], map, length, Some, None, codes, Option, slice_index, slice_index_or, ⊤}
use Rattle.std.specs.Borrow.{Bor}

-- the commands by their words
pub data Verb : Type 0 where
  Prime : Verb
  BinaryTwo : Verb
  BinaryAll : Verb
  Sum : Verb
  Negative : Verb
  Product : Verb
  Inverse : Verb
  Plan : Verb
  Check : Verb
  Write : Verb
  ListWords : Verb

-- the command chooses a field or calculates in the one chosen
abbrev pub InField : Verb → Type 0
InField Plan = ⊥
InField Check = ⊥
InField Write = ⊥
InField ListWords = ⊥
InField _ = ⊤

-- the texts of the words of a line
abbrev pub texts : List (Bor (List ℕ)) → List (List ℕ)
texts words = map (λ w. w.now) words

-- the line asks for nothing: it has no first word, or one that begins with #
abbrev pub Silent : List (List ℕ) → Type 0
Silent ws = (length (slice_index_or ws 0 []) ≡ 0) ⊎ (slice_index (slice_index_or ws 0 []) 0 ≡ 35)

-- word i of the line is the text
abbrev pub Word : List (List ℕ) → ℕ → List ℕ → Type 0
Word ws i text = (i < length ws) × (slice_index_or ws i [] ≡ text)

-- o is the first place from there on at which a slash stands, none where there is none
abbrev pub FirstSlash : List (List ℕ) → ℕ → Option ℕ → Type 0
FirstSlash ws from None = (j : ℕ) → from ≤ j → Word ws j (codes "/") → ⊥
FirstSlash ws from (Some j) = (from ≤ j) × Word ws j (codes "/") × ((i : ℕ) → from ≤ i → i < j → Word ws i (codes "/") → ⊥)

-- the words spell the command: its keywords stand at their places, and there are as many words as it takes
abbrev pub Spells : Verb → List (List ℕ) → Type 0
Spells Prime ws = (length ws ≡ 3) × Word ws 0 (codes "field") × Word ws 1 (codes "prime")
Spells BinaryTwo ws = (length ws ≡ 4) × Word ws 0 (codes "field") × Word ws 1 (codes "binary") × Word ws 3 (codes "two")
Spells BinaryAll ws = (length ws ≡ 4) × Word ws 0 (codes "field") × Word ws 1 (codes "binary") × Word ws 3 (codes "all")
Spells Sum ws = (length ws ≡ 3) × Word ws 0 (codes "sum")
Spells Negative ws = (length ws ≡ 2) × Word ws 0 (codes "negative")
Spells Product ws = (length ws ≡ 3) × Word ws 0 (codes "product")
Spells Inverse ws = (length ws ≡ 2) × Word ws 0 (codes "inverse")
Spells Plan ws = Word ws 0 (codes "plan") × Word ws 7 (codes "/") × ((j : ℕ) × (8 ≤ j) × Word ws j (codes "/"))
Spells Check ws = Word ws 0 (codes "check")
Spells Write ws = Word ws 0 (codes "write")
Spells ListWords ws = Word ws 0 (codes "list")
