-- What a line does to the console.
use Rattle.std.specs.Prelude.{◌≡◌, ℕ, ◌+◌, ◌<◌, true, false, ◌⊎◌, List, [], ◌∷◌, length, drop, Some, Ok, Err, vec_items, Result, Vec, MatchResult, slice_index, slice_index_or, slice_range}
use Rattle.std.specs.Str.Parse.{ParsesUnsigned}
use Rattle.std.specs.declared.alloc.Global.{Global}
use Rattle.plan.specs.declared.asked.Parameters.{Parameters}
use Rattle.command.specs.Lines.{FirstSlash, Spells, Verb, Prime, BinaryTwo, BinaryAll, Sum, Negative, Product, Inverse, Plan, Check, Write, ListWords}
use Rattle.console.specs.States.{Chosen, Planned, Checked, WrittenOut, ListedOut, OverField, with_field, inverted}
use Rattle.field.specs.Binary.{binary}
use Rattle.field.specs.Faults.{PrimeFails, BinaryFails}
use Rattle.field.specs.Meaning.{sum_of, negative_of, product_of, inverse_of}
use Rattle.field.specs.Modular.{modular}
use Rattle.console.specs.declared.answer.Answer.{Answer}
use Rattle.console.specs.declared.answer.Trouble.{Trouble}
use Rattle.console.specs.declared.answer.Trouble.TheVariants.{Unknown, Number, NoField, Memory}
use Rattle.console.specs.declared.state.Console.{Console}

-- the text writes a number of k bits, of which Then holds; or it writes none, and Else holds
abbrev pub Given : ℕ → List ℕ → (ℕ → Type 0) → Type 0 → Type 0
Given k text Then Else = (n : Result ℕ Trouble) × ParsesUnsigned k 10 text n × MatchResult n Then (λ _. Else)

-- a number was wanting, and nothing has changed
abbrev pub Failed : Console → Result Answer Trouble → Console → Type 0
Failed before r after = (r ≡ Err Number) × (after ≡ before)

-- the result is an answer of which P holds
abbrev pub Answered : Result Answer Trouble → (Answer → Type 0) → Type 0
Answered r P = (a : Answer) × (r ≡ Ok a) × P a

-- the text writes n, of k bits
abbrev pub Writes : ℕ → List ℕ → ℕ → Type 0
Writes k text n = ParsesUnsigned {E = Trouble} k 10 text (Ok n)

-- the text writes no number of k bits
abbrev pub WritesNone : ℕ → List ℕ → Type 0
WritesNone k text = ParsesUnsigned {E = Trouble} k 10 text (Err Number)

-- words 1 to 6 write the six numbers
abbrev pub SixNumbers : List (List ℕ) → List ℕ → Type 0
SixNumbers ws xs = (length xs ≡ 6) × ((i : ℕ) → i < 6 → Writes 64 (slice_index_or ws (i + 1) []) (slice_index xs i))

-- one of words 1 to 6 writes no number
abbrev pub NoNumber : List (List ℕ) → Type 0
NoNumber ws = (i : ℕ) × (i < 6) × WritesNone 64 (slice_index_or ws (i + 1) [])

-- the texts write the numbers, of 16 bits, one each
abbrev pub Elements : List (List ℕ) → List ℕ → Type 0
Elements ws xs = (length xs ≡ length ws) × ((i : ℕ) → i < length ws → Writes 16 (slice_index_or ws i []) (slice_index xs i))

-- a list of 16-bit numbers is read, or one of the words writes none, or there is no memory
abbrev pub Listed : List (List ℕ) → Result (Vec ℕ Global) Trouble → Type 0
Listed ws (Ok v) = Elements ws (vec_items v)
Listed ws (Err Unknown) = ⊥
Listed ws (Err Number) = (i : ℕ) × (i < length ws) × WritesNone 16 (slice_index_or ws i [])
Listed ws (Err NoField) = ⊥
Listed ws (Err Memory) = Unit {0}

-- the words of a plan: six numbers, a slash, the support α, a slash, the multipliers β
pub record PlanLine (ws : List (List ℕ)) (asked : Parameters) (α β : List ℕ) : Type 0 where
  pub six : SixNumbers ws (asked.size ∷ asked.n ∷ asked.t ∷ asked.w ∷ asked.k ∷ asked.l ∷ [])
  pub slash : ℕ
  pub second : FirstSlash ws 8 (Some slash)
  pub supported : Elements (slice_range ws 8 slash) α
  pub multiplied : Elements (drop (slash + 1) ws) β

-- a plan's line makes the plan that it writes, or some word of it writes no number, or there is no memory
abbrev pub RanPlan : List (List ℕ) → Console → Result Answer Trouble → Console → Type 0
RanPlan ws before (Ok a) after = (asked : Parameters) × (α : List ℕ) × (β : List ℕ) × PlanLine ws asked α β × Planned asked α β before a after
RanPlan ws before (Err Unknown) after = ⊥
RanPlan ws before (Err Number) after = (after ≡ before) × ((asked : Parameters) (α β : List ℕ) → PlanLine ws asked α β → ⊥)
RanPlan ws before (Err NoField) after = ⊥
RanPlan ws before (Err Memory) after = after ≡ before

-- the words after the first write a list of 16-bit numbers, of which P holds; or one of them writes none, or there is no memory
abbrev pub RanWord : (List ℕ → Result Answer Trouble → Type 0) → List (List ℕ) → Result Answer Trouble → Type 0
RanWord P ws r =
    ((xs : List ℕ) × Elements (drop 1 ws) xs × P xs r) ⊎ (((r ≡ Err Number) × ((xs : List ℕ) → Elements (drop 1 ws) xs → ⊥)) ⊎ (r ≡ Err Memory))

-- what the command does that the words spell
abbrev pub RanVerb : Verb → List (List ℕ) → Console → Result Answer Trouble → Console → Type 0
RanVerb Prime ws before r after =
    Given 64 (slice_index_or ws 2 []) (λ p. Answered r (λ a. Chosen (PrimeFails p) (modular p) before a after)) (Failed before r after)
RanVerb BinaryTwo ws before r after =
    Given 64 (slice_index_or ws 2 []) (λ m. Answered r (λ a. Chosen (BinaryFails m) (binary m false) before a after)) (Failed before r after)
RanVerb BinaryAll ws before r after =
    Given 64 (slice_index_or ws 2 []) (λ m. Answered r (λ a. Chosen (BinaryFails m) (binary m true) before a after)) (Failed before r after)
RanVerb Sum ws before r after =
    (after ≡ before) × Given 16 (slice_index_or ws 1 []) (λ a. Given 16 (slice_index_or ws 2 []) (λ b. r ≡ with_field before.field (λ m. Answer.Sum (sum_of m a b))) (r ≡ Err Number)) (r ≡ Err Number)
RanVerb Negative ws before r after =
    (after ≡ before) × Given 16 (slice_index_or ws 1 []) (λ a. r ≡ with_field before.field (λ m. Answer.Negative (negative_of m a))) (r ≡ Err Number)
RanVerb Product ws before r after =
    (after ≡ before) × Given 16 (slice_index_or ws 1 []) (λ a. Given 16 (slice_index_or ws 2 []) (λ b. r ≡ with_field before.field (λ m. Answer.Product (product_of m a b))) (r ≡ Err Number)) (r ≡ Err Number)
RanVerb Inverse ws before r after =
    (after ≡ before) × Given 16 (slice_index_or ws 1 []) (λ a. r ≡ with_field before.field (λ m. inverted (inverse_of m a))) (r ≡ Err Number)
RanVerb Plan ws before r after = RanPlan ws before r after
RanVerb Check ws before r after =
    (after ≡ before) × RanWord (λ xs. OverField before.field (λ m. Checked before.plan m xs)) ws r
RanVerb Write ws before r after =
    (after ≡ before) × RanWord (λ xs. OverField before.field (λ m. WrittenOut before.plan m xs)) ws r
RanVerb ListWords ws before r after =
    (after ≡ before) × RanWord (λ xs. OverField before.field (λ m. ListedOut before.plan m xs)) ws r

-- a line does what the command of V does that it spells; one that spells none of V is an error and changes nothing
abbrev pub RanAmong : (Verb → Type 0) → List (List ℕ) → Console → Result Answer Trouble → Console → Type 0
RanAmong V ws before r after =
    ((v : Verb) × V v × Spells v ws × RanVerb v ws before r after) ⊎ (((v : Verb) → V v → Spells v ws → ⊥) × (r ≡ Err Unknown) × (after ≡ before))

-- a line does what the command does that it spells; one that spells none is an error and changes nothing
abbrev pub Ran : List (List ℕ) → Console → Result Answer Trouble → Console → Type 0
Ran ws before r after =
    ((v : Verb) × Spells v ws × RanVerb v ws before r after) ⊎ (((v : Verb) → Spells v ws → ⊥) × (r ≡ Err Unknown) × (after ≡ before))
