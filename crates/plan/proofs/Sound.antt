-- What holds where no condition of a fault does: each fact of a plan's invariant.
use Rattle.std.proofs.Common.{◌≡◌, ℕ, ◌+◌, ◌-◌, ◌<◌, ◌≤◌, List, length, get_or, replicate, sym, ap, ◌∙◌, inl, inr, ⊎_elim, arith}
use Rattle.std.proofs.lemmas.List.{get_or_append_left, length-append, length-replicate}
use Rattle.std.proofs.lemmas.Bool.{cases_lt}
use Rattle.plan.specs.declared.asked.Parameters.{Parameters}
use Rattle.plan.specs.declared.asked.PlanFault.{PlanFault}
use Rattle.plan.specs.declared.asked.PlanFault.TheVariants.{Shape, Distance, Errors, Width, Inequality, Support, Multiplier}
use Rattle.plan.specs.Numbers.{Solvable}
use Rattle.plan.specs.Faults.{Fails}
use Rattle.plan.specs.Plans.{padded}
use Rattle.plan.proofs.Order.{support_length, multipliers_length}

-- what is not below is at least, where the contrary is a fault
not_below : (x y : ℕ) → (x < y → ⊥) → y ≤ x
not_below x y h = ⊎_elim (λ l. absurd (h l)) (λ l. l) (cases_lt x y)

-- within the list the padding changes nothing
kept : (s xs : List ℕ) → s ≡ padded xs → (i : ℕ) → i < length xs → get_or s i 0 ≡ get_or xs i 0
kept s xs e i h = ap (λ x. get_or x i 0) e ∙ get_or_append_left xs (replicate (64 - length xs) 0) 0 i h

long : (s xs : List ℕ) → s ≡ padded xs → length xs ≤ 64 → length s ≡ 64
long s xs e h = ap length e ∙ simp (length-append, length-replicate) (omega arith)

module _ (a : Parameters) (α β : List ℕ) (sound : (g : PlanFault) → Fails a α β g → ⊥) where
  pub n_low : 2 ≤ a.n
  n_low = not_below a.n 2 (λ h. sound Shape (inl (inl h)))

  pub n_high : a.n ≤ 64
  n_high = not_below 64 a.n (λ h. sound Shape (inl (inr h)))

  pub size_low : 2 ≤ a.size
  size_low = not_below a.size 2 (λ h. sound Shape (inr (inl (inl h))))

  pub size_high : a.size ≤ 256
  size_high = not_below 256 a.size (λ h. sound Shape (inr (inl (inr h))))

  pub α_length : length α ≡ a.n
  α_length = support_length a α β (sound Shape)

  pub β_length : length β ≡ a.n
  β_length = multipliers_length a α β (sound Shape)

  pub t_low : 1 ≤ a.t
  t_low = not_below a.t 1 (λ h. sound Distance (inl h))

  pub t_high : a.t < a.n
  t_high = ⊎_elim (λ l. l) (λ l. absurd (sound Distance (inr l))) (cases_lt a.t a.n)

  pub w_high : a.w < a.n
  w_high = ⊎_elim (λ l. l) (λ l. absurd (sound Errors l)) (cases_lt a.w a.n)

  pub k_low : 1 ≤ a.k
  k_low = not_below a.k 1 (λ h. sound Width (inl (inl h)))

  pub k_high : a.k ≤ 4
  k_high = not_below 4 a.k (λ h. sound Width (inl (inr h)))

  pub l_low : a.k < a.l
  l_low = let h : a.k + 1 ≤ a.l = not_below a.l (a.k + 1) (λ h. sound Width (inr (inl h))) in omega arith

  pub l_high : a.l ≤ 8
  l_high = not_below 8 a.l (λ h. sound Width (inr (inr h)))

  pub inequality : Solvable a.n a.t a.w a.k a.l
  inequality = ⊎_elim (λ l. l) (λ l. absurd (sound Inequality (λ s. omega arith))) (cases_lt _ _)

  in_α : (i : ℕ) → i < a.n → i < length α
  in_α i h = let e = α_length in omega arith

  in_β : (i : ℕ) → i < a.n → i < length β
  in_β i h = let e = β_length in omega arith

  -- s is the array that holds the support, and m the one that holds the multipliers
  module _ (s m : List ℕ) (supports : s ≡ padded α) (multiplies : m ≡ padded β) where
    pub support_long : length s ≡ 64
    support_long = long s α supports (omega (arith, α_length, n_high))

    pub multipliers_long : length m ≡ 64
    multipliers_long = long m β multiplies (omega (arith, β_length, n_high))

    pub elements : (i : ℕ) → i < a.n → get_or s i 0 < a.size
    elements i h = rw (kept s α supports i (in_α i h)) (⊎_elim (λ l. l) (λ l. absurd (sound (Support i) (h, inl l))) (cases_lt (get_or α i 0) a.size))

    pub distinct : (i j : ℕ) → i < j → j < a.n → get_or s i 0 ≡ get_or s j 0 → ⊥
    distinct i j l h e = sound (Support j) (h, inr (i, l, sym (kept s α supports i (in_α i (omega arith))) ∙ e ∙ kept s α supports j (in_α j h)))

    pub nonzero : (i : ℕ) → i < a.n → 1 ≤ get_or m i 0
    nonzero i h = rw (kept m β multiplies i (in_β i h)) (not_below (get_or β i 0) 1 (λ l. sound (Multiplier i) (h, inl (omega arith))))

    pub scalars : (i : ℕ) → i < a.n → get_or m i 0 < a.size
    scalars i h = rw (kept m β multiplies i (in_β i h)) (⊎_elim (λ l. l) (λ l. absurd (sound (Multiplier i) (h, inr l))) (cases_lt (get_or β i 0) a.size))
