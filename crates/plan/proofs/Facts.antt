-- What a plan's invariant says of the numbers and lists that it hands out, for the layers above.
use Rattle.std.proofs.Common.{◌≡◌, ℕ, ◌-◌, ◌*◌, ◌<◌, ◌≤◌, ◌≢◌, length, get_or, take, sym, ◌∙◌, mul-le-mul, arith}
use Rattle.std.proofs.lemmas.List.{get_or-take, length-take-le}
use Rattle.plan.specs.Numbers.{bound_of}
use Rattle.plan.specs.declared.Plan.{Plan}

module _ (p : Plan) where
  pub bound_low : 1 ≤ bound_of p.n p.w p.k
  bound_low = let h : 1 ≤ p.n - p.w = omega arith in mul-le-mul {n₁ = 1} {m₁ = 1} p.k_low h

  pub bound_high : bound_of p.n p.w p.k ≤ 256
  bound_high = let h : p.n - p.w ≤ 64 = omega arith in mul-le-mul {n₂ = 4} {m₂ = 64} p.k_high h

  pub list_high : (p.l - 1) * p.n ≤ 448
  list_high = let h : p.l - 1 ≤ 7 = omega arith in mul-le-mul {n₂ = 7} {m₂ = 64} h p.n_high

  pub support_length : length (take p.n p.support) ≡ p.n
  support_length = length-take-le p.n p.support (omega arith)

  pub multipliers_length : length (take p.n p.multipliers) ≡ p.n
  multipliers_length = length-take-le p.n p.multipliers (omega arith)

  pub element : (i : ℕ) → i < p.n → get_or (take p.n p.support) i 0 < p.size
  element i h = rw (get_or-take p.n p.support i 0 h) (p.elements i h)

  pub distinct_elements : (i j : ℕ) → i < j → j < p.n → get_or (take p.n p.support) i 0 ≢ get_or (take p.n p.support) j 0
  distinct_elements i j l h e = let k : i < p.n = omega arith in p.distinct i j l h (sym (get_or-take p.n p.support i 0 k) ∙ e ∙ get_or-take p.n p.support j 0 h)

  pub multiplier_low : (i : ℕ) → i < p.n → 1 ≤ get_or (take p.n p.multipliers) i 0
  multiplier_low i h = rw (get_or-take p.n p.multipliers i 0 h) (p.nonzero i h)

  pub multiplier_high : (i : ℕ) → i < p.n → get_or (take p.n p.multipliers) i 0 < p.size
  multiplier_high i h = rw (get_or-take p.n p.multipliers i 0 h) (p.scalars i h)
