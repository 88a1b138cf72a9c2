-- The number of conditions of places.
use mathlib.Core.Path.{◌≡◌, refl, sym, ◌∙◌, ap, ap₂, subst}
use mathlib.Core.List.{List, [], ◌∷◌, ◌++◌}
use lib.ListN.{length, length-append}
use Prim.Native.Nat.{ℕ, zero, suc, ◌+◌, ◌*◌, ◌-◌, ◌/◌, ◌<◌}
use native.Mathlib.Nat.{mul-suc, suc-mul, zero-mul, add_comm}
use native.Mathlib.Omega.{arith}
use Rattle.algebra.specs.Places.{Place}
use Rattle.algebra.specs.Conditions.{Condition, condition, column, columns, conditions_of, triangle, condition_count, Uniform}

-- the sum of the numbers below n is n(n − 1)/2
double_triangle : (n : ℕ) → 2 * triangle n ≡ n * (n - 1)
double_triangle zero = omega arith
double_triangle (suc zero) = omega arith
double_triangle (suc (suc n)) =
    let h : 2 * triangle (suc n) ≡ suc n * (suc n - 1) = double_triangle (suc n) in
    let e : suc n - 1 ≡ n = omega arith in
    let k : 2 * triangle (suc n) ≡ suc n * n = h ∙ ap (λ x. suc n * x) e in
    let d : suc (suc n) - 1 ≡ suc n = omega arith in
    let p : suc (suc n) * suc n ≡ suc n * suc n + suc n = suc-mul (suc n) (suc n) in
    let q : suc n * suc n ≡ suc n * n + suc n = mul-suc (suc n) n in
    let g : 2 * triangle (suc (suc n)) ≡ suc (suc n) * suc n = omega arith in
    g ∙ sym (ap (λ x. suc (suc n) * x) d)

pub triangle_half : (n : ℕ) → triangle n ≡ n * (n - 1) / 2
triangle_half n = let e : 2 * triangle n ≡ n * (n - 1) = double_triangle n in omega arith

-- m(m + 1)/2
pub triangle_suc_half : (m : ℕ) → triangle (suc m) ≡ m * (m + 1) / 2
triangle_suc_half m =
    let e : 2 * triangle (suc m) ≡ suc m * (suc m - 1) = double_triangle (suc m) in
    let d : suc m - 1 ≡ m = omega arith in
    let k : 2 * triangle (suc m) ≡ suc m * m = e ∙ ap (λ x. suc m * x) d in
    let p : suc m * m ≡ m * m + m = suc-mul m m in
    let q : m * suc m ≡ m * m + m = mul-suc m m in
    let i : suc m ≡ m + 1 = omega arith in
    let g : m * (m + 1) ≡ m * m + m = ap (λ x. m * x) (sym i) ∙ q in
    omega arith

module _ {K : Type 0} where
  length_column : (a b : K) (u n : ℕ) → length (column a b u n) ≡ n
  length_column a b u zero = refl
  length_column a b u (suc n) =
      let e : length (column a b u n ++ (condition a b u n ∷ [])) ≡ length (column a b u n) + 1 = length-append (column a b u n) (condition a b u n ∷ []) in
      let h : length (column a b u n) ≡ n = length_column a b u n in
      omega arith

  length_columns : (a b : K) (m u k : ℕ) → u + k ≡ m → length (columns a b m u) + triangle (suc k) ≡ triangle (suc m)
  length_columns a b m zero k e = let h : k ≡ m = omega arith in ap (λ x. 0 + triangle (suc x)) h ∙ omega arith
  length_columns a b m (suc u) k e =
      let ih : length (columns a b m u) + triangle (suc (suc k)) ≡ triangle (suc m) = length_columns a b m u (suc k) (omega arith) in
      let h : length (columns a b m u ++ column a b u (m - u)) ≡ length (columns a b m u) + length (column a b u (m - u)) = length-append (columns a b m u) (column a b u (m - u)) in
      let j : length (column a b u (m - u)) ≡ m - u = length_column a b u (m - u) in
      omega arith

  -- multiplicity m takes m(m + 1)/2 conditions
  pub conditions_length : (ps : List (Place K)) → length (conditions_of ps) ≡ condition_count ps
  conditions_length [] = refl
  conditions_length (p ∷ ps) =
      let m : ℕ = p.multiplicity in
      let cs : List (Condition K) = columns p.abscissa p.ordinate m m in
      let e : length (cs ++ conditions_of ps) ≡ length cs + length (conditions_of ps) = length-append cs (conditions_of ps) in
      let h : length cs + triangle 1 ≡ triangle (suc m) = length_columns p.abscissa p.ordinate m m 0 (omega arith) in
      let k : length (conditions_of ps) ≡ condition_count ps = conditions_length ps in
      omega arith

  -- n places of multiplicity k take n·k(k + 1)/2 conditions
  pub uniform_count : (k : ℕ) (ps : List (Place K)) → Uniform k ps → condition_count ps ≡ length ps * (k * (k + 1) / 2)
  uniform_count k [] h = sym (zero-mul (k * (k + 1) / 2))
  uniform_count k (p ∷ ps) h =
      let e : triangle (suc p.multiplicity) ≡ k * (k + 1) / 2 = ap (λ m. triangle (suc m)) h.0 ∙ triangle_suc_half k in
      let f : condition_count ps ≡ length ps * (k * (k + 1) / 2) = uniform_count k ps h.1 in
      let g : suc (length ps) * (k * (k + 1) / 2) ≡ length ps * (k * (k + 1) / 2) + k * (k + 1) / 2 = suc-mul (length ps) (k * (k + 1) / 2) in
      ap₂ ◌+◌ e f ∙ add_comm (k * (k + 1) / 2) (length ps * (k * (k + 1) / 2)) ∙ sym g

  pub uniform_inequality : (k s D l : ℕ) (ps : List (Place K))
      → Uniform k ps
      → length ps * (k * (k + 1) / 2) + s * (l * (l - 1) / 2) < l * D
      → condition_count ps + s * triangle l < l * D
  uniform_inequality k s D l ps h i =
      subst (λ n. n < l * D) (ap₂ ◌+◌ (sym (uniform_count k ps h)) (ap (λ n. s * n) (sym (triangle_half l)))) i
