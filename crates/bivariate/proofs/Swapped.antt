-- Over a field the operands in the definitions of Horner's rule may stand in the other order.
use Rattle.std.proofs.Common.{◌≡◌, ℕ, suc, ◌<◌, Bool, true, false, cond, ◌&&◌, List, ltb, get_or, refl, ap, ◌∙◌}
use Rattle.std.proofs.lemmas.Bool.{ltb-true}
use Rattle.algebra.specs.Operations.{Lawful}
use Rattle.field.specs.Meaning.{Meaning, operations, sum_of, product_of}
use Rattle.field.specs.Made.{made}
use Rattle.field.proofs.Making.{made_same}
use Rattle.bivariate.specs.Horner.{before, value_of, taylor_of, nested_of, pushed}
use Rattle.bivariate.proofs.Steps.{value_suc, taylor_suc_zero, taylor_suc_suc}

module _ (m : Meaning) (law : Lawful (operations m)) where
  -- an operation that commutes on elements, and is 0 elsewhere, commutes
  swapped : (op : ℕ → ℕ → ℕ) → ((a b : ℕ) → a < m.size → b < m.size → op a b ≡ op b a) → (a b : ℕ) → cond (ltb a m.size && ltb b m.size) (op a b) 0 ≡ cond (ltb b m.size && ltb a m.size) (op b a) 0
  swapped op commutes a b = go (ltb a m.size) (ltb b m.size) (λ e k. commutes a b (ltb-true a m.size e) (ltb-true b m.size k))
    where
      go : (s t : Bool) → (s ≡ true → t ≡ true → op a b ≡ op b a) → cond (s && t) (op a b) 0 ≡ cond (t && s) (op b a) 0
      go true true h = h refl refl
      go true false h = refl
      go false true h = refl
      go false false h = refl

  sum_swapped : (a b : ℕ) → sum_of m a b ≡ sum_of m b a
  sum_swapped = swapped m.sum law.sum_commutes

  product_swapped : (a b : ℕ) → product_of m a b ≡ product_of m b a
  product_swapped = swapped m.product law.product_commutes

  -- one step of Horner's rule
  step_swapped : (a c v : ℕ) → sum_of m c (product_of m a v) ≡ sum_of m (product_of m v a) c
  step_swapped a c v = sum_swapped c (product_of m a v) ∙ ap (λ p. sum_of m p c) (product_swapped a v)

  module _ (a : ℕ) (cs : ℕ → ℕ) where
    pub value_swapped : (i n : ℕ) → value_of m a cs i (suc n) ≡ sum_of m (product_of m (value_of m a cs (suc i) n) a) (cs i)
    value_swapped i n = value_suc m a cs i n ∙ step_swapped a (cs i) (value_of m a cs (suc i) n)

    pub taylor_swapped_zero : (i n : ℕ) → taylor_of m a cs i (suc n) 0 ≡ sum_of m (product_of m (taylor_of m a cs (suc i) n 0) a) (cs i)
    taylor_swapped_zero i n = taylor_suc_zero m a cs i n ∙ step_swapped a (cs i) (taylor_of m a cs (suc i) n 0)

    pub taylor_swapped_suc : (i n r : ℕ) → taylor_of m a cs i (suc n) (suc r) ≡ sum_of m (product_of m (taylor_of m a cs (suc i) n (suc r)) a) (taylor_of m a cs (suc i) n r)
    taylor_swapped_suc i n r = taylor_suc_suc m a cs i n r ∙ step_swapped a (taylor_of m a cs (suc i) n r) (taylor_of m a cs (suc i) n (suc r))

  pub nested_swapped : (size len a c : ℕ) (h : List ℕ) → nested_of size m len a c h ≡ made size (λ r. cond (ltb r len) (sum_of m (product_of m (get_or h r 0) a) (before c h r)) (get_or h r 0))
  unfolding nested_of
  nested_swapped size len a c h =
      made_same
      (λ r. cond (ltb r len) (sum_of m (before c h r) (product_of m a (get_or h r 0))) (get_or h r 0))
      (λ r. cond (ltb r len) (sum_of m (product_of m (get_or h r 0) a) (before c h r)) (get_or h r 0))
      size
      0
      (λ r _. ap (λ x. cond (ltb r len) x (get_or h r 0)) (step_swapped a (before c h r) (get_or h r 0)))

  pub pushed_swapped : (order a c : ℕ) (h : List ℕ) → pushed m order a c h ≡ made 8 (λ r. cond (ltb r order) (sum_of m (product_of m (get_or h r 0) a) (before c h r)) (get_or h r 0))
  unfolding pushed
  pushed_swapped order a c h = nested_swapped 8 order a c h
