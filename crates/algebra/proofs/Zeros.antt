-- The factors at the zeros of a polynomial divide it, and too many zeros make it zero.
use mathlib.Core.Path.{◌≡◌, sym, ◌∙◌, ap, subst}
use mathlib.Core.List.{List, [], ◌∷◌}
use Prim.Native.Nat.{ℕ, zero, suc, ◌≤◌}
use Prim.Native.Nat
use native.Mathlib.Omega.{arith}
use Rattle.algebra.specs.Ring.{CommRing, Field, mul_zero}
use Rattle.algebra.specs.Solver.{ring2, ring4, :1, ◌:*◌, ◌:≡◌}
use Rattle.algebra.specs.Series.{Series, x_minus, series}
use Rattle.algebra.specs.Degree.{Below}
use Rattle.algebra.specs.Sum.{power}
use Rattle.algebra.specs.Order.{Order, Orders, Differs, Distinct, total, locator}
use Rattle.algebra.proofs.Degree.{zero_of_below, below_zero, below_weaken}
use Rattle.algebra.proofs.Order.{order_cancel, order_divide}

module _ {K : Type 0} (F : Field K) where
  abbrev R : CommRing K
  R = F.ring

  open R use {zero as 𝟘, one as 𝟙, add as ◌+◌, mul as ◌*◌, neg as -◌}
  open series R use {zero as 𝟎, one as 𝟏, add as ◌⊕◌, mul as ◌⊗◌, neg as ⊖◌}

  infixl 65 ◌+◌
  infixl 70 ◌*◌
  infix 75 -◌
  infixl 65 ◌⊕◌
  infixl 70 ◌⊗◌
  infix 75 ⊖◌
  orders_cancel : (b : K) (ps : List (K × ℕ)) (d : ℕ) (f : Series K)
      → Differs b ps
      → Below R d f
      → Orders R ps (suc d) (x_minus R b ⊗ f)
      → Orders R ps d f
  orders_cancel b [] d f h c o = tt
  orders_cancel b (p ∷ ps) d f h c o = (
    order_cancel F p.0 b p.1 d f (λ e. h.0 (sym e)) c o.0,
    orders_cancel b ps d f h.1 c o.1,
  )

  -- f is the product of the factors at the points of the list, and of a polynomial of degree below e
  abbrev Divided : List (K × ℕ) → ℕ → Series K → Type 0
  Divided ps e f = (g : Series K) × (f ≡ locator R ps ⊗ g) × Below R e g

  -- take the factors x − a out, one for each order at a
  peel : (a : K) (ps : List (K × ℕ))
      → Differs a ps
      → ((d e : ℕ) (f : Series K) → Below R d f → Orders R ps d f → d ≤ Nat.◌+◌ (total ps) e → Divided ps e f)
      → (m d e : ℕ) (f : Series K)
      → Below R d f
      → Order R a m d f
      → Orders R ps d f
      → d ≤ Nat.◌+◌ (Nat.◌+◌ m (total ps)) e
      → Divided ((a, m) ∷ ps) e f
  peel a ps h rest zero d e f b o os k =
      let q = rest d e f b os (omega arith) in
      (q.0, q.1 ∙ ring2 (series R) (λ l g. l :* g :≡ :1 :* l :* g) tt (locator R ps) q.0, q.2)
  peel a ps h rest (suc m) zero e f b o os k =
      (𝟎, zero_of_below R f b ∙ sym (mul_zero (series R) (locator R ((a, suc m) ∷ ps))), below_zero R e)
  peel a ps h rest (suc m) (suc d) e f b o os k =
      let q = order_divide R a m d f b o in
      let ts : Orders R ps d q.0
      = orders_cancel a ps d q.0 h q.2 (subst (Orders R ps (suc d)) q.1 os) in
      let t = peel a ps h rest m d e q.0 q.2 q.3 ts (omega arith) in (
        t.0,
        q.1
            ∙ ap (λ g. x_minus R a ⊗ g) t.1
            ∙ ring4
            (series R)
            (λ x p l g. x :* (p :* l :* g) :≡ x :* p :* l :* g)
            tt
            (x_minus R a)
            (power (series R) (x_minus R a) m)
            (locator R ps)
            t.0,
        t.2,
      )

  -- the factors at all zeros, each as often as its order, divide the polynomial
  pub divide_by_orders : (ps : List (K × ℕ)) (d e : ℕ) (f : Series K)
      → Distinct ps
      → Below R d f
      → Orders R ps d f
      → d ≤ Nat.◌+◌ (total ps) e
      → (g : Series K) × (f ≡ locator R ps ⊗ g) × Below R e g
  divide_by_orders [] d e f h b o k =
      (f, sym ((series R).one_mul f), below_weaken R (omega arith) b)
  divide_by_orders (p ∷ ps) d e f h b o k =
      peel
      p.0
      ps
      h.0
      (λ d e g c q l. divide_by_orders ps d e g h.1 c q l)
      p.1
      d
      e
      f
      b
      o.0
      o.1
      k

  -- a polynomial of degree below d with zeros of total order d or more is zero
  pub zero_by_orders : (ps : List (K × ℕ)) (d : ℕ) (f : Series K)
      → Distinct ps
      → Below R d f
      → Orders R ps d f
      → d ≤ total ps
      → f ≡ 𝟎
  zero_by_orders ps d f h b o k =
      let q = divide_by_orders ps d 0 f h b o (omega arith) in
      q.1 ∙ ap (λ g. locator R ps ⊗ g) (zero_of_below R q.0 q.2) ∙ mul_zero (series R) (locator R ps)
