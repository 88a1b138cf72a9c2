-- The theorems on polynomials in one variable, over the operations of any finite field.
use Rattle.std.specs.Prelude.{◌≡◌, List, ℕ, suc, ◌+◌, ◌≤◌, ◌<◌}
use Rattle.algebra.specs.Operations.{Operations, Lawful}
use Rattle.algebra.specs.Elements.{Elem, element_ring, elements, into}
use Rattle.algebra.specs.Series.{Series, constant, x_minus, series}
use Rattle.algebra.specs.Degree.{Below}
use Rattle.algebra.specs.Evaluation.{eval, derivative}
use Rattle.algebra.specs.Order.{Order, Orders, Distinct, total}
use Rattle.algebra.specs.Interpolation.{Separate, newton_value}

-- the numbers below the size are a field whose operations are the numbers' own
abbrev pub ElementsAgree : Type 0
ElementsAgree =
    (o : Operations) (law : Lawful o) (m n : ℕ)
    → m < o.size
    → n < o.size
    → ((into o law m).0 ≡ m)
    × (((element_ring o law).add (into o law m) (into o law n)).0 ≡ o.sum m n)
    × (((element_ring o law).neg (into o law m)).0 ≡ o.negative m)
    × (((element_ring o law).mul (into o law m) (into o law n)).0 ≡ o.product m n)
    × ((m ≡ 0 → ⊥) → ((elements o law).inv (into o law m)).0 ≡ o.inverse m)

-- sums and multiples keep the order at a point, and orders add under products
abbrev pub OrdersAdd : Type 0
OrdersAdd =
    (o : Operations) (law : Lawful o) (a : Elem o) (m n c d e : ℕ) (f g : Series (Elem o))
    → d + e ≤ suc c
    → Below (element_ring o law) d f
    → Below (element_ring o law) e g
    → Order (element_ring o law) a m d f
    → (Order (element_ring o law) a m d g → Order (element_ring o law) a m d ((series (element_ring o law)).add f g))
    × ((k : Elem o) → Order (element_ring o law) a m d ((series (element_ring o law)).mul (constant (element_ring o law) k) f))
    × (Order (element_ring o law) a n e g → Order (element_ring o law) a (m + n) c ((series (element_ring o law)).mul f g))

-- a polynomial that vanishes at a to order m + 1 is x − a times one of order m, of a degree lower by one
abbrev pub OrderDivides : Type 0
OrderDivides =
    (o : Operations) (law : Lawful o) (a : Elem o) (m d : ℕ) (f : Series (Elem o))
    → Below (element_ring o law) (suc d) f
    → Order (element_ring o law) a (suc m) (suc d) f
    → (g : Series (Elem o))
    × (f ≡ (series (element_ring o law)).mul (x_minus (element_ring o law) a) g)
    × Below (element_ring o law) d g
    × Order (element_ring o law) a m d g

-- a factor x − b with b ≠ a does not count for the order at a
abbrev pub OrderCancels : Type 0
OrderCancels =
    (o : Operations) (law : Lawful o) (a b : Elem o) (m d : ℕ) (f : Series (Elem o))
    → (a ≡ b → ⊥)
    → Below (element_ring o law) d f
    → Order (element_ring o law) a m (suc d) ((series (element_ring o law)).mul (x_minus (element_ring o law) b) f)
    → Order (element_ring o law) a m d f

-- a polynomial of degree below the sum of its orders at distinct points is zero
abbrev pub ZeroByOrders : Type 0
ZeroByOrders =
    (o : Operations) (law : Lawful o) (ps : List (Elem o × ℕ)) (d : ℕ) (f : Series (Elem o))
    → Distinct ps
    → Below (element_ring o law) d f
    → Orders (element_ring o law) ps d f
    → d ≤ total ps
    → f ≡ (series (element_ring o law)).zero

-- through m points with distinct abscissae there goes exactly one polynomial of degree below m, and Newton's form gives its value at every point
abbrev pub OneThroughPoints : Type 0
OneThroughPoints =
    (o : Operations) (law : Lawful o) (m : ℕ) (α β : ℕ → Elem o)
    → Separate m α
    → (f : Series (Elem o))
    × Below (element_ring o law) m f
    × ((i : ℕ) → i < m → eval (element_ring o law) m f (α i) ≡ β i)
    × ((z : Elem o) → eval (element_ring o law) m f z ≡ newton_value (elements o law) m α β z)
    × ((g : Series (Elem o)) → Below (element_ring o law) m g → ((i : ℕ) → i < m → eval (element_ring o law) m g (α i) ≡ β i) → g ≡ f)

-- the derivative of a product at a point
abbrev pub DerivativeOfProduct : Type 0
DerivativeOfProduct =
    (o : Operations) (law : Lawful o) (c d e : ℕ) (f g : Series (Elem o)) (a : Elem o)
    → d + e ≤ suc c
    → Below (element_ring o law) d f
    → Below (element_ring o law) e g
    → derivative (element_ring o law) c ((series (element_ring o law)).mul f g) a
    ≡ (element_ring o law
    ).add
    ((element_ring o law).mul (eval (element_ring o law) d f a) (derivative (element_ring o law) e g a))
    ((element_ring o law).mul (derivative (element_ring o law) d f a) (eval (element_ring o law) e g a))
