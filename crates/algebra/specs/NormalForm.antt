-- Expressions of commutative rings and their normal form: a sum of signed monomials in which no term meets its opposite.
use Rattle.std.specs.Prelude.{Bool, true, false, List, [], ◌∷◌, ℕ, zero, suc}

-- an expression over numbered variables
pub data Expr : Type 0 where
  :var : ℕ → Expr
  :0 : Expr
  :1 : Expr
  ◌:+◌ : Expr → Expr → Expr
  ◌:*◌ : Expr → Expr → Expr
  :-◌ : Expr → Expr

-- an identity to be proved
pub data Identity : Type 0 where
  ◌:≡◌ : Expr → Expr → Identity

infix 20 ◌:≡◌
infixl 65 ◌:+◌
infixl 65 ◌:-◌
infixl 70 ◌:*◌
infix 75 :-◌
-- the difference of two expressions
abbrev pub ◌:-◌ : Expr → Expr → Expr
◌:-◌ a b = a :+ :- b

-- a monomial with its sign: true for plus, then the rising list of its variables
pub data Term : Type 0 where
  term : Bool → List ℕ → Term

-- m ≤ n
abbrev pub at_most : ℕ → ℕ → Bool
at_most zero n = true
at_most (suc m) zero = false
at_most (suc m) (suc n) = at_most m n

-- m ≡ n
abbrev pub equal : ℕ → ℕ → Bool
equal zero zero = true
equal zero (suc n) = false
equal (suc m) zero = false
equal (suc m) (suc n) = equal m n

-- both are true
abbrev pub both : Bool → Bool → Bool
both true b = b
both false b = false

-- the two are different
abbrev pub differ : Bool → Bool → Bool
differ true true = false
differ true false = true
differ false true = true
differ false false = false

-- the other truth value
abbrev pub opposite : Bool → Bool
opposite true = false
opposite false = true

-- the two lists are equal
abbrev pub same : List ℕ → List ℕ → Bool
same [] [] = true
same [] (y ∷ ys) = false
same (x ∷ xs) [] = false
same (x ∷ xs) (y ∷ ys) = both (equal x y) (same xs ys)

-- the variable put into a rising list
abbrev pub insert : ℕ → List ℕ → List ℕ
insert x [] = x ∷ []
insert x (y ∷ ys) = elim (at_most x y) [ true ↦ x ∷ y ∷ ys | false ↦ y ∷ insert x ys ]

-- two rising lists in one
abbrev pub merge : List ℕ → List ℕ → List ℕ
merge [] ys = ys
merge (x ∷ xs) ys = insert x (merge xs ys)

-- the two terms are opposite
abbrev pub cancels : Term → Term → Bool
cancels (term s xs) (term t ys) = both (differ s t) (same xs ys)

-- put a term to a sum: it goes away with its opposite
abbrev pub put : Term → List Term → List Term
put t [] = t ∷ []
put t (u ∷ us) = elim (cancels t u) [ true ↦ us | false ↦ u ∷ put t us ]

-- the sum of two sums
abbrev pub join : List Term → List Term → List Term
join [] us = us
join (t ∷ ts) us = put t (join ts us)

-- the opposite term
abbrev pub flip : Term → Term
flip (term s xs) = term (opposite s) xs

-- the opposite sum
abbrev pub negate : List Term → List Term
negate [] = []
negate (t ∷ ts) = flip t ∷ negate ts

-- the product of two terms
abbrev pub times : Term → Term → Term
times (term true xs) (term t ys) = term t (merge xs ys)
times (term false xs) (term t ys) = term (opposite t) (merge xs ys)

-- a term times a sum
abbrev pub scale : Term → List Term → List Term
scale t [] = []
scale t (u ∷ us) = times t u ∷ scale t us

-- the product of two sums
abbrev pub expand : List Term → List Term → List Term
expand [] us = []
expand (t ∷ ts) us = join (scale t us) (expand ts us)

-- the normal form of an expression
abbrev pub normal : Expr → List Term
normal (:var i) = term true (i ∷ []) ∷ []
normal :0 = []
normal :1 = term true [] ∷ []
normal (a :+ b) = join (normal a) (normal b)
normal (a :* b) = expand (normal a) (normal b)
normal (:- a) = negate (normal a)

-- the sum has no terms
abbrev pub Nothing : List Term → Type 0
Nothing [] = Unit {0}
Nothing (t ∷ ts) = ⊥

-- the two sides have no difference
abbrev pub Valid : Identity → Type 0
Valid (a :≡ b) = Nothing (normal (a :- b))
