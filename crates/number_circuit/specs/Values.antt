-- Terms over names, what they are worth, and the most that they can be.
use Rattle.std.specs.Prelude.{ℕ, ◌+◌, ◌-◌, ◌*◌, ◌/◌, ◌%◌, min, max, nat_eq, nat_lt, nat_le, Bool, true, false, not, ◌&&◌, ◌||◌, List, if◌then◌else◌}
use Rattle.line_grammar.specs.declared.operator.Infix.{Infix}
use Rattle.line_grammar.specs.declared.operator.Infix.TheVariants.{Or, And, Equal, Unequal, Less, AtMost, Greater, AtLeast, Add, Subtract, Multiply, Divide, Remainder}
use Rattle.line_grammar.specs.declared.operator.Pair.{Pair}
use Rattle.line_grammar.specs.declared.operator.Pair.TheVariants.{Least, Most}

-- a number, a name, `not`, an operator between two terms, `min` or `max` of two, or `if`, `then` and `else`
pub data Term : Type 0 where
  constant : ℕ → Term
  variable : List ℕ → Term
  inverse : Term → Term
  operation : Infix → Term → Term → Term
  pair : Pair → Term → Term → Term
  choice : Term → Term → Term → Term

-- 1 for what is true, and 0 for what isn't
abbrev pub truth : Bool → ℕ
truth true = 1
truth false = 0

-- any number but 0 is true
abbrev pub holds : ℕ → Bool
holds n = not (nat_eq n 0)

-- what an operator makes of two numbers: a difference is 0 at least; a quotient by 0 is 0, and its rest is all
abbrev pub result : Infix → ℕ → ℕ → ℕ
result Or a b = truth (holds a || holds b)
result And a b = truth (holds a && holds b)
result Equal a b = truth (nat_eq a b)
result Unequal a b = truth (not (nat_eq a b))
result Less a b = truth (nat_lt a b)
result AtMost a b = truth (nat_le a b)
result Greater a b = truth (nat_lt b a)
result AtLeast a b = truth (nat_le b a)
result Add a b = a + b
result Subtract a b = a - b
result Multiply a b = a * b
result Divide a b = if nat_eq b 0 then 0 else a / b
result Remainder a b = if nat_eq b 0 then a else a % b

abbrev pub extreme : Pair → ℕ → ℕ → ℕ
extreme Least a b = min a b
extreme Most a b = max a b

-- the value of a term, from the values of names
abbrev pub value : (List ℕ → ℕ) → Term → ℕ
value of (constant n) = n
value of (variable x) = of x
value of (inverse t) = truth (not (holds (value of t)))
value of (operation o s t) = result o (value of s) (value of t)
value of (pair p s t) = extreme p (value of s) (value of t)
value of (choice c s t) = if holds (value of c) then value of s else value of t

-- the term is a number of the text
abbrev pub is_number : Term → Bool
is_number (constant n) = true
is_number _ = false

-- the most that an operator makes, from the most that its operands can be, and from whether the second one is a number
-- of the text: the rest of a division by such a number is less than that, unless it is 0
abbrev pub most : Infix → ℕ → ℕ → Bool → ℕ
most Add a b by_number = a + b
most Multiply a b by_number = a * b
most Subtract a b by_number = a
most Divide a b by_number = a
most Remainder a b by_number = if by_number && nat_lt 0 b then min a (b - 1) else a
most _ a b by_number = 1

-- the most that a term can be, from the most that names can be: its bound
abbrev pub bound : (List ℕ → ℕ) → Term → ℕ
bound of (constant n) = n
bound of (variable x) = of x
bound of (inverse t) = 1
bound of (operation o s t) = most o (bound of s) (bound of t) (is_number t)
bound of (pair p s t) = extreme p (bound of s) (bound of t)
bound of (choice c s t) = max (bound of s) (bound of t)
