-- The gates of terms.
use Rattle.std.specs.Prelude.{ℕ, max, List, [], ◌∷◌, ◌++◌}
use Rattle.line_grammar.specs.declared.operator.Infix.{Infix}
use Rattle.line_grammar.specs.declared.operator.Infix.TheVariants.{Or, And, Equal, Unequal, Less, AtMost, Greater, AtLeast, Add, Subtract, Multiply, Divide, Remainder}
use Rattle.line_grammar.specs.declared.operator.Pair.{Pair}
use Rattle.line_grammar.specs.declared.operator.Pair.TheVariants.{Least, Most}
use Rattle.number_gates.specs.declared.wire.Bit.{Bit}
use Rattle.number_gates.specs.Steps.{Steps, done, ◌>>=◌}
use Rattle.number_gates.specs.BitGates.{opposite, both}
use Rattle.number_gates.specs.Numbers.{choose, some, equal, less, sum, difference}
use Rattle.number_gates.specs.Products.{product}
use Rattle.number_gates.specs.Quotients.{divided}
use Rattle.number_circuit.specs.Values.{Term, is_number, most, extreme}
use Rattle.number_circuit.specs.Values.Term.{constant, variable, inverse, operation, pair, choice}
use Rattle.number_compiler.specs.Widths.{bits_of, known_bits, cut}

-- the most that a value can be, and its bits, least first
pub record Value : Type 0 where
  pub most : ℕ
  pub bits : List Bit

-- a value that is m at most
abbrev pub fitted : ℕ → List Bit → Value
fitted m bits = record { most = m; bits = cut (bits_of m) bits }

-- a number of one bit
abbrev pub truth_bits : Steps Bit → Steps (List Bit)
truth_bits steps = steps >>= (λ o. done (o ∷ []))

-- whether one of two numbers isn't 0, both aren't, they differ, the first isn't less than the second
abbrev pub either : List Bit → List Bit → Steps Bit
either a b = some (a ++ b)

abbrev pub both_some : List Bit → List Bit → Steps Bit
both_some a b = some a >>= (λ p. some b >>= (λ q. both p q))

abbrev pub unequal : List Bit → List Bit → Steps Bit
unequal a b = equal a b >>= opposite

abbrev pub at_least : List Bit → List Bit → Steps Bit
at_least a b = less a b >>= opposite

-- what an operator makes of two numbers
abbrev pub operated : Infix → List Bit → List Bit → Steps (List Bit)
operated Or a b = truth_bits (either a b)
operated And a b = truth_bits (both_some a b)
operated Equal a b = truth_bits (equal a b)
operated Unequal a b = truth_bits (unequal a b)
operated Less a b = truth_bits (less a b)
operated AtMost a b = truth_bits (at_least b a)
operated Greater a b = truth_bits (less b a)
operated AtLeast a b = truth_bits (at_least a b)
operated Add a b = sum a b
operated Subtract a b = difference a b
operated Multiply a b = product a b
operated Divide a b = divided a b >>= (λ t. done t.quotient)
operated Remainder a b = divided a b >>= (λ t. done t.rest)

-- the same as a value that is m at most
abbrev pub operator_steps : Infix → ℕ → Value → Value → Steps Value
operator_steps o m a b = operated o a.bits b.bits >>= (λ c. done (fitted m c))

-- the less or the larger of two numbers
abbrev pub chosen_of : Pair → Bit → List Bit → List Bit → Steps (List Bit)
chosen_of Least is_less a b = choose is_less a b
chosen_of Most is_less a b = choose is_less b a

abbrev pub pair_steps : Pair → Value → Value → Steps Value
pair_steps p a b =
    less a.bits b.bits
    >>= (λ o. chosen_of p o a.bits b.bits >>= (λ c. done (fitted (extreme p a.most b.most) c)))

abbrev pub inverse_steps : Value → Steps Value
inverse_steps a = some a.bits >>= (λ o. opposite o >>= (λ c. done (fitted 1 (c ∷ []))))

abbrev pub choice_steps : Value → Value → Value → Steps Value
choice_steps c a b =
    some c.bits >>= (λ o. choose o a.bits b.bits >>= (λ d. done (fitted (max a.most b.most) d)))

-- a known number costs no gates
abbrev pub constant_value : ℕ → Value
constant_value n = record { most = n; bits = known_bits (bits_of n) n }

-- the gates of a term, operands first, from the values of names
abbrev pub steps_of : (List ℕ → Value) → Term → Steps Value
steps_of of (constant n) = done (constant_value n)
steps_of of (variable x) = done (of x)
steps_of of (inverse t) = steps_of of t >>= inverse_steps
steps_of of (operation o s t) =
    steps_of of s
    >>= (λ a. steps_of of t >>= (λ b. operator_steps o (most o a.most b.most (is_number t)) a b))
steps_of of (pair p s t) = steps_of of s >>= (λ a. steps_of of t >>= (λ b. pair_steps p a b))
steps_of of (choice c s t) =
    steps_of of c >>= (λ o. steps_of of s >>= (λ a. steps_of of t >>= (λ b. choice_steps o a b)))
