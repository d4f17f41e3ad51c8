-- What a compiler makes of an expression, element by element.
use Rattle.std.specs.Prelude.{ℕ, Bool, List, [], ◌∷◌, drop, map, Option, Some, None}
use Rattle.line_grammar.specs.declared.element.ExprElement.{ExprElement}
use Rattle.line_grammar.specs.declared.element.ExprElement.TheVariants as elements
use Rattle.number_gates.specs.Steps.{Steps, done, ◌>>=◌}
use Rattle.number_circuit.specs.Values.{most}
use Rattle.line_grammar.specs.Places.{name_at, number_at}
use Rattle.number_circuit.specs.Faults.{Bounds}
use Rattle.number_circuit.specs.Walks.{says_number}
use Rattle.number_compiler.specs.Terms.{Value, operator_steps, pair_steps, inverse_steps, choice_steps, constant_value}
use Rattle.number_compiler.specs.Circuits.{Names, value_of}

-- what stands for a value that isn't there
abbrev pub nothing : Value
nothing = record { most = 0; bits = [] }

abbrev pub top_value : List Value → Value
top_value [] = nothing
top_value (v ∷ vs) = v

-- a value more in the place of n
abbrev pub put : ℕ → List Value → Value → Steps (List Value)
put n vs v = done (v ∷ drop n vs)

-- the gates of an element, whose operands are the last of the values that wait, the last one first, where the element
-- before it was a number of the text or not
abbrev pub element_steps : Names → List ℕ → Bool → ExprElement → List Value → Steps (List Value)
element_steps of line by_number (elements.Name at) vs = put 0 vs (value_of of (name_at line at))
element_steps of line by_number (elements.Number at) vs = put 0 vs (constant_value (number_at line at))
element_steps of line by_number (elements.Prefix x) vs = inverse_steps (top_value vs) >>= put 1 vs
element_steps of line by_number (elements.Infix o at) vs =
    operator_steps o (most o (top_value (drop 1 vs)).most (top_value vs).most by_number) (top_value (drop 1 vs))
    (top_value vs)
    >>= put 2 vs
element_steps of line by_number (elements.Pair p) vs =
    pair_steps p (top_value (drop 1 vs)) (top_value vs) >>= put 2 vs
element_steps of line by_number elements.Choose vs =
    choice_steps (top_value (drop 2 vs)) (top_value (drop 1 vs)) (top_value vs) >>= put 3 vs

abbrev pub elements_steps : Names → List ℕ → Bool → List ExprElement → List Value → Steps (List Value)
elements_steps of line by_number [] vs = done vs
elements_steps of line by_number (x ∷ xs) vs =
    element_steps of line by_number x vs >>= elements_steps of line (says_number x) xs

abbrev pub most_known : Option Value → Option ℕ
most_known None = None
most_known (Some v) = Some v.most

-- the bounds of the names that are known
abbrev pub bounds_of : Names → Bounds
bounds_of of x = most_known (of x)

-- the bounds of values
abbrev pub mosts : List Value → List ℕ
mosts vs = map (λ (v : Value). v.most) vs
