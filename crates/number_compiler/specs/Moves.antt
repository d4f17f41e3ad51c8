-- What the code of an element answers.
use Rattle.std.specs.Prelude.{◌≡◌, ℕ, Bool, false, List, [], Result, Ok, Err}
use Rattle.line_grammar.specs.declared.element.ExprElement.{ExprElement}
use Rattle.number_gates.specs.Steps.{Kept, Runs}
use Rattle.number_circuit.specs.declared.fault.NumberFault.{NumberFault}
use Rattle.number_circuit.specs.declared.fault.NumberFault.TheVariants.{Memory}
use Rattle.number_circuit.specs.Walks.{element_in, elements_in}
use Rattle.number_compiler.specs.Terms.{Value}
use Rattle.number_compiler.specs.Circuits.{Names}
use Rattle.number_compiler.specs.declared.number.Number.{Number}
use Rattle.number_compiler.specs.Seen.{seen}
use Rattle.number_compiler.specs.Elements.{top_value, element_steps, elements_steps, bounds_of, mosts}

-- the fault that is wanted, unless memory ran out
abbrev pub Fails : {B : Type 0} → NumberFault → Result B NumberFault → Type 0
Fails Memory wanted = Unit {0}
Fails fault wanted = wanted ≡ Err fault

-- where these values wait and these gates are, and the element before was a number of the text or not: what element x
-- of line n makes of their bounds, and its gates, or its fault
abbrev pub Moves : {A : Type 0} → Names → List ℕ → ℕ → Bool → ExprElement → List Value → Kept → Result A NumberFault
    → List Value → Kept → Type 0
Moves of line n by_number x vs old (Ok a) ws new =
    (element_in (bounds_of of) line n by_number x (mosts vs) ≡ Ok (mosts ws))
    × Runs (element_steps of line by_number x vs) old ws new
Moves of line n by_number x vs old (Err fault) ws new =
    Fails fault (element_in (bounds_of of) line n by_number x (mosts vs))

-- what the elements of line n make of no values: their number stands first, or their first fault
abbrev pub Expresses : Names → List ℕ → ℕ → List ExprElement → Kept → Result Number NumberFault → Kept → Type 0
Expresses of line n xs old (Ok c) new =
    (ws : List Value) × (elements_in (bounds_of of) line n false xs [] ≡ Ok (mosts ws))
    × Runs (elements_steps of line false xs []) old ws new × (seen c ≡ top_value ws)
Expresses of line n xs old (Err fault) new = Fails fault (elements_in (bounds_of of) line n false xs [])
