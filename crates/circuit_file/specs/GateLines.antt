-- The form of a gate line, and its faults in the order of the checks.
use Rattle.std.specs.Prelude.{ℕ, ◌+◌, not, nat_lt, List, [], ◌∷◌, length, take, drop, is_some, unwrap_or, Option, Some, None, if◌then◌else◌, codes, Result}
use Rattle.std.specs.Str.{bytes_eq}
use Rattle.gate_lines.specs.Rows.{Row}
use Rattle.list_laws.specs.Checks.{◌answers◌, first_fault, or_fault}
use Rattle.circuit_model.specs.declared.gate.Operation.{Operation}
use Rattle.circuit_model.specs.declared.gate.Operation.TheVariants.{Add, Sub, Neg, Mul, Xor, And, Inv, Eq, Eqw}
use Rattle.circuit_model.specs.declared.fault.CircuitFault.{CircuitFault}
use Rattle.circuit_model.specs.declared.fault.CircuitFault.TheVariants.{BadNumber, ShortLine, LongLine, UnknownOperation}
use Rattle.circuit_file.specs.Tokens.{token, tokens_after, number_in, all_numbers, numbers_in}
use Rattle.circuit_model.specs.declared.layout.CircuitLayout.{CircuitLayout}
use Rattle.circuit_model.specs.declared.layout.CircuitLayout.TheVariants as layouts
use Rattle.circuit_file.specs.declared.gate_line.Form.{Form}

abbrev pub bristol_operation : List ℕ → Option Operation
bristol_operation name =
    if bytes_eq name (codes "XOR") then Some Xor
    else if bytes_eq name (codes "AND") then Some And
    else if bytes_eq name (codes "INV") then Some Inv
    else if bytes_eq name (codes "EQ") then Some Eq
    else if bytes_eq name (codes "EQW") then Some Eqw
    else None

abbrev pub ring_operation : List ℕ → Option Operation
ring_operation name =
    if bytes_eq name (codes "ADD") then Some Add
    else if bytes_eq name (codes "SUB") then Some Sub
    else if bytes_eq name (codes "MUL") then Some Mul
    else if bytes_eq name (codes "NEG") then Some Neg
    else if bytes_eq name (codes "EQ") then Some Eq
    else if bytes_eq name (codes "EQW") then Some Eqw
    else None

-- the operation of this name in a layout
unfoldable pub operation_of : CircuitLayout → List ℕ → Option Operation
operation_of layouts.Bristol name = bristol_operation name
operation_of layouts.Ring name = ring_operation name

-- the counts of input and output wires
abbrev pub input_count : Row → ℕ
input_count line = number_in (token line 0)

abbrev pub output_count : Row → ℕ
output_count line = number_in (token line 1)

abbrev pub wire_count : Row → ℕ
wire_count line = input_count line + output_count line

-- what stands after the wires
abbrev pub operation_in : CircuitLayout → Row → Option Operation
operation_in layout line = operation_of layout (token line (wire_count line + 2))

unfoldable pub form_checks : CircuitLayout → Row → List (Option CircuitFault)
form_checks layout line =
    (nat_lt (length line.tokens) 2 answers ShortLine line.number)
    ∷ (not (all_numbers (tokens_after 0 2 line)) answers BadNumber line.number)
    ∷ (nat_lt (length line.tokens) (wire_count line + 3) answers ShortLine line.number)
    ∷ (nat_lt (wire_count line + 3) (length line.tokens) answers LongLine line.number)
    ∷ (not (all_numbers (tokens_after 2 (wire_count line) line)) answers BadNumber line.number)
    ∷ (not (is_some (operation_in layout line)) answers UnknownOperation line.number)
    ∷ []

abbrev pub wires_in : Row → List ℕ
wires_in line = numbers_in (tokens_after 2 (wire_count line) line)

abbrev pub form_of : CircuitLayout → Row → Form
form_of layout line =
    record { operation = unwrap_or (operation_in layout line) Eqw; inputs = input_count line; wires = wire_count line }

-- what a gate line says
pub record GateLine : Type 0 where
  pub operation : Operation
  pub inputs : List ℕ
  pub outputs : List ℕ

abbrev pub gate_line_of : CircuitLayout → Row → GateLine
gate_line_of layout line = record {
  operation = unwrap_or (operation_in layout line) Eqw;
  inputs = take (input_count line) (wires_in line);
  outputs = drop (input_count line) (wires_in line);
}

unfoldable pub gate_line_in : CircuitLayout → Row → Result GateLine CircuitFault
gate_line_in layout line = or_fault (first_fault (form_checks layout line)) (gate_line_of layout line)
