-- What the compiler answers, line by line and element by element.
use Rattle.std.specs.Prelude.{ℕ, ◌+◌, ◌^◌, nat_lt, List, [], ◌∷◌, ◌++◌, length, drop, Option, Some, None, Result, Ok, Err, is_some, if◌then◌else◌}
use Rattle.std.specs.Str.Lossy.{utf8_valid_len}
use Rattle.circuit_model.specs.declared.gate.Operation.{Operation}
use Rattle.circuit_model.specs.declared.gate.Operation.TheVariants.{Add, Sub, Neg, Mul, Eq}
use Rattle.circuit_model.specs.Netlists.{Netlist}
use Rattle.list_laws.specs.Answers.{◌>>=◌}
use Rattle.line_grammar.specs.declared.dialect.Dialect.TheVariants.{Words}
use Rattle.line_grammar.specs.declared.fault.LineFault.{LineFault}
use Rattle.line_grammar.specs.declared.element.ExprElement.{ExprElement}
use Rattle.line_grammar.specs.declared.element.ExprElement.TheVariants as elements
use Rattle.line_grammar.specs.declared.element.Head.{Head}
use Rattle.line_grammar.specs.declared.element.Head.TheVariants as heads
use Rattle.line_grammar.specs.declared.operator.Infix.{Infix}
use Rattle.line_grammar.specs.declared.operator.Infix.TheVariants as infixes
use Rattle.line_grammar.specs.Machine.{Read}
use Rattle.line_grammar.specs.Scanned.{parse_in}
use Rattle.expr_circuit.specs.declared.fault.ExprFault.{ExprFault}
use Rattle.expr_circuit.specs.declared.fault.ExprFault.TheVariants.{NotUtf8, UnknownName, BadConstant, TwiceNamed, TooLarge}
use Rattle.expr_circuit.specs.declared.wire.Wire.{Wire}
use Rattle.expr_circuit.specs.declared.wire.Wire.TheVariants as wires
use Rattle.expr_circuit.specs.declared.wire.DraftGate.{DraftGate}
use Rattle.expr_circuit.specs.Programs.{bind}
use Rattle.line_grammar.specs.Places.{name_at, number_at}
use Rattle.expr_circuit.specs.Faults.{lines, of_line}
use Rattle.expr_circuit.specs.Circuits.{Built, Draft, add, no_wire, no_lines, netlist, is_large}

-- the gates so far, and the wires that wait, the last one first
pub record Walk : Type 0 where
  pub gates : List DraftGate
  pub wires : List Wire

abbrev pub top : List Wire → Wire
top [] = no_wire
top (w ∷ ws) = w

-- a wire more
abbrev pub put : Built → List Wire → Walk
put b ws = record { gates = b.gates; wires = b.wire ∷ ws }

abbrev pub named_wire : ℕ → ℕ → Option Wire → Result Wire ExprFault
named_wire n at None = Err (UnknownName n at)
named_wire n at (Some w) = Ok w

abbrev pub operator : Walk → Operation → Walk
operator w o = put (add w.gates o (top (drop 1 w.wires)) (top w.wires) 0) (drop 2 w.wires)

-- the operation of an operator between two operands: words have three alone
abbrev pub operation_of : Infix → Operation
operation_of infixes.Add = Add
operation_of infixes.Subtract = Sub
operation_of _ = Mul

-- what an element makes of the wires before it: one that words don't have leaves its last operand
abbrev pub element_in : ℕ → (List ℕ → Option Wire) → ℕ → List ℕ → ExprElement → Walk → Result Walk ExprFault
element_in q of n line (elements.Name at) w =
    named_wire n at (of (name_at line at)) >>= (λ wire. Ok (put (record { gates = w.gates; wire = wire }) w.wires))
element_in q of n line (elements.Number at) w =
    if nat_lt (number_at line at) q then Ok (put (add w.gates Eq no_wire no_wire (number_at line at)) w.wires)
    else Err (BadConstant n at)
element_in q of n line (elements.Prefix x) w = Ok (put (add w.gates Neg (top w.wires) no_wire 0) (drop 1 w.wires))
element_in q of n line (elements.Infix o at) w = Ok (operator w (operation_of o))
element_in q of n line _ w = Ok (put (record { gates = w.gates; wire = top w.wires }) (drop 1 w.wires))

abbrev pub elements_in : ℕ → (List ℕ → Option Wire) → ℕ → List ℕ → List ExprElement → Walk → Result Walk ExprFault
elements_in q of n line [] w = Ok w
elements_in q of n line (element ∷ rest) w = element_in q of n line element w >>= elements_in q of n line rest

-- the gates and the wire of an expression
unfoldable pub expression_in : ℕ → Draft → ℕ → List ℕ → List ExprElement → Result Built ExprFault
expression_in q d n line elements =
    elements_in q d.of n line elements (record { gates = d.gates; wires = [] })
    >>= (λ w. Ok (record { gates = w.gates; wire = top w.wires }))

-- with a name for a wire, which no line gave before
abbrev pub bind_in : Draft → ℕ → List ℕ → Wire → Result Draft ExprFault
bind_in d n x w = if is_some (d.of x) then Err (TwiceNamed n) else Ok (record d { of = bind d.of x (Some w) })

-- with the gates of an expression
abbrev pub with_gates : Draft → Built → Draft
with_gates d b = record d { gates = b.gates }

-- with an input more
abbrev pub input_in : Draft → ℕ → List ℕ → Result Draft ExprFault
input_in d n x = bind_in d n x (wires.Input d.inputs) >>= (λ e. Ok (record e { inputs = e.inputs + 1 }))

-- with a name for an expression
abbrev pub define_in : ℕ → Draft → ℕ → List ℕ → List ℕ → List ExprElement → Result Draft ExprFault
define_in q d n line x elements = expression_in q d n line elements >>= (λ b. bind_in (with_gates d b) n x b.wire)

-- with an output more
abbrev pub output_in : ℕ → Draft → ℕ → List ℕ → List ExprElement → Result Draft ExprFault
output_in q d n line elements =
    expression_in q d n line elements >>= (λ b. Ok (record d { gates = b.gates; outputs = d.outputs ++ (b.wire ∷ []) }))

-- with one line more
abbrev pub read_in : ℕ → Draft → ℕ → List ℕ → Head → List ExprElement → Result Draft ExprFault
read_in q d n line (heads.Input at) elements = input_in d n (name_at line at)
read_in q d n line (heads.WideInput at width) elements = input_in d n (name_at line at)
read_in q d n line (heads.Let at) elements = define_in q d n line (name_at line at) elements
read_in q d n line heads.Output elements = output_in q d n line elements

abbrev pub read_line : ℕ → Draft → ℕ → List ℕ → Option Read → Result Draft ExprFault
read_line q d n line None = Ok d
read_line q d n line (Some read) = read_in q d n line read.head read.elements

-- what the grammar answers for line n
abbrev pub on_line : {A : Type 0} → ℕ → Result A LineFault → Result A ExprFault
on_line n (Ok a) = Ok a
on_line n (Err fault) = Err (of_line n fault)

-- with line n, or its first fault
unfoldable pub line_in : ℕ → Draft → ℕ → List ℕ → Result Draft ExprFault
line_in q d n line = on_line n (parse_in Words line) >>= read_line q d n line

-- with the lines from line n on, or the first fault
unfoldable pub lines_in : ℕ → Draft → ℕ → List (List ℕ) → Result Draft ExprFault
lines_in q d n [] = Ok d
lines_in q d n (line ∷ lines) = line_in q d n line >>= (λ e. lines_in q e (n + 1) lines)

-- the same, once the first line was read
abbrev pub lines_after : ℕ → ℕ → Result Draft ExprFault → List (List ℕ) → Result Draft ExprFault
lines_after q n read lines = read >>= (λ e. lines_in q e (n + 1) lines)

-- the circuit of a draft, if it is within the limits
abbrev pub netlist_in : ℕ → Draft → Result Netlist ExprFault
netlist_in bits d = if is_large (netlist bits d) then Err TooLarge else Ok (netlist bits d)

-- the circuit of the program that a text is, or the first fault
unfoldable pub compiled_in : ℕ → List ℕ → Result Netlist ExprFault
compiled_in bits bytes =
    if nat_lt (utf8_valid_len bytes) (length bytes) then Err (NotUtf8 (utf8_valid_len bytes))
    else lines_in (2 ^ bits) no_lines 1 (lines bytes) >>= netlist_in bits
