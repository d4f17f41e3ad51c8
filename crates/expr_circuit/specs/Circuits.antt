-- The circuit that a program is compiled to.
use Rattle.std.specs.Prelude.{ℕ, ◌+◌, nat_lt, Bool, ◌||◌, List, [], ◌∷◌, ◌++◌, length, map, replicate, Option, Some, None, unwrap_or}
use Rattle.circuit_model.specs.declared.gate.Operation.{Operation}
use Rattle.circuit_model.specs.declared.gate.Operation.TheVariants.{Add, Sub, Neg, Mul, Eq, Eqw}
use Rattle.circuit_model.specs.declared.gate.Gate.{Gate}
use Rattle.circuit_model.specs.Netlists.{Netlist}
use Rattle.expr_circuit.specs.declared.wire.Wire.{Wire}
use Rattle.expr_circuit.specs.declared.wire.Wire.TheVariants as wires
use Rattle.expr_circuit.specs.declared.wire.DraftGate.{DraftGate}
use Rattle.expr_circuit.specs.Programs.{Term, Statement, bind}
use Rattle.expr_circuit.specs.Programs.Term.{constant, variable, negative, sum, subtraction, product}
use Rattle.expr_circuit.specs.Programs.Statement.{input, define, output}
use Rattle.job_limits.specs.declared.limits.TheConstants.{MOST_GATES, MOST_WIRES, MOST_VALUES}

-- what stands for a wire that an operation doesn't read
abbrev pub no_wire : Wire
no_wire = wires.Input 0

-- the gates so far, and a wire
pub record Built : Type 0 where
  pub gates : List DraftGate
  pub wire : Wire

-- one gate more, and its wire
abbrev pub add : List DraftGate → Operation → Wire → Wire → ℕ → Built
add gates o a b c =
    record {
      gates = gates ++ (record { operation = o; first = a; second = b; constant = c } ∷ []);
      wire = wires.Gate (length gates);
    }

abbrev pub after_one : Operation → Built → Built
after_one o a = add a.gates o a.wire no_wire 0

-- a number and each operator is a gate, after its operands, left before right; a name is its wire
abbrev pub build : (List ℕ → Option Wire) → List DraftGate → Term → Built
build of gates (constant n) = add gates Eq no_wire no_wire n
build of gates (variable x) = record { gates = gates; wire = unwrap_or (of x) no_wire }
build of gates (negative t) = after_one Neg (build of gates t)
build of gates (sum s t) =
    add (build of (build of gates s).gates t).gates Add (build of gates s).wire
    (build of (build of gates s).gates t).wire 0
build of gates (subtraction s t) =
    add (build of (build of gates s).gates t).gates Sub (build of gates s).wire
    (build of (build of gates s).gates t).wire 0
build of gates (product s t) =
    add (build of (build of gates s).gates t).gates Mul (build of gates s).wire
    (build of (build of gates s).gates t).wire 0

-- what some lines make: the wire of each name that is known, the gates, how many inputs, and the wires of the output
-- lines
pub record Draft : Type 0 where
  pub of : List ℕ → Option Wire
  pub gates : List DraftGate
  pub inputs : ℕ
  pub outputs : List Wire

abbrev pub after_statement : Draft → Statement → Draft
after_statement d (input x) = record d { of = bind d.of x (Some (wires.Input d.inputs)); inputs = d.inputs + 1 }
after_statement d (define x t) =
    record d { of = bind d.of x (Some (build d.of d.gates t).wire); gates = (build d.of d.gates t).gates }
after_statement d (output t) =
    record d { gates = (build d.of d.gates t).gates; outputs = d.outputs ++ ((build d.of d.gates t).wire ∷ []) }

abbrev pub after_statements : Draft → List Statement → Draft
after_statements d [] = d
after_statements d (s ∷ p) = after_statements (after_statement d s) p

abbrev pub no_lines : Draft
no_lines = record { of = λ x. None; gates = []; inputs = 0; outputs = [] }

-- the draft of a whole program
unfoldable pub draft_of : List Statement → Draft
draft_of p = after_statements no_lines p

-- the number of a wire, behind `inputs` inputs
abbrev pub number_of : ℕ → Wire → ℕ
number_of inputs (wires.Input i) = i
number_of inputs (wires.Gate g) = inputs + g

-- a copy of a wire
abbrev pub copy : Wire → DraftGate
copy w = record { operation = Eqw; first = w; second = no_wire; constant = 0 }

-- all gates: after the last line each output in order is a copy
abbrev pub all_gates : Draft → List DraftGate
all_gates d = d.gates ++ map copy d.outputs

-- gate number g, behind `inputs` inputs: it sets the next wire
abbrev pub gate_of : ℕ → ℕ → DraftGate → Gate
gate_of inputs g s =
    record {
      operation = s.operation;
      first = number_of inputs s.first;
      second = number_of inputs s.second;
      output = inputs + g;
      constant = s.constant;
    }

abbrev pub gates_from : ℕ → ℕ → List DraftGate → List Gate
gates_from inputs g [] = []
gates_from inputs g (s ∷ ss) = gate_of inputs g s ∷ gates_from inputs (g + 1) ss

-- the circuit of these gates over `inputs` inputs and `outputs` outputs, each of which is a value of width 1
abbrev pub assembled : ℕ → ℕ → List DraftGate → ℕ → Netlist
assembled bits inputs gates outputs =
    record {
      bits = bits;
      gates = gates_from inputs 0 gates;
      wires = inputs + length gates;
      inputs = replicate inputs 1;
      outputs = replicate outputs 1;
    }

-- the circuit of a draft
unfoldable pub netlist : ℕ → Draft → Netlist
netlist bits d = assembled bits d.inputs (all_gates d) (length d.outputs)

-- the circuit would pass a limit
abbrev pub is_large : Netlist → Bool
is_large c =
    (nat_lt MOST_GATES (length c.gates) || nat_lt MOST_WIRES c.wires)
    || (nat_lt MOST_VALUES (length c.inputs) || nat_lt MOST_VALUES (length c.outputs))

-- the circuit of a program over words of `bits` bits
abbrev pub circuit : ℕ → List Statement → Netlist
circuit bits p = netlist bits (draft_of p)
