-- The text of a circuit.
use Rattle.std.specs.Prelude.{◌≡◌, ℕ, ◌<◌, List, [], ◌∷◌, ◌++◌, length, map, codes, decimal, Some}
use Rattle.circuit_model.specs.declared.gate.Operation.{Operation}
use Rattle.circuit_model.specs.declared.gate.Operation.TheVariants.{Add, Sub, Neg, Mul, Xor, And, Inv, Eq, Eqw}
use Rattle.circuit_model.specs.declared.gate.Gate.{Gate}
use Rattle.circuit_model.specs.declared.layout.CircuitLayout.{CircuitLayout}
use Rattle.circuit_model.specs.declared.layout.CircuitLayout.TheVariants.{Bristol}
use Rattle.circuit_model.specs.Netlists.{Netlist, IsCircuit, arity, gate}
use Rattle.circuit_file.specs.GateLines.{operation_of}
use Rattle.circuit_file.specs.Grammar.{listed_wires}

-- the name of an operation
abbrev pub operation_name : Operation → List ℕ
operation_name Add = codes "ADD"
operation_name Sub = codes "SUB"
operation_name Neg = codes "NEG"
operation_name Mul = codes "MUL"
operation_name Xor = codes "XOR"
operation_name And = codes "AND"
operation_name Inv = codes "INV"
operation_name Eq = codes "EQ"
operation_name Eqw = codes "EQW"

-- the parts of a line, by their texts
abbrev pub Parts : Type 0
Parts = List (List ℕ)

-- parts, each after a space
abbrev pub spaced : Parts → List ℕ
spaced [] = []
spaced (part ∷ parts) = 32 ∷ (part ++ spaced parts)

-- parts separated by a space
abbrev pub parts_text : Parts → List ℕ
parts_text [] = []
parts_text (part ∷ parts) = part ++ spaced parts

-- lines of such parts, each of which ends with LF
abbrev pub lines_text : List Parts → List ℕ
lines_text [] = []
lines_text (parts ∷ lines) = parts_text parts ++ (10 ∷ lines_text lines)

-- the count of input wires, the count of output wires, the input wires or the constant, and the output wire
abbrev pub gate_numbers : Gate → List ℕ
gate_numbers g = arity g.operation ∷ 1 ∷ (listed_wires g ++ (g.output ∷ []))

-- the numbers of a gate, and the name of its operation
abbrev pub gate_parts : Gate → Parts
gate_parts g = map decimal (gate_numbers g) ++ (operation_name g.operation ∷ [])

-- the counts of gates and wires, the widths of the inputs, those of the outputs, and the gates
abbrev pub circuit_parts : Netlist → List Parts
circuit_parts c =
    map decimal (length c.gates ∷ c.wires ∷ [])
    ∷ map decimal (length c.inputs ∷ c.inputs)
    ∷ map decimal (length c.outputs ∷ c.outputs)
    ∷ map gate_parts c.gates

-- the text of a circuit
unfoldable pub circuit_text : Netlist → List ℕ
circuit_text c = lines_text (circuit_parts c)

-- the layout has the operation of the gate
abbrev pub HasOperation : CircuitLayout → Gate → Type 0
HasOperation layout g = operation_of layout (operation_name g.operation) ≡ Some g.operation

-- a valid circuit that a file in the layout may have
pub record IsWritable (layout : CircuitLayout) (c : Netlist) : Type 0 where
  pub valid : IsCircuit c
  pub operations : (t : ℕ) → t < length c.gates → HasOperation layout (gate c t)
  pub boolean : layout ≡ Bristol → c.bits ≡ 1
