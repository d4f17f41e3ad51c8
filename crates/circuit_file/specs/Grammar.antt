-- The grammar of circuit files.
use Rattle.std.specs.Prelude.{◌≡◌, ℕ, ◌↔◌, List, [], ◌∷◌, ◌++◌, take, length, if◌then◌else◌, Some, Ok}
use Rattle.std.specs.Str.{IsUtf8}
use Rattle.text_tokens.specs.Numbers.{number_written}
use Rattle.gate_lines.specs.Rows.{Row, rows_of}
use Rattle.circuit_model.specs.Netlists.{Netlist, IsCircuit, arity, is_constant}
use Rattle.circuit_model.specs.declared.gate.Gate.{Gate}
use Rattle.circuit_file.specs.GateLines.{operation_of}
use Rattle.circuit_file.specs.CircuitFiles.{circuit_in}
use Rattle.circuit_model.specs.declared.layout.CircuitLayout.{CircuitLayout}
use Rattle.circuit_model.specs.declared.layout.CircuitLayout.TheVariants.{Bristol}

-- each token writes the number beside it
abbrev pub Write : List (List ℕ) → List ℕ → Type 0
Write [] [] = Unit {0}
Write [] (n ∷ ns) = ⊥
Write (t ∷ ts) [] = ⊥
Write (t ∷ ts) (n ∷ ns) = (number_written t ≡ Some n) × Write ts ns

-- the input wires of a gate, or its constant
abbrev pub listed_wires : Gate → List ℕ
listed_wires g = if is_constant g.operation then g.constant ∷ [] else take (arity g.operation) (g.first ∷ g.second ∷ [])

-- the count of input wires, the count of output wires, the input wires, the output wire, the operation
pub record IsGateLine (layout : CircuitLayout) (row : Row) (g : Gate) : Type 0 where
  pub numbers : List (List ℕ)
  pub name : List ℕ
  pub tokens : row.tokens ≡ numbers ++ (name ∷ [])
  pub write : Write numbers (arity g.operation ∷ 1 ∷ (listed_wires g ++ (g.output ∷ [])))
  pub operation : operation_of layout name ≡ Some g.operation

-- each line is the line of the gate beside it
abbrev pub AreGateLines : CircuitLayout → List Row → List Gate → Type 0
AreGateLines layout [] [] = Unit {0}
AreGateLines layout [] (g ∷ gs) = ⊥
AreGateLines layout (row ∷ rows) [] = ⊥
AreGateLines layout (row ∷ rows) (g ∷ gs) = IsGateLine layout row g × AreGateLines layout rows gs

-- the text has two counts, the widths of the input values, the widths of the output values and the gates of a circuit
pub record StandsFor (layout : CircuitLayout) (bits : ℕ) (bytes : List ℕ) (c : Netlist) : Type 0 where
  pub one : Row
  pub two : Row
  pub three : Row
  pub rest : List Row
  pub text : IsUtf8 bytes
  pub lines : rows_of bytes ≡ one ∷ two ∷ three ∷ rest
  pub counts : Write one.tokens (length c.gates ∷ c.wires ∷ [])
  pub inputs : Write two.tokens (length c.inputs ∷ c.inputs)
  pub outputs : Write three.tokens (length c.outputs ∷ c.outputs)
  pub gates : AreGateLines layout rest c.gates
  pub words : c.bits ≡ bits
  pub boolean : layout ≡ Bristol → bits ≡ 1
  pub valid : IsCircuit c

-- a file stands for a circuit exactly where it has no fault, and for one circuit only
abbrev pub HasOneAnswer : CircuitLayout → ℕ → List ℕ → Type 0
HasOneAnswer layout bits bytes = (c : Netlist) → StandsFor layout bits bytes c ↔ (circuit_in layout bits bytes ≡ Ok c)
