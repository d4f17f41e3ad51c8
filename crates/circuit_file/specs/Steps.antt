-- What the parts of a reader leave behind.
use Rattle.std.specs.Prelude.{◌≡◌, ℕ, suc, ◌≤◌, List, [], ◌∷◌, ◌++◌, take, None, Result, Ok, Err}
use Rattle.gate_lines.specs.Rows.{Row}
use Rattle.gate_lines.specs.Places.{Place}
use Rattle.list_laws.specs.Checks.{first_fault, or_fault}
use Rattle.circuit_model.specs.DraftSteps.{Draft, add_gate}
use Rattle.circuit_model.specs.declared.gate.Gate.{Gate}
use Rattle.circuit_model.specs.declared.fault.CircuitFault.{CircuitFault}
use Rattle.circuit_file.specs.Answers.{Fails}
use Rattle.circuit_file.specs.Tokens.{tokens_after, numbers_in}
use Rattle.circuit_file.specs.GateLines.{form_checks, form_of}
use Rattle.circuit_file.specs.CircuitFiles.{gate_in, gates_in, header_in}
use Rattle.circuit_file.specs.Grammar.{Write}
use Rattle.circuit_file.specs.declared.gate_line.ParsedGate.{ParsedGate}
use Rattle.circuit_model.specs.declared.layout.CircuitLayout.{CircuitLayout}
use Rattle.job_limits.specs.declared.limits.TheConstants.{MOST_GATES}

-- the next tokens write these numbers
pub record TakesNumbers (old : Place) (numbers : List ℕ) (new : Place) : Type 0 where
  pub tokens : List (List ℕ)
  pub before : old ≡ record new { tokens = tokens ++ new.tokens }
  pub write : Write tokens numbers

-- a gate line without a fault in its form says this, and has at most three wires
pub record IsParsedGate (layout : CircuitLayout) (row : Row) (parsed : ParsedGate) : Type 0 where
  pub line : parsed.line ≡ row.number
  pub form : or_fault (first_fault (form_checks layout row)) (form_of layout row) ≡ Ok parsed.form
  pub wires : take parsed.form.wires parsed.wires ≡ numbers_in (tokens_after 2 parsed.form.wires row)
  pub inputs : parsed.form.inputs ≤ parsed.form.wires
  pub few : parsed.form.wires ≤ 3

-- the first line says this
pub record IsFirstGate (layout : CircuitLayout) (rows : List Row) (parsed : ParsedGate) (rest : List Row) : Type 0 where
  pub row : Row
  pub first : rows ≡ row ∷ rest
  pub is : IsParsedGate layout row parsed

-- the draft has the gate of the line, or the line has this fault
abbrev pub AddsGate : CircuitLayout → Row → Draft → Result (Unit {0}) CircuitFault → Draft → Type 0
AddsGate layout row old (Ok done) new =
    (g : Gate) × (gate_in layout old.circuit row ≡ Ok g) × (new ≡ record old { circuit = add_gate old.circuit g })
AddsGate layout row old (Err f) new = Fails f (gate_in layout old.circuit row)

-- the draft has the gate of the first line, or that line has the first fault, or there is none
abbrev pub AddsNext : CircuitLayout → ℕ → List Row → Draft → Result (Unit {0}) CircuitFault → List Row → Draft → Type 0
AddsNext layout seen rows old (Ok done) rest new =
    (row : Row) × (rows ≡ row ∷ rest) × AddsGate layout row old (Ok done) new
AddsNext layout seen rows old (Err f) rest new = (n : ℕ) → Fails f (gates_in layout (suc n) seen old.circuit rows)

-- a draft that waits for its first gate, and the rows that are left, or the first fault of a header
abbrev pub Begins : ℕ → List Row → Result (ℕ × Draft) CircuitFault → List Row → Type 0
Begins bits rows (Ok b) rest =
    (header_in bits rows ≡ Ok (b.0, b.1.circuit, rest)) × (b.1.circuit.gates ≡ []) × (b.1.announced ≡ b.0)
    × (b.1.refused ≡ None) × (b.0 ≤ MOST_GATES)
Begins bits rows (Err f) rest = Fails f (header_in bits rows)

-- the draft has the gates of the next n lines, or one of them has the first fault
abbrev pub AddsAll : CircuitLayout → ℕ → List Row → Draft → Result (Unit {0}) CircuitFault → List Row → Draft → Type 0
AddsAll layout n rows old (Ok done) rest new =
    (gates_in layout n 3 old.circuit rows ≡ Ok (new.circuit, rest)) × (new.refused ≡ None)
AddsAll layout n rows old (Err f) rest new = Fails f (gates_in layout n 3 old.circuit rows)
