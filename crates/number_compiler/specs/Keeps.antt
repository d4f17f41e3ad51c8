-- How a draft is kept, and what comes of a line.
use Rattle.std.specs.Prelude.{◌≡◌, ℕ, ◌⊎◌, true, false, List, take, Result, Ok, Err}
use Rattle.job_limits.specs.declared.limits.TheConstants.{MOST_VALUES}
use Rattle.circuit_model.specs.Netlists.{Netlist}
use Rattle.line_grammar.specs.declared.dialect.Dialect.TheVariants.{Numbers}
use Rattle.line_grammar.specs.Grammar.{LineForm, IsLine}
use Rattle.line_grammar.specs.LineFaults.{shallow}
use Rattle.number_gates.specs.Steps.{no_gates, Runs}
use Rattle.number_circuit.specs.declared.fault.NumberFault.{NumberFault}
use Rattle.number_circuit.specs.declared.fault.NumberFault.TheVariants.{TooLarge, Memory}
use Rattle.number_circuit.specs.Programs.{Statement}
use Rattle.number_circuit.specs.Faults.{IsBlank, Parses, FaultOfLine}
use Rattle.number_compiler.specs.declared.draft.Draft.{Draft as DraftKept}
use Rattle.number_compiler.specs.Circuits.{Draft, no_lines, program_steps, all_bits, widths_of, circuit, has_large_circuit}
use Rattle.number_compiler.specs.Elements.{bounds_of}
use Rattle.number_compiler.specs.Named.{AreNames}
use Rattle.number_compiler.specs.Progress.{IsSaid}

-- a draft is kept so: of outputs past the limit only the widths
pub record Keeps (s : DraftKept) (d : Draft) : Type 0 where
  pub names : AreNames s.names d.of
  pub wires : s.wires ≡ d.wires
  pub inputs : s.inputs.items ≡ d.inputs
  pub outputs : s.outputs.items ≡ widths_of d.outputs
  pub bits : s.bits.items ≡ all_bits (take MOST_VALUES d.outputs)

-- line n says a statement, and what comes of it is kept
pub record Adds (d : Draft) (line : List ℕ) (n : ℕ) (old new : DraftKept) : Type 0 where
  pub statement : Statement
  pub draft : Draft
  pub said : IsSaid d line n statement old.gates draft new.gates
  pub keeps : Keeps new draft

-- line n is blank, and nothing changed, or says a statement, or it has this first fault, unless memory ran out
abbrev pub TakesLine : Draft → List ℕ → ℕ → DraftKept → Result (Unit {0}) NumberFault → DraftKept → Type 0
TakesLine d line n old (Ok a) new = (IsBlank line × Keeps new d × (new.gates ≡ old.gates)) ⊎ Adds d line n old new
TakesLine d line n old (Err Memory) new = Unit {0}
TakesLine d line n old (Err fault) new = FaultOfLine (bounds_of d.of) line n fault

-- so it is where the line is this one of the grammar
abbrev pub TakesForm : Draft → List ℕ → ℕ → LineForm → DraftKept → Result (Unit {0}) NumberFault → DraftKept
    → Type 0
TakesForm d line n form old result new =
    (is : IsLine Numbers shallow form) → Parses line (record { form = form; is = is })
    → TakesLine d line n old result new

-- the draft of the program is kept
pub record IsDraftOf (s : DraftKept) (p : List Statement) : Type 0 where
  pub draft : Draft
  pub keeps : Keeps s draft
  pub made : Runs (program_steps no_lines p) no_gates draft s.gates

-- the circuit of the program, if it is within the limits
abbrev pub Assembles : List Statement → Result Netlist NumberFault → Type 0
Assembles p (Ok c) = (has_large_circuit p ≡ false) × (c ≡ circuit p)
Assembles p (Err Memory) = Unit {0}
Assembles p (Err fault) = (has_large_circuit p ≡ true) × (fault ≡ TooLarge)
