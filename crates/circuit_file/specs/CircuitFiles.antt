-- The circuit of a file, or its first fault.
use Rattle.std.specs.Prelude.{ℕ, zero, suc, ◌+◌, pos, Bool, true, false, not, ◌&&◌, ◌==◌, nat_lt, List, [], ◌∷◌, length, Result, Ok, Err, Option}
use Rattle.std.specs.Option.{option_map}
use Rattle.std.specs.Str.Lossy.{utf8_valid_len}
use Rattle.gate_lines.specs.Rows.{Row, rows_of}
use Rattle.list_laws.specs.Checks.{◌answers◌, first_fault, or_fault, then_fault}
use Rattle.circuit_model.specs.Netlists.{Netlist}
use Rattle.circuit_model.specs.DraftSteps.{next_gate, add_gate, unset_output}
use Rattle.circuit_model.specs.declared.gate.Gate.{Gate}
use Rattle.circuit_model.specs.declared.fault.CircuitFault.{CircuitFault}
use Rattle.circuit_model.specs.declared.fault.CircuitFault.TheVariants.{NotUtf8, FewLines, ExtraLine, OutputNotSet, WrongRing}
use Rattle.list_laws.specs.Answers.{◌>>=◌}
use Rattle.circuit_file.specs.Header.{counts_in, widths_in}
use Rattle.circuit_file.specs.GateLines.{gate_line_in}
use Rattle.circuit_model.specs.declared.layout.CircuitLayout.{CircuitLayout}
use Rattle.circuit_model.specs.declared.layout.CircuitLayout.TheVariants.{Bristol, Ring}

-- the next line with tokens and those after it, where `seen` came before
abbrev pub next_row : ℕ → List Row → Result (Row × List Row) CircuitFault
next_row seen [] = Err (FewLines seen)
next_row seen (row ∷ rows) = Ok (row, rows)

-- a gate line that says a gate which may be next
abbrev pub gate_in : CircuitLayout → Netlist → Row → Result Gate CircuitFault
gate_in layout c row = gate_line_in layout row >>= (λ g. next_gate c row.number g.operation g.inputs g.outputs)

-- with the gates of the next n lines, after the `seen` ones, and the lines that are left
unfoldable pub gates_in : CircuitLayout → ℕ → ℕ → Netlist → List Row → Result (Netlist × List Row) CircuitFault
gates_in layout zero seen c rows = Ok (c, rows)
gates_in layout (suc n) seen c [] = Err (FewLines seen)
gates_in layout (suc n) seen c (row ∷ rows) =
    gate_in layout c row >>= (λ g. gates_in layout n (seen + 1) (add_gate c g) rows)

-- no line is left, and each output wire is set
abbrev pub ended : Netlist → List Row → Result Netlist CircuitFault
ended c [] = or_fault (option_map OutputNotSet (unset_output c)) c
ended c (row ∷ rows) = Err (ExtraLine row.number)

abbrev pub no_gates : ℕ → ℕ → List ℕ → List ℕ → Netlist
no_gates bits wires inputs outputs =
    record { bits = bits; gates = []; wires = wires; inputs = inputs; outputs = outputs }

-- the three header lines: how many gates there are, the circuit without them, and the lines that are left
unfoldable pub header_in : ℕ → List Row → Result (ℕ × Netlist × List Row) CircuitFault
header_in bits rows =
    next_row 0 rows >>= (λ one. counts_in one.0 >>= (λ counts.
    next_row 1 one.1 >>= (λ two. widths_in counts.wires two.0 >>= (λ inputs.
    next_row 2 two.1 >>= (λ three. widths_in counts.wires three.0 >>= (λ outputs.
    Ok (counts.gates, no_gates bits counts.wires inputs outputs, three.1)))))))

-- the lines with tokens, looked at in order
unfoldable pub lines_in : CircuitLayout → ℕ → List Row → Result Netlist CircuitFault
lines_in layout bits rows =
    header_in bits rows >>= (λ h. gates_in layout h.0 3 h.1 h.2 >>= (λ read. ended read.0 read.1))

abbrev pub is_bristol : CircuitLayout → Bool
is_bristol Bristol = true
is_bristol Ring = false

-- what is wrong before any line is looked at
unfoldable pub text_checks : CircuitLayout → ℕ → List ℕ → List (Option CircuitFault)
text_checks layout bits bytes =
    ((is_bristol layout && not (bits == 1)) answers WrongRing (pos bits))
    ∷ (nat_lt (utf8_valid_len bytes) (length bytes) answers NotUtf8 (utf8_valid_len bytes))
    ∷ []

-- the circuit of a file for words of `bits` bits, or the first fault
unfoldable pub circuit_in : CircuitLayout → ℕ → List ℕ → Result Netlist CircuitFault
circuit_in layout bits bytes =
    then_fault (first_fault (text_checks layout bits bytes)) (lines_in layout bits (rows_of bytes))
