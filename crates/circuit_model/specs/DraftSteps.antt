-- What a builder of circuits answers.
use Rattle.std.specs.Prelude.{◌≡◌, ℕ, ◌-◌, ◌^◌, nat_lt, ◌==◌, Bool, not, ◌&&◌, ◌||◌, ◌⊎◌, List, [], ◌∷◌, ◌++◌, length, sum, slice_index, Option, Some, None, Result, Ok, Err, if◌then◌else◌}
use Rattle.std.specs.Option.{is_some, option_map}
use Rattle.std.specs.List.{list_all, find, range_with_len}
use Rattle.circuit_model.specs.declared.gate.Gate.{Gate}
use Rattle.circuit_model.specs.declared.gate.Operation.{Operation}
use Rattle.circuit_model.specs.declared.fault.CircuitFault.{CircuitFault}
use Rattle.circuit_model.specs.declared.fault.CircuitFault.TheVariants.{TooLarge, HeaderWidths, WrongArity, BadConstant, WireOutOfRange, ReadBeforeSet, SetTwice, OutputNotSet, Memory}
use Rattle.list_laws.specs.Checks.{◌answers◌, first_fault, or_fault, then_fault}
use Rattle.circuit_model.specs.Netlists.{Netlist, arity, is_constant, inputs_read, output_wires, sets}
use Rattle.job_limits.specs.declared.limits.TheConstants.{MOST_GATES, MOST_WIRES, MOST_VALUES}

-- a circuit that lacks gates: how many it will have, and the first refusal
pub record Draft : Type 0 where
  pub circuit : Netlist
  pub announced : ℕ
  pub refused : Option CircuitFault

-- the checks on the counts of a header, whose three lines have these numbers
unfoldable pub header_checks : ℕ → ℕ → List ℕ → List ℕ → List ℕ → List (Option CircuitFault)
header_checks gates wires inputs outputs lines =
    ((nat_lt MOST_GATES gates || nat_lt MOST_WIRES wires) answers TooLarge (slice_index lines 0))
    ∷ (nat_lt MOST_VALUES (length inputs) answers TooLarge (slice_index lines 1))
    ∷ (nat_lt wires (sum inputs) answers HeaderWidths (slice_index lines 1))
    ∷ (nat_lt MOST_VALUES (length outputs) answers TooLarge (slice_index lines 2))
    ∷ (nat_lt wires (sum outputs) answers HeaderWidths (slice_index lines 2))
    ∷ []

-- a draft before its first gate
abbrev pub no_gates_yet : ℕ → ℕ → ℕ → List ℕ → List ℕ → Draft
no_gates_yet bits gates wires inputs outputs =
    record {
      circuit = record { bits = bits; gates = []; wires = wires; inputs = inputs; outputs = outputs };
      announced = gates;
      refused = None;
    }

-- a circuit without gates yet, or the first fault of its header
unfoldable pub start_of : ℕ → ℕ → ℕ → List ℕ → List ℕ → List ℕ → Result Draft CircuitFault
start_of bits gates wires inputs outputs lines =
    or_fault (first_fault (header_checks gates wires inputs outputs lines))
    (no_gates_yet bits gates wires inputs outputs)

-- the checks on a gate, for words of `bits` bits, `wires` wires, and those that are set
unfoldable pub gate_checks : ℕ → ℕ → (ℕ → Bool) → ℕ → Operation → List ℕ → List ℕ → List (Option CircuitFault)
gate_checks bits wires set line o inputs outputs =
    (not ((length inputs == arity o) && (length outputs == 1)) answers WrongArity line)
    ∷ ((is_constant o && not (nat_lt (slice_index inputs 0) (2 ^ bits))) answers BadConstant line)
    ∷ (not (list_all (λ w. nat_lt w wires) (inputs_read o inputs) && nat_lt
    (slice_index outputs 0) wires) answers WireOutOfRange line)
    ∷ (not (list_all set (inputs_read o inputs)) answers ReadBeforeSet line)
    ∷ (set (slice_index outputs 0) answers SetTwice line)
    ∷ []

-- the gate of an operation, with what it takes and the wire that it sets
abbrev pub gate_of : Operation → List ℕ → List ℕ → Gate
gate_of o inputs outputs =
    record {
      operation = o;
      first = slice_index (inputs_read o inputs) 0;
      second = slice_index (inputs_read o inputs) 1;
      output = slice_index outputs 0;
      constant = if is_constant o then slice_index inputs 0 else 0;
    }

-- the gate that is next, or its first fault
unfoldable pub next_gate : Netlist → ℕ → Operation → List ℕ → List ℕ → Result Gate CircuitFault
next_gate c line o inputs outputs =
    or_fault (first_fault (gate_checks c.bits c.wires (sets c) line o inputs outputs)) (gate_of o inputs outputs)

-- the circuit with one gate more
abbrev pub add_gate : Netlist → Gate → Netlist
add_gate c g = record c { gates = c.gates ++ (g ∷ []) }

-- with the gate, or with the refusal
abbrev pub take_gate : Draft → Result Gate CircuitFault → Draft
take_gate d (Ok g) = record d { circuit = add_gate d.circuit g }
take_gate d (Err f) = record d { refused = Some f }

-- a refusal stays, whatever gate is next
abbrev pub after_gate : Draft → ℕ → Operation → List ℕ → List ℕ → Draft
after_gate d line o inputs outputs =
    if is_some d.refused then d else take_gate d (next_gate d.circuit line o inputs outputs)

-- what a builder answers
abbrev pub answer_of : Draft → Result (Unit {0}) CircuitFault
answer_of d = or_fault d.refused tt

-- the draft became what is wanted, or memory ran out, which is kept as any refusal is
abbrev pub Becomes : Draft → Draft → Draft → Type 0
Becomes old wanted new = (new ≡ wanted) ⊎ ((old.refused ≡ None) × (new ≡ record old { refused = Some Memory }))

-- the first output wire that isn't set
abbrev pub unset_output : Netlist → Option ℕ
unset_output c = find (λ w. not (sets c w)) (range_with_len (c.wires - output_wires c) (output_wires c))

-- the circuit, or the refusal
unfoldable pub circuit_of : Draft → Result Netlist CircuitFault
circuit_of d = then_fault d.refused (or_fault (option_map OutputNotSet (unset_output d.circuit)) d.circuit)
