-- The circuit of a program is valid, and has the program's value.
use Rattle.std.proofs.Common.{ℕ, ◌^◌, ◌<◌, ◌≤◌, List}
use Rattle.circuit_model.specs.Netlists.{IsCircuit}
use Rattle.circuit_model.proofs.Solutions.{values_solve}
use Rattle.expr_circuit.specs.Programs.{Statement}
use Rattle.expr_circuit.specs.Faults.{none_known, lines}
use Rattle.expr_circuit.specs.Circuits.{draft_of, circuit}
use Rattle.expr_circuit.specs.Laws.{IsProgram, HasItsValue}
use Rattle.expr_circuit.proofs.GoodPrograms.{AreGood, good_lines}
use Rattle.expr_circuit.proofs.Wires.{known_after}
use Rattle.expr_circuit.proofs.Netlists.{draft_fits, small_draft, circuit_is}
use Rattle.expr_circuit.proofs.PlainValues.{draft_value}

module _ (bits : ℕ) (text : List ℕ) (p : List Statement) (is : IsProgram bits text p) where
  -- its lines are good
  pub good_program : AreGood (2 ^ bits) none_known p
  good_program = good_lines (2 ^ bits) none_known 1 (lines text) p is.said

  pub valid_program : 0 < bits → bits ≤ 64 → IsCircuit (circuit bits p)
  valid_program some few =
      circuit_is bits (known_after none_known p) (draft_of p) some few (small_draft bits (draft_of p) is.small) (draft_fits (2 ^ bits) p good_program)

pub program_has_its_value : (bits : ℕ) (text : List ℕ) (p : List Statement) → 0 < bits → bits ≤ 64 → HasItsValue bits text p
program_has_its_value bits text p some few inputs is =
    draft_value bits p inputs (good_program bits text p is) (values_solve (circuit bits p) inputs (valid_program bits text p is some few))
