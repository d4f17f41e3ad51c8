use Rattle.std.proofs.Common.{◌≡◌, ℕ, ◌<◌, false}
use Rattle.circuit_model.specs.Circuits.{is_product}
use Rattle.row_steps.specs.Rows.{gate_in}
use Rattle.row_steps.proofs.gates.linear_count.Given as goal

abbrev pub invariant-loop-gate : goal.invariant-loop-gate
invariant-loop-gate l =
    (l.count ≡ l.gate-index) × ((t : ℕ) → t < l.gate-index → is_product (gate_in l.gates t).operation ≡ false)
