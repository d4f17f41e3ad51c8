use Rattle.std.proofs.Common.{◌≡◌, ℕ, ◌<◌, ◌^◌, false, All, length}
use Rattle.circuit_model.specs.Circuits.{is_product}
use Rattle.row_steps.specs.Rows.{FillsRows, gate_in}
use Rattle.row_steps.proofs.gates.linear_gates.Given as goal

abbrev pub invariant-loop-gate : goal.invariant-loop-gate
invariant-loop-gate l =
    All (λ x. x < 2 ^ l.ring) l.table
    × (length l.table ≡ length l.fn.table)
    × (l.computed ≡ l.gate-index)
    × ((t : ℕ) → t < l.gate-index → is_product (gate_in l.gates t).operation ≡ false)
    × FillsRows (2 ^ l.ring) l.shares l.wires l.gates l.gate-index l.fn.table l.table
