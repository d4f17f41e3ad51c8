use Rattle.std.proofs.Common.{◌≡◌, ℕ, ◌+◌, ◌-◌, ◌<◌, ◌≤◌, length, sym, ap, ◌∙◌, arith}
use Rattle.session_slots.specs.Sessions.{gate}
use Rattle.row_steps.specs.Rows.{gate_in}
use Rattle.desk_walks.proofs.GateRuns.{direct_run}
use Rattle.desk_walks.proofs.walks.gates_from.Goals as goal

pub returns : goal.returns
returns c =
    let s = c.args.part.now in
    let direct = sym c.if-is_prepared.ensures in
    let among = c.requires.among direct in
    let t : ℕ = c.args.slot - c.input_wires.result in
    let run = c.gates_at.result.now in
    let are : (i : ℕ) → i < length run → gate_in run i ≡ gate s (t + i) = λ i less. c.gates_at.ensures.are i less ∙ ap (λ gs. gate_in gs (t + i)) c.gates.ensures in
    let long = ap length c.gates.ensures in
    let within : t + length run ≤ length s.gates = omega (arith, long, c.gates_at.ensures.there) in
    record {
      of = λ i less. (t + i, omega (arith, less, within), sym (are i less));
      is = λ i less linear dealt. direct_run s c.args.slot t run are within direct (omega (arith, among.0, c.input_wires.ensures)) i less;
      to = omega (arith, c.requires.end, c.gates_at.ensures.most);
    }
