use Rattle.std.proofs.Common.{◌≡◌, ℕ, ◌+◌, ◌<◌, ◌≤◌, length, sym, ap, ◌∙◌, arith}
use Rattle.session_slots.specs.Sessions.{gate}
use Rattle.session_slots.specs.SlotNumbers.{session_slot_number}
use Rattle.session_slots.proofs.SessionSlots.{slots_are_numbered}
use Rattle.row_steps.specs.Rows.{gate_in}
use Rattle.desk_walks.proofs.GateRuns.{listed_run}
use Rattle.desk_walks.proofs.walks.listed_gates.Goals as goal

pub returns : goal.returns
returns c =
    let s = c.args.part.now in
    let t = c.in-Gate.t in
    let run = c.gates_at.result.now in
    let are : (i : ℕ) → i < length run → gate_in run i ≡ gate s (t + i) = λ i less. c.gates_at.ensures.are i less ∙ ap (λ gs. gate_in gs (t + i)) c.gates.ensures in
    let long = ap length c.gates.ensures in
    let within : t + length run ≤ length s.gates = omega (arith, long, c.gates_at.ensures.there) in
    let here = sym ((slots_are_numbered s).number c.args.slot (omega (arith, c.requires.end, c.requires.there, c.if-slot-end.false))) ∙ ap (session_slot_number s) (sym c.in-Gate.ensures.is) in
    record {
      of = λ i less. (t + i, omega (arith, less, within), sym (are i less));
      is = λ i less linear dealt. listed_run s c.args.slot t run are within here i less linear dealt;
      to = omega (arith, c.requires.end, c.gates_at.ensures.most);
    }
