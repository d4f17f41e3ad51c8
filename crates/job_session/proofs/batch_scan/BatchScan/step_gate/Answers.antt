use Rattle.std.proofs.Common.{◌∙◌, sym, arith}
use Rattle.session_slots.specs.Sessions.{session_slot}
use Rattle.session_slots.specs.Wirings.{session_in}
use Rattle.session_slots.proofs.RowNames.{few_slots}
use Rattle.job_session.proofs.BatchOrder.{batch_within}
use Rattle.job_session.proofs.ScannedBatches.{completes_within, no_join}
use Rattle.job_session.proofs.batch_scan.BatchScan.step_gate.Goals as goal

pub complete-requires-clause-within : goal.complete-requires-clause-within
complete-requires-clause-within c = λ w e.
    let s = session_in c.args.wiring.now in
    omega (arith, c.in_ok-begin_gate.ensures.wires, completes_within s c.args.k w c.requires.wiring.wired c.requires.slot (c.requires.gate.completes w ∙ sym (c.completed.ensures w) ∙ e))

pub complete-requires-clause-few : goal.complete-requires-clause-few
complete-requires-clause-few c =
    let s = session_in c.args.wiring.now in
    omega (arith, c.in_ok-begin_gate.ensures.first, batch_within s c.args.k, c.requires.slot, few_slots s c.requires.wiring.wired)

pub returns : goal.returns
returns c =
    c.complete.ensures (session_in c.args.wiring.now) c.args.k
    (record { is = λ w. c.requires.gate.completes w ∙ sym (c.completed.ensures w) }) (sym (no_join (session_in c.args.wiring.now) c.requires.direct (session_slot (session_in c.args.wiring.now) c.args.k))) c.in_ok-begin_gate.ensures
