use Rattle.std.proofs.Common.{◌-◌, ◌&&◌, ◌∙◌, sym, ap, arith}
use Rattle.session_slots.specs.EarlyWires.{sets_early}
use Rattle.session_slots.specs.Sessions.{session_slot}
use Rattle.session_slots.specs.Wirings.{session_in}
use Rattle.session_slots.proofs.RowNames.{few_slots}
use Rattle.job_session.proofs.BatchOrder.{batch_within}
use Rattle.job_session.proofs.ScannedBatches.{completes_within, no_join, none_join}
use Rattle.job_session.proofs.batch_scan.BatchScan.step.Goals as goal

pub complete-requires-clause-within : goal.complete-requires-clause-within
complete-requires-clause-within c = λ w e.
    let s = session_in c.args.wiring.now in
    omega (arith, c.in_ok-begin.ensures.wires, completes_within s c.args.k w c.requires.wiring.wired c.requires.slot (c.requires.completes.is w ∙ e))

pub complete-requires-clause-few : goal.complete-requires-clause-few
complete-requires-clause-few c =
    let s = session_in c.args.wiring.now in
    omega (arith, c.in_ok-begin.ensures.first, batch_within s c.args.k, c.requires.slot, few_slots s c.requires.wiring.wired)

pub begin-requires-clause-before_join : goal.begin-requires-clause-before_join
begin-requires-clause-before_join c =
    let s = session_in c.args.wiring.now in
    sym (ap (λ b. b && sets_early s (session_slot s c.args.k)) (c.requires.scan.joins ∙ none_join s c.requires.direct (c.args.k - 1) c.args.k))

pub returns : goal.returns
returns c = c.complete.ensures (session_in c.args.wiring.now) c.args.k c.requires.completes
    (sym (no_join (session_in c.args.wiring.now) c.requires.direct (session_slot (session_in c.args.wiring.now) c.args.k))) c.in_ok-begin.ensures
