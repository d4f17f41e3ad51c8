use Rattle.std.proofs.Common.{◌-◌, ◌&&◌, ◌∙◌, sym, ap, arith}
use Rattle.session_slots.specs.Sessions.{session_slot}
use Rattle.session_slots.specs.EarlyWires.{sets_early}
use Rattle.session_slots.specs.Wirings.{session_in}
use Rattle.session_slots.proofs.RowNames.{few_slots}
use Rattle.job_session.proofs.BatchOrder.{batch_within}
use Rattle.job_session.proofs.ScannedBatches.{batch_goes_on, early_direct, gate_goes_on, none_join}
use Rattle.job_session.proofs.batch_scan.BatchScan.begin_gate.Goals as goal

pub names_stamped-requires-clause-few : goal.names_stamped-requires-clause-few
names_stamped-requires-clause-few c =
    let s = session_in c.args.wiring.now in
    omega (arith, c.requires.scan.first, batch_within s (c.args.k - 1), few_slots s c.requires.wiring.wired)

pub begin-requires-clause-before_join : goal.begin-requires-clause-before_join
begin-requires-clause-before_join c =
    let s = session_in c.args.wiring.now in
    sym (ap (λ b. b && sets_early s (session_slot s c.args.k)) (c.requires.scan.joins ∙ none_join s c.requires.direct (c.args.k - 1) c.args.k))

pub begin-requires-clause-reads : goal.begin-requires-clause-reads
begin-requires-clause-reads c = record { are = λ w. early_direct (session_in c.args.wiring.now) c.requires.direct c.args.k w ∙ c.requires.gate.reads w ∙ c.read_wires.ensures w }

pub returns : goal.returns
returns c =
    let s = session_in c.args.wiring.now in
    batch_goes_on s c.args.k c.args.self.now
    (gate_goes_on s c.requires.direct c.args.k c.args.gate c.args.self.now c.requires.gate c.requires.scan (sym c.names_stamped.ensures ∙ c.if-names_stamped.false)) c.requires.scan
