use Rattle.std.proofs.Common.{◌≡◌, ◌-◌, true, ◌||◌, inl, inr, ◌∙◌, ap, arith}
use Rattle.std.proofs.lemmas.Bool.{or_left, or_right, or_from}
use Rattle.session_slots.specs.Wirings.{session_in, is_named}
use Rattle.session_slots.proofs.RowNames.{few_slots}
use Rattle.job_session.proofs.BatchOrder.{batch_within}
use Rattle.job_session.proofs.ScannedBatches.{early_within, batch_by_stamps, batch_begins, batch_goes_on}
use Rattle.job_session.proofs.batch_scan.BatchScan.begin.Goals as goal

pub waits-requires-clause-first : goal.waits-requires-clause-first
waits-requires-clause-first c = λ w e.
    let s = session_in c.args.wiring.now in
    let read = c.requires.reads.are w ∙ or_left (is_named c.args.reads.0 w) (is_named c.args.reads.1 w) e in
    omega (arith, c.requires.scan.wires, early_within s c.args.k w c.requires.wiring.wired c.requires.slot read)

pub waits-requires-clause-second : goal.waits-requires-clause-second
waits-requires-clause-second c = λ w e.
    let s = session_in c.args.wiring.now in
    let read = c.requires.reads.are w ∙ or_right (is_named c.args.reads.0 w) (is_named c.args.reads.1 w) e in
    omega (arith, c.requires.scan.wires, early_within s c.args.k w c.requires.wiring.wired c.requires.slot read)

pub waits-requires-clause-few : goal.waits-requires-clause-few
waits-requires-clause-few c =
    let s = session_in c.args.wiring.now in
    omega (arith, c.requires.scan.first, batch_within s (c.args.k - 1), few_slots s c.requires.wiring.wired)

pub begin_batch-requires : goal.begin_batch-requires
begin_batch-requires c = omega (arith, c.requires.scan.ended, batch_within (session_in c.args.wiring.now) (c.args.k - 1))

pub returns-in_ok-begin_batch : goal.returns-in_ok-begin_batch
returns-in_ok-begin_batch c =
    let s = session_in c.args.wiring.now in
    let b = c.waits.result || c.args.before_join in
    let by = batch_by_stamps s c.args.k c.args.reads.0 c.args.reads.1 c.args.before_join c.args.self.now b c.requires.reads c.requires.scan c.requires.before_join (ap (λ x. x || c.args.before_join) c.waits.ensures) in
    let is : b ≡ true = elim c.then-waits.either [
      | inl waits ↦ or_left c.waits.result c.args.before_join waits
      | inr join ↦ or_right c.waits.result c.args.before_join join.1
    ] in
    batch_begins s c.args.k c.args.self.now _ c.requires.slot (by.0 is) c.requires.scan c.in_ok-begin_batch.ensures.first (ap (λ v. v.items) c.in_ok-begin_batch.ensures.stamps) c.in_ok-begin_batch.ensures.joins c.in_ok-begin_batch.ensures.ends

pub returns-else-before_join : goal.returns-else-before_join
returns-else-before_join c =
    let s = session_in c.args.wiring.now in
    let b = c.waits.result || c.args.before_join in
    let by = batch_by_stamps s c.args.k c.args.reads.0 c.args.reads.1 c.args.before_join c.args.self.now b c.requires.reads c.requires.scan c.requires.before_join (ap (λ x. x || c.args.before_join) c.waits.ensures) in
    batch_goes_on s c.args.k c.args.self.now (by.1 (or_from c.waits.result c.args.before_join c.if-waits.false c.if-before_join.false)) c.requires.scan
