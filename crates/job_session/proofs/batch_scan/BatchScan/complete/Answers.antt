use Rattle.std.proofs.Common.{◌+◌, ◌<◌, ◌||◌, length, sym, ap, ◌∙◌, arith, length-set}
use Rattle.std.specs.Prelude.{slice_index, if◌then◌else◌}
use Rattle.std.proofs.lemmas.Grind.{common_steps}
use Rattle.session_slots.specs.Wirings.{is_named}
use Rattle.job_session.proofs.HeldRows.{named_some}
use Rattle.job_session.proofs.LastReads.{one_written}
use Rattle.job_session.proofs.ScannedBatches.{slot_done}
use Rattle.job_session.proofs.batch_scan.BatchScan.complete.Goals as goal
use Rattle.job_session.proofs.batch_scan.BatchScan.complete.Goals.{in-Some, in_default}

pub index_mut-requires : goal.index_mut-requires
index_mut-requires c = let l = c.requires.within c.in-Some.found (named_some c.args.wire c.in-Some.found c.in-Some.is) in grind (arith, common_steps)

pub returns : goal.returns
returns c = λ s k completed join scan.
    let old = c.args.self.now in
    elim c.match-wire.branch [
      | in-Some w ↦
          let within : w.in-Some.found < length old.stamps.items = c.requires.within w.in-Some.found (named_some c.args.wire w.in-Some.found w.in-Some.is) in
          slot_done s k c.args.wire c.args.join old _ completed join scan (ap (λ x. x.first) w.self-is) (ap (λ x. x.ends.items) w.self-is)
          (ap (λ x. length x.stamps.items) w.self-is ∙ length-set old.stamps.items w.in-Some.found (old.first + 1))
          (λ v. ap (λ x. slice_index x.stamps.items v) w.self-is ∙ one_written old.stamps.items w.in-Some.found (old.first + 1) v within
          ∙ ap (λ o. if is_named o v then old.first + 1 else slice_index old.stamps.items v) (sym w.in-Some.is))
          (ap (λ x. x.joins || c.args.join) w.self-is)
      | in_default w ↦
          slot_done s k c.args.wire c.args.join old _ completed join scan (ap (λ x. x.first) w.self-is) (ap (λ x. x.ends.items) w.self-is)
          (ap (λ x. length x.stamps.items) w.self-is)
          (λ v. ap (λ x. slice_index x.stamps.items v) w.self-is ∙ ap (λ o. if is_named o v then old.first + 1 else slice_index old.stamps.items v) (sym w.in_default.is))
          (ap (λ x. x.joins || c.args.join) w.self-is)
    ]
