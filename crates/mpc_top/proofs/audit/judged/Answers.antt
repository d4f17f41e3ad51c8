use Rattle.std.proofs.Common.{refl, ap, inl, inr}
use Rattle.share_world.specs.Worlds.{World, view}
use Rattle.wire_tables.specs.WireTables.{world_given}
use Rattle.view_check.specs.ToldFaults.{told_check_fault}
use Rattle.refusal_text.specs.Lines.{view_line}
use Rattle.job_walk.proofs.Steps.{fault_walks}
use Rattle.mpc_top.specs.Audits.{Judged}
use Rattle.mpc_top.proofs.audit.judged.Goals as goal

pub returns-in-Ok : goal.returns-in-Ok
returns-in-Ok c = record { ok = c.in-Ok.ensures.view; stop = tt }

pub returns-in-Err : goal.returns-in-Err
unfolding view_line
returns-in-Err c =
    let planned = c.args.planned.now in
    let w : World = world_given planned.plan c.args.inputs.now c.args.tapes.now in
    record {
      ok = tt;
      stop = fault_walks (Judged planned.names (view w) c.args.text.now) (told_check_fault c.in-Err.fault).number (view_line c.in-Err.fault) c.stop_of.result c.stop_of.ensures
          (λ real. elim c.in-Err.ensures.verdict [
            | inl memory ↦ absurd (real (ap (λ f. (told_check_fault f).number) memory))
            | inr is ↦ (refl, record { fault = c.in-Err.fault; line_is = refl; is_fault = is; wrong = c.in-Err.ensures.wrong })
          ]);
    }
