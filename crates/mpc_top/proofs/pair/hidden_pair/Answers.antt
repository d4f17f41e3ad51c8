use Rattle.std.proofs.Common.{◌≡◌, ℕ, List, None, Some, map, sym, ap, subst, inl, inr}
use Rattle.std.specs.Prelude.{Option}
use Rattle.party_file.specs.Forms.{form_of}
use Rattle.job_run.specs.Parties.{world_of}
use Rattle.tape_map.specs.MapFaults.{map_fault}
use Rattle.tape_map.specs.declared.fault.MapFault.{MapFault}
use Rattle.tape_map.specs.ToldFaults.{told_map_fault}
use Rattle.tape_map.proofs.NoFaults.{no_fault}
use Rattle.refusal_text.specs.Lines.{pair_line}
use Rattle.job_walk.specs.Verdict.{Ends, unless}
use Rattle.mpc_top.specs.WholeJobs.{WholeJob, mask_of, hidden_of, paired_job, whole_job}
use Rattle.job_walk.specs.Seen.{planned_view}
use Rattle.mpc_top.specs.Seen.{parties_view}
use Rattle.job_walk.proofs.Steps.{fault_walks}
use Rattle.mpc_top.proofs.pair.hidden_pair.Goals as goal

-- what the fault of a job's change of tapes decides
decides : (job : WholeJob) (other : List (List (List ℕ))) (mask : ℕ) (fault : Option MapFault) → mask_of job.group ≡ mask → map_fault job.world other mask ≡ fault
    → hidden_of job other ≡ unless fault (pair_line job.names) (paired_job job other)
decides job other mask fault same is =
    ap (λ o. unless o (pair_line job.names) (paired_job job other)) (subst (λ k. map_fault job.world other k ≡ fault) (sym same) is)

pub returns-in-Ok-clause-walks : goal.returns-in-Ok-clause-walks
returns-in-Ok-clause-walks c =
    let w = world_of c.args.planned.now.plan (map form_of c.args.parties.items) in
    let job : WholeJob = whole_job (planned_view c.args.planned.now) (parties_view c.args.parties) in
    let can = c.in-Ok.ensures.pair.hides in
    let none : map_fault w c.args.other.now c.args.group.mask ≡ None = (no_fault w c.args.other.now c.args.group.mask can.whole can.others).1 can in
    record { ok = sym (decides job c.args.other.now c.args.group.mask None (ap mask_of c.requires.asked) none); stop = tt }

pub returns-in-Err : goal.returns-in-Err
unfolding pair_line
returns-in-Err c =
    let job : WholeJob = whole_job (planned_view c.args.planned.now) (parties_view c.args.parties) in
    let same = ap mask_of c.requires.asked in
    record {
      walks = record {
        ok = tt;
        stop = fault_walks (Ends (hidden_of job c.args.other.now)) (told_map_fault c.in-Err.fault).number (pair_line job.names c.in-Err.fault) c.stop_of.result c.stop_of.ensures
            (λ real. elim c.in-Err.ensures.fault [
              | inl memory ↦ absurd (real (ap (λ f. (told_map_fault f).number) memory))
              | inr is ↦ sym (decides job c.args.other.now c.args.group.mask (Some c.in-Err.fault) same is)
            ]);
      };
      pair = tt;
    }
