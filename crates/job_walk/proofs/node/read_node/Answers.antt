use Rattle.std.proofs.Common.{[], refl, sym, ap}
use Rattle.frame_code.specs.declared.framing.FrameForm.{FrameForm}
use Rattle.job_walk.specs.NodeOf.{NodeAt}
use Rattle.job_walk.specs.JobReads.{node_asking}
use Rattle.job_walk.specs.Seen.{node_with}
use Rattle.job_walk.proofs.JobFiles.{no_job, job_stopped, job_given}
use Rattle.job_walk.proofs.Steps.{reads_exit, reads_seen, stop_seen}
use Rattle.job_walk.proofs.node.read_node.Goals as goal

pub returns-in_err-job-clause-reads : goal.returns-in_err-job-clause-reads
unfolding NodeAt
returns-in_err-job-clause-reads g c = no_job (node_asking c.args.dir.now c.args.name.now) _ _ _ _ _ _ _ c.from_residual.ensures.1 (reads_exit _ _ _ _ [] _ _ _ _ c.from_residual.ensures.1 c.in_err-job.ensures.reads)

pub returns-in_err-rest-clause-reads : goal.returns-in_err-rest-clause-reads
returns-in_err-rest-clause-reads g c =
    job_stopped (node_asking c.args.dir.now c.args.name.now) _ _ _ _ _ _ c.in_ok-job.ensures.told _ _ c.from_residual-in_err-rest.ensures.1
    (stop_seen _ _ _ _ _ _ _ c.from_residual-in_err-rest.ensures.1 (c.in_err-rest.ensures.reads _ _ c.new-digest.ensures c.in_ok-job.ensures.log c.in_ok-job.ensures.reads))

pub returns-clause-reads : goal.returns-clause-reads
returns-clause-reads g c =
    job_given (node_asking c.args.dir.now c.args.name.now) _ _ _ _ _ _ c.in_ok-job.ensures.told _ refl
    (reads_seen _ _ _ _ _ c.in_ok-rest.rest _ (ap (λ (form : FrameForm). record (node_with c.in_ok-job.job c.in_ok-rest.rest) { form = form }) (sym c.frames_of.ensures)) (c.in_ok-rest.ensures.reads _ _ c.new-digest.ensures c.in_ok-job.ensures.log c.in_ok-job.ensures.reads))
