use Rattle.std.proofs.Common.{ℕ, List, []}
use Rattle.other_file.specs.Table.{other_in}
use Rattle.refusal_text.specs.Lines.{other_line}
use Rattle.job_walk.specs.Verdict.{Verdict, verdict_of}
use Rattle.mpc_top.specs.WholeJobs.{OtherAt}
use Rattle.job_walk.proofs.Steps.{reads_exit, reads_then, reads_walk}
use Rattle.job_walk.proofs.Equal.{bytes_same}
use Rattle.mpc_top.proofs.other.read_other_inputs.Goals as goal

pub returns-in_err-bytes-clause-reads : goal.returns-in_err-bytes-clause-reads
unfolding OtherAt
returns-in_err-bytes-clause-reads g c = reads_exit _ _ _ _ [] _ _ _ _ c.from_residual.ensures.1 c.in_err-bytes.ensures

pub returns-clause-reads : goal.returns-clause-reads
unfolding OtherAt
returns-clause-reads g c =
    let read : List ℕ → Verdict (List (List (List ℕ))) = λ bytes. verdict_of (other_line c.args.names.now) (other_in c.args.numeric.now c.args.plan.now c.args.names.now c.args.inputs.now bytes) in
    reads_then _ _ _ _ _ _ _ _ _ c.in_ok-bytes.ensures (reads_walk _ _ _ _ (bytes_same _ read _ _ _ c.deref.ensures.value c.other_in.ensures.walks))
