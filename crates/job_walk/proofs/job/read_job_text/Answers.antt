use Rattle.std.proofs.Common.{◌++◌, ◌∷◌, [], subst}
use Rattle.job_file.specs.Faults.{job_in}
use Rattle.refusal_text.specs.Lines.{job_line}
use Rattle.job_walk.specs.Names.{job_file}
use Rattle.job_walk.specs.Verdict.{verdict_of}
use Rattle.job_walk.specs.JobOf.{JobText}
use Rattle.job_walk.proofs.Steps.{reads_exit, reads_then, reads_walk}
use Rattle.job_walk.proofs.Equal.{bytes_same}
use Rattle.job_walk.proofs.Logs.{log_file, on_ok}
use Rattle.job_walk.proofs.JobFiles.{has_job}
use Rattle.job_walk.proofs.job.read_job_text.Goals as goal

pub returns-in_err-bytes-clause-reads : goal.returns-in_err-bytes-clause-reads
unfolding JobText
returns-in_err-bytes-clause-reads g c = reads_exit _ _ _ _ _ _ _ _ _ c.from_residual.ensures.1 c.in_err-bytes.ensures

pub returns-clause-reads : goal.returns-clause-reads
unfolding JobText
returns-clause-reads g c = reads_then _ _ _ _ _ _ _ _ _ c.in_ok-bytes.ensures (reads_walk _ _ _ _ (bytes_same _ (λ b. verdict_of job_line (job_in c.args.node b)) _ _ _ c.deref-2.ensures.value c.job_in.ensures.walks))

pub returns-clause-log : goal.returns-clause-log
returns-clause-log g c =
    on_ok c.job_in.result _ (log_file g.L.FileLog.has c.args.dir.now (g.F.Files.reading c.args.files.now).told job_file c.in_ok-bytes.bytes.items c.args.log.now c.take.new.self c.in_ok-bytes.ensures.ok
    (λ had h. subst (λ b. g.L.FileLog.has c.take.new.self (had ++ b ∷ [])) c.deref.ensures.value (c.take.ensures had h)))

pub returns-clause-told : goal.returns-clause-told
returns-clause-told g c = has_job _ _ _ _ _ _ c.in_ok-bytes.ensures.ok c.deref-2.ensures.value c.job_in.ensures.walks
