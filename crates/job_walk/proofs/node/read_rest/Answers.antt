use Rattle.std.proofs.Common.{◌≡◌, ◌∙◌, subst}
use Rattle.job_digest.specs.Digests.{HasFiles}
use Rattle.job_file.specs.Jobs.{job_view}
use Rattle.party_file.specs.Forms.{form_of}
use Rattle.job_walk.specs.FileLogs.{Logs}
use Rattle.job_walk.specs.JobOf.{numeric_sessions}
use Rattle.job_walk.specs.NodeOf.{NodeAt, circuit_files, frames_of}
use Rattle.job_walk.specs.Seen.{node_with}
use Rattle.job_walk.proofs.Equal.{numeric_same, party_same}
use Rattle.job_walk.proofs.Logs.{digest_known, node_known}
use Rattle.job_walk.proofs.Steps.{reads_memory, reads_exit, reads_then, reads_walk, reads_known}
use Rattle.job_walk.proofs.node.read_rest.Goals as goal

pub returns-in_err-numeric-clause-reads : goal.returns-in_err-numeric-clause-reads
unfolding NodeAt
returns-in_err-numeric-clause-reads g c = λ before start none logs read. reads_then _ _ _ _ _ _ _ _ _ read (reads_memory _ _ _ _ c.from_residual.ensures.1)

pub returns-in_err-me-clause-reads : goal.returns-in_err-me-clause-reads
unfolding NodeAt
returns-in_err-me-clause-reads g c = λ before start none logs read.
    reads_then _ _ _ _ _ _ _ _ _ read
    (reads_exit _ _ _ _ _ _ _ _ _ c.from_residual-in_err-me.ensures.1 (reads_walk _ _ _ _ c.in_err-me.ensures.walks))

pub returns-in_err-groups-clause-reads : goal.returns-in_err-groups-clause-reads
unfolding NodeAt
returns-in_err-groups-clause-reads g c = λ before start none logs read.
    reads_then _ _ _ _ _ _ _ _ _ read
    (reads_then _ _ _ _ _ _ _ _ _ (reads_walk _ _ _ _ c.in_ok-me.ensures.walks)
    (reads_exit _ _ _ _ _ _ _ _ _ c.from_residual-in_err-groups.ensures.1 (reads_walk _ _ _ _ c.in_err-groups.ensures.walks)))

pub returns-in_err-parts-clause-reads : goal.returns-in_err-parts-clause-reads
unfolding NodeAt
returns-in_err-parts-clause-reads g c = λ before start none logs read.
    reads_then _ _ _ _ _ _ _ _ _ read
    (reads_then _ _ _ _ _ _ _ _ _ (reads_walk _ _ _ _ c.in_ok-me.ensures.walks)
    (reads_then _ _ _ _ _ _ _ _ _ (reads_walk _ _ _ _ c.in_ok-groups.ensures.walks)
    (reads_exit _ _ _ _ _ _ _ _ _ c.from_residual-in_err-parts.ensures.1 c.in_err-parts.ensures.reads)))

pub returns-in_err-plan-clause-reads : goal.returns-in_err-plan-clause-reads
unfolding NodeAt
returns-in_err-plan-clause-reads g c = λ before start none logs read.
    reads_then _ _ _ _ _ _ _ _ _ read
    (reads_then _ _ _ _ _ _ _ _ _ (reads_walk _ _ _ _ c.in_ok-me.ensures.walks)
    (reads_then _ _ _ _ _ _ _ _ _ (reads_walk _ _ _ _ c.in_ok-groups.ensures.walks)
    (reads_then _ _ _ _ _ _ _ _ _ c.in_ok-parts.ensures.reads
    (reads_exit _ _ _ _ _ _ _ _ _ c.from_residual-in_err-plan.ensures.1 (reads_walk _ _ _ _ c.in_err-plan.ensures.walks)))))

pub returns-in_err-given-clause-reads : goal.returns-in_err-given-clause-reads
unfolding NodeAt
returns-in_err-given-clause-reads g c = λ before start none logs read.
    reads_then _ _ _ _ _ _ _ _ _ read
    (reads_then _ _ _ _ _ _ _ _ _ (reads_walk _ _ _ _ c.in_ok-me.ensures.walks)
    (reads_then _ _ _ _ _ _ _ _ _ (reads_walk _ _ _ _ c.in_ok-groups.ensures.walks)
    (reads_then _ _ _ _ _ _ _ _ _ c.in_ok-parts.ensures.reads
    (reads_then _ _ _ _ _ _ _ _ _ (reads_walk _ _ _ _ c.in_ok-plan.ensures.walks)
    (reads_exit _ _ _ _ _ _ _ _ _ c.from_residual-in_err-given.ensures.1
    (party_same _ _ _ _ _ _ _ _ _ _ _ (c.deref.ensures.value ∙ c.in_ok-numeric.ensures ∙ numeric_same c.args.job.now.sessions.items) c.in_err-given.ensures.reads))))))

pub returns-clause-reads : goal.returns-clause-reads
unfolding NodeAt
returns-clause-reads g c = λ before start none logs read.
    let files = before.told in
    let job = c.args.job.now in
    let told = read.keeps.same_told in
    let circuits = subst (λ t. Logs HasFiles t c.args.dir.now (circuit_files (job_view job)) c.args.digest c.read_sessions.new.log) told c.in_ok-parts.ensures.log in
    let numeric : c.in_ok-numeric.numeric.items ≡ numeric_sessions (job_view job) = c.in_ok-numeric.ensures ∙ numeric_same job.sessions.items in
    let known = node_known files _ c.args.dir.now (job_view job)
    (λ ns digest. record {
      names = job.names;
      hosts = job.hosts;
      port = job.port;
      form = frames_of job.short_frames;
      view = job.own_views;
      me = c.in_ok-me.me;
      plan = c.in_ok-plan.plan;
      numeric = ns;
      given = form_of c.in_ok-given.given;
      digest = digest;
    })
    c.in_ok-numeric.numeric.items (numeric_sessions (job_view job)) c.finish.result (c.in_ok-given.ensures.reads.keeps.same_told ∙ c.in_ok-parts.ensures.reads.keeps.same_told ∙ told) numeric
    (digest_known files c.args.dir.now (job_view job) start c.args.digest c.read_sessions.new.log c.finish.result none logs circuits c.finish.ensures) in
    reads_then _ _ _ _ _ _ _ _ _ read
    (reads_then _ _ _ _ _ _ _ _ _ (reads_walk _ _ _ _ c.in_ok-me.ensures.walks)
    (reads_then _ _ _ _ _ _ _ _ _ (reads_walk _ _ _ _ c.in_ok-groups.ensures.walks)
    (reads_then _ _ _ _ _ _ _ _ _ c.in_ok-parts.ensures.reads
    (reads_then _ _ _ _ _ _ _ _ _ (reads_walk _ _ _ _ c.in_ok-plan.ensures.walks)
    (reads_then _ _ _ _ _ _ _ _ _ (party_same _ _ _ _ _ _ _ _ _ _ _ (c.deref.ensures.value ∙ numeric) c.in_ok-given.ensures.reads)
    (reads_known (node_with c.args.job.now) _ _ _ known))))))
