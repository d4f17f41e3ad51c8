use Rattle.std.proofs.Common.{◌++◌, ◌∷◌, [], length, subst}
use Rattle.layer_order.specs.Orders.{ordered}
use Rattle.job_file.specs.Jobs.{session_view}
use Rattle.job_walk.specs.JobOf.{has_layers, CircuitOf, SessionAt}
use Rattle.job_walk.proofs.Steps.{reads_exit, reads_then, reads_walk, walks_exit, walks_then}
use Rattle.job_walk.proofs.Equal.{file_named, walk_same, part_same}
use Rattle.job_walk.proofs.Logs.{log_file, on_ok}
use Rattle.job_walk.proofs.sessions.read_session.Goals as goal

pub returns-in_err-bytes-clause-reads : goal.returns-in_err-bytes-clause-reads
unfolding SessionAt
returns-in_err-bytes-clause-reads g c = reads_exit _ _ _ _ _ _ _ _ _ c.from_residual.ensures.1 (file_named _ _ _ _ _ _ _ c.as_str.ensures c.in_err-bytes.ensures)

pub returns-in_err-circuit-clause-reads : goal.returns-in_err-circuit-clause-reads
unfolding SessionAt
returns-in_err-circuit-clause-reads g c =
    reads_then _ _ _ _ _ _ _ _ _ (file_named _ _ _ _ _ _ _ c.as_str.ensures c.in_ok-bytes.ensures)
    (reads_walk _ _ _ _ (walks_exit _ _ _ _ _ _ c.from_residual-in_err-circuit.ensures.1
    (walk_same _ (CircuitOf c.args.session.now.layout c.args.session.now.circuit (length c.args.before.now) c.args.job.now.ring) _ _ _ c.deref-2.ensures.value c.in_err-circuit.ensures)))

pub returns-clause-reads : goal.returns-clause-reads
unfolding SessionAt
returns-clause-reads g c =
    reads_then _ _ _ _ _ _ _ _ _ (file_named _ _ _ _ _ _ _ c.as_str.ensures c.in_ok-bytes.ensures)
    (reads_walk _ _ _ _ (walks_then _ _ _ _ _ _
    (walk_same _ (CircuitOf c.args.session.now.layout c.args.session.now.circuit (length c.args.before.now) c.args.job.now.ring) _ _ _ c.deref-2.ensures.value c.in_ok-circuit.ensures)
    (part_same _ (ordered (has_layers (session_view c.args.session.now)) c.in_ok-circuit.circuit) c.args.session.now.products _ _ _ _ _ c.requires.session.readers c.part_of.ensures.walks)))

pub returns-clause-log : goal.returns-clause-log
returns-clause-log g c =
    on_ok c.part_of.result _ (log_file g.L.FileLog.has c.args.dir.now (g.F.Files.reading c.args.files.now).told c.args.session.now.circuit c.in_ok-bytes.bytes.items c.args.log.now c.take.new.self
    (file_named _ _ _ _ _ _ _ c.as_str.ensures c.in_ok-bytes.ensures).ok
    (λ had h. subst (λ b. g.L.FileLog.has c.take.new.self (had ++ b ∷ [])) c.deref.ensures.value (c.take.ensures had h)))
