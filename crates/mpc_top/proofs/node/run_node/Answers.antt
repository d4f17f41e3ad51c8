use Rattle.std.proofs.Common.{Err, refl, ap}
use Rattle.outer_io.specs.Links.{links_reading}
use Rattle.command_words.specs.Commands.{node}
use Rattle.job_walk.proofs.JobFiles.{of_job}
use Rattle.mpc_top.proofs.NodeRuns.{as_talk, node_stops, memory_is_no_fault, meets_nobody, meets_no_memory, talked, ready_part}
use Rattle.mpc_top.proofs.Runs.{runs_stop, runs_memory}
use Rattle.mpc_top.proofs.node.run_node.Goals as goal

pub returns-in_err-job : goal.returns-in_err-job
returns-in_err-job g c = λ err err'.
    let r = c.in_err-job.ensures.reads in
    runs_stop (node c.args.asked.now.dir.now c.args.asked.now.name.now) _ _ _ _ as_talk _ _ c.from_residual.ensures.1 refl refl (r.job, r.is_told, r.reads.asks) (λ name last. last)
    (node_stops c.args.asked.now.dir.now c.args.asked.now.name.now _ _ _ r.reads) err err' _ _

pub returns-in-Err : goal.returns-in-Err
returns-in-Err g c = λ err err'.
    let r = c.in_ok-job.ensures.reads in
    runs_memory (node c.args.asked.now.dir.now c.args.asked.now.name.now) _ _ _ _ _ refl refl r.reads.quiet r.reads.keeps (r.job, r.is_told, r.reads.asks) err err' _ _

pub returns-in-Err-Failed : goal.returns-in-Err-Failed
returns-in-Err-Failed g c = λ err err'.
    let p = of_job _ _ _ _ _ _ _ c.in_ok-job.ensures.reads in
    meets_nobody c.args.asked.now.dir.now c.args.asked.now.name.now _ _ c.in_ok-job.job p.3 (p.0, p.1, p.3.asks_all) err err' _ c.parties.ensures.is
    (links_reading g.N.In.Inlet.reading g.N.Out.Outlet.reading) _ _ _ _ _ (ap Err c.in-Err-Failed.field-0-is) c.in-Err-Failed.ensures

pub returns-in-Err-Memory : goal.returns-in-Err-Memory
returns-in-Err-Memory g c = λ err err'.
    let p = of_job _ _ _ _ _ _ _ c.in_ok-job.ensures.reads in
    meets_no_memory c.args.asked.now.dir.now c.args.asked.now.name.now _ _ c.in_ok-job.job p.3 (p.0, p.1, p.3.asks_all) err err' _ c.parties.ensures.is
    (links_reading g.N.In.Inlet.reading g.N.Out.Outlet.reading) _ _ _ _ _ (memory_is_no_fault _ _ refl c.in-Err-Memory.field-0-is) c.in-Err-Memory.ensures

pub returns : goal.returns
returns g c = λ err err'.
    let p = of_job _ _ _ _ _ _ _ c.in_ok-job.ensures.reads in
    talked c.args.asked.now.dir.now c.args.asked.now.name.now _ _ c.in_ok-job.job p.3 (p.0, p.1, p.3.asks_all) err err' _ c.parties.ensures.is
    (links_reading g.N.In.Inlet.reading g.N.Out.Outlet.reading) _ _ _ _ _ _ c.in-Ok-links.ensures _ _ _ (ready_part c.in_ok-job.job _ _ c.in-Ok.ensures c.deref.ensures.value) _ c.talk-outcome.ensures.over _ c.deref-2.ensures.value _ c.write_outcome-result.ensures
