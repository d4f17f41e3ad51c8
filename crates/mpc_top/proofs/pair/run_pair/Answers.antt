use Rattle.std.proofs.Common.{[], ◌∷◌, refl}
use Rattle.command_words.specs.Commands.{pair}
use Rattle.job_walk.specs.Names.{other_file}
use Rattle.mpc_top.proofs.FilesRead.{plan_first}
use Rattle.mpc_top.proofs.Runs.{as_text, runs_stop}
use Rattle.mpc_top.proofs.Pairs.{plan_stops}
use Rattle.mpc_top.proofs.pair.run_pair.Goals as goal

pub returns-in_err-planned : goal.returns-in_err-planned
returns-in_err-planned g c =
    let r = c.in_err-planned.ensures.reads in
    runs_stop (pair c.args.dir.now c.args.group.now) _ _ _ _ as_text _ _ c.from_residual.ensures.1 refl refl (plan_first c.args.dir.now (other_file ∷ []) _ _ _ _ r) (λ name last. last)
    (plan_stops c.args.dir.now c.args.group.now _ _ _ r.reads)

pub returns : goal.returns
returns g c = c.run_planned-result.ensures c.args.group.now _ c.in_ok-planned.ensures.reads
