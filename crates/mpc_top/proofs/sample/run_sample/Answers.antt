use Rattle.std.proofs.Common.{refl}
use Rattle.command_words.specs.Commands.{sample}
use Rattle.job_walk.proofs.Steps.{keeps_now}
use Rattle.mpc_top.proofs.Runs.{runs_memory}
use Rattle.mpc_top.proofs.sample.run_sample.Goals as goal

pub returns-in_err-names : goal.returns-in_err-names
returns-in_err-names g c = runs_memory (sample c.args.count) _ _ _ _ _ c.from_residual.ensures.1 refl refl (keeps_now _) refl

pub returns-in_err-made : goal.returns-in_err-made
returns-in_err-made g c = runs_memory (sample c.args.count) _ _ _ _ _ c.from_residual-in_err-made.ensures.1 refl refl (keeps_now _) refl

pub returns : goal.returns
returns g c = c.run_made-result.ensures _
