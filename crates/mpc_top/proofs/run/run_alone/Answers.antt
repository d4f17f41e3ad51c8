use Rattle.mpc_top.proofs.Runs.{of_command}
use Rattle.mpc_top.proofs.run.run_alone.Goals as goal

pub returns-in-Run-clause-runs : goal.returns-in-Run-clause-runs
returns-in-Run-clause-runs g c = λ err err' net spawner. of_command c.args.command _ _ _ _ c.in-Run.is (c.run_job.ensures err err' net spawner)

pub returns-in-Check-clause-runs : goal.returns-in-Check-clause-runs
returns-in-Check-clause-runs g c = λ err err' net spawner. of_command c.args.command _ _ _ _ c.in-Check.is (c.check_job.ensures err err' net spawner)

pub returns-in-Pair-clause-runs : goal.returns-in-Pair-clause-runs
returns-in-Pair-clause-runs g c = λ err err' net spawner. of_command c.args.command _ _ _ _ c.in-Pair.is (c.run_pair.ensures err err' net spawner)

pub returns-in-Sample-clause-runs : goal.returns-in-Sample-clause-runs
returns-in-Sample-clause-runs g c = λ err err' net spawner. of_command c.args.command _ _ _ _ c.in-Sample.is (c.run_sample.ensures err err' net spawner)

pub returns-in-Audit-clause-runs : goal.returns-in-Audit-clause-runs
returns-in-Audit-clause-runs g c = λ err err' net spawner. of_command c.args.command _ _ _ _ c.in-Audit.is (c.audit_job.ensures err err' net spawner)
