use Rattle.mpc_top.proofs.Runs.{of_command}
use Rattle.mpc_top.proofs.run.run_command.Goals as goal

pub returns-in-Node : goal.returns-in-Node
returns-in-Node g c = λ err err'. of_command c.args.command _ _ _ _ c.in-Node.is (c.run_node.ensures err err')

pub returns-in_default : goal.returns-in_default
returns-in_default g c = λ err err'. c.run_alone.ensures.runs err err' _ _
