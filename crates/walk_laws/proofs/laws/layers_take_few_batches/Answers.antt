use Rattle.walk_laws.proofs.FileCircuits.{layers_take_few, nodes_take_few}
use Rattle.walk_laws.proofs.laws.layers_take_few_batches.Goals as goal

pub returns-clause-runs : goal.returns-clause-runs
returns-clause-runs c = layers_take_few

pub returns-clause-nodes : goal.returns-clause-nodes
returns-clause-nodes c = nodes_take_few
