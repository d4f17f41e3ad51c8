use Rattle.std.proofs.Common.{sym, ◌∙◌}
use Rattle.mpc_top.proofs.LinkTalks.{has_counts}
use Rattle.mpc_top.proofs.node.talk.Goals as goal

pub returns-clause-over : goal.returns-clause-over
returns-clause-over g c = let found = c.every_node_part_is_of_a_world.ensures c.args.ready c.requires.part in record {
  kept = _;
  has_back = c.back.ensures;
  someone = (found.0, found.1);
  run = c.run-result.ensures;
}

pub returns-clause-counts : goal.returns-clause-counts
returns-clause-counts g c =
    let found = c.every_node_part_is_of_a_world.ensures c.args.ready c.requires.part in
    has_counts found.0 c.args.plan.now (found.1.plan ∙ sym c.requires.plan) _ _ _ _ _ (c.run-result.ensures found.0 found.1)
