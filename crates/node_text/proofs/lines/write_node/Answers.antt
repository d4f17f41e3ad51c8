use Rattle.std.proofs.Common.{rules, refl}
use Rattle.outer_io.proofs.GatheredTexts.{adds_all}
use Rattle.node_text.specs.NodeText.{node_text}
use Rattle.node_text.proofs.lines.write_node.Goals as goal

pub returns : goal.returns
returns g c =
    adds_all g.S.Sink.reading (node_text c.args.names.now c.args.numeric.now c.args.plan.now c.args.me c.args.view c.args.done.now) _ _ _ _ _ _ _ c.new-blocks.ensures refl refl c.gather_node.ensures c.finish.ensures refl (search rules)
