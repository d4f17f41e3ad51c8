use Rattle.std.proofs.Common.{◌++◌, length, ap, subst}
use Rattle.list_laws.specs.Lists.{joined}
use Rattle.outer_io.specs.Blocks.{Adds}
use Rattle.outer_io.proofs.GatheredTexts.{adds_then}
use Rattle.party_set.specs.Parties.{Members}
use Rattle.plan_model.specs.Messages.{messages}
use Rattle.view_text.specs.ViewText.{view_head, view_text, message_lines}
use Rattle.node_text.specs.NodeText.{kept_message}
use Rattle.node_text.proofs.view.gather_view.Goals as goal

pub returns : goal.returns
unfolding view_text
returns g c =
    let names = c.args.names.now in
    let plan = c.args.plan.now in
    subst (λ k. Adds (view_head names k ++ message_lines names (joined (length (messages plan)) (kept_message plan k c.args.done.now))) (g.G.Gather.gathered c.args.out.now) (g.G.Gather.gathered c.gather_kept.new.out))
    (ap (λ (group : Members). group.mask) c.alone-group.ensures) (adds_then _ _ _ _ _ c.gather_view_head.ensures c.gather_kept.ensures)
