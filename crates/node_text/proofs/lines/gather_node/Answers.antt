use Rattle.std.proofs.Common.{[], ◌++◌, sym, ap, ◌∙◌, append-nil}
use Rattle.std.proofs.lemmas.Bool.{cond-true, cond-false}
use Rattle.outer_io.proofs.GatheredTexts.{adds_then}
use Rattle.text_parts.proofs.GatheredTexts.{adds_same}
use Rattle.node_text.specs.NodeText.{node_text, outputs_text}
use Rattle.node_text.proofs.lines.gather_node.Goals as goal

pub returns-then-view : goal.returns-then-view
unfolding node_text
returns-then-view g c =
    adds_same _ _ _ _ (ap (λ text. outputs_text c.args.names.now c.args.numeric.now c.args.plan.now c.args.me c.args.done.now ++ text) (sym (cond-true c.args.view _ [] c.if-view.true)))
    (adds_then _ _ _ _ _ c.gather_outputs.ensures c.gather_view.ensures)

pub returns-else-view : goal.returns-else-view
unfolding node_text
returns-else-view g c =
    adds_same _ _ _ _ (sym (append-nil (outputs_text c.args.names.now c.args.numeric.now c.args.plan.now c.args.me c.args.done.now)) ∙ ap (λ text. outputs_text c.args.names.now c.args.numeric.now c.args.plan.now c.args.me c.args.done.now ++ text) (sym (cond-false c.args.view _ [] c.if-view.false)))
    c.gather_outputs.ensures
