use Rattle.std.proofs.Common.{◌≡◌, ℕ, length, refl, sym, ap, ◌∙◌, arith}
use Rattle.list_laws.specs.Lists.{joined}
use Rattle.outer_io.proofs.GatheredTexts.{adds_nothing}
use Rattle.text_parts.proofs.GatheredTexts.{adds_same, adds_more}
use Rattle.plan_model.specs.Messages.{messages}
use Rattle.view_text.specs.ViewText.{message_lines}
use Rattle.node_text.specs.NodeText.{kept_message}
use Rattle.node_text.proofs.KeptLines.{lines-joined}
use Rattle.node_text.proofs.view.gather_kept.Goals as goal

pub loop-number-init : goal.loop-number-init
loop-number-init g c = adds_nothing _

pub loop-number-preserved : goal.loop-number-preserved
loop-number-preserved g c =
    let at = λ (m : ℕ). message_lines c.args.names.now (kept_message c.args.plan.now c.args.group.mask c.args.done.now m) in
    adds_more c.loop-number.number at _ _ _ _ refl c.loop-number.invariant c.gather_message.ensures

pub returns : goal.returns
returns g c =
    let f = kept_message c.args.plan.now c.args.group.mask c.args.done.now in
    let all : c.loop-number.number ≡ length (messages c.args.plan.now) = omega (arith, c.messages-number-end.ensures) in
    adds_same _ _ _ _ (ap (λ n. joined n (λ m. message_lines c.args.names.now (f m))) all ∙ sym (lines-joined c.args.names.now (length (messages c.args.plan.now)) f)) c.loop-number.invariant
