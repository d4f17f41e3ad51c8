use Rattle.std.proofs.Common.{◌≡◌, ◌<◌, length, sym, ap, ◌∙◌, subst}
use Rattle.outer_io.proofs.GatheredTexts.{adds_nothing}
use Rattle.text_parts.proofs.GatheredTexts.{adds_same}
use Rattle.plan_model.specs.Messages.{messages}
use Rattle.plan_model.specs.Numbers.{message}
use Rattle.share_world.specs.Worlds.{word}
use Rattle.view_text.specs.ViewText.{message_line}
use Rattle.output_text.proofs.SeenMessages.{seen-own, seen-other}
use Rattle.output_text.proofs.view.gather_message.Goals as goal

pub cell-requires : goal.cell-requires
cell-requires g c =
    let q = c.requires.run.over in
    (q.0, q.2, subst (λ p. c.args.n < length (messages p)) (sym q.1) c.requires.message.there)

pub returns-else-touches : goal.returns-else-touches
returns-else-touches g c = λ w same f.
    adds_same _ _ _ _ (seen-other c.args.run.now.names.now w c.args.group.mask c.args.key (sym c.touches.ensures ∙ c.if-touches.false)) (adds_nothing _)

pub returns-then-touches : goal.returns-then-touches
returns-then-touches g c = λ w same f.
    let key = c.args.key in
    let there : c.args.n < length (messages w.plan) = subst (λ p. c.args.n < length (messages p)) (sym same) c.requires.message.there in
    let held : c.cell.result ≡ word w key = c.cell.ensures w f there ∙ ap (word w) (ap (λ p. message p c.args.n) same ∙ c.requires.message.is) in
    adds_same _ _ _ _
    (ap (message_line c.args.run.now.names.now key) held
    ∙ seen-own c.args.run.now.names.now w c.args.group.mask key (sym c.touches.ensures ∙ c.if-touches.true))
    c.gather_message_line.ensures
