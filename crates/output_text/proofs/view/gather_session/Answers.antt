use Rattle.std.proofs.Common.{◌≡◌, refl, sym, ap, ◌∙◌, arith}
use Rattle.list_laws.specs.Lists.{joined}
use Rattle.outer_io.proofs.GatheredTexts.{adds_nothing}
use Rattle.text_parts.proofs.GatheredTexts.{adds_same, adds_more}
use Rattle.plan_model.specs.Plans.{slot, slots}
use Rattle.plan_model.specs.Messages.{slot_messages}
use Rattle.output_text.specs.Seen.{slot_seen}
use Rattle.output_text.proofs.SeenMessages.{seen-joined}
use Rattle.output_text.proofs.view.gather_session.Goals as goal

pub loop-k-init : goal.loop-k-init
loop-k-init g c = λ w same f. adds_nothing _

pub loop-k-preserved : goal.loop-k-preserved
loop-k-preserved g c = λ w same f.
    adds_more c.loop-k.k (slot_seen c.args.run.now.names.now w c.args.group.mask c.args.s) _ _ _ _ refl (c.loop-k.invariant w same f) (c.gather_slot.ensures w same f)

pub returns : goal.returns
returns g c = λ w same f.
    let all : c.loop-k.k ≡ slots w.plan c.args.s = omega (arith, c.slots-k-end.ensures, ap (λ p. slots p c.args.s) same) in
    adds_same _ _ _ _
    (ap (λ n. joined n (slot_seen c.args.run.now.names.now w c.args.group.mask c.args.s)) all
    ∙ sym (seen-joined c.args.run.now.names.now w c.args.group.mask (slots w.plan c.args.s) (λ k. slot_messages w.plan c.args.s k (slot w.plan c.args.s k))))
    (c.loop-k.invariant w same f)
