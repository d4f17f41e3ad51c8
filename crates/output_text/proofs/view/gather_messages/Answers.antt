use Rattle.std.proofs.Common.{◌≡◌, length, refl, sym, ap, ◌∙◌, arith}
use Rattle.list_laws.specs.Lists.{joined}
use Rattle.outer_io.proofs.GatheredTexts.{adds_nothing}
use Rattle.text_parts.proofs.GatheredTexts.{adds_same, adds_more}
use Rattle.plan_model.specs.Messages.{session_messages}
use Rattle.output_text.specs.Seen.{session_seen}
use Rattle.output_text.proofs.SeenMessages.{seen-joined}
use Rattle.output_text.proofs.view.gather_messages.Goals as goal

pub loop-s-init : goal.loop-s-init
loop-s-init g c = λ w same f. adds_nothing _

pub loop-s-preserved : goal.loop-s-preserved
loop-s-preserved g c = λ w same f.
    adds_more c.loop-s.s (session_seen c.args.run.now.names.now w c.args.group.mask) _ _ _ _ refl (c.loop-s.invariant w same f) (c.gather_session.ensures w same f)

pub returns : goal.returns
returns g c = λ w same f.
    let all : c.loop-s.s ≡ length w.plan.sessions = omega (arith, c.sessions-s-end.ensures, ap (λ p. length p.sessions) same) in
    adds_same _ _ _ _
    (ap (λ n. joined n (session_seen c.args.run.now.names.now w c.args.group.mask)) all ∙ sym (seen-joined c.args.run.now.names.now w c.args.group.mask (length w.plan.sessions) (session_messages w.plan)))
    (c.loop-s.invariant w same f)
