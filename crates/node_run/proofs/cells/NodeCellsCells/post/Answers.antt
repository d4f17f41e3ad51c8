use Rattle.std.proofs.Common.{◌<◌, ◌^◌, length, sym, ap, ◌∙◌, subst, arith}
use Rattle.plan_model.specs.Messages.{messages}
use Rattle.plan_model.specs.Numbers.{message}
use Rattle.message_board.specs.Plain.{plain_cell}
use Rattle.plan_model.specs.declared.key.Key.{Key}
use Rattle.frame_code.specs.Frames.{FitsFrame}
use Rattle.node_run.specs.Mail.{Mail, MayPost, MayTake}
use Rattle.link_reader.proofs.ExpectedMessages.{between_parties, fits_frame}
use Rattle.node_run.proofs.CellChanges.{with_word}
use Rattle.node_run.proofs.cells.NodeCellsCells.post.Goals as goal

pub post-requires : goal.post-requires
post-requires g c =
    let may = subst (λ (z : Mail). MayPost z c.args.number c.args.word) (sym c.self.view_is) c.requires in
    (omega (arith, may.there, c.self.invariant.cells), subst (λ b. c.args.word < 2 ^ b) (sym c.self.invariant.bits) may.small)

pub invariant_of-self : goal.invariant_of-self
invariant_of-self g c =
    let may = subst (λ (z : Mail). MayPost z c.args.number c.args.word) (sym c.self.view_is) c.requires in
    with_word _ c.self.invariant c.args.number c.args.word may.there
    (λ from. absurd (from.sender may.sender))
    c.post.new.self c.post.ensures.put.0

pub frame-bytes-requires-clause-fits : goal.frame-bytes-requires-clause-fits
frame-bytes-requires-clause-fits g c =
    let may = subst (λ (z : Mail). MayPost z c.args.number c.args.word) (sym c.self.view_is) c.requires in
    subst (λ (z : Key). FitsFrame z) (sym c.message-key.ensures.is) (fits_frame c.self.inside.plan.now c.self.invariant.sound c.args.number may.there)

pub send-requires-clause-party : goal.send-requires-clause-party
send-requires-clause-party g c =
    let may = subst (λ (z : Mail). MayPost z c.args.number c.args.word) (sym c.self.view_is) c.requires in
    subst (λ (z : Key). z.receiver < c.self.inside.plan.now.parties) (sym c.message-key.ensures.is) (between_parties c.self.inside.plan.now c.self.invariant.sound c.args.number may.there).receiver

pub invariant_of-self-else-key-self : goal.invariant_of-self-else-key-self
invariant_of-self-else-key-self g c =
    let may = subst (λ (z : Mail). MayPost z c.args.number c.args.word) (sym c.self.view_is) c.requires in
    with_word _ c.self.invariant c.args.number c.args.word may.there (λ from. absurd (from.sender may.sender)) c.post.new.self c.post.ensures.put.0

-- what could be taken still can: each word that was kept is kept
pub returns-then-key-self-clause-may_take : goal.returns-then-key-self-clause-may_take
returns-then-key-self-clause-may_take g c = λ n may.
    let old = subst (λ (z : Mail). MayTake z n) (sym c.self.view_is) may in
    let rest = c.send.ensures.rest in
    record {
      there = subst (λ (z : Mail). n < length (messages z.plan)) (sym rest) old.there;
      receiver = ap (λ (z : Mail). (message z.plan n).receiver) rest ∙ old.receiver ∙ sym (ap (λ (z : Mail). z.me) rest);
      kept = λ from.
          let v = old.kept (sym (ap (λ (z : Mail). (message z.plan n).sender) rest) ∙ from ∙ ap (λ (z : Mail). z.me) rest) in
          (v.0, ap (λ (z : Mail). plain_cell z.words.cells n) rest ∙ c.post.ensures.got n v.0 v.1);
    }
