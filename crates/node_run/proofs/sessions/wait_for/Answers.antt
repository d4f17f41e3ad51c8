use Rattle.std.proofs.Common.{◌≡◌, true, ap, sym, ◌∙◌, subst, inr, Some}
use Rattle.plan_model.specs.Numbers.{message}
use Rattle.node_run.specs.Mail.{Mail, Looked, LookedAtMark, box_of}
use Rattle.node_run.proofs.CellChanges.{peer_kept, never_comes, fault_noted}
use Rattle.node_run.proofs.KnownWords.{is_missing}
use Rattle.node_run.proofs.FlushSteps.{session_goes}
use Rattle.node_run.proofs.SessionSteps.{waits_for, stops_here}
use Rattle.node_run.proofs.sessions.wait_for.Goals as goal

pub returns-then-gone-clause-on : goal.returns-then-gone-clause-on
returns-then-gone-clause-on g c = λ n s start desk h yes.
    let i = waits_for n s start desk c.args.cells.now h c.mark.new.self c.mark.ensures.rest c.mark.ensures.ids in
    session_goes n s start desk _ c.mark.new.self c.flush_all-gone.new.cells i (c.flush_all-gone.ensures.on c.if-gone.true)

pub returns-else-gone-clause-halted : goal.returns-else-gone-clause-halted
returns-else-gone-clause-halted g c = λ n s start desk h next no.
    let i = waits_for n s start desk c.args.cells.now h c.mark.new.self c.mark.ensures.rest c.mark.ensures.ids in
    (c.flush_all-gone.ensures.failed c.if-gone.false).halted n _ start i.going
    (inr (inr (c.args.number, next.0, next.1, λ e. c.requires.sender (ap (λ z. (message z c.args.number).sender) h.going.own.plan ∙ e ∙ sym h.going.own.me))))

pub returns-in-Some-false-clause-on : goal.returns-in-Some-false-clause-on
returns-in-Some-false-clause-on g c = λ n s start desk h yes. waits_for n s start desk c.args.cells.now h c.mark.new.self c.mark.ensures.rest c.mark.ensures.ids

pub returns-in-Some-true-clause-on : goal.returns-in-Some-true-clause-on
returns-in-Some-true-clause-on g c = λ n s start desk h yes.
    let i = waits_for n s start desk c.args.cells.now h c.mark.new.self c.mark.ensures.rest c.mark.ensures.ids in
    waits_for n s start desk c.mark.new.self i c.look.new.self c.look.ensures.rest c.look.ensures.ids

pub returns-in-Some-true-clause-halted : goal.returns-in-Some-true-clause-halted
returns-in-Some-true-clause-halted g c = λ n s start desk h next no.
    let i = waits_for n s start desk c.args.cells.now h c.mark.new.self c.mark.ensures.rest c.mark.ensures.ids in
    let found : LookedAtMark c.args.cells.now c.args.number (Some true) c.mark.new.self = subst (λ o. LookedAtMark c.args.cells.now c.args.number o c.mark.new.self) (c.in-Some-true.is ∙ ap Some c.in-Some-true.field-0-test) c.mark.ensures in
    let rest = found.rest ∙ ap (λ z. record c.args.cells.now { words = z; boxes = c.mark.new.self.boxes }) (sym (ap (λ (z : Mail). z.words) found.rest)) in
    let sender : (message c.mark.new.self.plan c.args.number).sender ≡ (message c.args.cells.now.plan c.args.number).sender = ap (λ (z : Mail). (message z.plan c.args.number).sender) found.rest in
    stops_here n s start desk c.mark.new.self i c.args.number next c.look.new.self c.look.ensures.rest c.look.ensures.ids
    (never_comes c.mark.new.self c.look.new.self c.args.number (peer_kept c.args.cells.now c.mark.new.self c.args.number rest c.requires).sender
    (subst (λ q. (box_of c.mark.new.self q).view.noted ≡ 2) (sym sender) (fault_noted c.args.cells.now c.mark.new.self c.args.number found))
    (subst (λ o. Looked c.mark.new.self c.args.number o c.look.new.self) (is_missing c.look.result c.is_some.result (sym c.is_some.ensures) no) c.look.ensures))
