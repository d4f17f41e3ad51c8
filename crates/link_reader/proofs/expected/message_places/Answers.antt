use Rattle.std.proofs.Common.{◌≡◌, ◌+◌, length, sym, ap, subst, ◌∙◌, arith}
use Rattle.plan_model.specs.Plans.{slots}
use Rattle.plan_model.specs.Firsts.{first}
use Rattle.plan_model.specs.Messages.{messages}
use Rattle.plan_model.proofs.SlotMessages.{length-messages}
use Rattle.plan_model.proofs.SlotStarts.{first_after}
use Rattle.link_reader.specs.Expected.{ArePlaced}
use Rattle.link_reader.proofs.ExpectedMessages.{has_places}
use Rattle.link_reader.proofs.expected.message_places.Goals as goal

pub loop-s-preserved : goal.loop-s-preserved
loop-s-preserved c =
    let plan = c.args.plan.now in
    let all : c.loop-k.k ≡ slots plan c.loop-s.s = omega (arith, c.slots-k-end.ensures) in
    let next : first plan c.loop-s.s c.loop-k.k ≡ first plan (c.loop-s.s + 1) 0 = ap (first plan c.loop-s.s) all ∙ sym (first_after plan c.loop-s.s) in
    subst (λ z. ArePlaced plan c.args.me z c.loop-k.places.items c.loop-k.counts.items) next c.loop-k.invariant

pub returns : goal.returns
returns c =
    let plan = c.args.plan.now in
    let last : c.loop-s.s ≡ length plan.sessions = omega (arith, c.sessions-s-end.ensures) in
    let all : first plan c.loop-s.s 0 ≡ length (messages plan) = ap (λ s. first plan s 0) last ∙ omega (arith, length-messages plan) in
    λ n same_plan same_me.
    has_places n plan c.args.me c.loop-s.places.items c.loop-s.counts.items (subst (λ z. ArePlaced plan c.args.me z c.loop-s.places.items c.loop-s.counts.items) all c.loop-s.invariant) same_plan same_me
