use Rattle.std.proofs.Common.{◌≡◌, ◌++◌, filter, ap, ◌∙◌, arith}
use Rattle.list_laws.specs.Lists.{joined}
use Rattle.plan_model.specs.Plans.{slot, slots}
use Rattle.plan_model.specs.Messages.{session_messages, slot_messages}
use Rattle.node_talk.specs.Talks.{goes}
use Rattle.link_reader.proofs.ExpectedMessages.{filter_behind, filter_more}
use Rattle.link_reader.proofs.expected.keys_between.Goals as goal

pub loop-k-preserved : goal.loop-k-preserved
loop-k-preserved c =
    let plan = c.args.plan.now in
    let test = goes c.args.from c.args.to in
    filter_behind test c.loop-k.k (λ k. slot_messages plan c.loop-s.s k (slot plan c.loop-s.s k)) (filter test (joined c.loop-s.s (session_messages plan))) c.loop-k.keys.items _ c.loop-k.invariant c.in_ok-push_between.ensures

pub loop-s-preserved : goal.loop-s-preserved
loop-s-preserved c =
    let plan = c.args.plan.now in
    let test = goes c.args.from c.args.to in
    let before = filter test (joined c.loop-s.s (session_messages plan)) in
    let all : c.loop-k.k ≡ slots plan c.loop-s.s = omega (arith, c.slots-k-end.ensures) in
    c.loop-k.invariant ∙ ap (λ n. before ++ filter test (joined n (λ k. slot_messages plan c.loop-s.s k (slot plan c.loop-s.s k)))) all
    ∙ filter_more test c.loop-s.s (session_messages plan)
