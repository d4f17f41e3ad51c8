use Rattle.std.proofs.Common.{rules, ◌≡◌, length, sym, ap, subst, arith}
use Rattle.std.specs.Prelude.{vec_len}
use Rattle.plan_model.specs.Messages.{messages}
use Rattle.node_talk.specs.Talks.{goes, messages_between}
use Rattle.link_reader.specs.Expected.{AllFitFrames}
use Rattle.link_reader.proofs.ExpectedMessages.{at_most, all_fit}
use Rattle.link_reader.proofs.incoming_talk.IncomingTalk.of_plan.Goals as goal

pub new-requires-clause-few : goal.new-requires-clause-few
new-requires-clause-few c =
    let plan = c.args.plan.now in
    let few = c.ring.ensures.sound.few_messages in
    let some = at_most (goes c.args.peer c.args.me) (messages plan) in
    let same : length c.in_ok-keys.keys.items ≡ length (messages_between plan c.args.peer c.args.me) = ap (λ keys. length keys) c.in_ok-keys.ensures in
    let len : vec_len c.in_ok-keys.keys ≡ length c.in_ok-keys.keys.items = search rules in
    omega (arith, few, some, same, len)

pub new-requires-clause-fit : goal.new-requires-clause-fit
new-requires-clause-fit c = subst AllFitFrames (sym c.in_ok-keys.ensures) (all_fit c.args.plan.now c.ring.ensures.sound c.args.peer c.args.me)
