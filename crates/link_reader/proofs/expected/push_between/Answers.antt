use Rattle.std.proofs.Common.{◌++◌, map, filter, ap, ◌∙◌, arith}
use Rattle.std.proofs.lemmas.List.{take_all}
use Rattle.plan_model.specs.Patterns.{named, transfers}
use Rattle.node_talk.specs.Talks.{goes}
use Rattle.plan_model.proofs.NamedTransfers.{named_slot}
use Rattle.link_reader.proofs.expected.push_between.Goals as goal

pub returns : goal.returns
returns c =
    let plan = c.args.plan.now in
    let all = take_all c.loop-i.i c.transfers-transfers.result.now (omega arith) in
    c.loop-i.invariant
    ∙ ap (λ keys. c.args.keys.now.items ++ filter (goes c.args.from c.args.to) keys)
    (ap (map (named c.args.s c.args.k)) all ∙ named_slot plan c.args.s c.args.k c.transfers-transfers.result.now (c.transfers-transfers.ensures ∙ ap (transfers plan) c.pattern.ensures.is))
