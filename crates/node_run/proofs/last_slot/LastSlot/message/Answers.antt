use Rattle.std.proofs.Common.{◌≡◌, ◌+◌, ◌-◌, refl, sym, ap, ◌∙◌, arith}
use Rattle.plan_model.specs.Firsts.{first}
use Rattle.plan_model.specs.Numbers.{message}
use Rattle.plan_model.specs.Patterns.{transfers}
use Rattle.plan_model.proofs.SlotStarts.{first_next}
use Rattle.node_run.specs.Mail.{StandsIn}
use Rattle.plan_model.proofs.NamedTransfers.{count_is, message_is}
use Rattle.node_run.proofs.last_slot.LastSlot.message.Goals as goal

pub bounds-transfers-place : goal.bounds-transfers-place
bounds-transfers-place c =
    let plan = c.args.plan.now in
    let s = c.args.self.now.session in
    let k = c.args.self.now.slot in
    let there : StandsIn plan s k c.args.number = c.if-has.ensures refl in
    let many = count_is plan s k c.transfers-transfers.result.now (c.transfers-transfers.ensures ∙ ap (transfers plan) c.pattern.ensures.is) in
    omega (arith, many, first_next plan s k, there.begin, there.end, c.first.ensures.is)

pub returns-then-has : goal.returns-then-has
returns-then-has c =
    let plan = c.args.plan.now in
    let s = c.args.self.now.session in
    let k = c.args.self.now.slot in
    let there : StandsIn plan s k c.args.number = c.if-has.ensures refl in
    let are = c.transfers-transfers.ensures ∙ ap (transfers plan) c.pattern.ensures.is in
    let many = count_is plan s k c.transfers-transfers.result.now are in
    let i = c.args.number - c.first.result in
    let number : first plan s k + i ≡ c.args.number = omega (arith, there.begin, c.first.ensures.is) in
    record {
      is =
          sym (message_is plan s k c.transfers-transfers.result.now are there.session there.slot i (omega (arith, many, first_next plan s k, there.begin, there.end, c.first.ensures.is)) c.named.result c.named.ensures)
          ∙ ap (message plan) number;
    }
