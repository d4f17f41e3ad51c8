use Rattle.std.proofs.Common.{◌≡◌, ◌+◌, ◌-◌, ◌<◌, length, sym, ap, ◌∙◌, arith}
use Rattle.std.specs.Prelude.{slice_index_or}
use Rattle.std.proofs.lemmas.List.{length-map}
use Rattle.plan_model.specs.Plans.{slot}
use Rattle.plan_model.specs.Messages.{slot_messages}
use Rattle.plan_model.specs.Numbers.{message, no_key}
use Rattle.plan_model.specs.Patterns.{named}
use Rattle.plan_model.specs.Firsts.{first, count}
use Rattle.plan_model.proofs.RankSearch.{named_at}
use Rattle.plan_model.proofs.SlotStarts.{first_next}
use Rattle.plan_model.proofs.SlotMessages.{message_at}
use Rattle.plan_model.proofs.MessageSlots.{share_within}
use Rattle.job_plan.proofs.plan.Plan.message.Goals as goal

pub returns : goal.returns
returns c =
    let plan = c.args.self.now in
    let s = c.session_of-s.result in
    let k = c.slot_of-k.result in
    let transfers = c.slot_transfers.result.now in
    let i = c.args.n - c.first.result in
    let here : i < count plan s k = omega (arith, first_next plan s k, c.first.ensures.is, c.slot_of-k.ensures.end, c.slot_of-k.ensures.begin) in
    let within : i < length transfers = omega (arith, ap length c.slot_transfers.ensures.is, length-map transfers (named s k)) in
    let at : c.named.result ≡ slice_index_or (slot_messages plan s k (slot plan s k)) i no_key =
    c.named.ensures ∙ sym (named_at s k transfers i within) ∙ ap (λ keys. slice_index_or keys i no_key) c.slot_transfers.ensures.is in
    let same : first plan s k + i ≡ c.args.n = omega (arith, c.first.ensures.is, c.slot_of-k.ensures.begin) in
    record {
      is = at ∙ sym (message_at plan s k c.session_of-s.ensures.there c.slot_of-k.ensures.there i here) ∙ ap (message plan) same;
      few = omega (arith, ap (λ x. x.share) at, share_within plan s k i here, c.slot_transfers.ensures.sound.groups);
    }
