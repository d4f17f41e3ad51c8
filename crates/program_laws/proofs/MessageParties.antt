-- Each message goes from one party to another, or is of a kept wire and stays with its party.
use Rattle.std.proofs.Common.{◌<◌, ℕ, length}
use Rattle.session_slots.specs.Sessions.{Slot}
use Rattle.plan_model.specs.Plans.{Plan, IsPlan}
use Rattle.plan_model.specs.declared.key.Key.{Key}
use Rattle.plan_model.specs.Messages.{messages}
use Rattle.plan_model.specs.Numbers.{message}
use Rattle.program_model.specs.States.{slot_of}
use Rattle.program_laws.specs.Once.{GiversAreParties, IsBetweenParties}
use Rattle.program_laws.proofs.SentMessages.{going, sender_within, stays, there}

pub between : (plan : Plan) (n : ℕ) → IsPlan plan → GiversAreParties plan → n < length (messages plan) → IsBetweenParties plan (message plan n)
between plan n h givers l =
    let key : Key = message plan n in
    let z : Slot = slot_of plan n in
    let it = going plan n l in
    record {
      sender = sender_within plan h key.session (λ v p lv e. givers key.session v p (there plan n l).session_within lv e) z key.share key.sender key.receiver it.inside it.share it.goes;
      receiver = it.receiver;
      stays = stays plan h key.session z key.share key.sender key.receiver it.share it.goes;
    }
