use Rattle.std.proofs.Common.{◌<◌, map, length, ap, sym, subst, ◌∙◌, arith}
use Rattle.std.specs.Prelude.{slice_index_or, SomeIff}
use Rattle.std.proofs.lemmas.List.{length-map}
use Rattle.plan_model.specs.Plans.{slot, slots}
use Rattle.plan_model.specs.Messages.{messages}
use Rattle.plan_model.specs.Patterns.{named, order_of, pattern_at}
use Rattle.plan_model.specs.Numbers.{number, no_key, rank, IsRising}
use Rattle.plan_model.specs.Firsts.{count}
use Rattle.plan_model.proofs.SlotMessages.{number_within}
use Rattle.plan_model.proofs.MessageSlots.{is_there, number_is}
use Rattle.plan_model.proofs.RisingRanks.{transfers_rise}
use Rattle.plan_model.proofs.SlotPatterns.{slots_follow_patterns}
use Rattle.job_plan.proofs.plan.Plan.number.Goals as goal
use Rattle.job_plan.proofs.plan.Plan.number.Goals.{then-key-sessions-via-then-key-sessions, then-key-sessions-via-else-key-sessions+then-key-slots}

pub returns-then-key-sessions : goal.returns-then-key-sessions
returns-then-key-sessions c = λ l.
    let h = is_there c.args.self.now c.args.key l in
    elim c.then-key-sessions.branch [
      | then-key-sessions-via-then-key-sessions w ↦ (let a = w.if-key-sessions.true in omega (arith, c.sessions.ensures, h.session_within))
      | then-key-sessions-via-else-key-sessions+then-key-slots w ↦ (let a = w.if-key-slots.true in omega (arith, w.slots.ensures, h.slot_within))
    ]

pub search-requires : goal.search-requires
search-requires c =
    let plan = c.args.self.now in
    let sound = c.slot_transfers-transfers.ensures.sound in
    let s = c.args.key.session in
    let k = c.args.key.slot in
    let own = pattern_at plan s k in
    let are = c.slot_transfers-transfers.ensures.is ∙ slots_follow_patterns plan s k (slot plan s k) in
    subst (λ order. IsRising (rank order) (map (named s k) c.slot_transfers-transfers.result.now)) (sym (c.order-order.ensures ∙ ap order_of c.pattern.ensures.is))
    (subst (IsRising (rank (order_of own))) (sym are) (transfers_rise plan s k sound.parties sound.groups own))

pub returns-in_err-at : goal.returns-in_err-at
returns-in_err-at c =
    let plan = c.args.self.now in
    let keys = c.slot_transfers-transfers.ensures.is in
    let long = length-map c.slot_transfers-transfers.result.now (named c.args.key.session c.args.key.slot) in
    subst (λ r. SomeIff r (number plan c.args.key < length (messages plan)) (number plan c.args.key)) (sym c.from_residual.ensures) (λ l.
    let h = is_there plan c.args.key l in
    c.in_err-at.ensures.absent h.place (let within = h.place_within in omega (arith, long, ap length keys)) (ap (λ keys. slice_index_or keys h.place no_key) keys ∙ h.is))

pub overflow_cast-result : goal.overflow_cast-result
overflow_cast-result c =
    let plan = c.args.self.now in
    let key = c.args.key in
    let session_within : key.session < length plan.sessions = omega (arith, c.sessions.ensures, c.if-key-sessions.false) in
    let slot_within : key.slot < slots plan key.session = omega (arith, c.slots.ensures, c.if-key-slots.false) in
    let at : c.in_ok-at.at < count plan key.session key.slot = omega (arith, c.in_ok-at.ensures.within, ap length c.slot_transfers-transfers.ensures.is, length-map c.slot_transfers-transfers.result.now (named key.session key.slot)) in
    omega (arith, number_within plan key.session key.slot session_within slot_within c.in_ok-at.at at, c.slot_transfers-transfers.ensures.sound.few_messages)

pub overflow_add-result : goal.overflow_add-result
overflow_add-result c =
    let plan = c.args.self.now in
    let key = c.args.key in
    let session_within : key.session < length plan.sessions = omega (arith, c.sessions.ensures, c.if-key-sessions.false) in
    let slot_within : key.slot < slots plan key.session = omega (arith, c.slots.ensures, c.if-key-slots.false) in
    let at : c.in_ok-at.at < count plan key.session key.slot = omega (arith, c.in_ok-at.ensures.within, ap length c.slot_transfers-transfers.ensures.is, length-map c.slot_transfers-transfers.result.now (named key.session key.slot)) in
    omega (arith, number_within plan key.session key.slot session_within slot_within c.in_ok-at.at at, c.slot_transfers-transfers.ensures.sound.few_messages, c.first.ensures.is)

pub returns : goal.returns
returns c =
    let plan = c.args.self.now in
    let key = c.args.key in
    let keys = c.slot_transfers-transfers.ensures.is in
    let session_within : key.session < length plan.sessions = omega (arith, c.sessions.ensures, c.if-key-sessions.false) in
    let slot_within : key.slot < slots plan key.session = omega (arith, c.slots.ensures, c.if-key-slots.false) in
    let at : c.in_ok-at.at < count plan key.session key.slot = omega (arith, c.in_ok-at.ensures.within, ap length keys, length-map c.slot_transfers-transfers.result.now (named key.session key.slot)) in
    let found = ap (λ keys. slice_index_or keys c.in_ok-at.at no_key) (sym keys) ∙ c.in_ok-at.ensures.found in
    let number = number_is plan key key.session key.slot c.in_ok-at.at session_within slot_within at found in
    let within = number_within plan key.session key.slot session_within slot_within c.in_ok-at.at at in
    (omega (arith, number), omega (arith, number, c.first.ensures.is))
