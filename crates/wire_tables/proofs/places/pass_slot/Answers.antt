use Rattle.std.proofs.Common.{◌≡◌, ap, ◌∙◌, arith}
use Rattle.session_slots.specs.Sessions.{session_slot}
use Rattle.session_slots.specs.SoundSessions.{slot_of_kind}
use Rattle.plan_model.specs.Plans.{slot, words_in}
use Rattle.wire_tables.proofs.NextPlaces.{place_within}
use Rattle.wire_tables.proofs.places.pass_slot.Goals as goal

pub overflow_add-places : goal.overflow_add-places
overflow_add-places c =
    let plan = c.args.plan.now in
    let p = c.loop-p.p in
    let is : slot_of_kind c.slot_kind-kind.result ≡ slot plan c.args.s c.args.k = c.slot_kind-kind.ensures.is ∙ ap (λ x. session_slot x c.args.k) c.part.ensures in
    let drawn = c.words_in.ensures ∙ ap (words_in plan c.args.s p) is in
    let within = place_within plan c.args.s p c.args.k c.requires.session c.requires.slot in
    let here = c.loop-p.invariant.left p (omega arith) (omega arith) in
    let few = c.parties-parties.ensures.sound.few_words p (omega arith) in
    omega (arith, drawn, within, here, few)
