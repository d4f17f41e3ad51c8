use Rattle.std.proofs.Common.{◌≡◌, ℕ, ◌<◌, true, length, sym, ap, ◌∙◌, subst, inr}
use Rattle.plan_model.specs.InputWords.{session_words}
use Rattle.plan_model.specs.Plans.{Plan}
use Rattle.share_world.specs.Worlds.{World}
use Rattle.wire_tables.specs.WireTables.{world_given}
use Rattle.tape_map.specs.TapeMaps.{hidden, with_inputs}
use Rattle.tape_map.specs.MapFaults.{is_tolerated}
use Rattle.tape_map.proofs.ChangedPieces.{lists_fit}
use Rattle.tape_map.proofs.NoFaults.{can_hide, none_found, some_found, tolerated_test, group_fails, inputs_fail, outputs_fail, outputs_read, values_are}
use Rattle.tape_map.proofs.Recipients.{recipient_below}
use Rattle.tape_map.proofs.map.map_tapes.Goals as goal

-- a group whose hidden summand is there is tolerated
lies : (plan : Plan) (group share : ℕ) → (share ≡ hidden plan group) × (share < length plan.groups) → is_tolerated plan group ≡ true
lies plan group share h = tolerated_test plan group (subst (λ k. k < length plan.groups) h.0 h.1)

pub output_fault-requires-clause-first : goal.output_fault-requires-clause-first
output_fault-requires-clause-first c =
    let w : World = world_given c.args.plan.now c.args.inputs.now c.args.tapes.now in
    values_are w (session_words c.deref.result.now) (ap session_words c.deref.ensures.value ∙ c.in_ok-first.ensures w.tapes)

pub output_fault-requires-clause-second : goal.output_fault-requires-clause-second
output_fault-requires-clause-second c =
    let w : World = world_given c.args.plan.now c.args.inputs.now c.args.tapes.now in
    values_are (with_inputs w c.args.other.now) (session_words c.deref-2.result.now) (ap session_words c.deref-2.ensures.value ∙ c.in_ok-second.ensures w.tapes)

pub changed_tapes-requires-clause-first : goal.changed_tapes-requires-clause-first
changed_tapes-requires-clause-first c =
    let w : World = world_given c.args.plan.now c.args.inputs.now c.args.tapes.now in
    ap session_words c.deref-3.ensures.value ∙ c.in_ok-first.ensures w.tapes

pub changed_tapes-requires-clause-second : goal.changed_tapes-requires-clause-second
changed_tapes-requires-clause-second c =
    let w : World = world_given c.args.plan.now c.args.inputs.now c.args.tapes.now in
    lists_fit (with_inputs w c.args.other.now) (session_words c.deref-4.result.now) c.requires.whole.sound c.requires.other (ap session_words c.deref-4.ensures.value ∙ c.in_ok-second.ensures w.tapes)

pub returns-in_default-clause-fault : goal.returns-in_default-clause-fault
returns-in_default-clause-fault c =
    let w : World = world_given c.args.plan.now c.args.inputs.now c.args.tapes.now in
    inr (group_fails w c.args.other.now c.args.group.mask (none_found c.hidden_summand.result c.args.groups.now c.args.plan.now c.args.group.mask c.requires.groups c.hidden_summand.ensures c.in_default.is))

pub returns-in-Some-2-clause-fault : goal.returns-in-Some-2-clause-fault
returns-in-Some-2-clause-fault c =
    let w : World = world_given c.args.plan.now c.args.inputs.now c.args.tapes.now in
    let mask = c.args.group.mask in
    let tolerated = lies c.args.plan.now mask c.in-Some.share (some_found c.hidden_summand.result c.in-Some.share c.args.groups.now c.args.plan.now mask c.requires.groups c.hidden_summand.ensures c.in-Some.is) in
    inr (inputs_fail w c.args.other.now mask c.in-Some-2.fault tolerated (sym (c.in_ok-fault.ensures w.tapes) ∙ c.in-Some-2.is))

pub returns-in-Some-output_fault-clause-fault : goal.returns-in-Some-output_fault-clause-fault
returns-in-Some-output_fault-clause-fault c =
    let w : World = world_given c.args.plan.now c.args.inputs.now c.args.tapes.now in
    let mask = c.args.group.mask in
    let tolerated = lies c.args.plan.now mask c.in-Some.share (some_found c.hidden_summand.result c.in-Some.share c.args.groups.now c.args.plan.now mask c.requires.groups c.hidden_summand.ensures c.in-Some.is) in
    inr (outputs_fail w c.args.other.now mask c.in-Some-output_fault.fault tolerated (sym (c.in_ok-fault.ensures w.tapes) ∙ c.in_default-2.is) (outputs_read w c.args.other.now mask _ _ _ c.requires.whole.sound (ap session_words c.deref.ensures.value ∙ c.in_ok-first.ensures w.tapes)
    (ap session_words c.deref-2.ensures.value ∙ c.in_ok-second.ensures w.tapes) c.output_fault.ensures ∙ c.in-Some-output_fault.is))

pub returns-clause-hides : goal.returns-clause-hides
returns-clause-hides c =
    let w : World = world_given c.args.plan.now c.args.inputs.now c.args.tapes.now in
    let mask = c.args.group.mask in
    let tolerated = lies c.args.plan.now mask c.in-Some.share (some_found c.hidden_summand.result c.in-Some.share c.args.groups.now c.args.plan.now mask c.requires.groups c.hidden_summand.ensures c.in-Some.is) in
    can_hide w c.args.other.now mask c.requires.whole c.requires.other tolerated (sym (c.in_ok-fault.ensures w.tapes) ∙ c.in_default-2.is) (outputs_read w c.args.other.now mask _ _ _ c.requires.whole.sound (ap session_words c.deref.ensures.value ∙ c.in_ok-first.ensures w.tapes)
    (ap session_words c.deref-2.ensures.value ∙ c.in_ok-second.ensures w.tapes) c.output_fault.ensures ∙ c.in_default-output_fault.is)

pub returns-in-Some-2-clause-recipient : goal.returns-in-Some-2-clause-recipient
returns-in-Some-2-clause-recipient c =
    let w : World = world_given c.args.plan.now c.args.inputs.now c.args.tapes.now in
    let mask = c.args.group.mask in
    let tolerated = lies c.args.plan.now mask c.in-Some.share (some_found c.hidden_summand.result c.in-Some.share c.args.groups.now c.args.plan.now mask c.requires.groups c.hidden_summand.ensures c.in-Some.is) in
    recipient_below w c.args.other.now mask c.in-Some-2.fault (inputs_fail w c.args.other.now mask c.in-Some-2.fault tolerated (sym (c.in_ok-fault.ensures w.tapes) ∙ c.in-Some-2.is))

pub returns-in-Some-output_fault-clause-recipient : goal.returns-in-Some-output_fault-clause-recipient
returns-in-Some-output_fault-clause-recipient c =
    let w : World = world_given c.args.plan.now c.args.inputs.now c.args.tapes.now in
    let mask = c.args.group.mask in
    let tolerated = lies c.args.plan.now mask c.in-Some.share (some_found c.hidden_summand.result c.in-Some.share c.args.groups.now c.args.plan.now mask c.requires.groups c.hidden_summand.ensures c.in-Some.is) in
    recipient_below w c.args.other.now mask c.in-Some-output_fault.fault (outputs_fail w c.args.other.now mask c.in-Some-output_fault.fault tolerated (sym (c.in_ok-fault.ensures w.tapes) ∙ c.in_default-2.is) (outputs_read w c.args.other.now mask _ _ _ c.requires.whole.sound (ap session_words c.deref.ensures.value ∙ c.in_ok-first.ensures w.tapes)
    (ap session_words c.deref-2.ensures.value ∙ c.in_ok-second.ensures w.tapes) c.output_fault.ensures ∙ c.in-Some-output_fault.is))

pub returns-clause-tapes : goal.returns-clause-tapes
returns-clause-tapes c =
    let w : World = world_given c.args.plan.now c.args.inputs.now c.args.tapes.now in
    c.in_ok-changed.ensures c.args.other.now (ap session_words c.deref-4.ensures.value ∙ c.in_ok-second.ensures w.tapes)
