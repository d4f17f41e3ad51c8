use Rattle.std.proofs.Common.{◌≡◌, ℕ, [], ◌∷◌, ◌++◌, sym, append-nil, length, refl, ap, ◌∙◌, subst, arith}
use Rattle.std.proofs.lemmas.List.{map_push}
use Rattle.std.specs.Prelude.{map}
use Rattle.list_laws.specs.Lists.{listed}
use Rattle.list_laws.proofs.JoinedLists.{joined_step}
use Rattle.session_slots.specs.Sessions.{owners}
use Rattle.session_slots.specs.Sessions.Slot.{Input}
use Rattle.session_slots.specs.declared.slot_kind.SlotKind.TheVariants.{Input as InputKind}
use Rattle.session_slots.specs.SoundSessions.{slot_of_kind}
use Rattle.session_slots.specs.Wirings.{session_in}
use Rattle.session_slots.proofs.WiringSlots.{owners_count}
use Rattle.session_slots.proofs.slot_list.push_inputs.Goals as goal

pub loop-v-init : goal.loop-v-init
loop-v-init c = sym (append-nil (map slot_of_kind c.args.kinds.now.items))

pub loop-v-preserved : goal.loop-v-preserved
loop-v-preserved c =
    let before = map slot_of_kind c.args.kinds.now.items in
    let so_far = map slot_of_kind c.loop-v.kinds.items in
    ap (map slot_of_kind) c.in_ok-push.ensures.items ∙ map_push slot_of_kind c.loop-v.kinds.items (InputKind c.loop-v.v)
    ∙ joined_step c.loop-v.v (λ v. Input v ∷ []) before so_far (Input c.loop-v.v ∷ []) c.loop-v.invariant refl

pub returns : goal.returns
returns c =
    let before = map slot_of_kind c.args.kinds.now.items in
    let all : c.loop-v.v ≡ length (owners (session_in c.args.wiring.now)) = omega (arith, c.loop-v.auto.v-end, c.loop-v-test.false, c.len-v-end.ensures, owners_count _ c.requires) in
    subst (λ (n : ℕ). map slot_of_kind c.loop-v.kinds.items ≡ before ++ listed n (λ v. Input v)) all c.loop-v.invariant
