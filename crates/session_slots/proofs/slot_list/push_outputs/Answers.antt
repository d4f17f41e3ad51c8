use Rattle.std.proofs.Common.{◌≡◌, ℕ, [], ◌∷◌, ◌++◌, sym, append-nil, length, refl, ap, ◌∙◌, subst, arith}
use Rattle.std.proofs.lemmas.List.{map_push}
use Rattle.std.specs.Prelude.{map}
use Rattle.list_laws.specs.Lists.{listed}
use Rattle.list_laws.proofs.JoinedLists.{joined_step}
use Rattle.session_slots.specs.Sessions.{readers}
use Rattle.session_slots.specs.Sessions.Slot.{Output}
use Rattle.session_slots.specs.declared.slot_kind.SlotKind.TheVariants.{Output as OutputKind}
use Rattle.session_slots.specs.SoundSessions.{slot_of_kind}
use Rattle.session_slots.specs.Wirings.{session_in}
use Rattle.session_slots.proofs.slot_list.push_outputs.Goals as goal

pub loop-o-init : goal.loop-o-init
loop-o-init c = sym (append-nil (map slot_of_kind c.args.kinds.now.items))

pub loop-o-preserved : goal.loop-o-preserved
loop-o-preserved c =
    let before = map slot_of_kind c.args.kinds.now.items in
    let so_far = map slot_of_kind c.loop-o.kinds.items in
    ap (map slot_of_kind) c.in_ok-push.ensures.items ∙ map_push slot_of_kind c.loop-o.kinds.items (OutputKind c.loop-o.o)
    ∙ joined_step c.loop-o.o (λ o. Output o ∷ []) before so_far (Output c.loop-o.o ∷ []) c.loop-o.invariant refl

pub returns : goal.returns
returns c =
    let before = map slot_of_kind c.args.kinds.now.items in
    let all : c.loop-o.o ≡ length (readers (session_in c.args.wiring.now)) = omega (arith, c.loop-o.auto.o-end, c.loop-o-test.false, c.len-o-end.ensures, ap length c.requires.read) in
    subst (λ (n : ℕ). map slot_of_kind c.loop-o.kinds.items ≡ before ++ listed n (λ o. Output o)) all c.loop-o.invariant
