use Rattle.std.proofs.Common.{◌≡◌, ℕ, [], ◌∷◌, ◌++◌, sym, append-nil, refl, ap, ◌∙◌, subst, arith}
use Rattle.std.proofs.lemmas.List.{map_push}
use Rattle.std.specs.Prelude.{map}
use Rattle.list_laws.specs.Lists.{listed}
use Rattle.list_laws.proofs.JoinedLists.{joined_step}
use Rattle.session_slots.specs.Sessions.Slot.{Kept}
use Rattle.session_slots.specs.declared.slot_kind.SlotKind.TheVariants.{Kept as KeptKind}
use Rattle.session_slots.specs.SoundSessions.{slot_of_kind}
use Rattle.session_slots.proofs.slot_list.push_kept.Goals as goal

pub loop-j-init : goal.loop-j-init
loop-j-init c = sym (append-nil (map slot_of_kind c.args.kinds.now.items))

pub loop-j-preserved : goal.loop-j-preserved
loop-j-preserved c =
    let before = map slot_of_kind c.args.kinds.now.items in
    let so_far = map slot_of_kind c.loop-j.kinds.items in
    ap (map slot_of_kind) c.in_ok-push.ensures.items ∙ map_push slot_of_kind c.loop-j.kinds.items (KeptKind c.loop-j.j)
    ∙ joined_step c.loop-j.j (λ j. Kept j ∷ []) before so_far (Kept c.loop-j.j ∷ []) c.loop-j.invariant refl

pub returns : goal.returns
returns c =
    let before = map slot_of_kind c.args.kinds.now.items in
    let all : c.loop-j.j ≡ c.args.count = omega (arith, c.loop-j.auto.j-end, c.loop-j-test.false) in
    subst (λ (n : ℕ). map slot_of_kind c.loop-j.kinds.items ≡ before ++ listed n (λ j. Kept j)) all c.loop-j.invariant
