use Rattle.std.proofs.Common.{◌≡◌, ℕ, ◌<◌, ◌&&◌, not, nat_eq, true, false, List, [], ◌∷◌, Some, length, sym, ap, ap₂, ◌∙◌, arith}
use Rattle.std.specs.Prelude.{slice_index, slice_index_or}
use Rattle.std.proofs.lemmas.Grind.{common_steps, get_or_default_zero}
use Rattle.list_laws.specs.Lists.{listed}
use Rattle.list_laws.proofs.JoinedLists.{length-listed, listed_at}
use Rattle.session_slots.specs.Sessions.{Session, owners, source}
use Rattle.plan_model.specs.Plans.{session}
use Rattle.share_world.specs.Worlds.{World, input_of}
use Rattle.tape_map.specs.TapeMaps.{member_gives, with_inputs}
use Rattle.tape_map.specs.MapFaults.{input_check}
use Rattle.tape_map.specs.declared.fault.MapFault.TheVariants.{InputDiffers}
use Rattle.list_laws.proofs.FirstFaults.{joined-stops, joined_more-passed, one-fails, one-passed}
use Rattle.tape_map.proofs.inputs.session_fault.Goals as goal

-- a word that was read of a list
word_read : (n v r : ℕ) (f : ℕ → ℕ) (xs : List ℕ) → xs ≡ listed n f → v < n → r ≡ slice_index_or xs v r → r ≡ f v
word_read n v r f xs e l h = h ∙ get_or_default_zero xs v r (omega (arith, ap length e, length-listed n f)) ∙ ap (λ ys. slice_index ys v) e ∙ listed_at n f v 0 l

pub overflow_cast-wire-end : goal.overflow_cast-wire-end
overflow_cast-wire-end c =
    let sound = c.recall.ensures.sessions c.args.s c.requires.session in
    let wires = sound.wired.wires in let inputs = sound.wired.input_wires in
    let same : length (owners c.part-part.result.now) ≡ length (owners (session c.args.plan.now c.args.s)) = ap (λ y. length (owners y)) c.part-part.ensures in
    omega arith

pub index-one-requires : goal.index-one-requires
index-one-requires c =
    let x : Session = session c.args.plan.now c.args.s in
    let w : World = record { plan = c.args.plan.now; inputs = c.args.inputs.now; tapes = [] } in
    let same : length (owners c.part-part.result.now) ≡ length (owners x) = ap (λ y. length (owners y)) c.part-part.ensures in
    let long : length c.in_ok-first.first.items ≡ length (owners x) = ap length (c.in_ok-first.ensures []) ∙ length-listed (length (owners x)) (input_of w c.args.s) in
    let there : c.loop-wire.wire < length c.in_ok-first.first.items = omega (arith, c.loop-wire-test.true, c.input_wires-wire-end.ensures) in
    grind (arith, common_steps)

pub index-another-requires : goal.index-another-requires
index-another-requires c =
    let x : Session = session c.args.plan.now c.args.s in
    let w : World = record { plan = c.args.plan.now; inputs = c.args.other.now; tapes = [] } in
    let same : length (owners c.part-part.result.now) ≡ length (owners x) = ap (λ y. length (owners y)) c.part-part.ensures in
    let long : length c.in_ok-second.second.items ≡ length (owners x) = ap length (c.in_ok-second.ensures []) ∙ length-listed (length (owners x)) (input_of w c.args.s) in
    let there : c.loop-wire.wire < length c.in_ok-second.second.items = omega (arith, c.loop-wire-test.true, c.input_wires-wire-end.ensures) in
    grind (arith, common_steps)

pub member_gives-requires : goal.member_gives-requires
member_gives-requires c p from =
    let x : Session = session c.args.plan.now c.args.s in
    let v = c.loop-wire.wire in
    let same : length (owners c.part-part.result.now) ≡ length (owners x) = ap (λ y. length (owners y)) c.part-part.ensures in
    let lv : v < length (owners x) = omega (arith, c.loop-wire-test.true, c.input_wires-wire-end.ensures) in
    let own : c.source.result ≡ source x v = c.source.ensures ∙ ap (λ y. source y v) c.part-part.ensures in
    let party = (c.recall.ensures.sessions c.args.s c.requires.session).owned v p lv (sym own ∙ from) in
    omega (arith, party, c.requires.group)

pub returns-then-differ : goal.returns-then-differ
returns-then-differ c tapes =
    let x : Session = session c.args.plan.now c.args.s in
    let w : World = record { plan = c.args.plan.now; inputs = c.args.inputs.now; tapes = tapes } in
    let s = c.args.s in
    let v = c.loop-wire.wire in
    let mask = c.args.group.mask in
    let first : ℕ = input_of w s v in
    let second : ℕ = input_of (with_inputs w c.args.other.now) s v in
    let same : length (owners c.part-part.result.now) ≡ length (owners x) = ap (λ y. length (owners y)) c.part-part.ensures in
    let lv : v < length (owners x) = omega (arith, c.loop-wire-test.true, c.input_wires-wire-end.ensures) in
    let own : c.source.result ≡ source x v = c.source.ensures ∙ ap (λ y. source y v) c.part-part.ensures in
    let one : c.index-one.result.now ≡ first = word_read (length (owners x)) v c.index-one.result.now (input_of w s) c.in_ok-first.first.items (c.in_ok-first.ensures tapes) lv c.index-one.ensures in
    let another : c.index-another.result.now ≡ second = word_read (length (owners x)) v c.index-another.result.now (input_of (with_inputs w c.args.other.now) s) c.in_ok-second.second.items (c.in_ok-second.ensures tapes) lv c.index-another.ensures in
    let differs : (member_gives mask (source x v) && not (nat_eq first second)) ≡ true =
    ap₂ (λ a b. a && b) (ap (member_gives mask) (sym own) ∙ sym c.member_gives.ensures) (ap₂ (λ a b. not (nat_eq a b)) (sym one) (sym another)) ∙ sym c.differ.ensures ∙ c.if-differ.true in
    ap₂ (λ a b. Some (InputDiffers s v a b)) one another
    ∙ sym (joined-stops (length (owners x)) v (λ u. input_check w c.args.other.now mask s u ∷ []) (InputDiffers s v first second) lv c.loop-wire.invariant
    (one-fails (member_gives mask (source x v) && not (nat_eq first second)) (InputDiffers s v first second) differs))

pub loop-wire-preserved : goal.loop-wire-preserved
loop-wire-preserved c =
    let x : Session = session c.args.plan.now c.args.s in
    let w : World = record { plan = c.args.plan.now; inputs = c.args.inputs.now; tapes = [] } in
    let s = c.args.s in
    let v = c.loop-wire.wire in
    let mask = c.args.group.mask in
    let first : ℕ = input_of w s v in
    let second : ℕ = input_of (with_inputs w c.args.other.now) s v in
    let same : length (owners c.part-part.result.now) ≡ length (owners x) = ap (λ y. length (owners y)) c.part-part.ensures in
    let lv : v < length (owners x) = omega (arith, c.loop-wire-test.true, c.input_wires-wire-end.ensures) in
    let own : c.source.result ≡ source x v = c.source.ensures ∙ ap (λ y. source y v) c.part-part.ensures in
    let one : c.index-one.result.now ≡ first = word_read (length (owners x)) v c.index-one.result.now (input_of w s) c.in_ok-first.first.items (c.in_ok-first.ensures []) lv c.index-one.ensures in
    let another : c.index-another.result.now ≡ second = word_read (length (owners x)) v c.index-another.result.now (input_of (with_inputs w c.args.other.now) s) c.in_ok-second.second.items (c.in_ok-second.ensures []) lv c.index-another.ensures in
    let alike : (member_gives mask (source x v) && not (nat_eq first second)) ≡ false =
    ap₂ (λ a b. a && b) (ap (member_gives mask) (sym own) ∙ sym c.member_gives.ensures) (ap₂ (λ a b. not (nat_eq a b)) (sym one) (sym another)) ∙ sym c.differ.ensures ∙ c.if-differ.false in
    joined_more-passed v (λ u. input_check w c.args.other.now mask s u ∷ []) c.loop-wire.invariant
    (one-passed (member_gives mask (source x v) && not (nat_eq first second)) (InputDiffers s v first second) alike)
