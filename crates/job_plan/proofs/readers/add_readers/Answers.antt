use Rattle.std.proofs.Common.{◌≡◌, ℕ, ◌<◌, List, ◌∷◌, [], ◌++◌, ◌+◌, ◌≤◌, length, take, sym, ap, ◌∙◌, subst, arith}
use Rattle.std.specs.Prelude.{slice_index}
use Rattle.std.proofs.lemmas.List.{take_all, take_more}
use Rattle.mask_list.specs.Masks.{AreMasksOf}
use Rattle.mask_list.proofs.AddedMasks.{one_more}
use Rattle.session_slots.specs.Sessions.{Session, readers}
use Rattle.plan_model.specs.Plans.{session}
use Rattle.job_plan.proofs.readers.add_readers.Goals as goal

pub loop-o-preserved : goal.loop-o-preserved
loop-o-preserved c =
    let list = readers (session c.args.outline.now c.args.s) in
    let o = c.loop-o.o in
    let lt : o < length list = omega (arith, c.loop-o-test.true, c.output_wires-o-end.ensures, ap (λ (x : Session). length (readers x)) c.part-part.ensures.is) in
    let mask : c.wire_readers.result ≡ slice_index list o = c.wire_readers.ensures ∙ ap (λ (x : Session). slice_index (readers x) o) c.part-part.ensures.is in
    let more : take o list ++ c.wire_readers.result ∷ [] ≡ take (o + 1) list = ap (λ n. take o list ++ n ∷ []) mask ∙ sym (take_more list o 0 lt) in
    subst (λ (xs : List ℕ). AreMasksOf c.add.new.self (c.args.masks.now ++ xs)) more
    (one_more c.args.masks.now (take o list) c.loop-o.masks c.add.new.self c.wire_readers.result c.loop-o.invariant c.in_ok-add.ensures.added)

pub returns : goal.returns
returns c =
    let list = readers (session c.args.outline.now c.args.s) in
    let past : length list ≤ c.loop-o.o = omega (arith, c.loop-o-test.false, c.output_wires-o-end.ensures, ap (λ (x : Session). length (readers x)) c.part-part.ensures.is) in
    subst (λ (xs : List ℕ). AreMasksOf c.loop-o.masks (c.args.masks.now ++ xs)) (take_all c.loop-o.o list past) c.loop-o.invariant
