use Rattle.std.proofs.Common.{◌≡◌, ℕ, List, Option, Some, None, length, sym, ap, ◌∙◌, arith}
use Rattle.std.specs.Prelude.{slice_index}
use Rattle.list_laws.specs.Lists.{listed}
use Rattle.list_laws.specs.Checks.{first_fault}
use Rattle.session_slots.specs.Sessions.{Session, readers, output_wire}
use Rattle.plan_model.specs.Plans.{session}
use Rattle.tape_map.specs.MapFaults.{output_check}
use Rattle.tape_map.specs.declared.fault.MapFault.{MapFault}
use Rattle.list_laws.proofs.FirstFaults.{joined-stops, joined_more-passed}
use Rattle.tape_map.proofs.outputs.session_fault.Goals as goal

pub returns-in-Some : goal.returns-in-Some
returns-in-Some c =
    let plan = c.args.plan.now in
    let s = c.args.s in
    let o = c.loop-o.o in
    let x : Session = session plan s in
    let mask = c.args.group.mask in
    let checks : ℕ → List (Option MapFault) = λ v. listed plan.parties (output_check plan mask s (slice_index c.args.first.now v) (slice_index c.args.second.now v) o) in
    let same : length (readers c.part-part.result.now) ≡ length (readers x) = ap (λ y. length (readers y)) c.part-part.ensures in
    let wire : c.output_wire-wire.result ≡ output_wire x o = c.output_wire-wire.ensures ∙ ap (λ (y : Session). output_wire y o) c.part-part.ensures in
    let here : first_fault (checks (output_wire x o)) ≡ Some c.in-Some.fault = ap (λ v. first_fault (checks v)) (sym wire) ∙ sym c.reader_fault.ensures ∙ c.in-Some.is in
    sym (joined-stops (length (readers x)) o (λ o. listed plan.parties (output_check plan mask s (slice_index c.args.first.now (output_wire x o)) (slice_index c.args.second.now (output_wire x o)) o)) c.in-Some.fault
    (omega (arith, c.loop-o-test.true, c.output_wires-o-end.ensures, same)) c.loop-o.invariant here)

pub loop-o-preserved : goal.loop-o-preserved
loop-o-preserved c =
    let plan = c.args.plan.now in
    let s = c.args.s in
    let o = c.loop-o.o in
    let x : Session = session plan s in
    let mask = c.args.group.mask in
    let checks : ℕ → List (Option MapFault) = λ v. listed plan.parties (output_check plan mask s (slice_index c.args.first.now v) (slice_index c.args.second.now v) o) in
    let wire : c.output_wire-wire.result ≡ output_wire x o = c.output_wire-wire.ensures ∙ ap (λ (y : Session). output_wire y o) c.part-part.ensures in
    let here : first_fault (checks (output_wire x o)) ≡ None = ap (λ v. first_fault (checks v)) (sym wire) ∙ sym c.reader_fault.ensures ∙ c.in_default.is in
    joined_more-passed o (λ o. listed plan.parties (output_check plan mask s (slice_index c.args.first.now (output_wire x o)) (slice_index c.args.second.now (output_wire x o)) o)) c.loop-o.invariant here
