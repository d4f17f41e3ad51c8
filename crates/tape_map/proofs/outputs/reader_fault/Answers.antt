use Rattle.std.proofs.Common.{◌≡◌, ◌&&◌, not, nat_eq, true, false, [], ◌∷◌, Some, sym, ap, ap₂, ◌∙◌, arith}
use Rattle.std.specs.Prelude.{slice_index}
use Rattle.party_set.specs.Parties.{has_party}
use Rattle.session_slots.specs.Sessions.{Session, readers, output_wire}
use Rattle.plan_model.specs.Plans.{session, reads}
use Rattle.tape_map.specs.MapFaults.{output_check}
use Rattle.tape_map.specs.declared.fault.MapFault.TheVariants.{OutputDiffers}
use Rattle.list_laws.proofs.FirstFaults.{joined-stops, joined_more-passed, one-fails, one-passed}
use Rattle.tape_map.proofs.outputs.reader_fault.Goals as goal

pub returns-then-read_differ : goal.returns-then-read_differ
returns-then-read_differ c =
    let plan = c.args.plan.now in
    let s = c.args.s in
    let o = c.args.o in
    let r = c.loop-recipient.recipient in
    let x : Session = session plan s in
    let first = c.args.first in
    let second = c.args.second in
    let wire : c.output_wire-wire.result ≡ output_wire x o = c.output_wire-wire.ensures ∙ ap (λ (y : Session). output_wire y o) c.part-part.ensures in
    let reads_is : c.reads-reads.result ≡ reads plan r s o = c.reads-reads.ensures ∙ ap (λ y. has_party (slice_index (readers y) o) r) c.part-part.ensures in
    let differs : (has_party c.args.group.mask r && (reads plan r s o && not (nat_eq first second))) ≡ true =
    ap₂ (λ a b. a && (b && not (nat_eq first second))) (sym c.has.ensures) (sym reads_is) ∙ sym c.read_differ.ensures ∙ c.if-read_differ.true in
    ap (λ v. Some (OutputDiffers s v r first second)) wire
    ∙ sym (joined-stops plan.parties r (λ r. output_check plan c.args.group.mask s first second o r ∷ []) (OutputDiffers s (output_wire x o) r first second) (omega arith) c.loop-recipient.invariant
    (one-fails (has_party c.args.group.mask r && (reads plan r s o && not (nat_eq first second))) (OutputDiffers s (output_wire x o) r first second) differs))

pub loop-recipient-preserved : goal.loop-recipient-preserved
loop-recipient-preserved c =
    let plan = c.args.plan.now in
    let s = c.args.s in
    let o = c.args.o in
    let r = c.loop-recipient.recipient in
    let x : Session = session plan s in
    let first = c.args.first in
    let second = c.args.second in
    let reads_is : c.reads-reads.result ≡ reads plan r s o = c.reads-reads.ensures ∙ ap (λ y. has_party (slice_index (readers y) o) r) c.part-part.ensures in
    let same : (has_party c.args.group.mask r && (reads plan r s o && not (nat_eq first second))) ≡ false =
    ap₂ (λ a b. a && (b && not (nat_eq first second))) (sym c.has.ensures) (sym reads_is) ∙ sym c.read_differ.ensures ∙ c.if-read_differ.false in
    joined_more-passed r (λ r. output_check plan c.args.group.mask s first second o r ∷ []) c.loop-recipient.invariant
    (one-passed (has_party c.args.group.mask r && (reads plan r s o && not (nat_eq first second))) (OutputDiffers s (output_wire x o) r first second) same)
