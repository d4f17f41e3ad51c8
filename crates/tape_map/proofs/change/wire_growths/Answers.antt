use Rattle.std.proofs.Common.{◌≡◌, sym, ap, ◌∙◌, subst, arith}
use Rattle.std.specs.Prelude.{slice_index, ◌^◌}
use Rattle.list_laws.specs.Lists.{listed}
use Rattle.mpc_ring.specs.Differences.{difference}
use Rattle.plan_model.specs.Plans.{session}
use Rattle.tape_map.specs.Changes.{AreNumbers}
use Rattle.tape_map.proofs.ChangedPieces.{differences_fit}
use Rattle.tape_map.proofs.change.wire_growths.Goals as goal

pub returns-clause-fit : goal.returns-clause-fit
returns-clause-fit c =
    let plan = c.args.plan.now in
    let ended : c.loop-v.v ≡ (session plan c.args.s).wires = omega (arith, c.loop-v-test.false, c.loop-v.auto.v-end, c.requires.first.long) in
    let is = c.loop-v.invariant ∙ ap (λ n. listed n (λ v. difference (2 ^ plan.bits) (slice_index c.args.second.now v) (slice_index c.args.first.now v))) ended in
    subst (AreNumbers plan (session plan c.args.s).wires) (sym is) (differences_fit plan (session plan c.args.s).wires (slice_index c.args.first.now) (slice_index c.args.second.now))
