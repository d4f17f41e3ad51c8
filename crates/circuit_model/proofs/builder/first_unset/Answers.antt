use Rattle.std.proofs.Common.{◌≡◌, suc, ◌+◌, ◌-◌, ◌<◌, ◌∙◌, ap, arith, false, not, length, slice_index_or}
use Rattle.circuit_model.proofs.SetWires.{find_next}
use Rattle.circuit_model.proofs.builder.first_unset.Goals as goal

pub loop-wire-preserved : goal.loop-wire-preserved
loop-wire-preserved c =
    let w = c.loop-wire.wire in
    let n = length c.args.set.now in
    let less : w < n = omega (arith, c.loop-wire-test.true) in
    let one : n - w ≡ suc (n - (w + 1)) = omega (arith, less) in
    (omega (arith, less), c.loop-wire.invariant.1 ∙ find_next (λ v. not (slice_index_or c.args.set.now v false)) w (n - w) (n - (w + 1)) one (ap not c.if-not-set-wire.false))
