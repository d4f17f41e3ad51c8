use Rattle.std.proofs.Common.{nat_lt, false, sym, ◌∙◌, arith, length}
use Rattle.std.specs.Prelude.{slice_index_or}
use Rattle.std.proofs.lemmas.Bool.{ltb-true}
use Rattle.circuit_model.proofs.ListTests.{all_yes, all_no, all_end, all_at}
use Rattle.circuit_model.proofs.checks.are_set.Goals as goal

pub bounds-set-wire : goal.bounds-set-wire
bounds-set-wire c = ltb-true _ _ (all_at (λ w. nat_lt w (length c.args.set.now)) c.args.read.now c.loop-wire.wire-index c.requires c.loop-wire-test.true)

pub returns-then-not-set-wire : goal.returns-then-not-set-wire
returns-then-not-set-wire c = sym (c.loop-wire.invariant ∙ all_no (λ w. slice_index_or c.args.set.now w false) c.args.read.now c.loop-wire.wire-index c.loop-wire-test.true c.if-not-set-wire.true)

pub loop-wire-preserved : goal.loop-wire-preserved
loop-wire-preserved c = c.loop-wire.invariant ∙ all_yes (λ w. slice_index_or c.args.set.now w false) c.args.read.now c.loop-wire.wire-index c.loop-wire-test.true c.if-not-set-wire.false

pub returns : goal.returns
returns c = sym (c.loop-wire.invariant ∙ all_end (λ w. slice_index_or c.args.set.now w false) c.args.read.now c.loop-wire.wire-index (omega arith))
