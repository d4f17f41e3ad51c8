use Rattle.number_gates.proofs.CarrySteps.{ok_so}
use Rattle.number_compiler.specs.Seen.{seen}
use Rattle.number_compiler.proofs.OperatorSteps.{operator_runs}
use Rattle.number_compiler.proofs.operators.operator.Goals as goal

pub returns : goal.returns
returns c =
    ok_so c.fitted.result _ _ c.fitted.ensures (λ v k.
    operator_runs c.args.operator c.args.most (seen c.args.a.now) (seen c.args.b.now) (seen v) _ _ _ _ _ _ c.deref.ensures.value c.deref-2.ensures.value c.in_ok-bits.ensures k c.deref-3.ensures.value)
