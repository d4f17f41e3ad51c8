use Rattle.std.proofs.Common.{◌∙◌, ap}
use Rattle.number_gates.specs.Products.{shifted}
use Rattle.number_gates.proofs.RunSteps.{runs_then, runs_along}
use Rattle.number_gates.proofs.CarrySteps.{ok_so}
use Rattle.number_gates.proofs.ProductSteps.{save_along}
use Rattle.number_gates.proofs.gates.BitGates.saved.Goals as goal

pub returns : goal.returns
returns c =
    ok_so c.save-2.result _ _ c.save-2.ensures (λ r h.
    runs_then _ (runs_along (save_along c.args.width c.deref-2.ensures.value c.deref-3.ensures.value (c.deref-4.ensures.value ∙ c.in_ok-third.ensures ∙ ap (shifted c.args.by) c.deref.ensures.value)) c.in_ok-three.ensures)
    (runs_along (save_along c.args.width c.deref-6.ensures.value c.deref-7.ensures.value (c.deref-8.ensures.value ∙ c.in_ok-fourth.ensures ∙ ap (shifted c.args.by) c.deref-5.ensures.value)) h))
