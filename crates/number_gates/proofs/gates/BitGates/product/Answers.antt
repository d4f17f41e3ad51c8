use Rattle.std.proofs.Common.{ℕ, ◌≡◌, ◌∙◌, sym, ap, ap₂, ◌+◌, length, take}
use Rattle.number_gates.specs.BitLists.{widened}
use Rattle.number_gates.specs.Numbers.{sum_same}
use Rattle.number_gates.specs.Steps.{done}
use Rattle.number_gates.proofs.RunSteps.{runs_result, runs_then, runs_along}
use Rattle.number_gates.proofs.CarrySteps.{ok_so}
use Rattle.number_gates.proofs.gates.BitGates.product.Goals as goal

pub returns : goal.returns
returns c =
    let width : ℕ = length c.args.a.now + length c.args.b.now in
    let is : c.in_ok-width.width ≡ width = c.in_ok-width.ensures in
    ok_so c.copied.result _ _ c.copied.ensures (λ r h.
    runs_then _ c.in_ok-pair.ensures
    (runs_then _ (runs_along (ap₂ sum_same (c.deref-3.ensures.value ∙ c.in_ok-first.ensures ∙ ap₂ widened is c.deref.ensures.value)
    (c.deref-4.ensures.value ∙ c.in_ok-second.ensures ∙ ap₂ widened is c.deref-2.ensures.value)) c.in_ok-sum.ensures)
    (runs_result _ _ _ (ap done (sym (h ∙ c.front.ensures ∙ ap₂ take is c.deref-5.ensures.value))))))
