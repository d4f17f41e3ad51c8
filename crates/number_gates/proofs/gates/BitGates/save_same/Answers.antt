use Rattle.std.proofs.Common.{◌∙◌, sym, ap, ap₂, ◌++◌, take}
use Rattle.number_gates.specs.declared.gates.Joint.TheVariants.{Both, Differ}
use Rattle.number_gates.specs.Steps.{done}
use Rattle.number_gates.specs.BitLists.{join_all}
use Rattle.number_gates.proofs.RunSteps.{runs_result, runs_then, runs_along}
use Rattle.number_gates.proofs.gates.BitGates.save_same.Goals as goal

pub returns : goal.returns
returns c =
    runs_then _ c.in_ok-one.ensures (runs_then _ c.in_ok-other.ensures
    (runs_then _ (runs_along (ap (λ xs. join_all Differ xs c.args.second.now) c.deref.ensures.value) c.in_ok-bits.ensures)
    (runs_then _ (runs_along (ap₂ (join_all Both) c.deref-2.ensures.value c.deref-3.ensures.value) c.in_ok-two.ensures)
    (runs_then _ (runs_along (ap (λ xs. join_all Differ xs c.args.third.now) c.deref-4.ensures.value) c.in_ok-carries.ensures)
    (runs_result _ _ _ (ap (λ xs. done (record { first = c.in_ok-bits.bits.items; second = xs }))
    (sym (c.in_ok-copied.ensures ∙ c.front.ensures ∙ ap (take c.args.width) (c.deref-6.ensures.value ∙ c.in_ok-carried.ensures ∙ ap₂ (λ xs ys. xs ++ ys) c.in_ok-vec.ensures.items c.deref-5.ensures.value)))))))))
