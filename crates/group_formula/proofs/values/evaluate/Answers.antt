use Rattle.std.proofs.Common.{◌+◌, arith, sym, ◌∙◌, ap, [], drop, get_or}
use Rattle.party_set.specs.Parties.{has_party}
use Rattle.group_formula.specs.Values.{top, after_value}
use Rattle.group_formula.specs.declared.element.FormulaElement.TheVariants.{Name}
use Rattle.group_formula.proofs.ElementValues.{after_values, element_step, element_end, after_tree}
use Rattle.group_formula.proofs.values.evaluate.Goals as goal

pub loop-element-preserved : goal.loop-element-preserved
loop-element-preserved c = record {
  value = ap (after_values (has_party c.args.group.mask) (drop (c.loop-element.element-index + 1) c.args.elements.now)) (c.take_element.ensures.is ∙ ap (λ m. after_value (has_party m) (get_or c.args.elements.now c.loop-element.element-index (Name 0)) c.loop-element.values) c.mask.ensures.is)
      ∙ sym (element_step (has_party c.args.group.mask) c.args.elements.now c.loop-element.element-index (Name 0) c.loop-element.values c.loop-element-test.true) ∙ c.loop-element.invariant.value;
  room = omega (arith, c.take_element.ensures.long, c.loop-element.invariant.room);
}

pub returns : goal.returns
returns c =
    λ t e. c.pop.ensures.is
    ∙ ap top (sym (element_end (has_party c.args.group.mask) c.args.elements.now c.loop-element.element-index c.loop-element.values (omega arith)) ∙ c.loop-element.invariant.value
    ∙ ap (λ ns. after_values (has_party c.args.group.mask) ns []) e ∙ after_tree (has_party c.args.group.mask) t [])
