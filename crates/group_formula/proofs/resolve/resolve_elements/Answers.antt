use Rattle.std.proofs.Common.{sym, ◌∙◌, arith}
use Rattle.group_formula.specs.declared.element.FormulaElement.TheVariants.{Name}
use Rattle.group_formula.specs.Formulas.{reading}
use Rattle.group_formula.proofs.ResolvedElements.{begins, next_ok, next_err, all_first, all_resolved}
use Rattle.group_formula.proofs.resolve.resolve_elements.Goals as goal
use Rattle.group_formula.proofs.resolve.resolve_elements.Goals.{in-Ok, in-Err}

pub loop-element-init : goal.loop-element-init
loop-element-init c = begins (reading c.args.text.now c.args.names.now) c.args.elements.now

pub loop-element-preserved : goal.loop-element-preserved
loop-element-preserved c = elim c.match-resolve_element.branch [
  | in-Ok w ↦ next_ok (reading c.args.text.now c.args.names.now) c.args.elements.now c.loop-element.elements c.match-resolve_element.elements c.loop-element.element-index c.loop-element.first c.match-resolve_element.first (Name 0) w.in-Ok.meant c.loop-element.invariant
      c.loop-element-test.true c.loop-element.auto.elements (sym c.resolve_element.ensures ∙ w.in-Ok.is) w.elements-is w.first-is
  | in-Err w ↦ next_err (reading c.args.text.now c.args.names.now) c.args.elements.now c.loop-element.elements c.match-resolve_element.elements c.loop-element.element-index c.loop-element.first c.match-resolve_element.first (Name 0) w.in-Err.fault w.earlier.result c.loop-element.invariant
      c.loop-element-test.true (sym c.resolve_element.ensures ∙ w.in-Err.is) w.elements-is w.earlier.ensures w.first-is
]

pub returns-clause-first : goal.returns-clause-first
returns-clause-first c = all_first (reading c.args.text.now c.args.names.now) c.args.elements.now c.loop-element.elements c.loop-element.element-index c.loop-element.first c.loop-element.invariant (omega arith)

pub returns-clause-resolved : goal.returns-clause-resolved
returns-clause-resolved c = all_resolved (reading c.args.text.now c.args.names.now) c.args.elements.now c.loop-element.elements c.loop-element.element-index c.loop-element.first c.loop-element.invariant (omega arith) c.loop-element.auto.elements
