use Rattle.group_formula.specs.Formulas.{reading}
use Rattle.group_formula.proofs.ResolvedElements.{Resolving}
use Rattle.group_formula.proofs.resolve.resolve_elements.Given as goal

abbrev pub invariant-loop-element : goal.invariant-loop-element
invariant-loop-element l = Resolving (reading l.text l.names) l.fn.elements l.elements l.element-index l.first
