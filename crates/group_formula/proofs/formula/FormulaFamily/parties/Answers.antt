use Rattle.std.proofs.Common.{subst}
use Rattle.maximal_groups.specs.Families.{IsFamily}
use Rattle.group_formula.specs.Trees.{Meaning, is_tolerated}
use Rattle.group_formula.specs.Postfix.{tree_of}
use Rattle.group_formula.proofs.Monotonicity.{family_of}
use Rattle.group_formula.proofs.formula.FormulaFamily.parties.Goals as goal

pub returns-clause-family : goal.returns-clause-family
returns-clause-family c =
    subst (λ (f : Meaning). IsFamily f.parties (is_tolerated f)) c.self.view_is
    (family_of (record { parties = c.self.inside.parties; tree = tree_of c.self.inside.elements.items }) c.self.invariant.sound)
