use Rattle.std.proofs.Common.{◌∙◌, sym}
use Rattle.std.proofs.lemmas.Bool.{eqb-true}
use Rattle.gate_lines.proofs.TextLines.{rows-none}
use Rattle.gate_lines.proofs.lines.first_line.Goals as goal

pub returns-clause-rows : goal.returns-clause-rows
returns-clause-rows c = c.loop-rest.invariant.1 ∙ rows-none c.loop-rest.number c.loop-rest.rest.now (eqb-true _ _ (sym c.is_empty.ensures ∙ c.loop-rest-test.false))
