use Rattle.std.proofs.Common.{◌∙◌, ap, sym}
use Rattle.group_formula.proofs.ParserStates.{closes_result}
use Rattle.group_formula.proofs.formula_parser.FormulaParser.advance.Goals as goal

pub returns-in-Close : goal.returns-in-Close
returns-in-Close c = λ s is. rw c.in-Close.is (closes_result s c.args.self.now c.close.result c.close.new.self is (sym (ap (λ s. s.mode) c.self.view_is) ∙ c.in-Have.is) c.close.ensures)
