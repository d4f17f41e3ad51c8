use Rattle.std.proofs.Common.{sym, ◌∙◌}
use Rattle.number_compiler.proofs.ReadSteps.{is_broken, check_passes, check_refuses}
use Rattle.number_compiler.proofs.compiler.read.Goals as goal

pub read_lines-requires : goal.read_lines-requires
read_lines-requires c = check_passes c.args.text.now (is_broken c.args.text.now) _ (sym c.in-Ok.is ∙ c.check_text.ensures)

pub returns-in-Err : goal.returns-in-Err
returns-in-Err c = check_refuses c.args.text.now c.in-Err.fault (sym c.in-Err.is ∙ c.check_text.ensures)
