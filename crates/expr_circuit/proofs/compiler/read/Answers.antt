use Rattle.std.proofs.Common.{sym, ◌∙◌}
use Rattle.std.specs.Str.Lossy.{utf8_valid_len}
use Rattle.expr_circuit.specs.declared.fault.ExprFault.TheVariants.{NotUtf8}
use Rattle.expr_circuit.proofs.CompileSteps.{is_broken, check_passes, check_fails, read_answer, answer_refuses}
use Rattle.expr_circuit.proofs.compiler.read.Goals as goal

pub read_lines-requires : goal.read_lines-requires
read_lines-requires c = check_passes (is_broken c.args.bytes.now) (NotUtf8 (utf8_valid_len c.args.bytes.now)) c.check_text.result c.check_text.ensures c.in-Ok.is

pub returns-in-Ok-clause-stands : goal.returns-in-Ok-clause-stands
returns-in-Ok-clause-stands c = read_answer c.args.ring c.args.bytes.now c.read_lines.result c.read_lines.ensures

pub returns-in-Err-clause-gives : goal.returns-in-Err-clause-gives
returns-in-Err-clause-gives c = check_fails c.args.ring c.args.bytes.now c.in-Err.fault (sym c.in-Err.is ∙ c.check_text.ensures)

pub returns-in-Err-clause-stands : goal.returns-in-Err-clause-stands
returns-in-Err-clause-stands c = answer_refuses c.args.ring c.args.bytes.now c.in-Err.fault (check_fails c.args.ring c.args.bytes.now c.in-Err.fault (sym c.in-Err.is ∙ c.check_text.ensures))
