use Rattle.std.proofs.Common.{sym, ◌∙◌, ap, arith}
use Rattle.gate_lines.specs.Places.{is_inner_blank}
use Rattle.gate_lines.proofs.Places.{blank_step}
use Rattle.gate_lines.proofs.cursor.after_token.Goals as goal

pub returns-then-is_inner_blank-clause-same : goal.returns-then-is_inner_blank-clause-same
returns-then-is_inner_blank-clause-same c = λ n. c.blanks_end.ensures.same n ∙ blank_step n c.args.end c.args.bytes.now (omega arith) (sym c.is_inner_blank.ensures ∙ c.if-is_inner_blank.true)

pub returns-then-is_one_space-clause-same : goal.returns-then-is_one_space-clause-same
returns-then-is_one_space-clause-same c = λ n. blank_step n c.args.end c.args.bytes.now c.if-is_one_space.ensures.0 (ap is_inner_blank c.if-is_one_space.ensures.1)
