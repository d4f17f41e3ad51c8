use Rattle.std.proofs.Common.{sym, ◌∙◌, arith}
use Rattle.gate_lines.proofs.Places.{blank_step}
use Rattle.gate_lines.proofs.cursor.blanks_end.Goals as goal

pub loop-at-preserved : goal.loop-at-preserved
loop-at-preserved c = record {
  within = (omega arith, omega arith);
  same = λ n. blank_step n c.loop-at.at c.args.bytes.now c.loop-at-test.true (sym c.is_inner_blank.ensures ∙ c.if-is_inner_blank.true) ∙ c.loop-at.invariant.same n;
}
