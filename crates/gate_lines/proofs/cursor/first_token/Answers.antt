use Rattle.std.proofs.Common.{◌∙◌, arith}
use Rattle.gate_lines.proofs.Places.{line_step}
use Rattle.gate_lines.proofs.cursor.first_token.Goals as goal

pub loop-at-preserved : goal.loop-at-preserved
loop-at-preserved c = record {
  stands = c.blanks_end-at-in-loop-at.ensures.stands;
  room = omega arith;
  rows = line_step c.loop-at.number c.loop-at.at c.blanks_end-at-in-loop-at.result c.args.bytes.now c.loop-at-test.true c.if-bytes-at-eq10.true c.blanks_end-at-in-loop-at.ensures.same ∙ c.loop-at.invariant.rows;
}
