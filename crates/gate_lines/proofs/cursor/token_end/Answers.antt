use Rattle.std.proofs.Common.{not, sym, ◌∙◌, ap, arith}
use Rattle.gate_lines.proofs.Places.{in_token, take_whole}
use Rattle.gate_lines.proofs.cursor.token_end.Goals as goal

pub loop-at-preserved : goal.loop-at-preserved
loop-at-preserved c = record {
  within = (omega arith, omega arith);
  whole = take_whole in_token c.args.bytes.now c.args.at c.loop-at.at c.loop-at.invariant.within.0 c.loop-at-test.true c.loop-at.invariant.whole (ap not (sym c.is_blank.ensures ∙ c.if-not-is_blank.true));
}
