use Rattle.std.proofs.Common.{arith, ap, inl, length}
use Rattle.gate_lines.proofs.TextLines.{few_tokens}
use Rattle.gate_lines.proofs.lines.Line.count.Goals as goal

pub count-requires-clause-fits : goal.count-requires-clause-fits
count-requires-clause-fits c = inl (omega (arith, few_tokens c.self.inside.text.now, ap length c.of.ensures))
