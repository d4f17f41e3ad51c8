use Rattle.line_grammar.proofs.CutLines.{NoEnd}
use Rattle.line_grammar.proofs.lines.cut_line.Given as goal

abbrev pub invariant-loop-at : goal.invariant-loop-at
invariant-loop-at l = NoEnd l.text l.at
