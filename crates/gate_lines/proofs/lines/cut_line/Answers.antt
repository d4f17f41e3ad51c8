use Rattle.std.proofs.Common.{Some, None, arith}
use Rattle.std.proofs.lemmas.Str.Pattern.{split_once_first}
use Rattle.gate_lines.proofs.TextLines.{rows-cut, rows-last}
use Rattle.gate_lines.proofs.lines.cut_line.Goals as goal

pub returns-in-Some-clause-rows : goal.returns-in-Some-clause-rows
returns-in-Some-clause-rows c = λ n.
    let parts = split_once_first 10 c.args.text.now (Some (c.in-Some.line, c.in-Some.rest)) c.in-Some.ensures.cases (omega arith) in
    rows-cut n c.args.text.now c.in-Some.line.now c.in-Some.rest.now parts.0 parts.1 parts.2

pub returns-in-None-clause-rows : goal.returns-in-None-clause-rows
returns-in-None-clause-rows c = λ n. rows-last n c.args.text.now (split_once_first 10 c.args.text.now None c.in-None.ensures.cases (omega arith))
