use Rattle.std.proofs.Common.{◌≡◌, ◌≤◌, ◌-◌, length}
use Rattle.text_tokens.specs.RunTokens.{tokens, tokens_after}
use Rattle.line_grammar.specs.Tokens.{language}
use Rattle.line_grammar.specs.declared.limits.TheConstants.{MOST_OPEN}
use Rattle.line_grammar.specs.Machine.{start}
use Rattle.line_grammar.specs.Scanned.{scan}
use Rattle.line_grammar.proofs.parse.scan_line.Given as goal

abbrev pub invariant-loop-cut : goal.invariant-loop-cut
invariant-loop-cut l = record {
  within : l.from ≤ length l.text;
  shallow : l.parser.signs ≤ MOST_OPEN;
  scanned : scan l.fn.dialect start (tokens (language l.fn.dialect) l.text) ≡ scan l.fn.dialect l.parser (tokens_after (language l.fn.dialect) l.text l.from);
}

abbrev pub decreases-loop-cut : goal.decreases-loop-cut
decreases-loop-cut l = length l.text - l.from
