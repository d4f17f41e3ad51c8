use Rattle.std.proofs.Common.{sym, ◌∙◌, ap, arith, length}
use Rattle.text_tokens.specs.RunTokens.{tokens_after}
use Rattle.line_grammar.specs.Tokens.{language}
use Rattle.line_grammar.specs.Scanned.{read_kept, or_end}
use Rattle.line_grammar.proofs.ParseSteps.{stuck_there, deep_there, blank_there, ended_there}
use Rattle.line_grammar.proofs.parse.scan_line.Goals as goal

pub returns-then-not-branch : goal.returns-then-not-branch
returns-then-not-branch c =
    stuck_there c.args.dialect c.args.text.now c.loop-cut.parser (tokens_after (language c.args.dialect) c.args.text.now c.loop-cut.from) c.advance.new.self (record { at = c.in-Some.cut.at; token = c.in-Some.cut.token })
    (tokens_after (language c.args.dialect) c.args.text.now c.in-Some.cut.end) c.in_ok-advance.field-0 c.loop-cut.invariant.scanned c.in-Some.ensures.found c.in_ok-advance.ensures c.if-not-branch.true

pub returns-then-signs-gt-MOST_OPEN : goal.returns-then-signs-gt-MOST_OPEN
returns-then-signs-gt-MOST_OPEN c =
    deep_there c.args.dialect c.args.text.now c.loop-cut.parser (tokens_after (language c.args.dialect) c.args.text.now c.loop-cut.from) c.advance.new.self (record { at = c.in-Some.cut.at; token = c.in-Some.cut.token })
    (tokens_after (language c.args.dialect) c.args.text.now c.in-Some.cut.end) c.in_ok-advance.field-0 c.loop-cut.invariant.scanned c.in-Some.ensures.found c.in_ok-advance.ensures c.if-not-branch.false
    (omega arith)

pub returns-then-is_empty : goal.returns-then-is_empty
returns-then-is_empty c =
    blank_there c.args.dialect c.args.text.now c.loop-cut.parser (tokens_after (language c.args.dialect) c.args.text.now c.loop-cut.from) c.loop-cut.invariant.scanned c.in_default.ensures.found (sym c.is_empty.ensures ∙ c.if-is_empty.true)

pub returns-in-Some-2 : goal.returns-in-Some-2
returns-in-Some-2 c =
    ended_there c.args.dialect c.args.text.now c.loop-cut.parser (tokens_after (language c.args.dialect) c.args.text.now c.loop-cut.from) (read_kept c.finish.new.self c.in_ok-head.field-0) c.loop-cut.invariant.scanned c.in_default.ensures.found (sym c.is_empty.ensures ∙ c.if-is_empty.false) (sym c.in_ok-head.ensures)
    ∙ ap (λ o. or_end (length c.args.text.now) (read_kept c.finish.new.self o)) c.in-Some-2.is

pub returns-in-None : goal.returns-in-None
returns-in-None c =
    ended_there c.args.dialect c.args.text.now c.loop-cut.parser (tokens_after (language c.args.dialect) c.args.text.now c.loop-cut.from) (read_kept c.finish.new.self c.in_ok-head.field-0) c.loop-cut.invariant.scanned c.in_default.ensures.found (sym c.is_empty.ensures ∙ c.if-is_empty.false) (sym c.in_ok-head.ensures)
    ∙ ap (λ o. or_end (length c.args.text.now) (read_kept c.finish.new.self o)) c.in-None.is
