use Rattle.std.proofs.Common.{drop, sym, subst}
use Rattle.std.specs.Str.{IsUtf8}
use Rattle.text_tokens.proofs.AsciiRuns.{word_utf8}
use Rattle.text_tokens.proofs.runs.word_at.Goals as goal

pub returns-in-Err : goal.returns-in-Err
returns-in-Err c = absurd (c.in-Err.ensures.cases.0 (subst IsUtf8 (sym c.word_bytes.ensures) (word_utf8 (drop c.args.at c.args.text.now))))
