use Rattle.std.proofs.Common.{List, ℕ, ◌-◌, take, drop, length, sym, subst}
use Rattle.std.specs.Str.{IsUtf8}
use Rattle.text_tokens.proofs.AsciiRuns.{number_utf8}
use Rattle.text_tokens.proofs.runs.number_at.Goals as goal

pub returns-in-Err : goal.returns-in-Err
returns-in-Err c =
    let rest : List ℕ = take (length c.args.text.now - c.min.result) (drop c.min.result c.args.text.now) in
    absurd (c.in-Err.ensures.cases.0 (subst (λ (k : ℕ). IsUtf8 (take k rest)) (sym c.number_length.ensures.is) (number_utf8 rest)))
