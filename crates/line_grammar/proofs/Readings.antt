-- What the parser gives is what stands in the line.
use Rattle.std.proofs.Common.{ℕ, List, Option, Result, Ok, Err, subst}
use Rattle.std.specs.Prelude.{MatchResult}
use Rattle.line_grammar.specs.declared.dialect.Dialect.{Dialect}
use Rattle.line_grammar.specs.declared.element.Head.{Head}
use Rattle.line_grammar.specs.declared.fault.LineFault.{LineFault}
use Rattle.line_grammar.specs.declared.fault.LineFault.TheVariants.{Syntax, TooDeep, Memory}
use Rattle.line_grammar.specs.Machine.{State}
use Rattle.line_grammar.specs.Scanned.{parse_in, read_kept, Shows}
use Rattle.line_grammar.specs.Laws.{IsRead, Refuses}
use Rattle.line_grammar.proofs.Scans.{Parsed, parsed}

pub stands : (d : Dialect) (text : List ℕ) (s : State) (r : Result (Option Head) LineFault) → Shows (read_kept s) r (parse_in d text)
    → MatchResult r (λ head. IsRead d text (read_kept s head)) (Refuses d text)
stands d text s (Ok head) e = subst (Parsed d text) e (parsed d text)
stands d text s (Err (Syntax at)) e = subst (Parsed d text) e (parsed d text)
stands d text s (Err (TooDeep at)) e = subst (Parsed d text) e (parsed d text)
stands d text s (Err Memory) e = tt
