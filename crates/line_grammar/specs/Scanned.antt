-- What the parser answers, token by token.
use Rattle.std.specs.Prelude.{◌≡◌, ℕ, nat_lt, Bool, true, false, List, [], ◌∷◌, length, Option, Some, None, Result, Ok, Err, if◌then◌else◌}
use Rattle.text_tokens.specs.RunTokens.{Placed, tokens}
use Rattle.list_laws.specs.Answers.{◌>>=◌}
use Rattle.line_grammar.specs.declared.token.LineToken.{LineToken}
use Rattle.line_grammar.specs.declared.dialect.Dialect.{Dialect}
use Rattle.line_grammar.specs.declared.element.Head.{Head}
use Rattle.line_grammar.specs.declared.mode.LineMode.{LineMode}
use Rattle.line_grammar.specs.declared.mode.LineMode.TheVariants as modes
use Rattle.line_grammar.specs.declared.fault.LineFault.{LineFault}
use Rattle.line_grammar.specs.declared.fault.LineFault.TheVariants.{Syntax, TooDeep, Memory}
use Rattle.line_grammar.specs.declared.limits.TheConstants.{MOST_OPEN}
use Rattle.line_grammar.specs.Tokens.{language}
use Rattle.line_grammar.specs.Machine.{State, start, step, Read, read, finish}

-- the state, or the fault of the token at this place
abbrev pub stepped : ℕ → Option State → Result State LineFault
stepped at None = Err (Syntax at)
stepped at (Some s) = if nat_lt MOST_OPEN s.signs then Err (TooDeep at) else Ok s

-- the state after tokens, or the first fault
abbrev pub scan : Dialect → State → List (Placed LineToken) → Result State LineFault
scan d s [] = Ok s
scan d s (t ∷ ts) = stepped t.at (step d s t.token) >>= (λ next. scan d next ts)

-- the line, if there is one, or else the fault at its end
abbrev pub or_end : ℕ → Option Read → Result (Option Read) LineFault
or_end at None = Err (Syntax at)
or_end at (Some found) = Ok (Some found)

abbrev pub is_first : LineMode → Bool
is_first modes.First = true
is_first _ = false

abbrev pub line_end : ℕ → State → Result (Option Read) LineFault
line_end at s = if is_first s.mode then Ok None else or_end at (finish s)

-- a line, none where it has no tokens, or the first fault of its tokens
unfoldable pub parse_in : Dialect → List ℕ → Result (Option Read) LineFault
parse_in d text = scan d start (tokens (language d) text) >>= line_end (length text)

-- the parser went on to the next state, or tells that there is none
abbrev pub Advances : Option State → Bool → State → Type 0
Advances None goes_on new = goes_on ≡ false
Advances (Some next) goes_on new = (goes_on ≡ true) × (new ≡ next)

-- a line as it is kept: what it begins with, and what the parser has
abbrev pub read_kept : State → Option Head → Option Read
read_kept s None = None
read_kept s (Some head) = Some (read head s.out)

-- the fault that is wanted, unless memory ran out
abbrev pub Fails : {B : Type 0} → LineFault → Result B LineFault → Type 0
Fails Memory wanted = Unit {0}
Fails fault wanted = wanted ≡ Err fault

-- the answer that is wanted, as it is seen, unless memory ran out
abbrev pub Shows : {A B : Type 0} → (A → B) → Result A LineFault → Result B LineFault → Type 0
Shows view (Ok a) wanted = wanted ≡ Ok (view a)
Shows view (Err fault) wanted = Fails fault wanted
