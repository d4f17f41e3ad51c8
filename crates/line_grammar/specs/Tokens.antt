-- The tokens of a line.
use Rattle.std.specs.Prelude.{ℕ, Bool, false, ◌||◌, nat_eq, nat_le, List, length, Option, Some, None, if◌then◌else◌, codes}
use Rattle.std.specs.Option.{unwrap_or}
use Rattle.std.specs.Str.{bytes_eq}
use Rattle.text_tokens.specs.RunTokens.{Language}
use Rattle.line_grammar.specs.declared.dialect.Dialect.{Dialect}
use Rattle.line_grammar.specs.declared.dialect.Dialect.TheVariants.{Words, Numbers}
use Rattle.line_grammar.specs.declared.token.LineToken.{LineToken}
use Rattle.line_grammar.specs.declared.token.LineToken.TheVariants.{Input, Let, Output, If, Then, Else, Not, Pair, Name, Number, Equals, Infix, Open, Comma, Close, Unknown}
use Rattle.line_grammar.specs.declared.operator.Infix.TheVariants.{Or, And, Equal, Unequal, Less, AtMost, Greater, AtLeast, Add, Subtract, Multiply, Divide, Remainder}
use Rattle.line_grammar.specs.declared.operator.Pair.TheVariants.{Least, Most}
use Rattle.line_grammar.specs.declared.limits.TheConstants.{LONGEST_NAME}

-- space, tab, carriage return
abbrev pub is_blank : ℕ → Bool
is_blank c = nat_eq c 32 || (nat_eq c 9 || nat_eq c 13)

-- the bytes of which signs are made: = ! < > where there are comparisons
abbrev pub is_sign : Dialect → ℕ → Bool
is_sign Words c = false
is_sign Numbers c = nat_eq c 61 || (nat_eq c 33 || (nat_eq c 60 || nat_eq c 62))

-- the token of a run of these
abbrev pub sign : ℕ → List ℕ → LineToken
sign at run =
    if bytes_eq run (codes "=") then Equals
    else if bytes_eq run (codes "==") then Infix Equal at
    else if bytes_eq run (codes "!=") then Infix Unequal at
    else if bytes_eq run (codes "<") then Infix Less at
    else if bytes_eq run (codes "<=") then Infix AtMost at
    else if bytes_eq run (codes ">") then Infix Greater at
    else if bytes_eq run (codes ">=") then Infix AtLeast at
    else Unknown

-- the token of another byte that is no blank, no letter and no digit: = + - * / % ( , )
abbrev pub symbol : ℕ → ℕ → LineToken
symbol at c =
    if nat_eq c 61 then Equals
    else if nat_eq c 43 then Infix Add at
    else if nat_eq c 45 then Infix Subtract at
    else if nat_eq c 42 then Infix Multiply at
    else if nat_eq c 47 then Infix Divide at
    else if nat_eq c 37 then Infix Remainder at
    else if nat_eq c 40 then Open
    else if nat_eq c 44 then Comma
    else if nat_eq c 41 then Close
    else Unknown

-- the token of a run that is a word of numbers alone; no line has `signed`, which is kept for numbers with a sign
abbrev pub operator_word : ℕ → List ℕ → Option LineToken
operator_word at run =
    if bytes_eq run (codes "or") then Some (Infix Or at)
    else if bytes_eq run (codes "and") then Some (Infix And at)
    else if bytes_eq run (codes "not") then Some (Not at)
    else if bytes_eq run (codes "min") then Some (Pair Least)
    else if bytes_eq run (codes "max") then Some (Pair Most)
    else if bytes_eq run (codes "if") then Some If
    else if bytes_eq run (codes "then") then Some Then
    else if bytes_eq run (codes "else") then Some Else
    else if bytes_eq run (codes "signed") then Some Unknown
    else None

-- the token of another run: what a line begins with, or else a name where it has at most 16 bytes
abbrev pub plain_word : ℕ → List ℕ → LineToken
plain_word at run =
    if bytes_eq run (codes "input") then Input
    else if bytes_eq run (codes "let") then Let
    else if bytes_eq run (codes "output") then Output
    else if nat_le (length run) LONGEST_NAME then Name at
    else Unknown

-- the token of a run that begins with a letter
abbrev pub word_token : Dialect → ℕ → List ℕ → LineToken
word_token Words at run = plain_word at run
word_token Numbers at run = unwrap_or (operator_word at run) (plain_word at run)

-- the tokens of a language: they stand between blanks
abbrev pub language : Dialect → Language LineToken
language d =
    record {
      is_blank = is_blank;
      word = word_token d;
      number = λ at. Number at;
      is_sign = is_sign d;
      sign = sign;
      symbol = symbol;
    }
