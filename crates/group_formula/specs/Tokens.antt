-- The tokens of formulas.
use Rattle.std.specs.Prelude.{ℕ, Bool, true, false, nat_eq, List, if◌then◌else◌, codes}
use Rattle.std.specs.Str.{bytes_eq}
use Rattle.text_tokens.specs.Tokens.{is_blank}
use Rattle.text_tokens.specs.RunTokens.{Language}
use Rattle.group_formula.specs.declared.token.FormulaToken.{FormulaToken}
use Rattle.group_formula.specs.declared.token.FormulaToken.TheVariants.{Name, Number, Of, Bar, Ampersand, Open, Close, Comma, Unknown}

-- the token of a byte that is no blank, no letter and no digit: | & ( ) ,
abbrev pub symbol : ℕ → FormulaToken
symbol c =
    if nat_eq c 124 then Bar
    else if nat_eq c 38 then Ampersand
    else if nat_eq c 40 then Open
    else if nat_eq c 41 then Close
    else if nat_eq c 44 then Comma
    else Unknown

-- the token of the letters, digits and `_` that stand at a place: `of` is no name
abbrev pub word_token : ℕ → List ℕ → FormulaToken
word_token at run = if bytes_eq run (codes "of") then Of else Name at

-- the language of formulas: names, numbers, `of` and | & ( ) , between blanks
abbrev pub formula_language : Language FormulaToken
formula_language =
    record {
      is_blank = is_blank;
      word = word_token;
      number = λ at. Number at;
      is_sign = λ c. false;
      sign = λ at run. Unknown;
      symbol = λ at. symbol;
    }

-- a name, `&`, `|` and `of` are one element each
abbrev pub is_element : FormulaToken → Bool
is_element (Name at) = true
is_element Of = true
is_element Bar = true
is_element Ampersand = true
is_element _ = false
