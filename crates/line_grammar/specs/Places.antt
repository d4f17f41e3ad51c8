-- What stands at a place of a line.
use Rattle.std.specs.Prelude.{ℕ, List, drop}
use Rattle.std.specs.List.{take_while}
use Rattle.std.specs.Char.{is_ascii_digit}
use Rattle.std.specs.Str.Parse.{digits_value}
use Rattle.text_tokens.specs.RunTokens.{is_word_byte}

-- the name at a place of a line
abbrev pub name_at : List ℕ → ℕ → List ℕ
name_at line at = take_while is_word_byte (drop at line)

-- the number at a place of a line
abbrev pub number_at : List ℕ → ℕ → ℕ
number_at line at = digits_value 10 (take_while is_ascii_digit (drop at line))
