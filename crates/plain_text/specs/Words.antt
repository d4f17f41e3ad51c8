-- Words of a text: the number that each token writes, and the first fault.
use Rattle.std.specs.Prelude.{ℕ, ◌+◌, List, [], ◌∷◌, Result, Ok, Err, ok_or, if◌then◌else◌}
use Rattle.text_tokens.specs.Tokens.{tokens_of}
use Rattle.text_tokens.specs.Numbers.{is_digits, number_written}
use Rattle.plain_text.specs.declared.fault.WordsFault.{WordsFault}
use Rattle.plain_text.specs.declared.fault.WordsFault.TheVariants.{NotNumber, TooLarge}

-- why the word at a place writes no number below 2^64
abbrev pub fault_at : ℕ → List ℕ → WordsFault
fault_at at word = if is_digits word then TooLarge at else NotNumber at

-- the number that the word at a place writes, or its fault
unfoldable pub number_or_fault : ℕ → List ℕ → Result ℕ WordsFault
number_or_fault at word = ok_or (number_written word) (fault_at at word)

-- a number before others, or the first fault
abbrev pub before : Result ℕ WordsFault → Result (List ℕ) WordsFault → Result (List ℕ) WordsFault
before (Err fault) others = Err fault
before (Ok number) (Err fault) = Err fault
before (Ok number) (Ok numbers) = Ok (number ∷ numbers)

-- the numbers that words write, the first of which stands at this place, or the first fault
abbrev pub numbers_from : ℕ → List (List ℕ) → Result (List ℕ) WordsFault
numbers_from at [] = Ok []
numbers_from at (word ∷ words) = before (number_or_fault at word) (numbers_from (at + 1) words)

-- the numbers of a text, or the fault of its first bad word
unfoldable pub numbers_or_fault : List ℕ → Result (List ℕ) WordsFault
numbers_or_fault text = numbers_from 0 (tokens_of text)
