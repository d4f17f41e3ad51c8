-- The tokens that a text is cut into.
use Rattle.std.specs.Prelude.{ℕ, ◌+◌, Bool, ◌||◌, nat_eq, List, [], ◌∷◌, map, if◌then◌else◌, drop}
use Rattle.std.specs.List.{take_while, prefix_len}
use Rattle.std.specs.Char.{is_ascii_alphabetic, is_ascii_alphanumeric, is_ascii_digit}

-- a language: its blanks, the token of a word by its place and bytes, that of a number by its place, the bytes of which
-- signs are made, the token of a sign by its place and bytes, and that of a symbol, which is another byte, by its place
pub record Language (T : Type 0) : Type 0 where
  pub is_blank : ℕ → Bool
  pub word : ℕ → List ℕ → T
  pub number : ℕ → T
  pub is_sign : ℕ → Bool
  pub sign : ℕ → List ℕ → T
  pub symbol : ℕ → ℕ → T

-- a token, and the place in the text where it begins
pub record Placed (T : Type 0) : Type 0 where
  pub at : ℕ
  pub token : T

-- the tokens without their places
abbrev pub bare : {T : Type 0} → List (Placed T) → List T
bare ts = map (λ t. t.token) ts

-- letters, digits and `_`: the bytes of a word, which begins with a letter
abbrev pub is_word_byte : ℕ → Bool
is_word_byte c = is_ascii_alphanumeric c || nat_eq c 95

-- the bytes that go on with the run that a byte begins; a symbol stands alone
abbrev pub run_begun : {T : Type 0} → Language T → ℕ → ℕ → Bool
run_begun l c =
    if is_ascii_alphabetic c then is_word_byte
    else if is_ascii_digit c then is_ascii_digit
    else if l.is_sign c then l.is_sign
    else l.is_blank

-- the token at a place, where this text stands
abbrev pub token_at : {T : Type 0} → Language T → ℕ → List ℕ → T
token_at l at [] = l.number at
token_at l at (c ∷ cs) =
    if is_ascii_alphabetic c then l.word at (take_while is_word_byte (c ∷ cs))
    else if is_ascii_digit c then l.number at
    else if l.is_sign c then l.sign at (take_while l.is_sign (c ∷ cs))
    else l.symbol at c

-- how many bytes the first token of a text has that begins with no blank
abbrev pub first_length : {T : Type 0} → Language T → List ℕ → ℕ
first_length l [] = 0
first_length l (c ∷ cs) =
    if is_ascii_alphabetic c then prefix_len is_word_byte (c ∷ cs)
    else if is_ascii_digit c then prefix_len is_ascii_digit (c ∷ cs)
    else if l.is_sign c then prefix_len l.is_sign (c ∷ cs)
    else 1

-- the tokens from a place on, after bytes that go on with a run, where a run goes on as far as it can
abbrev pub tokens_from : {T : Type 0} → Language T → ℕ → (ℕ → Bool) → List ℕ → List (Placed T)
tokens_from l at goes_on [] = []
tokens_from l at goes_on (c ∷ cs) =
    if goes_on c then tokens_from l (at + 1) goes_on cs
    else if l.is_blank c then tokens_from l (at + 1) l.is_blank cs
    else record { at = at; token = token_at l at (c ∷ cs) } ∷ tokens_from l (at + 1) (run_begun l c) cs

-- the tokens that are left from a place on, which is no place inside a word, a number or a sign
abbrev pub tokens_after : {T : Type 0} → Language T → List ℕ → ℕ → List (Placed T)
tokens_after l text from = tokens_from l from l.is_blank (drop from text)

-- the tokens of a text
abbrev pub tokens : {T : Type 0} → Language T → List ℕ → List (Placed T)
tokens l text = tokens_from l 0 l.is_blank text
