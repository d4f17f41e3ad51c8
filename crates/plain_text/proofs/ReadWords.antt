-- Reading the words of a text one by one.
use Rattle.std.proofs.Common.{◌≡◌, ℕ, List, [], ◌∷◌, ◌++◌, length, Result, Ok, Err, refl, sym, ap, append_assoc}
use Rattle.text_tokens.specs.Tokens.{tokens_of}
use Rattle.plain_text.specs.Words.{before, numbers_from, numbers_or_fault}
use Rattle.plain_text.specs.declared.fault.WordsFault.{WordsFault}

-- numbers that were read, and those that follow
abbrev pub after : List ℕ → Result (List ℕ) WordsFault → Result (List ℕ) WordsFault
after numbers (Ok more) = Ok (numbers ++ more)
after numbers (Err fault) = Err fault

pub after-none : (numbers : List ℕ) (rest : Result (List ℕ) WordsFault) → numbers ≡ [] → rest ≡ after numbers rest
after-none numbers (Ok more) e = rw e refl
after-none numbers (Err fault) e = refl

pub after-one : (numbers : List ℕ) (n : ℕ) (rest : Result (List ℕ) WordsFault) → after numbers (before (Ok n) rest) ≡ after (numbers ++ n ∷ []) rest
after-one numbers n (Ok more) = ap Ok (sym (append_assoc numbers (n ∷ []) more))
after-one numbers n (Err fault) = refl

pub words_in-begin : (text numbers : List ℕ) (tokens : List (List ℕ)) → tokens ≡ tokens_of text → numbers ≡ [] → numbers_or_fault text ≡ after numbers (numbers_from (length numbers) tokens)
unfolding numbers_or_fault
words_in-begin text numbers tokens same none = rw (none, same) (after-none [] (numbers_from 0 (tokens_of text)) refl)
