-- Runs are of ASCII.
use Rattle.std.proofs.Common.{◌≡◌, ℕ, suc, ◌+◌, ◌<◌, take, Bool, true, false, cond, List, [], ◌∷◌, refl, subst, arith}
use Rattle.std.specs.List.{AllByRecursion, take_while, prefix_len}
use Rattle.std.specs.Str.{IsUtf8}
use Rattle.std.specs.Char.{is_ascii_digit}
use Rattle.std.proofs.lemmas.Bool.Decides.{nat_tests}
use Rattle.std.proofs.lemmas.List.Elements.{All-from_recursion}
use Rattle.std.proofs.lemmas.Str.{IsUtf8-from_ascii}
use Rattle.std.proofs.lemmas.Str.Ascii.{IsAscii-from_all}
use Rattle.text_tokens.specs.RunTokens.{is_word_byte}

word_ascii : (c : ℕ) → is_word_byte c ≡ true → c < 128
word_ascii c e = grind (arith, nat_tests)

digit_ascii : (c : ℕ) → is_ascii_digit c ≡ true → c < 128
digit_ascii c e = grind (arith, nat_tests)

taken_step : (r : ℕ → Bool) → ((c : ℕ) → r c ≡ true → c < 128) → (c : ℕ) (cs : List ℕ) (b : Bool) → r c ≡ b → AllByRecursion (λ x. x < 128) (take_while r cs) → AllByRecursion (λ x. x < 128) (take (cond b (1 + prefix_len r cs) 0) (c ∷ cs))
taken_step r low c cs true e rest =
    subst (λ k. AllByRecursion (λ x. x < 128) (take k (c ∷ cs))) (let k : suc (prefix_len r cs) ≡ 1 + prefix_len r cs = omega arith in k) (low c e, rest)
taken_step r low c cs false e rest = tt

taken_ascii : (r : ℕ → Bool) → ((c : ℕ) → r c ≡ true → c < 128) → (xs : List ℕ) → AllByRecursion (λ c. c < 128) (take_while r xs)
taken_ascii r low [] = tt
taken_ascii r low (c ∷ cs) = taken_step r low c cs (r c) refl (taken_ascii r low cs)

run_utf8 : (r : ℕ → Bool) → ((c : ℕ) → r c ≡ true → c < 128) → (xs : List ℕ) → IsUtf8 (take_while r xs)
run_utf8 r low xs = IsUtf8-from_ascii (take_while r xs) (IsAscii-from_all (take_while r xs) (All-from_recursion (λ c. c < 128) (take_while r xs) (taken_ascii r low xs)))

pub word_utf8 : (xs : List ℕ) → IsUtf8 (take_while is_word_byte xs)
word_utf8 xs = run_utf8 is_word_byte word_ascii xs

pub number_utf8 : (xs : List ℕ) → IsUtf8 (take_while is_ascii_digit xs)
number_utf8 xs = run_utf8 is_ascii_digit digit_ascii xs
