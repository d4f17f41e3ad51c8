-- Numbers that tokens write.
use Rattle.std.proofs.Common.{◌≡◌, ℕ, ◌^◌, ◌≤◌, ◌<◌, true, false, ◌&&◌, nat_lt, nat_eq, cond, List, [], ◌∷◌, length, Some, None, Result, Ok, Err, refl, sym, ◌∙◌, ap, arith, inl, inr}
use Rattle.std.specs.Result.{OkIff, result_ok}
use Rattle.std.specs.List.{list_all}
use Rattle.std.specs.Char.{is_ascii_digit}
use Rattle.std.specs.Str.{all_ascii_digits}
use Rattle.std.specs.Str.Parse.{ParsesUnsigned, digits_value}
use Rattle.std.proofs.lemmas.Bool.{lt-ltb, ltb-true, le-ltb, cases_Bool, and_parts, and_from, and_right}
use Rattle.std.proofs.lemmas.Str.Parse.{IsNumeralModel, numerals_by_value, tells_all_ascii_digits, parse_digits}
use Rattle.text_tokens.specs.Tokens.{not_empty}
use Rattle.text_tokens.specs.Numbers.{is_digits, number_written}

pub digits : IsNumeralModel (λ ds. all_ascii_digits ds ≡ true) (digits_value 10)
digits = numerals_by_value (λ ds. all_ascii_digits ds ≡ true) tells_all_ascii_digits

pub all_digits : (token : List ℕ) → list_all is_ascii_digit token ≡ all_ascii_digits token
all_digits [] = refl
all_digits (c ∷ token) = ap (λ b. is_ascii_digit c && b) (all_digits token)

-- ---- digits

pub some_not_empty : (token : List ℕ) → 0 < length token → not_empty token ≡ true
some_not_empty [] l = absurd (omega arith)
some_not_empty (c ∷ token) l = refl

not_empty_some : (token : List ℕ) → not_empty token ≡ true → 0 < length token
not_empty_some [] e = cc
not_empty_some (c ∷ token) e = omega arith

-- a token that isn't empty is made of digits where all its bytes are digits
pub all-is_digits : (token : List ℕ) → nat_eq (length token) 0 ≡ false → list_all is_ascii_digit token ≡ is_digits token
all-is_digits [] some = cc
all-is_digits (c ∷ token) some = all_digits (c ∷ token)

-- ---- numbers

pub number_is : (token : List ℕ) (value : ℕ) → 0 < length token → list_all is_ascii_digit token ≡ true → digits_value 10 token ≡ value → value < 2 ^ 64 → number_written token ≡ Some value
unfolding number_written
number_is token value l all writes small =
    let is : is_digits token ≡ true = and_from _ _ (some_not_empty token l) (sym (all_digits token) ∙ all) in
    let fits : nat_lt (digits_value 10 token) (2 ^ 64) ≡ true = ap (λ v. nat_lt v (2 ^ 64)) writes ∙ lt-ltb value (2 ^ 64) small in
    ap (λ b. cond b (Some (digits_value 10 token)) None) (and_from _ _ is fits) ∙ ap Some writes

-- where a byte is no digit, or the token is empty, or the value is large
number_fails : (token : List ℕ) → (is_digits token && nat_lt (digits_value 10 token) (2 ^ 64)) ≡ false → number_written token ≡ None
unfolding number_written
number_fails token e = ap (λ b. cond b (Some (digits_value 10 token)) None) e

pub number_no_digits : (token : List ℕ) → is_digits token ≡ false → number_written token ≡ None
number_no_digits token e = number_fails token (ap (λ b. b && nat_lt (digits_value 10 token) (2 ^ 64)) e)

pub number_other_byte : (token : List ℕ) → list_all is_ascii_digit token ≡ false → number_written token ≡ None
number_other_byte token e = number_no_digits token (and_right (not_empty token) (all_ascii_digits token) (sym (all_digits token) ∙ e))

pub number_large : (token : List ℕ) → 2 ^ 64 ≤ digits_value 10 token → number_written token ≡ None
number_large token le = number_fails token (and_right (is_digits token) _ (le-ltb _ _ le))

-- what a parse of digits gives
pub number_parsed : {E : Type 0} (token : List ℕ) (r : Result ℕ E) → ParsesUnsigned 64 10 token r → is_digits token ≡ true → result_ok r ≡ number_written token
number_parsed token r h is = go r (parse_digits digits 64 token r h parts.1)
  where
    parts : (not_empty token ≡ true) × (all_ascii_digits token ≡ true)
    parts = and_parts (not_empty token) (all_ascii_digits token) is

    go : {E : Type 0} (r : Result ℕ E) → OkIff r ((0 < length token) × (digits_value 10 token < 2 ^ 64)) (digits_value 10 token) → result_ok r ≡ number_written token
    go (Ok n) k = ap Some k.1 ∙ sym (number_is token (digits_value 10 token) k.0.0 (all_digits token ∙ parts.1) refl k.0.1)
    go (Err e) k = elim (cases_Bool (nat_lt (digits_value 10 token) (2 ^ 64))) [
      | inl below ↦ absurd (k (not_empty_some token parts.0, ltb-true _ _ below))
      | inr past ↦ sym (number_fails token (and_right (is_digits token) _ past))
    ]
