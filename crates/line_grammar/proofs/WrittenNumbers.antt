-- The numbers that runs of digits write.
use Rattle.std.proofs.Common.{◌≡◌, ℕ, suc, ◌+◌, ◌^◌, ◌<◌, ◌≤◌, Bool, true, false, ◌&&◌, cond, nat_eq, nat_lt, List, [], ◌∷◌, length, take, drop, Some, None, refl, sym, ◌∙◌, ap, arith}
use Rattle.std.specs.List.{list_all, take_while, prefix_len}
use Rattle.std.specs.Char.{is_ascii_digit}
use Rattle.std.specs.Str.Parse.{digits_value}
use Rattle.std.proofs.lemmas.Bool.{lt-ltb, le-ltb, ltb-false}
use Rattle.text_tokens.specs.Numbers.{is_digits, number_written}
use Rattle.text_tokens.proofs.Values.{all-is_digits}
use Rattle.line_grammar.specs.Places.{number_at}

digits_step : (c : ℕ) (cs : List ℕ) (b : Bool) → is_ascii_digit c ≡ b → list_all is_ascii_digit (take_while is_ascii_digit cs) ≡ true → list_all is_ascii_digit (take (cond b (1 + prefix_len is_ascii_digit cs) 0) (c ∷ cs)) ≡ true
digits_step c cs true e rest =
    ap (λ k. list_all is_ascii_digit (take k (c ∷ cs))) (let k : 1 + prefix_len is_ascii_digit cs ≡ suc (prefix_len is_ascii_digit cs) = omega arith in k)
    ∙ ap (λ b. b && list_all is_ascii_digit (take_while is_ascii_digit cs)) e ∙ rest
digits_step c cs false e rest = refl

digits_taken : (xs : List ℕ) → list_all is_ascii_digit (take_while is_ascii_digit xs) ≡ true
digits_taken [] = refl
digits_taken (c ∷ cs) = digits_step c cs (is_ascii_digit c) refl (digits_taken cs)

written_if : (t : List ℕ) → is_digits t ≡ true → number_written t ≡ cond (nat_lt (digits_value 10 t) (2 ^ 64)) (Some (digits_value 10 t)) None
unfolding number_written
written_if t e = ap (λ b. cond (b && nat_lt (digits_value 10 t) (2 ^ 64)) (Some (digits_value 10 t)) None) e

-- where a text has a run of digits, what they write
pub run_written : (text : List ℕ) (at : ℕ) (t : List ℕ) → t ≡ take_while is_ascii_digit (drop at text) → nat_eq (length t) 0 ≡ false → number_written t ≡ cond (nat_lt (number_at text at) (2 ^ 64)) (Some (number_at text at)) None
run_written text at t is some =
    written_if t (sym (all-is_digits t some) ∙ ap (list_all is_ascii_digit) is ∙ digits_taken (drop at text))
    ∙ ap (λ s. cond (nat_lt (digits_value 10 s) (2 ^ 64)) (Some (digits_value 10 s)) None) is

no_number : (v q : ℕ) → q ≤ 2 ^ 64 → (b : Bool) → nat_lt v (2 ^ 64) ≡ b → cond b (Some v) None ≡ None → cond (nat_lt v q) (Some v) None ≡ None
no_number v q few true e n = cc
no_number v q few false e n = ap (λ b. cond b (Some v) None) (le-ltb v q (omega (arith, few, ltb-false v (2 ^ 64) e)))

same_number : (v found : ℕ) (b : Bool) → cond b (Some v) None ≡ Some found → found ≡ v
same_number v found true e = cc
same_number v found false e = cc

pub none_written : (text : List ℕ) (at q : ℕ) (t : List ℕ) → q ≤ 2 ^ 64 → t ≡ take_while is_ascii_digit (drop at text) → nat_eq (length t) 0 ≡ false → number_written t ≡ None → None ≡ cond (nat_lt (number_at text at) q) (Some (number_at text at)) None
none_written text at q t few is some e = sym (no_number (number_at text at) q few (nat_lt (number_at text at) (2 ^ 64)) refl (sym (run_written text at t is some) ∙ e))

pub number_found : (text : List ℕ) (at found : ℕ) (t : List ℕ) → t ≡ take_while is_ascii_digit (drop at text) → nat_eq (length t) 0 ≡ false → number_written t ≡ Some found → found ≡ number_at text at
number_found text at found t is some e = same_number (number_at text at) found (nat_lt (number_at text at) (2 ^ 64)) (sym (run_written text at t is some) ∙ e)

pub number_fits : (text : List ℕ) (at found q : ℕ) → found ≡ number_at text at → found < q → Some found ≡ cond (nat_lt (number_at text at) q) (Some (number_at text at)) None
number_fits text at found q e l = ap Some e ∙ sym (ap (λ b. cond b (Some (number_at text at)) None) (lt-ltb (number_at text at) q (omega (arith, e, l))))

pub number_exceeds : (text : List ℕ) (at found q : ℕ) → found ≡ number_at text at → q ≤ found → None ≡ cond (nat_lt (number_at text at) q) (Some (number_at text at)) None
number_exceeds text at found q e l = sym (ap (λ b. cond b (Some (number_at text at)) None) (le-ltb (number_at text at) q (omega (arith, e, l))))

-- a place without digits counts as 0
pub nothing_written : (text : List ℕ) (at q : ℕ) (t : List ℕ) → 0 < q → t ≡ take_while is_ascii_digit (drop at text) → length t ≡ 0 → Some 0 ≡ cond (nat_lt (number_at text at) q) (Some (number_at text at)) None
nothing_written text at q t l is none =
    number_fits text at 0 q (sym (ap (digits_value 10) (sym is ∙ empty t none))) l
  where
    empty : (t : List ℕ) → length t ≡ 0 → t ≡ []
    empty [] e = refl
    empty (c ∷ cs) e = absurd (omega arith)
