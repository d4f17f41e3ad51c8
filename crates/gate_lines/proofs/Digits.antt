-- A number that is read digit by digit.
use Rattle.std.proofs.Common.{Option, ◌≡◌, ℕ, ◌+◌, ◌-◌, ◌*◌, ◌≤◌, ◌<◌, ◌^◌, true, false, not, ◌&&◌, List, [], ◌∷◌, ◌++◌, length, take, drop, get_or, Some, None, refl, sym, ◌∙◌, ap, ap₂, subst, arith, append_assoc, length-append, length-drop, inl, inr, tests}
use Rattle.std.specs.Char.{is_ascii_digit, digit_value}
use Rattle.std.specs.List.{list_all}
use Rattle.std.specs.Str.Parse.{digits_value}
use Rattle.std.proofs.lemmas.Bool.{cases_lt, cases_Bool, and_parts}
use Rattle.std.proofs.lemmas.Bool.Decides.{nat_tests}
use Rattle.std.proofs.lemmas.Int.Digits.{digits_value_push, digits_value_more}
use Rattle.std.proofs.lemmas.List.Folds.{list_all-append}
use Rattle.std.proofs.lemmas.Str.Parse.{digits_value-take-le, digits_value_short}
use Rattle.std.proofs.Math.Seq.{take-append_seam}
use Rattle.std.proofs.lemmas.List.{drop_more, get_or-drop, length-take-le}
use Rattle.text_tokens.specs.Tokens.{is_blank}
use Rattle.text_tokens.specs.Numbers.{number_written}
use Rattle.text_tokens.proofs.Values.{digits, all_digits, number_is, number_large, number_other_byte}
use Rattle.gate_lines.specs.Places.{Place, place_in, next_token, past_token, is_inner_blank, StandsAt, Passes}
use Rattle.gate_lines.proofs.Places.{in_token, place-token, Begins, begins, between, line_over}

-- the text begins with digits of this value, and goes on with the rest
pub record Digits (text rest : List ℕ) (value : ℕ) : Type 0 where
  pub digits : List ℕ
  pub cut : text ≡ digits ++ rest
  pub all : list_all is_ascii_digit digits ≡ true
  pub writes : digits_value 10 digits ≡ value

pub no_digits : (text : List ℕ) → Digits text text 0
no_digits text = record { digits = []; cut = refl; all = refl; writes = refl }

digit_writes : (c : ℕ) → is_ascii_digit c ≡ true → digit_value c ≡ c - 48
digit_writes c e = grind (arith, nat_tests, tests)

pub one_more : (text rest : List ℕ) (c value : ℕ) → Digits text (c ∷ rest) value → is_ascii_digit c ≡ true → Digits text rest (value * 10 + (c - 48))
one_more text rest c value d e = record {
  digits = d.digits ++ (c ∷ []);
  cut = d.cut ∙ sym (append_assoc d.digits (c ∷ []) rest);
  all = list_all-append is_ascii_digit d.digits (c ∷ []) ∙ ap₂ (λ a b. a && (b && true)) d.all e;
  writes = digits_value_push 10 d.digits c ∙ ap₂ (λ v k. v * 10 + k) d.writes (digit_writes c e);
}

-- ---- what the next token then writes

digit_in_token : (c : ℕ) → is_ascii_digit c ≡ true → in_token c ≡ true
digit_in_token c e = grind (arith, nat_tests, tests)

digits_in_token : (ds : List ℕ) → list_all is_ascii_digit ds ≡ true → list_all in_token ds ≡ true
digits_in_token [] e = refl
digits_in_token (c ∷ ds) e = let k = and_parts (is_ascii_digit c) (list_all is_ascii_digit ds) e in ap₂ (λ a b. a && b) (digit_in_token c k.0) (digits_in_token ds k.1)

pub number_place : (n : ℕ) (text rest : List ℕ) (value : ℕ) → (d : Digits text rest value) → 0 < length d.digits → (0 < length rest → is_blank (get_or rest 0 0) ≡ true)
    → place_in n text ≡ record (place_in n rest) { tokens = d.digits ∷ (place_in n rest).tokens }
number_place n text rest value d l ends = ap (place_in n) d.cut ∙ place-token n d.digits rest l (digits_in_token d.digits d.all) ends

pub number_read : (n : ℕ) (text rest : List ℕ) (value : ℕ) → (d : Digits text rest value) → 0 < length d.digits → (0 < length rest → is_blank (get_or rest 0 0) ≡ true) → value < 2 ^ 64
    → Some value ≡ number_written (next_token (place_in n text))
number_read n text rest value d l ends small = sym (ap (λ (p : Place). number_written (next_token p)) (number_place n text rest value d l ends) ∙ number_is d.digits value l d.all d.writes small)

pub number_past : (n : ℕ) (text rest : List ℕ) (value : ℕ) → (d : Digits text rest value) → 0 < length d.digits → (0 < length rest → is_blank (get_or rest 0 0) ≡ true) → place_in n rest ≡ past_token (place_in n text)
number_past n text rest value d l ends = sym (ap past_token (number_place n text rest value d l ends))

-- ---- tokens that write no number

pub no_token : (p : Place) → p.tokens ≡ [] → None ≡ number_written (next_token p)
unfolding number_written
no_token p e = sym (rw e refl)

token_so : (n : ℕ) (ds text : List ℕ) (b : Begins n ds text) → number_written (ds ++ b.more) ≡ None → None ≡ number_written (next_token (place_in n (ds ++ text)))
token_so n ds text b e = sym (ap (λ (p : Place). number_written (next_token p)) b.is ∙ e)

-- a token with too many digits
pub no_number_over : (n : ℕ) (text rest : List ℕ) (c value : ℕ) → Digits text (c ∷ rest) value → is_ascii_digit c ≡ true → (value * 10 + (c - 48) < 2 ^ 64 → ⊥) → None ≡ number_written (next_token (place_in n text))
unfolding one_more
no_number_over n text rest c value d e over =
    let more : Digits text rest (value * 10 + (c - 48)) = one_more text rest c value d e in
    let long : length more.digits ≡ length d.digits + 1 = length-append d.digits (c ∷ []) in
    let b : Begins n more.digits rest = begins n more.digits rest (omega (arith, long)) (digits_in_token more.digits more.all) in
    let le : digits_value 10 more.digits ≤ digits_value 10 (more.digits ++ b.more) =
    subst (λ ds. digits_value 10 ds ≤ digits_value 10 (more.digits ++ b.more)) (take-append_seam more.digits b.more) (digits_value-take-le 10 (more.digits ++ b.more) (length more.digits) (omega arith)) in
    token_so n more.digits rest b (number_large (more.digits ++ b.more) (omega (arith, le, more.writes, over))) ∙ ap (λ t. number_written (next_token (place_in n t))) (sym more.cut)

-- a token with another byte than a digit
pub no_number_in : (n : ℕ) (text rest : List ℕ) (c value : ℕ) → Digits text (c ∷ rest) value → is_ascii_digit c ≡ false → is_blank c ≡ false → None ≡ number_written (next_token (place_in n text))
no_number_in n text rest c value d e on =
    let ds : List ℕ = d.digits ++ (c ∷ []) in
    let whole : list_all in_token (d.digits ++ (c ∷ [])) ≡ true = list_all-append in_token d.digits (c ∷ []) ∙ ap₂ (λ a b. a && (not b && true)) (digits_in_token d.digits d.all) on in
    let b : Begins n (d.digits ++ (c ∷ [])) rest = begins n (d.digits ++ (c ∷ [])) rest (omega (arith, length-append d.digits (c ∷ []))) whole in
    let bad : list_all is_ascii_digit ((d.digits ++ (c ∷ [])) ++ b.more) ≡ false =
    list_all-append is_ascii_digit (d.digits ++ (c ∷ [])) b.more ∙ ap (λ x. x && list_all is_ascii_digit b.more) (list_all-append is_ascii_digit d.digits (c ∷ []) ∙ ap₂ (λ x y. x && (y && true)) d.all e) in
    token_so n (d.digits ++ (c ∷ [])) rest b (number_other_byte ((d.digits ++ (c ∷ [])) ++ b.more) bad) ∙ ap (λ t. number_written (next_token (place_in n t))) (append_assoc d.digits (c ∷ []) rest ∙ sym d.cut)

-- ---- a number at a place in a text

pub at_byte : (text bs : List ℕ) (at value : ℕ) → at < length bs → Digits text (drop at bs) value → Digits text (get_or bs at 0 ∷ drop (at + 1) bs) value
at_byte text bs at value l d = subst (λ rest. Digits text rest value) (drop_more bs at 0 l) d

pub some_digits : (bs : List ℕ) (start at value : ℕ) → (d : Digits (drop start bs) (drop at bs) value) → start ≤ at → at ≤ length bs → (at ≡ start → ⊥) → 0 < length d.digits
some_digits bs start at value d le within ne = omega (arith, ap length d.cut, length-append d.digits (drop at bs), length-drop start bs, length-drop at bs)

pub end_follows : (bs : List ℕ) (at : ℕ) → (at < length bs → is_blank (get_or bs at 0) ≡ true) → 0 < length (drop at bs) → is_blank (get_or (drop at bs) 0 0) ≡ true
end_follows bs at e l =
    let zero_more : at + 0 ≡ at = omega arith in
    ap is_blank (get_or-drop at bs 0 0 ∙ ap (λ i. get_or bs i 0) zero_more) ∙ e (omega (arith, l, length-drop at bs))

pub none_at_byte : (bs : List ℕ) (start at value : ℕ) → Digits (drop start bs) (drop at bs) value → at < length bs → is_ascii_digit (get_or bs at 0) ≡ false → is_blank (get_or bs at 0) ≡ false
    → None ≡ number_written (next_token (place_in 0 (drop start bs)))
none_at_byte bs start at value d l e on = no_number_in 0 (drop start bs) (drop (at + 1) bs) (get_or bs at 0) value (at_byte (drop start bs) bs at value l d) e on

pub none_at_start : (bs : List ℕ) (start : ℕ) → start ≤ length bs → (start < length bs → is_inner_blank (get_or bs start 0) ≡ false) → (start < length bs → is_ascii_digit (get_or bs start 0) ≡ false)
    → None ≡ number_written (next_token (place_in 0 (drop start bs)))
none_at_start bs start within run stop = elim (cases_lt start (length bs)) [
  | inl l ↦ elim (cases_Bool (is_blank (get_or bs start 0))) [
    | inl ends ↦ no_token (place_in 0 (drop start bs)) (line_over 0 start bs within run (λ k. ends))
    | inr on ↦ none_at_byte bs start start 0 (no_digits (drop start bs)) l (stop l) on
  ]
  | inr past ↦ no_token (place_in 0 (drop start bs)) (line_over 0 start bs within run (λ k. absurd (omega (arith, k, past))))
]

-- at most eighteen digits leave room for one more
pub room_for_digit : (ds : List ℕ) → list_all is_ascii_digit ds ≡ true → length ds ≤ 18 → digits_value 10 ds < 10 ^ 18
room_for_digit ds all few = digits_value_short digits ds 18 (sym (all_digits ds) ∙ all) few

pub digits_more : (bs : List ℕ) (start at : ℕ) → start ≤ at → at < length bs → is_ascii_digit (get_or bs at 0) ≡ true
    → digits_value 10 (take (at + 1 - start) (drop start bs)) ≡ digits_value 10 (take (at - start) (drop start bs)) * 10 + (get_or bs at 0 - 48)
digits_more bs start at le l e =
    let k : at + 1 - start ≡ at - start + 1 = omega arith in
    let j : start + (at - start) ≡ at = omega arith in
    let here : get_or (drop start bs) (at - start) 0 ≡ get_or bs at 0 = get_or-drop start bs (at - start) 0 ∙ ap (λ i. get_or bs i 0) j in
    ap (λ i. digits_value 10 (take i (drop start bs))) k
    ∙ digits_value_more 10 (drop start bs) (at - start) (omega (arith, length-drop start bs))
    ∙ ap (λ c. digits_value 10 (take (at - start) (drop start bs)) * 10 + digit_value c) here
    ∙ ap (λ d. digits_value 10 (take (at - start) (drop start bs)) * 10 + d) (digit_writes (get_or bs at 0) e)

pub digits_between : (bs : List ℕ) (start end value : ℕ) → start ≤ end → list_all is_ascii_digit (take (end - start) (drop start bs)) ≡ true → value ≡ digits_value 10 (take (end - start) (drop start bs)) → Digits (drop start bs) (drop end bs) value
digits_between bs start end value le all e = record { digits = take (end - start) (drop start bs); cut = between bs start end le; all = all; writes = sym e }

-- a number whose digits end at a place, where a token can end
pub number_found : (bs : List ℕ) (start end value : ℕ) → Digits (drop start bs) (drop end bs) value → start < end → end ≤ length bs → (end < length bs → is_blank (get_or bs end 0) ≡ true) → value < 2 ^ 64
    → Some value ≡ number_written (next_token (place_in 0 (drop start bs)))
number_found bs start end value d l within ends small =
    number_read 0 (drop start bs) (drop end bs) value d (some_digits bs start end value d (omega arith) within (omega arith)) (end_follows bs end ends) small

pub number_passes : (bs : List ℕ) (start end next value : ℕ) → Digits (drop start bs) (drop end bs) value → start < end → end ≤ length bs → (end < length bs → is_blank (get_or bs end 0) ≡ true)
    → ((n : ℕ) → place_in n (drop next bs) ≡ place_in n (drop end bs)) → end ≤ next → StandsAt bs next → Passes bs start next
number_passes bs start end next value d l within ends same after stands = record {
  after = omega arith;
  stands = stands;
  token = λ n. same n ∙ number_past n (drop start bs) (drop end bs) value d (some_digits bs start end value d (omega arith) within (omega arith)) (end_follows bs end ends);
}

pub room_at : (bs : List ℕ) (start at value : ℕ) → start ≤ at → at ≤ length bs → at < start + 19 → list_all is_ascii_digit (take (at - start) (drop start bs)) ≡ true → value ≡ digits_value 10 (take (at - start) (drop start bs)) → value < 10 ^ 18
room_at bs start at value le within few all e =
    let long : length (take (at - start) (drop start bs)) ≡ at - start = length-take-le (at - start) (drop start bs) (omega (arith, length-drop start bs)) in
    subst (λ v. v < 10 ^ 18) (sym e) (room_for_digit (take (at - start) (drop start bs)) all (omega (arith, long)))

pub digit_bounds : (c : ℕ) → is_ascii_digit c ≡ true → (48 ≤ c) × (c < 58)
digit_bounds c e = (grind (arith, nat_tests, tests), grind (arith, nat_tests, tests))

-- one digit
pub digit_found : (bs : List ℕ) (start : ℕ) → start < length bs → is_ascii_digit (get_or bs start 0) ≡ true → Digits (drop start bs) (drop (start + 1) bs) (get_or bs start 0 - 48)
digit_found bs start l e =
    let one : 0 * 10 + (get_or bs start 0 - 48) ≡ get_or bs start 0 - 48 = omega arith in
    subst (Digits (drop start bs) (drop (start + 1) bs)) one (one_more (drop start bs) (drop (start + 1) bs) (get_or bs start 0) 0 (at_byte (drop start bs) bs start 0 l (no_digits (drop start bs))) e)

pub small_digit : (c d : ℕ) → (is_ascii_digit c ≡ false → 9 < d) → d ≤ 9 → is_ascii_digit c ≡ true
small_digit c d other le = elim (cases_Bool (is_ascii_digit c)) [
  | inl e ↦ e
  | inr e ↦ absurd (omega (arith, other e, le))
]

-- what writes a number is no empty token
pub some_token : (p : Place) (value : ℕ) → Some value ≡ number_written (next_token p) → next_token p ≡ [] → ⊥
unfolding number_written
some_token p value e none = let k : ◌≡◌ {A = Option ℕ} (Some value) None = e ∙ ap number_written none in cc
