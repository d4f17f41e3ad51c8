-- Each number below 2^64 is written without leading zeros.
use Rattle.std.proofs.Common.{◌≡◌, ℕ, ◌^◌, ◌<◌, ◌==◌, inl, inr, nat_lt, true, not, length, ap, ◌∙◌, arith}
use Rattle.std.specs.Prelude.{decimal, slice_index}
use Rattle.std.specs.Str.{all_ascii_digits}
use Rattle.std.proofs.lemmas.Bool.{cases_eq, ne_eqb, and_from, or_right}
use Rattle.std.proofs.lemmas.Fmt.{digits_decimal, decimal_nonempty, first_decimal, decimal_digit}
use Rattle.text_tokens.specs.Tokens.{not_empty}
use Rattle.text_tokens.specs.Numbers.{is_digits, is_decimal}
use Rattle.text_tokens.proofs.Values.{digits, some_not_empty}

pub decimal_is : (n : ℕ) → n < 2 ^ 64 → is_decimal (decimal n) ≡ true
decimal_is n l = elim (cases_eq n 0) [
  | inl none ↦ ap is_decimal (ap decimal none ∙ decimal_digit 0 (omega arith))
  | inr some ↦
      and_from (is_digits (decimal n)) _
      (and_from (not_empty (decimal n)) (all_ascii_digits (decimal n)) (some_not_empty (decimal n) (decimal_nonempty n l)) (digits_decimal digits n l))
      (or_right (nat_lt (length (decimal n)) 2) (not (slice_index (decimal n) 0 == 48))
      (let first = first_decimal n (omega arith) l in ap not (ne_eqb (slice_index (decimal n) 0) 48 (omega arith))))
]
