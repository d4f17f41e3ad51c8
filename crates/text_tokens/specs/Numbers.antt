-- The numbers that tokens write.
use Rattle.std.specs.Prelude.{ℕ, ◌==◌, ◌^◌, nat_lt, Bool, not, ◌&&◌, ◌||◌, List, length, slice_index, Option, Some, None, if◌then◌else◌}
use Rattle.std.specs.Str.{all_ascii_digits}
use Rattle.std.specs.Str.Parse.{digits_value}
use Rattle.text_tokens.specs.Tokens.{not_empty}

-- one or more decimal digits
abbrev pub is_digits : List ℕ → Bool
is_digits token = not_empty token && all_ascii_digits token

-- a decimal number without leading zeros
abbrev pub is_decimal : List ℕ → Bool
is_decimal token = is_digits token && (nat_lt (length token) 2 || not (slice_index token 0 == 48))

-- what digits with a value below 2^64 write
unfoldable pub number_written : List ℕ → Option ℕ
number_written token =
    if is_digits token && nat_lt (digits_value 10 token) (2 ^ 64) then Some (digits_value 10 token) else None
