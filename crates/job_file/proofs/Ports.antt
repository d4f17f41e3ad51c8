-- A number that is not there is 0.
use Rattle.std.proofs.Common.{◌≡◌, ℕ, List, false, Option, Some, None, refl}
use Rattle.std.specs.Prelude.{pos, nat_abs}
use Rattle.std.specs.Option.{is_some, option_map_or}
use Rattle.toml.specs.Data.{Data, Members, get_member}
use Rattle.toml_fields.specs.Fields.{has_field, integer_at, integer_of}

missing_at : (found : Option Data) → is_some found ≡ false → 0 ≡ nat_abs (option_map_or integer_of found (pos 0))
missing_at None e = refl
missing_at (Some found) e = cc

pub missing_number : (key : List ℕ) (fields : Members) → has_field key fields ≡ false → 0 ≡ nat_abs (integer_at key fields)
unfolding has_field integer_at
missing_number key fields e = missing_at (get_member key fields) e
