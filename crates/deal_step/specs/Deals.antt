-- What is dealt of a value.
use Rattle.std.specs.Prelude.{◌≡◌, ℕ, ◌<◌, List, slice_index}
use Rattle.secret_sharing.specs.Schemes.{Scheme, dealt}

-- these are the summands of the value, dealt with the first of the words
abbrev pub IsDealt : Scheme → ℕ → List ℕ → List ℕ → Type 0
IsDealt s value words summands = (i : ℕ) → i < s.shares → slice_index summands i ≡ dealt s value (slice_index words) i
