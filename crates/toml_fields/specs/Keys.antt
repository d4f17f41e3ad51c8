-- The least name of a field that is not among the names that are known.
use Rattle.std.specs.Prelude.{ℕ, Bool, List, Option, None, Some, if◌then◌else◌}
use Rattle.std.specs.List.{list_any}
use Rattle.std.specs.Ordering.{nat_cmp, is_gt}
use Rattle.std.specs.Cmp.Lexicographic.{slice_cmp}
use Rattle.std.specs.Str.{bytes_eq}
use Rattle.toml.specs.Data.{Members, no_members, member}

-- the name is one of these
abbrev pub is_known : List (List ℕ) → List ℕ → Bool
is_known known name = list_any (λ other. bytes_eq other name) known

-- the lesser of two names by bytes, of which the second may be missing
abbrev pub lesser : List ℕ → Option (List ℕ) → List ℕ
lesser name None = name
lesser name (Some other) = if is_gt (slice_cmp nat_cmp name other) then other else name

-- the least name by bytes, of a field that is not known
unfoldable pub least_unknown : List (List ℕ) → Members → Option (List ℕ)
least_unknown known no_members = None
least_unknown known (member name found rest) =
    if is_known known name then least_unknown known rest else Some (lesser name (least_unknown known rest))
