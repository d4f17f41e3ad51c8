-- Over names that ascend, the first one that is not known is the least.
use Rattle.std.proofs.Common.{◌≡◌, ℕ, true, false, not, List, [], ◌∷◌, Option, Some, option_map, String, Global, Less, string_bytes, refl, sym, ap, ◌∙◌, cond}
use Rattle.std.specs.Prelude.{if◌then◌else◌}
use Rattle.std.specs.Ordering.{is_gt}
use Rattle.std.specs.List.{find, AllByRecursion}
use Rattle.std.specs.List.Sorted.{IsStrictlySortedBy}
use Rattle.std.specs.Map.{keys_of}
use Rattle.std.specs.String.{string_cmp}
use Rattle.toml.specs.View.{members_view}
use Rattle.toml.proofs.Views.{Entry}
use Rattle.toml_fields.specs.Keys.{is_known, lesser, least_unknown}

-- the first name of the entries that is not known
abbrev pub first_unknown : List (List ℕ) → List Entry → Option (String Global)
first_unknown known es = find (λ name. not (is_known known (string_bytes name))) (keys_of es)

at_least : (known : List (List ℕ)) (name : String Global) (es : List Entry) → AllByRecursion (λ other. string_cmp name other ≡ Less) (keys_of es)
    → lesser (string_bytes name) (option_map string_bytes (first_unknown known es)) ≡ string_bytes name
at_least known name [] above = refl
at_least known name (e ∷ es) above =
    elim (is_known known (string_bytes e.0)) as (λ b. lesser (string_bytes name) (option_map string_bytes (cond (not b) (Some e.0) (first_unknown known es))) ≡ string_bytes name) [
      | true ↦ at_least known name es above.1
      | false ↦ ap (λ o. if is_gt o then string_bytes e.0 else string_bytes name) above.0
    ]

pub first_is_least : (known : List (List ℕ)) (es : List Entry) → IsStrictlySortedBy string_cmp (keys_of es)
    → option_map string_bytes (first_unknown known es) ≡ least_unknown known (members_view es)
unfolding IsStrictlySortedBy least_unknown
first_is_least known [] sorted = refl
first_is_least known (e ∷ es) sorted =
    let rest = first_is_least known es sorted.1 in
    elim (is_known known (string_bytes e.0)) as (λ b. option_map string_bytes (cond (not b) (Some e.0) (first_unknown known es)) ≡ cond b (least_unknown known (members_view es)) (Some (lesser (string_bytes e.0) (least_unknown known (members_view es))))) [
      | true ↦ rest
      | false ↦ ap Some (sym (at_least known e.0 es sorted.0) ∙ ap (lesser (string_bytes e.0)) rest)
    ]
