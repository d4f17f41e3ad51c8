-- Masks to which parties are added by name.
use Rattle.std.specs.Prelude.{ℕ, List, Option, None, Some, option_and_then, if◌then◌else◌}
use Rattle.party_set.specs.Parties.{has_party, with_party}
use Rattle.party_names.specs.Names.{party_named}

-- the mask with the party of this name too; none where no party has the name, or the party is in the mask
abbrev pub mask_with : List (List ℕ) → ℕ → List ℕ → Option ℕ
mask_with names mask name =
    option_and_then (λ p. if has_party mask p then None else Some (with_party mask p)) (party_named names name)
