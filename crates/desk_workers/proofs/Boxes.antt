-- Desks in boxes.
use Rattle.std.proofs.Common.{◌≡◌, ℕ, List, [], ◌∷◌, ◌++◌, map, Some, ap, ◌∙◌, Box}
use Rattle.std.proofs.lemmas.List.{map-append, append_assoc}
use Rattle.std.proofs.lemmas.Option.{slice_get-map}
use Rattle.std.specs.Prelude.{slice_get, option_map}
use Rattle.std.specs.declared.alloc.Global.{Global}
use Rattle.party_desk.specs.declared.desk.Desk.{Desk}

abbrev pub desk_in : Box Desk Global → Desk
desk_in b = b.value

-- a box stands where its desk does
pub desk_at : (bs : List (Box Desk Global)) (k : ℕ) (b : Box Desk Global) → slice_get bs k ≡ Some b → slice_get (map desk_in bs) k ≡ Some b.value
desk_at bs k b e = slice_get-map desk_in bs k ∙ ap (option_map desk_in) e

-- the first of the desks that are left goes into a box
pub boxes_more : (bs : List (Box Desk Global)) (b : Box Desk Global) (ds : List Desk) → map desk_in (bs ++ b ∷ []) ++ ds ≡ map desk_in bs ++ (b.value ∷ ds)
boxes_more bs b ds = ap (λ l. l ++ ds) (map-append desk_in bs (b ∷ [])) ∙ append_assoc (map desk_in bs) (b.value ∷ []) ds
