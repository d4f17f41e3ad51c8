-- Lists seen through a map.
use Rattle.std.proofs.Common.{◌≡◌, ℕ, Bool, List, [], ◌∷◌, ◌∙◌, ap, map, refl, ◌+◌, not, cond}
use Rattle.std.specs.Prelude.{position}
use Rattle.std.proofs.lemmas.List.{length-map}
use Rattle.std.specs.List.{position_or_len}
use Rattle.toml.specs.View.{view}
use Rattle.toml.specs.declared.value.Value.{Value}
use Rattle.toml_fields.specs.Fields.{text_of}

position_or_len-map : {X Y : Type 0} (p : Y → Bool) (h : X → Y) (xs : List X) → position_or_len p (map h xs) ≡ position_or_len (λ x. p (h x)) xs
position_or_len-map p h [] = refl
position_or_len-map p h (x ∷ xs) = ap (λ n. cond (not (p (h x))) (1 + n) 0) (position_or_len-map p h xs)

pub position-map : {X Y : Type 0} (p : Y → Bool) (h : X → Y) (xs : List X) → position p (map h xs) ≡ position (λ x. p (h x)) xs
position-map p h xs =
    let place = position_or_len-map p h xs in
    let long = length-map xs h in
    rw (place, long)

-- the first text that passes
pub position-texts : (p : List ℕ → Bool) (vs : List Value) → position p (map text_of (map view vs)) ≡ position (λ v. p (text_of (view v))) vs
position-texts p vs = position-map p text_of (map view vs) ∙ position-map (λ d. p (text_of d)) view vs
