-- Lists that grow by one item a turn, and masks.
use Rattle.std.proofs.Common.{◌≡◌, ℕ, ◌+◌, ◌<◌, List, [], ◌∷◌, ◌++◌, ◌∙◌, ap, sym, refl, map, take, length, get_or}
use Rattle.std.specs.Prelude.{fold}
use Rattle.std.proofs.lemmas.List.{take_more, map-append}

-- one more item, which shows what the next value gives
pub grown : {V S F : Type 0} (see : S → F) (give : V → F) (vs : List V) (i : ℕ) (v : V) (done : List S) (s : S) → i < length vs → v ≡ get_or vs i v
    → map see done ≡ map give (take i vs) → see s ≡ give v → map see (done ++ s ∷ []) ≡ map give (take (i + 1) vs)
grown see give vs i v done s within is so_far here =
    map-append see done (s ∷ [])
    ∙ ap (λ xs. xs ++ see s ∷ []) so_far
    ∙ ap (λ x. map give (take i vs) ++ x ∷ []) here
    ∙ sym (ap (map give) (take_more vs i v within ∙ ap (λ x. take i vs ++ x ∷ []) (sym is)) ∙ map-append give (take i vs) (v ∷ []))

pub fold-map : {A X Y : Type 0} (step : A → Y → A) (h : X → Y) (start : A) (xs : List X) → fold step start (map h xs) ≡ fold (λ a x. step a (h x)) start xs
fold-map step h start [] = refl
fold-map step h start (x ∷ xs) = fold-map step h (step start (h x)) xs
