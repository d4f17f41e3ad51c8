use Rattle.std.proofs.Common.{◌≡◌, ℕ, ◌<◌, List, length, get_or, sym, ◌∙◌, subst}
use Rattle.std.specs.List.{Contains}
use Rattle.std.specs.List.Sorted.{IsStrictlyIncreasing}
use Rattle.mask_list.proofs.RisingMasks.{place_of}
use Rattle.mask_list.proofs.mask_list.MaskList.place.Goals as goal

-- the mask stands where the search ended
found : (c : goal.In-Ok-5) → (c.in-Ok.place < length c.args.self.now) × (get_or c.args.self.now c.in-Ok.place 0 ≡ c.args.mask)
found c =
    let same : c.deref.result.now ≡ c.args.self.now = c.deref.ensures.value ∙ c.self.view_is in
    subst (λ (xs : List ℕ). (c.in-Ok.place < length xs) × (get_or xs c.in-Ok.place 0 ≡ c.args.mask)) same
    (place_of c.deref.result.now (subst IsStrictlyIncreasing (sym c.deref.ensures.value) c.self.invariant) c.args.mask c.in-Ok.place c.binary_search.result c.binary_search.ensures.position c.in-Ok.is
    (subst (λ (xs : List ℕ). Contains xs c.args.mask) (sym same) c.requires))

pub returns-in-Ok-2-clause-within : goal.returns-in-Ok-2-clause-within
returns-in-Ok-2-clause-within c = (found c).0

pub returns-in-Ok-2-clause-is : goal.returns-in-Ok-2-clause-is
returns-in-Ok-2-clause-is c = (found c).1
