use Rattle.std.proofs.Common.{List, ℕ, sym, subst}
use Rattle.std.specs.List.Sorted.{IsStrictlyIncreasing}
use Rattle.mask_list.proofs.RisingMasks.{IsGap, gap, rising-insert, masks-insert}
use Rattle.mask_list.proofs.mask_list.MaskList.add.Goals as goal

-- where the mask goes
gap_of : (c : goal.In_ok-insert) → IsGap c.self.inside.masks.items c.args.mask c.in-Err.place
gap_of c =
    subst (λ (xs : List ℕ). IsGap xs c.args.mask c.in-Err.place) c.deref.ensures.value
    (gap c.deref.result.now (subst IsStrictlyIncreasing (sym c.deref.ensures.value) c.self.invariant) c.args.mask c.in-Err.place c.in-Err.ensures.position)

pub invariant_of-self : goal.invariant_of-self
invariant_of-self c = subst IsStrictlyIncreasing (sym c.in_ok-insert.ensures.items) (rising-insert c.self.inside.masks.items c.args.mask c.in-Err.place (gap_of c) c.self.invariant)

pub returns-in_ok-insert-clause-added : goal.returns-in_ok-insert-clause-added
returns-in_ok-insert-clause-added c = rw (c.in_ok-insert.ensures.items, ← c.self.view_is) (masks-insert c.self.inside.masks.items c.args.mask c.in-Err.place (gap_of c))
