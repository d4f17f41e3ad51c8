use Rattle.std.proofs.Common.{◌≡◌, ℕ, ◌<◌, length, take}
use Rattle.std.specs.Prelude.{slice_index}
use Rattle.share_layout.specs.Layouts.{least_holder}
use Rattle.share_layout.proofs.layout.Layout.make.Given as goal

abbrev pub invariant-loop-i : goal.invariant-loop-i
invariant-loop-i l = record {
  groups : l.masks.items ≡ take l.i l.groups.groups;
  count : length l.least_holders.items ≡ l.i;
  holders : (k : ℕ) → k < l.i → slice_index l.least_holders.items k ≡ least_holder l.groups k;
}
