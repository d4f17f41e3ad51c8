use Rattle.std.proofs.Common.{◌≡◌, ℕ, ◌+◌, ◌*◌, ◌<◌, length, slice_index}
use Rattle.product_duty.proofs.PairDuties.{at_place}
use Rattle.product_duty.proofs.duty.duties_of.Given as goal

abbrev pub invariant-loop-j : goal.invariant-loop-j
invariant-loop-j l = record {
  count : length l.duties.items ≡ l.i * length l.groups.groups + l.j;
  entries : (k : ℕ) → k < l.i * length l.groups.groups + l.j → slice_index l.duties.items k ≡ at_place l.groups k;
}

abbrev pub invariant-loop-i : goal.invariant-loop-i
invariant-loop-i l = record {
  count : length l.duties.items ≡ l.i * length l.groups.groups;
  entries : (k : ℕ) → k < l.i * length l.groups.groups → slice_index l.duties.items k ≡ at_place l.groups k;
}
