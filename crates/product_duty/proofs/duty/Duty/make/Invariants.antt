use Rattle.std.proofs.Common.{◌≡◌, ℕ, ◌<◌, length, [], map}
use Rattle.std.specs.Prelude.{slice_index_or}
use Rattle.std.specs.Global.{Vec}
use Rattle.product_duty.specs.Duties.{pairs_of}
use Rattle.product_duty.proofs.duty.Duty.make.Given as goal

abbrev pub invariant-loop-p : goal.invariant-loop-p
invariant-loop-p l = record {
  count : length l.pairs.items ≡ l.p;
  lists : (q : ℕ) → q < l.p → slice_index_or (map (λ (list : Vec (ℕ × ℕ)). list.items) l.pairs.items) q [] ≡ pairs_of l.groups q;
}
