use Rattle.std.proofs.Common.{◌≡◌, ◌%◌, ◌^◌, ◌<◌}
use Rattle.std.specs.Prelude.{slice_index}
use Rattle.list_laws.specs.Lists.{total}
use Rattle.mpc_ring.specs.Differences.{difference}
use Rattle.wire_tables.proofs.rows.excess.Given as goal

-- the sum so far
abbrev pub invariant-loop-i : goal.invariant-loop-i
invariant-loop-i l = record {
  sum : l.sum ≡ total l.i (λ i. difference (2 ^ l.ring) (slice_index l.x i) (slice_index l.mask i)) % 2 ^ l.ring;
  small : l.sum < 2 ^ l.ring;
}
