use Rattle.std.proofs.Common.{◌≡◌, ◌^◌}
use Rattle.std.specs.Prelude.{slice_index}
use Rattle.list_laws.specs.Lists.{listed}
use Rattle.mpc_ring.specs.Differences.{difference}
use Rattle.tape_map.proofs.change.wire_growths.Given as goal

-- the growths so far
abbrev pub invariant-loop-v : goal.invariant-loop-v
invariant-loop-v l = l.growths.items ≡ listed l.v (λ v. difference (2 ^ l.plan.bits) (slice_index l.second v) (slice_index l.first v))
