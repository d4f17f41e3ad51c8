use Rattle.std.proofs.Common.{◌≡◌, ◌^◌}
use Rattle.std.specs.Prelude.{slice_index}
use Rattle.list_laws.specs.Lists.{listed}
use Rattle.secret_sharing.specs.Schemes.{local}
use Rattle.wire_tables.proofs.rows.linear_into.Given as goal

abbrev pub invariant-loop-i : goal.invariant-loop-i
invariant-loop-i l = l.row.items ≡ listed l.i (λ i. local (2 ^ l.ring) l.gate.operation l.gate.constant i (slice_index l.x i) (slice_index l.y i))
