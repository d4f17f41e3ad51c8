use Rattle.std.proofs.Common.{◌≡◌}
use Rattle.std.specs.Prelude.{slice_index}
use Rattle.list_laws.specs.Lists.{listed}
use Rattle.secret_sharing.specs.Prepared.{prepared_summand}
use Rattle.plan_model.specs.Plans.{scheme}
use Rattle.wire_tables.proofs.rows.joined_into.Given as goal

abbrev pub invariant-loop-i : goal.invariant-loop-i
invariant-loop-i l = l.row.items ≡ listed l.i (prepared_summand (scheme l.plan) (slice_index l.first) (slice_index l.second) (slice_index l.product) (slice_index l.x) (slice_index l.y))
