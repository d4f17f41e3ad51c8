use Rattle.std.proofs.Common.{◌≡◌}
use Rattle.list_laws.specs.Lists.{listed}
use Rattle.plan_model.specs.Plans.{place}
use Rattle.wire_tables.proofs.places.first_places.Given as goal

abbrev pub invariant-loop-p : goal.invariant-loop-p
invariant-loop-p l = l.places.items ≡ listed l.p (λ p. place l.plan p l.s 0)
