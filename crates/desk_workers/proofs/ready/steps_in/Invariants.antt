use Rattle.party_desk.specs.declared.desk.Desk.{Desk}
use Rattle.desk_workers.proofs.Counts.{IsCount}
use Rattle.desk_workers.proofs.ready.steps_in.Given as goal

abbrev pub invariant-loop-i : goal.invariant-loop-i
invariant-loop-i l = IsCount (λ (d : Desk). d.position) l.desks l.i l.count
