use Rattle.std.proofs.Common.{◌+◌, length}
use Rattle.session_slots.specs.Sessions.{owners}
use Rattle.plan_model.specs.Plans.{session}
use Rattle.party_program.specs.ProgramPlaces.{AreDeals}
use Rattle.party_program.proofs.deals.push_gates.Given as goal

-- the deals before the slots of values and of the gates so far
abbrev pub invariant-loop-gate : goal.invariant-loop-gate
invariant-loop-gate l = AreDeals l.own.plan.now l.own.party l.own.session (length (owners (session l.own.plan.now l.own.session)) + l.gate-index) l.list l.tally
