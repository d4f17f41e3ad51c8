use Rattle.party_program.specs.ProgramPlaces.{AreDeals}
use Rattle.party_program.proofs.deals.push_slots.Given as goal

-- the deals before each of the slots so far
abbrev pub invariant-loop-k : goal.invariant-loop-k
invariant-loop-k l = AreDeals l.own.plan.now l.own.party l.own.session l.k l.list l.tally
