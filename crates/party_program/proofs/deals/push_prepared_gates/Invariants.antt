use Rattle.session_slots.specs.SlotNumbers.{first_of_gate}
use Rattle.party_program.specs.ProgramPlaces.{AreDealsTo, session_of}
use Rattle.party_program.proofs.deals.push_prepared_gates.Given as goal

-- the deals before the slots of the gates from here on
abbrev pub invariant-loop-gate : goal.invariant-loop-gate
invariant-loop-gate l = AreDealsTo l.own (first_of_gate (session_of l.own) l.gate-index) l.list l.tally
