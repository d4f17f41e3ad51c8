use Rattle.std.proofs.Common.{◌+◌, ◌*◌, length}
use Rattle.session_slots.specs.SlotNumbers.{prepared_before}
use Rattle.party_program.specs.ProgramPlaces.{AreDealsTo, session_of}
use Rattle.party_program.proofs.deals.push_mask_products.Given as goal

-- the deals before the products of masks of the gates from here on
abbrev pub invariant-loop-gate : goal.invariant-loop-gate
invariant-loop-gate l = AreDealsTo l.own (2 * prepared_before (session_of l.own) (length (session_of l.own).gates) + prepared_before (session_of l.own) l.gate-index) l.list l.tally
