use Rattle.std.proofs.Common.{◌≡◌, ◌++◌, map, take}
use Rattle.std.specs.List.{filter, enumerate_from}
use Rattle.party_program.specs.PartySteps.{take_step, is_to}
use Rattle.party_program.proofs.list_steps.push_takes.Given as goal

-- the takes of the transfers so far
abbrev pub invariant-loop-place : goal.invariant-loop-place
invariant-loop-place l = l.list ≡ l.fn.list ++ map take_step (filter (is_to l.p) (enumerate_from 0 (take l.place l.transfers)))
