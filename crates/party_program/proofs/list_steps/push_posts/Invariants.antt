use Rattle.std.proofs.Common.{◌≡◌, ◌++◌, map, take}
use Rattle.std.specs.List.{filter, enumerate_from}
use Rattle.party_program.specs.PartySteps.{post_step, is_from}
use Rattle.party_program.proofs.list_steps.push_posts.Given as goal

-- the posts of the transfers so far
abbrev pub invariant-loop-place : goal.invariant-loop-place
invariant-loop-place l = l.list ≡ l.fn.list ++ map post_step (filter (is_from l.p) (enumerate_from 0 (take l.place l.transfers)))
