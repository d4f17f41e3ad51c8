-- In a slot of a pattern few messages are taken.
use Rattle.std.proofs.Common.{◌≤◌, length, arith}
use Rattle.plan_model.specs.declared.pattern.Pattern.{Pattern}
use Rattle.plan_model.specs.declared.pattern.Pattern.TheVariants.{Silent, Dealt, Multiplied, Opened, HandedOut, OpenedToAll, Joined, Held, Received}
use Rattle.plan_model.specs.Plans.{Plan}
use Rattle.plan_model.specs.Sound.{IsSound}
use Rattle.plan_model.proofs.FewTransfers.{few_transfers}
use Rattle.party_program.specs.PartySteps.{taken_transfers}

pub few_taken : (plan : Plan) (sound : IsSound plan) (pattern : Pattern) → length (taken_transfers plan pattern) ≤ 9216
few_taken plan sound Silent = omega arith
few_taken plan sound (Dealt p) = few_transfers plan sound (Dealt p)
few_taken plan sound Multiplied = few_transfers plan sound Multiplied
few_taken plan sound (Opened readers) = few_transfers plan sound (Opened readers)
few_taken plan sound HandedOut = few_transfers plan sound HandedOut
few_taken plan sound OpenedToAll = few_transfers plan sound OpenedToAll
few_taken plan sound Joined = omega arith
few_taken plan sound Held = omega arith
few_taken plan sound Received = few_transfers plan sound Held
