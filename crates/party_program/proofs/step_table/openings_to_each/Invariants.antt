use Rattle.std.proofs.Common.{◌≡◌, map, take}
use Rattle.plan_model.specs.declared.pattern.Pattern.TheVariants.{Opened}
use Rattle.party_program.specs.PartySteps.{steps}
use Rattle.party_program.proofs.step_table.openings_to_each.Given as goal

abbrev pub invariant-loop-mask : goal.invariant-loop-mask
invariant-loop-mask l = l.list.items ≡ map (λ mask. steps l.plan l.p l.half (Opened mask)) (take l.mask-index l.readers)
