use Rattle.std.proofs.Common.{◌≡◌}
use Rattle.list_laws.specs.Lists.{listed}
use Rattle.plan_model.specs.declared.pattern.Pattern.TheVariants.{Dealt}
use Rattle.party_program.specs.PartySteps.{steps}
use Rattle.party_program.proofs.step_table.deals_of_each.Given as goal

abbrev pub invariant-loop-dealer : goal.invariant-loop-dealer
invariant-loop-dealer l = l.list.items ≡ listed l.dealer (λ q. steps l.plan l.p l.half (Dealt q))
