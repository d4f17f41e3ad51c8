use Rattle.std.proofs.Common.{length, [], ◌∷◌, ◌++◌, nat_eq, ap, ◌∙◌, arith}
use Rattle.std.specs.Prelude.{slice_index_or}
use Rattle.list_laws.specs.Lists.{only_if}
use Rattle.plan_model.specs.declared.pattern.Transfer.{Transfer}
use Rattle.party_program.specs.declared.step.Step.TheVariants.{Take}
use Rattle.party_program.specs.PartySteps.{take_step, is_to}
use Rattle.party_program.proofs.FewTakes.{few_taken}
use Rattle.party_program.proofs.GrownLists.{passing_step}
use Rattle.party_program.proofs.list_steps.push_takes.Goals as goal

pub overflow_cast-step : goal.overflow_cast-step
overflow_cast-step c =
    let few = few_taken c.args.plan.now c.recall.ensures c.args.pattern in
    let long = ap (length {A = Transfer}) c.taken_transfers-transfers.ensures in
    omega arith

pub loop-place-preserved : goal.loop-place-preserved
loop-place-preserved c =
    let none : Transfer = record { share = 0; sender = 0; receiver = 0 } in
    let transfer = slice_index_or c.taken_transfers-transfers.result.now c.loop-place.place none in
    passing_step take_step (is_to c.args.p) c.taken_transfers-transfers.result.now c.loop-place.place none c.args.list.now c.loop-place.list _ c.loop-place-test.true c.loop-place.invariant
    (c.in_ok-push_if.ensures ∙ ap (λ n. c.loop-place.list ++ only_if (nat_eq n c.args.p) (Take transfer.share c.loop-place.place ∷ [])) c.from.ensures)
