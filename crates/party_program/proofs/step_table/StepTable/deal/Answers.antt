use Rattle.std.proofs.Common.{rules, ◌≡◌, ◌<◌, length, ap, ◌∙◌, arith}
use Rattle.std.specs.Prelude.{slice_index_or}
use Rattle.std.specs.Vec.{vec_len}
use Rattle.list_laws.proofs.JoinedLists.{length-listed, listed_at}
use Rattle.plan_model.specs.declared.pattern.Pattern.TheVariants.{Dealt}
use Rattle.party_program.specs.PartySteps.{steps}
use Rattle.party_program.proofs.step_table.StepTable.deal.Goals as goal

pub index-requires : goal.index-requires
index-requires c =
    let plan = c.requires.0 in
    let own = c.requires.1 in
    let there : c.args.dealer < plan.parties = c.requires.5.occurs in
    let long = ap length c.requires.4.dealt ∙ length-listed plan.parties (λ q. steps plan own c.requires.3 (Dealt q)) in
    let same : vec_len c.args.self.now.dealt ≡ length c.args.self.now.dealt.items = search rules in
    omega arith

pub returns : goal.returns
returns c = λ plan p s half are occurs.
    c.as_slice.ensures
    ∙ c.index.ensures
    ∙ ap (λ xs. slice_index_or xs c.args.dealer c.index.result.now) are.dealt
    ∙ listed_at plan.parties (λ q. steps plan p half (Dealt q)) c.args.dealer c.index.result.now occurs.occurs
