use Rattle.std.proofs.Common.{◌≡◌, ◌+◌, length, ap, ◌∙◌, arith}
use Rattle.std.specs.Prelude.{slice_index}
use Rattle.list_laws.specs.Lists.{total}
use Rattle.list_laws.proofs.JoinedLists.{length-listed}
use Rattle.plan_model.specs.Plans.{words}
use Rattle.plan_model.specs.Firsts.{word_starts, word_starts_of}
use Rattle.plan_model.proofs.GrownLists.{row_is}
use Rattle.plan_model.proofs.TapePlaces.{places_by_words}
use Rattle.job_plan.proofs.plan.Plan.tape_start.Goals as goal

pub index-requires : goal.index-requires
index-requires c =
    let plan = c.args.self.now in
    let drawn : c.self.inside.words.items ≡ word_starts_of plan = c.self.invariant.drawn ∙ ap word_starts_of c.self.view_is in
    omega (arith, c.self.inside.words.ok.0, ap length drawn, length-listed plan.parties (word_starts plan))

pub at-requires : goal.at-requires
at-requires c =
    let plan = c.args.self.now in
    let drawn : c.self.inside.words.items ≡ word_starts_of plan = c.self.invariant.drawn ∙ ap word_starts_of c.self.view_is in
    let row = row_is c.self.inside.words.items plan.parties (word_starts plan) c.args.p c.index.result.now drawn c.requires.party c.index.ensures in
    omega (arith, ap length row, length-listed (length plan.sessions + 1) (λ s. total s (words plan c.args.p)))

pub returns-clause-is : goal.returns-clause-is
returns-clause-is c =
    let plan = c.args.self.now in
    let drawn : c.self.inside.words.items ≡ word_starts_of plan = c.self.invariant.drawn ∙ ap word_starts_of c.self.view_is in
    let row = row_is c.self.inside.words.items plan.parties (word_starts plan) c.args.p c.index.result.now drawn c.requires.party c.index.ensures in
    c.at.ensures ∙ ap (λ xs. slice_index xs c.args.s) row ∙ (places_by_words plan c.args.p).table c.args.s c.requires.session
