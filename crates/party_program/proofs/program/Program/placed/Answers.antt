use Rattle.std.proofs.Common.{rules, ◌≡◌, length, ap, ◌∙◌, arith}
use Rattle.std.specs.Prelude.{slice_index_or}
use Rattle.std.specs.Vec.{vec_len}
use Rattle.list_laws.proofs.JoinedLists.{length-listed, listed_at}
use Rattle.plan_model.specs.Plans.{slots}
use Rattle.plan_model.specs.Numbers.{deals_before}
use Rattle.party_program.specs.PartySteps.{placed}
use Rattle.party_program.proofs.program.Program.placed.Goals as goal

pub index-requires : goal.index-requires
index-requires c =
    let program = c.args.self.now in
    let plan = c.args.plan.now in
    let long = ap length c.requires.is.deals ∙ length-listed (slots plan program.session) (deals_before plan program.party program.session) in
    let same : vec_len program.deals ≡ length program.deals.items = search rules in
    omega (arith, c.requires.slot, long, same)

pub returns : goal.returns
returns c =
    let plan = c.args.plan.now in
    let program = c.args.self.now in
    let place = c.args.place.now in
    let deals = c.index.ensures ∙ ap (λ xs. slice_index_or xs place.slot c.index.result.now) c.requires.is.deals
    ∙ listed_at (slots plan program.session) (deals_before plan program.party program.session) place.slot c.index.result.now c.requires.slot in
    c.placed.ensures ∙ ap (λ n. placed place.slot place.first n c.args.step) deals
