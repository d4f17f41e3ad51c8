use Rattle.std.proofs.Common.{◌≡◌, sym, ap, ◌∙◌, arith}
use Rattle.program_model.specs.declared.instruction.Instruction.TheVariants.{Sum}
use Rattle.party_desk.specs.Desks.{instruction_at}
use Rattle.desk_walks.proofs.GateWalks.{goes_proper, goes_stand}
use Rattle.desk_walks.proofs.GatePlaces.{among_next, first_computes}
use Rattle.desk_walks.proofs.GatePosts.{product_sum, product_within}
use Rattle.party_desk.proofs.NamedRows.{slot_few}
use Rattle.desk_walks.proofs.walks.sum_next.Goals as goal

pub end_product-requires-clause-sum : goal.end_product-requires-clause-sum
end_product-requires-clause-sum c given goes =
    product_sum c.args.plan.now given c.args.desk.now goes c.requires.product c.requires.last ∙ ap Sum (sym c.slot-slot.ensures)

pub enter_tail-requires-clause-among : goal.enter_tail-requires-clause-among
enter_tail-requires-clause-among c =
    let plan = c.args.plan.now in
    let d = c.args.desk.now in
    let given = c.requires.goes.0 in
    let goes = c.requires.goes.1 in
    let is : instruction_at given d ≡ Sum c.slot-slot.result = product_sum plan given d goes c.requires.product c.requires.last ∙ ap Sum (sym c.slot-slot.ensures) in
    among_next plan d.session c.slot-slot.result c.part-part.result.now c.part-part.ensures (goes_proper plan given d goes (Sum c.slot-slot.result) (sym is))

pub returns-clause-computes : goal.returns-clause-computes
returns-clause-computes c given goes =
    let d = c.args.desk.now in
    let is : instruction_at given d ≡ Sum c.slot-slot.result = product_sum c.args.plan.now given d goes c.requires.product c.requires.last ∙ ap Sum (sym c.slot-slot.ensures) in
    first_computes given d c.end_product.new.desk c.enter_tail.new.desk (Sum c.slot-slot.result) is (λ m j z. cc)
    (ap (λ z. z.position) c.end_product.ensures.rest) (c.enter_tail.ensures given (c.end_product.ensures.before given goes))

pub overflow_add-slot : goal.overflow_add-slot
overflow_add-slot c =
    let plan = c.args.plan.now in
    let d = c.args.desk.now in
    let there = goes_stand plan c.requires.goes.0 d c.requires.goes.1 in
    let within = product_within plan c.requires.goes.0 d c.requires.goes.1 c.requires.product in
    let few = slot_few plan there.sound d.session there.session d.place.slot within in
    omega (arith, few, c.slot-slot.ensures)
