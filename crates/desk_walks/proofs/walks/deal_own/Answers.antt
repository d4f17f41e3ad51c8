use Rattle.std.proofs.Common.{◌≡◌, true, sym, subst, arith}
use Rattle.circuit_model.specs.declared.gate.Gate.{Gate}
use Rattle.secret_sharing.specs.Schemes.{has_pair}
use Rattle.plan_model.specs.Plans.{Plan, scheme}
use Rattle.program_model.specs.declared.half.Half.TheVariants.{Head}
use Rattle.party_program.specs.ProgramPlaces.{InProduct}
use Rattle.program_model.specs.States.{Given}
use Rattle.program_laws.specs.WordsRead.{gate_at}
use Rattle.party_desk.specs.declared.desk.Desk.{Desk}
use Rattle.party_desk.specs.Memories.{GateWithin}
use Rattle.desk_walks.specs.Walks.{IsDeskOfPlan}
use Rattle.desk_walks.proofs.GateWalks.{goes_stand}
use Rattle.party_desk.proofs.NamedRows.{slot_within_rows}
use Rattle.desk_walks.proofs.OwnProducts.{own_and_deal, own_can_deal, own_few, own_no_post, own_slot}
use Rattle.desk_walks.proofs.walks.deal_own.Goals as goal

-- the product's wires have rows
rows_of : (plan : Plan) (l : Given) (d : Desk) (goes : IsDeskOfPlan plan l d) → InProduct Head d.place → d.place.done ≡ 0 → has_pair (scheme plan) d.party ≡ true → (g : Gate) → g ≡ gate_at plan d.session d.place.slot → GateWithin plan d.session g
rows_of plan l d goes product first has g is =
    let there = goes_stand plan l d goes in
    subst (GateWithin plan d.session) (sym is) (slot_within_rows plan there.sound d.session there.session d.place.slot (own_slot plan l d goes product first has))

pub multiply-requires-clause-gate : goal.multiply-requires-clause-gate
multiply-requires-clause-gate c = rows_of c.args.plan.now c.requires.goes.0 c.args.desk.now c.requires.goes.1 c.requires.product c.requires.first c.requires.has c.args.gate c.requires.gate

pub deal_product-requires-clause-wire : goal.deal_product-requires-clause-wire
deal_product-requires-clause-wire c = (rows_of c.args.plan.now c.requires.goes.0 c.args.desk.now c.requires.goes.1 c.requires.product c.requires.first c.requires.has c.args.gate c.requires.gate).output

pub deal_product-requires-clause-words : goal.deal_product-requires-clause-words
deal_product-requires-clause-words c =
    own_can_deal c.args.plan.now c.requires.goes.0 c.args.desk.now c.requires.goes.1 c.requires.product c.requires.first c.requires.has c.args.gate c.requires.gate c.multiply.new.self (c.multiply.ensures.fits, c.multiply.ensures.kept, c.multiply.ensures.state)

pub overflow_add-desk : goal.overflow_add-desk
overflow_add-desk c =
    let few = own_few c.args.plan.now c.requires.goes.0 c.args.desk.now c.requires.goes.1 c.requires.product c.requires.first c.requires.has c.args.gate c.requires.gate c.multiply.new.self (c.multiply.ensures.fits, c.multiply.ensures.kept, c.multiply.ensures.state)
    c.deal_product.new.self (c.deal_product.ensures.fits, c.deal_product.ensures.kept, c.deal_product.ensures.state) in
    omega (arith, few)

pub returns-clause-sends : goal.returns-clause-sends
returns-clause-sends c given goes =
    own_and_deal c.args.plan.now given c.args.desk.now goes c.requires.product c.requires.first c.requires.has c.args.gate c.requires.gate c.multiply.new.self (c.multiply.ensures.fits, c.multiply.ensures.kept, c.multiply.ensures.state)
    c.deal_product.new.self (c.deal_product.ensures.fits, c.deal_product.ensures.kept, c.deal_product.ensures.state)

pub returns-clause-no_post : goal.returns-clause-no_post
returns-clause-no_post c given goes = own_no_post c.args.plan.now given c.args.desk.now goes c.requires.product c.requires.first c.requires.has
