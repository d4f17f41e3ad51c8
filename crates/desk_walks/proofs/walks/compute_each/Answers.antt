use Rattle.std.proofs.Common.{◌+◌, sym, arith}
use Rattle.desk_walks.proofs.GateWalks.{silent_computes}
use Rattle.desk_walks.proofs.GatePlaces.{among_on, batch_before}
use Rattle.desk_walks.proofs.LinearGates.{from_end, gates_have_rows, gates_product, linear_before, linear_entered, linear_few, linear_silent}
use Rattle.desk_walks.proofs.walks.compute_each.Goals as goal

pub linear_gates-computed-requires-clause-gates : goal.linear_gates-computed-requires-clause-gates
linear_gates-computed-requires-clause-gates c =
    gates_have_rows c.args.plan.now c.requires.goes.0 c.args.desk.now c.args.slot c.args.part.now c.gates_from-gates.result.now c.requires.goes.1 c.requires.part c.end.result c.gates_from-gates.ensures

pub overflow_add-desk : goal.overflow_add-desk
overflow_add-desk c =
    let gates = c.linear_gates-computed in
    let few = linear_few c.args.plan.now c.requires.goes.0 c.args.desk.now c.args.slot c.args.part.now c.gates_from-gates.result.now c.requires.goes.1 c.requires.part (from_end c.args.part.now c.args.slot c.end.result c.args.desk.now.place.end c.gates_from-gates.result.now c.end.ensures c.gates_from-gates.ensures) (omega (arith, c.fits-desk)) gates.result gates.new.self gates.ensures.rest gates.ensures.first gates.ensures.filled in
    omega (arith, few)

pub enter_product-requires-clause-product : goal.enter_product-requires-clause-product
enter_product-requires-clause-product c =
    let gates = c.linear_gates-computed in
    let start = c.requires.goes.1 in
    gates_product c.args.plan.now c.requires.goes.0 c.args.desk.now c.args.slot c.args.part.now c.gates_from-gates.result.now start.unplaced.same start.unplaced.session start.unplaced.own_program.of_session c.requires.part (from_end c.args.part.now c.args.slot c.end.result c.args.desk.now.place.end c.gates_from-gates.result.now c.end.ensures c.gates_from-gates.ensures)
    gates.result gates.ensures.first (sym c.if-not-is_prepared.ensures) c.if-computed-gates.true

pub enter_product-requires-clause-batch : goal.enter_product-requires-clause-batch
enter_product-requires-clause-batch c = batch_before c.args.plan.now c.requires.goes.0 _ c.args.slot c.args.desk.now c.requires.goes.1

pub returns-then-not-is_prepared : goal.returns-then-not-is_prepared
returns-then-not-is_prepared c given start =
    let gates = c.linear_gates-computed in
    linear_entered c.args.plan.now given c.args.desk.now c.args.slot c.args.part.now c.gates_from-gates.result.now start c.requires.part (from_end c.args.part.now c.args.slot c.end.result c.args.desk.now.place.end c.gates_from-gates.result.now c.end.ensures c.gates_from-gates.ensures) (omega (arith, c.fits-desk)) gates.result gates.new.self gates.ensures.rest gates.ensures.first gates.ensures.filled c.enter_product.new.place c.enter_product.ensures

pub end_heads-requires-clause-goes : goal.end_heads-requires-clause-goes
end_heads-requires-clause-goes c =
    let gates = c.linear_gates-computed in
    let given = c.requires.goes.0 in
    let start = c.requires.goes.1 in
    (given, linear_before c.args.plan.now given c.args.desk.now c.args.slot c.args.part.now c.gates_from-gates.result.now start c.requires.part (from_end c.args.part.now c.args.slot c.end.result c.args.desk.now.place.end c.gates_from-gates.result.now c.end.ensures c.gates_from-gates.ensures) (omega (arith, c.fits-desk)) gates.result gates.new.self gates.ensures.rest gates.ensures.first gates.ensures.filled)

pub end_heads-requires-clause-among : goal.end_heads-requires-clause-among
end_heads-requires-clause-among c =
    among_on c.args.part.now c.args.slot c.end.result c.linear_gates-computed.result c.gates_from-gates.result.now c.gates_from-gates.ensures c.linear_gates-computed.ensures.first c.requires.among

pub returns-else-computed-gates : goal.returns-else-computed-gates
returns-else-computed-gates c given start =
    let gates = c.linear_gates-computed in
    silent_computes given c.args.desk.now (record c.args.desk.now { position = c.args.desk.now.position + gates.result; memory = gates.new.self }) c.end_heads.new.desk
    (linear_silent c.args.plan.now given c.args.desk.now c.args.slot c.args.part.now c.gates_from-gates.result.now start c.requires.part (from_end c.args.part.now c.args.slot c.end.result c.args.desk.now.place.end c.gates_from-gates.result.now c.end.ensures c.gates_from-gates.ensures) (omega (arith, c.fits-desk)) gates.result gates.new.self gates.ensures.rest gates.ensures.first gates.ensures.filled) (omega arith)
    (c.end_heads.ensures given (linear_before c.args.plan.now given c.args.desk.now c.args.slot c.args.part.now c.gates_from-gates.result.now start c.requires.part (from_end c.args.part.now c.args.slot c.end.result c.args.desk.now.place.end c.gates_from-gates.result.now c.end.ensures c.gates_from-gates.ensures) (omega (arith, c.fits-desk)) gates.result gates.new.self gates.ensures.rest gates.ensures.first gates.ensures.filled))
