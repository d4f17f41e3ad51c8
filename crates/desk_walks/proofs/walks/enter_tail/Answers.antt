use Rattle.std.proofs.Common.{sym}
use Rattle.desk_walks.proofs.GatePlaces.{batch_before}
use Rattle.desk_walks.proofs.LinearGates.{from_end, gates_product, passed, tail_entered}
use Rattle.desk_walks.proofs.walks.enter_tail.Goals as goal

pub enter_product-requires-clause-product : goal.enter_product-requires-clause-product
enter_product-requires-clause-product c =
    let start = c.requires.goes.1 in
    gates_product c.args.plan.now c.requires.goes.0 c.args.desk.now c.args.slot c.args.part.now c.gates_from-gates.result.now start.unplaced.same start.unplaced.session start.unplaced.own_program.of_session c.requires.part (from_end c.args.part.now c.args.slot c.end.result c.args.desk.now.place.end c.gates_from-gates.result.now c.end.ensures c.gates_from-gates.ensures)
    c.linear_count-linear.result c.linear_count-linear.ensures (sym c.if-not-is_prepared.ensures) c.if-linear-gates.true

pub enter_product-requires-clause-batch : goal.enter_product-requires-clause-batch
enter_product-requires-clause-batch c = batch_before c.args.plan.now c.requires.goes.0 _ c.args.slot c.args.desk.now c.requires.goes.1

pub returns-then-not-is_prepared : goal.returns-then-not-is_prepared
returns-then-not-is_prepared c given start =
    tail_entered c.args.plan.now given c.args.desk.now c.args.slot c.args.part.now c.gates_from-gates.result.now start c.requires.part (from_end c.args.part.now c.args.slot c.end.result c.args.desk.now.place.end c.gates_from-gates.result.now c.end.ensures c.gates_from-gates.ensures) c.linear_count-linear.result c.linear_count-linear.ensures c.enter_product.new.place c.enter_product.ensures

pub end_tails-requires : goal.end_tails-requires
end_tails-requires c =
    let given = c.requires.goes.0 in
    let start = c.requires.goes.1 in
    (given, passed c.args.plan.now given c.args.desk.now c.args.slot c.args.part.now c.gates_from-gates.result.now start c.requires.part (from_end c.args.part.now c.args.slot c.end.result c.args.desk.now.place.end c.gates_from-gates.result.now c.end.ensures c.gates_from-gates.ensures) c.linear_count-linear.result c.linear_count-linear.ensures)

pub returns-else-linear-gates : goal.returns-else-linear-gates
returns-else-linear-gates c given start = c.end_tails.ensures given (passed c.args.plan.now given c.args.desk.now c.args.slot c.args.part.now c.gates_from-gates.result.now start c.requires.part (from_end c.args.part.now c.args.slot c.end.result c.args.desk.now.place.end c.gates_from-gates.result.now c.end.ensures c.gates_from-gates.ensures) c.linear_count-linear.result c.linear_count-linear.ensures)
