use Rattle.std.proofs.Common.{◌∙◌, arith}
use Rattle.desk_walks.proofs.GateWalks.{few_done, fewer, walks_may, walks_on}
use Rattle.desk_walks.proofs.walks.walk_gates.Goals as goal

pub loop-goes-smaller-then-is_beside : goal.loop-goes-smaller-then-is_beside
loop-goes-smaller-then-is_beside g c =
    let list = g.W.Promise.list c.args.board.now.about.world in
    let given = c.requires.may.0 in
    let may = c.requires.may.1 in
    let here = walks_may c.args.plan.now list given c.args.seat.now c.loop-goes.seat c.args.desk.now c.loop-goes.desk may (c.loop-goes.invariant.1 given may) in
    let walked = (c.walk_beside-goes.ensures.went given here).walks in
    fewer c.loop-goes.desk.position c.walk_beside-goes.new.desk.position c.walk_beside-goes.result c.loop-goes.goes c.loop-goes-test.true walked.forth (c.walk_beside-goes.ensures.went given here).on (few_done given c.walk_beside-goes.new.desk walked.desk)

pub loop-goes-preserved-then-is_beside : goal.loop-goes-preserved-then-is_beside
loop-goes-preserved-then-is_beside g c = (
  c.walk_beside-goes.ensures.seat,
  (λ given may.
      let list = g.W.Promise.list c.args.board.now.about.world in
      let so_far = c.loop-goes.invariant.1 given may in
      let here = walks_may c.args.plan.now list given c.args.seat.now c.loop-goes.seat c.args.desk.now c.loop-goes.desk may so_far in
      walks_on given c.args.seat.now c.loop-goes.seat c.walk_beside-goes.new.seat c.args.desk.now c.loop-goes.desk c.walk_beside-goes.new.desk so_far (c.walk_beside-goes.ensures.went given here).walks),
  (λ same.
      let list = g.W.Promise.list c.args.board.now.about.world in
      let given = c.requires.may.0 in
      let may = c.requires.may.1 in
      let so_far = c.loop-goes.invariant.1 given may in
      let here = walks_may c.args.plan.now list given c.args.seat.now c.loop-goes.seat c.args.desk.now c.loop-goes.desk may so_far in
      let walked = (c.walk_beside-goes.ensures.went given here).walks in
      let first = so_far.forth in
      let second = walked.forth in
      c.walk_beside-goes.ensures.still (omega (arith, first, second, same)) ∙ c.loop-goes.invariant.2 (omega (arith, first, second, same))),
  (λ stays given may.
      (c.walk_beside-goes.ensures.went given (walks_may c.args.plan.now (g.W.Promise.list c.args.board.now.about.world) given c.args.seat.now c.loop-goes.seat c.args.desk.now c.loop-goes.desk may (c.loop-goes.invariant.1 given may))).through stays),
  (λ stays given may.
      (c.walk_beside-goes.ensures.went given (walks_may c.args.plan.now (g.W.Promise.list c.args.board.now.about.world) given c.args.seat.now c.loop-goes.seat c.args.desk.now c.loop-goes.desk may (c.loop-goes.invariant.1 given may))).looked stays),
)

pub loop-goes-smaller : goal.loop-goes-smaller
loop-goes-smaller g c =
    let list = g.W.Promise.list c.args.board.now.about.world in
    let given = c.requires.may.0 in
    let may = c.requires.may.1 in
    let here = walks_may c.args.plan.now list given c.args.seat.now c.loop-goes.seat c.args.desk.now c.loop-goes.desk may (c.loop-goes.invariant.1 given may) in
    let walked = (c.walk_half-goes.ensures.went given here).walks in
    fewer c.loop-goes.desk.position c.walk_half-goes.new.desk.position c.walk_half-goes.result c.loop-goes.goes c.loop-goes-test.true walked.forth (c.walk_half-goes.ensures.went given here).on (few_done given c.walk_half-goes.new.desk walked.desk)

pub loop-goes-preserved : goal.loop-goes-preserved
loop-goes-preserved g c = (
  c.walk_half-goes.ensures.seat,
  (λ given may.
      let list = g.W.Promise.list c.args.board.now.about.world in
      let so_far = c.loop-goes.invariant.1 given may in
      let here = walks_may c.args.plan.now list given c.args.seat.now c.loop-goes.seat c.args.desk.now c.loop-goes.desk may so_far in
      walks_on given c.args.seat.now c.loop-goes.seat c.walk_half-goes.new.seat c.args.desk.now c.loop-goes.desk c.walk_half-goes.new.desk so_far (c.walk_half-goes.ensures.went given here).walks),
  (λ same.
      let list = g.W.Promise.list c.args.board.now.about.world in
      let given = c.requires.may.0 in
      let may = c.requires.may.1 in
      let so_far = c.loop-goes.invariant.1 given may in
      let here = walks_may c.args.plan.now list given c.args.seat.now c.loop-goes.seat c.args.desk.now c.loop-goes.desk may so_far in
      let walked = (c.walk_half-goes.ensures.went given here).walks in
      let first = so_far.forth in
      let second = walked.forth in
      c.walk_half-goes.ensures.still (omega (arith, first, second, same)) ∙ c.loop-goes.invariant.2 (omega (arith, first, second, same))),
  (λ stays given may.
      (c.walk_half-goes.ensures.went given (walks_may c.args.plan.now (g.W.Promise.list c.args.board.now.about.world) given c.args.seat.now c.loop-goes.seat c.args.desk.now c.loop-goes.desk may (c.loop-goes.invariant.1 given may))).through stays),
  (λ stays given may.
      (c.walk_half-goes.ensures.went given (walks_may c.args.plan.now (g.W.Promise.list c.args.board.now.about.world) given c.args.seat.now c.loop-goes.seat c.args.desk.now c.loop-goes.desk may (c.loop-goes.invariant.1 given may))).looked stays),
)

pub returns-clause-looked : goal.returns-clause-looked
returns-clause-looked g c given may = c.loop-goes.invariant.4 c.loop-goes-test.false given may
