use Rattle.std.proofs.Common.{◌/◌, ◌%◌}
use Rattle.desk_workers.specs.Promises.{world_in}
use Rattle.desk_workers.proofs.BoardSteps.{may_step, leads_on, is_stuck, seated}
use Rattle.desk_workers.proofs.steps.step_at.Goals as goal

pub step_in_world-requires : goal.step_in_world-requires
step_in_world-requires c =
    let w = world_in c.args.cells.now.board.now.about.world in
    let k = c.requires.desk.0 in
    (w, k / w.plan.parties, k % w.plan.parties, may_step c.args.plan.now c.args.cells.now c.requires.pool c.requires.seat k c.args.desk.now c.requires.desk.1)

pub returns-clause-same : goal.returns-clause-same
returns-clause-same c =
    let w = world_in c.args.cells.now.board.now.about.world in
    let k = c.requires.desk.0 in
    let h = c.requires.desk.1 in
    let did = c.step_in_world.ensures.steps w (k / w.plan.parties) (k % w.plan.parties) (may_step c.args.plan.now c.args.cells.now c.requires.pool c.requires.seat k c.args.desk.now h) in
    let end = seated c.args.plan.now c.args.cells.now c.requires.pool c.requires.seat k c.args.desk.now h c.step_in_world.new.cells c.step_in_world.new.desk c.step_in_world.result did in
    (end.0, end.1)

pub returns-clause-seat : goal.returns-clause-seat
returns-clause-seat c =
    let w = world_in c.args.cells.now.board.now.about.world in
    let k = c.requires.desk.0 in
    let h = c.requires.desk.1 in
    let did = c.step_in_world.ensures.steps w (k / w.plan.parties) (k % w.plan.parties) (may_step c.args.plan.now c.args.cells.now c.requires.pool c.requires.seat k c.args.desk.now h) in
    (seated c.args.plan.now c.args.cells.now c.requires.pool c.requires.seat k c.args.desk.now h c.step_in_world.new.cells c.step_in_world.new.desk c.step_in_world.result did).2

pub returns-clause-leads : goal.returns-clause-leads
returns-clause-leads c k h =
    let w = world_in c.args.cells.now.board.now.about.world in
    let did = c.step_in_world.ensures.steps w (k / w.plan.parties) (k % w.plan.parties) (may_step c.args.plan.now c.args.cells.now c.requires.pool c.requires.seat k c.args.desk.now h) in
    leads_on c.args.plan.now c.args.cells.now c.requires.pool c.requires.seat k c.args.desk.now h c.step_in_world.new.cells c.step_in_world.new.desk c.step_in_world.result did

pub returns-clause-stuck : goal.returns-clause-stuck
returns-clause-stuck c none k h =
    let w = world_in c.args.cells.now.board.now.about.world in
    let did = c.step_in_world.ensures.steps w (k / w.plan.parties) (k % w.plan.parties) (may_step c.args.plan.now c.args.cells.now c.requires.pool c.requires.seat k c.args.desk.now h) in
    is_stuck c.args.plan.now c.args.cells.now c.requires.pool c.requires.seat k c.args.desk.now h c.step_in_world.new.cells c.step_in_world.new.desk c.step_in_world.result did none
