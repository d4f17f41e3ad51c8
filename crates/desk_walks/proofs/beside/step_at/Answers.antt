use Rattle.desk_walks.proofs.SeatSteps.{steps_at, words_below, same_board, still_seated, walked, went_on, stood_still}
use Rattle.desk_walks.proofs.beside.step_at.Goals as goal

pub step-stepped-requires-clause-may : goal.step-stepped-requires-clause-may
step-stepped-requires-clause-may g c =
    let given = c.requires.may.0 in
    (given, steps_at g.W.Promise.list c.args.plan.now c.args.cells.now c.args.desk.now c.requires.seat given c.requires.may.1)

pub step-stepped-requires-clause-below : goal.step-stepped-requires-clause-below
step-stepped-requires-clause-below g c = words_below g.W.Promise.list c.args.plan.now c.args.cells.now c.args.desk.now c.requires.seat c.requires.may.0 c.requires.may.1

pub returns-clause-same : goal.returns-clause-same
returns-clause-same g c =
    let given = c.requires.may.0 in
    let step = c.step-stepped in
    same_board g.W.Promise.list c.args.plan.now c.args.cells.now c.args.desk.now c.requires.seat given c.requires.may.1 step.new.cells step.new.self step.result (step.ensures.steps given)

pub returns-clause-seat : goal.returns-clause-seat
returns-clause-seat g c =
    let given = c.requires.may.0 in
    let step = c.step-stepped in
    still_seated g.W.Promise.list c.args.plan.now c.args.cells.now c.args.desk.now c.requires.seat given c.requires.may.1 step.new.cells step.new.self step.result (step.ensures.steps given)

pub returns-clause-walks : goal.returns-clause-walks
returns-clause-walks g c given may =
    let step = c.step-stepped in
    walked g.W.Promise.list c.args.plan.now c.args.cells.now c.args.desk.now c.requires.seat given may step.new.cells step.new.self step.result (step.ensures.steps given)

pub returns-clause-on : goal.returns-clause-on
returns-clause-on g c moved =
    let given = c.requires.may.0 in
    let step = c.step-stepped in
    went_on g.W.Promise.list c.args.plan.now c.args.cells.now c.args.desk.now c.requires.seat given c.requires.may.1 step.new.cells step.new.self step.result (step.ensures.steps given) (c.is_move.ensures.moved moved)

pub returns-clause-still : goal.returns-clause-still
returns-clause-still g c still =
    let given = c.requires.may.0 in
    let step = c.step-stepped in
    stood_still g.W.Promise.list c.args.plan.now c.args.cells.now c.args.desk.now c.requires.seat given c.requires.may.1 step.new.cells step.new.self step.result (step.ensures.steps given) (c.is_move.ensures.still still)
