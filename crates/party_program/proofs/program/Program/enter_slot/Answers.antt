use Rattle.std.proofs.Common.{◌<◌, arith}
use Rattle.plan_model.specs.Plans.{slots}
use Rattle.party_program.proofs.FoundSteps.{told_count, told_few}
use Rattle.party_program.proofs.program.Program.enter_slot.Goals as goal

pub overflow_cast-count : goal.overflow_cast-count
overflow_cast-count c =
    let plan = c.args.plan.now in
    let own = c.args.self.now in
    let there = c.requires.batch.there in
    let lk : c.args.slot < slots plan own.session = omega (arith, there, c.requires.to) in
    let few = told_few plan own c.requires.is c.args.half c.args.slot lk c.pattern-pattern.result c.pattern-pattern.ensures.is c.gate_count-count.result
    (c.gate_count-count.ensures plan own.party own.session c.args.half (c.table.ensures plan own.party own.session c.requires.is)) in
    omega (arith, few)

pub place_at-requires-clause-count : goal.place_at-requires-clause-count
place_at-requires-clause-count c =
    let plan = c.args.plan.now in
    let own = c.args.self.now in
    let there = c.requires.batch.there in
    let lk : c.args.slot < slots plan own.session = omega (arith, there, c.requires.to) in
    told_count plan own c.requires.is c.args.half c.args.slot lk c.pattern-pattern.result c.pattern-pattern.ensures.is c.gate_count-count.result
    (c.gate_count-count.ensures plan own.party own.session c.args.half (c.table.ensures plan own.party own.session c.requires.is)) c.if-count-gt0.true
