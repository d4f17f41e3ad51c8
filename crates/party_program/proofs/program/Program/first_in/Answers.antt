use Rattle.std.proofs.Common.{◌<◌, arith}
use Rattle.plan_model.specs.Plans.{slots}
use Rattle.party_program.proofs.ProgramPlaces.{position_more}
use Rattle.party_program.proofs.FoundSteps.{occurs, as_many, counted, few}
use Rattle.party_program.proofs.program.Program.first_in.Goals as goal

pub of-requires : goal.of-requires
of-requires c =
    let plan = c.args.plan.now in
    let own = c.args.self.now in
    let there = c.requires.batch.there in
    let to = c.requires.to in
    let lk : c.loop-k.k < slots plan own.session = omega (arith, there, c.loop-k-test.true) in
    (plan, own.party, own.session, c.args.at.half, c.table.ensures plan own.party own.session c.requires.is, occurs plan own c.requires.is c.args.at.half c.loop-k.k lk c.pattern-pattern.result c.pattern-pattern.ensures.is)

pub overflow_cast-count : goal.overflow_cast-count
overflow_cast-count c =
    let plan = c.args.plan.now in
    let own = c.args.self.now in
    let there = c.requires.batch.there in
    let lk : c.loop-k.k < slots plan own.session = omega (arith, there, c.loop-k-test.true) in
    let of = c.of.ensures plan own.party own.session c.args.at.half (c.table.ensures plan own.party own.session c.requires.is) (occurs plan own c.requires.is c.args.at.half c.loop-k.k lk c.pattern-pattern.result c.pattern-pattern.ensures.is) in
    let all = few plan own c.requires.is c.args.at.half c.loop-k.k lk c.pattern-pattern.result c.pattern-pattern.ensures.is c.of.result.now of in
    omega (arith, all)

pub place_at-requires-clause-count : goal.place_at-requires-clause-count
place_at-requires-clause-count c =
    let plan = c.args.plan.now in
    let own = c.args.self.now in
    let there = c.requires.batch.there in
    let lk : c.loop-k.k < slots plan own.session = omega (arith, there, c.loop-k-test.true) in
    let of = c.of.ensures plan own.party own.session c.args.at.half (c.table.ensures plan own.party own.session c.requires.is) (occurs plan own c.requires.is c.args.at.half c.loop-k.k lk c.pattern-pattern.result c.pattern-pattern.ensures.is) in
    counted plan own c.requires.is c.args.at.half c.loop-k.k lk c.pattern-pattern.result c.pattern-pattern.ensures.is c.of.result.now of

pub loop-k-preserved : goal.loop-k-preserved
loop-k-preserved c =
    let plan = c.args.plan.now in
    let own = c.args.self.now in
    let there = c.requires.batch.there in
    let lk : c.loop-k.k < slots plan own.session = omega (arith, there, c.loop-k-test.true) in
    let of = c.of.ensures plan own.party own.session c.args.at.half (c.table.ensures plan own.party own.session c.requires.is) (occurs plan own c.requires.is c.args.at.half c.loop-k.k lk c.pattern-pattern.result c.pattern-pattern.ensures.is) in
    let all = as_many plan own c.requires.is c.args.at.half c.loop-k.k lk c.pattern-pattern.result c.pattern-pattern.ensures.is c.of.result.now of in
    let more = position_more plan own.party own.session c.args.at.half c.args.at.batch c.args.at.end c.loop-k.k in
    let before = c.loop-k.invariant in
    omega (arith, all, more, before, c.if-count-gt0.false)
