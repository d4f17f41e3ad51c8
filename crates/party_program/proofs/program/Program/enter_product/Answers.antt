use Rattle.std.proofs.Common.{◌<◌, arith, sym}
use Rattle.plan_model.specs.declared.pattern.Pattern.TheVariants.{Multiplied}
use Rattle.plan_model.specs.Plans.{slots}
use Rattle.party_program.proofs.FoundSteps.{counted, few}
use Rattle.party_program.proofs.program.Program.enter_product.Goals as goal

pub overflow_cast-count : goal.overflow_cast-count
overflow_cast-count c =
    let plan = c.args.plan.now in
    let own = c.args.self.now in
    let there = c.requires.batch.there in
    let lk : c.args.slot < slots plan own.session = omega (arith, there, c.requires.to) in
    let all = few plan own c.requires.is c.args.half c.args.slot lk Multiplied (sym c.requires.product) c.of_product.result.now
    (c.of_product.ensures plan own.party own.session c.args.half (c.table.ensures plan own.party own.session c.requires.is)) in
    omega (arith, all)

pub place_at-requires-clause-count : goal.place_at-requires-clause-count
place_at-requires-clause-count c =
    let plan = c.args.plan.now in
    let own = c.args.self.now in
    let there = c.requires.batch.there in
    let lk : c.args.slot < slots plan own.session = omega (arith, there, c.requires.to) in
    counted plan own c.requires.is c.args.half c.args.slot lk Multiplied (sym c.requires.product) c.of_product.result.now
    (c.of_product.ensures plan own.party own.session c.args.half (c.table.ensures plan own.party own.session c.requires.is))
