use Rattle.std.proofs.Common.{◌<◌, sym, subst, inl, arith}
use Rattle.session_slots.specs.Sessions.{Session, session_slots}
use Rattle.job_session.specs.Batches.{batch, IsBatch}
use Rattle.plan_model.specs.Plans.{session, slots}
use Rattle.program_model.specs.declared.half.Half.TheVariants.{Head}
use Rattle.party_program.proofs.FoundSteps.{told_count, told_few}
use Rattle.party_program.proofs.program.Program.enter_batch.Goals as goal

pub batch_end-end-requires : goal.batch_end-end-requires
batch_end-end-requires c =
    let plan = c.args.plan.now in
    let own = c.args.self.now in
    let lk : c.args.place.now.end < slots plan own.session = omega (arith, c.if-slot-slots.true, c.slots.ensures) in
    subst (λ z. c.args.place.now.end < session_slots z) (sym c.part-part.ensures) lk

-- the batch behind another begins with the slot behind that
pub place_at-requires-clause-batch : goal.place_at-requires-clause-batch
place_at-requires-clause-batch c =
    let plan = c.args.plan.now in
    let own = c.args.self.now in
    let x : Session = session plan own.session in
    let first = c.args.place.now.end in
    let lk : first < slots plan own.session = omega (arith, c.if-slot-slots.true, c.slots.ensures) in
    let one : IsBatch x first c.batch_end-end.result = subst (λ a. IsBatch x a c.batch_end-end.result) (c.requires.batch.ends lk)
    (subst (λ z. IsBatch z (batch z first) c.batch_end-end.result) c.part-part.ensures c.batch_end-end.ensures) in
    let some = one.some in
    inl (one, omega arith, omega (arith, some))

pub overflow_cast-count : goal.overflow_cast-count
overflow_cast-count c =
    let plan = c.args.plan.now in
    let own = c.args.self.now in
    let lk : c.args.place.now.end < slots plan own.session = omega (arith, c.if-slot-slots.true, c.slots.ensures) in
    let few = told_few plan own c.requires.is Head c.args.place.now.end lk c.pattern-pattern.result c.pattern-pattern.ensures.is c.gate_count-count.result
    (c.gate_count-count.ensures plan own.party own.session Head (c.requires.is.heads)) in
    omega (arith, few)

pub place_at-requires-clause-count : goal.place_at-requires-clause-count
place_at-requires-clause-count c =
    let plan = c.args.plan.now in
    let own = c.args.self.now in
    let lk : c.args.place.now.end < slots plan own.session = omega (arith, c.if-slot-slots.true, c.slots.ensures) in
    told_count plan own c.requires.is Head c.args.place.now.end lk c.pattern-pattern.result c.pattern-pattern.ensures.is c.gate_count-count.result
    (c.gate_count-count.ensures plan own.party own.session Head (c.requires.is.heads)) c.if-count-gt0.true
