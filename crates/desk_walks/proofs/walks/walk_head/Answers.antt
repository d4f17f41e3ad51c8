use Rattle.std.proofs.Common.{◌+◌, sym, subst, arith}
use Rattle.program_model.specs.declared.half.Half.TheVariants.{Head}
use Rattle.program_model.specs.Proper.{IsSlot, Multiplies}
use Rattle.desk_walks.specs.Walks.{IsAmongGates, IsBefore, NothingToCompute}
use Rattle.desk_walks.proofs.GatePlaces.{among_next}
use Rattle.desk_walks.proofs.GatePosts.{head_stays, head_went}
use Rattle.party_desk.proofs.NamedRows.{slot_few}
use Rattle.desk_walks.proofs.walks.walk_head.Goals as goal

pub overflow_add-slot : goal.overflow_add-slot
overflow_add-slot g c =
    let given = c.requires.may.0 in
    let may = c.requires.may.1 in
    let does = c.do_head-done.ensures.does c.if-done.true given may in
    let few = slot_few given.plan may.goes.desk.suits.sound given.session may.goes.desk.suits.session c.args.desk.now.place.slot does.gate.slot in
    omega (arith, few, c.slot-slot.ensures)

pub compute_gates-requires-clause-among : goal.compute_gates-requires-clause-among
compute_gates-requires-clause-among g c =
    let plan = c.args.plan.now in
    let given = c.requires.may.0 in
    let may = c.requires.may.1 in
    let k = c.args.desk.now.place.slot in
    let e = c.do_head-done.new.desk in
    let does = c.do_head-done.ensures.does c.if-done.true given may in
    let named : IsSlot plan e.session k Multiplies =
    subst (λ z. IsSlot z e.session k Multiplies) may.goes.same (subst (λ z. IsSlot given.plan z k Multiplies) (sym does.before.unplaced.session) does.gate) in
    subst (λ z. IsAmongGates c.part-part.result.now (z + 1)) (sym c.slot-slot.ensures) (among_next plan e.session k c.part-part.result.now c.part-part.ensures named)

pub returns-then-done-clause-went : goal.returns-then-done-clause-went
returns-then-done-clause-went g c given may =
    let plan = c.args.plan.now in
    let d = c.args.desk.now in
    let e = c.do_head-done.new.desk in
    let does = c.do_head-done.ensures.does c.if-done.true given may in
    head_went plan given c.args.seat.now c.do_head-done.new.seat d e c.compute_gates.new.desk c.do_head-done.result c.if-done.true does
    (c.compute_gates.ensures given (subst (λ k. IsBefore plan given Head (k + 1) e) (sym c.slot-slot.ensures) does.before))

pub returns-else-done-clause-went : goal.returns-else-done-clause-went
returns-else-done-clause-went g c given may =
    let no = c.if-done.false in
    let same = c.do_head-done.ensures.still no in
    head_stays c.args.plan.now given c.args.seat.now c.do_head-done.new.seat c.args.desk.now c.do_head-done.new.desk c.do_head-done.result no same may.goes.desk c.requires.head
    (subst (NothingToCompute given) same.0 (c.do_head-done.ensures.through no given may))
