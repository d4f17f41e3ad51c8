use Rattle.std.proofs.Common.{◌≡◌, ℕ, ◌+◌, ◌-◌, ◌<◌, length, slice_get, refl, sym, ◌∙◌, subst, arith}
use Rattle.std.proofs.lemmas.Option.{slice_get_within}
use Rattle.session_slots.specs.KeptWires.{sets_in}
use Rattle.plan_model.specs.Plans.{Plan, session}
use Rattle.message_board.specs.declared.steps.View.{View}
use Rattle.message_board.specs.Pairs.{Knows}
use Rattle.program_model.specs.declared.instruction.Instruction.TheVariants.{Take}
use Rattle.program_model.specs.States.{taking_slot, took_in}
use Rattle.party_desk.specs.declared.desk.Desk.{Desk}
use Rattle.party_desk.specs.Desks.{instruction_at}
use Rattle.party_desk.specs.Memories.{state_of, row_of, on_rows, Alike, IsMemoryOf}
use Rattle.desk_walks.specs.Walks.{IsDeskOfPlan, Walks, taken_on, with_parts}
use Rattle.desk_walks.proofs.GateWalks.{goes_proper, walks_on}
use Rattle.desk_walks.proofs.GatePosts.{half_few, look_walks, none_at_sum, product_taken, product_within, tail_listed, take_found, take_walks, taken_more, takes_next, takes_start, took_given}
use Rattle.desk_walks.proofs.walks.take_words.Goals as goal

pub overflow_cast-last : goal.overflow_cast-last
overflow_cast-last g c =
    let first : Desk = with_parts c.requires.may.1 c.args.program.now c.args.place.now c.args.session c.args.memory.now in
    let goes = c.requires.may.2.goes in
    let count = tail_listed c.args.plan.now c.requires.may.0 first goes c.requires.product c.product_steps-of_product.result.now c.product_steps-of_product.ensures in
    let few = half_few c.requires.may.0 first goes.desk c.requires.product.2 in
    omega (arith, count, few)

pub loop-next-init : goal.loop-next-init
loop-next-init g c =
    let start : Desk = with_parts c.requires.may.1 c.args.program.now c.args.place.now c.args.session c.args.memory.now in
    let count = tail_listed c.args.plan.now c.requires.may.0 start c.requires.may.2.goes c.requires.product c.product_steps-of_product.result.now c.product_steps-of_product.ensures in
    let left = c.requires.product.2 in (
      omega (arith, c.done-next.ensures),
      omega (arith, count, left, c.done-next.ensures),
      c.requires.seat,
      (λ given some may.
          let first : Desk = with_parts some c.args.program.now c.args.place.now c.args.session c.args.memory.now in
          takes_start given c.args.seat.now first may.goes.desk (c.done-next.result - c.args.place.now.done) (omega (arith, c.done-next.ensures))),
      (λ same. refl),
    )

-- before the last step comes a take
pub unreachable-requires : goal.unreachable-requires
unreachable-requires g c =
    let plan = c.args.plan.now in
    let given = c.requires.may.0 in
    let may = c.requires.may.2 in
    let first : Desk = with_parts c.requires.may.1 c.args.program.now c.args.place.now c.args.session c.args.memory.now in
    let now : Desk = record first { memory = c.loop-next.memory } in
    let count = tail_listed plan given first may.goes c.requires.product c.product_steps-of_product.result.now c.product_steps-of_product.ensures in
    let found = take_found plan given first now may.goes c.requires.product c.loop-next.next c.loop-next.invariant.0 (omega (arith, count, c.loop-next-test.true)) refl c.product_step-step.result c.product_step-step.ensures (omega (arith, count, c.loop-next-test.true)) in
    c.in_default.not-Take found.0 found.1 found.2

pub take-requires-clause-inside : goal.take-requires-clause-inside
take-requires-clause-inside g c =
    let plan = c.args.plan.now in
    let given = c.requires.may.0 in
    let may = c.requires.may.2 in
    let first : Desk = with_parts c.requires.may.1 c.args.program.now c.args.place.now c.args.session c.args.memory.now in
    let now : Desk = record first { memory = c.loop-next.memory } in
    let count = tail_listed plan given first may.goes c.requires.product c.product_steps-of_product.result.now c.product_steps-of_product.ensures in
    let n = c.in-Take.number in
    let i = c.in-Take.share in
    let e : Desk = taken_on now (c.loop-next.next - c.args.place.now.done) in
    let is : instruction_at given e ≡ Take n i = takes_next plan given first now may.goes c.requires.product c.loop-next.next c.loop-next.invariant.0 (omega (arith, count, c.loop-next-test.true)) refl (Take n i) (sym c.in-Take.is ∙ c.product_step-step.ensures) in
    slice_get_within (g.W.Promise.list c.args.board.now.about.world) n (given.got n) (may.promises.takes e.position n i is)

pub add-requires-clause-share : goal.add-requires-clause-share
add-requires-clause-share g c =
    let plan = c.args.plan.now in
    let given = c.requires.may.0 in
    let may = c.requires.may.2 in
    let first : Desk = with_parts c.requires.may.1 c.args.program.now c.args.place.now c.args.session c.args.memory.now in
    let now : Desk = record first { memory = c.loop-next.memory } in
    let count = tail_listed plan given first may.goes c.requires.product c.product_steps-of_product.result.now c.product_steps-of_product.ensures in
    let n = c.in-Take.number in
    let i = c.in-Take.share in
    let e : Desk = taken_on now (c.loop-next.next - c.args.place.now.done) in
    let goes : IsDeskOfPlan plan given e = record { same = may.goes.same; desk = (c.loop-next.invariant.3 given c.requires.may.1 may).desk } in
    let is : instruction_at given e ≡ Take n i = takes_next plan given first now may.goes c.requires.product c.loop-next.next c.loop-next.invariant.0 (omega (arith, count, c.loop-next-test.true)) refl (Take n i) (sym c.in-Take.is ∙ c.product_step-step.ensures) in
    (goes_proper plan given e goes (Take n i) (sym is)).share

pub loop-next-preserved : goal.loop-next-preserved
loop-next-preserved g c = (
  omega (arith, c.loop-next.invariant.0),
  omega (arith, c.loop-next-test.true),
  c.take.ensures.seat,
  (λ given some may.
      let plan = c.args.plan.now in
      let first : Desk = with_parts some c.args.program.now c.args.place.now c.args.session c.args.memory.now in
      let d : Desk = record first { memory = c.loop-next.memory } in
      let m = c.add.new.self in
      let n = c.in-Take.number in
      let i = c.in-Take.share in
      let w = c.in-Some.word in
      let moves : ℕ = c.loop-next.next - c.args.place.now.done in
      let so_far = c.loop-next.invariant.3 given some may in
      let e : Desk = taken_on d moves in
      let f : Desk = taken_on (record d { memory = m }) (moves + 1) in
      let goes : IsDeskOfPlan plan given e = record { same = may.goes.same; desk = so_far.desk } in
      let count = tail_listed plan given first may.goes c.requires.product c.product_steps-of_product.result.now c.product_steps-of_product.ensures in
      let left : c.loop-next.next + 1 < c.args.place.now.count = omega (arith, count, c.loop-next-test.true) in
      let is : instruction_at given e ≡ Take n i = takes_next plan given first d may.goes c.requires.product c.loop-next.next c.loop-next.invariant.0 (omega (arith, left)) refl (Take n i) (sym c.in-Take.is ∙ c.product_step-step.ensures) in
      let more : c.args.place.now.done + moves + 1 < c.args.place.now.count = omega (arith, left, c.loop-next.invariant.0) in
      let word = took_given w (given.got n) (slice_get (g.W.Promise.list c.args.board.now.about.world) n) c.in-Some.ensures.promised (may.promises.takes e.position n i is) in
      let fits : IsMemoryOf given.plan d.session m = subst (λ (z : Plan). IsMemoryOf z d.session m) (sym may.goes.same) c.add.ensures.fits in
      let within = product_within plan given first may.goes c.requires.product in
      let of_slot = product_taken plan given e goes within c.requires.product.1 n i w is m c.add.ensures.state in
      let state : Alike (length given.plan.groups) (state_of (length given.plan.groups) m) (on_rows (row_of d.memory) (sets_in (session given.plan d.session) (taking_slot given.plan n)) (took_in given.plan d.session (taking_slot given.plan n) i w) (state_of (length given.plan.groups) d.memory)) =
      subst (λ (z : Plan). Alike (length z.groups) (state_of (length z.groups) m) (on_rows (row_of d.memory) (sets_in (session z d.session) (taking_slot z n)) (took_in z d.session (taking_slot z n) i w) (state_of (length z.groups) d.memory))) (sym may.goes.same) of_slot in
      let next : moves + 1 ≡ c.loop-next.next + 1 - c.args.place.now.done = omega (arith, c.loop-next.invariant.0) in
      subst (λ k. Walks given c.args.seat.now first c.take.new.seat (taken_on (record d { memory = m }) k)) next
      (walks_on given c.args.seat.now c.loop-next.seat c.take.new.seat first e f so_far
      (take_walks given c.loop-next.seat c.take.new.seat e f so_far.desk n i w is word c.in-Some.ensures.view
      (taken_more given d moves more n i w m so_far.desk fits c.add.ensures.kept state)))),
  (λ none. absurd (omega (arith, none, c.loop-next.invariant.0))),
)

-- ---- where a cell is empty

pub returns-in_default-take-clause-left : goal.returns-in_default-take-clause-left
returns-in_default-take-clause-left g c =
    let first : Desk = with_parts c.requires.may.1 c.args.program.now c.args.place.now c.args.session c.args.memory.now in
    let count = tail_listed c.args.plan.now c.requires.may.0 first c.requires.may.2.goes c.requires.product c.product_steps-of_product.result.now c.product_steps-of_product.ensures in
    omega (arith, count, c.loop-next-test.true)

pub returns-in_default-take-clause-walks : goal.returns-in_default-take-clause-walks
returns-in_default-take-clause-walks g c given some may =
    let first : Desk = with_parts some c.args.program.now c.args.place.now c.args.session c.args.memory.now in
    let e : Desk = taken_on (record first { memory = c.loop-next.memory }) (c.loop-next.next - c.args.place.now.done) in
    look_walks given c.args.seat.now c.loop-next.seat c.take.new.seat first e _ _ c.in_default-take.ensures.view.2 (c.loop-next.invariant.3 given some may)

pub returns-in_default-take-clause-waits : goal.returns-in_default-take-clause-waits
returns-in_default-take-clause-waits g c more given some may =
    let first : Desk = with_parts some c.args.program.now c.args.place.now c.args.session c.args.memory.now in
    let now : Desk = record first { memory = c.loop-next.memory } in
    record {
      number = c.in-Take.number;
      share = c.in-Take.share;
      is = takes_next c.args.plan.now given first now may.goes c.requires.product c.loop-next.next c.loop-next.invariant.0 (omega (arith, more)) refl (Take c.in-Take.number c.in-Take.share) (sym c.in-Take.is ∙ c.product_step-step.ensures);
    }

pub returns-in_default-take-clause-looked : goal.returns-in_default-take-clause-looked
returns-in_default-take-clause-looked g c given some may product n i w is known =
    let first : Desk = with_parts some c.args.program.now c.args.place.now c.args.session c.args.memory.now in
    let now : Desk = record first { memory = c.loop-next.memory } in
    let count = tail_listed c.args.plan.now given first may.goes c.requires.product c.product_steps-of_product.result.now c.product_steps-of_product.ensures in
    let both : Take c.in-Take.number c.in-Take.share ≡ Take n i =
    sym (takes_next c.args.plan.now given first now may.goes c.requires.product c.loop-next.next c.loop-next.invariant.0 (omega (arith, count, c.loop-next-test.true)) refl (Take c.in-Take.number c.in-Take.share) (sym c.in-Take.is ∙ c.product_step-step.ensures)) ∙ is in
    let number : n ≡ c.in-Take.number = cc in
    let before : Knows c.loop-next.seat.view.seen n w = subst (λ (v : View g.row.W.Denot). Knows v.seen n w) c.in_default-take.ensures.view.2 known in
    c.in_default-take.not-Some w (c.take.ensures.known w (subst (λ z. Knows c.loop-next.seat.view.seen z w) number before))

-- ---- at the sum

pub returns-clause-left : goal.returns-clause-left
returns-clause-left g c =
    let first : Desk = with_parts c.requires.may.1 c.args.program.now c.args.place.now c.args.session c.args.memory.now in
    let count = tail_listed c.args.plan.now c.requires.may.0 first c.requires.may.2.goes c.requires.product c.product_steps-of_product.result.now c.product_steps-of_product.ensures in
    let some = c.requires.product.2 in
    omega (arith, count, some, c.loop-next.invariant.1)

pub returns-clause-waits : goal.returns-clause-waits
returns-clause-waits g c more given some may =
    let first : Desk = with_parts some c.args.program.now c.args.place.now c.args.session c.args.memory.now in
    let count = tail_listed c.args.plan.now given first may.goes c.requires.product c.product_steps-of_product.result.now c.product_steps-of_product.ensures in
    absurd (omega (arith, count, more, c.loop-next-test.false))

pub returns-clause-looked : goal.returns-clause-looked
returns-clause-looked g c given some may product n i w is known =
    let first : Desk = with_parts some c.args.program.now c.args.place.now c.args.session c.args.memory.now in
    let e : Desk = taken_on (record first { memory = c.loop-next.memory }) (c.loop-next.next - c.args.place.now.done) in
    let count = tail_listed c.args.plan.now given first may.goes c.requires.product c.product_steps-of_product.result.now c.product_steps-of_product.ensures in
    let its = c.requires.product in
    let left = its.2 in
    none_at_sum given e (c.loop-next.invariant.3 given some may).desk (its.0, its.1, omega (arith, count, left, c.loop-next.invariant.0, c.loop-next.invariant.1))
    (omega (arith, count, left, c.loop-next.invariant.0, c.loop-next.invariant.1, c.loop-next-test.false)) n i is

pub overflow_add-next : goal.overflow_add-next
overflow_add-next g c =
    let first : Desk = with_parts c.requires.may.1 c.args.program.now c.args.place.now c.args.session c.args.memory.now in
    let goes = c.requires.may.2.goes in
    let count = tail_listed c.args.plan.now c.requires.may.0 first goes c.requires.product c.product_steps-of_product.result.now c.product_steps-of_product.ensures in
    let few = half_few c.requires.may.0 first goes.desk c.requires.product.2 in
    omega (arith, count, few, c.loop-next-test.true)
