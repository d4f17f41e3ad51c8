use Rattle.std.proofs.Common.{◌≡◌, ℕ, ◌+◌, ◌-◌, ◌<◌, true, false, sym, ap, ◌∙◌, subst, inl, inr, arith}
use Rattle.std.proofs.lemmas.Bool.{cases_lt, eq-eqb}
use Rattle.party_desk.specs.declared.desk.Desk.{Desk}
use Rattle.desk_walks.specs.Walks.{HasLooked, IsAtTake, Walks, taken_on}
use Rattle.party_desk.proofs.AllowedSteps.{stands}
use Rattle.desk_walks.proofs.walks.take_each.Goals as goal

pub take_words-next-requires-clause-may : goal.take_words-next-requires-clause-may
take_words-next-requires-clause-may g c = (c.requires.may.0, c.args.desk.now, c.requires.may.1)

pub overflow_add-desk-2 : goal.overflow_add-desk-2
overflow_add-desk-2 g c =
    let takes = c.take_words-next in
    let given = c.requires.may.0 in
    let d : Desk = record c.args.desk.now { memory = takes.new.memory } in
    let there = stands given (taken_on d (takes.result - d.place.done)) (takes.ensures.walks given c.args.desk.now c.requires.may.1).desk in
    let few = there.position in
    let taken = there.taken in
    omega (arith, few, taken, c.done.ensures)

pub returns-clause-walks : goal.returns-clause-walks
returns-clause-walks g c given may =
    let takes = c.take_words-next in
    let d : Desk = record c.args.desk.now { memory = takes.new.memory } in
    let moves : ℕ = takes.result - c.done.result in
    subst (λ z. Walks given c.args.seat.now c.args.desk.now takes.new.seat (record d { place = z; position = d.position + moves; taken = d.taken + moves })) (sym c.skip.ensures)
    (subst (λ n. Walks given c.args.seat.now c.args.desk.now takes.new.seat (taken_on d (takes.result - n))) (sym c.done.ensures) (takes.ensures.walks given c.args.desk.now may))

pub returns-clause-looked : goal.returns-clause-looked
returns-clause-looked g c given may =
    let takes = c.take_words-next in
    let d : Desk = record c.args.desk.now { memory = takes.new.memory } in
    let moves : ℕ = takes.result - c.done.result in
    subst (λ z. HasLooked given takes.new.seat (record d { place = z; position = d.position + moves; taken = d.taken + moves })) (sym c.skip.ensures)
    (subst (λ n. HasLooked given takes.new.seat (taken_on d (takes.result - n))) (sym c.done.ensures) (takes.ensures.looked given c.args.desk.now may))

pub returns-clause-waits : goal.returns-clause-waits
returns-clause-waits g c stops given may =
    let takes = c.take_words-next in
    let d : Desk = record c.args.desk.now { memory = takes.new.memory } in
    let moves : ℕ = takes.result - c.done.result in
    let done = ap (λ z. z.done) c.skip.ensures in
    let count = ap (λ z. z.count) c.skip.ensures in
    let more : takes.result + 1 < d.place.count = elim (cases_lt (takes.result + 1) d.place.count) [
      | inl less ↦ less
      | inr past ↦ absurd (
          let last : c.skip.new.self.done + 1 ≡ c.skip.new.self.count = omega (arith, past, done, count, c.done.ensures, takes.ensures.left, takes.ensures.forth) in
          let clash : true ≡ false = sym (eq-eqb (c.skip.new.self.done + 1) c.skip.new.self.count last) ∙ sym c.is_last.ensures ∙ stops in
          cc)
    ] in
    subst (λ z. IsAtTake given (record d { place = z; position = d.position + moves; taken = d.taken + moves })) (sym c.skip.ensures)
    (subst (λ n. IsAtTake given (taken_on d (takes.result - n))) (sym c.done.ensures) (takes.ensures.waits more given c.args.desk.now may))
