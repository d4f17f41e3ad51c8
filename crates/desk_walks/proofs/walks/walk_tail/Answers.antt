use Rattle.std.proofs.Common.{◌≡◌, ◌≤◌, true, false, sym, ap, ◌∙◌, inl, inr, arith}
use Rattle.std.specs.Prelude.{not}
use Rattle.std.proofs.lemmas.Bool.{cases_lt, lt-ltb}
use Rattle.program_model.specs.declared.half.Half.TheVariants.{Head, Tail}
use Rattle.program_model.specs.declared.instruction.Instruction.TheVariants.{Take, End}
use Rattle.party_program.proofs.ProgramPlaces.{ends_there}
use Rattle.desk_walks.proofs.GateWalks.{computes_walk, rest_walks, walks_on}
use Rattle.desk_walks.proofs.ComputedGates.{linear_here, none_past, own_here, sum_here, waits_through}
use Rattle.desk_walks.proofs.walks.walk_tail.Goals as goal

-- a tail of another pattern has nothing of a gate
pub returns-in_default-clause-went : goal.returns-in_default-clause-went
returns-in_default-clause-went g c given may =
    let d = c.args.desk.now in
    let desk = may.goes.desk in
    record {
      walks = rest_walks given c.args.seat.now d desk;
      on = λ z. absurd cc;
      through = λ z. (
        (λ k is. let clash : Head ≡ Tail = sym (own_here given d desk k is).0 ∙ c.requires.tail in cc),
        (λ k is. c.in_default.not-Multiplied (c.pattern.ensures ∙ (sum_here given d desk k is).1)),
        (λ k is. let clash : Head ≡ Tail = sym (linear_here given d desk k is).0 ∙ c.requires.tail in cc),
      );
      looked = λ z product n i w is known. c.in_default.not-Multiplied (c.pattern.ensures ∙ product);
    }

-- past all instructions no take comes next
pub returns-then-is_past-clause-went : goal.returns-then-is_past-clause-went
returns-then-is_past-clause-went g c given may =
    let d = c.args.desk.now in
    let past : d.place.count ≤ d.place.done = elim (cases_lt d.place.done d.place.count) [
      | inl left ↦ absurd (let clash : true ≡ false = sym c.if-is_past.true ∙ c.is_past.ensures.done ∙ ap not (lt-ltb d.place.done d.place.count left) in cc)
      | inr none ↦ none
    ] in
    record {
      walks = rest_walks given c.args.seat.now d may.goes.desk;
      on = λ z. absurd cc;
      through = λ z. none_past given d may.goes.desk past;
      looked = λ z product n i w is known.
          let clash : Take n i ≡ End = sym is ∙ ends_there given.plan given.party given.session d.place d.position may.goes.desk.place past in
          cc;
    }

pub returns-then-not-take_each-clause-went : goal.returns-then-not-take_each-clause-went
returns-then-not-take_each-clause-went g c given may = record {
  walks = c.take_each.ensures.walks given may;
  on = λ z. absurd cc;
  through = λ z. waits_through given c.take_each.new.desk (c.take_each.ensures.waits c.if-not-take_each.true given may);
  looked = λ z. c.take_each.ensures.looked given may;
}

pub sum_next-requires-clause-goes : goal.sum_next-requires-clause-goes
sum_next-requires-clause-goes g c =
    let given = c.requires.may.0 in
    let may = c.requires.may.1 in
    (given, record { same = may.goes.same; desk = (c.take_each.ensures.walks given may).desk })

pub returns-clause-went : goal.returns-clause-went
returns-clause-went g c given may =
    let took = c.take_each.ensures.walks given may in
    record {
      walks = walks_on given c.args.seat.now c.take_each.new.seat c.take_each.new.seat c.args.desk.now c.take_each.new.desk c.sum_next.new.desk took
          (computes_walk given c.take_each.new.seat c.take_each.new.desk c.sum_next.new.desk (c.sum_next.ensures.computes given (record { same = may.goes.same; desk = took.desk })));
      on = λ z. (let forth = took.forth in let more = c.sum_next.ensures.on in omega (arith, forth, more));
      through = λ z. absurd cc;
      looked = λ z. absurd cc;
    }

pub returns-clause-still : goal.returns-clause-still
returns-clause-still g c same =
    let forth = (c.take_each.ensures.walks c.requires.may.0 c.requires.may.1).forth in
    let more = c.sum_next.ensures.on in
    absurd (omega (arith, forth, more, same))
