use Rattle.std.proofs.Common.{length, sym, ◌∙◌, arith}
use Rattle.std.proofs.lemmas.Bool.{cases_lt, le-leb, lt-leb, eq-eqb, ne_eqb}
use mathlib.Core.Logic.{inl, inr}
use Rattle.program_model.specs.Programs.{program}
use Rattle.party_program.proofs.ProgramPlaces.{before_end, past_is}
use Rattle.party_program.proofs.place.Place.is_past.Goals as goal

pub returns-clause-ends : goal.returns-clause-ends
returns-clause-ends c = λ plan p s q here short.
    let place = c.args.self.now in
    elim (cases_lt place.done place.count) [
      | inl left ↦
          let early = before_end plan p s place q here left in
          lt-leb place.count place.done left ∙ sym (ne_eqb q (length (program plan p s)) (λ e. omega (arith, e, early)))
      | inr none ↦ le-leb place.count place.done none ∙ sym (eq-eqb q (length (program plan p s)) (let past = past_is plan p s place q here none in omega (arith, past, short)))
    ]
