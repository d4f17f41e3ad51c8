use Rattle.std.proofs.Common.{◌≡◌, ℕ, zero, suc, ◌<◌, ◌-◌, ◌^◌, List, length, refl, sym, ap, ◌∙◌, subst, arith}
use Rattle.std.specs.Prelude.{slice_index_or}
use Rattle.plan_model.specs.Plans.{Plan, slots}
use Rattle.plan_model.specs.Numbers.{deals_before}
use Rattle.plan_model.specs.Patterns.{pattern_at}
use Rattle.plan_model.specs.declared.pattern.Pattern.TheVariants.{Silent}
use Rattle.program_model.specs.declared.half.Half.{Half}
use Rattle.program_model.specs.declared.half.Half.TheVariants.{Head, Tail}
use Rattle.party_program.specs.declared.place.Place.{Place}
use Rattle.party_program.specs.declared.program.Program.{Program}
use Rattle.party_program.specs.declared.step.Step.{Step}
use Rattle.party_program.specs.declared.step.Step.TheVariants.{Draw, Linear}
use Rattle.program_model.specs.Programs.{first_named, program, at}
use Rattle.party_program.specs.PartySteps.{steps, placed, IsPlaced}
use Rattle.party_program.specs.ProgramPlaces.{IsPlace, IsProgram}
use Rattle.party_program.proofs.ProgramPlaces.{in_slot, ends_there, instruction_is}
use Rattle.party_program.proofs.FoundSteps.{occurs, found_within, fits, instruction}
use Rattle.party_program.proofs.program.Program.instruction_at.Goals as goal

-- a place with a step left
module _ (plan : Plan) (own : Program) (place : Place) (is : IsProgram plan own.party own.session own) (q : ℕ) (here : IsPlace plan own.party own.session place q) (left : place.done < place.count) where
  there : place.slot < slots plan own.session
  there = in_slot plan own.party own.session place q here left

  same : place.pattern ≡ pattern_at plan own.session place.slot
  same = here.pattern there

-- the steps of a linear gate: one, in its head
silent_step : (plan : Plan) (p : ℕ) (half : Half) (i : ℕ) → i < length (steps plan p half Silent) → slice_index_or (steps plan p half Silent) i Draw ≡ Linear
silent_step plan p Head zero l = refl
silent_step plan p Head (suc i) l = absurd (omega (arith, l))
silent_step plan p Tail i l = absurd (omega (arith, l))

pub returns-then-place : goal.returns-then-place
returns-then-place c = λ q here. sym (ends_there c.args.plan.now c.args.self.now.party c.args.self.now.session c.args.place.now q here c.if-place.true)

pub returns-in-Silent : goal.returns-in-Silent
returns-in-Silent c = λ q here.
    let plan = c.args.plan.now in
    let own = c.args.self.now in
    let place = c.args.place.now in
    let left = c.if-place.false in
    let l = there plan own place c.requires.is q here left in
    let is : Silent ≡ pattern_at plan own.session place.slot = sym c.in-Silent.is ∙ same plan own place c.requires.is q here left in
    let some = subst (λ n. place.done < n) here.count left in
    let within = found_within plan own c.requires.is place.half place.slot l Silent is (steps plan own.party place.half Silent) refl place.done some in
    sym (instruction_is plan own.party own.session place q here left
    ∙ sym (instruction plan own c.requires.is place.half place.slot l Silent is (steps plan own.party place.half Silent) refl place.done some)
    ∙ ap (placed place.slot (first_named plan own.session place.slot) (deals_before plan own.party own.session place.slot)) (silent_step plan own.party place.half place.done within))

pub of-requires : goal.of-requires
of-requires c =
    let plan = c.args.plan.now in
    let own = c.args.self.now in
    let place = c.args.place.now in
    let here = c.requires.place.1 in
    let q = c.requires.place.0 in (
      plan,
      own.party,
      own.session,
      place.half,
      c.table.ensures plan own.party own.session c.requires.is,
      occurs plan own c.requires.is place.half place.slot (there plan own place c.requires.is q here c.if-place.false) place.pattern (same plan own place c.requires.is q here c.if-place.false),
    )

-- the steps that were found
module _ (plan : Plan) (own : Program) (place : Place) (is : IsProgram plan own.party own.session own) (q : ℕ) (here : IsPlace plan own.party own.session place q) (left : place.done < place.count) (found : List Step)
    (of : found ≡ steps plan own.party place.half place.pattern) where
  l : place.slot < slots plan own.session
  l = there plan own place is q here left

  pub step_within : place.done < length found
  step_within = found_within plan own is place.half place.slot l place.pattern (same plan own place is q here left) found of place.done (subst (λ n. place.done < n) here.count left)

  pub step_fits : IsPlaced (2 ^ 32 - place.first) (slice_index_or found place.done Draw)
  step_fits =
      subst (λ n. IsPlaced (2 ^ 32 - n) (slice_index_or found place.done Draw)) (sym here.first)
      (fits plan own is place.half place.slot l place.pattern (same plan own place is q here left) found of place.done (subst (λ n. place.done < n) here.count left))

  pub step_is : placed place.slot place.first (deals_before plan own.party own.session place.slot) (slice_index_or found place.done Draw) ≡ at (program plan own.party own.session) q
  step_is =
      ap (λ n. placed place.slot n (deals_before plan own.party own.session place.slot) (slice_index_or found place.done Draw)) here.first
      ∙ instruction plan own is place.half place.slot l place.pattern (same plan own place is q here left) found of place.done (subst (λ n. place.done < n) here.count left)
      ∙ sym (instruction_is plan own.party own.session place q here left)

pub bounds-of-place : goal.bounds-of-place
bounds-of-place c =
    let plan = c.args.plan.now in
    let own = c.args.self.now in
    let place = c.args.place.now in
    let of = c.of.ensures plan own.party own.session place.half (c.table.ensures plan own.party own.session c.requires.is)
    (occurs plan own c.requires.is place.half place.slot (there plan own place c.requires.is c.requires.place.0 c.requires.place.1 c.if-place.false) place.pattern
    (same plan own place c.requires.is c.requires.place.0 c.requires.place.1 c.if-place.false)) in
    step_within plan own place c.requires.is c.requires.place.0 c.requires.place.1 c.if-place.false c.of.result.now of

pub placed-requires-clause-slot : goal.placed-requires-clause-slot
placed-requires-clause-slot c = there c.args.plan.now c.args.self.now c.args.place.now c.requires.is c.requires.place.0 c.requires.place.1 c.if-place.false

pub placed-requires-clause-fits : goal.placed-requires-clause-fits
placed-requires-clause-fits c =
    let plan = c.args.plan.now in
    let own = c.args.self.now in
    let place = c.args.place.now in
    let of = c.of.ensures plan own.party own.session place.half (c.table.ensures plan own.party own.session c.requires.is)
    (occurs plan own c.requires.is place.half place.slot (there plan own place c.requires.is c.requires.place.0 c.requires.place.1 c.if-place.false) place.pattern
    (same plan own place c.requires.is c.requires.place.0 c.requires.place.1 c.if-place.false)) in
    step_fits plan own place c.requires.is c.requires.place.0 c.requires.place.1 c.if-place.false c.of.result.now of

pub returns : goal.returns
returns c = λ q here.
    let plan = c.args.plan.now in
    let own = c.args.self.now in
    let place = c.args.place.now in
    let of = c.of.ensures plan own.party own.session place.half (c.table.ensures plan own.party own.session c.requires.is)
    (occurs plan own c.requires.is place.half place.slot (there plan own place c.requires.is q here c.if-place.false) place.pattern (same plan own place c.requires.is q here c.if-place.false)) in
    c.placed.ensures ∙ step_is plan own place c.requires.is q here c.if-place.false c.of.result.now of
