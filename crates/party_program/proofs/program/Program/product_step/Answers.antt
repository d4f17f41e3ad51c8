use Rattle.std.proofs.Common.{◌≡◌, ℕ, ◌-◌, ◌<◌, ◌^◌, sym, ap, ◌∙◌, subst}
use Rattle.std.specs.Prelude.{slice_index_or}
use Rattle.plan_model.specs.declared.pattern.Pattern.TheVariants.{Multiplied}
use Rattle.plan_model.specs.Numbers.{deals_before}
use Rattle.plan_model.specs.Patterns.{pattern_at}
use Rattle.plan_model.specs.Plans.{Plan, slots}
use Rattle.party_program.specs.declared.place.Place.{Place}
use Rattle.party_program.specs.declared.program.Program.{Program}
use Rattle.party_program.specs.declared.step.Step.TheVariants.{Draw}
use Rattle.party_program.specs.PartySteps.{placed, IsPlaced}
use Rattle.party_program.specs.ProgramPlaces.{count_in, IsPlace}
use Rattle.party_program.proofs.GateSlots.{counts_within}
use Rattle.party_program.proofs.FoundSteps.{found_within, fits, instruction}
use Rattle.party_program.proofs.program.Program.product_step.Goals as goal

-- a place at a product, whose half has an instruction of this number
module _ (plan : Plan) (own : Program) (place : Place) (q i : ℕ) (here : IsPlace plan own.party own.session place q) (left : i < place.count) (product : place.pattern ≡ Multiplied) where
  there : place.slot < slots plan own.session
  there = counts_within plan own.party own.session place i q here left

  same : Multiplied ≡ pattern_at plan own.session place.slot
  same = sym product ∙ here.pattern there

  some : i < count_in plan own.party own.session place.half place.slot
  some = subst (λ n. i < n) here.count left

pub bounds-of_product-at : goal.bounds-of_product-at
bounds-of_product-at c =
    let plan = c.args.plan.now in
    let own = c.args.self.now in
    let place = c.args.place.now in
    let q = c.requires.place.0 in
    let here = c.requires.place.1 in
    found_within plan own c.requires.is place.half place.slot (there plan own place q c.args.at here c.requires.left c.requires.product) Multiplied (same plan own place q c.args.at here c.requires.left c.requires.product)
    c.args.of_product.now c.requires.steps c.args.at (some plan own place q c.args.at here c.requires.left c.requires.product)

pub placed-requires-clause-slot : goal.placed-requires-clause-slot
placed-requires-clause-slot c = there c.args.plan.now c.args.self.now c.args.place.now c.requires.place.0 c.args.at c.requires.place.1 c.requires.left c.requires.product

pub placed-requires-clause-fits : goal.placed-requires-clause-fits
placed-requires-clause-fits c =
    let plan = c.args.plan.now in
    let own = c.args.self.now in
    let place = c.args.place.now in
    let q = c.requires.place.0 in
    let here = c.requires.place.1 in
    subst (λ n. IsPlaced (2 ^ 32 - n) (slice_index_or c.args.of_product.now c.args.at Draw)) (sym here.first)
    (fits plan own c.requires.is place.half place.slot (there plan own place q c.args.at here c.requires.left c.requires.product) Multiplied (same plan own place q c.args.at here c.requires.left c.requires.product)
    c.args.of_product.now c.requires.steps c.args.at (some plan own place q c.args.at here c.requires.left c.requires.product))

pub returns : goal.returns
returns c =
    let plan = c.args.plan.now in
    let own = c.args.self.now in
    let place = c.args.place.now in
    let q = c.requires.place.0 in
    let here = c.requires.place.1 in
    c.placed.ensures
    ∙ ap (λ n. placed place.slot n (deals_before plan own.party own.session place.slot) (slice_index_or c.args.of_product.now c.args.at Draw)) here.first
    ∙ instruction plan own c.requires.is place.half place.slot (there plan own place q c.args.at here c.requires.left c.requires.product) Multiplied
    (same plan own place q c.args.at here c.requires.left c.requires.product) c.args.of_product.now c.requires.steps c.args.at (some plan own place q c.args.at here c.requires.left c.requires.product)
