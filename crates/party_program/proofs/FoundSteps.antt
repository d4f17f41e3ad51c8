-- The steps that a program finds for a place, or for a slot.
use Rattle.std.proofs.Common.{◌≡◌, ℕ, ◌+◌, ◌-◌, ◌<◌, ◌^◌, List, length, sym, ap, ◌∙◌, subst, inl, inr, arith}
use Rattle.std.specs.Prelude.{slice_index_or}
use Rattle.std.proofs.lemmas.Bool.{cases_lt}
use Rattle.plan_model.specs.Plans.{Plan, slots}
use Rattle.plan_model.proofs.PlanSchemes.{plan_is}
use Rattle.plan_model.specs.Numbers.{deals_before}
use Rattle.plan_model.specs.Patterns.{pattern_at}
use Rattle.plan_model.specs.declared.pattern.Pattern.{Pattern}
use Rattle.program_model.specs.declared.half.Half.{Half}
use Rattle.program_model.specs.declared.half.Half.TheVariants.{Head, Tail}
use Rattle.party_program.specs.declared.program.Program.{Program}
use Rattle.program_model.specs.declared.instruction.Instruction.TheVariants.{End}
use Rattle.party_program.specs.declared.step.Step.{Step}
use Rattle.party_program.specs.declared.step.Step.TheVariants.{Draw}
use Rattle.program_model.specs.Programs.{first_named, half_program, instructions_before}
use Rattle.party_program.specs.PartySteps.{steps, placed, IsPlaced}
use Rattle.party_program.specs.ProgramPlaces.{halves_before, count_in, OccursIn, IsProgram}
use Rattle.party_program.proofs.ProgramPlaces.{before_more, both_before, count_at, length-half, step_fits, step_is}
use Rattle.party_program.proofs.OccurringPatterns.{occurs_in}
use Rattle.program_model.proofs.ShortPrograms.{few_instructions}

-- half a slot has few instructions
pub few_in_half : (plan : Plan) (own : Program) (is : IsProgram plan own.party own.session own) (half : Half) (k : ℕ) → k < slots plan own.session → length (half_program plan own.party own.session half k) < 4294967296
few_in_half plan own is half k lk =
    let bound = few_instructions plan own.party own.session (k + 1) is.sound is.session_there (omega (arith, lk)) in
    let both = both_before plan own.party own.session (k + 1) in
    of_half half bound both (before_more plan own.party own.session half k)
  where
    of_half : (half : Half) → instructions_before plan own.party own.session (k + 1) < 4294967295 → instructions_before plan own.party own.session (k + 1) ≡ halves_before plan own.party own.session Head (k + 1) + halves_before plan own.party own.session Tail (k + 1)
        → halves_before plan own.party own.session half (k + 1) ≡ halves_before plan own.party own.session half k + length (half_program plan own.party own.session half k)
        → length (half_program plan own.party own.session half k) < 4294967296
    of_half Head bound both more = omega (arith, bound, both, more)
    of_half Tail bound both more = omega (arith, bound, both, more)

-- steps that were found for a slot's pattern
module _ (plan : Plan) (own : Program) (is : IsProgram plan own.party own.session own) (half : Half) (k : ℕ) (lk : k < slots plan own.session) (its : Pattern) (same : its ≡ pattern_at plan own.session k) where
  pub occurs : OccursIn plan own.session its
  occurs = occurs_in plan own.session k its is.sound is.session_there lk same

  -- a count that was told for the pattern is that of the half's instructions
  module _ (count : ℕ) (told : 0 < count → count ≡ length (steps plan own.party half its)) where
    pub told_many : 0 < count → count ≡ length (half_program plan own.party own.session half k)
    told_many some = told some ∙ ap (λ pattern. length (steps plan own.party half pattern)) same ∙ sym (length-half plan own.party own.session half k (plan_is plan is.sound) is.session_there lk)

    pub told_few : count < 4294967296
    told_few = elim (cases_lt 0 count) [
      | inl some ↦ let all = told_many some in let bound = few_in_half plan own is half k lk in omega (arith, all, bound)
      | inr none ↦ omega (arith, none)
    ]

    pub told_count : 0 < count → count ≡ count_in plan own.party own.session half k
    told_count some = told_many some ∙ sym (count_at plan own.party own.session half k lk)

  module _ (found : List Step) (of : found ≡ steps plan own.party half its) where
    pub are : found ≡ steps plan own.party half (pattern_at plan own.session k)
    are = of ∙ ap (steps plan own.party half) same

    pub as_many : length found ≡ length (half_program plan own.party own.session half k)
    as_many = ap (length {A = Step}) are ∙ sym (length-half plan own.party own.session half k (plan_is plan is.sound) is.session_there lk)

    pub counted : length found ≡ count_in plan own.party own.session half k
    counted = as_many ∙ sym (count_at plan own.party own.session half k lk)

    pub few : length found < 4294967296
    few = let all = as_many in let bound = few_in_half plan own is half k lk in omega (arith, all, bound)

    module _ (i : ℕ) (left : i < count_in plan own.party own.session half k) where
      pub found_within : i < length found
      found_within = let all = counted in omega (arith, all, left)

      within : i < length (steps plan own.party half (pattern_at plan own.session k))
      within = subst (λ (xs : List Step). i < length xs) are found_within

      pub fits : IsPlaced (2 ^ 32 - first_named plan own.session k) (slice_index_or found i Draw)
      fits = subst (λ xs. IsPlaced (2 ^ 32 - first_named plan own.session k) (slice_index_or xs i Draw)) (sym are) (step_fits plan own.party own.session half k (plan_is plan is.sound) is.session_there lk i Draw is.sound within)

      pub instruction : placed k (first_named plan own.session k) (deals_before plan own.party own.session k) (slice_index_or found i Draw) ≡ slice_index_or (half_program plan own.party own.session half k) i End
      instruction =
          ap (λ xs. placed k (first_named plan own.session k) (deals_before plan own.party own.session k) (slice_index_or xs i Draw)) are
          ∙ sym (step_is plan own.party own.session half k (plan_is plan is.sound) is.session_there lk i Draw within)
