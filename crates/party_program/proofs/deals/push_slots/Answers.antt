use Rattle.std.proofs.Common.{◌≡◌, ℕ, ◌+◌, ◌<◌, if◌then◌else◌, List, length, sym, ap, ◌∙◌, arith}
use Rattle.std.proofs.lemmas.List.{length-append}
use Rattle.plan_model.specs.Plans.{Plan, slot, slots, deals_in}
use Rattle.plan_model.specs.Sound.{IsSound}
use Rattle.plan_model.specs.Patterns.{pattern_at}
use Rattle.plan_model.specs.declared.pattern.Pattern.{Pattern}
use Rattle.program_model.specs.declared.half.Half.{Half}
use Rattle.program_model.specs.declared.half.Half.TheVariants.{Head, Tail}
use Rattle.party_program.specs.declared.step_table.StepTable.{StepTable}
use Rattle.party_program.specs.declared.step.Step.{Step}
use Rattle.program_model.specs.Programs.{head, tail, slot_program}
use Rattle.party_program.specs.PartySteps.{deals_in_pattern, steps}
use Rattle.party_program.specs.ProgramPlaces.{AreSteps, OccursIn}
use Rattle.plan_model.proofs.PlanSchemes.{plan_is}
use Rattle.party_program.proofs.OccurringPatterns.{steps_found, deals_by_pattern}
use Rattle.party_program.proofs.ProgramPlaces.{length-half}
use Rattle.party_program.proofs.GrownDeals.{as_number, room_left, instructions_fit, one_more}
use Rattle.party_program.proofs.deals.push_slots.Goals as goal

pub push_reserved-requires : goal.push_reserved-requires
push_reserved-requires c = room_left c.args.own.now.plan.now c.args.own.now.party c.args.own.now.session c.loop-k.k c.loop-k.list c.loop-k.tally c.loop-k.invariant (omega (arith, c.requires.slots.1))

-- the steps that were found for both halves of a slot are as many as its instructions
module _ (plan : Plan) (p s k : ℕ) (heads ends : StepTable) (are_heads : AreSteps plan p s Head heads) (are_tails : AreSteps plan p s Tail ends) (sound : IsSound plan) (ls : s < length plan.sessions) (lk : k < slots plan s)
    (its : Pattern) (is : its ≡ pattern_at plan s k) (a b : List Step) (of_head : (plan : Plan) (p s : ℕ) (half : Half) → AreSteps plan p s half heads → OccursIn plan s its → a ≡ steps plan p half its)
    (of_tail : (plan : Plan) (p s : ℕ) (half : Half) → AreSteps plan p s half ends → OccursIn plan s its → b ≡ steps plan p half its) where
  pub as_many : length a + length b ≡ length (slot_program plan p s k)
  as_many =
      let in_head = ap (length {A = Step}) (steps_found plan s p k Head its heads a are_heads sound ls lk is of_head) ∙ sym (length-half plan p s Head k (plan_is plan sound) ls lk) in
      let in_tail = ap (length {A = Step}) (steps_found plan s p k Tail its ends b are_tails sound ls lk is of_tail) ∙ sym (length-half plan p s Tail k (plan_is plan sound) ls lk) in
      let both = length-append (head plan p s k) (tail plan p s k) in
      omega (arith, in_head, in_tail, both)

pub overflow_add-tally-in-loop-k : goal.overflow_add-tally-in-loop-k
overflow_add-tally-in-loop-k c =
    let plan = c.args.own.now.plan.now in
    let k = c.loop-k.k in
    let lk : k < slots plan c.args.own.now.session = omega (arith, c.requires.slots.1) in
    let its = c.pattern-pattern in
    let all = as_many plan c.args.own.now.party c.args.own.now.session k c.args.own.now.heads.now c.args.own.now.tails.now c.requires.steps.heads c.requires.steps.tails c.recall.ensures c.requires.steps.session lk its.result its.ensures.is c.of.result.now c.of-in-loop-k.result.now c.of.ensures c.of-in-loop-k.ensures in
    let fits = instructions_fit plan c.args.own.now.party c.args.own.now.session k c.loop-k.list c.loop-k.tally c.loop-k.invariant _ c.recall.ensures c.requires.steps.session lk all in
    omega arith

pub overflow_cast-tally : goal.overflow_cast-tally
overflow_cast-tally c =
    let plan = c.args.own.now.plan.now in
    let k = c.loop-k.k in
    let lk : k < slots plan c.args.own.now.session = omega (arith, c.requires.slots.1) in
    let its = c.pattern-pattern in
    let all = as_many plan c.args.own.now.party c.args.own.now.session k c.args.own.now.heads.now c.args.own.now.tails.now c.requires.steps.heads c.requires.steps.tails c.recall.ensures c.requires.steps.session lk its.result its.ensures.is c.of.result.now c.of-in-loop-k.result.now c.of.ensures c.of-in-loop-k.ensures in
    let fits = instructions_fit plan c.args.own.now.party c.args.own.now.session k c.loop-k.list c.loop-k.tally c.loop-k.invariant _ c.recall.ensures c.requires.steps.session lk all in
    omega arith

pub overflow_add-tally : goal.overflow_add-tally
overflow_add-tally c =
    let plan = c.args.own.now.plan.now in
    let k = c.loop-k.k in
    let lk : k < slots plan c.args.own.now.session = omega (arith, c.requires.slots.1) in
    let its = c.pattern-pattern in
    let all = as_many plan c.args.own.now.party c.args.own.now.session k c.args.own.now.heads.now c.args.own.now.tails.now c.requires.steps.heads c.requires.steps.tails c.recall.ensures c.requires.steps.session lk its.result its.ensures.is c.of.result.now c.of-in-loop-k.result.now c.of.ensures c.of-in-loop-k.ensures in
    let fits = instructions_fit plan c.args.own.now.party c.args.own.now.session k c.loop-k.list c.loop-k.tally c.loop-k.invariant _ c.recall.ensures c.requires.steps.session lk all in
    omega arith

pub loop-k-preserved : goal.loop-k-preserved
loop-k-preserved c =
    let plan = c.args.own.now.plan.now in
    let p = c.args.own.now.party in
    let s = c.args.own.now.session in
    let k = c.loop-k.k in
    let lk : k < slots plan s = omega (arith, c.requires.slots.1) in
    let its = c.pattern-pattern in
    let all = as_many plan p s k c.args.own.now.heads.now c.args.own.now.tails.now c.requires.steps.heads c.requires.steps.tails c.recall.ensures c.requires.steps.session lk its.result its.ensures.is c.of.result.now c.of-in-loop-k.result.now c.of.ensures c.of-in-loop-k.ensures in
    let added : c.from.result ≡ (if deals_in plan s p (slot plan s k) then 1 else 0) =
    c.from.ensures
    ∙ as_number c.deals_in.result
    ∙ ap (λ b. if b then 1 else 0) (c.deals_in.ensures plan c.multiplies-multiplies.ensures ∙ ap (deals_in_pattern plan p) its.ensures.is ∙ deals_by_pattern plan s p (slot plan s k)) in
    one_more plan p s k c.loop-k.list c.loop-k.tally c.loop-k.invariant _ _ c.from.result c.push_reserved.ensures.items c.push_reserved.ensures.capacity all added
