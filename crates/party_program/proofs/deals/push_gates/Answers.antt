use Rattle.std.proofs.Common.{◌≡◌, ℕ, ◌+◌, ◌<◌, Bool, true, false, not, ◌&&◌, if◌then◌else◌, List, length, refl, sym, ap, ◌∙◌, subst, arith}
use Rattle.std.specs.Prelude.{slice_index_or}
use Rattle.std.proofs.lemmas.List.{length-append}
use Rattle.circuit_model.specs.Circuits.{is_product}
use Rattle.circuit_model.specs.declared.gate.Gate.{Gate}
use Rattle.secret_sharing.specs.Schemes.{has_pair}
use Rattle.session_slots.specs.Sessions.{Session, owners, gate, no_gate}
use Rattle.session_slots.proofs.SessionSlots.{direct_count, none_prepared, slot_gate}
use Rattle.plan_model.specs.declared.pattern.Pattern.TheVariants.{Silent, Multiplied}
use Rattle.plan_model.proofs.PlanSchemes.{plan_is}
use Rattle.plan_model.specs.Plans.{IsPlan, Plan, scheme, session, slot, slots, deals_in}
use Rattle.plan_model.specs.Patterns.{pattern}
use Rattle.party_program.specs.declared.step.Step.{Step}
use Rattle.program_model.specs.declared.half.Half.{Half}
use Rattle.program_model.specs.declared.half.Half.TheVariants.{Head, Tail}
use Rattle.party_program.specs.declared.step_table.StepTable.{StepTable}
use Rattle.plan_model.specs.Sound.{IsSound}
use Rattle.program_model.specs.Programs.{head, tail, half_program, slot_program}
use Rattle.party_program.specs.PartySteps.{steps}
use Rattle.party_program.specs.ProgramPlaces.{AreDeals, AreSteps}
use Rattle.party_program.proofs.FollowedPatterns.{gate_pattern}
use Rattle.party_program.proofs.ProgramPlaces.{length-half}
use Rattle.party_program.proofs.FewSteps.{product_few}
use Rattle.party_program.proofs.GrownDeals.{as_number, room_left, instructions_fit, one_more}
use Rattle.party_program.proofs.deals.push_gates.Goals as goal
use Rattle.party_program.proofs.deals.push_gates.Goals.{then-is_product, else-is_product}

-- a gate of no prepared product is dealt, where it is a product
direct_pattern : (prepared product : Bool) → (prepared && product) ≡ false → gate_pattern prepared product ≡ (if product then Multiplied else Silent)
direct_pattern true true e = absurd cc
direct_pattern true false e = refl
direct_pattern false true e = refl
direct_pattern false false e = refl

direct_product : (prepared product : Bool) → (prepared && product) ≡ false → (not prepared && product) ≡ product
direct_product true true e = absurd cc
direct_product true false e = refl
direct_product false product e = refl

-- gate t of session s, found among the gates of its part
module _ (plan : Plan) (p s t : ℕ) (ls : s < length plan.sessions) (direct : (session plan s).prepared ≡ false) (part : Session) (same : part ≡ session plan s) (gates : List Gate) (of : gates ≡ part.gates) (less : t < length gates) where
  abbrev k : ℕ
  k = length (owners (session plan s)) + t

  lt : t < length (session plan s).gates
  lt = subst (λ (xs : List Gate). t < length xs) (of ∙ ap (λ (x : Session). x.gates) same) less

  lk : k < slots plan s
  lk = let less = lt in omega (arith, less, direct_count (session plan s) direct)

  abbrev prepared : Bool
  prepared = (session plan s).prepared

  -- whether it was found to be a product
  module _ (told product : Bool) (is_told : told ≡ is_product (slice_index_or gates t no_gate).operation) (told_is : told ≡ product) where
    product_is : is_product (gate (session plan s) t).operation ≡ product
    product_is = ap (λ xs. is_product (slice_index_or xs t no_gate).operation) (sym (of ∙ ap (λ (x : Session). x.gates) same)) ∙ sym is_told ∙ told_is

    -- its halves have as many instructions as steps
    half_count : IsPlan plan → (half : Half) → length (half_program plan p s half k) ≡ length (steps plan p half (if product then Multiplied else Silent))
    half_count of_plan half =
        length-half plan p s half k of_plan ls lk
        ∙ ap (λ z. length (steps plan p half (pattern plan s z))) (slot_gate (session plan s) direct t lt)
        ∙ ap (λ pattern. length (steps plan p half pattern)) (direct_pattern prepared (is_product (gate (session plan s) t).operation) (none_prepared (session plan s) direct t))
        ∙ ap (λ b. length (steps plan p half (if b then Multiplied else Silent))) product_is

    count : IsPlan plan → length (slot_program plan p s k) ≡ length (steps plan p Head (if product then Multiplied else Silent)) + length (steps plan p Tail (if product then Multiplied else Silent))
    count of_plan = let both = length-append (head plan p s k) (tail plan p s k) in let in_head = half_count of_plan Head in let in_tail = half_count of_plan Tail in omega (arith, both, in_head, in_tail)

    -- and a deal where it is a product and the party has a pair to multiply
    dealt : deals_in plan s p (slot plan s k) ≡ (product && has_pair (scheme plan) p)
    dealt =
        ap (deals_in plan s p) (slot_gate (session plan s) direct t lt)
        ∙ ap (λ b. b && has_pair (scheme plan) p) (direct_product prepared (is_product (gate (session plan s) t).operation) (none_prepared (session plan s) direct t) ∙ product_is)

pub push_reserved-requires : goal.push_reserved-requires
push_reserved-requires c =
    let there = lk c.args.own.now.plan.now c.args.own.now.party c.args.own.now.session c.loop-gate.gate-index c.requires.steps.session c.requires.not_prepared _ c.part.ensures _ c.gates-gate-items.ensures c.loop-gate-test.true in
    room_left c.args.own.now.plan.now c.args.own.now.party c.args.own.now.session _ c.loop-gate.list c.loop-gate.tally c.loop-gate.invariant (omega (arith, there))

-- a product has few steps
module _ (plan : Plan) (p s : ℕ) (heads ends : StepTable) (are_heads : AreSteps plan p s Head heads) (are_tails : AreSteps plan p s Tail ends) (sound : IsSound plan) (a b : List Step)
    (of_head : (plan : Plan) (p s : ℕ) (half : Half) → AreSteps plan p s half heads → a ≡ steps plan p half Multiplied) (of_tail : (plan : Plan) (p s : ℕ) (half : Half) → AreSteps plan p s half ends → b ≡ steps plan p half Multiplied) where
  both_of : length a + length b ≡ length (steps plan p Head Multiplied) + length (steps plan p Tail Multiplied)
  both_of = let in_head = ap (length {A = Step}) (of_head plan p s Head are_heads) in let in_tail = ap (length {A = Step}) (of_tail plan p s Tail are_tails) in omega (arith, in_head, in_tail)

  few : length a + length b < 4294967296
  few = let all = both_of in let short = product_few plan p sound in omega (arith, all, short)

pub overflow_add-steps : goal.overflow_add-steps
overflow_add-steps c = let all = few c.args.own.now.plan.now c.args.own.now.party c.args.own.now.session c.args.own.now.heads.now c.args.own.now.tails.now c.requires.steps.heads c.requires.steps.tails c.recall.ensures c.of_product.result.now c.of_product-2.result.now c.of_product.ensures c.of_product-2.ensures in omega (arith, all)

pub overflow_cast-steps : goal.overflow_cast-steps
overflow_cast-steps c = let all = few c.args.own.now.plan.now c.args.own.now.party c.args.own.now.session c.args.own.now.heads.now c.args.own.now.tails.now c.requires.steps.heads c.requires.steps.tails c.recall.ensures c.of_product.result.now c.of_product-2.result.now c.of_product.ensures c.of_product-2.ensures in omega (arith, all)

-- a product has as many instructions as were added
module _ (c : goal.Then-is_product) where
  there : length (owners (session c.args.own.now.plan.now c.args.own.now.session)) + c.loop-gate.gate-index < slots c.args.own.now.plan.now c.args.own.now.session
  there = lk c.args.own.now.plan.now c.args.own.now.party c.args.own.now.session c.loop-gate.gate-index c.requires.steps.session c.requires.not_prepared _ c.part.ensures _ c.gates-gate-items.ensures c.loop-gate-test.true

  many : length c.of_product.result.now + length c.of_product-2.result.now ≡ length (slot_program c.args.own.now.plan.now c.args.own.now.party c.args.own.now.session (length (owners (session c.args.own.now.plan.now c.args.own.now.session)) + c.loop-gate.gate-index))
  many =
      both_of c.args.own.now.plan.now c.args.own.now.party c.args.own.now.session c.args.own.now.heads.now c.args.own.now.tails.now c.requires.steps.heads c.requires.steps.tails c.recall.ensures c.of_product.result.now c.of_product-2.result.now c.of_product.ensures c.of_product-2.ensures
      ∙ sym (count c.args.own.now.plan.now c.args.own.now.party c.args.own.now.session c.loop-gate.gate-index c.requires.steps.session c.requires.not_prepared _ c.part.ensures _ c.gates-gate-items.ensures c.loop-gate-test.true _ true c.is_product.ensures c.if-is_product.true (plan_is c.args.own.now.plan.now c.recall.ensures))

pub overflow_add-tally : goal.overflow_add-tally
overflow_add-tally c = let all = instructions_fit c.args.own.now.plan.now c.args.own.now.party c.args.own.now.session _ c.loop-gate.list c.loop-gate.tally c.loop-gate.invariant _ c.recall.ensures c.requires.steps.session (there c) (many c) in omega (arith, all)

pub overflow_add-tally-else-is_product : goal.overflow_add-tally-else-is_product
overflow_add-tally-else-is_product c =
    let there = lk c.args.own.now.plan.now c.args.own.now.party c.args.own.now.session c.loop-gate.gate-index c.requires.steps.session c.requires.not_prepared _ c.part.ensures _ c.gates-gate-items.ensures c.loop-gate-test.true in
    let one = count c.args.own.now.plan.now c.args.own.now.party c.args.own.now.session c.loop-gate.gate-index c.requires.steps.session c.requires.not_prepared _ c.part.ensures _ c.gates-gate-items.ensures c.loop-gate-test.true _ false c.is_product.ensures c.if-is_product.false (plan_is c.args.own.now.plan.now c.recall.ensures) in
    let all = instructions_fit c.args.own.now.plan.now c.args.own.now.party c.args.own.now.session _ c.loop-gate.list c.loop-gate.tally c.loop-gate.invariant 1 c.recall.ensures c.requires.steps.session there (sym one) in
    omega (arith, all)

pub loop-gate-preserved : goal.loop-gate-preserved
loop-gate-preserved c =
    let plan = c.args.own.now.plan.now in
    let p = c.args.own.now.party in
    let s = c.args.own.now.session in
    let k : ℕ = length (owners (session plan s)) + c.loop-gate.gate-index in
    let next : k + 1 ≡ length (owners (session plan s)) + (c.loop-gate.gate-index + 1) = omega arith in
    let grown = one_more plan p s k c.loop-gate.list c.loop-gate.tally c.loop-gate.invariant c.push_reserved.new.self in
    subst (λ n. AreDeals plan p s n c.push_reserved.new.self c.if-is_product.tally) next
    (elim c.if-is_product.branch [
      | then-is_product w ↦
          let deals = c.from-deals.ensures ∙ as_number c.multiplies.result ∙ ap (λ b. if b then 1 else 0)
          (c.multiplies.ensures ∙ sym (dealt plan p s c.loop-gate.gate-index c.requires.steps.session c.requires.not_prepared _ c.part.ensures _ c.gates-gate-items.ensures c.loop-gate-test.true _ true c.is_product.ensures w.if-is_product.true)) in
          let count = both_of plan p s c.args.own.now.heads.now c.args.own.now.tails.now c.requires.steps.heads c.requires.steps.tails c.recall.ensures c.of_product.result.now c.of_product-2.result.now c.of_product.ensures c.of_product-2.ensures
          ∙ sym (count plan p s c.loop-gate.gate-index c.requires.steps.session c.requires.not_prepared _ c.part.ensures _ c.gates-gate-items.ensures c.loop-gate-test.true _ true c.is_product.ensures w.if-is_product.true (plan_is c.args.own.now.plan.now c.recall.ensures)) in
          subst (AreDeals plan p s (k + 1) c.push_reserved.new.self) (sym w.tally-is)
          (grown (length c.of_product.result.now + length c.of_product-2.result.now) c.from-deals.result c.push_reserved.ensures.items c.push_reserved.ensures.capacity count deals)
      | else-is_product w ↦
          let none : 0 ≡ (if deals_in plan s p (slot plan s k) then 1 else 0) = ap (λ b. if b then 1 else 0)
          (sym (dealt plan p s c.loop-gate.gate-index c.requires.steps.session c.requires.not_prepared _ c.part.ensures _ c.gates-gate-items.ensures c.loop-gate-test.true _ false c.is_product.ensures w.if-is_product.false)) in
          let count = sym (count plan p s c.loop-gate.gate-index c.requires.steps.session c.requires.not_prepared _ c.part.ensures _ c.gates-gate-items.ensures c.loop-gate-test.true _ false c.is_product.ensures w.if-is_product.false (plan_is c.args.own.now.plan.now c.recall.ensures)) in
          let still : c.loop-gate.tally.deals + 0 ≡ c.loop-gate.tally.deals = omega arith in
          subst (AreDeals plan p s (k + 1) c.push_reserved.new.self) (ap (λ n. record { instructions = c.loop-gate.tally.instructions + 1; deals = n }) still ∙ sym w.tally-is)
          (grown 1 0 c.push_reserved.ensures.items c.push_reserved.ensures.capacity count none)
    ])
