-- A sample is within the limits: each gate has at most 12 messages, and a party draws at most two words there.
use Rattle.std.proofs.Common.{◌≡◌, ℕ, zero, suc, ◌+◌, ◌*◌, ◌<◌, ◌≤◌, Bool, true, false, if◌then◌else◌, length, refl, subst, ◌∙◌, arith}
use Rattle.std.proofs.lemmas.List.Sums.{count_by-le-length}
use Rattle.list_laws.specs.Lists.{total, listed}
use Rattle.list_laws.proofs.JoinedLists.{length-listed}
use Rattle.circuit_model.specs.declared.gate.Gate.{Gate}
use Rattle.circuit_model.specs.Circuits.{is_product}
use Rattle.secret_sharing.specs.Schemes.{has_pair}
use Rattle.session_slots.specs.Counts.{owned, products}
use Rattle.session_slots.specs.Sessions.{owners, source}
use Rattle.session_slots.specs.declared.source.Source.TheVariants.{Given}
use Rattle.plan_model.specs.Plans.{Plan, scheme, session, least_held}
use Rattle.plan_model.specs.Messages.{messages}
use Rattle.plan_model.specs.Numbers.{deals}
use Rattle.plan_model.specs.Tallies.{keeping_messages, party_messages, masks_messages, tape_length}
use Rattle.job_plan.specs.Limits.{IsPlanRefusal}
use Rattle.plan_model.proofs.TallyLaws.{deals_is, messages_by_party, tape_length_is}
use Rattle.plan_faults.specs.declared.plan_fault.PlanFault.TheVariants.{TooManyMessages, TooManyWords}
use Rattle.sample_maker.specs.Samples.{sample_gate, sample_plan, sample_session}

-- a party deals its inputs, and at each product at most
few_deals : (n p : ℕ) → deals (sample_plan n) p 0 ≤ owned (sample_session n) p + n
few_deals n p =
    let few : products (sample_session n) ≤ length (listed n (sample_gate n)) = count_by-le-length (λ (g : Gate). is_product g.operation) (listed n (sample_gate n)) in
    omega (arith, few, length-listed n (sample_gate n), deals_is (sample_plan n) p 0, at_most (has_pair (scheme (sample_plan n)) p) (products (sample_session n)))
  where
    at_most : (b : Bool) (k : ℕ) → (if b then k else 0) ≤ k
    at_most true k = omega arith
    at_most false k = omega arith

given_below : (q p : ℕ) → q < 3 → Given q ≡ Given p → p < 3
given_below q p l e = let same : q ≡ p = cc in omega (arith, l, same)

-- the inputs are given by a and b
owners_are_parties : (n s v p : ℕ) → s < 1 → v < length (owners (session (sample_plan n) s)) → source (session (sample_plan n) s) v ≡ Given p → p < 3
owners_are_parties n zero zero p ls lv e = given_below 0 p (omega arith) e
owners_are_parties n zero (suc zero) p ls lv e = given_below 0 p (omega arith) e
owners_are_parties n zero (suc (suc zero)) p ls lv e = given_below 1 p (omega arith) e
owners_are_parties n zero (suc (suc (suc zero))) p ls lv e = given_below 1 p (omega arith) e
owners_are_parties n zero (suc (suc (suc (suc v)))) p ls lv e = absurd (omega arith)
owners_are_parties n (suc s) v p ls lv e = absurd (omega arith)

-- a deal has four messages, and an opening one
by_deals : (n : ℕ) → total 3 (party_messages (sample_plan n))
    ≡ 0 + (4 * (0 + deals (sample_plan n) 0 0) + 1) + (4 * (0 + deals (sample_plan n) 1 0) + 1) + (4 * (0 + deals (sample_plan n) 2 0) + 1)
by_deals n = refl

-- no product is prepared
no_masks : (n : ℕ) → masks_messages (sample_plan n) ≡ 0
no_masks n = refl

-- and nothing is kept
nothing_kept : (n : ℕ) → keeping_messages (sample_plan n) ≡ 0
nothing_kept n = refl

-- four for each of four inputs, three openings, and twelve at each product
pub length-messages : (n : ℕ) → length (messages (sample_plan n)) ≤ 19 + 12 * n
length-messages n =
    let is : length (messages (sample_plan n)) ≡ total 3 (party_messages (sample_plan n)) + masks_messages (sample_plan n) + keeping_messages (sample_plan n) = messages_by_party (sample_plan n) (owners_are_parties n) in
    let first : deals (sample_plan n) 0 0 ≤ 2 + n = few_deals n 0 in
    let second : deals (sample_plan n) 1 0 ≤ 2 + n = few_deals n 1 in
    let third : deals (sample_plan n) 2 0 ≤ 0 + n = few_deals n 2 in
    omega (arith, is, by_deals n, no_masks n, nothing_kept n, first, second, third)

-- so the plan isn't refused for its messages
pub few_messages : (n count : ℕ) (plan : Plan) → n ≤ 65536 → plan ≡ sample_plan n → IsPlanRefusal plan (TooManyMessages count) → ⊥
few_messages n count plan l e h =
    let refused : IsPlanRefusal (sample_plan n) (TooManyMessages count) = subst (λ plan. IsPlanRefusal plan (TooManyMessages count)) e h in
    omega (arith, l, refused.0, refused.1, length-messages n)

-- nor for a party's words, two for each of its deals
pub few_words : (n party count : ℕ) (plan : Plan) → n ≤ 65536 → plan ≡ sample_plan n → IsPlanRefusal plan (TooManyWords party count) → ⊥
few_words n party count plan l e h =
    let refused : IsPlanRefusal (sample_plan n) (TooManyWords party count) = subst (λ plan. IsPlanRefusal plan (TooManyWords party count)) e h in
    at party refused.1.there refused.1.is refused.1.over
  where
    with_masks : (p : ℕ) → tape_length (sample_plan n) p ≡ 2 * (0 + deals (sample_plan n) p 0) + least_held (sample_plan n) p 3 * 0
    with_masks p = tape_length_is (sample_plan n) p

    length_is : (p : ℕ) → tape_length (sample_plan n) p ≡ 2 * (0 + deals (sample_plan n) p 0)
    length_is p = omega (arith, with_masks p)

    drawn : (p : ℕ) → owned (sample_session n) p ≤ 2 → count ≡ tape_length (sample_plan n) p → 1048576 < count → ⊥
    drawn p few is over = omega (arith, l, few, is ∙ length_is p, over, few_deals n p)

    at : (p : ℕ) → p < 3 → count ≡ tape_length (sample_plan n) p → 1048576 < count → ⊥
    at zero lp is over = drawn 0 (omega arith) is over
    at (suc zero) lp is over = drawn 1 (omega arith) is over
    at (suc (suc zero)) lp is over = drawn 2 (omega arith) is over
    at (suc (suc (suc p))) lp is over = absurd (omega arith)
