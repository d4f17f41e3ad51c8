-- A sound plan is one whose values can be shared, and a plan without a covering pair has a scheme.
use Rattle.std.proofs.Common.{◌≡◌, ℕ, ◌<◌, Bool, true, false, length, ◌∙◌, subst, arith}
use Rattle.std.proofs.lemmas.Bool.{cases_lt, and_parts, both_ways}
use Rattle.std.proofs.lemmas.Nat.{pow_below}
use Rattle.std.proofs.lemmas.List.FromFn.{length-range_with_len, get_or-range_with_len}
use Rattle.std.proofs.lemmas.List.Sums.{fails_before_first, passes_at_first}
use mathlib.Core.Logic.{inl, inr}
use Rattle.secret_sharing.specs.Schemes.{IsScheme}
use Rattle.secret_sharing.proofs.PairDuties.{duty_holds}
use Rattle.plan_model.specs.Sound.{IsSound}
use Rattle.plan_model.specs.Plans.{Plan, structure, is_holder, duty, scheme, least_party, holder_of, Q2, IsPlan}
use Rattle.std.specs.List.{range_with_len}

pub plan_is : (plan : Plan) → IsSound plan → IsPlan plan
plan_is plan h = record { bits = h.some_bits; groups = h.some_groups; q2 = h.q2; earlier = h.earlier; kept = h.kept }

pub least_party_is : (plan : Plan) (test : ℕ → Bool) (p : ℕ) → p < plan.parties → test p ≡ true → (least_party plan test < plan.parties) × (test (least_party plan test) ≡ true)
least_party_is plan test p l e = elim (cases_lt (least_party plan test) plan.parties) [
  | inl below' ↦ (
    below',
    subst (λ z. test z ≡ true) (get_or-range_with_len 0 plan.parties (least_party plan test) 0 below' ∙ omega arith)
        (passes_at_first test (range_with_len 0 plan.parties) 0 (omega (arith, length-range_with_len 0 plan.parties, below'))),
  )
  | inr past ↦ absurd (both_ways (test p)
      (subst (λ z. test z ≡ false) (get_or-range_with_len 0 plan.parties p 0 l ∙ omega arith) (fails_before_first test (range_with_len 0 plan.parties) p 0 (omega (arith, l, past)))) e)
]

pub duty_is : (plan : Plan) → Q2 plan → (i j : ℕ) → i < length plan.groups → j < length plan.groups → (duty plan i j < plan.parties) × (is_holder plan (duty plan i j) i ≡ true) × (is_holder plan (duty plan i j) j ≡ true)
duty_is plan q2 i j li lj =
    let least = duty_holds (structure plan) q2 i j li lj in
    let both = and_parts (is_holder plan (duty plan i j) i) (is_holder plan (duty plan i j) j) least.passes in
    (least.party, both.0, both.1)

pub scheme_is : (plan : Plan) → IsPlan plan → IsScheme (scheme plan)
scheme_is plan h = record {
  modulus = pow_below 0 plan.bits h.bits;
  shares = h.groups;
  duty = λ i j li lj. (duty_is plan h.q2 i j li lj).0;
  first = λ i j li lj. (duty_is plan h.q2 i j li lj).1;
  second = λ i j li lj. (duty_is plan h.q2 i j li lj).2;
}

pub least_holds : (plan : Plan) → IsPlan plan → (i : ℕ) → i < length plan.groups → is_holder plan (holder_of plan i) i ≡ true
least_holds plan h i li = let d = duty_is plan h.q2 i i li li in (least_party_is plan (λ p. is_holder plan p i) (duty plan i i) d.0 d.1).1

pub least_within : (plan : Plan) → IsPlan plan → (i : ℕ) → i < length plan.groups → holder_of plan i < plan.parties
least_within plan h i li = let d = duty_is plan h.q2 i i li li in (least_party_is plan (λ p. is_holder plan p i) (duty plan i i) d.0 d.1).0
