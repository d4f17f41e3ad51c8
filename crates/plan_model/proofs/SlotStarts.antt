-- Where the messages of slots begin.
use Rattle.std.proofs.Common.{◌≡◌, ℕ, ◌+◌, ◌<◌, ◌≤◌, length, sym, ap, ◌∙◌, subst, arith}
use Rattle.std.specs.Prelude.{slice_index}
use Rattle.std.specs.List.Sorted.{IsNonDecreasing}
use Rattle.std.proofs.lemmas.Bool.{cases_eq}
use Rattle.std.proofs.lemmas.List.{length-map}
use Rattle.std.proofs.lemmas.List.Sorted.{IsNonDecreasingBy-from_default}
use mathlib.Core.Logic.{inl, inr}
use Rattle.list_laws.specs.Lists.{total}
use Rattle.list_laws.proofs.Totals.{total_more}
use Rattle.list_laws.proofs.JoinedLists.{length-listed, listed_at, total_within}
use Rattle.plan_model.specs.Plans.{Plan, slot, slots}
use Rattle.plan_model.specs.Messages.{messages}
use Rattle.plan_model.specs.Patterns.{named, transfers, pattern_at}
use Rattle.plan_model.specs.Firsts.{count, session_count, first, session_starts}
use Rattle.plan_model.proofs.SlotMessages.{length-messages}
use Rattle.plan_model.proofs.SlotPatterns.{slots_follow_patterns}

-- where there is a message there is a session
pub some_session : (plan : Plan) → 0 < length (messages plan) → 0 < length plan.sessions
some_session plan l = elim (cases_eq (length plan.sessions) 0) [
  | inl e ↦ absurd (omega (arith, l, length-messages plan ∙ ap (λ n. total n (session_count plan)) e))
  | inr ne ↦ omega arith
]

module _ (plan : Plan) (s : ℕ) where
  pub pattern_count : (k : ℕ) → length (transfers plan (pattern_at plan s k)) ≡ count plan s k
  pattern_count k = sym (length-map (transfers plan (pattern_at plan s k)) (named s k)) ∙ sym (ap length (slots_follow_patterns plan s k (slot plan s k)))

  pub first_next : (k : ℕ) → first plan s (k + 1) ≡ first plan s k + count plan s k
  first_next k = omega (arith, total_more k (count plan s))

  -- the next session begins where this one ends
  pub first_after : first plan (s + 1) 0 ≡ first plan s (slots plan s)
  first_after = omega (arith, total_more s (session_count plan))

  -- the last session ends where all messages do
  pub last_end : s + 1 ≡ length plan.sessions → first plan s (slots plan s) ≡ length (messages plan)
  last_end e = sym first_after ∙ omega (arith, length-messages plan, ap (λ n. total n (session_count plan)) e)

  firsts_rise : (i j : ℕ) → i ≤ j → first plan s i ≤ first plan s j
  firsts_rise i j le = elim (cases_eq i j) [
    | inl e ↦ subst (λ z. first plan s i ≤ first plan s z) e (omega arith)
    | inr ne ↦ omega (arith, total_within j i (count plan s) (omega arith))
  ]

  pub start_at : (k : ℕ) → k ≤ slots plan s → slice_index (session_starts plan s) k ≡ first plan s k
  start_at k le = listed_at (slots plan s + 1) (first plan s) k 0 (omega arith)

  pub starts_long : length (session_starts plan s) ≡ slots plan s + 1
  starts_long = length-listed (slots plan s + 1) (first plan s)

  pub starts_rise : IsNonDecreasing (session_starts plan s)
  starts_rise = IsNonDecreasingBy-from_default (λ x. x) (session_starts plan s) 0 (λ i j le within.
      let long = starts_long in
      omega (arith, start_at i (omega arith), start_at j (omega arith), firsts_rise i j le))
