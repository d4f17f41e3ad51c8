-- The messages that steps name are those of their pattern.
use Rattle.std.proofs.Common.{ℕ, ◌+◌, ◌<◌, ◌≤◌, Bool, nat_eq, nat_lt, List, [], ◌∷◌, map, length, sym, subst, arith}
use Rattle.std.specs.Prelude.{slice_index_or}
use Rattle.std.specs.List.{AllByRecursion, filter, enumerate_from}
use Rattle.std.proofs.lemmas.Bool.{cases_Bool, cond-true, cond-false}
use mathlib.Core.Logic.{inl, inr}
use Rattle.list_laws.proofs.JoinedLists.{every_append, every_only_if}
use Rattle.secret_sharing.specs.Schemes.{has_pair}
use Rattle.party_set.specs.Parties.{has_party}
use Rattle.plan_model.specs.declared.pattern.Transfer.{Transfer}
use Rattle.plan_model.specs.declared.pattern.Pattern.{Pattern}
use Rattle.plan_model.specs.declared.pattern.Pattern.TheVariants.{Silent, Dealt, Multiplied, Opened, HandedOut, OpenedToAll, Joined, Held, Received}
use Rattle.plan_model.specs.Plans.{Plan, scheme, least_held}
use Rattle.plan_model.specs.Patterns.{transfers}
use Rattle.plan_model.proofs.DistinctMessages.{every_place}
use Rattle.program_model.specs.declared.half.Half.{Half}
use Rattle.program_model.specs.declared.half.Half.TheVariants.{Head, Tail}
use Rattle.party_program.specs.declared.step.Step.{Step}
use Rattle.party_program.specs.declared.step.Step.TheVariants.{Draw, Deal, Own, Deliver}
use Rattle.party_program.specs.PartySteps.{steps_before, steps_after, post_steps, take_steps, post_step, take_step, is_from, is_to, steps, taken_transfers, IsPlaced}

passing_placed : (f : ℕ × Transfer → Step) (test : ℕ × Transfer → Bool) (n j : ℕ) (ls : List Transfer) → ((e : ℕ × Transfer) → e.0 < n → IsPlaced n (f e)) → j + length ls ≤ n
    → AllByRecursion (IsPlaced n) (map f (filter test (enumerate_from j ls)))
passing_placed f test n j [] h b = tt
passing_placed f test n j (l ∷ ls) h b =
    let rest = passing_placed f test n (j + 1) ls h (omega arith) in
    elim (cases_Bool (test (j, l))) [
      | inl e ↦ subst (λ z. AllByRecursion (IsPlaced n) (map f z)) (sym (cond-true (test (j, l)) ((j, l) ∷ filter test (enumerate_from (j + 1) ls)) (filter test (enumerate_from (j + 1) ls)) e)) (h (j, l) (omega arith), rest)
      | inr e ↦ subst (λ z. AllByRecursion (IsPlaced n) (map f z)) (sym (cond-false (test (j, l)) ((j, l) ∷ filter test (enumerate_from (j + 1) ls)) (filter test (enumerate_from (j + 1) ls)) e)) rest
    ]

module _ (plan : Plan) (p n : ℕ) where
  before_placed : (pattern : Pattern) → AllByRecursion (IsPlaced n) (steps_before plan p pattern)
  before_placed Silent = (tt, tt)
  before_placed (Dealt q) = every_only_if (IsPlaced n) (nat_eq q p) (Deal ∷ []) (λ e. (tt, tt))
  before_placed Multiplied = every_only_if (IsPlaced n) (has_pair (scheme plan) p) (Own ∷ Deal ∷ []) (λ e. (tt, (tt, tt)))
  before_placed (Opened readers) = tt
  before_placed HandedOut = every_only_if (IsPlaced n) (nat_lt 0 (least_held plan p (length plan.groups))) (Draw ∷ []) (λ e. (tt, tt))
  before_placed OpenedToAll = tt
  before_placed Joined = tt
  before_placed Held = tt
  before_placed Received = tt

  after_placed : (pattern : Pattern) → AllByRecursion (IsPlaced n) (steps_after p pattern)
  after_placed Silent = tt
  after_placed (Dealt q) = tt
  after_placed Multiplied = (tt, tt)
  after_placed (Opened readers) = every_only_if (IsPlaced n) (has_party readers p) (Deliver ∷ []) (λ e. (tt, tt))
  after_placed HandedOut = tt
  after_placed OpenedToAll = (tt, tt)
  after_placed Joined = (tt, tt)
  after_placed Held = tt
  after_placed Received = tt

-- where no more transfers stand or are taken in a slot of the pattern
module _ (plan : Plan) (p n : ℕ) (pattern : Pattern) (few : length (transfers plan pattern) ≤ n) (few_taken : length (taken_transfers plan pattern) ≤ n) where
  all_placed : (half : Half) → AllByRecursion (IsPlaced n) (steps plan p half pattern)
  all_placed Head = every_append (IsPlaced n) (steps_before plan p pattern) (post_steps plan p pattern) (before_placed plan p n pattern) (passing_placed post_step (is_from p) n 0 (transfers plan pattern) (λ e b. b) (omega (arith, few)))
  all_placed Tail = every_append (IsPlaced n) (take_steps plan p pattern) (steps_after p pattern) (passing_placed take_step (is_to p) n 0 (taken_transfers plan pattern) (λ e b. b) (omega (arith, few_taken))) (after_placed plan p n pattern)

  pub steps_placed : (half : Half) (i : ℕ) (d : Step) → i < length (steps plan p half pattern) → IsPlaced n (slice_index_or (steps plan p half pattern) i d)
  steps_placed half i d = every_place (IsPlaced n) (steps plan p half pattern) i d (all_placed half)
