-- A product has few steps.
use Rattle.std.proofs.Common.{ℕ, ◌+◌, ◌<◌, ◌≤◌, Bool, List, [], ◌∷◌, map, length, sym, subst, arith, length-append}
use Rattle.std.specs.List.{filter, enumerate_from}
use Rattle.std.proofs.lemmas.Bool.{cases_Bool, cond-true, cond-false}
use mathlib.Core.Logic.{inl, inr}
use Rattle.list_laws.specs.Lists.{only_if}
use Rattle.secret_sharing.specs.Schemes.{has_pair}
use Rattle.plan_model.specs.declared.pattern.Transfer.{Transfer}
use Rattle.plan_model.specs.declared.pattern.Pattern.TheVariants.{Multiplied}
use Rattle.plan_model.specs.Plans.{Plan, scheme}
use Rattle.plan_model.specs.Patterns.{transfers}
use Rattle.plan_model.specs.Sound.{IsSound}
use Rattle.program_model.specs.declared.half.Half.TheVariants.{Head, Tail}
use Rattle.party_program.specs.declared.step.Step.{Step}
use Rattle.party_program.specs.declared.step.Step.TheVariants.{Own, Deal, Sum}
use Rattle.party_program.specs.PartySteps.{steps, steps_before, post_steps, take_steps, post_step, take_step, is_from, is_to}
use Rattle.plan_model.proofs.FewTransfers.{few_transfers}

-- what passes of a list of transfers is no longer than the transfers
passing_few : (f : ℕ × Transfer → Step) (test : ℕ × Transfer → Bool) (j : ℕ) (ls : List Transfer) → length (map f (filter test (enumerate_from j ls))) ≤ length ls
passing_few f test j [] = omega arith
passing_few f test j (l ∷ ls) =
    let rest = passing_few f test (j + 1) ls in
    elim (cases_Bool (test (j, l))) [
      | inl e ↦ subst (λ z. length (map f z) ≤ length (l ∷ ls)) (sym (cond-true (test (j, l)) ((j, l) ∷ filter test (enumerate_from (j + 1) ls)) (filter test (enumerate_from (j + 1) ls)) e)) (omega arith)
      | inr e ↦ subst (λ z. length (map f z) ≤ length (l ∷ ls)) (sym (cond-false (test (j, l)) ((j, l) ∷ filter test (enumerate_from (j + 1) ls)) (filter test (enumerate_from (j + 1) ls)) e)) (omega arith)
    ]

only_few : (b : Bool) (x y : Step) → length (only_if b (x ∷ y ∷ [])) ≤ 2
only_few b x y = elim (cases_Bool b) [
  | inl e ↦ subst (λ c. length (only_if c (x ∷ y ∷ [])) ≤ 2) (sym e) (omega arith)
  | inr e ↦ subst (λ c. length (only_if c (x ∷ y ∷ [])) ≤ 2) (sym e) (omega arith)
]

pub product_few : (plan : Plan) (p : ℕ) → IsSound plan → length (steps plan p Head Multiplied) + length (steps plan p Tail Multiplied) < 65536
product_few plan p sound =
    let few = few_transfers plan sound Multiplied in
    let posts : length (post_steps plan p Multiplied) ≤ length (transfers plan Multiplied) = passing_few post_step (is_from p) 0 (transfers plan Multiplied) in
    let takes : length (take_steps plan p Multiplied) ≤ length (transfers plan Multiplied) = passing_few take_step (is_to p) 0 (transfers plan Multiplied) in
    let first = only_few (has_pair (scheme plan) p) Own Deal in
    let in_head = length-append (steps_before plan p Multiplied) (post_steps plan p Multiplied) in
    let in_tail = length-append (take_steps plan p Multiplied) (Sum ∷ []) in
    omega (arith, few, posts, takes, first, in_head, in_tail)
