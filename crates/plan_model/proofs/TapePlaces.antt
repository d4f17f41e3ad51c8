-- Tape places by words, within the limits, and those of masks.
use Rattle.std.proofs.Common.{◌≡◌, ℕ, ◌+◌, ◌<◌, ◌≤◌, nat_eq, if◌then◌else◌, length, refl, ap, ◌∙◌, arith}
use Rattle.std.proofs.lemmas.Bool.{cases_eq, cases_lt, cond-true, eq-eqb}
use mathlib.Core.Logic.{inl, inr}
use Rattle.list_laws.specs.Lists.{total}
use Rattle.list_laws.proofs.Totals.{total_more}
use Rattle.list_laws.proofs.JoinedLists.{listed_at, total_within}
use Rattle.plan_model.specs.Plans.{Plan, slot, slots, holder_of, least_held, words_in, words, words_before, place}
use Rattle.plan_model.specs.Numbers.{MasksHaveWords}
use Rattle.plan_model.specs.Firsts.{PlacesByWords}
use Rattle.plan_model.specs.Tallies.{tape_length}
use Rattle.plan_model.specs.Sound.{IsSound}

pub places_by_words : (plan : Plan) (p : ℕ) → PlacesByWords plan p
places_by_words plan p = record {
  table = λ s le. listed_at (length plan.sessions + 1) (λ s. total s (words plan p)) s 0 (omega arith) ∙ omega arith;
  next_slot = λ s k. omega (arith, total_more k (λ j. words_in plan s p (slot plan s j)));
  next_session = λ s. omega (arith, total_more s (words plan p));
  end = omega arith;
}

-- the words of a session lie between its place and the next one's
pub session_end : (plan : Plan) (p s : ℕ) → place plan p (s + 1) 0 ≡ place plan p s 0 + words plan p s
session_end plan p s = omega (arith, total_more s (words plan p))

-- the place of each slot, and that behind the last, lies on the tape
pub place_within : (plan : Plan) (p s k : ℕ) → s < length plan.sessions → k ≤ slots plan s → place plan p s k ≤ tape_length plan p
place_within plan p s k ls lk =
    let within = total_within (length plan.sessions) s (words plan p) ls in
    elim (cases_eq k (slots plan s)) [
      | inl e ↦ omega (arith, within, ap (words_before plan p s) e)
      | inr ne ↦ omega (arith, within, total_within (slots plan s) k (λ j. words_in plan s p (slot plan s j)) (omega arith))
    ]

pub few_places : (plan : Plan) (p s k : ℕ) → IsSound plan → p < plan.parties → s < length plan.sessions → k ≤ slots plan s → place plan p s k ≤ 1048576
few_places plan p s k sound lp ls lk = omega (arith, place_within plan p s k ls lk, sound.few_words p lp)

-- ---- masks

pub held_within : (plan : Plan) (i n : ℕ) → i < n → least_held plan (holder_of plan i) i < least_held plan (holder_of plan i) n
held_within plan i n l =
    let f : ℕ → ℕ = λ j. if nat_eq (holder_of plan j) (holder_of plan i) then 1 else 0 in
    let own : f i ≡ 1 = cond-true (nat_eq (holder_of plan i) (holder_of plan i)) 1 0 (eq-eqb (holder_of plan i) (holder_of plan i) refl) in
    omega (arith, own, total_within n i f l)

pub masks_have_words : (plan : Plan) → MasksHaveWords plan
masks_have_words plan = record {
  within = λ s t i side l. held_within plan i (length plan.groups) l;
  apart = λ i j e ne same. elim (cases_lt i j) [
    | inl l ↦ (let less = held_within plan i j l in omega (arith, same, less, ap (λ p. least_held plan p j) e))
    | inr past ↦ (let less = held_within plan j i (omega arith) in omega (arith, same, less, ap (λ p. least_held plan p i) e))
  ];
}
