-- Where the words that the parties draw next begin.
use Rattle.std.proofs.Common.{◌≡◌, ℕ, ◌+◌, ◌-◌, ◌<◌, ◌≤◌, true, false, List, length, refl, ap, arith}
use Rattle.std.proofs.lemmas.Bool.{cond-true, both_ways}
use Rattle.list_laws.proofs.Totals.{total_more}
use Rattle.list_laws.proofs.JoinedLists.{total_within}
use Rattle.session_slots.specs.Sessions.{Slot}
use Rattle.session_slots.specs.Sessions.Slot.{Input, At_gate, Output, Mask, Mask_product, Masked, Kept}
use Rattle.session_slots.specs.declared.side.Side.{Side}
use Rattle.plan_model.specs.Plans.{Plan, slot, slots, words, words_in, place, deals_in, least_held}
use Rattle.plan_model.specs.Tallies.{tape_length}
use Rattle.plan_model.proofs.PlanSchemes.{least_within}
use Rattle.share_world.specs.Worlds.{World}
use Rattle.share_world.specs.Laws.{IsWhole}
use Rattle.share_world.proofs.SmallWords.{is_plan}
use Rattle.wire_tables.specs.Places.{ArePlaces, HasDealWords, HasMaskWords}

module _ (plan : Plan) (s p : ℕ) where
  -- behind what the party draws in slot k its next words begin
  pub place_next : (k : ℕ) → place plan p s (k + 1) ≡ place plan p s k + words_in plan s p (slot plan s k)
  place_next k = let more = total_more k (λ j. words_in plan s p (slot plan s j)) in omega arith

  -- what the party draws in a slot stands on its tape
  pub place_within : (k : ℕ) → s < length plan.sessions → k < slots plan s → place plan p s k + words_in plan s p (slot plan s k) ≤ tape_length plan p
  place_within k ls lk =
      let inner = total_within (slots plan s) k (λ j. words_in plan s p (slot plan s j)) lk in
      let outer = total_within (length plan.sessions) s (words plan p) ls in
      omega arith

  -- where it deals it draws a word less than there are summands
  dealt_words : (z : Slot) → deals_in plan s p z ≡ true → words_in plan s p z ≡ length plan.groups - 1
  dealt_words (Input v) e = cond-true (deals_in plan s p (Input v)) _ 0 e
  dealt_words (At_gate t) e = cond-true (deals_in plan s p (At_gate t)) _ 0 e
  dealt_words (Mask_product t) e = cond-true (deals_in plan s p (Mask_product t)) _ 0 e
  dealt_words (Output o) e = absurd (both_ways false refl e)
  dealt_words (Mask t side) e = absurd (both_ways false refl e)
  dealt_words (Masked t side) e = absurd (both_ways false refl e)
  dealt_words (Kept j) e = absurd (both_ways false refl e)

  pub dealt_within : (k : ℕ) → s < length plan.sessions → k < slots plan s → deals_in plan s p (slot plan s k) ≡ true → place plan p s k + (length plan.groups - 1) ≤ tape_length plan p
  dealt_within k ls lk e = (let within = place_within k ls lk in let many = dealt_words (slot plan s k) e in omega arith)

module _ (w : World) (whole : IsWhole w) (s k : ℕ) (places : List ℕ) (ls : s < length w.plan.sessions) (lk : k < slots w.plan s) (h : ArePlaces w.plan s k places) where
  -- a party that deals in a slot has the words of its deal
  pub has_words : (p : ℕ) → p < w.plan.parties → deals_in w.plan s p (slot w.plan s k) ≡ true → HasDealWords w places p
  has_words p lp deals =
      let within = dealt_within w.plan s p k ls lk deals in record {
        tape = omega (arith, whole.tapes.parties);
        place = omega (arith, h.parties);
        enough = omega (arith, within, h.are p lp, whole.tapes.lengths p lp);
        below = whole.tapes.below p;
      }

  -- and so have the least holders those of a mask
  pub has_mask_words : (t : ℕ) (side : Side) → slot w.plan s k ≡ Mask t side → HasMaskWords w places
  has_mask_words t side is = record {
    parties = omega (arith, h.parties, whole.tapes.parties);
    holders = λ i li. omega (arith, least_within w.plan (is_plan w whole) i li, whole.tapes.parties);
    enough = λ p l.
        let lp : p < w.plan.parties = omega (arith, l, whole.tapes.parties) in
        let drawn : words_in w.plan s p (slot w.plan s k) ≡ least_held w.plan p (length w.plan.groups) = ap (words_in w.plan s p) is in
        omega (arith, place_within w.plan s p k ls lk, drawn, h.are p lp, whole.tapes.lengths p lp);
  }
