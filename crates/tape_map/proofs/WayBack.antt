-- The tapes that stay, and the way back.
use Rattle.std.proofs.Common.{◌≡◌, ℕ, ◌+◌, ◌*◌, ◌^◌, ◌<◌, true, false, List, [], length, refl, sym, ap, ap₂, ◌∙◌, arith}
use Rattle.std.proofs.lemmas.Bool.{cases_Bool, cond-true, cond-false}
use Rattle.std.proofs.lemmas.List.{ext_get_or}
use Rattle.std.proofs.lemmas.Nat.{pow_pos}
use mathlib.Core.Logic.{inl, inr}
use Rattle.list_laws.proofs.JoinedLists.{laid, laid_eq, laid_back, length-listed, listed_at}
use Rattle.mpc_ring.specs.Differences.{difference}
use Rattle.mpc_ring.proofs.Remainders.{same_refl}
use Rattle.secret_sharing.proofs.Agreement.{own_same}
use Rattle.party_set.specs.Parties.{has_party}
use Rattle.std.specs.Prelude.{slice_index}
use Rattle.session_slots.specs.declared.side.Side.{Side}
use Rattle.session_slots.specs.declared.side.Side.TheVariants.{First, Second}
use Rattle.session_slots.specs.Sessions.{Slot, gate, operand}
use Rattle.session_slots.specs.Sessions.Slot.{Input, At_gate, Output, Mask, Mask_product, Masked, Kept}
use Rattle.session_slots.specs.SoundSessions.{Inside}
use Rattle.session_slots.proofs.SessionSlots.{slots_are_numbered}
use Rattle.plan_model.specs.Plans.{scheme, session, slot, slots, holder_of, least_held, words_in, place}
use Rattle.plan_model.proofs.Slots.{at_its_number}
use Rattle.share_world.specs.Worlds.{World, tape_word, mask, value_before, dealt_value}
use Rattle.share_world.specs.Laws.{IsWhole}
use Rattle.share_world.proofs.SmallWords.{is_world, small_words}
use Rattle.tape_map.specs.TapeMaps.{delta, hidden, hidden_word, growth, raised, with_inputs, with_tapes, tape_of, moved_mask, moved_value, moved_words, tape_map, changed_tapes, second_world}
use Rattle.tape_map.specs.Laws.{GoesBack, MembersStay, OthersStay, OneToOne, Onto}
use Rattle.tape_map.proofs.RaisedDeals.{raised_other, raised_eq, raised_back}
use Rattle.tape_map.proofs.SameValues.{delta_back}
use Rattle.tape_map.proofs.ChangedTapes.{CanMove, hidden_within, words_move, second_whole, len, are_tapes, with_tapes_can, can_move_back}
use Rattle.tape_map.proofs.HiddenSummands.{own_moved, mask_moves, others_stay, value_moves}

-- a tape is laid of its words by session and slot
laid_tape : (w : World) (f : ℕ → ℕ → ℕ → ℕ) (p : ℕ) → IsWhole w → p < w.plan.parties
    → ((s k i : ℕ) → s < length w.plan.sessions → k < slots w.plan s → i < words_in w.plan s p (slot w.plan s k) → f s k i ≡ tape_word w s (slot w.plan s k) p i)
    → laid (length w.plan.sessions) (slots w.plan) (len w.plan p) f ≡ tape_of w p
laid_tape w f p whole lp same =
    laid_eq (length w.plan.sessions) (slots w.plan) (len w.plan p) f (λ s k i. slice_index (tape_of w p) (place w.plan p s k + i))
    (λ s k i ls lk li. same s k i ls lk li ∙ ap (λ n. slice_index (tape_of w p) (place w.plan p s n + i)) (at_its_number w.plan s k lk))
    ∙ laid_back (length w.plan.sessions) (slots w.plan) (len w.plan p) (tape_of w p) (whole.tapes.lengths p lp)

members_words : (w : World) (other : List (List (List ℕ))) (group s k p i : ℕ) → has_party group p ≡ true
    → moved_words w other group s (slot w.plan s k) p i ≡ tape_word w s (slot w.plan s k) p i
members_words w other group s k p i member = ap (λ f. f i) (cond-true (has_party group p) (tape_word w s (slot w.plan s k) p) _ member)

strangers_words : (w : World) (other : List (List (List ℕ))) (group s k p i : ℕ) → has_party group p ≡ false
    → moved_words w other group s (slot w.plan s k) p i
    ≡ raised (2 ^ w.plan.bits) (hidden_word w.plan group p (slot w.plan s k)) (growth w other group s p (slot w.plan s k))
    (tape_word w s (slot w.plan s k) p) i
strangers_words w other group s k p i stranger = ap (λ f. f i) (cond-false (has_party group p) (tape_word w s (slot w.plan s k) p) _ stranger)

pub members_stay : (w : World) (other : List (List (List ℕ))) (group : ℕ) → IsWhole w → MembersStay w other group
members_stay w other group whole p lp member =
    laid_tape w (λ s k i. moved_words w other group s (slot w.plan s k) p i) p whole lp (λ s k i ls lk li. members_words w other group s k p i member)

pub others_words : (w : World) (other : List (List (List ℕ))) (group : ℕ) → OthersStay w other group
others_words w other group s k p i ls lk lp li ne =
    words_move w other group s k p i ls lk lp li
    ∙ elim (cases_Bool (has_party group p)) [
      | inl yes' ↦ members_words w other group s k p i yes'
      | inr no' ↦ strangers_words w other group s k p i no' ∙ raised_other (2 ^ w.plan.bits) (hidden_word w.plan group p (slot w.plan s k)) _ (tape_word w s (slot w.plan s k) p) i ne
    ]

-- ---- the way back

module _ (w : World) (other : List (List (List ℕ))) (group : ℕ) (h : CanMove w other group) where
  abbrev second : World
  second = second_world w other group

  abbrev q : ℕ
  q = 2 ^ w.plan.bits

  -- a word grows there by what one number has more than another, and on the way back by the reverse
  record Turns (s p : ℕ) (z : Slot) : Type 0 where
    old : ℕ
    new : ℕ
    there : growth w other group s p z ≡ difference q new old
    back : growth second w.inputs group s p z ≡ difference q old new

  mask_back : (s t i : ℕ) (side : Side) → s < length w.plan.sessions → Inside (session w.plan s) (Mask t side) → i < length w.plan.groups
      → moved_mask second w.inputs group s t side i ≡ mask w s t side i
  mask_back s t i side ls inside li =
      let v = operand (gate (session w.plan s) t) side in
      let old = value_before w s t v in
      let new = value_before (with_inputs w other) s t v in
      let g = hidden w.plan group in
      let p = holder_of w.plan i in
      raised_eq q g (delta second w.inputs s t v) (difference q old new) (mask second s t side) (raised q g (difference q new old) (mask w s t side)) i (delta_back w other group s t v)
      (mask_moves w other group h s t i side ls inside li)
      ∙ raised_back q g old new (mask w s t side) i (pow_pos w.plan.bits) (small_words w h.whole s p (Mask t side) (least_held w.plan p i))

  -- the way back is to deal what was dealt
  value_turns : (s p : ℕ) (z : Slot) → s < length w.plan.sessions → Inside (session w.plan s) z
      → moved_value second w.inputs group s p z ≡ dealt_value w s p z
  value_turns s p (Input v) ls inside = refl
  value_turns s p (At_gate t) ls inside =
      sym (own_moved second w.inputs w.tapes group s t p (is_world second (second_whole w other group h.whole h.others)) (is_world w h.whole)
      (hidden_within w.plan group h.tolerated) (λ v i li ne. sym (others_stay w other group h s t v i ls li ne)))
  value_turns s p (Mask_product t) ls inside =
      own_same (scheme w.plan) p _ _ _ _
      (λ i j li lj e. same_refl q _ _ (ap₂ (λ a b. a * b) (mask_back s t i First ls inside li) (mask_back s t j Second ls inside lj)))
  value_turns s p (Output o) ls inside = refl
  value_turns s p (Mask t side) ls inside = refl
  value_turns s p (Masked t side) ls inside = refl
  value_turns s p (Kept j) ls inside = refl

  abbrev Deals : ℕ → ℕ → Slot → Type 0
  Deals s p z =
      (growth w other group s p z ≡ difference q (moved_value w other group s p z) (dealt_value w s p z))
      × (growth second w.inputs group s p z ≡ difference q (moved_value second w.inputs group s p z) (dealt_value second s p z))

  deal_turns : (s p : ℕ) (z : Slot) → s < length w.plan.sessions → Inside (session w.plan s) z → Deals s p z → Turns s p z
  deal_turns s p z ls inside grows = record {
    old = dealt_value w s p z;
    new = moved_value w other group s p z;
    there = grows.0;
    back = grows.1 ∙ ap₂ (difference q) (value_turns s p z ls inside) (value_moves w other group h s p z ls inside);
  }

  turns : (s p : ℕ) (z : Slot) → s < length w.plan.sessions → Inside (session w.plan s) z → Turns s p z
  turns s p (Input v) ls inside = deal_turns s p (Input v) ls inside (refl, refl)
  turns s p (At_gate t) ls inside = deal_turns s p (At_gate t) ls inside (refl, refl)
  turns s p (Output o) ls inside = deal_turns s p (Output o) ls inside (refl, refl)
  turns s p (Mask_product t) ls inside = deal_turns s p (Mask_product t) ls inside (refl, refl)
  turns s p (Masked t side) ls inside = deal_turns s p (Masked t side) ls inside (refl, refl)
  turns s p (Kept j) ls inside = deal_turns s p (Kept j) ls inside (refl, refl)
  turns s p (Mask t side) ls inside =
      let v = operand (gate (session w.plan s) t) side in
      record { old = value_before w s t v; new = value_before (with_inputs w other) s t v; there = refl; back = delta_back w other group s t v }

  word_back : (s k p i : ℕ) → s < length w.plan.sessions → k < slots w.plan s → p < w.plan.parties → i < words_in w.plan s p (slot w.plan s k)
      → moved_words second w.inputs group s (slot w.plan s k) p i ≡ tape_word w s (slot w.plan s k) p i
  word_back s k p i ls lk lp li =
      let z = slot w.plan s k in
      let place = hidden_word w.plan group p z in
      let turn = turns s p z ls ((slots_are_numbered (session w.plan s)).inside k lk) in
      let moved : tape_word second s z p i ≡ moved_words w other group s z p i = words_move w other group s k p i ls lk lp li in
      elim (cases_Bool (has_party group p)) [
        | inl yes' ↦ members_words second w.inputs group s k p i yes' ∙ moved ∙ members_words w other group s k p i yes'
        | inr no' ↦ strangers_words second w.inputs group s k p i no'
            ∙ raised_eq q place _ (difference q turn.old turn.new) (tape_word second s z p) (raised q place (difference q turn.new turn.old) (tape_word w s z p)) i turn.back
            (moved ∙ strangers_words w other group s k p i no' ∙ raised_eq q place _ (difference q turn.new turn.old) (tape_word w s z p) (tape_word w s z p) i turn.there refl)
            ∙ raised_back q place turn.old turn.new (tape_word w s z p) i (pow_pos w.plan.bits) (small_words w h.whole s p z i)
      ]

  tapes_back : changed_tapes second w.inputs group ≡ w.tapes
  tapes_back =
      let n = w.plan.parties in
      let all = changed_tapes second w.inputs group in
      ext_get_or [] all w.tapes (length-listed n (tape_map second w.inputs group) ∙ sym h.whole.tapes.parties) (λ p l.
      let lp : p < n = omega (arith, l, length-listed n (tape_map second w.inputs group)) in
      listed_at n (tape_map second w.inputs group) p [] lp
      ∙ laid_tape w (λ s k i. moved_words second w.inputs group s (slot w.plan s k) p i) p h.whole lp (λ s k i ls lk li. word_back s k p i ls lk lp li))

  pub goes_back : GoesBack w other group
  goes_back = ap (λ tapes. with_tapes w tapes) tapes_back

-- ---- one-to-one and onto

pub one_to_one : (w : World) (other : List (List (List ℕ))) (group : ℕ) → CanMove w other group → OneToOne w other group
one_to_one w other group h tapes are same =
    sym (tapes_back (with_tapes w tapes) other group (with_tapes_can w other group tapes h are))
    ∙ ap (λ z. changed_tapes (with_tapes (with_inputs w other) z) w.inputs group) same
    ∙ tapes_back w other group h

pub onto : (w : World) (other : List (List (List ℕ))) (group : ℕ) → CanMove w other group → Onto w other group
onto w other group h tapes are =
    let there : World = with_tapes (with_inputs w other) tapes in
    let can : CanMove there w.inputs group = can_move_back w other group tapes h are in
    (changed_tapes there w.inputs group, are_tapes there w.inputs group can.whole, tapes_back there w.inputs group can)
