-- What a party sends and opens from right words is right.
use Rattle.std.proofs.Common.{◌≡◌, ℕ, ◌<◌, true, length, refl, sym, ap, ◌∙◌, subst, arith}
use Rattle.std.specs.List.{AllByRecursion}
use Rattle.list_laws.proofs.JoinedLists.{every_joined}
use Rattle.secret_sharing.specs.Schemes.{dealt, summands}
use Rattle.session_slots.specs.Sessions.{Session, Slot, output_wire, kept_wire}
use Rattle.session_slots.specs.Sessions.Slot.{Input, At_gate, Output, Mask, Mask_product, Masked, Kept}
use Rattle.session_slots.specs.SoundSessions.{Inside}
use Rattle.session_slots.proofs.SessionSlots.{slot_there, slot_kinds}
use Rattle.plan_model.specs.declared.key.Key.{Key}
use Rattle.plan_model.specs.Messages.{messages, slot_messages}
use Rattle.plan_model.specs.Numbers.{no_key}
use Rattle.plan_model.specs.Plans.{Plan, scheme, session, is_holder, holder_of, slots, slot_number, IsPlan}
use Rattle.plan_model.proofs.DistinctMessages.{every_place}
use Rattle.plan_model.proofs.PlanSchemes.{least_holds, least_within}
use Rattle.share_world.specs.Worlds.{World, run_of, word, word_in, tape_word}
use Rattle.share_world.specs.Locals.{key_at, local_word, local_word_in}
use Rattle.share_world.specs.Laws.{IsWorld, SentAreWords, OpenedArePlain}
use Rattle.share_world.proofs.WireSums.{world_sums}
use Rattle.share_world.proofs.SlotOrder.{masked_behind}
use Rattle.share_world.proofs.GoingMessages.{Goes, every_going}
use Rattle.share_world.proofs.LocalWords.{GotRight, all_right, held_are_dealt, run_right, own_right, own_mask, own_masks_right, masked_right, opened_right, word_at}

-- what holds of each message of a slot holds of all messages
pub every_message : (P : Key → Type 0) (plan : Plan)
    → ((s : ℕ) (z : Slot) (i q p : ℕ) → s < length plan.sessions → Inside (session plan s) z → i < length plan.groups → p < plan.parties → Goes plan s z i q p → P (key_at plan s z i q p)) → AllByRecursion P (messages plan)
every_message P plan each = every_joined P (length plan.sessions) _ (λ s ls. every_joined P (slots plan s) _ (λ k lk.
    slot_kinds (session plan s) (λ k z. AllByRecursion P (slot_messages plan s k z))
    (λ z inside. every_going P plan s (slot_number plan s z) z (λ i q p li lp goes. each s z i q p ls inside li lp goes)) k lk))

module _ (w : World) (h : IsPlan w.plan) (got : Key → ℕ) (p s : ℕ) where
  abbrev x : Session
  x = session w.plan s

  -- where p is a party, it got right words before slot z
  abbrev RightBefore : Slot → Type 0
  RightBefore z = p < w.plan.parties → GotRight w got p s (slot_number w.plan s z)

  -- the least holder is a party that holds the summand
  least : (i : ℕ) → i < length w.plan.groups → holder_of w.plan i ≡ p → (p < w.plan.parties) × (is_holder w.plan p i ≡ true)
  least i li e = (subst (λ q. q < w.plan.parties) e (least_within w.plan h i li), subst (λ q. is_holder w.plan q i ≡ true) e (least_holds w.plan h i li))

  -- then it sends right words there
  pub sent_right : (z : Slot) (i r : ℕ) → Inside x z → i < length w.plan.groups → Goes w.plan s z i p r → RightBefore z → local_word_in w got p (key_at w.plan s z i p r) z ≡ word_in w (key_at w.plan s z i p r) z
  sent_right (Input v) i r inside li goes right = refl
  sent_right (At_gate t) i r inside li goes right =
      ap (λ v. dealt (scheme w.plan) v (tape_word w s (At_gate t) p) i)
      (own_right w h got p s t (run_right w h got p s (slot_number w.plan s (At_gate t)) t (omega arith) (right goes.0)))
  sent_right (Mask_product t) i r inside li goes right =
      ap (λ v. dealt (scheme w.plan) v (tape_word w s (Mask_product t) p) i)
      (own_masks_right w h got p s (slot_number w.plan s (Mask_product t)) t (right goes.0) inside (omega arith))
  sent_right (Mask t side) i r inside li goes right = own_mask w h got p s t side i goes.0
  sent_right (Masked t side) i r inside li goes right =
      let k = slot_number w.plan s (Masked t side) in
      let own = least i li goes.0 in
      masked_right w h got p s k t side i (right own.0) (run_right w h got p s k t (masked_behind x t side) (right own.0)) inside (masked_behind x t side) li own.1
  sent_right (Output o) i r inside li goes right =
      let own = least i li goes.1.0 in
      run_right w h got p s (slot_number w.plan s (Output o)) (length x.gates) (omega arith) (right own.0) (output_wire x o) i li own.1
  sent_right (Kept j) i r inside li goes right =
      let has : is_holder w.plan p i ≡ true = subst (λ q. is_holder w.plan q i ≡ true) (sym goes.1) goes.2 in
      run_right w h got p s (slot_number w.plan s (Kept j)) (length x.gates) (omega arith) (right goes.0) (kept_wire x j) i li has

  pub word_right : (z : Slot) (i r : ℕ) → Inside x z → i < length w.plan.groups → Goes w.plan s z i p r → RightBefore z → local_word w got p (key_at w.plan s z i p r) ≡ word w (key_at w.plan s z i p r)
  word_right z i r inside li goes right =
      ap (local_word_in w got p (key_at w.plan s z i p r)) (slot_there x z inside) ∙ sent_right z i r inside li goes right ∙ sym (word_at w s z i p r inside)

-- ---- with the words of the equations

pub sent_are_words : (w : World) → IsPlan w.plan → SentAreWords w
sent_are_words w h n ln =
    let Sends : Key → Type 0 = λ key. local_word w (word w) key.sender key ≡ word w key in
    every_place Sends (messages w.plan) n no_key
    (every_message Sends w.plan (λ s z i q p ls inside li lp goes. word_right w h (word w) q s z i p inside li goes (λ lq. all_right w q s (slot_number w.plan s z)))) ln

pub opened_are_plain : (w : World) → IsWorld w → OpenedArePlain w
opened_are_plain w h p s o lo =
    let x : Session = session w.plan s in
    let v : ℕ = output_wire x o in
    opened_right w h.plan (word w) p s (Output o) _ (summands (run_of w s) (length x.gates) v)
    (λ i li has. held_are_dealt w h.plan p s (length x.gates) v i li has)
    (λ i li lacks. word_at w s (Output o) i (holder_of w.plan i) p lo)
    ∙ world_sums w h s v
