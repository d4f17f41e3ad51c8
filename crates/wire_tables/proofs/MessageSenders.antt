-- Who sends a message.
use Rattle.std.proofs.Common.{◌≡◌, ℕ, ◌<◌, true, length, refl, sym, ap, ◌∙◌, subst}
use Rattle.std.proofs.lemmas.Bool.{eq-eqb}
use Rattle.session_slots.specs.Sessions.{Slot, given_by}
use Rattle.session_slots.specs.Sessions.Slot.{Input, At_gate, Output, Mask, Mask_product, Masked, Kept}
use Rattle.session_slots.specs.SoundSessions.{Inside}
use Rattle.session_slots.proofs.SessionSlots.{slot_there, number_within}
use Rattle.plan_model.specs.Plans.{Plan, session, slot, slots}
use Rattle.plan_model.specs.declared.key.Key.{Key}
use Rattle.plan_model.specs.Messages.{messages}
use Rattle.plan_model.specs.Numbers.{message, no_key}
use Rattle.plan_model.proofs.DistinctMessages.{every_place}
use Rattle.plan_model.proofs.PlanSchemes.{least_within}
use Rattle.share_world.specs.Laws.{IsWhole}
use Rattle.share_world.specs.Worlds.{World, word_in}
use Rattle.share_world.proofs.GoingMessages.{Goes}
use Rattle.share_world.proofs.SentWords.{every_message}
use Rattle.share_world.proofs.SmallWords.{is_plan}
use Rattle.wire_tables.specs.SlotRows.{may_send}

-- where a message stands, and who sends it
pub record Stands (plan : Plan) (key : Key) : Type 0 where
  pub in_session : key.session < length plan.sessions
  pub in_slot : key.slot < slots plan key.session
  pub share : key.share < length plan.groups
  pub sender : key.sender < plan.parties
  pub sends : may_send plan key.session key.sender (slot plan key.session key.slot) ≡ true

module _ (w : World) (whole : IsWhole w) where
  -- who sends a summand in a slot
  sends_in : (s : ℕ) (z : Slot) (i q p : ℕ) → s < length w.plan.sessions → Inside (session w.plan s) z → i < length w.plan.groups → Goes w.plan s z i q p
      → (q < w.plan.parties) × (may_send w.plan s q z ≡ true)
  sends_in s (Input v) i q p ls inside li goes =
      ((whole.sound.sessions s ls).owned v q inside goes.0, ap (given_by q) goes.0 ∙ eq-eqb q q refl)
  sends_in s (At_gate t) i q p ls inside li goes = (goes.0, goes.1)
  sends_in s (Mask_product t) i q p ls inside li goes = (goes.0, goes.1)
  sends_in s (Output o) i q p ls inside li goes = (subst (λ r. r < w.plan.parties) goes.1.0 (least_within w.plan (is_plan w whole) i li), refl)
  sends_in s (Mask t side) i q p ls inside li goes = (subst (λ r. r < w.plan.parties) goes.0 (least_within w.plan (is_plan w whole) i li), refl)
  sends_in s (Masked t side) i q p ls inside li goes = (subst (λ r. r < w.plan.parties) goes.0 (least_within w.plan (is_plan w whole) i li), refl)
  sends_in s (Kept j) i q p ls inside li goes = (goes.0, refl)

  stands : (n : ℕ) → n < length (messages w.plan) → Stands w.plan (message w.plan n)
  stands n l = every_place (Stands w.plan) (messages w.plan) n no_key (every_message (Stands w.plan) w.plan (λ s z i q p ls inside li lp goes.
      let by = sends_in s z i q p ls inside li goes in record {
        in_session = ls;
        in_slot = number_within (session w.plan s) z inside;
        share = li;
        sender = by.0;
        sends = ap (may_send w.plan s q) (slot_there (session w.plan s) z inside) ∙ by.1;
      })) l

  -- so of a message that was read
  pub stands_so : (n : ℕ) {key : Key} → n < length (messages w.plan) → key ≡ message w.plan n → Stands w.plan key
  stands_so n l is = subst (Stands w.plan) (sym is) (stands n l)

-- the word of a message is the same for each receiver
pub to_anyone : (w : World) (key : Key) (z : Slot) → word_in w (record key { receiver = 0 }) z ≡ word_in w key z
to_anyone w key (Input v) = refl
to_anyone w key (At_gate t) = refl
to_anyone w key (Output o) = refl
to_anyone w key (Mask t side) = refl
to_anyone w key (Mask_product t) = refl
to_anyone w key (Masked t side) = refl
to_anyone w key (Kept j) = refl
