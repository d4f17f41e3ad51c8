-- Which slot a message stands in.
use Rattle.std.proofs.Common.{◌≡◌, ℕ, ◌+◌, ◌<◌, length, refl, sym, ap, ◌∙◌, subst}
use Rattle.std.specs.Prelude.{slice_index_or}
use Rattle.std.proofs.lemmas.List.Sums.{passes_at_first}
use Rattle.list_laws.proofs.JoinedLists.{joined_place, locate}
use Rattle.plan_model.specs.Plans.{Plan, slot, slots}
use Rattle.plan_model.specs.declared.key.Key.{Key}
use Rattle.plan_model.specs.Messages.{slot_messages, session_messages, messages}
use Rattle.plan_model.specs.Numbers.{no_key, same_key, number}
use Rattle.plan_model.specs.Firsts.{count, first}
use Rattle.plan_model.proofs.SlotMessages.{message_at, number_within}
use Rattle.plan_model.proofs.DistinctMessages.{number_of_message, every_place, every_summand, every_slot, same_key-true}

-- the key stands in slot k of session s
pub record IsThere (plan : Plan) (key : Key) (s k : ℕ) : Type 0 where
  pub session_within : s < length plan.sessions
  pub slot_within : k < slots plan s
  pub place : ℕ
  pub place_within : place < count plan s k
  pub is : slice_index_or (slot_messages plan s k (slot plan s k)) place no_key ≡ key

module _ (plan : Plan) where
  -- a key that stands anywhere stands in the slot that it names
  there_at : (key : Key) (s k : ℕ) → IsThere plan key s k → IsThere plan key key.session key.slot
  there_at key s k h =
      let all = every_slot (λ x. (x.session ≡ s) × (x.slot ≡ k)) plan s k (slot plan s k) (λ i p q. (refl, refl)) in
      let own = every_place (λ (x : Key). (x.session ≡ s) × (x.slot ≡ k)) (slot_messages plan s k (slot plan s k)) h.place no_key all h.place_within in
      let in_session : s ≡ key.session = sym own.0 ∙ ap (λ x. x.session) h.is in
      let in_slot : k ≡ key.slot = sym own.1 ∙ ap (λ x. x.slot) h.is in
      subst (λ z. IsThere plan key key.session z) in_slot (subst (λ z. IsThere plan key z k) in_session h)

  pub is_there : (key : Key) → number plan key < length (messages plan) → IsThere plan key key.session key.slot
  is_there key l =
      let same = same_key-true key (slice_index_or (messages plan) (number plan key) no_key) (passes_at_first (same_key key) (messages plan) no_key l) in
      let outer = locate (length plan.sessions) (session_messages plan) (number plan key) l in
      let s : ℕ = outer.part in
      let inner = locate (slots plan s) (λ k. slot_messages plan s k (slot plan s k)) outer.place outer.within in
      let at : slice_index_or (messages plan) (number plan key) no_key ≡ slice_index_or (slot_messages plan s inner.part (slot plan s inner.part)) inner.place no_key =
      ap (λ n. slice_index_or (messages plan) n no_key) outer.is
      ∙ joined_place no_key (length plan.sessions) s (session_messages plan) outer.place outer.there outer.within
      ∙ ap (λ n. slice_index_or (session_messages plan s) n no_key) inner.is
      ∙ joined_place no_key (slots plan s) inner.part (λ k. slot_messages plan s k (slot plan s k)) inner.place inner.there inner.within in
      there_at key s inner.part (record { session_within = outer.there; slot_within = inner.there; place = inner.place; place_within = inner.within; is = sym at ∙ sym same })

  pub number_is : (key : Key) (s k i : ℕ) → s < length plan.sessions → k < slots plan s → i < count plan s k → slice_index_or (slot_messages plan s k (slot plan s k)) i no_key ≡ key
      → number plan key ≡ first plan s k + i
  number_is key s k i ls lk li e =
      ap (number plan) (sym (message_at plan s k ls lk i li ∙ e)) ∙ number_of_message plan (first plan s k + i) (number_within plan s k ls lk i li)

-- ---- summands

-- the summand of each message of a slot is one of the plan's
pub share_within : (plan : Plan) (s k i : ℕ) → i < count plan s k → (slice_index_or (slot_messages plan s k (slot plan s k)) i no_key).share < length plan.groups
share_within plan s k i l =
    let Within : Key → Type 0 = λ x. x.share < length plan.groups in
    every_place Within (slot_messages plan s k (slot plan s k)) i no_key (every_summand Within plan s k (λ i p q li. li) (slot plan s k)) l
