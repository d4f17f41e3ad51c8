-- A party that got the world's words in all slots before one says the world's words up to it: session by session, then slot
-- by slot.
use Rattle.std.proofs.Common.{◌≡◌, ◌⊎◌, ℕ, ◌<◌, ◌≤◌, true, length, refl, sym, ◌∙◌, subst, arith}
use Rattle.std.specs.List.{AllByRecursion}
use Rattle.list_laws.proofs.JoinedLists.{at_joined}
use Rattle.secret_sharing.specs.Schemes.{summands}
use mathlib.Core.Logic.{inl, inr}
use Rattle.session_slots.specs.Carries.{kept_place}
use Rattle.session_slots.specs.Sessions.{Session, Slot, readers, output_wire}
use Rattle.session_slots.specs.Sessions.Slot.{Output, Kept}
use Rattle.session_slots.specs.SoundSessions.{Inside}
use Rattle.session_slots.proofs.SessionSlots.{slot_there, number_within, slot_count}
use Rattle.plan_model.specs.Plans.{Plan, IsPlan, session, slots, slot_number, holder_of, reads}
use Rattle.plan_model.specs.declared.key.Key.{Key}
use Rattle.plan_model.specs.Messages.{messages, slot_messages}
use Rattle.plan_model.proofs.KeptPlaces.{kept_in}
use Rattle.share_world.specs.Worlds.{World, run_of, word, plain}
use Rattle.share_world.specs.Locals.{key_at, local_word, local_output}
use Rattle.share_world.specs.Laws.{IsWhole}
use Rattle.share_world.proofs.GoingMessages.{Goes, at_going}
use Rattle.share_world.proofs.LocalWords.{GotRight, run_right, opened_right, word_at}
use Rattle.share_world.proofs.SentWords.{every_message, word_right}
use Rattle.share_world.proofs.SmallWords.{is_plan, is_world}
use Rattle.share_world.proofs.WireSums.{world_sums}

-- slot k of session s stands before slot n of session t
abbrev pub IsBefore : ℕ → ℕ → ℕ → ℕ → Type 0
IsBefore t n s k = (s < t) ⊎ ((s ≡ t) × (k < n))

-- it stands there or before
abbrev pub IsUpTo : ℕ → ℕ → ℕ → ℕ → Type 0
IsUpTo t n s k = (s < t) ⊎ ((s ≡ t) × (k ≤ n))

module _ (w : World) (whole : IsWhole w) (p : ℕ) (lp : p < w.plan.parties) (got : Key → ℕ) (t n : ℕ)
    (right : AllByRecursion (λ key. key.receiver ≡ p → IsBefore t n key.session key.slot → got key ≡ word w key) (messages w.plan)) where
  abbrev plan : Plan
  plan = w.plan

  abbrev Got : Key → Type 0
  Got key = key.receiver ≡ p → IsBefore t n key.session key.slot → got key ≡ word w key

  valid : IsPlan w.plan
  valid = is_plan w whole

  -- what comes to it in such a slot
  got_at : (s i q : ℕ) (z : Slot) → s < length plan.sessions → Inside (session plan s) z → i < length plan.groups → Goes plan s z i q p → IsBefore t n s (slot_number plan s z)
      → got (key_at plan s z i q p) ≡ word w (key_at plan s z i q p)
  got_at s i q z ls inside li goes before =
      let x : Session = session plan s in
      let k : ℕ = slot_number plan s z in
      at_going Got plan s k z i q p li lp goes
      (subst (λ y. AllByRecursion Got (slot_messages plan s k y)) (slot_there x z inside)
      (at_joined Got (slots plan s) _ k (number_within x z inside) (at_joined Got (length plan.sessions) _ s ls right)))
      refl before

  -- before slot k of a session that has come so far
  got_right : (s k : ℕ) → s < length plan.sessions → IsUpTo t n s k → GotRight w got p s k
  got_right s k ls so_far = record {
    slots = λ z i q inside less li goes. got_at s i q z ls inside li goes (elim so_far [ inl earlier ↦ inl earlier | inr here ↦ inr (here.0, omega (arith, less, here.1)) ]);
    kept = λ v r c at i from li held.
        let it = kept_in plan valid s v r c at from in
        let earlier : r < t = elim so_far [ inl l ↦ omega (arith, it.earlier, l) | inr here ↦ omega (arith, it.earlier, here.0) ] in
        got_at r i p (Kept (kept_place plan.sessions s v)) (omega (arith, it.earlier, ls)) it.place li (lp, refl, held) (inl earlier);
  }

  abbrev Own : Key → Type 0
  Own key = key.sender ≡ p → IsUpTo t n key.session key.slot → local_word w got p key ≡ word w key

  pub own_words : AllByRecursion (λ key. key.sender ≡ p → IsUpTo t n key.session key.slot → local_word w got p key ≡ word w key) (messages w.plan)
  own_words = every_message Own plan (λ s z i q r ls inside li lr goes sender so_far.
      subst (λ a. Goes plan s z i a r → local_word w got p (key_at plan s z i a r) ≡ word w (key_at plan s z i a r)) (sym sender)
      (λ goes. word_right w valid got p s z i r inside li goes (λ lp. got_right s (slot_number plan s z) ls so_far)) goes)

  -- of a session before that slot it opens the plain values
  pub opens_plain : (s o : ℕ) → s < length w.plan.sessions → o < length (readers (session w.plan s)) → reads w.plan p s o ≡ true → IsUpTo t n s (slots w.plan s) → local_output w got p s o ≡ plain w s (output_wire (session w.plan s) o)
  opens_plain s o ls lo read so_far =
      let x : Session = session plan s in
      let v : ℕ = output_wire x o in
      let all : GotRight w got p s (slots plan s) = got_right s (slots plan s) ls so_far in
      opened_right w valid got p s (Output o) _ (summands (run_of w s) (length x.gates) v)
      (λ i li held. run_right w valid got p s (slots plan s) (length x.gates) (omega (arith, slot_count x)) all v i li held)
      (λ i li lacks. all.slots (Output o) i (holder_of plan i) lo (number_within x (Output o) lo) li (read, (refl, lacks)) ∙ word_at w s (Output o) i (holder_of plan i) p lo)
      ∙ world_sums w (is_world w whole) s v
