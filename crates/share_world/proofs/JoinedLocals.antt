-- Parties that got what the others send have the words of the equations.
use Rattle.std.proofs.Common.{◌≡◌, ℕ, zero, suc, ◌<◌, ◌≤◌, true, length, refl, sym, ◌∙◌, subst, arith, inl, inr}
use Rattle.std.specs.List.{AllByRecursion}
use Rattle.std.proofs.lemmas.Bool.{cases_eq}
use Rattle.list_laws.proofs.JoinedLists.{at_joined}
use Rattle.session_slots.specs.declared.source.Source.TheVariants.{Earlier}
use Rattle.session_slots.specs.Sessions.{Slot, source}
use Rattle.session_slots.specs.Sessions.Slot.{Kept}
use Rattle.session_slots.specs.Carries.{kept_place}
use Rattle.session_slots.specs.SoundSessions.{Inside}
use Rattle.session_slots.proofs.SessionSlots.{slot_there, number_within}
use Rattle.plan_model.specs.Plans.{session, slots, slot_number, is_holder, IsPlan}
use Rattle.plan_model.specs.declared.key.Key.{Key}
use Rattle.plan_model.specs.Messages.{messages, slot_messages}
use Rattle.share_world.specs.Worlds.{World, word}
use Rattle.share_world.specs.Locals.{key_at, kept_key, local_word, LocalsJoin}
use Rattle.share_world.proofs.CarriedWires.{kept_there}
use Rattle.share_world.proofs.GoingMessages.{Goes, at_going}
use Rattle.share_world.proofs.LocalWords.{GotRight}
use Rattle.share_world.proofs.SentWords.{every_message, word_right}

abbrev Sent : World → (ℕ → Key → ℕ) → Key → Type 0
Sent w got key = got key.receiver key ≡ local_word w (got key.sender) key.sender key

module _ (w : World) (h : IsPlan w.plan) (got : ℕ → Key → ℕ) (sent : AllByRecursion (Sent w got) (messages w.plan)) where
  in_slot : (s : ℕ) (z : Slot) → s < length w.plan.sessions → Inside (session w.plan s) z → AllByRecursion (Sent w got) (slot_messages w.plan s (slot_number w.plan s z) z)
  in_slot s z ls inside =
      let k = slot_number w.plan s z in
      subst (λ y. AllByRecursion (Sent w got) (slot_messages w.plan s k y)) (slot_there (session w.plan s) z inside)
      (at_joined (Sent w got) (slots w.plan s) _ k (number_within (session w.plan s) z inside) (at_joined (Sent w got) (length w.plan.sessions) _ s ls sent))

  -- what is sent is right where its sender got right words
  sent_right : (s : ℕ) (z : Slot) (i q p : ℕ) → s < length w.plan.sessions → Inside (session w.plan s) z → i < length w.plan.groups → p < w.plan.parties → Goes w.plan s z i q p
      → (q < w.plan.parties → GotRight w (got q) q s (slot_number w.plan s z)) → got p (key_at w.plan s z i q p) ≡ word w (key_at w.plan s z i q p)
  sent_right s z i q p ls inside li lp goes right =
      at_going (Sent w got) w.plan s (slot_number w.plan s z) z i q p li lp goes (in_slot s z ls inside)
      ∙ word_right w h (got q) q s z i p inside li goes right

  -- all that the parties got in session s is right
  abbrev Right : ℕ → Type 0
  Right s = (k p : ℕ) → p < w.plan.parties → GotRight w (got p) p s k

  module _ (s : ℕ) (ls : s < length w.plan.sessions) (before : (r : ℕ) → r < s → Right r) where
    kept_right : (p v r c at i : ℕ) → p < w.plan.parties → source (session w.plan s) v ≡ Earlier r c at → i < length w.plan.groups → is_holder w.plan p i ≡ true
        → got p (kept_key w.plan r s v i p) ≡ word w (kept_key w.plan r s v i p)
    kept_right p v r c at i lp from li has =
        let z = Kept (kept_place w.plan.sessions s v) in
        let less = h.earlier s v r c at from in
        sent_right r z i p p (omega (arith, less, ls)) (kept_there w.plan h.kept s v r c at from).0 li lp (lp, refl, has) (λ lp. before r less (slot_number w.plan r z) p lp)

    in_session : Right s
    in_session k p lp = record { slots = λ z i q inside less li goes. before_slot k p lp z i q inside less li goes; kept = λ v r c at i from li has. kept_right p v r c at i lp from li has }
      where
        before_slot : (k p : ℕ) → p < w.plan.parties → (z : Slot) (i q : ℕ) → Inside (session w.plan s) z → slot_number w.plan s z < k → i < length w.plan.groups → Goes w.plan s z i q p
            → got p (key_at w.plan s z i q p) ≡ word w (key_at w.plan s z i q p)
        before_slot zero p lp z i q inside less li goes = absurd (omega (arith, less))
        before_slot (suc k) p lp z i q inside less li goes =
            sent_right s z i q p ls inside li lp goes (λ lq. record {
              slots = λ y j r within earlier lj comes. before_slot k q lq y j r within (omega (arith, earlier, less)) lj comes;
              kept = λ v r c at j from lj has. kept_right q v r c at j lq from lj has;
            })

  -- and in the first n sessions
  first_right : (n : ℕ) → n ≤ length w.plan.sessions → (r : ℕ) → r < n → Right r
  first_right zero le r l = absurd (omega (arith, l))
  first_right (suc n) le r l = elim (cases_eq r n) [
    | inl e ↦ subst Right (sym e) (in_session n (omega (arith, le)) (first_right n (omega (arith, le))))
    | inr ne ↦ first_right n (omega (arith, le)) r (omega (arith, l, ne))
  ]

pub locals_join : (w : World) → IsPlan w.plan → LocalsJoin w
locals_join w h got sent =
    every_message (λ key. got key.receiver key ≡ word w key) w.plan
    (λ s z i q p ls inside li lp goes.
    (first_right w h got sent (length w.plan.sessions) (omega arith) s ls (suc (slot_number w.plan s z)) p lp).slots z i q inside (omega arith) li goes)
