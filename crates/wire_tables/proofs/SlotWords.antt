-- What is drawn and dealt in a slot, with the words at its places.
use Rattle.std.proofs.Common.{◌≡◌, ℕ, ◌+◌, ◌<◌, List, [], length, sym, ap, ◌∙◌, subst}
use Rattle.std.specs.Prelude.{slice_index, slice_index_or}
use Rattle.secret_sharing.specs.Schemes.{dealt, own_product, product_summand}
use Rattle.secret_sharing.proofs.Agreement.{product_agrees}
use Rattle.session_slots.specs.declared.side.Side.{Side}
use Rattle.session_slots.specs.Sessions.{Slot}
use Rattle.session_slots.specs.Sessions.Slot.{Mask}
use Rattle.session_slots.specs.SoundSessions.{Inside}
use Rattle.session_slots.proofs.SessionSlots.{slots_are_numbered}
use Rattle.plan_model.specs.Plans.{scheme, session, slot, slots, slot_number, place, holder_of, least_held}
use Rattle.plan_model.proofs.PlanSchemes.{least_within}
use Rattle.plan_model.proofs.Slots.{at_its_number}
use Rattle.share_world.specs.Laws.{IsWhole}
use Rattle.share_world.specs.Worlds.{World, tape_word, mask, dealt_product}
use Rattle.share_world.proofs.LocalWords.{own_alike}
use Rattle.share_world.proofs.SmallWords.{is_plan}
use Rattle.wire_tables.specs.Places.{ArePlaces, dealt_at, mask_at}

module _ (w : World) (s k : ℕ) (lk : k < slots w.plan s) (z : Slot) (is : slot w.plan s k ≡ z) where
  -- the slot's number is its own
  pub number_here : slot_number w.plan s z ≡ k
  number_here = ap (slot_number w.plan s) (sym is) ∙ at_its_number w.plan s k lk

  pub inside_here : Inside (session w.plan s) z
  inside_here = subst (Inside (session w.plan s)) is ((slots_are_numbered (session w.plan s)).inside k lk)

  module _ (places : List ℕ) (h : ArePlaces w.plan s k places) where
    -- a party's words begin at its place
    place_here : (p : ℕ) → p < w.plan.parties → slice_index places p ≡ place w.plan p s (slot_number w.plan s z)
    place_here p lp = h.are p lp ∙ ap (place w.plan p s) (sym number_here)

    -- what it deals there
    pub dealt_here : (p v i : ℕ) → p < w.plan.parties → dealt_at w places p v i ≡ dealt (scheme w.plan) v (tape_word w s z p) i
    dealt_here p v i lp = ap (λ n. dealt (scheme w.plan) v (λ j. slice_index (slice_index_or w.tapes p []) (n + j)) i) (place_here p lp)

    -- the product of two wires, where each party deals its part there
    pub product_here : (a b a' b' : ℕ → ℕ) → ((i : ℕ) → i < length w.plan.groups → a i ≡ a' i) → ((i : ℕ) → i < length w.plan.groups → b i ≡ b' i)
        → (i : ℕ) → product_summand (scheme w.plan) (dealt_at w places) a b i ≡ dealt_product w s z a' b' i
    product_here a b a' b' ha hb i =
        product_agrees (scheme w.plan) (λ p v. dealt (scheme w.plan) v (tape_word w s z p)) (dealt_at w places) a' b' a b i (λ p lp pair.
        dealt_here p (own_product (scheme w.plan) p a b) i lp
        ∙ ap (λ v. dealt (scheme w.plan) v (tape_word w s z p) i) (own_alike w.plan p a b a' b' ha hb))

-- a summand of a mask is what is drawn there
pub drawn_here : (w : World) → IsWhole w → (s k : ℕ) → k < slots w.plan s → (t : ℕ) (side : Side) → slot w.plan s k ≡ Mask t side → (places : List ℕ) → ArePlaces w.plan s k places
    → (i : ℕ) → i < length w.plan.groups → mask_at w places i ≡ mask w s t side i
drawn_here w whole s k lk t side is places h i li =
    let p = holder_of w.plan i in
    ap (λ n. slice_index (slice_index_or w.tapes p []) (n + least_held w.plan p i))
    (h.are p (least_within w.plan (is_plan w whole) i li) ∙ ap (place w.plan p s) (sym (number_here w s k lk (Mask t side) is)))
