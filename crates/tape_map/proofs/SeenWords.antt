-- A group sees the same in both worlds.
use Rattle.std.proofs.Common.{◌≡◌, ℕ, ◌<◌, ◌≢◌, ◌⊎◌, true, ◌||◌, List, length, refl, sym, ap, ◌∙◌, subst}
use Rattle.std.specs.Prelude.{map, filter}
use Rattle.std.specs.List.{AllByRecursion}
use Rattle.std.proofs.lemmas.Bool.{or_cases, both_ways}
use mathlib.Core.Logic.{inl, inr}
use Rattle.list_laws.proofs.JoinedLists.{every_joined, every_weaker, map_filter_eq}
use Rattle.party_set.specs.Parties.{has_party}
use Rattle.session_slots.specs.declared.side.Side.{Side}
use Rattle.session_slots.specs.Sessions.{Slot, kept_wire, readers, output_wire}
use Rattle.session_slots.specs.Sessions.Slot.{Input, At_gate, Output, Mask, Mask_product, Masked, Kept}
use Rattle.session_slots.specs.SoundSessions.{Inside}
use Rattle.session_slots.proofs.SessionSlots.{slots_are_numbered, slot_kinds}
use Rattle.plan_model.specs.declared.key.Key.{Key}
use Rattle.plan_model.specs.Messages.{messages, slot_messages}
use Rattle.plan_model.specs.Numbers.{no_key}
use Rattle.plan_model.specs.Plans.{session, is_holder, holder_of, slot, slots, slot_number, reads}
use Rattle.plan_model.proofs.DistinctMessages.{every_place}
use Rattle.plan_model.proofs.PlanSchemes.{least_holds, least_within}
use Rattle.share_world.specs.Locals.{key_at}
use Rattle.share_world.specs.Worlds.{World, word, word_in, touches, view}
use Rattle.share_world.proofs.GoingMessages.{Deals, Goes, every_going}
use Rattle.share_world.proofs.SmallWords.{is_plan}
use Rattle.tape_map.specs.TapeMaps.{changed_tapes, hidden, second_world, with_inputs}
use Rattle.tape_map.specs.Laws.{CanHide, SameView, SameWords, SameOutputs}
use Rattle.tape_map.proofs.SameValues.{plain_stays}
use Rattle.tape_map.proofs.ChangedTapes.{CanMove, can_move, hidden_within, not_held}
use Rattle.tape_map.proofs.HiddenSummands.{Stays, input_alike, gate_alike, mask_stays, masks_alike, excess_stays, others_stay, opens_alike}

-- a member reads output o as the receiver of the message
abbrev pub ReadBy : World → ℕ → Key → ℕ → Type 0
ReadBy w group key o =
    (key.receiver < w.plan.parties) × (has_party group key.receiver ≡ true) × (reads w.plan key.receiver key.session o ≡ true)

-- what is seen of outputs is w's own summand, where that isn't the hidden one, or a member reads it
abbrev pub Opens : World → ℕ → (Key → Slot → ℕ) → Type 0
Opens w group seen =
    (key : Key) (o : ℕ) → key.session < length w.plan.sessions → o < length (readers (session w.plan key.session))
    → key.share < length w.plan.groups → (key.share ≢ hidden w.plan group) ⊎ ReadBy w group key o
    → seen key (Output o) ≡ word_in w key (Output o)

-- all else is seen as it is in the world u
pub record SeenOf (u : World) (seen : Key → Slot → ℕ) : Type 0 where
  pub inputs : (key : Key) (v : ℕ) → seen key (Input v) ≡ word_in u key (Input v)
  pub gates : (key : Key) (t : ℕ) → seen key (At_gate t) ≡ word_in u key (At_gate t)
  pub masks : (key : Key) (t : ℕ) (side : Side) → seen key (Mask t side) ≡ word_in u key (Mask t side)
  pub products : (key : Key) (t : ℕ) → seen key (Mask_product t) ≡ word_in u key (Mask_product t)
  pub masked : (key : Key) (t : ℕ) (side : Side) → seen key (Masked t side) ≡ word_in u key (Masked t side)
  pub kept : (key : Key) (j : ℕ) → seen key (Kept j) ≡ word_in u key (Kept j)

-- what is seen of the second world, with outputs that are seen so, is all that the group sees of w
module _ (w : World) (other : List (List (List ℕ))) (group : ℕ) (h : CanMove w other group) (seen : Key → Slot → ℕ)
    (others : SeenOf (second_world w other group) seen) (outputs : Opens w group seen) where
  abbrev seen_word : Key → ℕ
  seen_word key = seen key (slot w.plan key.session key.slot)

  -- a message that a member sends or receives is seen as it is in w
  abbrev Alike : Key → Type 0
  Alike key = touches group key ≡ true → seen_word key ≡ word w key

  not_hidden : (q i : ℕ) → q < w.plan.parties → has_party group q ≡ true → is_holder w.plan q i ≡ true → i ≢ hidden w.plan group
  not_hidden q i lq member has e =
      both_ways (is_holder w.plan q (hidden w.plan group)) (not_held w.plan group q (hidden_within w.plan group h.tolerated) lq member)
      (subst (λ z. is_holder w.plan q z ≡ true) e has)

  holder_not_hidden : (i q : ℕ) → i < length w.plan.groups → holder_of w.plan i ≡ q → has_party group q ≡ true → i ≢ hidden w.plan group
  holder_not_hidden i q li holder member =
      let p = holder_of w.plan i in
      not_hidden p i (least_within w.plan (is_plan w h.whole) i li) (subst (λ r. has_party group r ≡ true) (sym holder) member)
      (least_holds w.plan (is_plan w h.whole) i li)

  -- ---- summand i, which goes from q to p in a slot, one of whom is a member

  abbrev Seen : ℕ → ℕ → Type 0
  Seen q p = has_party group q || has_party group p ≡ true

  -- where it is dealt, it isn't the hidden one, or a member deals it
  stays : (i q p : ℕ) → p < w.plan.parties → Deals w.plan i q p → Seen q p → Stays w other group h q i
  stays i q p lp goes member = elim (or_cases (has_party group q) (has_party group p) member) [
    | inl sends ↦ inr sends
    | inr gets ↦ inl (not_hidden p i lp gets goes.1)
  ]

  going_alike : (s : ℕ) → s < length w.plan.sessions → (z : Slot) → Inside (session w.plan s) z → (i q p : ℕ) → i < length w.plan.groups → p < w.plan.parties
      → Goes w.plan s z i q p → Seen q p → seen (key_at w.plan s z i q p) z ≡ word_in w (key_at w.plan s z i q p) z
  going_alike s ls (Input v) inside i q p li lp goes member =
      others.inputs _ v ∙ input_alike w other group h s v q i ls inside goes.0 li (stays i q p lp goes.1 member)
  going_alike s ls (At_gate t) inside i q p li lp goes member =
      others.gates _ t ∙ gate_alike w other group h s t q i ls inside goes.0 goes.1 li (stays i q p lp goes.2 member)
  going_alike s ls (Mask_product t) inside i q p li lp goes member =
      others.products _ t ∙ masks_alike w other group h s t q i ls inside goes.0 goes.1 li (stays i q p lp goes.2 member)
  going_alike s ls (Mask t side) inside i q p li lp goes member =
      others.masks _ t side ∙ mask_stays w other group h s t i side ls inside li (elim (stays i q p lp goes.1 member) [
        | inl ne ↦ ne
        | inr sends ↦ holder_not_hidden i q li goes.0 sends
      ])
  going_alike s ls (Masked t side) inside i q p li lp goes member =
      others.masked _ t side ∙ excess_stays w other group h s t i side ls inside.0 inside.1 li
  going_alike s ls (Kept j) inside i q p li lp goes member =
      others.kept _ j ∙ others_stay w other group h s (length (session w.plan s).gates) (kept_wire (session w.plan s) j) i ls li
      (elim (or_cases (has_party group q) (has_party group p) member) [
        | inl sends ↦ not_hidden p i lp (subst (λ r. has_party group r ≡ true) goes.1 sends) goes.2
        | inr gets ↦ not_hidden p i lp gets goes.2
      ])
  going_alike s ls (Output o) inside i q p li lp goes member =
      outputs _ o ls inside li (elim (or_cases (has_party group q) (has_party group p) member) [
        | inl sends ↦ inl (holder_not_hidden i q li goes.1.0 sends)
        | inr reader ↦ inr (lp, reader, goes.0)
      ])

  slot_alike : (s : ℕ) → s < length w.plan.sessions → (z : Slot) → Inside (session w.plan s) z
      → AllByRecursion Alike (slot_messages w.plan s (slot_number w.plan s z) z)
  slot_alike s ls z inside =
      let at = ((slots_are_numbered (session w.plan s)).there z inside).1 in
      every_going Alike w.plan s (slot_number w.plan s z) z (λ i q p li lp goes member.
      let key = key_at w.plan s z i q p in
      ap (seen key) at ∙ going_alike s ls z inside i q p li lp goes member ∙ sym (ap (word_in w key) at))

  pub all_alike : AllByRecursion Alike (messages w.plan)
  all_alike =
      every_joined Alike (length w.plan.sessions) _ (λ s ls. every_joined Alike (slots w.plan s) _ (λ k lk.
      slot_kinds (session w.plan s) (λ k z. AllByRecursion Alike (slot_messages w.plan s k z)) (slot_alike s ls) k lk))

  pub views_alike : map (λ key. (key, seen_word key)) (filter (touches group) (messages w.plan)) ≡ view w group
  views_alike =
      map_filter_eq (touches group) (λ key. (key, seen_word key)) (λ key. (key, word w key)) (messages w.plan)
      (every_weaker Alike _ (messages w.plan) (λ key e touches. ap (λ z. (key, z)) (e touches)) all_alike)

module _ (w : World) (other : List (List (List ℕ))) (group : ℕ) (h : CanHide w other group) where
  abbrev second : World
  second = second_world w other group

  moves : CanMove w other group
  moves = can_move w other group h

  opens : Opens w group (word_in second)
  opens key o ls lo li which =
      let x = session w.plan key.session in
      elim which [
        | inl ne ↦ others_stay w other group moves key.session (length x.gates) (output_wire x o) key.share ls li ne
        | inr read ↦ opens_alike w other group moves key.session (length x.gates) (output_wire x o) key.share ls
            (h.agree.outputs key.session o key.receiver lo read.0 read.1 read.2) li
      ]

  -- in the second world all is seen as it is there
  as_it_is : SeenOf (second_world w other group) (word_in (second_world w other group))
  as_it_is = record {
    inputs = λ key v. refl;
    gates = λ key t. refl;
    masks = λ key t side. refl;
    products = λ key t. refl;
    masked = λ key t side. refl;
    kept = λ key j. refl;
  }

  pub same_view : SameView w other group
  same_view = views_alike w other group moves (word_in second) as_it_is opens

  pub same_words : SameWords w other group
  same_words n ln = every_place _ (messages w.plan) n no_key (all_alike w other group moves (word_in second) as_it_is opens) ln

  pub same_outputs : SameOutputs w other group
  same_outputs s o r lo lr member reads =
      plain_stays (with_inputs w other) (changed_tapes w other group) s (output_wire (session w.plan s) o) ∙ h.agree.outputs s o r lo lr member reads
