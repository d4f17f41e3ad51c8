-- Where the messages stand that are taken in a slot, and where those of a slot are taken.
use Rattle.std.proofs.Common.{◌≡◌, ◌⊎◌, ℕ, ◌<◌, ◌≤◌, true, List, [], length, refl, sym, ap, ap₂, ◌∙◌, subst, arith}
use Rattle.std.specs.Prelude.{slice_index_or}
use Rattle.std.specs.List.{AllByRecursion}
use Rattle.std.proofs.lemmas.Bool.{cases_lt, false≢true, eqb-true}
use Rattle.std.proofs.lemmas.List.{get_or_past}
use mathlib.Core.Logic.{inl, inr}
use Rattle.list_laws.proofs.JoinedLists.{every_weaker}
use Rattle.session_slots.specs.declared.source.Source.{Source}
use Rattle.session_slots.specs.declared.source.Source.TheVariants.{Given, Earlier}
use Rattle.session_slots.specs.declared.values.KeptWire.{KeptWire}
use Rattle.session_slots.specs.Sessions.{Slot, carries, no_kept, no_session, session_slots, source}
use Rattle.session_slots.specs.Sessions.Slot.{Input, At_gate, Output, Mask, Mask_product, Masked, Kept}
use Rattle.session_slots.specs.Carries.{IsKeptAt, kept_place}
use Rattle.session_slots.specs.SoundSessions.{Inside}
use Rattle.session_slots.proofs.Carries.{kept_have_places}
use Rattle.session_slots.proofs.SessionSlots.{slots_are_numbered}
use Rattle.plan_model.specs.Plans.{Plan, IsPlan, keeping_slot, session, slot, slot_number, slots}
use Rattle.plan_model.specs.Firsts.{count, numbers}
use Rattle.plan_model.specs.Messages.{messages, slot_messages, input_messages}
use Rattle.plan_model.specs.Numbers.{message}
use Rattle.plan_model.proofs.KeptPlaces.{kept_in}
use Rattle.plan_model.proofs.Slots.{at_its_number}
use Rattle.program_model.specs.Programs.{taken, taken_in, input_taken, taken_as, taking_session}
use Rattle.program_model.specs.States.{slot_of, taking_slot}
use Rattle.program_model.specs.Proper.{IsTakenMessage}
use Rattle.program_laws.specs.Once.{taken_of, taken_at, GiversAreParties, IsSameOrLater}
use Rattle.program_laws.proofs.SentMessages.{each}

-- only sessions of the plan have slots
pub none_past : (plan : Plan) (t : ℕ) → length plan.sessions ≤ t → slots plan t ≡ 0
none_past plan t past = ap session_slots (get_or_past plan.sessions t no_session past) ∙ (slots_are_numbered no_session).count

pub session_there : (plan : Plan) (t j : ℕ) → j < slots plan t → t < length plan.sessions
session_there plan t j lj = elim (cases_lt t (length plan.sessions)) [
  | inl l ↦ l
  | inr past ↦ absurd (omega (arith, none_past plan t past, lj))
]

-- ---- what is taken in a slot

-- these are the messages of a slot that are taken in slot j of session t
pub record TakenFrom (plan : Plan) (t j : ℕ) (ns : List ℕ) : Type 0 where
  pub at : ℕ
  pub place : ℕ
  pub session_there : at < length plan.sessions
  pub slot_there : place < slots plan at
  pub are : ns ≡ numbers plan at place
  pub to : taken_at plan at place ≡ (t, j)
  pub order : IsSameOrLater at place (t, j)
  pub same : taken_as (session plan at) (slot plan at place) ≡ slot plan t j

-- or there are none
abbrev pub TakesFrom : Plan → ℕ → ℕ → List ℕ → Type 0
TakesFrom plan t j ns = (ns ≡ []) ⊎ TakenFrom plan t j ns

module _ (plan : Plan) (h : IsPlan plan) (t j : ℕ) (lt : t < length plan.sessions) (lj : j < slots plan t) where
  own_slot : (z : Slot) → slot plan t j ≡ z → taken_of plan t j z ≡ (t, j) → taken_as (session plan t) z ≡ z → TakesFrom plan t j (numbers plan t j)
  own_slot z is own same = inr (record {
    at = t;
    place = j;
    session_there = lt;
    slot_there = lj;
    are = refl;
    to = ap (taken_of plan t j) is ∙ own;
    order = inl refl;
    same = ap (taken_as (session plan t)) is ∙ same ∙ sym is;
  })

  input_from : (v : ℕ) (from : Source) → slot plan t j ≡ Input v → source (session plan t) v ≡ from → TakesFrom plan t j (input_taken plan t j v from)
  input_from v (Given p) is e = own_slot (Input v) is refl refl
  input_from v (Earlier r c i) is e =
      let it = kept_in plan h t v r c i e in
      let k : ℕ = keeping_slot plan t v r in
      let number : slot_number plan t (Input v) ≡ j = ap (slot_number plan t) (sym is) ∙ at_its_number plan t j lj in
      inr (record {
        at = r;
        place = k;
        session_there = omega (arith, it.earlier, lt);
        slot_there = it.slot_there;
        are = refl;
        to = ap (taken_of plan r k) it.slot_is ∙ ap (λ (kept : KeptWire). (kept.session, slot_number plan kept.session (Input kept.wire))) it.kept ∙ ap (λ n. (t, n)) number;
        order = inr it.earlier;
        same = ap (taken_as (session plan r)) it.slot_is ∙ ap (λ (kept : KeptWire). Input kept.wire) it.kept ∙ sym is;
      })

  pub takes_from : TakesFrom plan t j (taken plan t j)
  takes_from = of_slot (slot plan t j) refl
    where
      of_slot : (z : Slot) → slot plan t j ≡ z → TakesFrom plan t j (taken_in plan t j z)
      of_slot (Input v) is = input_from v (source (session plan t) v) is refl
      of_slot (At_gate u) is = own_slot (At_gate u) is refl refl
      of_slot (Output o) is = own_slot (Output o) is refl refl
      of_slot (Mask u side) is = own_slot (Mask u side) is refl refl
      of_slot (Mask_product u) is = own_slot (Mask_product u) is refl refl
      of_slot (Masked u side) is = own_slot (Masked u side) is refl refl
      of_slot (Kept i) is = inl refl

-- ---- where the messages of a slot are taken

-- all of them, in a slot that is there
pub record TakenThere (plan : Plan) (s k : ℕ) (at : ℕ × ℕ) : Type 0 where
  pub session_there : at.0 < length plan.sessions
  pub slot_there : at.1 < slots plan at.0
  pub are : taken plan at.0 at.1 ≡ numbers plan s k

module _ (plan : Plan) (h : IsPlan plan) (s k : ℕ) (ls : s < length plan.sessions) (lk : k < slots plan s) where
  own_taken : (z : Slot) → slot plan s k ≡ z → taken_in plan s k z ≡ numbers plan s k → TakenThere plan s k (s, k)
  own_taken z is own = record { session_there = ls; slot_there = lk; are = ap (taken_in plan s k) is ∙ own }

  -- a carried input has no messages of its own
  given_taken : (v : ℕ) (from : Source) → slot plan s k ≡ Input v → source (session plan s) v ≡ from → 0 < count plan s k → TakenThere plan s k (s, k)
  given_taken v (Given p) is e some = own_taken (Input v) is (ap (input_taken plan s k v) e)
  given_taken v (Earlier r c i) is e some = absurd (
      let none : count plan s k ≡ 0 = ap (λ z. length (slot_messages plan s k z)) is ∙ ap (λ from. length (input_messages plan s k from)) e in
      omega (arith, some, none))

  carried_taken : (r v j : ℕ) (from : Source) → source (session plan r) v ≡ from → carries s from ≡ true → kept_place plan.sessions r v ≡ j → slot plan s k ≡ Kept j
      → input_taken plan r (slot_number plan r (Input v)) v from ≡ numbers plan s k
  carried_taken r v j (Given p) e carried place is = absurd (false≢true carried)
  carried_taken r v j (Earlier q c i) e carried place is =
      let same : q ≡ s = eqb-true q s carried in
      ap (λ a. numbers plan a (keeping_slot plan r v a)) same
      ∙ ap (numbers plan s) (ap (λ n. slot_number plan s (Kept n)) place ∙ ap (slot_number plan s) (sym is) ∙ at_its_number plan s k lk)

  -- a kept wire is carried
  kept_at : (j : ℕ) → Inside (session plan s) (Kept j) → IsKeptAt plan.sessions s j (slice_index_or (session plan s).kept j no_kept)
  kept_at j inside =
      subst (IsKeptAt plan.sessions s j) (sym (ap (λ kept. slice_index_or kept j no_kept) (h.kept s)))
      ((kept_have_places plan.sessions).each s j (omega (arith, inside, ap length (h.kept s))))

  kept_taken : (j : ℕ) → slot plan s k ≡ Kept j → Inside (session plan s) (Kept j) → TakenThere plan s k (taken_of plan s k (Kept j))
  kept_taken j is inside =
      let kept : KeptWire = slice_index_or (session plan s).kept j no_kept in
      let it = kept_at j inside in
      let r : ℕ = kept.session in
      let v : ℕ = kept.wire in
      let at = (slots_are_numbered (session plan r)).there (Input v) it.wire in
      record {
        session_there = it.session;
        slot_there = at.0;
        are = ap (taken_in plan r (slot_number plan r (Input v))) at.1 ∙ carried_taken r v j (source (session plan r) v) refl it.carried it.place is;
      }

  pub taken_there : 0 < count plan s k → TakenThere plan s k (taken_at plan s k)
  taken_there some = of_slot (slot plan s k) refl ((slots_are_numbered (session plan s)).inside k lk)
    where
      of_slot : (z : Slot) → slot plan s k ≡ z → Inside (session plan s) z → TakenThere plan s k (taken_of plan s k z)
      of_slot (Input v) is inside = given_taken v (source (session plan s) v) is refl some
      of_slot (At_gate u) is inside = own_taken (At_gate u) is refl
      of_slot (Output o) is inside = own_taken (Output o) is refl
      of_slot (Mask u side) is inside = own_taken (Mask u side) is refl
      of_slot (Mask_product u) is inside = own_taken (Mask_product u) is refl
      of_slot (Masked u side) is inside = own_taken (Masked u side) is refl
      of_slot (Kept j) is inside = kept_taken j is inside

  carried_later : (r v : ℕ) (from : Source) → source (session plan r) v ≡ from → carries s from ≡ true → s < r
  carried_later r v (Given p) e carried = absurd (false≢true carried)
  carried_later r v (Earlier q c i) e carried = subst (λ z. z < r) (eqb-true q s carried) (h.earlier r v q c i e)

  -- there, or in a later session
  pub same_or_later : IsSameOrLater s k (taken_at plan s k)
  same_or_later = of_slot (slot plan s k) ((slots_are_numbered (session plan s)).inside k lk)
    where
      of_slot : (z : Slot) → Inside (session plan s) z → IsSameOrLater s k (taken_of plan s k z)
      of_slot (Kept j) inside =
          let kept : KeptWire = slice_index_or (session plan s).kept j no_kept in
          inr (carried_later kept.session kept.wire (source (session plan kept.session) kept.wire) refl (kept_at j inside).carried)
      of_slot (Input v) inside = inl refl
      of_slot (At_gate u) inside = inl refl
      of_slot (Output o) inside = inl refl
      of_slot (Mask u side) inside = inl refl
      of_slot (Mask_product u) inside = inl refl
      of_slot (Masked u side) inside = inl refl

-- ---- each message that is taken

-- message n is taken in slot k of session s
pub record IsTakenIn (plan : Plan) (s k n : ℕ) : Type 0 where
  pub number : n < length (messages plan)
  pub sender : (message plan n).sender < plan.parties
  pub share : (message plan n).share < length plan.groups
  pub slot_there : (message plan n).slot < slots plan (message plan n).session
  pub to : taken_at plan (message plan n).session (message plan n).slot ≡ (s, k)
  pub order : IsSameOrLater (message plan n).session (message plan n).slot (s, k)
  pub same : taking_slot plan n ≡ slot plan s k

module _ (plan : Plan) (h : IsPlan plan) (givers : GiversAreParties plan) (s k : ℕ) (ls : s < length plan.sessions) (lk : k < slots plan s) where
  pub all_taken : AllByRecursion (IsTakenIn plan s k) (taken plan s k)
  all_taken = elim (takes_from plan h s k ls lk) [
    | inl none ↦ subst (AllByRecursion (IsTakenIn plan s k)) (sym none) tt
    | inr from ↦
        subst (AllByRecursion (IsTakenIn plan s k)) (sym from.are)
        (every_weaker _ (IsTakenIn plan s k) (numbers plan from.at from.place) (λ n f.
        let session_is : (message plan n).session ≡ from.at = f.1.2 in
        let slot_is : (message plan n).slot ≡ from.place = f.1.0 in
        record {
          number = f.0;
          sender = f.1.1;
          share = f.1.3;
          slot_there = subst (λ r. (message plan n).slot < slots plan r) (sym session_is) (subst (λ j. j < slots plan from.at) (sym slot_is) from.slot_there);
          to = ap₂ (taken_at plan) session_is slot_is ∙ from.to;
          order = subst (λ r. IsSameOrLater r (message plan n).slot (s, k)) (sym session_is) (subst (λ j. IsSameOrLater from.at j (s, k)) (sym slot_is) from.order);
          same = ap₂ (λ r j. taken_as (session plan r) (slot plan r j)) session_is slot_is ∙ from.same;
        })
        (each plan h from.at from.place from.session_there (λ v p lv e. givers from.at v p from.session_there lv e) from.slot_there))
  ]

-- it is a message that may be taken there
taken_in_session : (plan : Plan) (s k : ℕ) (z : Slot) → taking_session s (session plan s) z ≡ (taken_of plan s k z).0
taken_in_session plan s k (Input v) = refl
taken_in_session plan s k (At_gate t) = refl
taken_in_session plan s k (Output o) = refl
taken_in_session plan s k (Mask t side) = refl
taken_in_session plan s k (Mask_product t) = refl
taken_in_session plan s k (Masked t side) = refl
taken_in_session plan s k (Kept j) = refl

pub taken_message : (plan : Plan) (s k n : ℕ) → k < slots plan s → IsTakenIn plan s k n → IsTakenMessage plan s n (message plan n).share
taken_message plan s k n lk it =
    let number : slot_number plan s (taking_slot plan n) ≡ k = ap (slot_number plan s) it.same ∙ at_its_number plan s k lk in
    record {
      number = it.number;
      session = taken_in_session plan (message plan n).session (message plan n).slot (slot_of plan n) ∙ ap (λ (at : ℕ × ℕ). at.0) it.to;
      share = it.share;
      taken = omega (arith, number, lk);
      taken_is = ap (slot plan s) number ∙ sym it.same;
      slot = it.slot_there;
    }
