-- The slot in which a carried wire is kept.
use Rattle.std.proofs.Common.{◌≡◌, ℕ, ◌<◌, length, sym, ap, ◌∙◌, arith}
use Rattle.std.specs.Prelude.{slice_index_or}
use Rattle.std.proofs.lemmas.Bool.{cases_lt, false≢true}
use Rattle.std.proofs.lemmas.List.{get_or_past}
use mathlib.Core.Logic.{inl, inr}
use Rattle.session_slots.specs.declared.source.Source.TheVariants.{Given, Earlier}
use Rattle.session_slots.specs.Sessions.{carried_output, is_carried, no_kept, no_session, owners, source}
use Rattle.session_slots.specs.Sessions.Slot.{Kept}
use Rattle.session_slots.specs.Carries.{kept_place}
use Rattle.session_slots.proofs.Carries.{kept_have_places}
use Rattle.session_slots.proofs.SessionSlots.{slots_are_numbered}
use Rattle.plan_model.specs.Plans.{Plan, IsPlan, keeping_slot, session, slot, slots}

-- input wire v of session s carries a wire of session r, which keeps it there
pub record IsKeptIn (plan : Plan) (s v r c i : ℕ) : Type 0 where
  pub earlier : r < s
  pub session_there : s < length plan.sessions
  pub wire : v < length (owners (session plan s))
  pub place : kept_place plan.sessions s v < length (session plan r).kept
  pub kept : slice_index_or (session plan r).kept (kept_place plan.sessions s v) no_kept
      ≡ record { session = s; wire = v; output = carried_output (session plan r) (Earlier r c i) }
  pub slot_there : keeping_slot plan s v r < slots plan r
  pub slot_is : slot plan r (keeping_slot plan s v r) ≡ Kept (kept_place plan.sessions s v)

pub kept_in : (plan : Plan) → IsPlan plan → (s v r c i : ℕ) → source (session plan s) v ≡ Earlier r c i → IsKeptIn plan s v r c i
kept_in plan is s v r c i e =
    let wire : v < length (owners (session plan s)) = elim (cases_lt v (length (owners (session plan s)))) [
      | inl l ↦ l
      | inr past ↦ absurd (false≢true (sym (ap is_carried (get_or_past (owners (session plan s)) v (Given 0) past)) ∙ ap is_carried e))
    ] in
    let there : s < length plan.sessions = elim (cases_lt s (length plan.sessions)) [
      | inl l ↦ l
      | inr past ↦ absurd (omega (arith, wire, ap (λ x. length (owners x)) (get_or_past plan.sessions s no_session past)))
    ] in
    let at = (kept_have_places plan.sessions).there s v r c i there e in
    let place : kept_place plan.sessions s v < length (session plan r).kept = omega (arith, at.0, ap length (is.kept r)) in
    let numbered = (slots_are_numbered (session plan r)).there (Kept (kept_place plan.sessions s v)) place in
    record {
      earlier = is.earlier s v r c i e;
      session_there = there;
      wire = wire;
      place = place;
      kept = ap (λ kept. slice_index_or kept (kept_place plan.sessions s v) no_kept) (is.kept r) ∙ at.1;
      slot_there = numbered.0;
      slot_is = numbered.1;
    }
