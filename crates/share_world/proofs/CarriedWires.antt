-- What a session takes from earlier ones is what these end with, and what they keep for it.
use Rattle.std.proofs.Common.{◌≡◌, ℕ, zero, suc, ◌<◌, nat_eq, [], length, sym, ap, ◌∙◌, arith, inl, inr}
use Rattle.std.specs.Prelude.{slice_index_or}
use Rattle.std.proofs.lemmas.Bool.{cases_eq, cases_lt, cond-true, cond-false, eq-eqb, ne_eqb}
use Rattle.std.proofs.lemmas.List.{get_or_past}
use Rattle.session_slots.specs.declared.source.Source.TheVariants.{Given, Earlier}
use Rattle.session_slots.specs.declared.values.KeptWire.{KeptWire}
use Rattle.session_slots.specs.Sessions.{Session, owners, source, no_session, no_kept, kept_wire, output_wire}
use Rattle.session_slots.specs.Carries.{kept_from, kept_place}
use Rattle.session_slots.proofs.Carries.{kept_have_places}
use Rattle.plan_model.specs.Plans.{Plan, session, KeepsCarried}
use Rattle.share_world.specs.Worlds.{World, carried_wire, summands_before, end_summands, values_before, plain}

-- ---- the ends of earlier sessions

pub ended_summands : (w : World) (n r : ℕ) → r < n → summands_before w n r ≡ end_summands w r
ended_summands w zero r l = absurd (omega arith)
ended_summands w (suc n) r l = elim (cases_eq r n) [
  | inl e ↦ cond-true (nat_eq r n) _ (summands_before w n r) (eq-eqb r n e) ∙ ap (end_summands w) (sym e)
  | inr ne ↦ cond-false (nat_eq r n) _ (summands_before w n r) (ne_eqb r n ne) ∙ ended_summands w n r (omega arith)
]

pub ended_values : (w : World) (n r : ℕ) → r < n → values_before w n r ≡ plain w r
ended_values w zero r l = absurd (omega arith)
ended_values w (suc n) r l = elim (cases_eq r n) [
  | inl e ↦ cond-true (nat_eq r n) _ (values_before w n r) (eq-eqb r n e) ∙ ap (plain w) (sym e)
  | inr ne ↦ cond-false (nat_eq r n) _ (values_before w n r) (ne_eqb r n ne) ∙ ended_values w n r (omega arith)
]

-- ---- what is kept for a carried wire

-- only sessions of the plan carry wires
pub carrier_there : (plan : Plan) (s v r c i : ℕ) → source (session plan s) v ≡ Earlier r c i → s < length plan.sessions
carrier_there plan s v r c i from = elim (cases_lt s (length plan.sessions)) [
  | inl l ↦ l
  | inr past ↦ absurd (let none : source (session plan s) v ≡ Given 0 = ap (λ (x : Session). source x v) (get_or_past plan.sessions s no_session past) ∙ get_or_past [] v (Given 0) (omega arith) in cc)
]

-- and only their input wires are carried
pub carried_within : (x : Session) (v r c i : ℕ) → source x v ≡ Earlier r c i → v < length (owners x)
carried_within x v r c i from = elim (cases_lt v (length (owners x))) [
  | inl l ↦ l
  | inr past ↦ absurd (let none : source x v ≡ Given 0 = get_or_past (owners x) v (Given 0) past in cc)
]

-- a wire that is carried from session r is kept there, at its place
pub kept_there : (plan : Plan) → KeepsCarried plan → (s v r c i : ℕ) → source (session plan s) v ≡ Earlier r c i
    → (kept_place plan.sessions s v < length (session plan r).kept) × (kept_wire (session plan r) (kept_place plan.sessions s v) ≡ carried_wire plan r c i)
kept_there plan keeps s v r c i from =
    let x : Session = session plan r in
    let j = kept_place plan.sessions s v in
    let there = (kept_have_places plan.sessions).there s v r c i (carrier_there plan s v r c i from) from in
    let many : length x.kept ≡ length (kept_from r plan.sessions) = ap length (keeps r) in (
      omega (arith, many, there.0),
      ap (λ kept. output_wire x (slice_index_or kept j no_kept).output) (keeps r) ∙ ap (λ (kept : KeptWire). output_wire x kept.output) there.1,
    )
