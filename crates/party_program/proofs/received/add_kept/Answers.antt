use Rattle.std.proofs.Common.{◌≡◌, ◌≢◌, ℕ, ◌+◌, ◌<◌, true, List, length, sym, ap, ◌∙◌, subst, inl, inr, arith}
use Rattle.std.specs.Prelude.{slice_index_or}
use Rattle.std.specs.Global.{Vec}
use Rattle.std.proofs.lemmas.Bool.{cases_eq, cases_lt, eqb-true}
use Rattle.session_slots.specs.declared.source.Source.TheVariants.{Earlier}
use Rattle.session_slots.specs.declared.values.KeptWire.{KeptWire}
use Rattle.session_slots.specs.Sessions.{Session, carries, no_kept, readers, session_at, source}
use Rattle.session_slots.specs.Carries.{IsKeptAt, kept_from, kept_place}
use Rattle.session_slots.specs.SlotNumbers.{first_of_gate}
use Rattle.session_slots.proofs.Carries.{kept_have_places}
use Rattle.session_slots.proofs.SessionSlots.{slots_are_numbered}
use Rattle.plan_model.specs.Plans.{IsPlan, Plan, keeping_slot, session}
use Rattle.plan_model.specs.Firsts.{first}
use Rattle.plan_model.proofs.KeptPlaces.{kept_in}
use Rattle.plan_model.proofs.PlanSchemes.{plan_is}
use Rattle.plan_model.proofs.Slots.{few_slots}
use Rattle.party_program.specs.ProgramPlaces.{IsListed, IsReceived}
use Rattle.party_program.proofs.received.add_kept.Goals as goal
use Rattle.party_program.proofs.received.add_kept.Goals.{then-kept-s+in_ok-list_for, else-kept-s}

-- where the kept wires of a session that was found begin
begin_at : (plan : Plan) (r a b : ℕ) (part : Session) → part ≡ session plan r → a ≡ first_of_gate part (length part.gates) → b ≡ length (readers part)
    → a + b ≡ first_of_gate (session plan r) (length (session plan r).gates) + length (readers (session plan r))
begin_at plan r a b part same first many =
    omega (arith, first, many, ap (λ (x : Session). first_of_gate x (length x.gates) + length (readers x)) same)

-- the wire at place j of those that session r keeps, which were found
module _ (plan : Plan) (is : IsPlan plan) (r s j : ℕ) (part : Session) (items : List KeptWire) (found : part ≡ session plan r) (of : items ≡ part.kept) (lj : j < length items) (ls : s < length plan.sessions) where
  abbrev kept : KeptWire
  kept = slice_index_or items j no_kept

  same : items ≡ (session plan r).kept
  same = of ∙ ap (λ (x : Session). x.kept) found

  within : j < length (session plan r).kept
  within = omega (arith, lj, ap length same)

  at : IsKeptAt plan.sessions r j kept
  at = subst (IsKeptAt plan.sessions r j) (sym (ap (λ list. slice_index_or list j no_kept) (same ∙ is.kept r))) ((kept_have_places plan.sessions).each r j (omega (arith, within, ap length (is.kept r))))

  -- it is that of input wire v, where that wire's place is j
  this_wire : (v c i : ℕ) → source (session plan s) v ≡ Earlier r c i → kept_place plan.sessions s v ≡ j → (kept.session ≡ s) × (kept.wire ≡ v)
  this_wire v c i e here =
      let named = ap (λ list. slice_index_or list j no_kept) (same ∙ is.kept r) ∙ ap (λ n. slice_index_or (kept_from r plan.sessions) n no_kept) (sym here) ∙ ((kept_have_places plan.sessions).there s v r c i ls e).1 in
      (ap (λ (wire : KeptWire). wire.session) named, ap (λ (wire : KeptWire). wire.wire) named)

  -- where it is carried by session s
  module _ (here : kept.session ≡ s) where
    of_another : (v q c i : ℕ) → q < r → source (session plan s) v ≡ Earlier q c i → v ≢ kept.wire
    of_another v q c i less e same_wire =
        let carried : carries r (source (session plan s) v) ≡ true = subst (λ w. carries r (source (session plan s) w) ≡ true) (sym same_wire) (subst (λ n. carries r (source (session_at plan.sessions n) kept.wire) ≡ true) here at.carried) in
        omega (arith, less, eqb-true q r (sym (ap (carries r) e) ∙ carried))

    earlier_place : (v : ℕ) → kept_place plan.sessions s v < j → v ≢ kept.wire
    earlier_place v less same_wire =
        omega (arith, less, at.place, ap (λ n. kept_place plan.sessions n kept.wire) here, ap (kept_place plan.sessions s) same_wire)

pub overflow_add-first_kept : goal.overflow_add-first_kept
overflow_add-first_kept c =
    let plan = c.args.plan.now in
    let r = c.args.r in
    let begin = begin_at plan r c.first_output_slot.result c.output_wires.result c.part-part.result.now c.part-part.ensures c.first_output_slot.ensures c.output_wires.ensures in
    let own = (c.recall.ensures.sessions r (omega (arith, c.requires.earlier, c.requires.session))).wired in
    omega (arith, begin, few_slots (session plan r) own, (slots_are_numbered (session plan r)).count)

pub overflow_add-first_kept-then-kept-s : goal.overflow_add-first_kept-then-kept-s
overflow_add-first_kept-then-kept-s c =
    let plan = c.args.plan.now in
    let r = c.args.r in
    let begin = begin_at plan r c.first_output_slot.result c.output_wires.result c.part-part.result.now c.part-part.ensures c.first_output_slot.ensures c.output_wires.ensures in
    let own = (c.recall.ensures.sessions r (omega (arith, c.requires.earlier, c.requires.session))).wired in
    let there = within plan (plan_is plan c.recall.ensures) r c.args.s c.loop-place.place c.part-part.result.now c.kept-kept-items.result.now c.part-part.ensures c.kept-kept-items.ensures (omega (arith, c.loop-place-test.true, c.loop-place.auto.place-end)) c.requires.session in
    omega (arith, begin, there, few_slots (session plan r) own, (slots_are_numbered (session plan r)).count)

pub first-first-requires-clause-slot : goal.first-first-requires-clause-slot
first-first-requires-clause-slot c =
    let plan = c.args.plan.now in
    let r = c.args.r in
    let begin = begin_at plan r c.first_output_slot.result c.output_wires.result c.part-part.result.now c.part-part.ensures c.first_output_slot.ensures c.output_wires.ensures in
    let there = within plan (plan_is plan c.recall.ensures) r c.args.s c.loop-place.place c.part-part.result.now c.kept-kept-items.result.now c.part-part.ensures c.kept-kept-items.ensures (omega (arith, c.loop-place-test.true, c.loop-place.auto.place-end)) c.requires.session in
    omega (arith, begin, there, (slots_are_numbered (session plan r)).count)

pub loop-place-preserved : goal.loop-place-preserved
loop-place-preserved c =
    let plan = c.args.plan.now in
    let is = plan_is plan c.recall.ensures in
    let r = c.args.r in
    let s = c.args.s in
    let j = c.loop-place.place in
    let part = c.part-part.result.now in
    let items = c.kept-kept-items.result.now in
    let there : j < length items = omega (arith, c.loop-place-test.true, c.loop-place.auto.place-end) in
    let behind = begin_at plan r c.first_output_slot.result c.output_wires.result part c.part-part.ensures c.first_output_slot.ensures c.output_wires.ensures in
    elim c.if-kept-s.branch [
      | then-kept-s+in_ok-list_for w ↦
          let here = w.if-kept-s.true in
          let new = λ (v : ℕ) (q : ℕ). subst (λ (received : Vec ℕ). IsReceived plan s received.items v q) (sym w.received-is) in
          let others = λ (v q : ℕ) (ne : v ≢ (slice_index_or items j no_kept).wire). w.in_ok-list_for.ensures.others v (first plan q (keeping_slot plan s v q)) ne in
          record {
            before = λ v q c' i less e.
                new v q (others v q (of_another plan is r s j part items c.part-part.ensures c.kept-kept-items.ensures there c.requires.session here v q c' i less e) (c.loop-place.invariant.before v q c' i less e));
            places = λ v c' i e less. new v r (elim (cases_lt (kept_place plan.sessions s v) j) [
              | inl l ↦ others v r (earlier_place plan is r s j part items c.part-part.ensures c.kept-kept-items.ensures there c.requires.session here v l) (c.loop-place.invariant.places v c' i e l)
              | inr past ↦
                  let same_place : kept_place plan.sessions s v ≡ j = omega (arith, less, past) in
                  let own = this_wire plan is r s j part items c.part-part.ensures c.kept-kept-items.ensures there c.requires.session v c' i e same_place in
                  let slot : c.first_output_slot.result + c.output_wires.result + j ≡ keeping_slot plan s v r = omega (arith, behind, same_place) in
                  let number = w.first-first.ensures.is ∙ ap (first plan r) slot in
                  subst (λ n. IsListed w.list_for.new.list.items v n) number (subst (λ v. IsListed w.list_for.new.list.items v w.first-first.result) own.1 w.in_ok-list_for.ensures.its)
            ]);
          }
      | else-kept-s w ↦
          let new = λ (v : ℕ) (q : ℕ). subst (λ (received : Vec ℕ). IsReceived plan s received.items v q) (sym w.received-is) in
          record {
            before = λ v q c' i less e. new v q (c.loop-place.invariant.before v q c' i less e);
            places = λ v c' i e less. new v r (elim (cases_lt (kept_place plan.sessions s v) j) [
              | inl l ↦ c.loop-place.invariant.places v c' i e l
              | inr past ↦ absurd (w.if-kept-s.false (this_wire plan is r s j part items c.part-part.ensures c.kept-kept-items.ensures there c.requires.session v c' i e (omega (arith, less, past))).0)
            ]);
          }
    ]

pub returns : goal.returns
returns c = λ v q i j less e.
    let plan = c.args.plan.now in
    let s = c.args.s in
    elim (cases_eq q c.args.r) [
      | inl same ↦
          let at = kept_in plan (plan_is plan c.recall.ensures) s v q i j e in
          let kept = c.kept-kept-items.ensures ∙ ap (λ (x : Session). x.kept) c.part-part.ensures in
          let place = subst (λ r. kept_place plan.sessions s v < length (session plan r).kept) same at.place in
          subst (IsReceived plan s c.loop-place.received.items v) (sym same)
          (c.loop-place.invariant.places v i j (e ∙ ap (λ r. Earlier r i j) same) (omega (arith, c.loop-place-test.false, place, ap length kept)))
      | inr ne ↦ c.loop-place.invariant.before v q i j (omega (arith, less, ne)) e
    ]
