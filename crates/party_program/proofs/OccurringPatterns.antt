-- The patterns of a session's slots.
use Rattle.std.proofs.Common.{◌≡◌, ℕ, ◌<◌, Bool, true, false, not, ◌&&◌, List, length, refl, sym, ap, ◌∙◌, subst}
use Rattle.std.specs.Prelude.{slice_index}
use Rattle.std.specs.List.{Contains}
use Rattle.std.proofs.lemmas.List.{get_or_default}
use Rattle.std.proofs.lemmas.List.Elements.{Contains-get_or}
use Rattle.circuit_model.specs.Circuits.{is_product}
use Rattle.secret_sharing.specs.Schemes.{has_pair}
use Rattle.plan_model.specs.declared.pattern.Pattern.{Pattern}
use Rattle.plan_model.specs.declared.pattern.Pattern.TheVariants.{Opened}
use Rattle.session_slots.specs.declared.source.Source.{Source}
use Rattle.session_slots.specs.declared.source.Source.TheVariants.{Given, Earlier}
use Rattle.session_slots.specs.Sessions.{Slot, gate, given_by, readers, source}
use Rattle.session_slots.specs.SoundSessions.{Inside}
use Rattle.plan_model.specs.Plans.{Plan, scheme, session, slots, deals_in}
use Rattle.session_slots.specs.Sessions.Slot.{Input, At_gate, Output, Mask, Mask_product, Masked, Kept}
use Rattle.plan_model.specs.Patterns.{input_pattern, pattern, pattern_at, Occurs}
use Rattle.plan_model.specs.Sound.{IsSound}
use Rattle.session_slots.proofs.SessionSlots.{slot_kinds}
use Rattle.program_model.specs.declared.half.Half.{Half}
use Rattle.party_program.specs.declared.step.Step.{Step}
use Rattle.party_program.specs.declared.step_table.StepTable.{StepTable}
use Rattle.party_program.specs.PartySteps.{deals_in_pattern, steps}
use Rattle.party_program.specs.ProgramPlaces.{AreSteps, OccursIn}
use Rattle.party_program.proofs.FollowedPatterns.{gate_pattern}

module _ (plan : Plan) (s : ℕ) where
  gate_occurs : (prepared product : Bool) → Occurs plan (gate_pattern prepared product)
  gate_occurs true true = tt
  gate_occurs true false = tt
  gate_occurs false true = tt
  gate_occurs false false = tt

  input_occurs : (from : Source) → ((p : ℕ) → from ≡ Given p → p < plan.parties) → Occurs plan (input_pattern from)
  input_occurs (Given p) h = h p refl
  input_occurs (Earlier r c i) h = tt

  kind_occurs : IsSound plan → s < length plan.sessions → (z : Slot) → Inside (session plan s) z → Occurs plan (pattern plan s z)
  kind_occurs sound ls (Input v) l = input_occurs (source (session plan s) v) (λ p e. (sound.sessions s ls).owned v p l e)
  kind_occurs sound ls (At_gate t) l = gate_occurs (session plan s).prepared (is_product (gate (session plan s) t).operation)
  kind_occurs sound ls (Output o) l = record { at = s; output = o; session_there = ls; output_there = l; is = refl }
  kind_occurs sound ls (Mask t side) l = tt
  kind_occurs sound ls (Mask_product t) l = tt
  kind_occurs sound ls (Masked t side) l = tt
  kind_occurs sound ls (Kept j) l = tt

  -- the pattern of a slot is one of the plan
  pattern_occurs : (k : ℕ) → IsSound plan → s < length plan.sessions → k < slots plan s → Occurs plan (pattern_at plan s k)
  pattern_occurs k sound ls = slot_kinds (session plan s) (λ k z. Occurs plan (pattern plan s z)) (kind_occurs sound ls) k

  pub occurs_in : (k : ℕ) (its : Pattern) → IsSound plan → s < length plan.sessions → k < slots plan s → its ≡ pattern_at plan s k → OccursIn plan s its
  occurs_in k its sound ls lk e = record { slot = k; slot_there = lk; is = e; occurs = subst (Occurs plan) (sym e) (pattern_occurs k sound ls lk) }

  -- what a table has for the pattern of a slot
  pub steps_found : (p k : ℕ) (half : Half) (its : Pattern) (table : StepTable) (found : List Step) → AreSteps plan p s half table → IsSound plan → s < length plan.sessions → k < slots plan s → its ≡ pattern_at plan s k
      → ((plan : Plan) (p s : ℕ) (half : Half) → AreSteps plan p s half table → OccursIn plan s its → found ≡ steps plan p half its) → found ≡ steps plan p half (pattern_at plan s k)
  steps_found p k half its table found are sound ls lk e of = of plan p s half are (occurs_in k its sound ls lk e) ∙ ap (steps plan p half) e

  -- whether a party deals in a slot, its pattern tells
  pub deals_by_pattern : (p : ℕ) (z : Slot) → deals_in_pattern plan p (pattern plan s z) ≡ deals_in plan s p z
  deals_by_pattern p (Input v) = of_input (source (session plan s) v)
    where
      of_input : (from : Source) → deals_in_pattern plan p (input_pattern from) ≡ given_by p from
      of_input (Given q) = refl
      of_input (Earlier r c i) = refl
  deals_by_pattern p (At_gate t) = of_gate (session plan s).prepared (is_product (gate (session plan s) t).operation)
    where
      of_gate : (prepared product : Bool) → deals_in_pattern plan p (gate_pattern prepared product) ≡ ((not prepared && product) && has_pair (scheme plan) p)
      of_gate true true = refl
      of_gate true false = refl
      of_gate false true = refl
      of_gate false false = refl
  deals_by_pattern p (Output o) = refl
  deals_by_pattern p (Mask t side) = refl
  deals_by_pattern p (Mask_product t) = refl
  deals_by_pattern p (Masked t side) = refl
  deals_by_pattern p (Kept j) = refl

  -- only an output is opened, to its readers
  pub opened_to : (k mask : ℕ) → k < slots plan s → pattern_at plan s k ≡ Opened mask → Contains (readers (session plan s)) mask
  opened_to k mask = slot_kinds (session plan s) (λ k z. pattern plan s z ≡ Opened mask → Contains (readers (session plan s)) mask) by_kind k
    where
      not_opened : (prepared product : Bool) → gate_pattern prepared product ≡ Opened mask → ⊥
      not_opened true true e = absurd cc
      not_opened true false e = absurd cc
      not_opened false true e = absurd cc
      not_opened false false e = absurd cc

      input_not : (from : Source) → input_pattern from ≡ Opened mask → ⊥
      input_not (Given p) e = absurd cc
      input_not (Earlier r c i) e = absurd cc

      by_kind : (z : Slot) → Inside (session plan s) z → pattern plan s z ≡ Opened mask → Contains (readers (session plan s)) mask
      by_kind (Input v) l e = absurd (input_not (source (session plan s) v) e)
      by_kind (At_gate t) l e = absurd (not_opened (session plan s).prepared (is_product (gate (session plan s) t).operation) e)
      by_kind (Output o) l e =
          let its : slice_index (readers (session plan s)) o ≡ mask = cc in
          subst (λ (mask : ℕ). Contains (readers (session plan s)) mask) its (Contains-get_or (readers (session plan s)) o 0 l)
      by_kind (Mask t side) l e = absurd cc
      by_kind (Mask_product t) l e = absurd cc
      by_kind (Masked t side) l e = absurd cc
      by_kind (Kept j) l e = absurd cc

  -- an opening to any of its readers occurs
  pub opening_occurs : s < length plan.sessions → (mask : ℕ) → Contains (readers (session plan s)) mask → Occurs plan (Opened mask)
  opening_occurs ls mask (o, lo, is) =
      record { at = s; output = o; session_there = ls; output_there = lo; is = sym is ∙ get_or_default (readers (session plan s)) o mask 0 lo }
