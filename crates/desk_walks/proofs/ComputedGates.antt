-- Where a desk stands that has something of a gate to compute next.
use Rattle.std.proofs.Common.{◌≡◌, ℕ, ◌+◌, ◌<◌, ◌≤◌, true, sym, ◌∙◌}
use Rattle.secret_sharing.specs.Schemes.{has_pair}
use Rattle.plan_model.specs.declared.pattern.Pattern.TheVariants.{Silent, Multiplied}
use Rattle.plan_model.specs.Plans.{scheme}
use Rattle.plan_model.proofs.PlanSchemes.{plan_is}
use Rattle.program_model.specs.declared.half.Half.TheVariants.{Head, Tail}
use Rattle.program_model.specs.declared.instruction.Instruction.TheVariants.{Linear, Own, Sum, Take}
use Rattle.program_model.specs.States.{Given}
use Rattle.party_program.proofs.GateInstructions.{linear_place, own_place, sum_place}
use Rattle.party_program.proofs.ProgramPlaces.{ends_there}
use Rattle.party_desk.specs.declared.desk.Desk.{Desk}
use Rattle.party_desk.specs.Desks.{IsDesk, instruction_at}
use Rattle.desk_walks.specs.Walks.{NothingToCompute, IsAtTake}
use Rattle.desk_walks.proofs.ProductSteps.{no_take_there}

module _ (l : Given) (d : Desk) (h : IsDesk l d) where
  pub linear_here : (k : ℕ) → instruction_at l d ≡ Linear k → (d.place.half ≡ Head) × (d.place.pattern ≡ Silent)
  linear_here = linear_place l.plan l.party l.session (plan_is l.plan h.own_program.sound) h.own_program.session_there d.place d.position h.place

  pub sum_here : (k : ℕ) → instruction_at l d ≡ Sum k → (d.place.half ≡ Tail) × (d.place.pattern ≡ Multiplied) × (d.place.done + 1 ≡ d.place.count)
  sum_here = sum_place l.plan l.party l.session (plan_is l.plan h.own_program.sound) h.own_program.session_there d.place d.position h.place

  pub own_here : (k : ℕ) → instruction_at l d ≡ Own k → (d.place.half ≡ Head) × (d.place.pattern ≡ Multiplied) × (d.place.done ≡ 0) × (0 < d.place.count) × (has_pair (scheme l.plan) l.party ≡ true)
  own_here = own_place l.plan l.party l.session (plan_is l.plan h.own_program.sound) h.own_program.session_there d.place d.position h.place

  -- in a head nothing is taken
  pub head_takes_none : d.place.half ≡ Head → (n i : ℕ) → instruction_at l d ≡ Take n i → ⊥
  head_takes_none head n i is = no_take_there l.plan l.party l.session (plan_is l.plan h.own_program.sound) h.own_program.session_there d.place d.position n i h.place head is

  -- a place of another pattern has nothing of a gate
  pub none_of_gates : ((d.place.pattern ≡ Silent) → ⊥) → ((d.place.pattern ≡ Multiplied) → ⊥) → NothingToCompute l d
  none_of_gates not_silent not_product = (
    (λ k is. not_product (own_here k is).1),
    (λ k is. not_product (sum_here k is).1),
    (λ k is. not_silent (linear_here k is).1),
  )

  -- past all there is nothing
  pub none_past : d.place.count ≤ d.place.done → NothingToCompute l d
  none_past past =
      let ends = ends_there l.plan l.party l.session d.place d.position h.place past in (
        (λ k is. let clash = sym ends ∙ is in cc),
        (λ k is. let clash = sym ends ∙ is in cc),
        (λ k is. let clash = sym ends ∙ is in cc),
      )

-- a desk that waits for a message has nothing to compute
pub waits_through : (l : Given) (d : Desk) → IsAtTake l d → NothingToCompute l d
waits_through l d t = (
  (λ k is. let clash = sym t.is ∙ is in cc),
  (λ k is. let clash = sym t.is ∙ is in cc),
  (λ k is. let clash = sym t.is ∙ is in cc),
)
