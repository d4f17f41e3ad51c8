-- That a fault of an output is told of a party of the plan.
use Rattle.std.proofs.Common.{◌≡◌, ℕ, Bool, true, false, [], ◌∷◌, ◌++◌, List, length, Some, subst}
use Rattle.std.specs.Prelude.{IfSome, not}
use Rattle.list_laws.specs.Lists.{joined}
use Rattle.list_laws.specs.Checks.{◌answers◌, first_fault}
use Rattle.session_slots.specs.Sessions.{owners, readers}
use Rattle.plan_model.specs.Plans.{session}
use Rattle.share_world.specs.Worlds.{World}
use Rattle.tape_map.specs.MapFaults.{HasRecipientBelow, input_check, input_checks, output_checks, map_fault, is_tolerated}
use Rattle.tape_map.specs.declared.fault.MapFault.{MapFault}
use Rattle.tape_map.specs.declared.fault.MapFault.TheVariants.{NotTolerated}
use Rattle.list_laws.proofs.FirstFaults.{holds-append, holds-joined}

module _ (w : World) (other : List (List (List ℕ))) (group : ℕ) where
  abbrev Below : MapFault → Type 0
  Below = HasRecipientBelow w.plan.parties

  one : (failed : Bool) (fault : MapFault) → Below fault → IfSome (first_fault ((failed answers fault) ∷ [])) Below
  one false fault below = tt
  one true fault below = below

  inputs_below : (s : ℕ) → IfSome (first_fault (input_checks w other group s)) Below
  inputs_below s = holds-joined Below (length (owners (session w.plan s))) (λ v. input_check w other group s v ∷ []) (λ v l. one _ _ tt)

  outputs_below : (s : ℕ) → IfSome (first_fault (output_checks w other group s)) Below
  outputs_below s =
      holds-joined Below (length (readers (session w.plan s))) _ (λ o l. holds-joined Below w.plan.parties _ (λ r lr. one _ _ lr))

  -- the first fault is told of a party of the plan
  pub recipient_below : (fault : MapFault) → map_fault w other group ≡ Some fault → Below fault
  recipient_below fault is =
      let inputs = joined (length w.plan.sessions) (input_checks w other group) in
      let outputs = joined (length w.plan.sessions) (output_checks w other group) in
      subst (λ o. IfSome o Below) is
      (holds-append Below ((not (is_tolerated w.plan group) answers NotTolerated) ∷ []) (inputs ++ outputs) (one _ _ tt)
      (holds-append Below inputs outputs
      (holds-joined Below (length w.plan.sessions) (input_checks w other group) (λ s l. inputs_below s))
      (holds-joined Below (length w.plan.sessions) (output_checks w other group) (λ s l. outputs_below s))))
