-- That a fault of a party's inputs is told of a party of the plan.
use Rattle.std.proofs.Common.{◌≡◌, ℕ, ◌<◌, Bool, true, false, List, [], ◌∷◌, Option, Some, None, Result, Ok, Err, ◌⊎◌, inl, inr, sym, subst}
use Rattle.std.specs.Prelude.{IfSome, IfErr, not, if◌then◌else◌}
use Rattle.std.specs.Result.{IsErrAnd}
use Rattle.std.specs.Option.{option_map, option_or}
use Rattle.toml.specs.Data.{Members}
use Rattle.toml_fields.specs.Fields.{has_field, is_misfit}
use Rattle.toml_fields.specs.declared.kind.Kind.TheVariants as kind
use Rattle.list_laws.specs.Checks.{first_fault}
use Rattle.party_names.specs.Names.{name_at}
use Rattle.plan_model.specs.Plans.{Plan}
use Rattle.party_file.specs.declared.fault.PartyFault.{PartyFault}
use Rattle.other_file.specs.declared.fault.OtherFault.{OtherFault}
use Rattle.other_file.specs.declared.fault.OtherFault.TheVariants.{File, WrongKind, Inputs, Memory}
use Rattle.other_file.specs.Faults.{HasPartyBelow}
use Rattle.other_file.specs.Table.{inputs_in, file_checks, party_fault, other_fault}
use Rattle.list_laws.proofs.FirstFaults.{holds-joined}

abbrev BelowIn : ℕ → Option OtherFault → Type 0
BelowIn n o = IfSome o (HasPartyBelow n)

one_below : (n : ℕ) (o : Option OtherFault) → BelowIn n o → BelowIn n (first_fault (o ∷ []))
one_below n None below = tt
one_below n (Some fault) below = below

own_below : (n p : ℕ) (named misfit : Bool) (o : Option PartyFault) → p < n
    → BelowIn n (if not named then None else if misfit then Some (WrongKind p) else option_map (λ fault. Inputs p fault) o)
own_below n p false misfit o l = tt
own_below n p true true o l = l
own_below n p true false None l = tt
own_below n p true false (Some fault) l = l

party_below : (numeric : List Bool) (plan : Plan) (names : List (List ℕ)) (given : Members) (n p : ℕ) → p < n → BelowIn n (party_fault numeric plan names given p)
unfolding party_fault
party_below numeric plan names given n p l = own_below n p (has_field (name_at names p) given) (is_misfit kind.Texts (name_at names p) given) _ l

or_below : (n : ℕ) (file : Option PartyFault) (o : Option OtherFault) → BelowIn n o → BelowIn n (option_or (option_map (λ fault. File fault) file) o)
or_below n None o below = below
or_below n (Some fault) o below = tt

fields_below : (numeric : List Bool) (plan : Plan) (names : List (List ℕ)) (fields : Members) → BelowIn plan.parties (other_fault numeric plan names fields)
unfolding other_fault
fields_below numeric plan names fields =
    or_below plan.parties (first_fault (file_checks names fields)) _
    (holds-joined (HasPartyBelow plan.parties) plan.parties (λ p. party_fault numeric plan names (inputs_in fields) p ∷ [])
    (λ p l. one_below plan.parties (party_fault numeric plan names (inputs_in fields) p) (party_below numeric plan names (inputs_in fields) plan.parties p l)))

-- the fault of a reading, at the exit of a `?`
pub exit_below : {A : Type 0} (numeric : List Bool) (plan : Plan) (names : List (List ℕ)) (fields : Members) (r : Result A OtherFault) (e : OtherFault) → IsErrAnd r (λ f. f ≡ e)
    → (e ≡ Memory) ⊎ (other_fault numeric plan names fields ≡ Some e) → IfErr r (HasPartyBelow plan.parties)
exit_below numeric plan names fields (Ok x) e h w = absurd h
exit_below numeric plan names fields (Err f) e h w = subst (HasPartyBelow plan.parties) (sym h) (told w)
  where
    told : (e ≡ Memory) ⊎ (other_fault numeric plan names fields ≡ Some e) → HasPartyBelow plan.parties e
    told (inl memory) = subst (HasPartyBelow plan.parties) (sym memory) tt
    told (inr is) = subst (BelowIn plan.parties) is (fields_below numeric plan names fields)
