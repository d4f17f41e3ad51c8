-- Where a fault stands among all checks of a file of other inputs.
use Rattle.std.proofs.Common.{◌≡◌, ℕ, Bool, true, false, List, [], ◌∷◌, length, Option, Some, None, Ok, Err, ◌⊎◌, inl, inr, refl, sym, ap, ap₂, ◌∙◌}
use Rattle.std.specs.Prelude.{codes, not, ◌==◌, if◌then◌else◌, slice_index_or}
use Rattle.std.specs.Option.{option_map, option_or}
use Rattle.toml.specs.Data.{Members}
use Rattle.toml_fields.specs.Documents.{document_of}
use Rattle.toml_fields.specs.Fields.{has_field, is_misfit, texts_at}
use Rattle.toml_fields.specs.declared.kind.Kind.TheVariants as kind
use Rattle.list_laws.specs.Lists.{listed}
use Rattle.list_laws.specs.Checks.{◌answers◌, first_fault, or_fault}
use Rattle.party_names.specs.Names.{name_at}
use Rattle.plan_model.specs.Plans.{Plan}
use Rattle.party_file.specs.Table.{version_checks, input_checks, sessions_given}
use Rattle.party_file.specs.declared.fault.PartyFault.{PartyFault}
use Rattle.party_file.specs.declared.fault.PartyFault.TheVariants.{CountDiffers}
use Rattle.party_file.specs.declared.fault.PartyFault.TheVariants as party
use Rattle.list_laws.proofs.FirstFaults.{first-front, after_passed}
use Rattle.other_file.specs.declared.fault.OtherFault.{OtherFault}
use Rattle.other_file.specs.declared.fault.OtherFault.TheVariants.{File, WrongKind, Inputs, Memory}
use Rattle.other_file.specs.Faults.{of_file, of_party}
use Rattle.other_file.specs.Table.{name_checks, kind_checks, inputs_in, file_checks, text_checks, party_fault, party_inputs, other_fault, other_inputs, other_in, other_in_fields}

abbrev pub own_names : List (List ℕ)
own_names = codes "version" ∷ codes "inputs" ∷ []

-- ---- the file as such

module _ (names : List (List ℕ)) (fields : Members) where
  pub at_version : (fault : PartyFault) → first_fault (version_checks fields) ≡ Some fault → first_fault (file_checks names fields) ≡ Some fault
  unfolding file_checks
  at_version fault h = first-front (version_checks fields) _ fault h

  module _ (v : first_fault (version_checks fields) ≡ None) where
    pub at_names : (fault : PartyFault) → first_fault (name_checks own_names fields) ≡ Some fault → first_fault (file_checks names fields) ≡ Some fault
    unfolding file_checks
    at_names fault h = after_passed (version_checks fields) _ _ v (first-front (name_checks own_names fields) _ fault h)

    module _ (n : first_fault (name_checks own_names fields) ≡ None) where
      pub at_kinds : (fault : PartyFault) → first_fault (kind_checks fields) ≡ Some fault → first_fault (file_checks names fields) ≡ Some fault
      unfolding file_checks
      at_kinds fault h = after_passed (version_checks fields) _ _ v (after_passed (name_checks own_names fields) _ _ n (first-front (kind_checks fields) _ fault h))

      -- the last checks decide where all others passed
      pub at_parties : first_fault (kind_checks fields) ≡ None → (given : Members) → given ≡ inputs_in fields → (o : Option PartyFault) → first_fault (name_checks names given) ≡ o
          → first_fault (file_checks names fields) ≡ o
      unfolding file_checks
      at_parties k given is o h =
          after_passed (version_checks fields) _ _ v (after_passed (name_checks own_names fields) _ _ n
          (after_passed (kind_checks fields) _ _ k (ap (λ g. first_fault (name_checks names g)) (sym is) ∙ h)))

-- ---- all fields

module _ (numeric : List Bool) (plan : Plan) (names : List (List ℕ)) (fields given : Members) (is : given ≡ inputs_in fields) where
  -- the parties decide where the file as such has no fault
  pub parties_decide : first_fault (file_checks names fields) ≡ None → (o : Option OtherFault) → first_fault (listed plan.parties (party_fault numeric plan names given)) ≡ o → other_fault numeric plan names fields ≡ o
  unfolding other_fault
  parties_decide e o h =
      ap₂ (λ f g. option_or (option_map (λ fault. File fault) f) (first_fault (listed plan.parties (party_fault numeric plan names g)))) e (sym is) ∙ h

  pub same_inputs : (inputs : List (List (List ℕ))) → listed plan.parties (party_inputs numeric plan names inputs given) ≡ other_inputs numeric plan names inputs fields
  unfolding other_inputs
  same_inputs inputs = ap (λ g. listed plan.parties (party_inputs numeric plan names inputs g)) is

pub file_fails : (numeric : List Bool) (plan : Plan) (names : List (List ℕ)) (fields : Members) (fault : PartyFault) → first_fault (file_checks names fields) ≡ Some fault → other_fault numeric plan names fields ≡ Some (File fault)
unfolding other_fault
file_fails numeric plan names fields fault e =
    ap (λ f. option_or (option_map (λ fault. File fault) f) (first_fault (listed plan.parties (party_fault numeric plan names (inputs_in fields))))) e

-- ---- one party

module _ (numeric : List Bool) (plan : Plan) (names : List (List ℕ)) (inputs : List (List (List ℕ))) (given : Members) (p : ℕ) (name : List ℕ) (is : name ≡ name_at names p) where
  abbrev Fault : Bool → Bool → List (List ℕ) → Option OtherFault
  Fault named misfit texts =
      if not named then None
      else if misfit then Some (WrongKind p)
      else option_map (λ fault. Inputs p fault) (first_fault (text_checks numeric plan p texts))

  fault_is : (named misfit : Bool) (texts : List (List ℕ)) → has_field name given ≡ named → is_misfit kind.Texts name given ≡ misfit → texts ≡ texts_at name given
      → party_fault numeric plan names given p ≡ Fault named misfit texts
  unfolding party_fault
  fault_is named misfit texts n m t =
      ap (λ k. Fault (has_field k given) (is_misfit kind.Texts k given) (texts_at k given)) (sym is)
      ∙ ap (λ b. Fault b (is_misfit kind.Texts name given) (texts_at name given)) n
      ∙ ap₂ (λ b ts. Fault named b ts) m (sym t)

  inputs_is : (named : Bool) (texts : List (List ℕ)) → has_field name given ≡ named → texts ≡ texts_at name given
      → party_inputs numeric plan names inputs given p ≡ (if named then sessions_given numeric plan p texts else slice_index_or inputs p [])
  unfolding party_inputs
  inputs_is named texts n t =
      ap (λ k. if has_field k given then sessions_given numeric plan p (texts_at k given) else slice_index_or inputs p []) (sym is)
      ∙ ap₂ (λ b ts. if b then sessions_given numeric plan p ts else slice_index_or inputs p []) n (sym t)

  -- the table doesn't name the party
  pub not_named : has_field name given ≡ false → (party_fault numeric plan names given p ≡ None) × (slice_index_or inputs p [] ≡ party_inputs numeric plan names inputs given p)
  not_named n = (
    fault_is false (is_misfit kind.Texts name given) (texts_at name given) n refl refl,
    sym (inputs_is false (texts_at name given) n refl),
  )

  module _ (named : has_field name given ≡ true) where
    pub of_other_kind : is_misfit kind.Texts name given ≡ true → party_fault numeric plan names given p ≡ Some (WrongKind p)
    of_other_kind m = fault_is true true (texts_at name given) named m refl

    module _ (fits : is_misfit kind.Texts name given ≡ false) (texts : List (List ℕ)) (there : texts ≡ texts_at name given) where
      pub texts_fail : (fault : PartyFault) → first_fault (text_checks numeric plan p texts) ≡ Some fault → party_fault numeric plan names given p ≡ Some (Inputs p fault)
      texts_fail fault e = fault_is true false texts named fits there ∙ ap (option_map (λ fault. Inputs p fault)) e

      pub texts_pass : (words : List (List ℕ)) → first_fault (text_checks numeric plan p texts) ≡ None → words ≡ sessions_given numeric plan p texts
          → (party_fault numeric plan names given p ≡ None) × (words ≡ party_inputs numeric plan names inputs given p)
      texts_pass words e w = (
        fault_is true false texts named fits there ∙ ap (option_map (λ fault. Inputs p fault)) e,
        w ∙ sym (inputs_is true texts named there),
      )

-- ---- the texts of a party

pub count_fails : (numeric : List Bool) (plan : Plan) (p : ℕ) (texts : List (List ℕ)) → (length texts == length plan.sessions) ≡ false
    → first_fault (text_checks numeric plan p texts) ≡ Some (CountDiffers None (length plan.sessions) (length texts))
unfolding text_checks
count_fails numeric plan p texts e =
    ap (λ b. first_fault ((not b answers CountDiffers None (length plan.sessions) (length texts)) ∷ input_checks numeric plan p texts)) e

pub count_passes : (numeric : List Bool) (plan : Plan) (p : ℕ) (texts : List (List ℕ)) (o : Option PartyFault) → (length texts == length plan.sessions) ≡ true
    → first_fault (input_checks numeric plan p texts) ≡ o → first_fault (text_checks numeric plan p texts) ≡ o
unfolding text_checks
count_passes numeric plan p texts o e h =
    ap (λ b. first_fault ((not b answers CountDiffers None (length plan.sessions) (length texts)) ∷ input_checks numeric plan p texts)) e ∙ h

-- ---- the bytes

module _ (numeric : List Bool) (plan : Plan) (names : List (List ℕ)) (inputs : List (List (List ℕ))) (bytes : List ℕ) where
  pub bytes_none : document_of bytes ≡ None → other_in numeric plan names inputs bytes ≡ Err (File party.NotToml)
  unfolding other_in
  bytes_none e = ap (other_in_fields numeric plan names inputs) e

  pub bytes_fail : (fields : Members) (fault : OtherFault) → document_of bytes ≡ Some fields → other_fault numeric plan names fields ≡ Some fault → other_in numeric plan names inputs bytes ≡ Err fault
  unfolding other_in
  bytes_fail fields fault e h = ap (other_in_fields numeric plan names inputs) e ∙ ap (λ o. or_fault o (other_inputs numeric plan names inputs fields)) h

  pub bytes_pass : (fields : Members) (words : List (List (List ℕ))) → document_of bytes ≡ Some fields → other_fault numeric plan names fields ≡ None → words ≡ other_inputs numeric plan names inputs fields
      → other_in numeric plan names inputs bytes ≡ Ok words
  unfolding other_in
  bytes_pass fields words e h w =
      ap (other_in_fields numeric plan names inputs) e ∙ ap (λ o. or_fault o (other_inputs numeric plan names inputs fields)) h ∙ ap Ok (sym w)

-- ---- wrapped faults

pub file_told : (fault : PartyFault) (inner : Option PartyFault) (outer : Option OtherFault) → ((f : PartyFault) → inner ≡ Some f → outer ≡ Some (File f))
    → (fault ≡ party.Memory) ⊎ (inner ≡ Some fault) → (of_file fault ≡ Memory) ⊎ (outer ≡ Some (of_file fault))
file_told party.Memory inner outer k told = inl refl
file_told fault inner outer k (inl memory) = absurd (cc)
file_told fault inner outer k (inr e) = inr (k fault e)

pub party_told : (p : ℕ) (fault : PartyFault) (inner : Option PartyFault) (outer : Option OtherFault) → ((f : PartyFault) → inner ≡ Some f → outer ≡ Some (Inputs p f))
    → (fault ≡ party.Memory) ⊎ (inner ≡ Some fault) → (of_party p fault ≡ Memory) ⊎ (outer ≡ Some (of_party p fault))
party_told p party.Memory inner outer k told = inl refl
party_told p fault inner outer k (inl memory) = absurd (cc)
party_told p fault inner outer k (inr e) = inr (k fault e)
