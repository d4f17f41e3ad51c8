-- Names that are read one by one into a mask.
use Rattle.std.proofs.Common.{◌≡◌, ℕ, ◌+◌, ◌^◌, ◌<◌, ◌≤◌, inl, inr, nat_eq, Bool, true, false, ◌||◌, cond, List, [], ◌∷◌, ◌++◌, length, Option, None, Some, Result, Ok, Err, refl, sym, ap, ap₂, ◌∙◌, subst, arith, length-append}
use Rattle.std.specs.Prelude.{IfOk, bit_or, fold, option_and_then, slice_get, unwrap_or}
use Rattle.std.specs.List.{list_any}
use Rattle.std.specs.Option.{is_none, option_map}
use Rattle.std.specs.Str.{bytes_eq}
use Rattle.std.proofs.lemmas.Bool.{cases_lt, false_from_ne_true}
use Rattle.std.proofs.lemmas.Bool.Decides.{eqb_tells}
use Rattle.std.proofs.lemmas.List.Folds.{list_any-append}
use Rattle.std.proofs.lemmas.Nat.{or_lt, pow_pos}
use Rattle.std.proofs.lemmas.Nat.Bits.{bit_at-zero}
use Rattle.std.proofs.lemmas.Option.{get_or_from_slice_get, slice_get_within}
use Rattle.std.proofs.lemmas.Slice.Eq.{bytes_eq-Decides}
use Rattle.std.proofs.Math.Pow.{pow-lt}
use Rattle.list_laws.specs.Checks.{or_fault}
use Rattle.list_laws.proofs.Tests.{or_false}
use Rattle.party_set.specs.Parties.{Members, has_party}
use Rattle.party_names.specs.Names.{party_named, AreNames}
use Rattle.party_set.proofs.Masks.{power_is, has_with}
use Rattle.party_names.proofs.NameFaults.{number_at}
use Rattle.job_file.specs.Faults.{bad_name, is_no_party}
use Rattle.job_file.specs.Forms.{party_of, mask_of}
use Rattle.group_text.specs.declared.fault.GroupFault.{GroupFault}
use Rattle.group_text.specs.declared.fault.GroupFault.TheVariants.{BadGroup}
use Rattle.group_text.specs.GroupTexts.{group_of}
use Rattle.group_text.specs.Masks.{mask_with}

abbrev pub with_name : List (List ℕ) → ℕ → List ℕ → ℕ
with_name names mask name = bit_or mask (2 ^ party_of names name)

-- of these parts so many were read, which make the mask, and the others are left
pub record Reads (names parts before left : List (List ℕ)) (at mask : ℕ) : Type 0 where
  pub count : at ≡ length before
  pub room : at + length left ≡ length parts
  pub faults : bad_name names [] parts ≡ bad_name names before left
  pub masks : mask_of names parts ≡ fold (with_name names) mask left
  pub members : (p : ℕ) (name : List ℕ) → slice_get names p ≡ Some name → list_any (λ other. bytes_eq other name) before ≡ has_party mask p
  pub below : mask < 2 ^ length names

module _ (names parts : List (List ℕ)) where
  pub reads_none : (left : List (List ℕ)) → left ≡ parts → Reads names parts [] left 0 0
  unfolding mask_of
  reads_none left same = record {
    count = refl;
    room = omega (arith, ap length same);
    faults = ap (bad_name names []) (sym same);
    masks = ap (fold (with_name names) 0) (sym same);
    members = λ p name there. sym (ap (λ bit. nat_eq bit 1) (bit_at-zero p));
    below = pow_pos (length names);
  }

  module _ (are : AreNames names) (p q : ℕ) (part name : List ℕ) (at_p : slice_get names p ≡ Some part) (at_q : slice_get names q ≡ Some name) where
    -- different parties have different names
    apart : p < q → part ≡ name → ⊥
    apart l same =
        are.different p q l (slice_get_within names q name at_q) (get_or_from_slice_get names p part [] at_p ∙ same ∙ sym (get_or_from_slice_get names q name [] at_q))

  -- names are equal where they are the same party's
  same_party : AreNames names → (p q : ℕ) (part name : List ℕ) → slice_get names p ≡ Some part → slice_get names q ≡ Some name → bytes_eq part name ≡ nat_eq q p
  same_party are p q part name at_p at_q = elim (eqb_tells q p) [
    | inl same ↦
        let there : slice_get names p ≡ Some name = ap (slice_get names) (sym same.1) ∙ at_q in
        let equal : part ≡ name = cc in
        (bytes_eq-Decides part name).1 equal ∙ sym same.0
    | inr other ↦
        false_from_ne_true (bytes_eq part name) (λ yes.
        let equal : part ≡ name = (bytes_eq-Decides part name).0 yes in
        elim (cases_lt p q) [
          | inl less ↦ apart are p q part name at_p at_q less equal
          | inr more ↦ apart are q p name part at_q at_p (omega (arith, other.1)) (sym equal)
        ])
        ∙ sym other.0
  ]

  module _ (before left : List (List ℕ)) (at mask : ℕ) (part : List ℕ) (reads : Reads names parts before (part ∷ left) at mask) where
    abbrev stood : Bool
    stood = list_any (λ other. bytes_eq other part) before

    -- the party that is added
    record Added (mask' : ℕ) : Type 0 where
      party : ℕ
      number : party_named names part ≡ Some party
      out : has_party mask party ≡ false
      is : mask' ≡ bit_or mask (2 ^ party)

    some_is : (b : Bool) (m m' : ℕ) → cond b None (Some m) ≡ Some m' → (b ≡ false) × (m' ≡ m)
    some_is true m m' e = absurd (cc)
    some_is false m m' e = (refl, cc)

    added : (o : Option ℕ) (mask' : ℕ) → party_named names part ≡ o → option_and_then (λ p. cond (has_party mask p) None (Some (bit_or mask (2 ^ p)))) o ≡ Some mask' → Added mask'
    added None mask' is e = absurd (cc)
    added (Some p) mask' is e =
        let parts = some_is (has_party mask p) (bit_or mask (2 ^ p)) mask' e in
        record { party = p; number = is; out = parts.0; is = parts.1 }

    module _ (are : AreNames names) (mask' : ℕ) (new : Added mask') where
      there : slice_get names new.party ≡ Some part
      there = number_at names part new.party (sym new.number)

      inside : new.party < length names
      inside = slice_get_within names new.party part there

      known : is_no_party names part ≡ false
      known = ap is_none new.number

      first : stood ≡ false
      first = reads.members new.party part there ∙ new.out

      more_members : (q : ℕ) (name : List ℕ) → slice_get names q ≡ Some name → list_any (λ other. bytes_eq other name) (before ++ part ∷ []) ≡ has_party mask' q
      more_members q name is =
          let small : new.party ≤ 12 = omega (arith, inside, are.few) in
          list_any-append (λ other. bytes_eq other name) before (part ∷ [])
          ∙ ap₂ (λ x y. x || y) (reads.members q name is) (or_false (bytes_eq part name) ∙ same_party are new.party q part name there is)
          ∙ sym (has_with mask new.party q (omega arith))
          ∙ ap (λ m. has_party (bit_or mask m) q) (power_is new.party small)
          ∙ ap (λ m. has_party m q) (sym new.is)

      reads_more : Reads names parts (before ++ part ∷ []) left (at + 1) mask'
      unfolding bad_name
      reads_more = record {
        count = ap (λ n. n + 1) reads.count ∙ sym (length-append before (part ∷ []));
        room = omega (arith, reads.room);
        faults =
            reads.faults
            ∙ ap₂ (λ x y. cond (x || y) (Some (length before)) (bad_name names (before ++ part ∷ []) left)) known first;
        masks =
            reads.masks
            ∙ ap (λ m. fold (with_name names) m left) (ap (λ o. bit_or mask (2 ^ unwrap_or o 0)) new.number ∙ sym new.is);
        members = more_members;
        below = subst (λ m. m < 2 ^ length names) (sym new.is) (or_lt (length names) mask (2 ^ new.party) reads.below (pow-lt inside));
      }

    -- one more part
    pub reads_next : AreNames names → (mask' : ℕ) → mask_with names mask part ≡ Some mask' → Reads names parts (before ++ part ∷ []) left (at + 1) mask'
    reads_next are mask' e = reads_more are mask' (added (party_named names part) mask' refl e)

    none_is : (b : Bool) (m : ℕ) → cond b None (Some m) ≡ None → b ≡ true
    none_is true m e = refl
    none_is false m e = absurd (cc)

    either : (a b : Bool) → b ≡ true → (a || b) ≡ true
    either true b e = refl
    either false b e = e

    refused : (o : Option ℕ) → party_named names part ≡ o → option_and_then (λ p. cond (has_party mask p) None (Some (bit_or mask (2 ^ p)))) o ≡ None → (is_no_party names part || stood) ≡ true
    refused None is e = ap (λ o. is_none o || stood) is
    refused (Some p) is e = either (is_no_party names part) stood (reads.members p part (number_at names part p (sym is)) ∙ none_is (has_party mask p) (bit_or mask (2 ^ p)) e)

    -- a part that is no party's name, or stood before
    pub reads_bad : mask_with names mask part ≡ None → group_of names parts ≡ Err (BadGroup at)
    unfolding bad_name group_of
    reads_bad e =
        ap (λ o. or_fault (option_map (λ at. BadGroup at) o) (record { parties = length names; mask = mask_of names parts }))
        (reads.faults
        ∙ ap (λ b. cond b (Some (length before)) (bad_name names (before ++ part ∷ []) left)) (refused (party_named names part) refl e)
        ∙ ap Some (sym reads.count))

  -- no part is left
  pub reads_all : (before left : List (List ℕ)) (at mask : ℕ) → left ≡ [] → Reads names parts before left at mask → group_of names parts ≡ Ok (record { parties = length names; mask = mask })
  unfolding bad_name group_of
  reads_all before left at mask none reads =
      ap₂ (λ o m. or_fault (option_map (λ at. BadGroup at) o) (record { parties = length names; mask = m }))
      (reads.faults ∙ ap (bad_name names before) none)
      (reads.masks ∙ ap (fold (with_name names) mask) none)

-- a group that was read is one of all parties
pub parties_are : (names parts : List (List ℕ)) (r : Result Members GroupFault) → r ≡ group_of names parts → IfOk r (λ (g : Members). g.parties ≡ length names)
unfolding group_of
parties_are names parts r e = go (option_map (λ at. BadGroup at) (bad_name names [] parts)) r e where
  go : (o : Option GroupFault) (r : Result Members GroupFault) → r ≡ or_fault o (record { parties = length names; mask = mask_of names parts }) → IfOk r (λ (g : Members). g.parties ≡ length names)
  go None (Ok g) e = let same : g ≡ record { parties = length names; mask = mask_of names parts } = cc in ap (λ (g : Members). g.parties) same
  go (Some fault) (Ok g) e = absurd (cc)
  go o (Err fault) e = tt
