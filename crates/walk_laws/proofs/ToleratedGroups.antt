-- The groups that a job's file tolerates are those within a maximal group.
use Rattle.std.proofs.Common.{◌≡◌, ℕ, zero, suc, ◌+◌, ◌^◌, ◌<◌, ◌≤◌, nat_eq, eq-eqb, Bool, true, false, not, ◌||◌, if◌then◌else◌, List, [], ◌∷◌, length, map, Option, None, Some, inl, inr, refl, sym, ap, ◌∙◌, subst, arith}
use Rattle.std.specs.Prelude.{◌↔◌, bit_or, fold, nat_le, nat_lt, slice_get, slice_index_or, unwrap_or, MatchBool}
use Rattle.std.specs.List.{AllByRecursion, Contains, list_any}
use Rattle.std.specs.Option.{is_none, option_map}
use Rattle.std.specs.Str.{bytes_eq}
use Rattle.std.proofs.lemmas.Bool.{cases_lt, eqb-true, false_from_ne_true, or_cases, or_left, or_right}
use Rattle.std.proofs.lemmas.Bool.Decides.{eqb_tells}
use Rattle.std.proofs.lemmas.List.Folds.{list_any_at}
use Rattle.std.proofs.lemmas.Nat.Bits.{bit_at-zero}
use Rattle.std.proofs.lemmas.Option.{get_or_from_slice_get, slice_get_within}
use Rattle.std.proofs.lemmas.Slice.Eq.{bytes_eq-Decides}
use Rattle.std.proofs.Math.Bool.{or_assoc}
use Rattle.toml.specs.Data.{Members as Fields}
use Rattle.toml_fields.specs.Documents.{document_of}
use Rattle.list_laws.specs.Checks.{◌answers◌}
use Rattle.list_laws.proofs.Tests.{or_false}
use Rattle.party_set.specs.Parties.{Structure, Members, has_party, within}
use Rattle.party_names.specs.Names.{AreNames, name_at, party_named}
use Rattle.party_set.proofs.EveryNumber.{every_at, every_from, implies_at, implies_from}
use Rattle.party_set.proofs.Masks.{has_with, power_is}
use Rattle.party_names.proofs.NameFaults.{number_at}
use Rattle.maximal_groups.specs.Families.{IsFamily, LiesWithin, is_tolerated_by, maximal_structure}
use Rattle.maximal_groups.proofs.FoundGroups.{tells}
use Rattle.maximal_groups.proofs.Lists.{list_is_family}
use Rattle.group_formula.specs.Trees.{Meaning, is_tolerated}
use Rattle.group_formula.proofs.OneAnswer.{one_answer}
use Rattle.job_file.specs.Forms.{JobForm, by_formula, by_list, adversary_form, is_version_two, job_form, lists as texts_in, mask_of, party_of, text, texts}
use Rattle.job_file.specs.Faults.{adversary_fault, bad_in_lists, bad_name, groups_fault, is_no_party, job_in}
use Rattle.job_file.specs.declared.field.JobField.TheVariants.{Parties, Formula, Tolerated}
use Rattle.job_file.specs.declared.fault.JobFault.TheVariants.{BadTolerated, TooManyTolerated}
use Rattle.plan_model.specs.Plans.{structure}
use Rattle.job_walk.specs.Verdict.{Then, accepted}
use Rattle.job_walk.specs.JobOf.{Contents, FormulaOf, GroupsOf, JobText, PlanAt, PlannedOf, Planned, PlanOf, Q2Of, StructureOf, few_groups, file_at, groups_of}
use Rattle.job_walk.specs.Names as file_names
use Rattle.job_walk.specs.NodeOf.{NodeForm, NodeAt}
use Rattle.mpc_top.specs.WholeJobs.{WholeJob, whole_job, JobAt}
use Rattle.walk_laws.specs.Tolerated.{AreNamedIn, FileTolerates, FormulaTolerates, HasFields, JobsTolerateAsWritten, ListsTolerate, NodesTolerateAsWritten}
use Rattle.mpc_top.proofs.WholeWorlds.{accepted_is, few_are, formula_family, was_ok}
use Rattle.job_laws.proofs.ReadJobs.{form_within, good_document, head_passed, list_named, map_none, or_none, IsGoodDocument}
use Rattle.walk_laws.proofs.FileCircuits.{bytes_there}

-- ---- texts among texts

any_from : (texts : List (List ℕ)) (name : List ℕ) → list_any (λ text. bytes_eq text name) texts ≡ true → Contains texts name
any_from [] name e = cc
any_from (text ∷ texts) name e = elim (or_cases (bytes_eq text name) (list_any (λ text. bytes_eq text name) texts) e) [
  | inl here ↦ (0, omega arith, (bytes_eq-Decides text name).0 here)
  | inr more ↦ (let found : Contains texts name = any_from texts name more in (suc found.0, omega (arith, found.1), found.2))
]

any_to : (texts : List (List ℕ)) (name : List ℕ) → Contains texts name → list_any (λ text. bytes_eq text name) texts ≡ true
any_to texts name (k, l, is) = list_any_at (λ text. bytes_eq text name) texts k name l ((bytes_eq-Decides _ name).1 is)

-- ---- names and masks

module _ (names : List (List ℕ)) (are : AreNames names) where
  -- a text that is a party's name is that of another party exactly where it is the same party
  same_party : (p q : ℕ) (text : List ℕ) → p < length names → slice_get names q ≡ Some text → bytes_eq text (name_at names p) ≡ nat_eq p q
  same_party p q text l at =
      let named : name_at names q ≡ text = get_or_from_slice_get names q text [] at in
      let inside : q < length names = slice_get_within names q text at in
      elim (eqb_tells p q) [
        | inl same ↦ (bytes_eq-Decides text (name_at names p)).1 (sym named ∙ ap (name_at names) (sym same.1)) ∙ sym same.0
        | inr other ↦
            false_from_ne_true (bytes_eq text (name_at names p)) (λ yes.
            let equal : name_at names q ≡ name_at names p = named ∙ (bytes_eq-Decides text (name_at names p)).0 yes in
            elim (cases_lt p q) [
              | inl less ↦ are.different p q less inside (sym equal)
              | inr more ↦ are.different q p (omega (arith, more, other.1)) l equal
            ])
            ∙ sym other.0
      ]

  known : (text : List ℕ) (o : Option ℕ) → party_named names text ≡ o → is_none o ≡ false → slice_get names (unwrap_or o 0) ≡ Some text
  known text None is e = cc
  known text (Some q) is e = number_at names text q (sym is)

  -- the mask with the party of one more name
  one_more : (text : List ℕ) (mask p : ℕ) → p < length names → is_no_party names text ≡ false
      → has_party (bit_or mask (2 ^ party_of names text)) p ≡ (has_party mask p || bytes_eq text (name_at names p))
  one_more text mask p l is =
      let at : slice_get names (party_of names text) ≡ Some text = known text (party_named names text) refl is in
      let small : party_of names text ≤ 12 = omega (arith, slice_get_within names (party_of names text) text at, are.few) in
      ap (λ m. has_party (bit_or mask m) p) (sym (power_is (party_of names text) small))
      ∙ has_with mask (party_of names text) p (omega (arith, small))
      ∙ ap (λ b. has_party mask p || b) (sym (same_party p (party_of names text) text l at))

  with_more : (listed : List (List ℕ)) (mask p : ℕ) → p < length names → AllByRecursion (λ text. is_no_party names text ≡ false) listed
      → has_party (fold (λ mask name. bit_or mask (2 ^ party_of names name)) mask listed) p ≡ (has_party mask p || list_any (λ text. bytes_eq text (name_at names p)) listed)
  with_more [] mask p l are_named = sym (or_false (has_party mask p))
  with_more (text ∷ listed) mask p l are_named =
      with_more listed (bit_or mask (2 ^ party_of names text)) p l are_named.1
      ∙ ap (λ b. b || list_any (λ text. bytes_eq text (name_at names p)) listed) (one_more text mask p l are_named.0)
      ∙ or_assoc (has_party mask p) (bytes_eq text (name_at names p)) (list_any (λ text. bytes_eq text (name_at names p)) listed)

  -- the mask of a list has the parties whose names stand in it
  mask_has : (listed : List (List ℕ)) (p : ℕ) → p < length names → bad_name names [] listed ≡ None → has_party (mask_of names listed) p ≡ list_any (λ text. bytes_eq text (name_at names p)) listed
  unfolding mask_of
  mask_has listed p l good =
      with_more listed 0 p l (list_named names [] listed good)
      ∙ ap (λ bit. nat_eq bit 1 || list_any (λ text. bytes_eq text (name_at names p)) listed) (bit_at-zero p)

  within_named : (listed : List (List ℕ)) (group : ℕ) → bad_name names [] listed ≡ None → (within (length names) group (mask_of names listed) ≡ true) ↔ AreNamedIn names group listed
  within_named listed group good = (
    λ inside p l has.
        any_from listed (name_at names p)
        (sym (mask_has listed p l good)
        ∙ implies_at (has_party group p) (has_party (mask_of names listed) p) (every_at (length names) (λ q. not (has_party group q) || has_party (mask_of names listed) q) inside p l) has),
    λ named. every_from (length names) _ (λ p l. implies_from (has_party group p) (has_party (mask_of names listed) p) (λ has. mask_has listed p l good ∙ any_to listed (name_at names p) (named p l has))),
  )

  -- ---- lists of groups

  module _ (group : ℕ) where
    abbrev lies : ℕ → Bool
    lies = within (length names) group

    both_good : (first : List (List ℕ)) (lists : List (List (List ℕ))) (value : ℕ) → bad_in_lists names value (first ∷ lists) ≡ None
        → (bad_name names [] first ≡ None) × (bad_in_lists names (value + 1) lists ≡ None)
    unfolding bad_in_lists
    both_good first lists value good =
        let parts = or_none (option_map (λ at. (value, at)) (bad_name names [] first)) (bad_in_lists names (value + 1) lists) good in
        (map_none (λ at. (value, at)) (bad_name names [] first) parts.0, parts.1)

    lists_from : (lists : List (List (List ℕ))) (value : ℕ) → bad_in_lists names value lists ≡ None → list_any lies (map (mask_of names) lists) ≡ true
        → (listed : List (List ℕ)) × Contains lists listed × AreNamedIn names group listed
    lists_from [] value good e = cc
    lists_from (listed ∷ lists) value good e =
        let both = both_good listed lists value good in
        elim (or_cases (lies (mask_of names listed)) (list_any lies (map (mask_of names) lists)) e) [
          | inl here ↦ (listed, (0, omega arith, refl), (within_named listed group both.0).0 here)
          | inr more ↦
              (let found : (listed : List (List ℕ)) × Contains lists listed × AreNamedIn names group listed = lists_from lists (value + 1) both.1 more in
              (found.0, (suc found.1.0, omega (arith, found.1.1), found.1.2), found.2))
        ]

    lists_to : (lists : List (List (List ℕ))) (value : ℕ) (listed : List (List ℕ)) (k : ℕ) → bad_in_lists names value lists ≡ None → k < length lists → slice_index_or lists k listed ≡ listed
        → AreNamedIn names group listed → list_any lies (map (mask_of names) lists) ≡ true
    lists_to [] value listed k good l is named = absurd (omega (arith, l))
    lists_to (first ∷ lists) value listed zero good l is named =
        or_left (lies (mask_of names first)) (list_any lies (map (mask_of names) lists))
        ((within_named first group (both_good first lists value good).0).1 (subst (AreNamedIn names group) (sym is) named))
    lists_to (first ∷ lists) value listed (suc k) good l is named =
        or_right (lies (mask_of names first)) (list_any lies (map (mask_of names) lists)) (lists_to lists (value + 1) listed k (both_good first lists value good).1 (omega (arith, l)) is named)

    lists_tolerate : (lists : List (List (List ℕ))) → bad_in_lists names 0 lists ≡ None → ListsTolerate names lists group ↔ (is_tolerated_by (length names) (map (mask_of names) lists) group ≡ true)
    lists_tolerate lists good = (
      λ told. elim told [
        | inl none ↦ or_left (nat_eq group 0) (list_any lies (map (mask_of names) lists)) (eq-eqb group 0 none)
        | inr some ↦ or_right (nat_eq group 0) (list_any lies (map (mask_of names) lists)) (lists_to lists 0 some.0 some.1.0 good some.1.1 some.1.2 some.2)
      ],
      λ e. elim (or_cases (nat_eq group 0) (list_any lies (map (mask_of names) lists)) e) [
        | inl none ↦ inl (eqb-true group 0 none)
        | inr some ↦ inr (lists_from lists 0 good some)
      ],
    )

-- ---- the structure

groups_tell : (n : ℕ) (t : ℕ → Bool) (s : Structure) → IsFamily n t → accepted s ≡ groups_of n t → (group : ℕ) → group < 2 ^ n → (t group ≡ true) ↔ LiesWithin s group
unfolding groups_of few_groups
groups_tell n t s family e group l =
    let found = few_are (maximal_structure n t) (nat_le (length (maximal_structure n t).groups) 64) s _ _ refl e in
    subst (λ (s : Structure). (t group ≡ true) ↔ LiesWithin s group) (sym found.0) (tells n t family.parts group l)

module _ (names : List (List ℕ)) (are : AreNames names) (lists : List (List (List ℕ))) (text : List ℕ) (group : ℕ) (l : group < 2 ^ length names) where
  -- of version 2 or not
  told : (two : Bool) (s : Structure) → (if two then groups_fault names lists else None) ≡ None → GroupsOf names (if two then by_list (map (mask_of names) lists) else by_formula text) (accepted s)
      → MatchBool two (ListsTolerate names lists group) (FormulaTolerates names text group) ↔ LiesWithin s group
  unfolding GroupsOf FormulaOf Then groups_fault
  told true s good is =
      let bad = (head_passed (option_map (λ bad. BadTolerated bad.0 bad.1) (bad_in_lists names 0 lists)) []
      (head_passed (nat_lt 4096 (length lists) answers TooManyTolerated (length lists)) (option_map (λ bad. BadTolerated bad.0 bad.1) (bad_in_lists names 0 lists) ∷ []) good).1).0 in
      let tolerate = lists_tolerate names are group lists (map_none (λ bad. BadTolerated bad.0 bad.1) (bad_in_lists names 0 lists) bad) in
      let tell = groups_tell (length names) (is_tolerated_by (length names) (map (mask_of names) lists)) s (list_is_family (length names) (map (mask_of names) lists)) is group l in
      (λ t. tell.0 (tolerate.0 t), λ lies. tolerate.1 (tell.1 lies))
  told false s good (f, is, e) =
      let tell = groups_tell f.parties (is_tolerated f) s (formula_family text names f is) e group (subst (λ n. group < 2 ^ n) (sym is.parties) l) in (
        λ (g, also, t). tell.0 (ap (λ (f : Meaning). is_tolerated f group) ((one_answer text names).one_formula f g is also) ∙ t),
        λ lies. (f, is, tell.1 lies),
      )

structure_tells : (fields : Fields) (s : Structure) → AreNames (texts Parties fields) → adversary_fault fields ≡ None → StructureOf (job_form fields) (accepted s)
    → (group : ℕ) → group < 2 ^ length (texts Parties fields) → FileTolerates fields group ↔ LiesWithin s group
unfolding StructureOf Q2Of Then job_form adversary_form
structure_tells fields s are good (groups, is, (same, q2)) group l =
    subst (λ (s : Structure). FileTolerates fields group ↔ LiesWithin s group) (sym same)
    (told (texts Parties fields) are (texts_in Tolerated fields) (text Formula fields) group l (is_version_two fields) groups good is)

-- ---- the file

module _ (files : Contents) (dir : List ℕ) (fields : Fields) (has : HasFields files dir fields) where
  -- the job that was read is that of the fields
  read_is : (node : Bool) (job : JobForm) → JobText node files dir (accepted job) → (job ≡ job_form fields) × AreNames (texts Parties fields) × (adversary_fault fields ≡ None)
  unfolding JobText Then file_at job_form
  read_is node job (bytes, there, e) =
      let good : IsGoodDocument node bytes job = good_document node bytes job (was_ok _ (job_in node bytes) job e) in
      let found : files (file_names.path_of dir file_names.job_file) ≡ Some bytes = bytes_there (files (file_names.path_of dir file_names.job_file)) file_names.job_file bytes (sym there) in
      let one : has.bytes ≡ bytes = (let e : Some has.bytes ≡ Some bytes = sym has.there ∙ found in cc) in
      let same : good.fields ≡ fields = (let e : Some good.fields ≡ Some fields = sym good.parsed ∙ ap document_of (sym one) ∙ has.parsed in cc) in
      let well = form_within good.fields node good.no_fault in
      (good.is ∙ ap job_form same, subst (λ f. AreNames (texts Parties f)) same well.0.names, subst (λ f. adversary_fault f ≡ None) same well.1)

  -- and its structure says what they say
  tell : (node : Bool) (job : JobForm) (s : Structure) → JobText node files dir (accepted job) → StructureOf job (accepted s)
      → (group : ℕ) → group < 2 ^ length job.names → FileTolerates fields group ↔ LiesWithin s group
  unfolding job_form
  tell node job s text found group l =
      let read = read_is node job text in
      structure_tells fields s read.1 read.2 (subst (λ (j : JobForm). StructureOf j (accepted s)) read.0 found) group (subst (λ (j : JobForm). group < 2 ^ length j.names) read.0 l)

planned_is : (files : Contents) (dir : List ℕ) (job : JobForm) (group : Option Members) (s : Structure) (planned : Planned) → PlannedOf files dir job group s (accepted planned)
    → (planned.names ≡ job.names) × (structure planned.plan ≡ s)
unfolding PlannedOf PlanOf Then
planned_is files dir job group s planned (sessions, read, (plan, (same, within), e)) =
    (ap (λ (p : Planned). p.names) (accepted_is planned _ e), ap (λ (p : Planned). structure p.plan) (accepted_is planned _ e) ∙ ap structure same)

pub jobs_tolerate : JobsTolerateAsWritten
unfolding JobAt PlanAt Then
jobs_tolerate files dir asked fields whole has (planned, (job, text, (asked_group, g, (s, found, is))), (forms, read, e)) group l =
    let plan = planned_is files dir job asked_group s planned is in
    let of : whole ≡ whole_job planned forms = accepted_is whole (whole_job planned forms) e in
    let names : whole.names ≡ job.names = ap (λ (w : WholeJob). w.names) of ∙ plan.0 in
    let made : structure whole.world.plan ≡ s = ap (λ (w : WholeJob). structure w.world.plan) of ∙ plan.1 in
    subst (λ (s : Structure). FileTolerates fields group ↔ LiesWithin s group) (sym made)
    (tell files dir fields has false job s text found group (subst (λ names. group < 2 ^ length names) names l))

pub nodes_tolerate : NodesTolerateAsWritten
unfolding NodeAt PlanOf Then
nodes_tolerate files dir name fields node has (job, text, (me, m, (s, found, (sessions, read, (plan, (same, within), (given, party, e)))))) group l =
    let of = accepted_is node _ e in
    let names : node.names ≡ job.names = ap (λ (n : NodeForm). n.names) of in
    let made : structure node.plan ≡ s = ap (λ (n : NodeForm). structure n.plan) of ∙ ap structure same in
    subst (λ (s : Structure). FileTolerates fields group ↔ LiesWithin s group) (sym made)
    (tell files dir fields has true job s text found group (subst (λ names. group < 2 ^ length names) names l))
