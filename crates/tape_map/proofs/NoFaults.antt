-- There is no fault exactly where the other inputs can be hidden.
use Rattle.std.proofs.Common.{◌≡◌, ℕ, ◌<◌, ◌≤◌, Bool, true, false, ◌&&◌, not, nat_eq, List, [], ◌∷◌, ◌++◌, Option, Some, None, length, refl, sym, ap, ap₂, ◌∙◌, subst, arith, inl, inr}
use Rattle.std.specs.Prelude.{◌↔◌, SomeIff, slice_index, slice_index_or}
use Rattle.list_laws.proofs.JoinedLists.{joined_eq, length-listed, listed_at}
use Rattle.std.specs.List.{position_or_len}
use Rattle.std.proofs.lemmas.Bool.{cases_Bool, cases_lt, both_ways, eqb-true, eq-eqb}
use Rattle.std.proofs.lemmas.List.{get_or_past}
use Rattle.std.proofs.lemmas.List.Folds.{list_any_at}
use Rattle.std.proofs.lemmas.List.Sums.{passes_at_first, fails_before_first}
use Rattle.list_laws.specs.Lists.{joined, listed}
use Rattle.list_laws.specs.Checks.{◌answers◌, first_fault}
use Rattle.party_set.specs.Parties.{Structure, has_party, within}
use Rattle.maximal_groups.specs.Families.{LiesWithin}
use Rattle.plan_model.specs.InputWords.{AreInputs}
use Rattle.session_slots.specs.Sessions.{Session, no_session, owners, source, readers, output_wire}
use Rattle.plan_model.specs.Plans.{Plan, structure, session, reads}
use Rattle.plan_model.specs.Sound.{IsSound}
use Rattle.share_world.specs.Laws.{IsWhole}
use Rattle.share_world.specs.Worlds.{World, input_of, plain}
use Rattle.wire_tables.specs.WireTables.{value_at, value_list, value_lists}
use Rattle.tape_map.specs.TapeMaps.{member_gives, hidden, with_inputs}
use Rattle.tape_map.specs.Laws.{Agree, CanHide}
use Rattle.tape_map.specs.MapFaults.{AreValues, is_tolerated, input_check, output_check, input_checks, output_checks, value_checks, map_fault}
use Rattle.tape_map.specs.declared.fault.MapFault.{MapFault}
use Rattle.tape_map.specs.declared.fault.MapFault.TheVariants.{NotTolerated, InputDiffers, OutputDiffers}
use Rattle.maximal_groups.proofs.Lists.{find_any}
use Rattle.list_laws.proofs.FirstFaults.{first-after, first-front, one-fails, passed-front, passed-back, none_failed, one-passed, joined-passed, all-passed}

-- ---- tests

-- two numbers that a test finds to be the same where it is tried
same_where : (a : Bool) (m n : ℕ) → (a && not (nat_eq m n)) ≡ false → a ≡ true → n ≡ m
same_where true m n h e = elim (cases_Bool (nat_eq m n)) [
  | inl yes' ↦ sym (eqb-true m n yes')
  | inr no' ↦ absurd (both_ways (not (nat_eq m n)) h (ap not no'))
]
same_where false m n h e = absurd (both_ways false refl e)

where_same : (a : Bool) (m n : ℕ) → (a ≡ true → n ≡ m) → (a && not (nat_eq m n)) ≡ false
where_same false m n h = refl
where_same true m n h = ap not (eq-eqb m n (sym (h refl)))

same_where_both : (a b : Bool) (m n : ℕ) → (a && (b && not (nat_eq m n))) ≡ false → a ≡ true → b ≡ true → n ≡ m
same_where_both true b m n h e = same_where b m n h
same_where_both false b m n h e = absurd (both_ways false refl e)

where_both_same : (a b : Bool) (m n : ℕ) → (a ≡ true → b ≡ true → n ≡ m) → (a && (b && not (nat_eq m n))) ≡ false
where_both_same false b m n h = refl
where_both_same true b m n h = where_same b m n (h refl)

-- ---- the group

not_false : (b : Bool) → not b ≡ false → b ≡ true
not_false true e = refl
not_false false e = absurd (both_ways true e refl)

-- ---- sessions that there aren't

no_more : (plan : Plan) (s : ℕ) → length plan.sessions ≤ s → session plan s ≡ no_session
no_more plan s past = get_or_past plan.sessions s no_session past

module _ (w : World) (other : List (List (List ℕ))) (group : ℕ) where
  abbrev inputs_pass : Type 0
  inputs_pass = first_fault (joined (length w.plan.sessions) (input_checks w other group)) ≡ None

  abbrev outputs_pass : Type 0
  outputs_pass = first_fault (joined (length w.plan.sessions) (output_checks w other group)) ≡ None

  agree_inputs : inputs_pass → (s v : ℕ) → v < length (owners (session w.plan s)) → member_gives group (source (session w.plan s) v) ≡ true
      → input_of (with_inputs w other) s v ≡ input_of w s v
  agree_inputs h s v lv member = elim (cases_lt s (length w.plan.sessions)) [
    | inl ls ↦
        let one = joined-passed (length (owners (session w.plan s))) v (λ u. input_check w other group s u ∷ []) lv (joined-passed (length w.plan.sessions) s (input_checks w other group) ls h) in
        same_where (member_gives group (source (session w.plan s) v)) (input_of w s v) (input_of (with_inputs w other) s v)
        (none_failed _ (InputDiffers s v (input_of w s v) (input_of (with_inputs w other) s v)) None one).0 member
    | inr past ↦ absurd (let none = ap (λ x. length (owners x)) (no_more w.plan s past) in omega arith)
  ]

  agree_outputs : outputs_pass → (s o r : ℕ) → o < length (readers (session w.plan s)) → r < w.plan.parties → has_party group r ≡ true → reads w.plan r s o ≡ true
      → plain (with_inputs w other) s (output_wire (session w.plan s) o) ≡ plain w s (output_wire (session w.plan s) o)
  agree_outputs h s o r lo lr member read = elim (cases_lt s (length w.plan.sessions)) [
    | inl ls ↦
        let x = session w.plan s in
        let first : ℕ = plain w s (output_wire x o) in
        let second : ℕ = plain (with_inputs w other) s (output_wire x o) in
        let at_wire = joined-passed (length (readers x)) o (λ u. listed w.plan.parties (output_check w.plan group s (plain w s (output_wire x u)) (plain (with_inputs w other) s (output_wire x u)) u)) lo
        (joined-passed (length w.plan.sessions) s (output_checks w other group) ls h) in
        let one = joined-passed w.plan.parties r (λ q. output_check w.plan group s first second o q ∷ []) lr at_wire in
        same_where_both (has_party group r) (reads w.plan r s o) first second (none_failed _ (OutputDiffers s (output_wire x o) r first second) None one).0 member read
    | inr past ↦ absurd (let none = ap (λ x. length (readers x)) (no_more w.plan s past) in omega arith)
  ]

  inputs_agreed : Agree w other group → inputs_pass
  inputs_agreed h =
      all-passed (length w.plan.sessions) (input_checks w other group) (λ s ls. all-passed (length (owners (session w.plan s))) (λ v. input_check w other group s v ∷ []) (λ v lv.
      one-passed _ (InputDiffers s v (input_of w s v) (input_of (with_inputs w other) s v))
      (where_same (member_gives group (source (session w.plan s) v)) (input_of w s v) (input_of (with_inputs w other) s v) (h.inputs s v lv))))

  outputs_agreed : Agree w other group → outputs_pass
  outputs_agreed h =
      all-passed (length w.plan.sessions) (output_checks w other group) (λ s ls.
      let x = session w.plan s in
      all-passed (length (readers x)) (λ u. listed w.plan.parties (output_check w.plan group s (plain w s (output_wire x u)) (plain (with_inputs w other) s (output_wire x u)) u)) (λ o lo.
      all-passed w.plan.parties (λ q. output_check w.plan group s (plain w s (output_wire x o)) (plain (with_inputs w other) s (output_wire x o)) o q ∷ []) (λ r lr.
      one-passed _ (OutputDiffers s (output_wire x o) r (plain w s (output_wire x o)) (plain (with_inputs w other) s (output_wire x o)))
      (where_both_same (has_party group r) (reads w.plan r s o) (plain w s (output_wire x o)) (plain (with_inputs w other) s (output_wire x o)) (λ m e. h.outputs s o r lo lr m e)))))

  tolerated : is_tolerated w.plan group ≡ true → LiesWithin (structure w.plan) group
  tolerated h = find_any (within w.plan.parties group) w.plan.groups h

  lies_within : LiesWithin (structure w.plan) group → is_tolerated w.plan group ≡ true
  lies_within h = list_any_at (within w.plan.parties group) w.plan.groups h.0 0 h.1 h.2

  pub can_hide : IsWhole w → AreInputs w.plan other → is_tolerated w.plan group ≡ true → inputs_pass → outputs_pass → CanHide w other group
  can_hide whole others lies ins outs = record {
    whole = whole;
    others = others;
    tolerated = tolerated lies;
    agree = record { inputs = agree_inputs ins; outputs = agree_outputs outs };
  }

  abbrev group_check : List (Option MapFault)
  group_check = (not (is_tolerated w.plan group) answers NotTolerated) ∷ []

  abbrev ins : List (Option MapFault)
  ins = joined (length w.plan.sessions) (input_checks w other group)

  abbrev outs : List (Option MapFault)
  outs = joined (length w.plan.sessions) (output_checks w other group)

  group_passes : is_tolerated w.plan group ≡ true → first_fault group_check ≡ None
  group_passes lies = one-passed (not (is_tolerated w.plan group)) NotTolerated (ap not lies)

  -- the group passes, then the inputs, then the outputs
  pub checks_pass : is_tolerated w.plan group ≡ true → inputs_pass → outputs_pass → map_fault w other group ≡ None
  checks_pass lies in_pass out_pass = first-after group_check (ins ++ outs) (group_passes lies) ∙ first-after ins outs in_pass ∙ out_pass

  pub no_fault : IsWhole w → AreInputs w.plan other → (map_fault w other group ≡ None) ↔ CanHide w other group
  no_fault whole others = (
    (λ none.
        let rest = passed-back group_check (ins ++ outs) none in
        can_hide whole others (not_false (is_tolerated w.plan group) (none_failed (not (is_tolerated w.plan group)) NotTolerated None (passed-front group_check (ins ++ outs) none)).0)
        (passed-front ins outs rest) (passed-back ins outs rest)),
    (λ h. checks_pass (lies_within h.tolerated) (inputs_agreed h.agree) (outputs_agreed h.agree)),
  )

  -- ---- faults

  pub group_fails : is_tolerated w.plan group ≡ false → map_fault w other group ≡ Some NotTolerated
  group_fails e = first-front group_check (ins ++ outs) NotTolerated (one-fails (not (is_tolerated w.plan group)) NotTolerated (ap not e))

  pub inputs_fail : (fault : MapFault) → is_tolerated w.plan group ≡ true → first_fault ins ≡ Some fault → map_fault w other group ≡ Some fault
  inputs_fail fault lies e = first-after group_check (ins ++ outs) (group_passes lies) ∙ first-front ins outs fault e

  pub outputs_fail : (fault : MapFault) → is_tolerated w.plan group ≡ true → inputs_pass → first_fault outs ≡ Some fault → map_fault w other group ≡ Some fault
  outputs_fail fault lies in_pass e = first-after group_check (ins ++ outs) (group_passes lies) ∙ first-after ins outs in_pass ∙ e

-- the test of the group by the first maximal group in which it lies
pub tolerated_test : (plan : Plan) (group : ℕ) → position_or_len (within plan.parties group) plan.groups < length plan.groups → is_tolerated plan group ≡ true
tolerated_test plan group l =
    let test = within plan.parties group in
    list_any_at test plan.groups (position_or_len test plan.groups) 0 l (passes_at_first test plan.groups 0 l)

pub not_tolerated_test : (plan : Plan) (group : ℕ) → (position_or_len (within plan.parties group) plan.groups < length plan.groups → ⊥) → is_tolerated plan group ≡ false
not_tolerated_test plan group no' = elim (cases_Bool (is_tolerated plan group)) [
  | inl yes' ↦
      let test = within plan.parties group in
      let found = find_any test plan.groups yes' in
      absurd (no' (elim (cases_lt (position_or_len test plan.groups) (length plan.groups)) [
        | inl l ↦ l
        | inr past ↦ absurd (both_ways (test (slice_index plan.groups found.0)) (fails_before_first test plan.groups found.0 0 (let l = found.1 in omega arith)) found.2)
      ]))
  | inr e ↦ e
]

-- what a search for the first maximal group tells
pub none_found : (r : Option ℕ) (s : Structure) (plan : Plan) (group : ℕ) → s ≡ structure plan
    → SomeIff r (position_or_len (within s.parties group) s.groups < length s.groups) (position_or_len (within s.parties group) s.groups) → r ≡ None → is_tolerated plan group ≡ false
none_found None s plan group e h is = not_tolerated_test plan group (subst (λ (y : Structure). (position_or_len (within y.parties group) y.groups < length y.groups) → ⊥) e h)
none_found (Some x) s plan group e h is = cc

pub some_found : (r : Option ℕ) (g : ℕ) (s : Structure) (plan : Plan) (group : ℕ) → s ≡ structure plan
    → SomeIff r (position_or_len (within s.parties group) s.groups < length s.groups) (position_or_len (within s.parties group) s.groups) → r ≡ Some g → (g ≡ hidden plan group) × (g < length plan.groups)
some_found None g s plan group e h is = cc
some_found (Some x) g s plan group e h is =
    let same : x ≡ g = cc in
    let there : hidden plan group < length plan.groups = subst (λ (y : Structure). position_or_len (within y.parties group) y.groups < length y.groups) e h.0 in
    let at : x ≡ hidden plan group = h.1 ∙ ap (λ (y : Structure). position_or_len (within y.parties group) y.groups) e in
    (sym same ∙ at, subst (λ k. k < length plan.groups) (sym (sym same ∙ at)) there)

-- the checks of the outputs read the output wires
pub values_alike : (plan : Plan) (group s : ℕ) (first second : List ℕ) (f g : ℕ → ℕ) → length (readers (session plan s)) ≤ (session plan s).wires
    → first ≡ listed (session plan s).wires f → second ≡ listed (session plan s).wires g
    → value_checks plan group s (slice_index first) (slice_index second) ≡ value_checks plan group s f g
values_alike plan group s first second f g outputs ef eg =
    let x : Session = session plan s in
    joined_eq (length (readers x)) _ _ (λ o lo.
    let there : output_wire x o < x.wires = omega arith in
    ap₂ (λ a b. listed plan.parties (output_check plan group s a b o))
    (ap (λ xs. slice_index xs (output_wire x o)) ef ∙ listed_at x.wires f (output_wire x o) 0 there)
    (ap (λ xs. slice_index xs (output_wire x o)) eg ∙ listed_at x.wires g (output_wire x o) 0 there))

-- a list of values for each session
pub values_are : (w : World) (lists : List (List ℕ)) → lists ≡ value_lists w → AreValues w.plan lists
values_are w lists is = record {
  sessions = ap length is ∙ length-listed (length w.plan.sessions) (value_list w);
  wires = λ s ls. ap (λ xs. length (slice_index_or xs s [])) is ∙ ap length (listed_at (length w.plan.sessions) (value_list w) s [] ls)
      ∙ length-listed (session w.plan s).wires (plain w s);
}

-- the checks of the outputs read these lists
pub outputs_read : (w : World) (other : List (List (List ℕ))) (group : ℕ) (first second : List (List ℕ)) (found : Option MapFault) → IsSound w.plan
    → first ≡ value_lists w → second ≡ value_lists (with_inputs w other)
    → found ≡ first_fault (joined (length w.plan.sessions) (λ s. value_checks w.plan group s (value_at first s) (value_at second s)))
    → first_fault (joined (length w.plan.sessions) (output_checks w other group)) ≡ found
outputs_read w other group first second found sound ef es is =
    let count = length w.plan.sessions in
    sym (is ∙ ap first_fault (joined_eq count _ (output_checks w other group) (λ s ls.
    values_alike w.plan group s (slice_index_or first s []) (slice_index_or second s []) (plain w s) (plain (with_inputs w other) s) (sound.sessions s ls).wired.output_wires
    (ap (λ xs. slice_index_or xs s []) ef ∙ listed_at count (value_list w) s [] ls)
    (ap (λ xs. slice_index_or xs s []) es ∙ listed_at count (value_list (with_inputs w other)) s [] ls))))
