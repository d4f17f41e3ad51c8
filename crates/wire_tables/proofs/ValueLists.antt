-- The lists of values, session by session.
use Rattle.std.proofs.Common.{◌≡◌, ℕ, zero, suc, ◌+◌, ◌^◌, ◌<◌, ◌≤◌, false, nat_eq, nat_lt, All, List, [], length, set, refl, sym, ap, ◌∙◌, subst, arith, inl, inr, pow_pos, length-set, get_or-set_other, get_or-set_same}
use Rattle.std.specs.Prelude.{slice_index, slice_index_or}
use Rattle.std.proofs.Math.ListN.{get_or-eq_default}
use Rattle.std.proofs.Math.Nat.{mod-lt}
use Rattle.std.proofs.lemmas.Bool.{cases_eq, cases_lt, cond-true, cond-false, cond_both, ne_eqb, lt-ltb, le-ltb}
use Rattle.std.proofs.lemmas.List.{ext_get_or}
use Rattle.list_laws.specs.Lists.{listed}
use Rattle.list_laws.proofs.JoinedLists.{length-listed, listed_at, listed_eq}
use Rattle.circuit_model.specs.Circuits.{values}
use Rattle.circuit_model.proofs.SetWires.{funext}
use Rattle.session_slots.specs.declared.source.Source.{Source}
use Rattle.session_slots.specs.declared.source.Source.TheVariants.{Given, Earlier}
use Rattle.session_slots.specs.Sessions.{Session, carries, gate, owners, source}
use Rattle.plan_model.specs.Plans.{session}
use Rattle.plan_model.specs.Sound.{IsSound}
use Rattle.plan_model.specs.InputWords.{AreInputs}
use Rattle.plan_model.proofs.PlanSchemes.{plan_is}
use Rattle.share_world.specs.Worlds.{World, carried_wire, first_values, input_of, plain, source_input, source_value, values_before}
use Rattle.share_world.specs.Laws.{IsWorld}
use Rattle.share_world.proofs.CarriedWires.{ended_values}
use Rattle.share_world.proofs.WireSums.{world_sums}
use Rattle.wire_tables.specs.HandedOn.{IsHandedOn}
use Rattle.wire_tables.specs.WireTables.{input_list, value_at, value_list, value_lists}
use Rattle.wire_tables.proofs.HandedOn.{carried_named}
use Rattle.wire_tables.proofs.ListedRows.{listed_of}

-- the values of the input wires of session u, where those of the first n sessions are known
abbrev pub first_list : World → ℕ → ℕ → List ℕ
first_list w n u = listed (length (owners (session w.plan u))) (first_values w (values_before w n) u)

-- the sessions before m have the values of all their wires, the others those of their input wires, where what is carried
-- from the first n is handed on
pub record ListsSoFar (w : World) (n m : ℕ) (lists : List (List ℕ)) : Type 0 where
  pub sessions : length lists ≡ length w.plan.sessions
  pub made : (u : ℕ) → u < m → u < length w.plan.sessions → slice_index_or lists u [] ≡ value_list w u
  pub behind : (u : ℕ) → m ≤ u → u < length w.plan.sessions → slice_index_or lists u [] ≡ first_list w n u

module _ (w : World) where
  -- the value of an input wire
  input_value : (n u v : ℕ) → v < length (owners (session w.plan u)) → first_values w (values_before w n) u v ≡ source_value w (values_before w n) u v (source (session w.plan u) v)
  input_value n u v l = cond-true (nat_lt v (length (owners (session w.plan u)))) _ 0 (lt-ltb v (length (owners (session w.plan u))) l)

  -- at first the words that are given are known, and nothing of what is carried
  pub lists_first : (lists : List (List ℕ)) → lists ≡ listed (length w.plan.sessions) (input_list w) → ListsSoFar w 0 0 lists
  lists_first lists is = record {
    sessions = ap length is ∙ length-listed (length w.plan.sessions) (input_list w);
    made = λ u l. absurd (omega (arith, l));
    behind = λ u le l. ap (λ xs. slice_index_or xs u []) is ∙ listed_at (length w.plan.sessions) (input_list w) u [] l
        ∙ listed_eq (length (owners (session w.plan u))) (input_of w u) (first_values w (values_before w 0) u)
        (λ v lv. given u v (source (session w.plan u) v) refl ∙ sym (input_value 0 u v lv));
  }
    where
      given : (u v : ℕ) (from : Source) → source (session w.plan u) v ≡ from → source_input w u v from ≡ source_value w (values_before w 0) u v from
      given u v (Given p) is = ap (source_input w u v) (sym is)
      given u v (Earlier r c i) is = refl

  -- the gates of session s make the values of all its wires
  pub gates_run : (s : ℕ) (lists : List (List ℕ)) (new : List ℕ) → s < length w.plan.sessions → ListsSoFar w s s lists
      → new ≡ listed (session w.plan s).wires (values (2 ^ w.plan.bits) (gate (session w.plan s)) (slice_index (slice_index_or lists s [])) (length (session w.plan s).gates))
      → ListsSoFar w s (s + 1) (set lists s new)
  gates_run s lists new l h is = record {
    sessions = length-set lists s new ∙ h.sessions;
    made = λ u lu lp. elim (cases_eq u s) [
      | inl e ↦ ap (λ n. slice_index_or (set lists s new) n []) e ∙ get_or-set_same lists s new [] (omega (arith, l, h.sessions)) ∙ is ∙ made ∙ ap (value_list w) (sym e)
      | inr ne ↦ get_or-set_other lists s u new [] ne ∙ h.made u (omega (arith, lu, ne)) lp
    ];
    behind = λ u le lp. get_or-set_other lists s u new [] (λ e. omega (arith, e, le)) ∙ h.behind u (omega (arith, le)) lp;
  }
    where
      x : Session
      x = session w.plan s

      start : slice_index (slice_index_or lists s []) ≡ first_values w (values_before w s) s
      start = ap slice_index (h.behind s (omega arith) l) ∙ funext (slice_index (first_list w s s)) (first_values w (values_before w s) s) (λ v. elim (cases_lt v (length (owners x))) [
        | inl lv ↦ listed_at (length (owners x)) (first_values w (values_before w s) s) v 0 lv
        | inr past ↦
            get_or-eq_default (first_list w s s) 0 (omega (arith, past, length-listed (length (owners x)) (first_values w (values_before w s) s)))
            ∙ sym (cond-false (nat_lt v (length (owners x))) _ 0 (le-ltb v (length (owners x)) past))
      ])

      made : listed x.wires (values (2 ^ w.plan.bits) (gate x) (slice_index (slice_index_or lists s [])) (length x.gates)) ≡ value_list w s
      made = ap (λ f. listed x.wires (values (2 ^ w.plan.bits) (gate x) f (length x.gates))) start

  -- what is carried from session s is handed on
  pub values_handed_on : (s : ℕ) (lists new : List (List ℕ)) → s < length w.plan.sessions → ListsSoFar w s (s + 1) lists
      → length new ≡ length w.plan.sessions → ((u : ℕ) → length (slice_index_or new u []) ≡ length (slice_index_or lists u []))
      → IsHandedOn w.plan s (value_at lists s) (value_at lists) (value_at new) → IsSound w.plan → ListsSoFar w (s + 1) (s + 1) new
  values_handed_on s lists new l h sessions lengths handed sound = record {
    sessions = sessions;
    made = λ u lu lp. same u lu ∙ h.made u lu lp;
    behind = λ u le lp.
        let many = length (owners (session w.plan u)) in
        let long : length (slice_index_or new u []) ≡ many = lengths u ∙ ap length (h.behind u le lp) ∙ length-listed many (first_values w (values_before w s) u) in
        listed_of 0 many (first_values w (values_before w (s + 1)) u) (slice_index_or new u []) long (λ v lv.
        carried u v (source (session w.plan u) v) refl le lp lv ∙ sym (input_value (s + 1) u v lv));
  }
    where
      -- no session up to this one carries anything of it
      same : (u : ℕ) → u < s + 1 → slice_index_or new u [] ≡ slice_index_or lists u []
      same u lu = ext_get_or 0 (slice_index_or new u []) (slice_index_or lists u []) (lengths u) (λ v lv. handed.others u v (not_later u v (source (session w.plan u) v) refl lu))
        where
          not_later : (u v : ℕ) (from : Source) → source (session w.plan u) v ≡ from → u < s + 1 → carries s from ≡ false
          not_later u v (Given p) is lu = refl
          not_later u v (Earlier r c i) is lu = ne_eqb r s (λ e. omega (arith, e, lu, sound.earlier u v r c i is))

      -- what stood there before
      before : (u v : ℕ) (from : Source) → source (session w.plan u) v ≡ from → s + 1 ≤ u → u < length w.plan.sessions → v < length (owners (session w.plan u))
          → value_at lists u v ≡ source_value w (values_before w s) u v from
      before u v from is le lp lv =
          ap (λ xs. slice_index xs v) (h.behind u le lp) ∙ listed_at (length (owners (session w.plan u))) (first_values w (values_before w s) u) v 0 lv
          ∙ input_value s u v lv ∙ ap (source_value w (values_before w s) u v) is

      one : s + 1 ≡ suc s
      one = omega arith

      carried : (u v : ℕ) (from : Source) → source (session w.plan u) v ≡ from → s + 1 ≤ u → u < length w.plan.sessions → v < length (owners (session w.plan u))
          → value_at new u v ≡ source_value w (values_before w (s + 1)) u v from
      carried u v (Given p) is le lp lv = handed.others u v (ap (carries s) is) ∙ before u v (Given p) is le lp lv
      carried u v (Earlier r c i) is le lp lv = elim (cases_eq r s) [
        | inl e ↦
            let from : source (session w.plan u) v ≡ Earlier s c i = is ∙ ap (λ (q : ℕ). Earlier q c i) e in
            let wire = carried_wire w.plan s c i in
            handed.carried u v c i from
            ∙ ap (λ xs. slice_index xs wire) (h.made s (omega arith) l)
            ∙ listed_at (session w.plan s).wires (plain w s) wire 0 (carried_named w.plan sound u v s c i from)
            ∙ ap (λ (f : ℕ → ℕ). f wire) (sym (ended_values w (s + 1) s (omega arith)))
            ∙ ap (λ (q : ℕ). values_before w (s + 1) q (carried_wire w.plan q c i)) (sym e)
        | inr ne ↦
            handed.others u v (ap (carries s) is ∙ ne_eqb r s ne) ∙ before u v (Earlier r c i) is le lp lv
            ∙ ap (λ (f : ℕ → ℕ). f (carried_wire w.plan r c i)) (sym (cond-false (nat_eq r s) (plain w s) (values_before w s r) (ne_eqb r s ne)))
            ∙ ap (λ n. values_before w n r (carried_wire w.plan r c i)) (sym one)
      ]

  -- after all sessions the lists are whole
  pub lists_whole : (n : ℕ) (lists : List (List ℕ)) → n ≡ length w.plan.sessions → ListsSoFar w n n lists → lists ≡ value_lists w
  lists_whole n lists all h = listed_of [] (length w.plan.sessions) (value_list w) lists h.sessions (λ u l. h.made u (omega (arith, all, l)) l)

  -- ---- values are numbers of the ring

  module _ (sound : IsSound w.plan) (inputs : AreInputs w.plan w.inputs) where
    is_world : IsWorld w
    is_world = record { plan = plan_is w.plan sound; inputs = inputs.below }

    pub small_plain : (s v : ℕ) → plain w s v < 2 ^ w.plan.bits
    small_plain s v = subst (λ n. n < 2 ^ w.plan.bits) (world_sums w is_world s v) (mod-lt _ (pow_pos w.plan.bits))

    small_before : (n r v : ℕ) → values_before w n r v < 2 ^ w.plan.bits
    small_before zero r v = pow_pos w.plan.bits
    small_before (suc n) r v = cond_both (nat_eq r n) (plain w n) (values_before w n r) (λ (f : ℕ → ℕ). f v < 2 ^ w.plan.bits) (λ e. small_plain n v) (λ e. small_before n r v)

    small_source : (n u v : ℕ) (from : Source) → source (session w.plan u) v ≡ from → source_value w (values_before w n) u v from < 2 ^ w.plan.bits
    small_source n u v (Given p) is = subst (λ (f : Source). source_input w u v f < 2 ^ w.plan.bits) (sym is) (inputs.below p u _)
    small_source n u v (Earlier r c i) is = small_before n r (carried_wire w.plan r c i)

    pub small_list : (n u : ℕ) (list : List ℕ) → list ≡ first_list w n u → All (λ word. word < 2 ^ w.plan.bits) list
    small_list n u list is k d l =
        let many = length (owners (session w.plan u)) in
        let there : k < many = omega (arith, l, ap length is, length-listed many (first_values w (values_before w n) u)) in
        subst (λ z. z < 2 ^ w.plan.bits) (sym (ap (λ xs. slice_index_or xs k d) is ∙ listed_at many (first_values w (values_before w n) u) k d there ∙ input_value n u k there))
        (small_source n u k (source (session w.plan u) k) refl)
