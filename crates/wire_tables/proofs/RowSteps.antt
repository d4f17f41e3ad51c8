-- The rows of a table, slot by slot.
use Rattle.std.proofs.Common.{◌≡◌, ◌≢◌, ℕ, zero, suc, ◌+◌, ◌*◌, ◌<◌, ◌≤◌, Bool, true, false, ◌||◌, nat_eq, nat_lt, if◌then◌else◌, List, [], ◌∷◌, length, set, replicate, sym, ap, ◌∙◌, arith, inl, inr, length-set}
use Rattle.std.specs.Prelude.{slice_index_or}
use Rattle.std.specs.Global.{Vec}
use Rattle.std.specs.List.{list_any}
use Rattle.std.proofs.lemmas.Bool.{cases_Bool, cases_eq, cond-true, cond-false, both_ways, lt-ltb, le-ltb, ltb-true, ltb-false, eq-eqb, ne_eqb}
use Rattle.std.proofs.lemmas.List.{length-map, ext_get_or}
use Rattle.list_laws.specs.Lists.{some_below}
use Rattle.list_laws.proofs.Tests.{or_false}
use Rattle.session_slots.specs.declared.side.Side.TheVariants.{First, Second}
use Rattle.session_slots.specs.Sessions.{Session, Slot, is_prepared, mask_wire, product_wire, row_names}
use Rattle.session_slots.specs.Sessions.Slot.{Mask, Mask_product}
use Rattle.session_slots.specs.SoundSessions.{Inside, IsWired}
use Rattle.session_slots.specs.SlotNumbers.{session_slot_number}
use Rattle.session_slots.specs.KeptWires.{sets_in, reads_in, slot_sets}
use Rattle.session_slots.proofs.KeptRows.{some_at}
use Rattle.session_slots.proofs.SessionSlots.{slot_there, slot_count, number_within}
use Rattle.plan_model.specs.Plans.{session, slot, slots}
use Rattle.plan_model.specs.InputWords.{session_words}
use Rattle.share_world.specs.Laws.{IsWhole}
use Rattle.share_world.specs.Solutions.{SetBefore}
use Rattle.share_world.specs.Worlds.{World}
use Rattle.share_world.proofs.Settled.{plan_in_order, is_one, setter}
use Rattle.share_world.proofs.Solutions.{is_solution}
use Rattle.wire_tables.specs.WireTables.{summand_rows}
use Rattle.wire_tables.specs.Steps.{AreRows, SetsRow, last_row, row_before}
use Rattle.wire_tables.proofs.DealtRows.{zeros_listed}
use Rattle.wire_tables.proofs.ListedRows.{row_set}
use Rattle.wire_tables.proofs.TableRows.{split_name, rows_named, wire_last, none_last}

-- no other name is set
not_other : (name v : ℕ) → v ≢ name → list_any (nat_eq v) (name ∷ []) ≡ false
not_other name v ne = or_false (nat_eq v name) ∙ ne_eqb v name ne

not_so : (b : Bool) → (b ≡ true → ⊥) → b ≡ false
not_so b h = elim (cases_Bool b) [
  | inl yes' ↦ absurd (h yes')
  | inr no' ↦ no'
]

module _ (w : World) (s : ℕ) where
  abbrev x : Session
  x = session w.plan s

  -- a slot before slot k sets the row of this name
  abbrev is_set : ℕ → ℕ → Bool
  is_set k name = some_below k (λ j. slot_sets x j name)

  -- what stands in a row till then
  abbrev unset : ℕ → List ℕ
  unset name = if nat_lt name x.wires then replicate (length w.plan.groups) 0 else []

  -- ---- one slot more

  -- a name that slot k sets not has the row that it had
  same_before : (k name : ℕ) → slot_sets x k name ≡ false → row_before w s k name ≡ row_before w s (k + 1) name
  same_before k name e =
      let one : k + 1 ≡ suc k = omega arith in
      let same : is_set (k + 1) name ≡ is_set k name = ap (λ n. is_set n name) one ∙ ap (λ b. is_set k name || b) e ∙ or_false (is_set k name) in
      ap (λ b. if b then last_row w s name else unset name) (sym same)

  -- one that it sets is whole after it
  whole_after : (k name : ℕ) → slot_sets x k name ≡ true → last_row w s name ≡ row_before w s (k + 1) name
  whole_after k name e = sym (cond-true (is_set (k + 1) name) (last_row w s name) (unset name) (some_at (k + 1) (λ j. slot_sets x j name) k (omega arith) e))

  -- a slot that sets no row leaves all as they are
  pub rows_kept : (k : ℕ) (rows : List (Vec ℕ)) → AreRows w s k rows → sets_in x (slot w.plan s k) ≡ [] → AreRows w s (k + 1) rows
  rows_kept k rows h none = record {
    names = h.names;
    are = λ name l. h.are name l ∙ same_before k name (ap (list_any (nat_eq name)) none);
  }

  -- one that sets a row makes it whole
  module _ (k name : ℕ) (rows : List (Vec ℕ)) (row : Vec ℕ) (h : AreRows w s k rows) (made : SetsRow w s k name row.items) where
    within : name < length rows
    within = omega (arith, h.names, made.named)

    here : (v : ℕ) → v ≡ name → slice_index_or (session_words (set rows name row)) v [] ≡ row.items
    here v e = row_set rows name row within v ∙ cond-true (nat_eq v name) row.items _ (eq-eqb v name e)

    there : (v : ℕ) → v ≢ name → slice_index_or (session_words (set rows name row)) v [] ≡ slice_index_or (session_words rows) v []
    there v ne = row_set rows name row within v ∙ cond-false (nat_eq v name) row.items _ (ne_eqb v name ne)

    pub rows_set : AreRows w s (k + 1) (set rows name row)
    rows_set = record {
      names = length-set rows name row ∙ h.names;
      are = λ v l. elim (cases_eq v name) [
        | inl e ↦ here v e ∙ made.are ∙ ap (last_row w s) (sym e) ∙ whole_after k v (ap (list_any (nat_eq v)) made.sets ∙ is_one name v e)
        | inr ne ↦ there v ne ∙ h.are v l ∙ same_before k v (ap (list_any (nat_eq v)) made.sets ∙ not_other name v ne)
      ];
    }

  -- ---- a row that is read

  -- a row that a slot reads no later than slot k is whole
  pub read_whole : (k v : ℕ) (z : Slot) (rows : List (Vec ℕ)) → IsWired x → AreRows w s k rows → v < row_names x
      → Inside x z → session_slot_number x z ≤ k → list_any (nat_eq v) (reads_in x z) ≡ true → slice_index_or (session_words rows) v [] ≡ last_row w s v
  read_whole k v z rows wired h lv inside le reads =
      let n = session_slot_number x z in
      let before = wired.order.before n v (number_within x z inside) (ap (λ y. list_any (nat_eq v) (reads_in x y)) (slot_there x z inside) ∙ reads) in
      h.are v lv ∙ cond-true (is_set k v) (last_row w s v) (unset v) (some_at k (λ j. slot_sets x j v) before.0 (omega (arith, before.1, le)) before.2)

  -- ---- before the first slot, and after the last

  pub rows_first : (rows : List (Vec ℕ)) → length rows ≡ row_names x
      → ((v : ℕ) → v < x.wires → slice_index_or (session_words rows) v [] ≡ replicate (length w.plan.groups) 0)
      → ((v : ℕ) → x.wires ≤ v → v < row_names x → slice_index_or (session_words rows) v [] ≡ []) → AreRows w s 0 rows
  rows_first rows names of_wires of_masks = record {
    names = names;
    are = λ v l. elim (cases_Bool (nat_lt v x.wires)) [
      | inl e ↦ of_wires v (ltb-true v x.wires e) ∙ sym (cond-true (nat_lt v x.wires) _ [] e)
      | inr e ↦ of_masks v (ltb-false v x.wires e) l ∙ sym (cond-false (nat_lt v x.wires) _ [] e)
    ];
  }

  module _ (whole : IsWhole w) (ls : s < length w.plan.sessions) where
    wired : IsWired x
    wired = (whole.sound.sessions s ls).wired

    -- a slot sets the row of a mask, and of a product of masks
    set_in : (name : ℕ) (z : Slot) → Inside x z → list_any (nat_eq name) (sets_in x z) ≡ true → is_set (slots w.plan s) name ≡ true
    set_in name z inside e =
        some_at (slots w.plan s) (λ j. slot_sets x j name) (session_slot_number x z) (number_within x z inside)
        (ap (λ y. list_any (nat_eq name) (sets_in x y)) (slot_there x z inside) ∙ e)

    masks_set : (t r : ℕ) → t < length x.gates → is_prepared x t ≡ true → r < 3 → is_set (slots w.plan s) (x.wires + (3 * t + r)) ≡ true
    masks_set t zero l e lr = set_in _ (Mask t First) (l, e) (is_one (mask_wire x t First) _ (omega arith))
    masks_set t (suc zero) l e lr = set_in _ (Mask t Second) (l, e) (is_one (mask_wire x t Second) _ (omega arith))
    masks_set t (suc (suc zero)) l e lr = set_in _ (Mask_product t) (l, e) (is_one (product_wire x t) _ (omega arith))
    masks_set t (suc (suc (suc r))) l e lr = absurd (omega (arith, lr))

    -- what no slot sets ends as it began
    never_set : (name : ℕ) → name < row_names x → is_set (slots w.plan s) name ≡ false → unset name ≡ last_row w s name
    never_set name l none = elim (split_name w s name l) [
      | inl lw ↦
          let unset_wire : SetBefore x (length x.gates) name → ⊥ = λ set.
          let by = setter x wired (length x.gates) name (omega arith) set in
          both_ways (is_set (slots w.plan s) name) none (some_at (slots w.plan s) (λ j. slot_sets x j name) by.0 (omega (arith, by.1, slot_count x)) by.2) in
          cond-true (nat_lt name x.wires) _ [] (lt-ltb name x.wires lw)
          ∙ zeros_listed (length w.plan.groups) _ (λ i. (is_solution w (plan_in_order w.plan whole.sound) s ls).unset name i unset_wire)
          ∙ sym (wire_last w s name lw)
      | inr at ↦
          let not_prepared : is_prepared x at.at ≡ false = not_so (is_prepared x at.at) (λ e.
          both_ways (is_set (slots w.plan s) name) none (ap (is_set (slots w.plan s)) at.is ∙ masks_set at.at at.place at.there e at.within)) in
          cond-false (nat_lt name x.wires) _ [] (le-ltb name x.wires (omega (arith, at.is)))
          ∙ sym (ap (last_row w s) at.is ∙ none_last w s at.prepared at.at at.place at.there not_prepared at.within)
    ]

    -- after all slots the rows are the table's
    pub rows_last : (k : ℕ) (rows : List (Vec ℕ)) → k ≡ slots w.plan s → AreRows w s k rows → session_words rows ≡ summand_rows w s
    rows_last k rows all h =
        let long : length (session_words rows) ≡ row_names x = length-map rows (λ (r : Vec ℕ). r.items) ∙ h.names in
        ext_get_or [] (session_words rows) (summand_rows w s) (long ∙ sym (rows_named w s)) (λ name l.
        let ln : name < row_names x = omega (arith, l, long) in
        h.are name ln ∙ ap (λ n. row_before w s n name) all ∙ elim (cases_Bool (is_set (slots w.plan s) name)) [
          | inl yes' ↦ cond-true (is_set (slots w.plan s) name) (last_row w s name) (unset name) yes'
          | inr no' ↦ cond-false (is_set (slots w.plan s) name) (last_row w s name) (unset name) no' ∙ never_set name ln no'
        ])
