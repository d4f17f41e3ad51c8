-- The rows of a table of summands, by their names.
use Rattle.std.proofs.Common.{◌≡◌, ℕ, zero, suc, ◌+◌, ◌-◌, ◌*◌, ◌^◌, ◌<◌, ◌⊎◌, true, false, All, List, [], ◌∷◌, length, refl, sym, ap, ◌∙◌, subst, arith, length-append}
use Rattle.std.specs.Prelude.{slice_index_or, if◌then◌else◌}
use Rattle.std.proofs.Math.Nat.{mod-lt}
use Rattle.std.proofs.Math.ListN.{get_or-append}
use Rattle.std.proofs.lemmas.Bool.{cases_lt, cases_Bool, cond-true, cond-false, and_parts}
use Rattle.std.proofs.lemmas.List.{get_or-append-add}
use mathlib.Core.Logic.{inl, inr}
use Rattle.list_laws.specs.Lists.{total, joined, listed}
use Rattle.list_laws.proofs.JoinedLists.{length-joined, length-listed, listed_at, joined_place, locate}
use Rattle.secret_sharing.specs.Schemes.{summands}
use Rattle.session_slots.specs.declared.side.Side.{Side}
use Rattle.session_slots.specs.declared.side.Side.TheVariants.{First, Second}
use Rattle.session_slots.specs.Sessions.{Session, is_prepared, mask_wire, product_wire, row_names}
use Rattle.session_slots.specs.Sessions.Slot.{Mask}
use Rattle.session_slots.proofs.RowNames.{direct_names}
use Rattle.plan_model.specs.Plans.{Plan, session, holder_of, least_held}
use Rattle.share_world.specs.Worlds.{World, run_of, mask, mask_product}
use Rattle.share_world.specs.Laws.{IsWhole}
use Rattle.share_world.proofs.SmallWords.{positive, small_run, small_words}
use Rattle.wire_tables.specs.WireTables.{summand_row, summand_rows, mask_row, product_row, prepared_rows}
use Rattle.wire_tables.specs.Steps.{IsRow, last_row}
use Rattle.wire_tables.proofs.DealtRows.{all_listed}

abbrev nothing : List (List ℕ)
nothing = [] ∷ [] ∷ [] ∷ []

module _ (w : World) (s : ℕ) where
  abbrev x : Session
  x = session w.plan s

  abbrev of_wires : List (List ℕ)
  of_wires = listed x.wires (summand_row w s)

  abbrev of_masks : List (List ℕ)
  of_masks = joined (length x.gates) (prepared_rows w s)

  abbrev behind : List (List ℕ)
  behind = if x.prepared then of_masks else []

  three : (t : ℕ) → length (prepared_rows w s t) ≡ 3
  three t = elim (cases_Bool (is_prepared x t)) [
    | inl e ↦ ap length (cond-true (is_prepared x t) _ _ e)
    | inr e ↦ ap length (cond-false (is_prepared x t) _ _ e)
  ]

  threes : (t : ℕ) → total t (λ u. length (prepared_rows w s u)) ≡ 3 * t
  threes zero = omega arith
  threes (suc t) = (let before = threes t in omega (arith, before, three t))

  -- a row for each name
  pub rows_named : length (summand_rows w s) ≡ row_names x
  rows_named = elim (cases_Bool x.prepared) [
    | inl e ↦
        let all = ap length (cond-true x.prepared of_masks [] e) ∙ length-joined (length x.gates) (prepared_rows w s) ∙ threes (length x.gates) in
        omega (arith, length-append of_wires behind, length-listed x.wires (summand_row w s), all, cond-true x.prepared (x.wires + 3 * length x.gates) x.wires e)
    | inr e ↦
        let none = ap length (cond-false x.prepared of_masks [] e) in
        omega (arith, length-append of_wires behind, length-listed x.wires (summand_row w s), none, direct_names x e)
  ]

  -- that of a wire
  pub wire_last : (v : ℕ) → v < x.wires → last_row w s v ≡ summand_row w s v
  wire_last v l = get_or-append of_wires behind [] v (omega (arith, length-listed x.wires (summand_row w s))) ∙ listed_at x.wires (summand_row w s) v [] l

  -- those of a gate's masks
  pub behind_last : x.prepared ≡ true → (t r : ℕ) → t < length x.gates → r < 3 → last_row w s (x.wires + (3 * t + r)) ≡ slice_index_or (prepared_rows w s t) r []
  behind_last e t r lt lr =
      ap (λ n. last_row w s (n + (3 * t + r))) (sym (length-listed x.wires (summand_row w s)))
      ∙ get_or-append-add of_wires behind (3 * t + r) []
      ∙ ap (λ rows. slice_index_or rows (3 * t + r) []) (cond-true x.prepared of_masks [] e)
      ∙ ap (λ n. slice_index_or of_masks (n + r) []) (sym (threes t))
      ∙ joined_place [] (length x.gates) t (prepared_rows w s) r lt (omega (arith, three t))

  prepared_last : (t r : ℕ) → t < length x.gates → is_prepared x t ≡ true → r < 3 → last_row w s (x.wires + (3 * t + r)) ≡ slice_index_or (mask_row w s t First ∷ mask_row w s t Second ∷ product_row w s t ∷ []) r []
  prepared_last t r l e lr =
      behind_last (and_parts x.prepared _ e).0 t r l lr ∙ ap (λ rows. slice_index_or rows r []) (cond-true (is_prepared x t) _ _ e)

  pub mask_last : (t : ℕ) (side : Side) → t < length x.gates → is_prepared x t ≡ true → last_row w s (mask_wire x t side) ≡ mask_row w s t side
  mask_last t First l e = ap (last_row w s) (omega arith) ∙ prepared_last t 0 l e (omega arith)
  mask_last t Second l e = ap (last_row w s) (omega arith) ∙ prepared_last t 1 l e (omega arith)

  pub product_last : (t : ℕ) → t < length x.gates → is_prepared x t ≡ true → last_row w s (product_wire x t) ≡ product_row w s t
  product_last t l e = ap (last_row w s) (omega arith) ∙ prepared_last t 2 l e (omega arith)

  -- and those of a gate that isn't a product
  pub none_last : x.prepared ≡ true → (t r : ℕ) → t < length x.gates → is_prepared x t ≡ false → r < 3 → last_row w s (x.wires + (3 * t + r)) ≡ []
  none_last p t r l e lr = behind_last p t r l lr ∙ ap (λ rows. slice_index_or rows r []) (cond-false (is_prepared x t) _ _ e) ∙ none r lr
    where
      none : (r : ℕ) → r < 3 → slice_index_or nothing r [] ≡ []
      none zero l = refl
      none (suc zero) l = refl
      none (suc (suc zero)) l = refl
      none (suc (suc (suc r))) l = absurd (omega (arith, l))

  -- a name behind those of the wires: the one at this place of those of a gate
  pub record IsBehind (name : ℕ) : Type 0 where
    pub prepared : x.prepared ≡ true
    pub at : ℕ  -- the gate
    pub place : ℕ
    pub there : at < length x.gates
    pub within : place < 3
    pub is : name ≡ x.wires + (3 * at + place)

  -- each name is a wire's or of those
  pub split_name : (name : ℕ) → name < row_names x → (name < x.wires) ⊎ IsBehind name
  split_name name l = elim (cases_lt name x.wires) [
    | inl less ↦ inl less
    | inr past ↦ elim (cases_Bool x.prepared) [
      | inr e ↦ absurd (omega (arith, past, l, direct_names x e))
      | inl e ↦
          let all = length-joined (length x.gates) (prepared_rows w s) ∙ threes (length x.gates) in
          let at = locate (length x.gates) (prepared_rows w s) (name - x.wires) (omega (arith, all, past, l, cond-true x.prepared (x.wires + 3 * length x.gates) x.wires e)) in
          inr (record {
            prepared = e;
            at = at.part;
            place = at.place;
            there = at.there;
            within = omega (arith, at.within, three at.part);
            is = omega (arith, at.is, threes at.part, past);
          })
    ]
  ]

-- ---- whole rows

module _ (w : World) (whole : IsWhole w) (s : ℕ) where
  -- words of the ring, one for each summand
  row_of : (f : ℕ → ℕ) → ((i : ℕ) → f i < 2 ^ w.plan.bits) → IsRow w.plan (listed (length w.plan.groups) f)
  row_of f below = record {
    long = length-listed (length w.plan.groups) f;
    small = all_listed (length w.plan.groups) (2 ^ w.plan.bits) f (λ i l. below i);
  }

  pub wire_whole : (v : ℕ) → IsRow w.plan (summand_row w s v)
  wire_whole v = row_of (summands (run_of w s) (length (session w.plan s).gates) v) (small_run w whole s (length (session w.plan s).gates) v)

  pub mask_whole : (t : ℕ) (side : Side) → IsRow w.plan (mask_row w s t side)
  mask_whole t side = row_of (mask w s t side) (λ i. small_words w whole s (holder_of w.plan i) (Mask t side) (least_held w.plan (holder_of w.plan i) i))

  pub product_whole : (t : ℕ) → IsRow w.plan (product_row w s t)
  product_whole t = row_of (mask_product w s t) (λ i. mod-lt _ (positive w whole))

-- a row that is one of these
pub row_whole : (plan : Plan) (row row' : List ℕ) → row ≡ row' → IsRow plan row' → IsRow plan row
row_whole plan row row' e h = subst (IsRow plan) (sym e) h

-- the words of a row are of the ring
pub row_small : (plan : Plan) (bits : ℕ) (row : List ℕ) → bits ≡ plan.bits → IsRow plan row → All (λ word. word < 2 ^ bits) row
row_small plan bits row e h = subst (λ b. All (λ word. word < 2 ^ b) row) (sym e) h.small
