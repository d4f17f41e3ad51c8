-- The tables of a session make the change of its tapes.
use Rattle.std.proofs.Common.{◌≡◌, ℕ, zero, suc, ◌+◌, ◌-◌, ◌*◌, ◌%◌, ◌^◌, ◌<◌, ◌++◌, true, false, nat_eq, nat_lt, All, List, [], ◌∷◌, length, refl, sym, ap, ap₂, ◌∙◌, subst, arith, inl, inr, pow_pos}
use Rattle.std.specs.Prelude.{slice_index, slice_index_or}
use Rattle.std.specs.List.{AllByRecursion}
use Rattle.std.specs.Global.{Vec}
use Rattle.std.proofs.lemmas.List.{length-append, length-map, get_or-append-add, get_or_default}
use Rattle.std.proofs.Math.Nat.{mod-eq_of_lt, mod-lt}
use Rattle.std.proofs.Math.ListN.{get_or-append, get_or-eq_default}
use Rattle.std.proofs.Math.Seq.{get_or-append_right}
use Rattle.std.proofs.lemmas.Bool.{cases_Bool, cases_lt, cond-true, cond-false, cond_both, lt-ltb, and_parts, both_ways, eqb-true}
use Rattle.list_laws.specs.Lists.{total, joined, listed, only_if}
use Rattle.list_laws.proofs.Totals.{total_eq, total_more}
use Rattle.list_laws.proofs.JoinedLists.{length-joined, length-listed, listed_at, listed_eq, joined_at, joined_eq, every_append, every_at, every_joined, every_listed, every_only_if}
use Rattle.mpc_ring.specs.Differences.{difference}
use Rattle.circuit_model.specs.Circuits.{is_product}
use Rattle.circuit_model.proofs.SetAt.{set_there}
use Rattle.secret_sharing.specs.Schemes.{own_product, summands}
use Rattle.party_set.specs.Parties.{has_party}
use Rattle.session_slots.specs.declared.side.Side.{Side}
use Rattle.session_slots.specs.declared.side.Side.TheVariants.{First, Second}
use Rattle.session_slots.specs.declared.source.Source.{Source}
use Rattle.session_slots.specs.declared.source.Source.TheVariants.{Given, Earlier}
use Rattle.session_slots.specs.Sessions.{Session, Slot, content, given_by, owners, source, gate, operand, is_direct, is_prepared, mask_wire, row_names}
use Rattle.session_slots.specs.Sessions.Slot.{Input, At_gate, Output, Mask, Mask_product, Masked, Kept}
use Rattle.session_slots.specs.SoundSessions.{Inside}
use Rattle.session_slots.proofs.RowNames.{direct_names, mask_within, wires_named}
use Rattle.session_slots.proofs.SessionSlots.{slots_are_numbered}
use Rattle.plan_model.specs.Plans.{Plan, scheme, session, slot, slots, words, words_in, place, deals_in}
use Rattle.plan_model.specs.InputWords.{AreInputs, session_words}
use Rattle.plan_model.specs.Sound.{IsSound}
use Rattle.plan_model.proofs.Slots.{at_its_number}
use Rattle.share_world.specs.Laws.{IsWhole}
use Rattle.share_world.specs.Solutions.{GatesInOrder}
use Rattle.share_world.specs.Worlds.{World, input_of, source_value, tape_word, run_of, value_before, values_before, plain, mask}
use Rattle.share_world.proofs.SmallWords.{small_words}
use Rattle.share_world.proofs.Settled.{in_order, settled, product_settled}
use Rattle.wire_tables.specs.WireTables.{prepared_rows, summand_row, summand_rows, value_list, value_lists}
use Rattle.wire_tables.proofs.ValueLists.{small_plain}
use Rattle.wire_tables.specs.Steps.{IsRow, last_row}
use Rattle.share_world.proofs.LocalWords.{own_alike}
use Rattle.wire_tables.proofs.TableRows.{rows_named, wire_last, mask_last, wire_whole, mask_whole, product_whole}
use Rattle.tape_map.specs.TapeMaps.{hidden, hidden_word, growth, with_inputs, delta, raised, moved_words, piece_map, tape_of}
use Rattle.tape_map.specs.Changes.{mask_growths, row_growths, grown_rows, IsTable, AreNumbers, AreWireNumbers, ReadsWhole, AreNamedRows, Fits, product_growth, growth_in, growth_by, grown_words, grown_piece}
use Rattle.tape_map.specs.declared.change.Change.{Change}
use Rattle.tape_map.proofs.RaisedDeals.{raised_eq}

-- ---- numbers of lists

listed_below : (n q : ℕ) (f : ℕ → ℕ) → 0 < q → ((i : ℕ) → f i < q) → (v : ℕ) → slice_index (listed n f) v < q
listed_below n q f some h v = elim (cases_lt v n) [
  | inl l ↦ subst (λ z. z < q) (sym (listed_at n f v 0 l)) (h v)
  | inr past ↦ subst (λ z. z < q) (sym (get_or-eq_default (listed n f) 0 (omega (arith, length-listed n f)))) some
]

-- a number that grows by 0 stays
raised_by_none : (q g : ℕ) (x : ℕ → ℕ) (i : ℕ) → x i < q → raised q g 0 x i ≡ x i
raised_by_none q g x i l =
    let stays : (x i + 0) % q ≡ x i = (let none : x i + 0 ≡ x i = omega arith in ap (λ z. z % q) none ∙ mod-eq_of_lt l) in
    elim (cases_Bool (nat_eq i g)) [
      | inl e ↦ cond-true (nat_eq i g) _ _ e ∙ stays
      | inr e ↦ cond-false (nat_eq i g) _ _ e
    ]

-- ---- by how much rows grow

module _ (x : Session) (more : List ℕ) (long : length more ≡ x.wires) where
  abbrev of_masks : List ℕ
  of_masks = joined (length x.gates) (mask_growths x more)

  abbrev behind : List ℕ
  behind = only_if x.prepared of_masks

  threes : (t : ℕ) → total t (λ u. length (mask_growths x more u)) ≡ 3 * t
  threes zero = omega arith
  threes (suc t) = (let before = threes t in omega (arith, before))

  -- a wire's row as the wire
  pub wire_grows : (v : ℕ) → v < x.wires → slice_index (row_growths x more) v ≡ slice_index more v
  wire_grows v l = get_or-append more behind 0 v (omega (arith, long, l))

  -- a mask's as the wire that it masks
  behind_grows : (t r : ℕ) → t < length x.gates → x.prepared ≡ true → r < 3 → slice_index (row_growths x more) (x.wires + (3 * t + r)) ≡ slice_index (mask_growths x more t) r
  behind_grows t r l e lr =
      ap (λ n. slice_index (row_growths x more) (n + (3 * t + r))) (sym long)
      ∙ get_or-append-add more behind (3 * t + r) 0
      ∙ ap (λ xs. slice_index xs (3 * t + r)) (cond-true x.prepared of_masks [] e)
      ∙ ap (λ n. slice_index of_masks (n + r)) (sym (threes t))
      ∙ joined_at (length x.gates) t (mask_growths x more) r l lr

  pub mask_grows : (t : ℕ) (side : Side) → t < length x.gates → x.prepared ≡ true → slice_index (row_growths x more) (mask_wire x t side) ≡ slice_index more (operand (gate x t) side)
  mask_grows t First l e = ap (slice_index (row_growths x more)) (omega arith) ∙ behind_grows t 0 l e (omega arith)
  mask_grows t Second l e = ap (slice_index (row_growths x more)) (omega arith) ∙ behind_grows t 1 l e (omega arith)

  names_long : length (row_growths x more) ≡ row_names x
  names_long = elim (cases_Bool x.prepared) [
    | inl e ↦
        let all = ap length (cond-true x.prepared of_masks [] e) ∙ length-joined (length x.gates) (mask_growths x more) ∙ threes (length x.gates) in
        omega (arith, length-append more behind, long, all, cond-true x.prepared (x.wires + 3 * length x.gates) x.wires e)
    | inr e ↦
        let none = ap length (cond-false x.prepared of_masks [] e) in
        omega (arith, length-append more behind, long, none, direct_names x e)
  ]

-- numbers of the ring
pub row_numbers : (plan : Plan) (x : Session) (more : List ℕ) → AreNumbers plan x.wires more → AreNumbers plan (row_names x) (row_growths x more)
row_numbers plan x more fit = record { long = names_long x more fit.long; below = below }
  where
    small_behind : AllByRecursion (λ d. d < 2 ^ plan.bits) (behind x more fit.long)
    small_behind = every_only_if (λ d. d < 2 ^ plan.bits) x.prepared _ (λ e. every_joined (λ d. d < 2 ^ plan.bits) (length x.gates) (mask_growths x more)
        (λ t l. (fit.below (gate x t).first, (fit.below (gate x t).second, (pow_pos plan.bits, tt)))))

    below : (i : ℕ) → slice_index (row_growths x more) i < 2 ^ plan.bits
    below i = elim (cases_lt i (length more)) [
      | inl l ↦ subst (λ d. d < 2 ^ plan.bits) (sym (get_or-append more (behind x more fit.long) 0 i l)) (fit.below i)
      | inr past ↦
          subst (λ d. d < 2 ^ plan.bits) (sym (get_or-append_right more (behind x more fit.long) i 0 past))
          (every_at (λ d. d < 2 ^ plan.bits) (behind x more fit.long) (i - length more) (pow_pos plan.bits) small_behind)
    ]

-- ---- the moved rows

module _ (plan : Plan) (c : Change) (fits : Fits plan c) where
  abbrev of_plan : Session
  of_plan = session plan c.session

  pub moved_count : length c.moved.items ≡ row_names of_plan
  moved_count =
      sym (length-map c.moved.items (λ (row : Vec ℕ). row.items))
      ∙ ap length fits.moved ∙ length-listed (row_names of_plan) _

  pub moved_wide : (name : ℕ) → name < row_names of_plan → length (slice_index_or (session_words c.moved.items) name []) ≡ length (slice_index_or c.rows name [])
  moved_wide name l =
      ap (λ rows. length (slice_index_or rows name [])) fits.moved
      ∙ ap length (listed_at (row_names of_plan) _ name [] l) ∙ length-listed (length (slice_index_or c.rows name [])) _

-- the words that are pushed are those of the definition
pub pushed_like : (tape : List ℕ) (n n' q q' g g' d d' a a' : ℕ) → n ≡ n' → q ≡ q' → g ≡ g' → d ≡ d' → a ≡ a'
    → listed n (raised q g d (λ i. slice_index tape (a + i))) ≡ listed n' (raised q' g' d' (λ i. slice_index tape (a' + i)))
pushed_like tape n n' q q' g g' d d' a a' en eq eg ed ea =
    ap₂ (λ n q. listed n (raised q g d (λ i. slice_index tape (a + i)))) en eq
    ∙ ap₂ (λ g d. listed n' (raised q' g d (λ i. slice_index tape (a + i)))) eg ed
    ∙ ap (λ a. listed n' (raised q' g' d' (λ i. slice_index tape (a + i)))) ea

-- ---- the tables of a world

-- by how much each wire of session s grows, after all gates
abbrev pub growths : World → List (List (List ℕ)) → ℕ → List ℕ
growths w other s = listed (session w.plan s).wires (delta w other s (length (session w.plan s).gates))

-- the tables are those of session s of a world and of other inputs
abbrev pub IsChange : World → List (List (List ℕ)) → ℕ → ℕ → Change → Type 0
IsChange w other group s c = IsTable w.plan s (hidden w.plan group) (row_growths (session w.plan s) (growths w other s)) (summand_rows w s) c

-- the source of a wire that party p gives
pub given_is : (p : ℕ) (from : Source) → given_by p from ≡ true → from ≡ Given p
given_is p (Given q) e = ap (λ (n : ℕ). Given n) (eqb-true q p e)
given_is p (Earlier r c i) e = absurd (both_ways false refl e)

-- numbers of the ring, one for each wire
pub listed_fit : (plan : Plan) (n : ℕ) (f : ℕ → ℕ) → ((v : ℕ) → f v < 2 ^ plan.bits) → AreNumbers plan n (listed n f)
listed_fit plan n f h = record { long = length-listed n f; below = listed_below n (2 ^ plan.bits) f (pow_pos plan.bits) h }

pub differences_fit : (plan : Plan) (n : ℕ) (first second : ℕ → ℕ) → AreNumbers plan n (listed n (λ v. difference (2 ^ plan.bits) (second v) (first v)))
differences_fit plan n first second = listed_fit plan n _ (λ v. mod-lt _ (pow_pos plan.bits))

values_fit : (w : World) (s : ℕ) (list : List ℕ) → IsSound w.plan → AreInputs w.plan w.inputs → list ≡ value_list w s → AreNumbers w.plan (session w.plan s).wires list
values_fit w s list sound inputs is = subst (AreNumbers w.plan (session w.plan s).wires) (sym is) (listed_fit w.plan (session w.plan s).wires (plain w s) (small_plain w sound inputs s))

-- so of all sessions
pub lists_fit : (w : World) (lists : List (List ℕ)) → IsSound w.plan → AreInputs w.plan w.inputs → lists ≡ value_lists w → AreWireNumbers w.plan lists
lists_fit w lists sound inputs are = record {
  sessions = ap length are ∙ length-listed count (value_list w);
  numbers = λ s ls. values_fit w s (slice_index_or lists s []) sound inputs (ap (λ xs. slice_index_or xs s []) are ∙ listed_at count (value_list w) s [] ls);
}
  where
    count : ℕ
    count = length w.plan.sessions

-- the wires grow from their values to those with the other inputs
all_grown : (w : World) (other : List (List (List ℕ))) (s : ℕ) (first second : List ℕ) → first ≡ value_list w s → second ≡ value_list (with_inputs w other) s
    → listed (session w.plan s).wires (λ v. difference (2 ^ w.plan.bits) (slice_index second v) (slice_index first v)) ≡ growths w other s
all_grown w other s first second ef es =
    let wires = (session w.plan s).wires in
    listed_eq wires _ (delta w other s (length (session w.plan s).gates)) (λ v l. ap₂ (difference (2 ^ w.plan.bits))
    (ap (λ xs. slice_index xs v) es ∙ listed_at wires (plain (with_inputs w other) s) v 0 l)
    (ap (λ xs. slice_index xs v) ef ∙ listed_at wires (plain w s) v 0 l))

-- what holds of each row, and where there is none, holds of the row of a name
at_name : (P : List ℕ → Type 0) (rows : List (List ℕ)) (name : ℕ) → P [] → AllByRecursion P rows → P (slice_index_or rows name [])
at_name P [] name none each = none
at_name P (row ∷ rows) zero none each = each.0
at_name P (row ∷ rows) (suc name) none each = at_name P rows name none each.1

module _ (w : World) (s : ℕ) (whole : IsWhole w) (ls : s < length w.plan.sessions) where
  abbrev here : Session
  here = session w.plan s

  -- whole, if it has words
  abbrev IsWholeIfAny : List ℕ → Type 0
  IsWholeIfAny row = 0 < length row → IsRow w.plan row

  none_whole : IsWholeIfAny []
  none_whole some = absurd (omega (arith, some))

  all_whole : AllByRecursion IsWholeIfAny (summand_rows w s)
  all_whole =
      every_append IsWholeIfAny (listed here.wires (summand_row w s)) _ (every_listed IsWholeIfAny here.wires (summand_row w s) (λ v some. wire_whole w whole s v))
      (every_only_if IsWholeIfAny here.prepared _ (λ e. every_joined IsWholeIfAny (length here.gates) (prepared_rows w s) (λ t l.
      cond_both (is_prepared here t) _ _ (AllByRecursion IsWholeIfAny)
      (λ e. ((λ some. mask_whole w whole s t First), ((λ some. mask_whole w whole s t Second), ((λ some. product_whole w whole s t), tt))))
      (λ e. (none_whole, (none_whole, (none_whole, tt)))))))

  wire_is_row : (v : ℕ) → v < here.wires → IsRow w.plan (last_row w s v)
  wire_is_row v l = subst (IsRow w.plan) (sym (wire_last w s v l)) (wire_whole w whole s v)

  mask_is_row : (t : ℕ) (side : Side) → t < length here.gates → is_prepared here t ≡ true → IsRow w.plan (last_row w s (mask_wire here t side))
  mask_is_row t side l e = subst (IsRow w.plan) (sym (mask_last w s t side l e)) (mask_whole w whole s t side)

  read_whole : (kind : Slot) → Inside here kind → ReadsWhole w.plan (summand_rows w s) (content here kind)
  read_whole (At_gate t) l = (
    wire_is_row (gate here t).first ((whole.sound.sessions s ls).wired.first t l),
    wire_is_row (gate here t).second ((whole.sound.sessions s ls).wired.second t l),
  )
  read_whole (Mask_product t) l = (mask_is_row t First l.0 l.1, mask_is_row t Second l.0 l.1)
  read_whole (Input v) l = tt
  read_whole (Output o) l = tt
  read_whole (Mask t side) l = tt
  read_whole (Masked t side) l = tt
  read_whole (Kept j) l = tt

  pub rows_fit : AreNamedRows w.plan s (summand_rows w s)
  rows_fit = record { names = rows_named w s; whole = λ name. at_name IsWholeIfAny (summand_rows w s) name none_whole all_whole; read = read_whole }

-- the tables that were made fit
pub table_fits : (w : World) (s g : ℕ) (more : List ℕ) (c : Change) → IsWhole w → s < length w.plan.sessions → AreNumbers w.plan (session w.plan s).wires more
    → IsTable w.plan s g (row_growths (session w.plan s) more) (summand_rows w s) c → Fits w.plan c
table_fits w s g more c whole ls fit h = record {
  there = subst (λ k. k < length w.plan.sessions) (sym h.at) ls;
  growths = subst (λ k. AreNumbers w.plan (row_names (session w.plan k)) c.growths.items) (sym h.at)
      (subst (AreNumbers w.plan (row_names (session w.plan s))) (sym h.growths) (row_numbers w.plan (session w.plan s) more fit));
  rows = subst (λ k. AreNamedRows w.plan k c.rows) (sym h.at) (subst (AreNamedRows w.plan s) (sym h.rows) (rows_fit w s whole ls));
  moved = h.moved ∙ ap₂ (grown_rows w.plan s g) (sym h.growths) (sym h.rows)
      ∙ ap₂ (λ k n. grown_rows w.plan k n c.growths.items c.rows) (sym h.at) (sym h.hidden_summand);
}

-- and hide the other inputs, where the wires grow with these, and the summand is the group's
pub hides : (w : World) (other : List (List (List ℕ))) (group s g : ℕ) (more first second : List ℕ) (c : Change) → g ≡ hidden w.plan group
    → more ≡ listed (session w.plan s).wires (λ v. difference (2 ^ w.plan.bits) (slice_index second v) (slice_index first v))
    → first ≡ value_list w s → second ≡ value_list (with_inputs w other) s → IsTable w.plan s g (row_growths (session w.plan s) more) (summand_rows w s) c → IsChange w other group s c
hides w other group s g more first second c hidden_is grown ef es h =
    subst (λ xs. IsTable w.plan s (hidden w.plan group) (row_growths (session w.plan s) xs) (summand_rows w s) c) (grown ∙ all_grown w other s first second ef es)
    (subst (λ k. IsTable w.plan s k (row_growths (session w.plan s) more) (summand_rows w s) c) hidden_is h)

module _ (w : World) (other : List (List (List ℕ))) (group : ℕ) (whole : IsWhole w) (c : Change)
    (ls : c.session < length w.plan.sessions) (h : IsChange w other group c.session c) where
  abbrev q : ℕ
  q = 2 ^ w.plan.bits

  abbrev m : ℕ
  m = length w.plan.groups

  abbrev s : ℕ
  s = c.session

  abbrev x : Session
  x = session w.plan s

  abbrev after : World
  after = with_inputs w other

  abbrev count : ℕ
  count = length x.gates

  abbrev g : ℕ
  g = hidden w.plan group

  ordered : GatesInOrder x
  ordered = in_order x (whole.sound.sessions s ls).wired

  -- by how much the wires grow after all gates
  abbrev more : List ℕ
  more = growths w other s

  many : length more ≡ x.wires
  many = length-listed x.wires (delta w other s count)

  -- ---- what is dealt

  -- an input wire that a party gives has at the end what is given on it
  input_at_end : (u : World) (v p : ℕ) → GatesInOrder (session u.plan s) → v < length (owners (session u.plan s)) → source (session u.plan s) v ≡ Given p → plain u s v ≡ input_of u s v
  input_at_end u v p o l from =
      settled (session u.plan s) o (value_before u s) (λ t v ne. set_there (value_before u s t) (gate (session u.plan s) t).output v _ ne) 0 v (omega arith) (inl l)
      ∙ cond-true (nat_lt v (length (owners (session u.plan s)))) _ 0 (lt-ltb v (length (owners (session u.plan s))) l)
      ∙ ap (source_value u (values_before u s) s v) from

  growth_at : (v : ℕ) → v < x.wires → slice_index more v ≡ delta w other s count v
  growth_at v l = listed_at x.wires (delta w other s count) v 0 l

  -- a wire that a product reads grows from then on as it did before
  abbrev Ends : ℕ → Side → Type 0
  Ends t side =
      (value_before w s count (operand (gate x t) side) ≡ value_before w s t (operand (gate x t) side))
      × (value_before after s count (operand (gate x t) side) ≡ value_before after s t (operand (gate x t) side))
      × (summands (run_of w s) count (operand (gate x t) side) ≡ summands (run_of w s) t (operand (gate x t) side))

  ends : (t : ℕ) (side : Side) → t < count → is_product (gate x t).operation ≡ true → Ends t side
  ends t side l product =
      let first = product_settled x ordered (value_before w s) (λ t v ne. set_there (value_before w s t) (gate x t).output v _ ne) t l product in
      let second = product_settled x ordered (value_before after s) (λ t v ne. set_there (value_before after s t) (gate x t).output v _ ne) t l product in
      let rows = product_settled x ordered (summands (run_of w s)) (λ t v ne. set_there (summands (run_of w s) t) (gate x t).output v _ ne) t l product in
      of_side side first second rows
    where
      of_side : (side : Side)
          → (value_before w s count (gate x t).first ≡ value_before w s t (gate x t).first) × (value_before w s count (gate x t).second ≡ value_before w s t (gate x t).second)
          → (value_before after s count (gate x t).first ≡ value_before after s t (gate x t).first) × (value_before after s count (gate x t).second ≡ value_before after s t (gate x t).second)
          → (summands (run_of w s) count (gate x t).first ≡ summands (run_of w s) t (gate x t).first) × (summands (run_of w s) count (gate x t).second ≡ summands (run_of w s) t (gate x t).second)
          → Ends t side
      of_side First a b c = (a.0, b.0, c.0)
      of_side Second a b c = (a.1, b.1, c.1)

  operand_within : (t : ℕ) (side : Side) → t < count → operand (gate x t) side < x.wires
  operand_within t First l = (whole.sound.sessions s ls).wired.first t l
  operand_within t Second l = (whole.sound.sessions s ls).wired.second t l

  growth_before : (t : ℕ) (side : Side) → t < count → is_product (gate x t).operation ≡ true
      → slice_index more (operand (gate x t) side) ≡ delta w other s t (operand (gate x t) side)
  growth_before t side l product =
      let e = ends t side l product in
      growth_at (operand (gate x t) side) (operand_within t side l) ∙ ap₂ (difference q) e.1 e.0

  -- the row of this name has these summands, and grows by d
  record IsMoved (name : ℕ) (f : ℕ → ℕ) (d : ℕ) : Type 0 where
    pub growth : slice_index c.growths.items name ≡ d
    pub before : (i : ℕ) → i < m → slice_index (slice_index_or c.rows name []) i ≡ f i
    pub after : (i : ℕ) → i < m → slice_index (slice_index_or (session_words c.moved.items) name []) i ≡ raised q g d f i

  is_moved : (name : ℕ) (f : ℕ → ℕ) (d : ℕ) → name < row_names x → slice_index (row_growths x more) name ≡ d → last_row w s name ≡ listed m f → IsMoved name f d
  is_moved name f d l grown row_is = record {
    growth = ap (λ ds. slice_index ds name) h.growths ∙ grown;
    before = λ i li. ap (λ rows. slice_index (slice_index_or rows name []) i) h.rows ∙ summand_at i li;
    after = λ i li.
        ap (λ rows. slice_index (slice_index_or rows name []) i) h.moved
        ∙ ap (λ xs. slice_index xs i) (listed_at (row_names x) _ name [] l)
        ∙ listed_at (length (last_row w s name)) _ i 0 (omega (arith, li, ap length row_is, length-listed m f))
        ∙ raised_eq q g (slice_index (row_growths x more) name) d (slice_index (last_row w s name)) f i grown (summand_at i li);
  }
    where
      summand_at : (i : ℕ) → i < m → slice_index (last_row w s name) i ≡ f i
      summand_at i li = ap (λ xs. slice_index xs i) row_is ∙ listed_at m f i 0 li

  -- so the row of a wire that a product reads, and of its mask
  wire_moved : (t : ℕ) (side : Side) → t < count → is_product (gate x t).operation ≡ true
      → IsMoved (operand (gate x t) side) (summands (run_of w s) t (operand (gate x t) side)) (delta w other s t (operand (gate x t) side))
  wire_moved t side l product =
      let v = operand (gate x t) side in
      let within = operand_within t side l in
      is_moved v (summands (run_of w s) t v) (delta w other s t v) (omega (arith, within, wires_named x))
      (wire_grows x more many v within ∙ growth_before t side l product)
      (wire_last w s v within ∙ ap (listed m) (ends t side l product).2)

  mask_moved : (t : ℕ) (side : Side) → t < count → is_prepared x t ≡ true → IsMoved (mask_wire x t side) (mask w s t side) (delta w other s t (operand (gate x t) side))
  mask_moved t side l e =
      let both = and_parts x.prepared (is_product (gate x t).operation) e in
      is_moved (mask_wire x t side) (mask w s t side) (delta w other s t (operand (gate x t) side)) (mask_within x t side l e)
      (mask_grows x more many t side l both.0 ∙ growth_before t side l both.1) (mask_last w s t side l e)

  -- and so p's part of the product of two rows grows
  product_moved : (p a b : ℕ) (f f' : ℕ → ℕ) (d d' : ℕ) → IsMoved a f d → IsMoved b f' d'
      → product_growth w.plan p (slice_index_or c.rows a []) (slice_index_or c.rows b []) (slice_index_or (session_words c.moved.items) a []) (slice_index_or (session_words c.moved.items) b [])
      ≡ difference q (own_product (scheme w.plan) p (raised q g d f) (raised q g d' f')) (own_product (scheme w.plan) p f f')
  product_moved p a b f f' d d' first second =
      ap₂ (difference q) (own_alike w.plan p _ _ _ _ first.after second.after) (own_alike w.plan p _ _ _ _ first.before second.before)

  -- the hidden word of a slot in which p draws words grows as it is to
  growth_is : (p : ℕ) (z : Slot) → Inside x z → 0 < words_in w.plan s p z → growth_in w.plan c p (content x z) ≡ growth w other group s p z
  growth_is p (Input v) inside some =
      let within : v < x.wires = omega (arith, inside, (whole.sound.sessions s ls).wired.input_wires) in
      let from = given_is p (source x v) (gives_here p v some) in
      ap (λ ds. slice_index ds v) h.growths ∙ wire_grows x more many v within ∙ growth_at v within ∙ ap₂ (difference q) (input_at_end after v p ordered inside from) (input_at_end w v p ordered inside from)
    where
      gives_here : (p v : ℕ) → 0 < words_in w.plan s p (Input v) → given_by p (source x v) ≡ true
      gives_here p v some = elim (cases_Bool (deals_in w.plan s p (Input v))) [
        | inl gives ↦ gives
        | inr none ↦ absurd (let no_words = cond-false (deals_in w.plan s p (Input v)) (m - 1) 0 none in omega (arith, some, no_words))
      ]
  growth_is p (Mask t side) inside some = (mask_moved t side inside.0 inside.1).growth
  growth_is p (At_gate t) inside some =
      let product = direct_product p t some in
      product_moved p _ _ _ _ _ _ (wire_moved t First inside product) (wire_moved t Second inside product)
    where
      direct_product : (p t : ℕ) → 0 < words_in w.plan s p (At_gate t) → is_product (gate x t).operation ≡ true
      direct_product p t some = elim (cases_Bool (deals_in w.plan s p (At_gate t))) [
        | inl deals ↦ (and_parts _ (is_product (gate x t).operation) (and_parts (is_direct x t) _ deals).0).1
        | inr none ↦ absurd (let no_words = cond-false (deals_in w.plan s p (At_gate t)) (m - 1) 0 none in omega (arith, some, no_words))
      ]
  growth_is p (Mask_product t) inside some =
      product_moved p _ _ _ _ _ _ (mask_moved t First inside.0 inside.1) (mask_moved t Second inside.0 inside.1)
  growth_is p (Output o) inside some = absurd (omega (arith, some))
  growth_is p (Masked t side) inside some = absurd (omega (arith, some))
  growth_is p (Kept j) inside some = absurd (omega (arith, some))

  -- ---- words

  word_grown : (p k i : ℕ) → k < slots w.plan s → i < words_in w.plan s p (slot w.plan s k)
      → raised q (hidden_word w.plan group p (slot w.plan s k)) (growth_by w.plan group c p (slot w.plan s k)) (tape_word w s (slot w.plan s k) p) i
      ≡ moved_words w other group s (slot w.plan s k) p i
  word_grown p k i lk li =
      let z = slot w.plan s k in
      let n = hidden_word w.plan group p z in
      let old = tape_word w s z p in
      elim (cases_Bool (has_party group p)) [
        | inl member ↦
            ap (λ d. raised q n d old i) (cond-true (has_party group p) 0 _ member)
            ∙ raised_by_none q n old i (small_words w whole s p z i)
            ∙ sym (ap (λ (f : ℕ → ℕ). f i) (cond-true (has_party group p) old _ member))
        | inr outside ↦
            ap (λ d. raised q n d old i) (cond-false (has_party group p) 0 _ outside
            ∙ growth_is p z ((slots_are_numbered x).inside k lk) (omega (arith, li)))
            ∙ sym (ap (λ (f : ℕ → ℕ). f i) (cond-false (has_party group p) old _ outside))
      ]

  slot_grown : (p k : ℕ) → k < slots w.plan s
      → grown_words w.plan group c (tape_of w p) p k ≡ listed (words_in w.plan s p (slot w.plan s k)) (moved_words w other group s (slot w.plan s k) p)
  slot_grown p k lk =
      let z = slot w.plan s k in
      listed_eq (words_in w.plan s p z) _ (moved_words w other group s z p) (λ i li.
      ap (λ n. raised q (hidden_word w.plan group p z) (growth_by w.plan group c p z) (λ i. slice_index (tape_of w p) (place w.plan p s n + i)) i)
      (sym (at_its_number w.plan s k lk)) ∙ word_grown p k i lk li)

  pub own_piece : (p : ℕ) → grown_piece w.plan group c (tape_of w p) p ≡ piece_map w other group p s
  own_piece p = joined_eq (slots w.plan s) _ _ (λ k lk. slot_grown p k lk)

-- ---- so of session s

module _ (w : World) (other : List (List (List ℕ))) (group s : ℕ) (whole : IsWhole w) (ls : s < length w.plan.sessions)
    (c : Change) (h : IsChange w other group s c) where
  there : c.session < length w.plan.sessions
  there = subst (λ k. k < length w.plan.sessions) (sym h.at) ls

  of_session : IsChange w other group c.session c
  of_session = subst (λ k. IsChange w other group k c) (sym h.at) h

  -- the piece of a session
  pub piece_grown : (p : ℕ) → grown_piece w.plan group c (tape_of w p) p ≡ piece_map w other group p s
  piece_grown p = own_piece w other group whole c there of_session p ∙ ap (piece_map w other group p) h.at

-- ---- lists of small words, and of rows

pub small_all : (q : ℕ) (xs : List ℕ) → ((i : ℕ) → slice_index xs i < q) → All (λ word. word < q) xs
small_all q xs h k d l = subst (λ z. z < q) (sym (get_or_default xs k d 0 l)) (h k)

-- ---- lengths

pub grown_long : (plan : Plan) (group : ℕ) (c : Change) (tape : List ℕ) (p k : ℕ)
    → length (joined k (grown_words plan group c tape p)) ≡ total k (λ j. words_in plan c.session p (slot plan c.session j))
grown_long plan group c tape p k = length-joined k (grown_words plan group c tape p) ∙ total_eq k _ _ (λ j lj. length-listed (words_in plan c.session p (slot plan c.session j)) _)

-- a tape with the pieces of the sessions before goes on to the next session's place
pub next_place : (plan : Plan) (group : ℕ) (c : Change) (front tape : List ℕ) (p s : ℕ) → c.session ≡ s → length front ≡ place plan p s 0
    → length (front ++ grown_piece plan group c tape p) ≡ place plan p (s + 1) 0
next_place plan group c front tape p s at before =
    let piece = grown_long plan group c tape p (slots plan c.session) ∙ ap (words plan p) at in
    let more = total_more s (words plan p) in
    omega (arith, length-append front (grown_piece plan group c tape p), before, piece, more)
