-- The row that a slot sets, as it is made of the rows before it.
use Rattle.std.proofs.Common.{◌≡◌, ℕ, ◌%◌, ◌^◌, ◌<◌, Bool, true, false, not, ◌||◌, nat_eq, if◌then◌else◌, List, [], ◌∷◌, length, replicate, refl, sym, ap, ap₂, ◌∙◌, subst, arith}
use Rattle.std.specs.Prelude.{slice_index, slice_index_or}
use Rattle.std.specs.Global.{Vec}
use Rattle.std.specs.List.{list_any}
use Rattle.std.proofs.lemmas.Bool.{cases_Bool, cond-true, cond-false, cond_both, and_from, not_from_false, eq-eqb, lt-ltb}
use Rattle.std.proofs.lemmas.List.{get_or-replicate, length-replicate}
use mathlib.Core.Logic.{inl, inr}
use Rattle.list_laws.specs.Lists.{listed, some_below}
use Rattle.list_laws.proofs.Tests.{or_true}
use Rattle.list_laws.proofs.Totals.{total_eq}
use Rattle.list_laws.proofs.JoinedLists.{listed_at, listed_eq}
use Rattle.mpc_ring.specs.Differences.{difference}
use Rattle.circuit_model.specs.declared.gate.Gate.{Gate}
use Rattle.circuit_model.specs.Circuits.{is_product}
use Rattle.circuit_model.specs.Netlists.{read_by}
use Rattle.secret_sharing.specs.Schemes.{has_pair, local, product_summand}
use Rattle.secret_sharing.specs.Prepared.{masked, sum_of, prepared_summand}
use Rattle.session_slots.specs.declared.side.Side.{Side}
use Rattle.session_slots.specs.declared.side.Side.TheVariants.{First, Second}
use Rattle.session_slots.specs.declared.source.Source.TheVariants.{Given, Earlier}
use Rattle.session_slots.specs.Sessions.{Session, owners, source, gate, is_prepared, is_direct, operand, mask_wire, product_in, product_wire, row_names}
use Rattle.session_slots.specs.Sessions.Slot.{Input, At_gate, Mask, Mask_product, Masked}
use Rattle.session_slots.specs.SoundSessions.{IsWired}
use Rattle.session_slots.specs.SlotNumbers.{session_slot_number}
use Rattle.session_slots.specs.KeptWires.{reads_in, sets_in, slot_sets}
use Rattle.session_slots.proofs.RowNames.{wires_named, mask_within, product_named}
use Rattle.plan_model.specs.Plans.{deals_in, scheme, session, slot, slots}
use Rattle.plan_model.specs.InputWords.{session_words}
use Rattle.share_world.specs.Laws.{IsWhole}
use Rattle.share_world.specs.Solutions.{SummandsSolve, reads_first, reads_second}
use Rattle.share_world.specs.Worlds.{World, carried_wire, end_summands, input_of, mask, deal_of}
use Rattle.share_world.proofs.LocalWords.{joined_same}
use Rattle.share_world.proofs.Settled.{plan_in_order, is_first, is_second, first_read, second_read, product_reads}
use Rattle.share_world.proofs.SlotOrder.{masked_first}
use Rattle.share_world.proofs.SmallWords.{positive}
use Rattle.share_world.proofs.Solutions.{is_solution, local_reads}
use Rattle.wire_tables.specs.Places.{ArePlaces, dealt_at, mask_at}
use Rattle.wire_tables.specs.declared.summands.BeforeSlot.{BeforeSlot}
use Rattle.wire_tables.specs.Steps.{AreRows, IsBeforeSlot, IsRow, SetsRow, last_row, row_before}
use Rattle.wire_tables.specs.WireTables.{summand_row, mask_row, product_row}
use Rattle.wire_tables.proofs.RowSteps.{read_whole}
use Rattle.wire_tables.proofs.SlotWords.{number_here, inside_here, dealt_here, product_here, drawn_here}
use Rattle.wire_tables.proofs.TableRows.{wire_last, mask_last, product_last, wire_whole, mask_whole, product_whole, row_whole}

-- one of three names
among : (a b c : ℕ) → (list_any (nat_eq a) (a ∷ b ∷ c ∷ []) ≡ true) × (list_any (nat_eq b) (a ∷ b ∷ c ∷ []) ≡ true) × (list_any (nat_eq c) (a ∷ b ∷ c ∷ []) ≡ true)
among a b c = (
  ap (λ y. y || list_any (nat_eq a) (b ∷ c ∷ [])) (eq-eqb a a refl),
  ap (λ y. nat_eq b a || y) (is_first b c) ∙ or_true (nat_eq b a),
  ap (λ y. nat_eq c a || y) (is_second b c) ∙ or_true (nat_eq c a),
)

module _ (w : World) (whole : IsWhole w) (s k : ℕ) (ls : s < length w.plan.sessions) (lk : k < slots w.plan s) where
  abbrev x : Session
  x = session w.plan s

  abbrev m : ℕ
  m = length w.plan.groups

  abbrev ends : ℕ → ℕ → ℕ
  ends = end_summands w s

  pub wired : IsWired x
  wired = (whole.sound.sessions s ls).wired

  solved : SummandsSolve w s (end_summands w) (deal_of w)
  solved = is_solution w (plan_in_order w.plan whole.sound) s ls

  -- the row of a wire
  of_wire : (v : ℕ) (row : List ℕ) (f : ℕ → ℕ) → v < x.wires → row ≡ listed m f → ((i : ℕ) → i < m → f i ≡ ends v i) → row ≡ last_row w s v
  of_wire v row f lv is each = is ∙ listed_eq m f (ends v) each ∙ sym (wire_last w s v lv)

  -- ---- inputs and masks

  input_named : (v : ℕ) → slot w.plan s k ≡ Input v → (v < length (owners x)) × (v < x.wires)
  input_named v z = let lv = inside_here w s k lk (Input v) z in (lv, omega (arith, lv, wired.input_wires))

  -- what is carried of an earlier session
  pub carried_made : (v r c at : ℕ) (row : List ℕ) → slot w.plan s k ≡ Input v → source x v ≡ Earlier r c at → row ≡ summand_row w r (carried_wire w.plan r c at) → SetsRow w s k v row
  carried_made v r c at row z from is = let l = input_named v z in record {
    sets = ap (sets_in x) z;
    named = omega (arith, l.1, wires_named x);
    are = of_wire v row (end_summands w r (carried_wire w.plan r c at)) l.1 is (λ i li. sym (solved.carried v r c at i from));
  }

  module _ (places : List ℕ) (h : ArePlaces w.plan s k places) where
    pub given_made : (v p value : ℕ) (row : List ℕ) → slot w.plan s k ≡ Input v → source x v ≡ Given p → value ≡ input_of w s v
        → row ≡ listed m (dealt_at w places p value) → SetsRow w s k v row
    given_made v p value row z from given is = let l = input_named v z in record {
      sets = ap (sets_in x) z;
      named = omega (arith, l.1, wires_named x);
      are = of_wire v row (dealt_at w places p value) l.1 is (λ i li.
          ap (λ u. dealt_at w places p u i) given
          ∙ dealt_here w s k lk (Input v) z places h p (input_of w s v) i ((whole.sound.sessions s ls).owned v p l.0 from)
          ∙ sym (solved.given v p i l.0 from ∙ solved.input_deals v p i l.0 from));
    }

    pub mask_made : (t : ℕ) (side : Side) (row : List ℕ) → slot w.plan s k ≡ Mask t side → row ≡ listed m (mask_at w places) → SetsRow w s k (mask_wire x t side) row
    mask_made t side row z is =
        let inside = inside_here w s k lk (Mask t side) z in record {
          sets = ap (sets_in x) z;
          named = mask_within x t side inside.0 inside.1;
          are = is ∙ listed_eq m _ _ (λ i li. drawn_here w whole s k lk t side z places h i li) ∙ sym (mask_last w s t side inside.0 inside.1);
        }

    pub product_made : (t : ℕ) (a b row : List ℕ) → slot w.plan s k ≡ Mask_product t → a ≡ mask_row w s t First → b ≡ mask_row w s t Second
        → row ≡ listed m (product_summand (scheme w.plan) (dealt_at w places) (slice_index a) (slice_index b)) → SetsRow w s k (product_wire x t) row
    product_made t a b row z ha hb is =
        let inside = inside_here w s k lk (Mask_product t) z in record {
          sets = ap (sets_in x) z;
          named = product_named x t inside.0 inside.1;
          are = is
              ∙ listed_eq m _ _ (λ i li. product_here w s k lk (Mask_product t) z places h (slice_index a) (slice_index b) (mask w s t First) (mask w s t Second)
              (λ j lj. ap (λ xs. slice_index xs j) ha ∙ listed_at m (mask w s t First) j 0 lj)
              (λ j lj. ap (λ xs. slice_index xs j) hb ∙ listed_at m (mask w s t Second) j 0 lj) i)
              ∙ sym (product_last w s t inside.0 inside.1);
        }

  -- ---- rows that are read

  module _ (rows : List (Vec ℕ)) (h : AreRows w s k rows) where
    abbrev row_at : ℕ → List ℕ
    row_at v = slice_index_or (session_words rows) v []

    -- the masks of a prepared product, at the slot of their product
    pub masks_read : (t : ℕ) (side : Side) → slot w.plan s k ≡ Mask_product t → row_at (mask_wire x t side) ≡ mask_row w s t side
    masks_read t side z =
        let inside = inside_here w s k lk (Mask_product t) z in
        read_whole w s k (mask_wire x t side) (Mask_product t) rows wired h (mask_within x t side inside.0 inside.1) inside (omega (arith, number_here w s k lk (Mask_product t) z)) (one_of side)
        ∙ mask_last w s t side inside.0 inside.1
      where
        one_of : (side : Side) → list_any (nat_eq (mask_wire x t side)) (reads_in x (Mask_product t)) ≡ true
        one_of First = is_first (mask_wire x t First) (mask_wire x t Second)
        one_of Second = is_second (mask_wire x t First) (mask_wire x t Second)

    -- each wire's row is whole, or zeros
    pub wire_row : (v : ℕ) → v < x.wires → IsRow w.plan (row_at v)
    wire_row v lv =
        let at : row_at v ≡ row_before w s k v = h.are v (omega (arith, lv, wires_named x)) in
        let zeros : IsRow w.plan (replicate m 0) = record {
          long = length-replicate {A = ℕ} m 0;
          small = λ j d l. subst (λ n. n < 2 ^ w.plan.bits) (sym (get_or-replicate m j 0 d (omega (arith, l, length-replicate {A = ℕ} m 0)))) (positive w whole);
        } in
        subst (IsRow w.plan) (sym at)
        (cond_both (some_below k (λ j. slot_sets x j v)) (last_row w s v) _ (IsRow w.plan)
        (λ e. subst (IsRow w.plan) (sym (wire_last w s v lv)) (wire_whole w whole s v))
        (λ e. subst (IsRow w.plan) (sym (cond-true _ (replicate m 0) [] (lt-ltb v x.wires lv))) zeros))

    module _ (t : ℕ) (z : slot w.plan s k ≡ At_gate t) where
      pub there : t < length x.gates
      there = inside_here w s k lk (At_gate t) z

      number_is : session_slot_number x (At_gate t) ≡ k
      number_is = number_here w s k lk (At_gate t) z

      -- a wire that the gate reads
      wire_read : (side : Side) → operand (gate x t) side < x.wires → list_any (nat_eq (operand (gate x t) side)) (read_by (gate x t)) ≡ true → row_at (operand (gate x t) side) ≡ summand_row w s (operand (gate x t) side)
      wire_read side lv reads =
          let v = operand (gate x t) side in
          let named : v < row_names x = omega (arith, lv, wires_named x) in
          elim (cases_Bool (is_prepared x t)) [
            | inl yes' ↦
                read_whole w s k v (Masked t side) rows wired h named (there, yes') (omega (arith, masked_first x t side yes', number_is)) (is_first v (mask_wire x t side))
            | inr no' ↦
                read_whole w s k v (At_gate t) rows wired h named there (omega (arith, number_is)) (ap (list_any (nat_eq v)) (cond-false (is_prepared x t) _ _ no') ∙ reads)
          ] ∙ wire_last w s v lv

      pub first_wire : reads_first (gate x t).operation ≡ true → row_at (gate x t).first ≡ summand_row w s (gate x t).first
      first_wire r = wire_read First (wired.first t there) (first_read (gate x t).operation (gate x t).first (gate x t).second r)

      pub second_wire : reads_second (gate x t).operation ≡ true → row_at (gate x t).second ≡ summand_row w s (gate x t).second
      second_wire r = wire_read Second (wired.second t there) (second_read (gate x t).operation (gate x t).first (gate x t).second r)

      -- the rows that a prepared product joins
      joined_read : (v : ℕ) → is_prepared x t ≡ true → v < row_names x → list_any (nat_eq v) (mask_wire x t First ∷ mask_wire x t Second ∷ product_wire x t ∷ []) ≡ true → row_at v ≡ last_row w s v
      joined_read v yes' named one =
          read_whole w s k v (At_gate t) rows wired h named there (omega (arith, number_is)) (ap (list_any (nat_eq v)) (cond-true (is_prepared x t) _ _ yes') ∙ one)

      pub first_mask : is_prepared x t ≡ true → row_at (mask_wire x t First) ≡ mask_row w s t First
      first_mask e = joined_read (mask_wire x t First) e (mask_within x t First there e) (among (mask_wire x t First) (mask_wire x t Second) (product_wire x t)).0 ∙ mask_last w s t First there e

      pub second_mask : is_prepared x t ≡ true → row_at (mask_wire x t Second) ≡ mask_row w s t Second
      second_mask e = joined_read (mask_wire x t Second) e (mask_within x t Second there e) (among (mask_wire x t First) (mask_wire x t Second) (product_wire x t)).1 ∙ mask_last w s t Second there e

      pub their_product : is_prepared x t ≡ true → row_at (product_wire x t) ≡ product_row w s t
      their_product e = joined_read (product_wire x t) e (product_named x t there e) (among (mask_wire x t First) (mask_wire x t Second) (product_wire x t)).2 ∙ product_last w s t there e

      pub first_row : (a : List ℕ) → a ≡ row_at (gate x t).first → IsRow w.plan a
      first_row a e = row_whole w.plan a _ e (wire_row (gate x t).first (wired.first t there))

      pub second_row : (a : List ℕ) → a ≡ row_at (gate x t).second → IsRow w.plan a
      second_row a e = row_whole w.plan a _ e (wire_row (gate x t).second (wired.second t there))

      -- ---- gates

      made : (row : List ℕ) (f : ℕ → ℕ) → row ≡ listed m f → ((i : ℕ) → i < m → f i ≡ ends (gate x t).output i) → SetsRow w s k (gate x t).output row
      made row f is each = record {
        sets = ap (sets_in x) z;
        named = omega (arith, wired.output t there, wires_named x);
        are = of_wire (gate x t).output row f (wired.output t there) is each;
      }

      -- of a row that was read a summand is that at the end
      ends_of : (v : ℕ) (a : List ℕ) (i : ℕ) → i < m → a ≡ row_at v → row_at v ≡ summand_row w s v → slice_index a i ≡ ends v i
      ends_of v a i li is last = ap (λ xs. slice_index xs i) (is ∙ last) ∙ listed_at m (ends v) i 0 li

      module _ (a b row : List ℕ) (ha : a ≡ row_at (gate x t).first) (hb : b ≡ row_at (gate x t).second) where
        pub linear_made : is_product (gate x t).operation ≡ false
            → row ≡ listed m (λ i. local (2 ^ w.plan.bits) (gate x t).operation (gate x t).constant i (slice_index a i) (slice_index b i)) → SetsRow w s k (gate x t).output row
        linear_made linear is = made row _ is (λ i li.
            local_reads (2 ^ w.plan.bits) (gate x t).operation (gate x t).constant i _ _ _ _ linear
            (λ r. ends_of (gate x t).first a i li ha (first_wire r)) (λ r. ends_of (gate x t).second b i li hb (second_wire r))
            ∙ sym (solved.linear t i there linear))

        module _ (product : is_product (gate x t).operation ≡ true) where
          first_ends : (i : ℕ) → i < m → slice_index a i ≡ ends (gate x t).first i
          first_ends i li = ends_of (gate x t).first a i li ha (first_wire (product_reads (gate x t).operation product).0)

          second_ends : (i : ℕ) → i < m → slice_index b i ≡ ends (gate x t).second i
          second_ends i li = ends_of (gate x t).second b i li hb (second_wire (product_reads (gate x t).operation product).1)

          pub direct_made : x.prepared ≡ false → (places : List ℕ) → ArePlaces w.plan s k places
              → row ≡ listed m (product_summand (scheme w.plan) (dealt_at w places) (slice_index a) (slice_index b)) → SetsRow w s k (gate x t).output row
          direct_made no' places hp is =
              let direct : is_direct x t ≡ true = and_from (not x.prepared) _ (not_from_false x.prepared no') product in
              made row _ is (λ i li.
              product_here w s k lk (At_gate t) z places hp (slice_index a) (slice_index b) (ends (gate x t).first) (ends (gate x t).second) first_ends second_ends i
              ∙ ap (λ n. n % 2 ^ w.plan.bits) (total_eq w.plan.parties _ _ (λ p lp. ap (λ u. if has_pair (scheme w.plan) p then u else 0) (sym (solved.product_deals t p i there direct))))
              ∙ sym (solved.products t i there direct))

          pub joined_made : x.prepared ≡ true → (first second both : List ℕ) → first ≡ mask_row w s t First → second ≡ mask_row w s t Second → both ≡ product_row w s t
              → row ≡ listed m (prepared_summand (scheme w.plan) (slice_index first) (slice_index second) (slice_index both) (slice_index a) (slice_index b)) → SetsRow w s k (gate x t).output row
          joined_made yes' first second both hf hs hc is =
              let prepared : is_prepared x t ≡ true = and_from x.prepared _ yes' product in
              made row _ is (λ i li.
              joined_same (2 ^ w.plan.bits) i
              (excess_alike (slice_index a) (ends (gate x t).first) (slice_index first) (mask w s t First) first_ends (λ j lj. mask_at_place First first j lj hf))
              (excess_alike (slice_index b) (ends (gate x t).second) (slice_index second) (mask w s t Second) second_ends (λ j lj. mask_at_place Second second j lj hs))
              (mask_at_place First first i li hf) (mask_at_place Second second i li hs) (ap (λ xs. slice_index xs i) hc ∙ listed_at m _ i 0 li)
              ∙ sym (solved.prepared t i there prepared))
            where
              mask_at_place : (side : Side) (xs : List ℕ) (j : ℕ) → j < m → xs ≡ mask_row w s t side → slice_index xs j ≡ mask w s t side j
              mask_at_place side xs j lj e = ap (λ ys. slice_index ys j) e ∙ listed_at m (mask w s t side) j 0 lj

              excess_alike : (f f' g g' : ℕ → ℕ) → ((j : ℕ) → j < m → f j ≡ f' j) → ((j : ℕ) → j < m → g j ≡ g' j) → sum_of (scheme w.plan) (masked (scheme w.plan) f g) ≡ sum_of (scheme w.plan) (masked (scheme w.plan) f' g')
              excess_alike f f' g g' hf hg = ap (λ n. n % 2 ^ w.plan.bits) (total_eq m _ _ (λ j lj. ap₂ (difference (2 ^ w.plan.bits)) (hf j lj) (hg j lj)))

-- ---- the slot of a gate, with the rows before it as they are read by their names

-- the gate of a slot, as it was read of its session, and what is there before it
pub record AtGate (w : World) (before : BeforeSlot) (t : ℕ) (g : Gate) : Type 0 where
  pub whole : IsWhole w
  pub before_is : IsBeforeSlot w before
  pub is : slot w.plan before.session before.slot ≡ At_gate t
  pub gate_is : g ≡ gate (session w.plan before.session) t

module _ (w : World) (before : BeforeSlot) (t : ℕ) (g : Gate) where
  abbrev of_session : Session
  of_session = session w.plan before.session

  abbrev named_row : ℕ → List ℕ
  named_row name = slice_index_or (session_words before.rows.now) name []

  pub at_gate : (part : Session) → IsWhole w → IsBeforeSlot w before → slot w.plan before.session before.slot ≡ At_gate t → part ≡ of_session → g ≡ gate part t → AtGate w before t g
  at_gate part whole before_is is part_is gate_is = record {
    whole = whole;
    before_is = before_is;
    is = is;
    gate_is = gate_is ∙ ap (λ (y : Session). gate y t) part_is;
  }

  module _ (r : AtGate w before t g) where
    abbrev wires_of : IsWired of_session
    wires_of = wired w r.whole before.session before.slot r.before_is.in_session r.before_is.in_slot

    gate_there : t < length of_session.gates
    gate_there = there w r.whole before.session before.slot r.before_is.in_session r.before_is.in_slot before.rows.now r.before_is.rows t r.is

    pub gate_within : (part : Session) → part ≡ of_session → t < length part.gates
    gate_within part part_is = subst (λ (y : Session). t < length y.gates) (sym part_is) gate_there

    pub first_named : g.first < length before.rows.now
    first_named = omega (arith, ap (λ (h : Gate). h.first) r.gate_is, wires_of.first t gate_there, wires_named of_session, r.before_is.rows.names)

    pub second_named : g.second < length before.rows.now
    second_named = omega (arith, ap (λ (h : Gate). h.second) r.gate_is, wires_of.second t gate_there, wires_named of_session, r.before_is.rows.names)

    -- the rows of its wires
    module _ (a b : List ℕ) (ha : a ≡ named_row g.first) (hb : b ≡ named_row g.second) where
      first_is : a ≡ named_row (gate of_session t).first
      first_is = ha ∙ ap (λ (h : Gate). named_row h.first) r.gate_is

      second_is : b ≡ named_row (gate of_session t).second
      second_is = hb ∙ ap (λ (h : Gate). named_row h.second) r.gate_is

      pub wire_rows : IsRow w.plan a × IsRow w.plan b
      wire_rows = (
        first_row w r.whole before.session before.slot r.before_is.in_session r.before_is.in_slot before.rows.now r.before_is.rows t r.is a first_is,
        second_row w r.whole before.session before.slot r.before_is.in_session r.before_is.in_slot before.rows.now r.before_is.rows t r.is b second_is,
      )

      same_product : (b : Bool) → is_product g.operation ≡ b → is_product (gate of_session t).operation ≡ b
      same_product b e = sym (ap (λ (h : Gate). is_product h.operation) r.gate_is) ∙ e

      pub linear_set : (bits : ℕ) (row : List ℕ) → is_product g.operation ≡ false → bits ≡ w.plan.bits
          → row ≡ listed (length a) (λ i. local (2 ^ bits) g.operation g.constant i (slice_index a i) (slice_index b i)) → SetsRow w before.session before.slot (gate of_session t).output row
      linear_set bits row linear bits_are e =
          let summands : ℕ → ℕ → Gate → List ℕ = λ n q h. listed n (λ i. local (2 ^ q) h.operation h.constant i (slice_index a i) (slice_index b i)) in
          linear_made w r.whole before.session before.slot r.before_is.in_session r.before_is.in_slot before.rows.now r.before_is.rows t r.is a b row first_is second_is (same_product false linear)
          (e ∙ ap₂ (λ n q. summands n q g) wire_rows.0.long bits_are ∙ ap (summands (length w.plan.groups) w.plan.bits) r.gate_is)

      module _ (product : is_product g.operation ≡ true) where
        pub part_dealt : of_session.prepared ≡ false → (p : ℕ) → has_pair (scheme w.plan) p ≡ true → deals_in w.plan before.session p (slot w.plan before.session before.slot) ≡ true
        part_dealt direct p pair = ap (deals_in w.plan before.session p) r.is ∙ and_from _ _ (and_from _ _ (not_from_false of_session.prepared direct) (same_product true product)) pair

        pub product_set : of_session.prepared ≡ false → (row : List ℕ)
            → row ≡ listed (length w.plan.groups) (product_summand (scheme w.plan) (dealt_at w before.places.now) (slice_index a) (slice_index b)) → SetsRow w before.session before.slot (gate of_session t).output row
        product_set direct row e =
            direct_made w r.whole before.session before.slot r.before_is.in_session r.before_is.in_slot before.rows.now r.before_is.rows t r.is a b row first_is second_is (same_product true product) direct
            before.places.now r.before_is.places e

        module _ (all_prepared : of_session.prepared ≡ true) (masks : Gate) (masks_are : masks ≡ product_in of_session (Mask_product t)) where
          is_prepared_here : is_prepared of_session t ≡ true
          is_prepared_here = and_from of_session.prepared _ all_prepared (same_product true product)

          mask_row_is : (side : Side) (row : List ℕ) → row ≡ mask_row w before.session t side → IsRow w.plan row
          mask_row_is side row e = row_whole w.plan row _ e (mask_whole w r.whole before.session t side)

          module _ (c d e : List ℕ) (hc : c ≡ named_row masks.first) (hd : d ≡ named_row masks.second) (he : e ≡ named_row masks.output) where
            first_mask_is : c ≡ mask_row w before.session t First
            first_mask_is =
                hc ∙ ap (λ (h : Gate). named_row h.first) masks_are
                ∙ first_mask w r.whole before.session before.slot r.before_is.in_session r.before_is.in_slot before.rows.now r.before_is.rows t r.is is_prepared_here

            second_mask_is : d ≡ mask_row w before.session t Second
            second_mask_is =
                hd ∙ ap (λ (h : Gate). named_row h.second) masks_are
                ∙ second_mask w r.whole before.session before.slot r.before_is.in_session r.before_is.in_slot before.rows.now r.before_is.rows t r.is is_prepared_here

            product_is : e ≡ product_row w before.session t
            product_is =
                he ∙ ap (λ (h : Gate). named_row h.output) masks_are
                ∙ their_product w r.whole before.session before.slot r.before_is.in_session r.before_is.in_slot before.rows.now r.before_is.rows t r.is is_prepared_here

            pub mask_rows : IsRow w.plan c × IsRow w.plan d × IsRow w.plan e
            mask_rows = (mask_row_is First c first_mask_is, mask_row_is Second d second_mask_is, row_whole w.plan e _ product_is (product_whole w r.whole before.session t))

            pub join_set : (row : List ℕ)
                → row ≡ listed (length w.plan.groups) (prepared_summand (scheme w.plan) (slice_index c) (slice_index d) (slice_index e) (slice_index a) (slice_index b))
                → SetsRow w before.session before.slot (gate of_session t).output row
            join_set row is =
                joined_made w r.whole before.session before.slot r.before_is.in_session r.before_is.in_slot before.rows.now r.before_is.rows t r.is a b row first_is second_is (same_product true product)
                all_prepared c d e first_mask_is second_mask_is product_is is

-- ---- the slot of a product of masks

module _ (w : World) (whole : IsWhole w) (before : BeforeSlot) (h : IsBeforeSlot w before) (t : ℕ) (is : slot w.plan before.session before.slot ≡ Mask_product t)
    (masks : Gate) (masks_are : masks ≡ product_in (session w.plan before.session) (Mask_product t)) (a b : List ℕ)
    (ha : a ≡ slice_index_or (session_words before.rows.now) masks.first []) (hb : b ≡ slice_index_or (session_words before.rows.now) masks.second []) where
  first_read_is : a ≡ mask_row w before.session t First
  first_read_is =
      ha ∙ ap (λ (g : Gate). slice_index_or (session_words before.rows.now) g.first []) masks_are
      ∙ masks_read w whole before.session before.slot h.in_session h.in_slot before.rows.now h.rows t First is

  second_read_is : b ≡ mask_row w before.session t Second
  second_read_is =
      hb ∙ ap (λ (g : Gate). slice_index_or (session_words before.rows.now) g.second []) masks_are
      ∙ masks_read w whole before.session before.slot h.in_session h.in_slot before.rows.now h.rows t Second is

  pub masks_are_rows : IsRow w.plan a × IsRow w.plan b
  masks_are_rows = (row_whole w.plan a _ first_read_is (mask_whole w whole before.session t First), row_whole w.plan b _ second_read_is (mask_whole w whole before.session t Second))

  pub masks_set : (row : List ℕ) → row ≡ listed (length w.plan.groups) (product_summand (scheme w.plan) (dealt_at w before.places.now) (slice_index a) (slice_index b))
      → SetsRow w before.session before.slot masks.output row
  masks_set row e =
      subst (λ (g : Gate). SetsRow w before.session before.slot g.output row) (sym masks_are)
      (product_made w whole before.session before.slot h.in_session h.in_slot before.places.now h.places t a b row is first_read_is second_read_is e)
