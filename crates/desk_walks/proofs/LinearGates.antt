-- Gates of a batch one after another: linear ones that a desk computes, and those whose empty tails it passes.
use Rattle.std.proofs.Common.{◌≡◌, ℕ, zero, suc, ◌+◌, ◌<◌, ◌≤◌, ◌^◌, true, false, ◌&&◌, All, List, [], ◌∷◌, length, refl, sym, ap, ◌∙◌, subst, arith}
use Rattle.std.specs.Arc.{arc_value}
use Rattle.std.specs.Global.{Vec}
use Rattle.std.specs.Vec.{with_items}
use Rattle.std.proofs.lemmas.List.{with_items_is}
use Rattle.circuit_model.specs.Circuits.{is_product}
use Rattle.circuit_model.specs.declared.gate.Gate.{Gate}
use Rattle.session_slots.specs.Sessions.{Session, gate}
use Rattle.session_slots.specs.Sessions.Slot.{At_gate}
use Rattle.plan_model.specs.Sound.{IsSound}
use Rattle.plan_model.specs.declared.pattern.Pattern.TheVariants.{Multiplied}
use Rattle.plan_model.specs.Patterns.{pattern_at}
use Rattle.plan_model.specs.Plans.{Plan, session}
use Rattle.plan_model.proofs.PlanSchemes.{plan_is}
use Rattle.program_model.specs.declared.half.Half.TheVariants.{Head, Tail}
use Rattle.party_program.specs.declared.place.Place.{Place}
use Rattle.party_program.specs.ProgramPlaces.{position_of, IsPlace}
use Rattle.program_model.specs.States.{Given, computed}
use Rattle.program_laws.specs.WordsRead.{gate_at}
use Rattle.party_desk.specs.declared.desk.Desk.{Desk}
use Rattle.party_desk.specs.declared.memory.Memory.{Memory}
use Rattle.party_desk.specs.Memories.{state_of, row_of, on_rows, Alike, GateWithin, GatesWithin, IsMemoryOf}
use Rattle.row_steps.specs.Rows.{AreLinear, FillsRow, FillsRows, IsFirstProduct, gate_in, gate_on_rows, row}
use Rattle.party_desk.specs.Desks.{IsDesk}
use Rattle.desk_walks.specs.Walks.{AreGatesFrom, Computes, IsBefore, NoPosts, at_place}
use Rattle.desk_walks.proofs.GateWalks.{posts_on}
use Rattle.desk_walks.proofs.GatePlaces.{entered, few_before, gate_before, gate_silent, gate_to, later_gate, later_pattern, never_prepared, tails_stay}
use Rattle.party_desk.proofs.NamedRows.{product_within_rows}
use Rattle.party_desk.proofs.RowStates.{gate_filled}

-- the memory with this table
abbrev with_table : Memory → Vec ℕ → Memory
with_table m table = record m { rows = table }

-- the desk after so many gates, with this table
abbrev after_gates : Desk → ℕ → Vec ℕ → Desk
after_gates d n table = record d { position = d.position + n; memory = with_table d.memory table }

-- ---- of a table its numbers count alone

table_fits : (plan : Plan) (s : ℕ) (m : Memory) (table : Vec ℕ) → IsMemoryOf plan s m → length table.items ≡ length m.rows.items → All (λ x. x < 2 ^ plan.bits) table.items → IsMemoryOf plan s (with_table m table)
table_fits plan s m table h long small = record {
  table = h.table;
  rows = long ∙ h.rows;
  sums = h.sums;
  outputs = h.outputs;
  small_rows = small;
  small_sums = h.small_sums;
  small_inputs = h.small_inputs;
  small_tape = h.small_tape;
  small_own = h.small_own;
  small_excess = h.small_excess;
}

same_fits : (plan : Plan) (s : ℕ) (m : Memory) (table : Vec ℕ) → table.items ≡ m.rows.items → IsMemoryOf plan s m → IsMemoryOf plan s (with_table m table)
same_fits plan s m table same h = table_fits plan s m table h (ap (length {A = ℕ}) same) (subst (All (λ x. x < 2 ^ plan.bits)) (sym same) h.small_rows)

same_desk : (l : Given) (d : Desk) (table : Vec ℕ) → table.items ≡ d.memory.rows.items → IsDesk l d → IsDesk l (record d { memory = with_table d.memory table })
same_desk l d table same h = record {
  suits = h.suits;
  party = h.party;
  session = h.session;
  own_program = h.own_program;
  instructions = h.instructions;
  place = h.place;
  position = h.position;
  sent = h.sent;
  taken = h.taken;
  fits = same_fits l.plan l.session d.memory table same h.fits;
  inputs = h.inputs;
  piece = h.piece;
  tape = h.tape;
  memory = record {
    rows = λ v i less set read. ap (λ xs. row (length l.plan.groups) xs (row_of d.memory v) i) same ∙ h.memory.rows v i less set read;
    own = h.memory.own;
    sums = h.memory.sums;
    excess = h.memory.excess;
    given = h.memory.given;
    outputs = h.memory.outputs;
  };
}

-- gates up to the end of a batch, by what it was found to be
pub from_end : (part : Session) (slot found end : ℕ) (gates : List Gate) → found ≡ end → AreGatesFrom part slot found gates → AreGatesFrom part slot end gates
from_end part slot found end gates is are = subst (λ z. AreGatesFrom part slot z gates) is are

-- the wires of these gates have rows
pub gates_have_rows : (plan : Plan) (l : Given) (d : Desk) (slot : ℕ) (part : Session) (gates : List Gate) → IsBefore plan l Head slot d → part ≡ session plan d.session → (end : ℕ) → AreGatesFrom part slot end gates → GatesWithin plan d.session gates
gates_have_rows plan l d slot part gates start own end are t less =
    let program = start.unplaced.own_program in
    let there : d.session < length plan.sessions = subst (λ (z : Plan). d.session < length z.sessions) start.unplaced.same (subst (λ z. z < length l.plan.sessions) (sym start.unplaced.session) program.session_there) in
    let found = are.of t less in
    subst (GateWithin plan d.session) found.2
    (subst (λ z. GateWithin plan d.session (gate z found.0)) (sym own)
    (product_within_rows plan (subst IsSound start.unplaced.same program.sound) d.session there (At_gate found.0)
    (subst (λ (z : Session). found.0 < length z.gates) own found.1) tt))

-- before the first of the gates
none_done : (plan : Plan) (l : Given) (d : Desk) (slot : ℕ) (table : Vec ℕ) → table.items ≡ d.memory.rows.items → IsBefore plan l Head slot d → IsBefore plan l Head (slot + 0) (after_gates d 0 table)
none_done plan l d slot table same h =
    let k : slot ≡ slot + 0 = omega arith in
    let position : d.position ≡ d.position + 0 = omega arith in
    subst (λ j. IsBefore plan l Head j (after_gates d 0 table)) k
    (subst (λ p. IsBefore plan l Head slot (record d { position = p; memory = with_table d.memory table })) position
    (record {
      unplaced = record {
        same = h.unplaced.same;
        party = h.unplaced.party;
        session = h.unplaced.session;
        own_program = h.unplaced.own_program;
        fits = same_fits l.plan l.session d.memory table same h.unplaced.fits;
        desk = λ place at'. same_desk l (at_place d place) table same (h.unplaced.desk place at');
      };
      batch = h.batch;
      from = h.from;
      to = h.to;
      position = h.position;
    }))

-- the gates of the batch from that of this slot on
module _ (plan : Plan) (l : Given) (d : Desk) (slot : ℕ) (part : Session) (gates : List Gate) (start : IsBefore plan l Head slot d) (own : part ≡ session plan d.session) (are : AreGatesFrom part slot d.place.end gates)
    (few : d.position < 4294967296) where
  fits : IsMemoryOf plan d.session d.memory
  fits = subst (λ (z : Plan). IsMemoryOf z d.session d.memory) start.unplaced.same (subst (λ z. IsMemoryOf l.plan z d.memory) (sym start.unplaced.session) start.unplaced.fits)

  -- the first n of them are done, whatever table has these numbers, and none was a post
  record HasDone (n : ℕ) (rows : List ℕ) : Type 0 where
    before : (table : Vec ℕ) → table.items ≡ rows → IsBefore plan l Head (slot + n) (after_gates d n table)
    silent : NoPosts l d.position (d.position + n)
    long : length rows ≡ length d.memory.rows.items
    reached : d.position + n < 4294967296

  one_more : (n : ℕ) (rows rows' : List ℕ) → n < length gates → AreLinear gates n → is_product (gate_in gates n).operation ≡ false → HasDone n rows
      → FillsRow (2 ^ plan.bits) (length plan.groups) (gate_in gates n).operation (gate_on_rows (row_of d.memory) (gate_in gates n)) rows rows'
      → All (λ x. x < 2 ^ plan.bits) rows' → length rows' ≡ length rows → HasDone (suc n) rows'
  one_more n rows rows' less all_linear linear so_far fill small long =
      let table : Vec ℕ = with_items d.memory.rows rows in
      let is : table.items ≡ rows = with_items_is d.memory.rows rows (so_far.long ∙ sym d.memory.rows.ok.0) in
      let e : Desk = after_gates d n table in
      let before : IsBefore plan l Head (slot + n) e = so_far.before table is in
      let next : d.position + n + 1 ≡ d.position + suc n = omega arith in
      let slot_next : slot + n + 1 ≡ slot + suc n = omega arith in
      let to : slot + n < d.place.end = gate_to plan l d slot n part gates start.unplaced.same start.unplaced.session own d.place.end are less all_linear in
      let silent = later_pattern plan l d slot n part gates start.unplaced.same start.unplaced.session own d.place.end are less all_linear false linear (never_prepared part.prepared) in
      let its : gate_at plan d.session (slot + n) ≡ gate_in gates n = later_gate plan l d slot n part gates start.unplaced.same start.unplaced.session own d.place.end are less all_linear false linear (never_prepared part.prepared) in
      let reached = few_before plan l e (slot + n) before to silent in
      let all_long : length rows' ≡ length d.memory.rows.items = long ∙ so_far.long in
      let filled : FillsRow (2 ^ plan.bits) (length plan.groups) (gate_in gates n).operation (gate_on_rows (row_of d.memory) (gate_in gates n)) table.items rows' =
      subst (λ xs. FillsRow (2 ^ plan.bits) (length plan.groups) (gate_in gates n).operation (gate_on_rows (row_of d.memory) (gate_in gates n)) xs rows') (sym is) fill in
      record {
        before = λ table' is'.
            let of_gate : Alike (length plan.groups) (state_of (length plan.groups) (with_table d.memory table')) (on_rows (row_of d.memory) ((gate_in gates n).output ∷ []) (computed (2 ^ plan.bits) (gate_in gates n)) (state_of (length plan.groups) e.memory)) =
            record {
              rows = gate_filled (2 ^ plan.bits) (length plan.groups) (row_of d.memory) (gate_in gates n) table.items table'.items (state_of (length plan.groups) e.memory) refl
                  (subst (FillsRow (2 ^ plan.bits) (length plan.groups) (gate_in gates n).operation (gate_on_rows (row_of d.memory) (gate_in gates n)) table.items) (sym is') filled);
              own = refl;
              sums = λ i l'. refl;
              excess = λ side. refl;
              given = refl;
              outputs = λ o. refl;
            } in
            subst (λ p. IsBefore plan l Head (slot + suc n) (record d { position = p; memory = with_table d.memory table' })) next
            (subst (λ k. IsBefore plan l Head k (record d { position = d.position + n + 1; memory = with_table d.memory table' })) slot_next
            (gate_before plan l e (slot + n) before to silent (with_table d.memory table')
            (table_fits plan d.session d.memory table' fits (ap (length {A = ℕ}) is' ∙ all_long) (subst (All (λ x. x < 2 ^ plan.bits)) (sym is') small))
            (record { table = refl; inputs = refl; tape = refl })
            (subst (λ z. Alike (length plan.groups) (state_of (length plan.groups) (with_table d.memory table')) (on_rows (row_of d.memory) (z.output ∷ []) (computed (2 ^ plan.bits) z) (state_of (length plan.groups) e.memory))) (sym its) of_gate)));
        silent = subst (NoPosts l d.position) next
            (posts_on l d.position (d.position + n) (d.position + n + 1) so_far.silent (gate_silent plan l e (slot + n) before to silent));
        long = all_long;
        reached = omega (arith, reached);
      }

  has_done : (n : ℕ) (rows : List ℕ) → n ≤ length gates → AreLinear gates n
      → FillsRows (2 ^ plan.bits) (length plan.groups) (arc_value d.memory.table).rows.items gates n d.memory.rows.items rows → HasDone n rows
  has_done zero rows within linear same = record {
    before = λ table is. none_done plan l d slot table (is ∙ same) start;
    silent = λ x n i from to is. absurd (omega (arith, from, to));
    long = ap (length {A = ℕ}) same;
    reached = omega (arith, few);
  }
  has_done (suc n) rows within linear (between, before, fill, small, long) =
      one_more n between rows (omega (arith, within)) (λ t less. linear t (omega (arith, less))) (linear n (omega arith)) (has_done n between (omega (arith, within)) (λ t less. linear t (omega (arith, less))) before) fill small long

  -- the desk's memory after these gates
  module _ (n : ℕ) (m : Memory) (rest_is : m ≡ with_table d.memory m.rows) (first : IsFirstProduct gates n)
      (filled : FillsRows (2 ^ plan.bits) (length plan.groups) (arc_value d.memory.table).rows.items gates n d.memory.rows.items m.rows.items) where
    done : HasDone n m.rows.items
    done = has_done n m.rows.items first.few first.linear filled

    pub linear_few : d.position + n < 4294967296
    linear_few = done.reached

    -- all of them are done, and none was a post
    pub linear_before : IsBefore plan l Head (slot + n) (record d { position = d.position + n; memory = m })
    linear_before = subst (λ z. IsBefore plan l Head (slot + n) (record d { position = d.position + n; memory = z })) (sym rest_is) (done.before m.rows refl)

    pub linear_silent : NoPosts l d.position (d.position + n)
    linear_silent = done.silent

    -- the place is brought up
    pub linear_entered : (place : Place) → IsPlace plan d.program.party d.program.session place (position_of plan d.program.party d.program.session Head d.place.batch d.place.end (slot + n))
        → Computes l d (record d { place = place; position = d.position + n; memory = m })
    linear_entered place at' =
        subst (λ z. Computes l d (record d { place = place; position = d.position + n; memory = z })) (sym rest_is)
        (entered plan l d (after_gates d n m.rows) Head (slot + n) place (done.before m.rows refl) done.silent (omega arith) at')

-- where the gates end before the last one comes a product
module _ (plan : Plan) (l : Given) (d : Desk) (slot : ℕ) (part : Session) (gates : List Gate) (same : l.plan ≡ plan) (session' : d.session ≡ l.session) (of_session : d.program.session ≡ l.session) (own : part ≡ session plan d.session)
    (are : AreGatesFrom part slot d.place.end gates) (n : ℕ) (first : IsFirstProduct gates n) (direct : part.prepared ≡ false) where
  pub gates_product : n < length gates → pattern_at plan d.program.session (slot + n) ≡ Multiplied
  gates_product less =
      subst (λ z. pattern_at z d.program.session (slot + n) ≡ Multiplied) same
      (subst (λ z. pattern_at l.plan z (slot + n) ≡ Multiplied) (sym of_session)
      (later_pattern plan l d slot n part gates same session' own d.place.end are less first.linear true (first.ends less) (ap (λ b. b && true) direct)))

-- the tails of linear gates are empty, so who is before them is behind them too
module _ (plan : Plan) (l : Given) (d : Desk) (slot : ℕ) (part : Session) (gates : List Gate) (start : IsBefore plan l Tail slot d) (own : part ≡ session plan d.session) (are : AreGatesFrom part slot d.place.end gates)
    (n : ℕ) (first : IsFirstProduct gates n) where
  pub passed : IsBefore plan l Tail (slot + n) d
  passed =
      let few = first.few in
      let to = are.to in
      let from = start.from in
      let there = start.batch.there in
      record {
        unplaced = start.unplaced;
        batch = start.batch;
        from = omega (arith, from);
        to = omega (arith, to, few);
        position = start.position
            ∙ sym (tails_stay l.plan l.party l.session d.place.batch d.place.end (plan_is l.plan start.unplaced.own_program.sound) start.unplaced.own_program.session_there slot n (omega (arith, to, few, there))
            (λ t less. later_pattern plan l d slot t part gates start.unplaced.same start.unplaced.session own d.place.end are (omega (arith, less, few)) (λ u more. first.linear u (omega (arith, less, more))) false (first.linear t less) (never_prepared part.prepared)));
      }

  pub tail_entered : (place : Place) → IsPlace plan d.program.party d.program.session place (position_of plan d.program.party d.program.session Tail d.place.batch d.place.end (slot + n)) → Computes l d (at_place d place)
  tail_entered place at' = entered plan l d d Tail (slot + n) place passed (λ x m i from to is. absurd (omega (arith, from, to))) (omega arith) at'
