-- Rows that are given out and taken back, slot by slot.
use Rattle.std.specs.Prelude.{◌≡◌, ◌≢◌, ℕ, ◌+◌, ◌<◌, nat_eq, nat_lt, Bool, true, false, not, ◌&&◌, ◌||◌, if◌then◌else◌, List, [], length, slice_index, count_by, Option, ◌⊎◌}
use Rattle.list_laws.specs.Lists.{greatest, total}
use Rattle.job_session.specs.declared.row_scan.RowScan.{RowScan}
use Rattle.session_slots.specs.Sessions.{Session, row_names, session_slots}
use Rattle.session_slots.specs.KeptWires.{is_kept, is_read, kept, slot_reads, slot_sets}
use Rattle.session_slots.specs.Wirings.{is_named}

-- for each wire the number of the slot behind the last before slot n that reads it, and 0 where there is none
pub record AreLastReads (s : Session) (n : ℕ) (last : List ℕ) : Type 0 where
  pub wires : length last ≡ row_names s
  pub read : (m w : ℕ) → slice_index last w ≡ m + 1 → (m < n) × (slot_reads s m w ≡ true)
  pub past : (m w : ℕ) → m < n → slot_reads s m w ≡ true → m < slice_index last w

-- the wire is this one, and the number beside it in the list is this
abbrev pub ends : Option ℕ → ℕ → List ℕ → ℕ → Bool
ends wire at last w = is_named wire w && nat_eq (slice_index last w) at

-- each row that was made, but the first, is either free or that of one wire that holds it
pub record AreHeld (holds : ℕ → Bool) (scan : RowScan) : Type 0 where
  pub once : (row : ℕ) → total (length scan.rows.items)
      (λ w. if holds w && nat_eq row (slice_index scan.rows.items w) then 1 else 0)
      + count_by (nat_eq row) scan.free.items ≡ (if nat_lt 0 row && nat_lt row scan.made then 1 else 0)
  pub all : total (length scan.rows.items) (λ w. if holds w then 1 else 0) + length scan.free.items + 1 ≡ scan.made

-- the wire, if there is one, has got a free row; a new one was made where none was free
pub record GivesRow (wire : Option ℕ) (old new : RowScan) : Type 0 where
  pub wires : length new.rows.items ≡ length old.rows.items
  pub others : (w : ℕ) → is_named wire w ≡ false
      → slice_index new.rows.items w ≡ slice_index old.rows.items w
  pub made : (new.made ≡ old.made) ⊎ ((new.free.items ≡ []) × (new.made ≡ old.made + 1))
  pub held : (holds : ℕ → Bool) → AreHeld holds old → ((w : ℕ) → is_named wire w ≡ true → holds w ≡ false)
      → AreHeld (λ w. holds w || is_named wire w) new

-- the row of the wire is free again, if there is one and it ends here
pub record TakesBack (wire : Option ℕ) (at : ℕ) (last : List ℕ) (old new : RowScan) : Type 0 where
  pub rows : new.rows.items ≡ old.rows.items
  pub made : new.made ≡ old.made
  pub held : (holds : ℕ → Bool) → AreHeld holds old → ((w : ℕ) → ends wire at last w ≡ true → holds w ≡ true)
      → AreHeld (λ w. holds w && not (ends wire at last w)) new

-- the wire, where it is read at all
abbrev pub IsReadOne : Option ℕ → List ℕ → Option ℕ → Type 0
IsReadOne wire last read = (w : ℕ) → is_named read w ≡ (is_named wire w && not (nat_eq (slice_index last w) 0))

-- before slot k the wires that are kept hold rows, of one more than were kept at most so far; those that no slot reads
-- have the first row
pub record IsScan (s : Session) (k : ℕ) (scan : RowScan) : Type 0 where
  pub wires : length scan.rows.items ≡ row_names s
  pub held : AreHeld (is_kept s k) scan
  pub made : scan.made ≡ greatest (k + 1) (kept s) + 1
  pub unread : (w : ℕ) → is_read s w ≡ false → slice_index scan.rows.items w ≡ 0
  pub below : (w : ℕ) → slice_index scan.rows.items w < scan.made
  pub read : (j m w : ℕ) → j < k → m < session_slots s → slot_sets s j w ≡ true → slot_reads s m w ≡ true
      → 0 < slice_index scan.rows.items w
  pub apart : (i j m v w : ℕ) → i < j → j < k → j < m → m < session_slots s → slot_sets s i v ≡ true
      → slot_reads s m v ≡ true
      → slot_sets s j w ≡ true → slice_index scan.rows.items v ≢ slice_index scan.rows.items w
