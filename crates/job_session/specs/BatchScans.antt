-- Batches that are found slot by slot.
use Rattle.std.specs.Prelude.{◌≡◌, ℕ, zero, suc, ◌<◌, nat_eq, nat_le, Bool, false, ◌&&◌, ◌||◌, if◌then◌else◌, List, length, slice_index, Option, Some, None}
use Rattle.std.specs.List.{list_any}
use Rattle.list_laws.specs.Lists.{some_below}
use Rattle.circuit_model.specs.Circuits.{is_product}
use Rattle.circuit_model.specs.Netlists.{read_by}
use Rattle.circuit_model.specs.declared.gate.Gate.{Gate}
use Rattle.job_session.specs.declared.batch_scan.BatchScan.{BatchScan}
use Rattle.session_slots.specs.Sessions.{Session, row_names, session_slot}
use Rattle.session_slots.specs.KeptWires.{slot_reads}
use Rattle.job_session.specs.Batches.{batch, IsBatch}
use Rattle.session_slots.specs.EarlyWires.{is_join, reads_early, slot_completes}
use Rattle.session_slots.specs.Wirings.{is_named}

-- 1 more than the first slot of the batch in which a slot before slot k last completes wire w, and 0 where none does
abbrev pub stamp : Session → ℕ → ℕ → ℕ
stamp s zero w = 0
stamp s (suc k) w = if slot_completes s k w then suc (batch s k) else stamp s k w

-- a slot before slot k, from the first one of slot j's batch on, joins words
abbrev pub has_join : Session → ℕ → ℕ → Bool
has_join s j k = some_below k (λ i. nat_le (batch s j) i && is_join s (session_slot s i))

-- the batch of slot j is begun: the scan has its first slot, the ends of those before it, the stamps before slot k, and
-- whether a slot of it before slot k joins words
pub record IsBatchScan (s : Session) (j k : ℕ) (scan : BatchScan) : Type 0 where
  pub first : scan.first ≡ batch s j
  pub wires : length scan.stamps.items ≡ row_names s
  pub stamps : (w : ℕ) → slice_index scan.stamps.items w ≡ stamp s k w
  pub joins : scan.joins ≡ has_join s j k
  pub ended : length scan.ends.items ≡ batch s j
  pub ends : (i : ℕ) → i < batch s j → IsBatch s (batch s i) (slice_index scan.ends.items i)

-- the wires that slot k reads before it takes anything are the one, the other, or both
pub record AreEarlyReads (s : Session) (k : ℕ) (one two : Option ℕ) : Type 0 where
  pub are : (w : ℕ) → list_any (nat_eq w) (reads_early s (session_slot s k)) ≡ (is_named one w || is_named two w)

-- the wire that slot k completes, if there is one
pub record IsCompleted (s : Session) (k : ℕ) (wire : Option ℕ) : Type 0 where
  pub is : (w : ℕ) → slot_completes s k w ≡ is_named wire w

-- slot k is of this gate, whose fields name wires
pub record IsGateSlot (s : Session) (k : ℕ) (g : Gate) : Type 0 where
  pub first : g.first < s.wires
  pub second : g.second < s.wires
  pub output : g.output < s.wires
  pub reads : (w : ℕ) → slot_reads s k w ≡ list_any (nat_eq w) (read_by g)
  pub completes : (w : ℕ) → slot_completes s k w ≡ (is_product g.operation && nat_eq w g.output)

-- the wire, if there is one, has this stamp
abbrev pub has_stamp : Option ℕ → List ℕ → ℕ → Bool
has_stamp None stamps n = false
has_stamp (Some w) stamps n = nat_eq (slice_index stamps w) n
