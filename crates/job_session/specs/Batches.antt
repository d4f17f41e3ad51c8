-- Batches: runs of slots none of which waits for another of them.
use Rattle.std.specs.Prelude.{◌≡◌, ℕ, zero, suc, ◌<◌, ◌≤◌, nat_eq, nat_le, Bool, ◌&&◌, ◌||◌, ◌⊎◌, if◌then◌else◌, List, length, slice_index}
use Rattle.std.specs.List.{list_any}
use Rattle.list_laws.specs.Lists.{some_below, total}
use Rattle.session_slots.specs.Sessions.{Session, session_slot, session_slots}
use Rattle.session_slots.specs.EarlyWires.{is_join, reads_early, sets_early, slot_completes}

-- slot k waits for slot j: before it takes anything, it reads a wire that slot j completes, or sets one, which may have
-- the row of a wire that slot j has still to join
abbrev pub waits_for : Session → ℕ → ℕ → Bool
waits_for s k j =
    list_any (slot_completes s j) (reads_early s (session_slot s k))
    || (is_join s (session_slot s j) && sets_early s (session_slot s k))

-- slot k waits for a slot from a on
abbrev pub waits : Session → ℕ → ℕ → Bool
waits s a k = some_below k (λ j. nat_le a j && waits_for s k j)

-- the first slot of slot k's batch: that of the slot before it, unless slot k waits for a slot of that batch
abbrev pub batch : Session → ℕ → ℕ
batch s zero = 0
batch s (suc k) = if waits s (batch s k) (suc k) then suc k else batch s k

-- slot k is the last of its batch
abbrev pub is_last : Session → ℕ → Bool
is_last s k = nat_le (session_slots s) (suc k) || nat_eq (batch s (suc k)) (suc k)

-- how many batches a session has
abbrev pub batches : Session → ℕ
batches s = total (session_slots s) (λ k. if nat_eq (batch s k) k then 1 else 0)

-- the slots from a up to b are a batch
pub record IsBatch (s : Session) (a b : ℕ) : Type 0 where
  pub some : a < b
  pub there : b ≤ session_slots s
  pub whole : (k : ℕ) → a ≤ k → k < b → batch s k ≡ a
  pub ends : b < session_slots s → batch s b ≡ b

-- slot k is of this batch, or all three are the count of slots
abbrev pub IsInBatch : Session → ℕ → ℕ → ℕ → Type 0
IsInBatch s a b k =
    (IsBatch s a b × (a ≤ k) × (k < b)) ⊎ ((a ≡ session_slots s) × (b ≡ session_slots s) × (k ≡ session_slots s))

-- for each slot the one behind the last of its batch
pub record AreBatchEnds (s : Session) (list : List ℕ) : Type 0 where
  pub slots : length list ≡ session_slots s
  pub ends : (k : ℕ) → k < session_slots s → IsBatch s (batch s k) (slice_index list k)
