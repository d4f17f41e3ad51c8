-- What batches are.
use Rattle.std.specs.Prelude.{◌≡◌, ℕ, ◌-◌, ◌<◌, ◌≤◌, true, false}
use Rattle.session_slots.specs.Sessions.{Session, session_slots}
use Rattle.job_session.specs.Batches.{batch, batches, waits_for}

-- the slots from the first of slot k's batch to k are of that batch, and k waits for none of those before it; the first
-- slot of a batch behind another waits for one of that; and there are no more batches than slots
pub record AreLongestRuns (s : Session) : Type 0 where
  pub within : (k : ℕ) → k < session_slots s → batch s k ≤ k
  pub same : (j k : ℕ) → k < session_slots s → batch s k ≤ j → j ≤ k → batch s j ≡ batch s k
  pub no_wait : (j k : ℕ) → k < session_slots s → batch s k ≤ j → j < k → waits_for s k j ≡ false
  pub begins : (k : ℕ) → 0 < k → k < session_slots s → batch s k ≡ k
      → (j : ℕ) × (batch s j ≡ batch s (k - 1)) × (j < k) × (waits_for s k j ≡ true)
  pub few : batches s ≤ session_slots s
