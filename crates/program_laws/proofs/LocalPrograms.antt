-- A program posts and delivers what its party computes by itself: it does what its slots do one after another.
use Rattle.std.proofs.Common.{◌≡◌, ℕ, ◌<◌, length, subst}
use Rattle.list_laws.specs.Lists.{joined}
use Rattle.plan_model.specs.Plans.{session, slots}
use Rattle.plan_model.specs.declared.key.Key.{Key}
use Rattle.plan_model.specs.Sound.{IsSound}
use Rattle.share_world.specs.Worlds.{World}
use Rattle.job_session.specs.Batches.{batch}
use Rattle.program_model.specs.Programs.{head, tail, turn, program, slot_program}
use Rattle.program_model.specs.States.{Given, State, new_state}
use Rattle.program_model.proofs.InstructionLists.{Leaves}
use Rattle.program_laws.specs.Meets.{local_given, Goes, SmallTape}
use Rattle.program_laws.specs.Exchanges.{Becomes}
use Rattle.program_laws.proofs.BatchRuns.{whole, at_beginnings}
use Rattle.program_laws.proofs.Exchanged.{becoming}
use Rattle.program_laws.proofs.FreeSlots.{in_batch}
use Rattle.program_laws.proofs.LocalSlots.{InKept, slots_met}
use Rattle.program_laws.proofs.SlotRuns.{Runs}

module _ (w : World) (sound : IsSound w.plan) (got : Key → ℕ) (s p : ℕ) (ls : s < length w.plan.sessions) where
  abbrev l : Given
  l = local_given w got s p

  pub by_batches : Becomes (Goes w got s p) l (joined (slots w.plan s) (slot_program w.plan p s)) (program w.plan p s)
  by_batches = whole (session w.plan s) (head w.plan p s) (tail w.plan p s) (Becomes (Goes w got s p) l) (becoming (Goes w got s p) l) (in_batch w sound got s p ls)

  -- also where a batch begins
  pub by_beginnings : (k : ℕ) → k < slots w.plan s → batch (session w.plan s) k ≡ k → Becomes (Goes w got s p) l (joined k (slot_program w.plan p s)) (joined k (turn w.plan p s))
  by_beginnings = at_beginnings (session w.plan s) (head w.plan p s) (tail w.plan p s) (Becomes (Goes w got s p) l) (becoming (Goes w got s p) l) (in_batch w sound got s p ls)

  module _ (lp : p < w.plan.parties) (small : SmallTape w s p) where
    abbrev runs : Runs w s p
    runs = record { sound = sound; session_there = ls; party_there = lp; small = small }

    abbrev Met : State → Type 0
    Met = InKept w got s p runs (length (session w.plan s).kept)

    pub met : Leaves (Goes w got s p) l (program w.plan p s) Met new_state
    met = let slots = slots_met w got s p runs in (by_batches.along new_state slots.0, subst Met (by_batches.same new_state) slots.1)
