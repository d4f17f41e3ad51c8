use Rattle.std.proofs.Common.{◌≡◌, ℕ, ◌<◌, ◌≤◌, ◌++◌, [], length}
use Rattle.std.specs.Prelude.{slice_index_or}
use Rattle.plan_model.specs.InputWords.{session_words}
use Rattle.tape_map.specs.Changes.{grown_piece}
use Rattle.tape_map.proofs.map.push_pieces.Given as goal

-- the parties so far have their pieces, the others are as they were
abbrev pub invariant-loop-p : goal.invariant-loop-p
invariant-loop-p l = record {
  parties : length l.changed ≡ l.plan.parties;
  pushed : (q : ℕ) → q < l.p → slice_index_or (session_words l.changed) q []
      ≡ slice_index_or (session_words l.fn.changed) q [] ++ grown_piece l.plan l.group.mask l.change (slice_index_or (session_words l.tapes) q []) q;
  left : (q : ℕ) → l.p ≤ q → slice_index_or (session_words l.changed) q [] ≡ slice_index_or (session_words l.fn.changed) q [];
}
