use Rattle.std.proofs.Common.{◌≡◌, ℕ, ◌<◌, List, [], length}
use Rattle.std.specs.Prelude.{slice_index_or}
use Rattle.list_laws.specs.Lists.{joined}
use Rattle.plan_model.specs.InputWords.{session_words}
use Rattle.plan_model.specs.Plans.{place}
use Rattle.wire_tables.specs.WireTables.{AreCarried, value_lists, world_of}
use Rattle.tape_map.specs.TapeMaps.{piece_map, with_inputs}
use Rattle.tape_map.proofs.map.changed_tapes.Given as goal

-- each party's tape has the pieces of the sessions so far, and of these is known what is carried
abbrev pub invariant-loop-s : goal.invariant-loop-s
invariant-loop-s l = record {
  parties : length l.changed.items ≡ l.world.plan.now.parties;
  lengths : (p : ℕ) → p < l.world.plan.now.parties → length (slice_index_or (session_words l.changed.items) p []) ≡ place l.world.plan.now p l.s 0;
  pieces : (other : List (List (List ℕ))) → session_words l.second ≡ value_lists (with_inputs (world_of l.world) other)
      → (p : ℕ) → p < l.world.plan.now.parties → slice_index_or (session_words l.changed.items) p []
      ≡ joined l.s (piece_map (world_of l.world) other l.group.mask p);
  carried : AreCarried (world_of l.world) l.s l.carried;
}
