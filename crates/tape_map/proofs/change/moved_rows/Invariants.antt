use Rattle.std.proofs.Common.{◌≡◌, []}
use Rattle.std.specs.Prelude.{slice_index, slice_index_or}
use Rattle.list_laws.specs.Lists.{listed}
use Rattle.plan_model.specs.InputWords.{session_words}
use Rattle.tape_map.specs.Changes.{grown_row}
use Rattle.tape_map.proofs.change.moved_rows.Given as goal

-- the rows so far
abbrev pub invariant-loop-name : goal.invariant-loop-name
invariant-loop-name l =
    session_words l.moved.items
    ≡ listed l.name (λ name. grown_row l.plan l.share (slice_index l.growths name) (slice_index_or l.rows name []))
