use Rattle.std.proofs.Common.{◌≡◌, ◌<◌, ◌^◌, nat_eq, if◌then◌else◌, All, drop, length}
use Rattle.std.specs.Prelude.{slice_index}
use Rattle.share_layout.specs.Layouts.{least_holder}
use Rattle.row_steps.specs.Rows.{row, SameRows, filled_to, least_held}
use Rattle.row_steps.proofs.rows.draw_row.Given as goal

-- the summands below i are drawn
abbrev pub invariant-loop-i : goal.invariant-loop-i
invariant-loop-i l = record {
  small : All (λ x. x < 2 ^ l.ring) l.table;
  words : All (λ x. x < 2 ^ l.ring) l.tape;
  tape : l.tape ≡ drop (least_held l.layout l.p l.i) l.fn.tape;
  rows : SameRows (length l.layout.groups) (row (length l.layout.groups) l.table) (filled_to (row (length l.layout.groups) l.fn.table) l.number (λ i. if nat_eq (least_holder l.layout i) l.p then slice_index l.fn.tape (least_held l.layout l.p i) else row (length l.layout.groups) l.fn.table l.number i) l.i);
}
