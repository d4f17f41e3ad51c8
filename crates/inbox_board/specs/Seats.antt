-- What clauses say of an inbox and its seats.
use Rattle.std.specs.Prelude.{◌≡◌, ℕ, ◌<◌, ◌≤◌, Bool, Option, Some, None, if◌then◌else◌, ◌==◌}
use Rattle.atomic_table.specs.Seated.{TableId}
use Rattle.inbox_board.specs.declared.steps.InboxView.{InboxView}
use Rattle.inbox_board.specs.Rule.{finds, gets}

-- an inbox: which table it is, and how many places it has
pub record InboxModel : Type 0 where
  pub id : TableId
  pub places : ℕ

-- a seat: which table it is of, and what it knows
pub record SeatModel : Type 0 where
  pub id : TableId
  pub view : InboxView

-- a seat between two calls, which counts the places that it filled: it has stored no value that isn't counted, and
-- without the pen it has filled no place and given no mark
pub record IsAtRest (filled : ℕ) (v : InboxView) : Type 0 where
  pub stored : v.stored ≡ None
  pub length : filled ≡ v.length
  pub idle : v.pens ≡ 0 → (v.length ≡ 0) × (v.ended ≡ 0)

-- the seat has the pen and has given no mark
abbrev pub MayWrite : SeatModel → Type 0
MayWrite s = (s.view.pens ≡ 1) × (s.view.ended ≡ 0)

-- a look for the word at a place, by its answer: a count was found that isn't past the place, or one that is, and then
-- the word
abbrev pub Looks : InboxView → ℕ → Option ℕ → InboxView → Type 0
Looks before place None after = (n : ℕ) × (n ≤ place) × (after ≡ finds before n)
Looks before place (Some w) after = (n : ℕ) × (place < n) × (after ≡ gets (finds before n) place w)

-- the mark of an end, by a fault or not, and the end that a mark stands for
abbrev pub mark_of : Bool → ℕ
mark_of fault = if fault then 2 else 1

abbrev pub mark_as : ℕ → Option Bool
mark_as mark = if mark == 0 then None else Some (mark == 2)
