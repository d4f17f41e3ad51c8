-- What wakes a party.
use Rattle.std.specs.Prelude.{ℕ, ◌+◌}
use Rattle.atomic_table.specs.Seated.{TableId}

-- what a reader wakes its party with: which parker it is of, and how many tokens it gave it
pub record WakerModel : Type 0 where
  pub id : TableId
  pub given : ℕ

-- after `more` tokens more
abbrev pub gives : WakerModel → ℕ → WakerModel
gives waker more = record waker { given = waker.given + more }
