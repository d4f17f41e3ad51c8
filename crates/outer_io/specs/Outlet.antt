-- Outlets that bytes are sent over: what they show, and what one send or flush does.
use Rattle.std.specs.Prelude.{◌≡◌, Bool, true, false, IsTrue, ℕ, List, [], Result, IsErr, OnOk}
use Rattle.outer_io.specs.declared.sink.Failed.{Failed}
use Rattle.outer_io.specs.Sink.{SinkReading, Writes}

-- what an outlet shows: what a sink does, of all that it was given, and
pub record OutletReading : Type 0 where
  pub sink : SinkReading
  -- some of what it was given still waits to go out
  pub holds : Bool
  -- it was closed
  pub closed : Bool

-- what an outlet shows once it is closed, after which each send fails, and what waits never goes out
abbrev pub shut_outlet : OutletReading → OutletReading
shut_outlet outlet = record outlet { sink = record outlet.sink { steady = false }; closed = true }

-- What one send does.
pub record Sends (piece : List ℕ) (before after : OutletReading) (result : Result Unit Failed) : Type 0 where
  -- it writes the piece, as a sink does
  pub writes : Writes piece before.sink after.sink result
  -- no send closes an outlet, and once it is closed each send fails, and nothing is sent
  pub same_closed : after.closed ≡ before.closed
  pub after_close : IsTrue before.closed → IsErr result × (after.sink.told ≡ before.sink.told)

-- What one flush does: what a send of no bytes does, and at Ok nothing waits any more.
pub record Flushes (before after : OutletReading) (result : Result Unit Failed) : Type 0 where
  pub sends : Sends [] before after result
  pub out : OnOk result (after.holds ≡ false)
