-- Inlets that bytes are read from: what they show, and what one read does.
use Rattle.std.specs.Prelude.{◌≡◌, ℕ, ◌<◌, ◌≤◌, Bool, true, false, IsTrue, List, [], ◌++◌, length, take, Option, None, Some}
use Rattle.std.specs.Option.{option_map}
use Rattle.outer_io.specs.declared.inlet.Got.{Got}
use Rattle.outer_io.specs.declared.inlet.Got.TheVariants.{Bytes, End, Failed}
use Rattle.outer_io.specs.declared.inlet.Filled.{Filled}
use Rattle.outer_io.specs.declared.inlet.Filled.TheVariants.{Full, Short, Faulty}
use Rattle.outer_io.specs.Count.{Rose}

-- what an inlet shows
pub record InletReading : Type 0 where
  -- the bytes that are left, where the inlet tells them
  pub told : Option (List ℕ)
  -- how often the outside has failed
  pub faults : ℕ
  -- the end was answered
  pub ended : Bool
  -- none of the coming calls is one that fails by itself
  pub steady : Bool
  -- it was closed
  pub closed : Bool

-- what an inlet shows once it is closed, after which each read fails
abbrev pub shut_inlet : InletReading → InletReading
shut_inlet inlet = record inlet { steady = false; closed = true }

-- what an inlet told before these bytes came, if it tells this now
abbrev pub ahead : List ℕ → Option (List ℕ) → Option (List ℕ)
ahead bytes told = option_map (λ left. bytes ++ left) told

-- where the inlet tells, no bytes are left
abbrev pub IsAtEnd : Option (List ℕ) → Type 0
IsAtEnd None = Unit {0}
IsAtEnd (Some left) = left ≡ []

-- the first bytes of a place came: one at least, and no more than the place has
pub record CameInto (before after : Option (List ℕ)) (into : List ℕ) (count : ℕ) : Type 0 where
  pub some : 1 ≤ count
  pub within : count ≤ length into
  pub bytes : before ≡ ahead (take count into) after

-- what one answer tells: bytes came, or none are left, or nothing was taken
abbrev pub ReadGives : Option (List ℕ) → Option (List ℕ) → List ℕ → Got → Type 0
ReadGives before after into (Bytes count) = CameInto before after into count
ReadGives before after into End = (after ≡ before) × IsAtEnd before
ReadGives before after into Failed = after ≡ before

-- What one read into a place does.
pub record ReadsInto (into : List ℕ) (before after : InletReading) (result : Got) : Type 0 where
  pub answers : ReadGives before.told after.told into result
  -- it fails only where the count of faults rose, and at every other answer that count stays
  pub failed : result ≡ Failed → Rose before.faults after.faults
  pub quiet : ¬ (result ≡ Failed) → after.faults ≡ before.faults
  pub faults_grow : before.faults ≤ after.faults
  -- the end is remembered, once it was answered and not before
  pub ends : result ≡ End → IsTrue after.ended
  pub goes_on : ¬ (result ≡ End) → after.ended ≡ before.ended
  -- a steady inlet stays steady, and does not fail
  pub keeps_steady : IsTrue before.steady → IsTrue after.steady
  pub by_itself : IsTrue before.steady → ¬ (result ≡ Failed)
  -- no read closes an inlet, and once it is closed each read fails
  pub same_closed : after.closed ≡ before.closed
  pub after_close : IsTrue before.closed → result ≡ Failed

-- what filling a place tells: all of its bytes came; or only the first ones, since the inlet ended or failed
abbrev pub FilledAs : List ℕ → InletReading → InletReading → Filled → Type 0
FilledAs into before after Full =
    (before.told ≡ ahead into after.told)
    × (after.faults ≡ before.faults)
    × (after.ended ≡ before.ended)
FilledAs into before after (Short count) =
    (count < length into)
    × (before.told ≡ ahead (take count into) after.told)
    × IsAtEnd after.told
    × (after.faults ≡ before.faults)
    × IsTrue after.ended
FilledAs into before after Faulty =
    Rose before.faults after.faults
    × (after.ended ≡ before.ended)
    × ¬ IsTrue before.steady
    × ((count : ℕ) × (count < length into) × (before.told ≡ ahead (take count into) after.told))

-- What filling a place does, in as many reads as it takes.
pub record Fills (into : List ℕ) (before after : InletReading) (result : Filled) : Type 0 where
  pub filled : FilledAs into before after result
  pub faults_grow : before.faults ≤ after.faults
  pub keeps_steady : IsTrue before.steady → IsTrue after.steady
  pub same_closed : after.closed ≡ before.closed
