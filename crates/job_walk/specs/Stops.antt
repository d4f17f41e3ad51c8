-- The exit status of each reason to stop.
use Rattle.std.specs.Prelude.{◌≡◌, ◌≢◌, ℕ, List}
use Rattle.job_walk.specs.declared.stop.Stop.{Stop}
use Rattle.job_walk.specs.declared.stop.Stop.TheVariants.{Words, Refused, Covering, Files, Out, Net, Peer, Memory}

abbrev pub status_of : Stop → ℕ
status_of Words = 2
status_of (Refused line) = 3
status_of (Covering line) = 4
status_of (Files name) = 5
status_of Out = 5
status_of Net = 5
status_of (Peer names fault) = 5
status_of Memory = 6

-- the stop of a fault with this number and line: the refusal with the line, unless the fault is want of memory, which
-- has the number 0. Memory may always run out.
abbrev pub IsStopOf : ℕ → List ℕ → Stop → Type 0
IsStopOf number line Memory = Unit {0}
IsStopOf number line Words = ⊥
IsStopOf number line Out = ⊥
IsStopOf number line Net = ⊥
IsStopOf number line (Peer names fault) = ⊥
IsStopOf number line (Files name) = ⊥
IsStopOf number line (Refused told) = (number ≢ 0) × (told.items ≡ line)
IsStopOf number line (Covering told) = ⊥
