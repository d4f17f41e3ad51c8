-- What is heard of a peer: its hello, a frame, or why there was none.
use Rattle.std.specs.Prelude.{◌≡◌, ◌≢◌, ℕ, ◌+◌, ◌<◌, ◌≤◌, ◌^◌, IsTrue, List, length, None, Result, Ok, Err}
use Rattle.outer_io.specs.Count.{Rose}
use Rattle.outer_io.specs.Inlet.{InletReading, ahead, IsAtEnd}
use Rattle.frame_code.specs.Frames.{hello, frame, frame_begin, frame_bytes, shown}
use Rattle.node_talk.specs.declared.fault.NodeFault.{NodeFault}
use Rattle.node_talk.specs.declared.fault.NodeFault.TheVariants.{Link, Closed, BadFrame, OtherJob, NoThread}
use Rattle.node_talk.specs.Causes.{IsWordOf}
use Rattle.link_reader.specs.Expected.{TalkModel, framing_of, key_at}
use Rattle.frame_code.specs.declared.sizes.TheConstants.{HELLO_BYTES}

-- the hello that is expected
abbrev pub hello_of : TalkModel → List ℕ
hello_of talk = hello talk.peer talk.me talk.digest

-- the count of faults never falls, and a steady inlet stays steady and doesn't fail
pub record StaysSteady (before after : InletReading) : Type 0 where
  pub faults_grow : before.faults ≤ after.faults
  pub steady : IsTrue before.steady → IsTrue after.steady × (after.faults ≡ before.faults)

-- the count of faults never falls, and that of a steady inlet stays, which may be closed at the end
pub record KeepsCalm (before after : InletReading) : Type 0 where
  pub faults_grow : before.faults ≤ after.faults
  pub steady : IsTrue before.steady → after.faults ≡ before.faults

-- these bytes came, and nothing failed
pub record Gave (bytes : List ℕ) (before after : InletReading) : Type 0 where
  pub told : before.told ≡ ahead bytes after.told
  pub faults : after.faults ≡ before.faults
  pub ended : after.ended ≡ before.ended

-- of `wanted` bytes only the first came, and then the end: `count` bytes came in all, `at` of them before
pub record EndedWithin (wanted at count : ℕ) (before after : InletReading) : Type 0 where
  pub front : List ℕ
  pub short : length front < wanted
  pub in_all : count ≡ at + length front
  pub told : before.told ≡ ahead front after.told
  pub none_left : IsAtEnd after.told
  pub ended : IsTrue after.ended

-- these bytes came, but they are not the frame at this place with a word of the ring
pub record GaveNoFrame (talk : TalkModel) (place : ℕ) (bytes : List ℕ) (before after : InletReading) : Type 0 where
  pub long : length bytes ≡ frame_bytes (framing_of talk)
  pub told : before.told ≡ ahead bytes after.told
  pub no_frame : IsWordOf bytes (framing_of talk) (key_at talk place) None

-- these bytes came, but they are not the hello
pub record GaveOtherHello (talk : TalkModel) (bytes : List ℕ) (before after : InletReading) : Type 0 where
  pub long : length bytes ≡ HELLO_BYTES
  pub told : before.told ≡ ahead bytes after.told
  pub differ : bytes ≢ hello_of talk

-- why there was no frame at this place
abbrev pub NoFrame : TalkModel → ℕ → InletReading → InletReading → NodeFault → Type 0
NoFrame talk place before after (Link peer) = (peer ≡ talk.peer) × Rose before.faults after.faults
NoFrame talk place before after (Closed peer at) =
    (peer ≡ talk.peer)
    × EndedWithin (frame_bytes (framing_of talk)) (frame_begin (framing_of talk) place) at before after
NoFrame talk place before after (BadFrame peer at bytes) =
    (peer ≡ talk.peer) × (at ≡ frame_begin (framing_of talk) place) × GaveNoFrame talk place (shown bytes) before after
NoFrame talk place before after (OtherJob peer ours theirs) = ⊥
NoFrame talk place before after (NoThread peer) = ⊥

-- why there was no hello
abbrev pub NoHello : TalkModel → InletReading → InletReading → NodeFault → Type 0
NoHello talk before after (Link peer) = (peer ≡ talk.peer) × Rose before.faults after.faults
NoHello talk before after (Closed peer at) = (peer ≡ talk.peer) × EndedWithin HELLO_BYTES 0 at before after
NoHello talk before after (BadFrame peer at bytes) = ⊥
NoHello talk before after (OtherJob peer ours theirs) =
    (peer ≡ talk.peer) × (ours ≡ hello_of talk) × GaveOtherHello talk theirs before after
NoHello talk before after (NoThread peer) = ⊥

-- the frame at this place came with a word of the ring, or why it didn't
abbrev pub Hears : TalkModel → ℕ → InletReading → InletReading → Result ℕ NodeFault → Type 0
Hears talk place before after (Ok word) =
    (word < 2 ^ talk.bits) × Gave (frame (framing_of talk) (key_at talk place) word) before after
Hears talk place before after (Err fault) = NoFrame talk place before after fault

-- the hello came, or why it didn't
abbrev pub Meets : TalkModel → InletReading → InletReading → Result (Unit {0}) NodeFault → Type 0
Meets talk before after (Ok _) = Gave (hello_of talk) before after
Meets talk before after (Err fault) = NoHello talk before after fault
