-- What the reader of one peer reads and pushes.
use Rattle.std.specs.Prelude.{◌≡◌, ℕ, suc, ◌<◌, ◌≤◌, ◌^◌, ◌⊎◌, is_err, IsTrue, List, [], ◌∷◌, ◌++◌, length, Option, None, Some, Result, Ok, Err}
use Rattle.std.specs.List.{AllByRecursion}
use Rattle.plan_model.specs.declared.key.Key.{Key}
use Rattle.outer_io.specs.Inlet.{InletReading, ahead}
use Rattle.frame_code.specs.declared.framing.Framing.{Framing}
use Rattle.frame_code.specs.Frames.{frame}
use Rattle.node_talk.specs.declared.fault.NodeFault.{NodeFault}
use Rattle.inbox_board.specs.Rule.{newcomer, ends}
use Rattle.inbox_board.specs.Seats.{InboxModel, SeatModel, mark_of}
use Rattle.inbox_board.specs.Folds.{pushed}
use Rattle.link_reader.specs.Wakers.{WakerModel, gives}
use Rattle.link_reader.specs.Expected.{TalkModel, framing_of}
use Rattle.link_reader.specs.Heard.{hello_of, KeepsCalm, NoFrame, NoHello}

-- the frames of the first messages, with these words
abbrev pub framed : Framing → List Key → List ℕ → List ℕ
framed f [] words = []
framed f (key ∷ keys) [] = []
framed f (key ∷ keys) (word ∷ words) = frame f key word ++ framed f keys words

-- the hello came, and then these words of the ring, each in the frame of the next message
pub record WordsCame (talk : TalkModel) (words : List ℕ) (before after : InletReading) : Type 0 where
  pub few : length words ≤ length talk.keys
  pub small : AllByRecursion (λ word. word < 2 ^ talk.bits) words
  pub told : before.told ≡ ahead (hello_of talk ++ framed (framing_of talk) talk.keys words) after.told
  pub faults : after.faults ≡ before.faults
  pub ended : after.ended ≡ before.ended

-- the hello came, and then these words and no more: there was no next frame
pub record CameShort (talk : TalkModel) (words : List ℕ) (before after : InletReading) (fault : NodeFault)
    : Type 0 where
  pub now : InletReading
  pub came : WordsCame talk words before now
  pub missing : length words < length talk.keys
  pub no_frame : NoFrame talk (length words) now after fault

-- these words were read: all that are expected, or those before the fault
abbrev pub ReadsWords : TalkModel → List ℕ → InletReading → InletReading → Result (Unit {0}) NodeFault → Type 0
ReadsWords talk words before after (Ok _) = WordsCame talk words before after × (length words ≡ length talk.keys)
ReadsWords talk words before after (Err fault) =
    ((words ≡ []) × NoHello talk before after fault) ⊎ CameShort talk words before after fault

-- a reader: what its inlet shows, what it expects, its inbox and its seat there, what it wakes its party with, and how
-- its work ended, once it did
pub record ReaderModel : Type 0 where
  pub inlet : InletReading
  pub talk : TalkModel
  pub inbox : InboxModel
  pub seat : SeatModel
  pub waker : WakerModel
  pub outcome : Option (Result (Unit {0}) NodeFault)

-- the inbox has a place for each message, and the seat is the one that writes there, new where nothing was done yet
pub record CanWork (reader : ReaderModel) : Type 0 where
  pub id : reader.seat.id ≡ reader.inbox.id
  pub places : length reader.talk.keys ≡ reader.inbox.places
  pub new : reader.outcome ≡ None → reader.seat.view ≡ newcomer 1

-- what the work of a reader comes to: it pushed the words that it read, left the mark of its outcome, gave its party a
-- token for each of these words and one at the end, closed its inlet and kept that outcome, and nothing else changed
pub record HasRead (before after : ReaderModel) : Type 0 where
  pub outcome : Result (Unit {0}) NodeFault
  pub words : List ℕ
  pub reads : ReadsWords before.talk words before.inlet after.inlet outcome
  pub steady : KeepsCalm before.inlet after.inlet
  pub closed : IsTrue after.inlet.closed
  pub leaves : after
      ≡ record before {
        inlet = after.inlet;
        seat = record before.seat { view = ends (pushed (newcomer 1) words) (mark_of (is_err outcome)) };
        waker = gives before.waker (suc (length words));
        outcome = Some outcome;
      }

-- a reader works once
abbrev pub WorksFrom : Option (Result (Unit {0}) NodeFault) → ReaderModel → ReaderModel → Type 0
WorksFrom None before after = HasRead before after
WorksFrom (Some outcome) before after = after ≡ before

abbrev pub Works : ReaderModel → ReaderModel → Type 0
Works before after = WorksFrom before.outcome before after
