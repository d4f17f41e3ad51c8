-- What a node keeps while it runs its sessions: its outlets, the words that it sent and read, and the inboxes of its
-- peers.
use Rattle.std.specs.Prelude.{◌≡◌, ◌≢◌, ℕ, ◌+◌, ◌%◌, ◌<◌, ◌≤◌, ◌^◌, Bool, [], List, map, filter, length, take, slice_index, slice_index_or, false, Option, None, Some, Result, Ok, Err, IsTrue, OnOk}
use Rattle.std.specs.Option.{option_map}
use Rattle.atomic_table.specs.Seated.{TableId}
use Rattle.message_board.specs.Pairs.{Knows}
use Rattle.message_board.specs.Plain.{CellContents, plain_cell, plain_put}
use Rattle.inbox_board.specs.declared.steps.InboxView.{InboxView}
use Rattle.inbox_board.specs.Rule.{newcomer, notes}
use Rattle.inbox_board.specs.Seats.{Looks, mark_as}
use Rattle.plan_model.specs.Plans.{Plan, slots}
use Rattle.plan_model.specs.Firsts.{first}
use Rattle.plan_model.specs.Sound.{IsSound}
use Rattle.plan_model.specs.Messages.{messages}
use Rattle.plan_model.specs.Numbers.{message}
use Rattle.outer_io.specs.Links.{are_flushed}
use Rattle.outer_io.specs.Outlet.{OutletReading}
use Rattle.outer_io.specs.Sink.{SinkReading, Writes}
use Rattle.outer_io.specs.declared.sink.Failed.{Failed}
use Rattle.frame_code.specs.declared.framing.FrameForm.{FrameForm}
use Rattle.frame_code.specs.declared.framing.Framing.{Framing}
use Rattle.frame_code.specs.Frames.{frame}
use Rattle.node_talk.specs.Talks.{goes}
use Rattle.node_talk.specs.PeerLinks.{place_among, no_outlet}

-- a peer's inbox: which it is, how many places it has, and what the party's seat knows
pub record BoxModel : Type 0 where
  pub id : TableId
  pub places : ℕ
  pub view : InboxView

-- the outlets and inboxes stand in the order of the peers, words and places by the numbers of messages
pub record Mail : Type 0 where
  pub plan : Plan
  pub me : ℕ
  pub form : FrameForm
  pub outlets : List OutletReading
  pub words : CellContents
  pub boxes : List BoxModel
  -- where each message to the party stands in its sender's inbox
  pub places : List ℕ
  -- the peer to which a send failed
  pub failed : Option ℕ

-- how messages are framed
abbrev pub framing_with : Mail → Framing
framing_with x = record { form = x.form; bits = x.plan.bits }

-- the outlet to q
abbrev pub link_to : Mail → ℕ → OutletReading
link_to x q = slice_index_or x.outlets (place_among x.me q) no_outlet

-- as a sink
abbrev pub outlet_to : Mail → ℕ → SinkReading
outlet_to x q = (link_to x q).sink

-- nothing waits for any peer
abbrev pub NothingWaits : Mail → Type 0
NothingWaits x = IsTrue (are_flushed x.outlets)

-- what stands for an inbox that isn't there
abbrev pub no_box : BoxModel
no_box = record {
  id = record { words = 0; slots = 0; views_name = 0; atom = 0; block = 0; offset = 0; slot_names = [] };
  places = 0;
  view = newcomer 0;
}

-- the inbox of q
abbrev pub box_of : Mail → ℕ → BoxModel
box_of x q = slice_index_or x.boxes (place_among x.me q) no_box

-- message m stands in slot k of session s
pub record StandsIn (plan : Plan) (s k m : ℕ) : Type 0 where
  pub session : s < length plan.sessions
  pub slot : k < slots plan s
  pub begin : first plan s k ≤ m
  pub end : m < first plan s (k + 1)

-- message m goes from a peer to the party
pub record ComesFromPeer (x : Mail) (m : ℕ) : Type 0 where
  pub there : m < length (messages x.plan)
  pub receiver : (message x.plan m).receiver ≡ x.me
  pub sender : (message x.plan m).sender ≢ x.me

-- a word that was read: it is that at its place in the sender's inbox, as a number of the ring
pub record IsRead (x : Mail) (m v : ℕ) : Type 0 where
  pub there : m < length (messages x.plan)
  pub found : ℕ
  pub known : Knows (box_of x (message x.plan m).sender).view.seen (slice_index x.places m) found
  pub reduced : v ≡ found % 2 ^ x.plan.bits

-- where message m stands among those that its sender sends to party p
abbrev pub place_to : Plan → ℕ → ℕ → ℕ
place_to plan p m = length (filter (goes (message plan m).sender p) (take m (messages plan)))

-- there is an outlet and an inbox for each peer and a cell for each message; each message of a peer to the party has
-- its place, and each word that is kept of one was read there. The word of a message that stays with the party is in
-- its cell alone
pub record IsMail (x : Mail) : Type 0 where
  pub sound : IsSound x.plan
  pub me : x.me < x.plan.parties
  pub outlets : length x.outlets + 1 ≡ x.plan.parties
  pub boxes : length x.boxes + 1 ≡ x.plan.parties
  pub cells : length x.words.cells ≡ length (messages x.plan)
  pub bits : x.words.bits ≡ x.plan.bits
  pub places : length x.places ≡ length (messages x.plan)
  pub placed : (m : ℕ) → ComesFromPeer x m → slice_index x.places m ≡ place_to x.plan x.me m
  pub room : (m : ℕ) → ComesFromPeer x m → slice_index x.places m < (box_of x (message x.plan m).sender).places
  pub read : (m v : ℕ) → ComesFromPeer x m → plain_cell x.words.cells m ≡ Some v → IsRead x m v

-- ---- what posts and takes do

-- the peer that is kept after a send to q
abbrev pub failed_after : ℕ → Result (Unit {0}) Failed → Option ℕ → Option ℕ
failed_after q (Ok _) before = before
failed_after q (Err _) before = Some q

-- the same, with this word kept of message m, where none was
abbrev pub with_post : Mail → ℕ → ℕ → Mail
with_post x m word = record x { words = record x.words { cells = plain_put x.words.cells m word } }

-- the outlet to q was given these bytes
pub record SentTo (q : ℕ) (bytes : List ℕ) (before after : Mail) : Type 0 where
  pub result : Result (Unit {0}) Failed
  pub writes : Writes bytes (outlet_to before q) (outlet_to after q) result
  pub others : (r : ℕ) → r < before.plan.parties → r ≢ before.me → r ≢ q → link_to after r ≡ link_to before r
  pub rest : after ≡ record before { outlets = after.outlets; failed = failed_after q result before.failed }

-- the outlet to q was flushed
pub record FlushedTo (q : ℕ) (before after : Mail) : Type 0 where
  pub sent : SentTo q [] before after
  pub out : OnOk sent.result ((link_to after q).holds ≡ false)

-- a post of message m kept this word, and sent its frame where the message goes to a peer
pub record Posts (before : Mail) (m word : ℕ) (after : Mail) : Type 0 where
  pub stays : (message before.plan m).receiver ≡ before.me → after ≡ with_post before m word
  pub goes : (message before.plan m).receiver ≢ before.me
      → SentTo (message before.plan m).receiver (frame (framing_with before) (message before.plan m) word)
      (with_post before m word) after

-- the party sends message m, and this is a word of the ring
pub record MayPost (x : Mail) (m word : ℕ) : Type 0 where
  pub there : m < length (messages x.plan)
  pub sender : (message x.plan m).sender ≡ x.me
  pub small : word < 2 ^ x.plan.bits

-- message m goes to the party, and where it is its own, it was posted
pub record MayTake (x : Mail) (m : ℕ) : Type 0 where
  pub there : m < length (messages x.plan)
  pub receiver : (message x.plan m).receiver ≡ x.me
  pub kept : (message x.plan m).sender ≡ x.me → (v : ℕ) × (plain_cell x.words.cells m ≡ Some v)

-- what an answer says of the words: that word is kept of the message and the others stay, or nothing changed
abbrev pub AnswersAs : ℕ → Option ℕ → List (Option ℕ) → List (Option ℕ) → Type 0
AnswersAs m None before after = after ≡ before
AnswersAs m (Some v) before after = (plain_cell after m ≡ Some v) × (after ≡ plain_put before m v)

-- a look into the sender's inbox for message m found the word at the message's place, or a count that isn't past it
pub record Looked (before : Mail) (m : ℕ) (answer : Option ℕ) (after : Mail) : Type 0 where
  pub rest : after ≡ record before { boxes = after.boxes }
  pub ids : map (λ (b : BoxModel). b.id) after.boxes ≡ map (λ (b : BoxModel). b.id) before.boxes
  pub looks : Looks (box_of before (message before.plan m).sender).view (slice_index before.places m) answer
      (box_of after (message before.plan m).sender).view
  pub others : (q : ℕ) → q ≢ before.me → q ≢ (message before.plan m).sender → box_of after q ≡ box_of before q

-- a look at the mark of message m's sender found it: that its reader ended, by a fault or not, or that it goes on
pub record LookedAtMark (before : Mail) (m : ℕ) (answer : Option Bool) (after : Mail) : Type 0 where
  pub rest : after ≡ record before { boxes = after.boxes }
  pub ids : map (λ (b : BoxModel). b.id) after.boxes ≡ map (λ (b : BoxModel). b.id) before.boxes
  pub found : ℕ
  pub answers : answer ≡ mark_as found
  pub noted : (box_of after (message before.plan m).sender).view
      ≡ notes (box_of before (message before.plan m).sender).view found
  pub others : (q : ℕ) → q ≢ before.me → q ≢ (message before.plan m).sender → box_of after q ≡ box_of before q

-- the word of message m, which is of a peer, won't come: its sender's reader ended by a fault, and a look after that
-- found how many words it had pushed, which are too few
pub record NeverComes (x : Mail) (m : ℕ) : Type 0 where
  pub peer : (message x.plan m).sender ≢ x.me
  pub ended : (box_of x (message x.plan m).sender).view.noted ≡ 2
  pub total : ℕ
  pub found : (box_of x (message x.plan m).sender).view.total ≡ Some total
  pub few : total ≤ slice_index x.places m

-- where a take of message m has its answer from, by the word that was kept of it: that word, or where none was, what a
-- look found, as a number of the ring
abbrev pub TakesFrom : Mail → ℕ → Option ℕ → Option ℕ → Mail → Type 0
TakesFrom before m (Some v) answer after = (answer ≡ Some v) × (after ≡ before)
TakesFrom before m None answer after =
    (found : Option ℕ) × Looked before m found (record after { words = before.words })
    × (answer ≡ option_map (λ w. w % 2 ^ before.plan.bits) found)

-- a take of message m read its word, or found its place empty
pub record TakesWord (before : Mail) (m : ℕ) (answer : Option ℕ) (after : Mail) : Type 0 where
  pub rest : after ≡ record before { words = after.words; boxes = after.boxes }
  pub answers : AnswersAs m answer before.words.cells after.words.cells
  pub from : TakesFrom before m (plain_cell before.words.cells m) answer after
  pub count : length after.words.cells ≡ length before.words.cells
  pub ids : map (λ (b : BoxModel). b.id) after.boxes ≡ map (λ (b : BoxModel). b.id) before.boxes
