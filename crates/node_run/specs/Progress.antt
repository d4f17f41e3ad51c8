-- How far a node has come.
use Rattle.std.specs.Prelude.{◌≡◌, ◌≢◌, ℕ, ◌+◌, ◌-◌, ◌<◌, ◌≤◌, false, IsTrue, List, length, map, slice_get, Option, None, Some}
use Rattle.message_board.specs.Plain.{plain_cell}
use Rattle.plan_model.specs.declared.key.Key.{Key}
use Rattle.plan_model.specs.Messages.{messages}
use Rattle.plan_model.specs.Numbers.{message}
use Rattle.program_model.specs.declared.instruction.Instruction.TheVariants.{Post, Take}
use Rattle.program_model.specs.Programs.{program, at}
use Rattle.party_desk.specs.declared.desk.Desk.{Desk}
use Rattle.party_desk.specs.Desks.{IsDesk}
use Rattle.program_laws.specs.Meets.{local_given}
use Rattle.program_laws.specs.Parts.{IsPart}
use Rattle.outer_io.specs.Count.{Rose}
use Rattle.outer_io.specs.Links.{LinksReading}
use Rattle.outer_io.specs.Sink.{SinkReading, added, AddedPrefix}
use Rattle.frame_code.specs.Frames.{hello, frame_begin}
use Rattle.node_talk.specs.Talks.{Node, framing, acts, IsPeer, own_word, messages_between, posts_to, said}
use Rattle.node_talk.specs.PeerLinks.{out_to}
use Rattle.node_talk.specs.Runs.{FailsAfter, GoesOut}
use Rattle.list_laws.specs.Lists.{joined}
use Rattle.atomic_table.specs.Seated.{TableId}
use Rattle.node_run.specs.Mail.{Mail, BoxModel, NeverComes, NothingWaits, link_to, outlet_to}
use Rattle.frame_code.specs.declared.sizes.TheConstants.{HELLO_BYTES}

-- how many instructions stand before session s
abbrev pub before_session : Node → ℕ → ℕ
before_session n s = length (joined s (program n.world.plan n.me))

-- the words that are kept of messages to the party are so
abbrev pub Agrees : Node → List (Option ℕ) → (Key → ℕ) → Type 0
Agrees n cells got =
    (m v : ℕ) → (message n.world.plan m).receiver ≡ n.me → plain_cell cells m ≡ Some v
    → got (message n.world.plan m) ≡ v

-- the word of each take among the first k instructions is kept
abbrev pub HasTaken : Node → ℕ → List (Option ℕ) → Type 0
HasTaken n k cells = (j m i : ℕ) → j < k → at (acts n) j ≡ Take m i → (v : ℕ) × (plain_cell cells m ≡ Some v)

-- the word of each post among the first k instructions is kept
abbrev pub HasPosted : Node → ℕ → List (Option ℕ) → Type 0
HasPosted n k cells = (j m i : ℕ) → j < k → at (acts n) j ≡ Post m i → (v : ℕ) × (plain_cell cells m ≡ Some v)

-- each word that is kept is of a message to the party, or that it sends; of one that it sends it is what the party
-- computes from the words of messages to it
pub record KeepsOwn (n : Node) (cells : List (Option ℕ)) : Type 0 where
  pub sender : (m v : ℕ) → plain_cell cells m ≡ Some v → (message n.world.plan m).receiver ≢ n.me
      → (message n.world.plan m).sender ≡ n.me
  pub word : (m v : ℕ) → plain_cell cells m ≡ Some v → (message n.world.plan m).sender ≡ n.me
      → (got : Key → ℕ) → Agrees n cells got → v ≡ own_word n got (message n.world.plan m)

-- no word is lost
abbrev pub KeepsWords : Mail → Mail → Type 0
KeepsWords before after = (m v : ℕ) → plain_cell before.words.cells m ≡ Some v → plain_cell after.words.cells m ≡ Some v

-- what a run begins with: what the links show, and which inboxes there are
pub record Begin : Type 0 where
  pub links : LinksReading
  pub ids : List TableId

-- which inboxes these are
abbrev pub ids_of : List BoxModel → List TableId
ids_of boxes = map (λ (b : BoxModel). b.id) boxes

-- how many bytes the party says to q, and by its first k instructions, whatever the words are
abbrev pub talk_bytes : Node → ℕ → ℕ
talk_bytes n q = frame_begin (framing n) (length (messages_between n.world.plan n.me q))

abbrev pub said_bytes : Node → ℕ → ℕ → ℕ
said_bytes n q k = frame_begin (framing n) (length (posts_to n q k))

-- a steady outlet that took `bytes` bytes is steady, with room for as many less
pub record KeepsRoom (bytes : ℕ) (before after : SinkReading) : Type 0 where
  pub steady : IsTrue before.steady → IsTrue after.steady
  pub room : IsTrue before.steady → after.room ≡ before.room - bytes

-- what sends leave of the outlet to q: its count of faults never falls, and stays unless a send to q failed; a steady
-- one stays steady, and with room for the talk no send to q fails
pub record OutletStays (n : Node) (q : ℕ) (failed : Option ℕ) (before after : SinkReading) : Type 0 where
  pub grows : before.faults ≤ after.faults
  pub calm : failed ≢ Some q → after.faults ≡ before.faults
  pub steady : IsTrue before.steady → IsTrue after.steady
  pub room : IsTrue before.steady → talk_bytes n q ≤ before.room → failed ≢ Some q

-- what is kept is of this party, with the inboxes of the begin
pub record IsOf (n : Node) (start : Begin) (now : Mail) : Type 0 where
  pub part : IsPart n.world n.me
  pub digest : length n.digest ≡ 32
  pub plan : now.plan ≡ n.world.plan
  pub me : now.me ≡ n.me
  pub form : now.form ≡ n.form
  pub ids : ids_of now.boxes ≡ start.ids
  pub cells : length now.words.cells ≡ length (messages n.world.plan)

-- the first k instructions are done, and nothing failed
pub record Going (n : Node) (k : ℕ) (start : Begin) (now : Mail) : Type 0 where
  pub own : IsOf n start now
  pub within : k ≤ length (acts n)
  pub taken : HasTaken n k now.words.cells
  pub posted : HasPosted n k now.words.cells
  pub own_words : KeepsOwn n now.words.cells
  pub sent : (got : Key → ℕ) → Agrees n now.words.cells got → (q : ℕ) → IsPeer n q
      → (outlet_to now q).told ≡ added (out_to n start.links q).told (said n q (own_word n got) k)
  pub calm : (q : ℕ) → IsPeer n q → (outlet_to now q).faults ≡ (out_to n start.links q).faults
  pub room : (q : ℕ) → IsPeer n q → KeepsRoom (said_bytes n q k) (out_to n start.links q) (outlet_to now q)
  pub quiet : now.failed ≡ None

-- of what the first k instructions say a first part was sent, each word that they take is kept, and each that they post
pub record Stopped (n : Node) (k : ℕ) (start : Begin) (now : Mail) : Type 0 where
  pub own : IsOf n start now
  pub within : k ≤ length (acts n)
  pub taken : HasTaken n k now.words.cells
  pub posted : HasPosted n k now.words.cells
  pub own_words : KeepsOwn n now.words.cells
  pub sent : (got : Key → ℕ) → Agrees n now.words.cells got → (q : ℕ) → IsPeer n q
      → AddedPrefix (out_to n start.links q).told (said n q (own_word n got) k) (outlet_to now q).told

-- the send to q failed after the first k instructions, whatever words are still to come
abbrev pub FailedAfter : Node → ℕ → Begin → Mail → ℕ → Type 0
FailedAfter n k start now q =
    (got : Key → ℕ) → Agrees n now.words.cells got
    → FailsAfter n (own_word n got) k (out_to n start.links) (outlet_to now) q

-- a send to a peer failed; or none did, and the next instruction takes a word that won't come
abbrev pub StopsBy : Node → ℕ → Begin → Mail → Option ℕ → Type 0
StopsBy n k start now (Some q) =
    IsPeer n q × Rose (out_to n start.links q).faults (outlet_to now q).faults × FailedAfter n k start now q
StopsBy n k start now None =
    Going n k start now × ((m : ℕ) × (i : ℕ) × (at (acts n) k ≡ Take m i) × NeverComes now m)

pub record Halted (n : Node) (start : Begin) (now : Mail) : Type 0 where
  pub k : ℕ
  pub stopped : Stopped n k start now
  pub why : StopsBy n k start now now.failed
  pub outlets : (q : ℕ) → IsPeer n q → OutletStays n q now.failed (out_to n start.links q) (outlet_to now q)

-- ---- what waits at the outlets

-- what waited for the peers below q was sent, and nothing failed: a run goes on as it went
pub record FlushedBelow (q : ℕ) (before now : Mail) : Type 0 where
  pub rest : now ≡ record before { outlets = now.outlets; failed = now.failed }
  pub out : (r : ℕ) → r < before.plan.parties → r ≢ before.me → r < q → (link_to now r).holds ≡ false
  pub going : (n : Node) (k : ℕ) (start : Begin) → Going n k start before → Going n k start now

-- a flush failed, which ends a run where what was said was to go out
pub record FlushFailed (before now : Mail) : Type 0 where
  pub rest : now ≡ record before { outlets = now.outlets; failed = now.failed }
  pub some : now.failed ≢ None
  pub halted : (n : Node) (k : ℕ) (start : Begin) → Going n k start before → GoesOut n k → Halted n start now

-- ---- hellos

-- the peers below q were sent their hello, nothing failed, and no word is known
pub record Greeted (n : Node) (q : ℕ) (start : Begin) (now : Mail) : Type 0 where
  pub own : IsOf n start now
  pub words : (m : ℕ) → plain_cell now.words.cells m ≡ None
  pub sent : (r : ℕ) → IsPeer n r → r < q
      → (outlet_to now r).told ≡ added (out_to n start.links r).told (hello n.me r n.digest)
  pub calm : (r : ℕ) → IsPeer n r → (outlet_to now r).faults ≡ (out_to n start.links r).faults
  pub room : (r : ℕ) → IsPeer n r → r < q → KeepsRoom HELLO_BYTES (out_to n start.links r) (outlet_to now r)
  pub others : (r : ℕ) → IsPeer n r → q ≤ r → outlet_to now r ≡ out_to n start.links r
  pub quiet : now.failed ≡ None

-- the hellos of all peers went out, nothing failed, and no word is known
pub record AllGreeted (n : Node) (start : Begin) (now : Mail) : Type 0 where
  pub going : Going n 0 start now
  pub words : (m : ℕ) → plain_cell now.words.cells m ≡ None
  pub out : NothingWaits now

-- a hello failed, and no word is known
pub record Ungreeted (n : Node) (start : Begin) (now : Mail) : Type 0 where
  pub halted : Halted n start now
  pub some : now.failed ≢ None
  pub words : (m : ℕ) → plain_cell now.words.cells m ≡ None

-- ---- sessions

-- a desk of session s, which stands where its program leaves it whatever words are still to come
pub record InSession (n : Node) (s : ℕ) (start : Begin) (d : Desk) (now : Mail) : Type 0 where
  pub session : s < length n.world.plan.sessions
  pub desk : (got : Key → ℕ) → Agrees n now.words.cells got → IsDesk (local_given n.world got s n.me) d
  pub going : Going n (before_session n s + d.position) start now

-- the sessions before s are done, the others are new
pub record InOrder (n : Node) (s : ℕ) (start : Begin) (ds : List Desk) (now : Mail) : Type 0 where
  pub many : length ds ≡ length n.world.plan.sessions
  pub done : (got : Key → ℕ) → Agrees n now.words.cells got → (t : ℕ) (d : Desk) → t < s
      → slice_get ds t ≡ Some d → IsDesk (local_given n.world got t n.me) d
  pub ended : (t : ℕ) (d : Desk) → t < s → slice_get ds t ≡ Some d
      → d.position ≡ length (program n.world.plan n.me t)
  pub new : (got : Key → ℕ) (t : ℕ) (d : Desk) → s ≤ t → slice_get ds t ≡ Some d
      → IsDesk (local_given n.world got t n.me) d
  pub still : (t : ℕ) (d : Desk) → s ≤ t → slice_get ds t ≡ Some d → d.position ≡ 0
  pub going : Going n (before_session n s) start now
