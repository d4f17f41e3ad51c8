-- What a node's run says: its answer, what its links took and gave, and what stays steady.
use Rattle.std.specs.Prelude.{◌≡◌, ◌≢◌, ◌⊎◌, ℕ, ◌-◌, ◌<◌, ◌≤◌, ◌^◌, IsTrue, IsOk, IsErr, IfOk, IfErr, List, Result, Err}
use Rattle.std.specs.List.{AllByRecursion}
use Rattle.plan_model.specs.declared.key.Key.{Key}
use Rattle.share_world.specs.Laws.{IsWhole}
use Rattle.outer_io.specs.Count.{Rose}
use Rattle.outer_io.specs.Inlet.{ahead, shut_inlet}
use Rattle.outer_io.specs.Jobs.{SpawnerReading}
use Rattle.outer_io.specs.Links.{LinksReading, HasPeers, are_closed, are_flushed}
use Rattle.outer_io.specs.Sink.{SinkReading, added}
use Rattle.frame_code.specs.Frames.{hello}
use Rattle.node_talk.specs.declared.fault.NodeFault.{NodeFault}
use Rattle.node_talk.specs.declared.fault.NodeFault.TheVariants.{Link, Closed, BadFrame, OtherJob, NoThread}
use Rattle.node_talk.specs.Talks.{Node, IsPeer, expected, heard}
use Rattle.node_talk.specs.PeerLinks.{in_from, out_to}
use Rattle.node_talk.specs.Causes.{Cause}
use Rattle.node_talk.specs.Runs.{Results, IsDone, TalkedThrough, BrokeOff, HearsAll, NoSendRose, NoneRose, HearsWorld, IsOfWorld}
use Rattle.link_reader.specs.Heard.{KeepsCalm}
use Rattle.link_reader.specs.NodeReaders.{ReadsFrom}
use Rattle.node_run.specs.Progress.{talk_bytes}
use Rattle.node_run.specs.Remains.{SpawnerStays}

-- ---- which fault is told

-- the inlet from q gave its hello and all expected frames, with words of the ring
abbrev pub GaveAll : Node → LinksReading → LinksReading → ℕ → Type 0
GaveAll n before after q =
    (word : Key → ℕ) × AllByRecursion (λ key. word key < 2 ^ n.world.plan.bits) (expected n q)
    × ((in_from n before q).told ≡ ahead (heard n q word) (in_from n after q).told)

-- so did that of each peer below q
abbrev pub GaveAllBelow : Node → LinksReading → LinksReading → ℕ → Type 0
GaveAllBelow n before after q = (r : ℕ) → IsPeer n r → r < q → GaveAll n before after r

-- the reader of q was started, or did its work where it was handed back: it read these words up to its end
abbrev pub WasRead : Node → LinksReading → LinksReading → ℕ → Type 0
WasRead n before after q =
    (words : List ℕ) × (result : Result (Unit {0}) NodeFault) × ReadsFrom n q words before after result

-- nothing was read of q, and its inlet was closed
abbrev pub Unread : Node → LinksReading → LinksReading → ℕ → Type 0
Unread n before after q = in_from n after q ≡ shut_inlet (in_from n before q)

-- q is the first peer whose reader wasn't started: the readers before it were, and read, those after it were not, and
-- its own did nothing or all its work
pub record IsFirstUnstarted (n : Node) (before after : LinksReading) (q : ℕ) : Type 0 where
  pub below : (r : ℕ) → IsPeer n r → r < q → WasRead n before after r
  pub itself : Unread n before after q ⊎ WasRead n before after q
  pub above : (r : ℕ) → IsPeer n r → q < r → Unread n before after r

-- the fault is that of the least peer from which not all came, but where a send failed; or it names the first peer
-- whose reader wasn't started
abbrev pub IsFirst : Node → LinksReading → LinksReading → NodeFault → Type 0
IsFirst n before after (Link q) =
    Rose (out_to n before q).faults (out_to n after q).faults ⊎ GaveAllBelow n before after q
IsFirst n before after (Closed q at) = GaveAllBelow n before after q
IsFirst n before after (BadFrame q at bytes) = GaveAllBelow n before after q
IsFirst n before after (OtherJob q ours theirs) = GaveAllBelow n before after q
IsFirst n before after (NoThread q) = IsFirstUnstarted n before after q

-- an outlet whose count of faults changed is the one that is told
abbrev pub TellsSends : Node → LinksReading → LinksReading → Result Results NodeFault → Type 0
TellsSends n before after result =
    (q : ℕ) → IsPeer n q → (out_to n after q).faults ≢ (out_to n before q).faults → result ≡ Err (Link q)

-- an inlet whose count of faults changed is answered with a fault
abbrev pub TellsReads : Node → LinksReading → LinksReading → Result Results NodeFault → Type 0
TellsReads n before after result =
    (q : ℕ) → IsPeer n q → (in_from n after q).faults ≢ (in_from n before q).faults → IsErr result

-- ---- a start that was refused

-- each outlet took the hello and no more
abbrev pub OnlyGreets : Node → LinksReading → LinksReading → Type 0
OnlyGreets n before after =
    (q : ℕ) → IsPeer n q → (out_to n after q).told ≡ added (out_to n before q).told (hello n.me q n.digest)

-- where a reader wasn't started, nothing but hellos was said
abbrev pub NothingSaid : Node → LinksReading → LinksReading → NodeFault → Type 0
NothingSaid n before after (NoThread q) = OnlyGreets n before after
NothingSaid n before after _ = Unit {0}

-- a count of refusals that changed is told
abbrev pub TellsRefusals : ℕ → ℕ → Result Results NodeFault → Type 0
TellsRefusals refusals refusals' result = refusals' ≢ refusals → (q : ℕ) × (result ≡ Err (NoThread q))

-- ---- what stays steady

-- The outlet's count of faults never falls, and that of a steady outlet with room for the talk stays.
pub record KeepsOutlet (n : Node) (q : ℕ) (before after : SinkReading) : Type 0 where
  pub faults_grow : before.faults ≤ after.faults
  pub room : IsTrue before.steady → talk_bytes n q ≤ before.room → after.faults ≡ before.faults

-- no steady inlet or spawner fails, no steady outlet that has room fails, and a steady spawner stays steady
pub record StaySteady (n : Node) (before after : LinksReading) (spawner spawner' : SpawnerReading) : Type 0 where
  pub inlets : (q : ℕ) → IsPeer n q → KeepsCalm (in_from n before q) (in_from n after q)
  pub outlets : (q : ℕ) → IsPeer n q → KeepsOutlet n q (out_to n before q) (out_to n after q)
  pub spawner_stays : SpawnerStays spawner spawner'

-- ---- a run

-- what the run of a node says, over links that showed this before it and after it
pub record Runs (n : Node) (before after : LinksReading) (spawner spawner' : SpawnerReading)
    (result : Result Results NodeFault) : Type 0 where
  -- there are as many links as before, and all are closed
  pub peers : HasPeers (n.world.plan.parties - 1) after
  pub closed : IsTrue (are_closed after)
  -- where no send failed, all that was said went out
  pub gone : NoSendRose n before after → IsTrue (are_flushed after.outlets)
  -- at Ok it said its whole talk and heard all that it expects, and it has the words and the outputs
  pub done : IfOk result (λ r. (got : Key → ℕ) × IsDone n got r × TalkedThrough n got before after)
  -- at a fault it said a first part of its talk, up to the first take of a word that didn't come, and where no send
  -- failed and all readers were started, all of that
  pub broke : IfErr result (λ fault. (got : Key → ℕ) × BrokeOff n got before after fault)
  -- the fault has its cause, and is the first
  pub cause : IfErr result (Cause n before after spawner.refusals spawner'.refusals)
  pub least : IfErr result (IsFirst n before after)
  pub sends : TellsSends n before after result
  pub reads : TellsReads n before after result
  pub starts : TellsRefusals spawner.refusals spawner'.refusals result
  pub unsaid : IfErr result (NothingSaid n before after)
  -- where it hears all that it expects and nothing fails, it ends well
  pub completes : HearsAll n before → NoneRose n before after → ¬ Rose spawner.refusals spawner'.refusals → IsOk result
  -- among peers of one world its outputs are the plain values
  pub joins : IsWhole n.world → HearsWorld n before → IfOk result (λ r. IsOfWorld n r before after)
  pub steady : StaySteady n before after spawner spawner'
