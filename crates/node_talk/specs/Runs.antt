-- What the run of a node comes to.
use Rattle.std.specs.Prelude.{◌≡◌, ◌≢◌, ◌⊎◌, ℕ, suc, ◌<◌, ◌^◌, true, List, [], ◌∷◌, length, slice_index_or, Option, None, Some, unwrap_or}
use Rattle.std.specs.List.{AllByRecursion}
use Rattle.list_laws.specs.Lists.{joined, only_if}
use Rattle.session_slots.specs.Sessions.{readers, output_wire}
use Rattle.plan_model.specs.Plans.{Plan, session, reads}
use Rattle.plan_model.specs.Messages.{messages}
use Rattle.plan_model.specs.Numbers.{message}
use Rattle.plan_model.specs.declared.key.Key.{Key}
use Rattle.share_world.specs.Worlds.{word, plain, touches}
use Rattle.share_world.specs.Locals.{local_output}
use Rattle.program_model.specs.declared.instruction.Instruction.TheVariants.{Post, Take}
use Rattle.program_model.specs.Programs.{at}
use Rattle.outer_io.specs.Count.{Rose}
use Rattle.outer_io.specs.Inlet.{ahead}
use Rattle.outer_io.specs.Sink.{SinkReading, added, AddedPrefix}
use Rattle.outer_io.specs.Links.{LinksReading}
use Rattle.frame_code.specs.Frames.{hello, frame}
use Rattle.node_talk.specs.declared.fault.NodeFault.{NodeFault}
use Rattle.node_talk.specs.declared.fault.NodeFault.TheVariants.{NoThread}
use Rattle.node_talk.specs.Talks.{Node, IsPeer, framing, own_word, talk, expected, place_of, heard, acts, said, Begins, IsRun, EndsBefore}
use Rattle.node_talk.specs.PeerLinks.{in_from, out_to}
use Rattle.party_set.specs.Parties.{party_mask}

-- ---- what a node that is done has

-- the word of each message that the party sent or got, and the outputs of each session
pub record Results : Type 0 where
  pub words : List (Option ℕ)
  pub outputs : List (List (Option ℕ))

-- the word that it kept of message m
abbrev pub word_kept : Results → ℕ → Option ℕ
word_kept r m = slice_index_or r.words m None

-- output wire o of session s
abbrev pub output_of : Results → ℕ → ℕ → Option ℕ
output_of r s o = slice_index_or (slice_index_or r.outputs s []) o None

-- it has the words that it got, and the words that it sent and the outputs, which it computes from those, and no
-- others; a message that stays with it is of both kinds
pub record IsDone (n : Node) (got : Key → ℕ) (r : Results) : Type 0 where
  pub message_count : length r.words ≡ length (messages n.world.plan)
  pub session_count : length r.outputs ≡ length n.world.plan.sessions
  pub words : (m : ℕ) → m < length (messages n.world.plan) → (message n.world.plan m).receiver ≡ n.me
      → word_kept r m ≡ Some (got (message n.world.plan m))
  pub sent : (m : ℕ) → m < length (messages n.world.plan) → (message n.world.plan m).sender ≡ n.me
      → word_kept r m ≡ Some (own_word n got (message n.world.plan m))
  pub outputs : (s o : ℕ) → s < length n.world.plan.sessions → o < length (readers (session n.world.plan s))
      → reads n.world.plan n.me s o ≡ true → output_of r s o ≡ Some (local_output n.world got n.me s o)
  pub no_word : (m : ℕ) → (message n.world.plan m).receiver ≢ n.me → (message n.world.plan m).sender ≢ n.me
      → word_kept r m ≡ None
  pub no_output : (s o v : ℕ) → s < length n.world.plan.sessions → output_of r s o ≡ Some v
      → reads n.world.plan n.me s o ≡ true

-- what a party kept of its own view: each message that it sends or gets, in order, with the word that it kept
abbrev pub kept_view : Plan → ℕ → Results → List (Key × ℕ)
kept_view plan me r =
    joined (length (messages plan)) (λ m.
    only_if (touches (party_mask me) (message plan m)) ((message plan m, unwrap_or (word_kept r m) 0) ∷ []))

-- ---- what was said and heard

-- each outlet took all that the party says where it got these words, and each inlet gave the hello and the expected
-- frames with these words
pub record TalkedThrough (n : Node) (got : Key → ℕ) (before after : LinksReading) : Type 0 where
  pub told : (q : ℕ) → IsPeer n q
      → (out_to n after q).told ≡ added (out_to n before q).told (talk n q (own_word n got))
  pub heard : (q : ℕ) → IsPeer n q → (in_from n before q).told ≡ ahead (heard n q got) (in_from n after q).told
  pub small : (q : ℕ) → IsPeer n q → AllByRecursion (λ key. got key < 2 ^ n.world.plan.bits) (expected n q)

-- ---- where a run breaks off

-- message m is of the party itself, or among the first `came` ones of each peer
abbrev pub HasCome : Node → (ℕ → ℕ) → ℕ → Type 0
HasCome n came m =
    ((message n.world.plan m).sender ≡ n.me) ⊎ (place_of n m < came (message n.world.plan m).sender)

-- the first k instructions take only words that came
abbrev pub TakesWhatCame : Node → (ℕ → ℕ) → ℕ → Type 0
TakesWhatCame n came k = (j m i : ℕ) → j < k → at (acts n) j ≡ Take m i → HasCome n came m

-- the instruction after the first k takes a word that didn't come, or there is none
abbrev pub StopsAfter : Node → (ℕ → ℕ) → ℕ → Type 0
StopsAfter n came k = (k ≡ length (acts n)) ⊎ ((m : ℕ) × (i : ℕ) × (at (acts n) k ≡ Take m i) × ¬ HasCome n came m)

-- each word that the first k instructions post to the party itself is the one that it computes
abbrev pub KeepsItsWords : Node → (Key → ℕ) → ℕ → Type 0
KeepsItsWords n got k =
    (j m i : ℕ) → j < k → at (acts n) j ≡ Post m i → (message n.world.plan m).receiver ≡ n.me
    → got (message n.world.plan m) ≡ own_word n got (message n.world.plan m)

-- so there is one place where it stops, by what came
abbrev pub StopsAtOnePlace : Node → Type 0
StopsAtOnePlace n =
    (came : ℕ → ℕ) (j k : ℕ) → TakesWhatCame n came j → StopsAfter n came j → TakesWhatCame n came k
    → StopsAfter n came k → j ≡ k

-- no send failed
abbrev pub NoSendRose : Node → LinksReading → LinksReading → Type 0
NoSendRose n before after = (q : ℕ) → IsPeer n q → ¬ Rose (out_to n before q).faults (out_to n after q).faults

-- the fault isn't that a reader wasn't started
abbrev pub AllStarted : NodeFault → Type 0
AllStarted (NoThread q) = ⊥
AllStarted _ = Unit {0}

-- it said all that the first k instructions say, and the next one takes a word that didn't come; the bytes of an inlet
-- that is told, and of which no read failed, hold no more frames than came
pub record SaidAll (n : Node) (got : Key → ℕ) (came : ℕ → ℕ) (k : ℕ) (before after : LinksReading) : Type 0 where
  pub told : (q : ℕ) → IsPeer n q
      → (out_to n after q).told ≡ added (out_to n before q).told (said n q (own_word n got) k)
  pub stops : StopsAfter n came k
  pub most : (q : ℕ) → IsPeer n q → ¬ Rose (in_from n before q).faults (in_from n after q).faults
      → (bytes : List ℕ) → (in_from n before q).told ≡ Some bytes → EndsBefore n q bytes (suc (came q))

-- the outlet to q took what the first k instructions say, and nothing else
abbrev pub TookWhole : Node → (Key → ℕ) → ℕ → (ℕ → SinkReading) → (ℕ → SinkReading) → ℕ → Type 0
TookWhole n word k before after q = (after q).told ≡ added (before q).told (said n q word k)

-- the last of the first k instructions posts a message to q, whose outlet took what those before it say, and of the
-- message's frame a first part
abbrev pub FailedPost : Node → (Key → ℕ) → ℕ → (ℕ → SinkReading) → (ℕ → SinkReading) → ℕ → Type 0
FailedPost n word k before after q =
    (j : ℕ) × (m : ℕ) × (i : ℕ) × (k ≡ suc j) × (at (acts n) j ≡ Post m i) × ((message n.world.plan m).receiver ≡ q)
    × AddedPrefix (added (before q).told (said n q word j))
    (frame (framing n) (message n.world.plan m) (word (message n.world.plan m))) (after q).told

-- what was said goes out before the instruction after the first k: none is done yet, or there is none left, or it takes
-- the word of a message of a peer
abbrev pub GoesOut : Node → ℕ → Type 0
GoesOut n k =
    (k ≡ 0)
    ⊎ ((k ≡ length (acts n))
    ⊎ ((m : ℕ) × (i : ℕ) × (at (acts n) k ≡ Take m i) × ((message n.world.plan m).sender ≢ n.me)))

-- the send to q failed in the last of the first k instructions, or as what they say went out. Each other outlet took
-- what they say, and nothing else
pub record SendFailed (n : Node) (word : Key → ℕ) (k : ℕ) (before after : ℕ → SinkReading) (q : ℕ) : Type 0 where
  pub itself : FailedPost n word k before after q ⊎ (GoesOut n k × TookWhole n word k before after q)
  pub others : (r : ℕ) → IsPeer n r → r ≢ q → TookWhole n word k before after r

-- the hello to q failed: the peers below q got theirs and nothing else, and those above it nothing
pub record HelloFailed (n : Node) (before after : ℕ → SinkReading) (q : ℕ) : Type 0 where
  pub below : (r : ℕ) → IsPeer n r → r < q → (after r).told ≡ added (before r).told (hello n.me r n.digest)
  pub above : (r : ℕ) → IsPeer n r → q < r → (after r).told ≡ (before r).told

-- the send to q failed after the first k instructions
abbrev pub FailsAfter : Node → (Key → ℕ) → ℕ → (ℕ → SinkReading) → (ℕ → SinkReading) → ℕ → Type 0
FailsAfter n word k before after q = SendFailed n word k before after q ⊎ ((k ≡ 0) × HelloFailed n before after q)

-- no send failed, and each outlet took what the first k instructions say, and nothing else; or the send to one peer
-- failed after them
abbrev pub SaysFirst : Node → (Key → ℕ) → ℕ → (ℕ → SinkReading) → (ℕ → SinkReading) → Type 0
SaysFirst n word k before after =
    ((q : ℕ) → IsPeer n q → TookWhole n word k before after q × ((after q).faults ≡ (before q).faults))
    ⊎ ((q : ℕ) × IsPeer n q × Rose (before q).faults (after q).faults × FailsAfter n word k before after q)

-- So many frames came from each peer, with the words that the party got: an inlet that is told holds them. Each outlet
-- took a first part of what the party says by its first k instructions, which take only words that came, or that the
-- party kept for itself as it computes them; and all of it, but where the send failed that ended the run. Where no send
-- failed and all readers were started, it said all that it could.
pub record BrokeOff (n : Node) (got : Key → ℕ) (before after : LinksReading) (fault : NodeFault) : Type 0 where
  pub came : ℕ → ℕ
  pub k : ℕ
  pub hears : (q : ℕ) → IsPeer n q → (bytes : List ℕ) → (in_from n before q).told ≡ Some bytes → 0 < came q
      → IsRun n q bytes (came q) got
  pub takes : TakesWhatCame n came k
  pub keeps : KeepsItsWords n got k
  pub told : (q : ℕ) → IsPeer n q
      → AddedPrefix (out_to n before q).told (said n q (own_word n got) k) (out_to n after q).told
  pub sends : SaysFirst n (own_word n got) k (out_to n before) (out_to n after)
  pub all : AllStarted fault → NoSendRose n before after → SaidAll n got came k before after

-- ---- when nothing stops a run

-- each inlet is told, and holds the hello and all expected frames, with words of the ring
abbrev pub HearsAll : Node → LinksReading → Type 0
HearsAll n links =
    (q : ℕ) → IsPeer n q → (bytes : List ℕ) × (word : Key → ℕ) × ((in_from n links q).told ≡ Some bytes)
    × IsRun n q bytes (length (expected n q)) word

-- no link failed
abbrev pub NoneRose : Node → LinksReading → LinksReading → Type 0
NoneRose n before after =
    (q : ℕ) → IsPeer n q → (Rose (in_from n before q).faults (in_from n after q).faults → ⊥)
    × (Rose (out_to n before q).faults (out_to n after q).faults → ⊥)

-- ---- among parties of one world

-- each inlet is told, and begins with all that its peer says in this world
abbrev pub HearsWorld : Node → LinksReading → Type 0
HearsWorld n links =
    (q : ℕ) → IsPeer n q → (bytes : List ℕ) × ((in_from n links q).told ≡ Some bytes)
    × Begins bytes (heard n q (word n.world))

-- each message to this party came with its word in the world
abbrev pub GotWorld : Node → (Key → ℕ) → Type 0
GotWorld n got =
    (m : ℕ) → m < length (messages n.world.plan) → (message n.world.plan m).receiver ≡ n.me
    → got (message n.world.plan m) ≡ word n.world (message n.world.plan m)

-- each outlet took what this party says in the world, and its outputs are the plain values
pub record IsOfWorld (n : Node) (r : Results) (before after : LinksReading) : Type 0 where
  pub told : (q : ℕ) → IsPeer n q
      → (out_to n after q).told ≡ added (out_to n before q).told (talk n q (word n.world))
  pub outputs : (s o : ℕ) → s < length n.world.plan.sessions → o < length (readers (session n.world.plan s))
      → reads n.world.plan n.me s o ≡ true
      → output_of r s o ≡ Some (plain n.world s (output_wire (session n.world.plan s) o))
