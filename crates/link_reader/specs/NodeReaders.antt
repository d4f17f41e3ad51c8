-- What the readers of a party tell, one for each of its peers.
use Rattle.std.specs.Prelude.{◌≡◌, ◌⊎◌, ℕ, ◌<◌, ◌≤◌, List, [], length, slice_index, Some, Result, Ok, Err}
use Rattle.outer_io.specs.Sink.{added, AddedPrefix}
use Rattle.plan_model.specs.declared.key.Key.{Key}
use Rattle.node_talk.specs.declared.fault.NodeFault.{NodeFault}
use Rattle.node_talk.specs.Talks.{Node, IsPeer, IsRun, Stays, own_word, said, talk, expected, expected_at}
use Rattle.node_talk.specs.PeerLinks.{in_from, out_to}
use Rattle.outer_io.specs.Links.{LinksReading}
use Rattle.node_talk.specs.Causes.{Cause}
use Rattle.node_talk.specs.Runs.{TalkedThrough, KeepsItsWords, TakesWhatCame, StopsAfter, NoSendRose, AllStarted, SaysFirst, BrokeOff}
use Rattle.link_reader.specs.Expected.{TalkModel}
use Rattle.link_reader.specs.ReadWords.{ReadsWords}

-- what party n expects of q
abbrev pub incoming : Node → ℕ → TalkModel
incoming n q = record {
  peer = q;
  me = n.me;
  digest = n.digest;
  bits = n.world.plan.bits;
  keys = expected n q;
  form = n.form;
}

-- these words were read of q, between what the links showed before and what they show after
abbrev pub ReadsFrom : Node → ℕ → List ℕ → LinksReading → LinksReading → Result (Unit {0}) NodeFault → Type 0
ReadsFrom n q words before after result =
    ReadsWords (incoming n q) words (in_from n before q) (in_from n after q) result

-- the first messages that are expected of q have these words
abbrev pub HasFirstWords : Node → ℕ → (Key → ℕ) → ℕ → List ℕ → Type 0
HasFirstWords n q got count words =
    (count ≤ length words)
    × ((place : ℕ) → place < count → got (expected_at n q place) ≡ slice_index words place)

-- a reader's fault is a cause of the end of the party's run
abbrev pub TellsCause : Node → ℕ → Type 0
TellsCause n q =
    (words : List ℕ) (before after : LinksReading) (refused refused' : ℕ) (fault : NodeFault)
    → ReadsFrom n q words before after (Err fault) → Cause n before after refused refused' fault

-- the first words that were read of an inlet that tells its bytes are a run in these bytes
abbrev pub ReadsARun : Node → ℕ → Type 0
ReadsARun n q =
    (got : Key → ℕ) (count : ℕ) (words bytes : List ℕ) (before after : LinksReading)
    (result : Result (Unit {0}) NodeFault)
    → (in_from n before q).told ≡ Some bytes → 0 < count → HasFirstWords n q got count words
    → ReadsFrom n q words before after result → IsRun n q bytes count got

-- a party said all that it says where it got these words, and its readers read all that is expected, with these words
pub record ReadThrough (n : Node) (got : Key → ℕ) (before after : LinksReading) : Type 0 where
  pub told : (q : ℕ) → IsPeer n q → (out_to n after q).told ≡ added (out_to n before q).told (talk n q (own_word n got))
  pub words : ℕ → List ℕ
  pub read : (q : ℕ) → IsPeer n q → ReadsFrom n q (words q) before after (Ok tt)
  pub agrees : (q : ℕ) → IsPeer n q → HasFirstWords n q got (length (expected n q)) (words q)

-- so it talked through
abbrev pub TalksThrough : Node → Type 0
TalksThrough n =
    (got : Key → ℕ) (before after : LinksReading) → ReadThrough n got before after → TalkedThrough n got before after

-- these words were read of the peers, or none of a peer whose reader did nothing
abbrev pub ReadsOfAll : Node → (ℕ → List ℕ) → LinksReading → LinksReading → Type 0
ReadsOfAll n words before after =
    (q : ℕ) → IsPeer n q
    → (words q ≡ []) ⊎ ((result : Result (Unit {0}) NodeFault) × ReadsFrom n q (words q) before after result)

-- each message of a peer has the word that was read at its place, where one was, and each that stays with the party the
-- word that it kept
abbrev pub HasReadWords : Node → (Key → ℕ) → (ℕ → List ℕ) → (Key → ℕ) → Type 0
HasReadWords n got words kept =
    ((q : ℕ) → IsPeer n q → HasFirstWords n q got (length (words q)) (words q))
    × ((key : Key) → Stays n key → got key ≡ kept key)

-- all peers were read, and the party said all that its first k instructions say: the next one takes a word that wasn't
-- read
pub record SaidWhatItCould (n : Node) (words : ℕ → List ℕ) (kept : Key → ℕ) (k : ℕ) (before after : LinksReading)
    : Type 0 where
  pub read : (q : ℕ) → IsPeer n q → (result : Result (Unit {0}) NodeFault) × ReadsFrom n q (words q) before after result
  pub told : (got : Key → ℕ) → HasReadWords n got words kept → (q : ℕ) → IsPeer n q
      → (out_to n after q).told ≡ added (out_to n before q).told (said n q (own_word n got) k)
  pub stops : StopsAfter n (λ q. length (words q)) k

-- a party stopped at a fault: of what its first k instructions say it said a first part, whatever words are still to
-- come, and all of it but where a send failed; and they take only words that were read, or that it kept for itself as
-- it computes them. Where no send failed and all readers were started, it said what it could
pub record StoppedShort (n : Node) (before after : LinksReading) (fault : NodeFault) : Type 0 where
  pub k : ℕ
  pub words : ℕ → List ℕ
  pub kept : Key → ℕ
  pub read : ReadsOfAll n words before after
  pub takes : TakesWhatCame n (λ q. length (words q)) k
  pub keeps : (got : Key → ℕ) → HasReadWords n got words kept → KeepsItsWords n got k
  pub sent : (got : Key → ℕ) → HasReadWords n got words kept → (q : ℕ) → IsPeer n q
      → AddedPrefix (out_to n before q).told (said n q (own_word n got) k) (out_to n after q).told
  pub sends : (got : Key → ℕ) → HasReadWords n got words kept
      → SaysFirst n (own_word n got) k (out_to n before) (out_to n after)
  pub all : AllStarted fault → NoSendRose n before after → SaidWhatItCould n words kept k before after

-- so it broke off
abbrev pub BreaksOff : Node → Type 0
BreaksOff n =
    (before after : LinksReading) (fault : NodeFault) → StoppedShort n before after fault
    → (got : Key → ℕ) × BrokeOff n got before after fault
