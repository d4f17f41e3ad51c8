-- What a run that ended well tells, a run that broke off tells too.
use Rattle.std.proofs.Common.{◌≡◌, ℕ, ◌<◌, ◌≤◌, ◌^◌, List, ◌++◌, take, drop, length, sym, ap, ◌∙◌, subst, inr, arith, append_assoc, Option, Some}
use Rattle.std.specs.List.{flat_map}
use Rattle.std.proofs.lemmas.Bool.{cases_lt}
use Rattle.std.proofs.lemmas.List.{take-append-drop, take_all}
use mathlib.Core.Logic.{inl as left', inr as right'}
use Rattle.plan_model.specs.declared.key.Key.{Key}
use Rattle.program_laws.specs.Parts.{IsPart}
use Rattle.outer_io.specs.Links.{LinksReading}
use Rattle.outer_io.specs.Sink.{added, AddedPrefix}
use Rattle.outer_io.proofs.WrittenPieces.{prefix_first}
use Rattle.node_talk.specs.declared.fault.NodeFault.{NodeFault}
use Rattle.node_talk.specs.Talks.{Node, IsPeer, framing, acts, own_word, talk, said, post_to, expected, frames, stream, heard, IsRun}
use Rattle.node_talk.specs.PeerLinks.{in_from, out_to}
use Rattle.node_talk.specs.Runs.{Results, IsDone, TalkedThrough, TakesWhatCame, KeepsItsWords, BrokeOff}
use Rattle.node_talk.proofs.PassedLists.{every_taken}
use Rattle.node_talk.proofs.Frames.{stream_append, begins_with, said_prefix}
use Rattle.node_talk.proofs.ExpectedPlaces.{placed}
use Rattle.node_talk.proofs.ActPlaces.{posted_by, taken_by}
use Rattle.node_talk.proofs.MessageOrder.{talk_is_said}
use Rattle.node_talk.proofs.RightRuns.{kept_as_sent}

whole_prefix : (a : List ℕ) (told told' : Option (List ℕ)) → told' ≡ added told a → AddedPrefix told a told'
whole_prefix a told told' is = (length a, is ∙ ap (added told) (sym (take_all (length a) a (omega arith))))

-- a first part of what is said by some instructions is one of what is said by more, and of the talk
pub part_of_more : (n : Node) (q : ℕ) (word : Key → ℕ) (k j : ℕ) → k ≤ j → (told told' : Option (List ℕ)) → AddedPrefix told (said n q word k) told' → AddedPrefix told (said n q word j) told'
part_of_more n q word k j le told told' x =
    let s = said_prefix n q word k j le in
    subst (λ z. AddedPrefix told z told') (sym s.1) (prefix_first (said n q word k) s.0 told told' x)

pub part_of_talk : (n : Node) (q : ℕ) (word : Key → ℕ) (k : ℕ) → (told told' : Option (List ℕ)) → AddedPrefix told (said n q word k) told' → AddedPrefix told (talk n q word) told'
part_of_talk n q word k told told' x = subst (λ z. AddedPrefix told z told') (talk_is_said n q word) (elim (cases_lt k (length (acts n))) [
  | left' less ↦ part_of_more n q word k (length (acts n)) (omega arith) told told' x
  | right' past ↦ subst (λ z. AddedPrefix told z told') (ap (λ z. stream (framing n) n.digest n.me q word (flat_map (post_to n.world.plan q) z)) (take_all k (acts n) (omega arith) ∙ sym (take_all (length (acts n)) (acts n) (omega arith)))) x
])

-- what is used here of a run that broke off
pub record CutShort (n : Node) (got : Key → ℕ) (before after : LinksReading) : Type 0 where
  pub came : ℕ → ℕ
  pub k : ℕ
  pub hears : (q : ℕ) → IsPeer n q → (bytes : List ℕ) → (in_from n before q).told ≡ Some bytes → 0 < came q → IsRun n q bytes (came q) got
  pub takes : TakesWhatCame n came k
  pub keeps : KeepsItsWords n got k
  pub told : (q : ℕ) → IsPeer n q → AddedPrefix (out_to n before q).told (said n q (own_word n got) k) (out_to n after q).told

pub cut_short : (n : Node) (got : Key → ℕ) (before after : LinksReading) (fault : NodeFault) → BrokeOff n got before after fault → CutShort n got before after
cut_short n got before after fault h = record { came = h.came; k = h.k; hears = h.hears; takes = h.takes; keeps = h.keeps; told = h.told }

module _ (n : Node) (part : IsPart n.world n.me) (got : Key → ℕ) (before after : LinksReading) (h : TalkedThrough n got before after) where
  -- the bytes hold a run of any count of frames
  pub run_of_all : (q : ℕ) → IsPeer n q → (bytes : List ℕ) → (in_from n before q).told ≡ Some bytes → (f : ℕ) → f ≤ length (expected n q) → IsRun n q bytes f got
  run_of_all q peer bytes told f few =
      let b = begins_with bytes (heard n q got) (in_from n after q).told (sym told ∙ h.heard q peer) in
      let first : List Key = take f (expected n q) in
      let last : List Key = drop f (expected n q) in
      record {
        count = few;
        small = every_taken (λ key. got key < 2 ^ n.world.plan.bits) f (expected n q) (h.small q peer);
        begins = (
          frames (framing n) got last ++ b.0,
          b.1 ∙ ap (λ z. stream (framing n) n.digest q n.me got z ++ b.0) (sym (take-append-drop f (expected n q))) ∙ ap (λ z. z ++ b.0) (stream_append (framing n) n.digest q n.me got first last)
              ∙ append_assoc (stream (framing n) n.digest q n.me got first) (frames (framing n) got last) b.0,
        );
      }

  pub run_broke : (r : Results) → IsDone n got r → CutShort n got before after
  run_broke r done = record {
    came = λ q. length (expected n q);
    k = length (acts n);
    hears = λ q peer bytes told some. run_of_all q peer bytes told (length (expected n q)) (omega arith);
    takes = λ j m i l e. let t = taken_by n part j m i l e in inr (placed n m t.0 t.1).0;
    keeps = λ j m i l e to. let p = posted_by n part j m i l e in kept_as_sent n got r done m p.0 (p.1, to);
    told = λ q peer. whole_prefix (said n q (own_word n got) (length (acts n))) (out_to n before q).told (out_to n after q).told (told_all q peer);
  }
    where
      told_all : (q : ℕ) → IsPeer n q → (out_to n after q).told ≡ added (out_to n before q).told (said n q (own_word n got) (length (acts n)))
      told_all q peer = h.told q peer ∙ ap (added (out_to n before q).told) (sym (talk_is_said n q (own_word n got)))
