-- After the words that were read the bytes of an inlet hold no more of a run.
use Rattle.std.proofs.Common.{◌≡◌, ℕ, suc, ◌+◌, ◌*◌, ◌<◌, ◌≤◌, ◌^◌, List, [], ◌∷◌, ◌++◌, take, length, sym, ap, ap₂, ◌∙◌, subst, arith, append_assoc, length-append, ⊎_elim, Some, Result, Ok, Err}
use Rattle.std.specs.Prelude.{slice_index_or}
use Rattle.std.proofs.lemmas.List.{length-take-le}
use Rattle.plan_model.specs.declared.key.Key.{Key}
use Rattle.plan_model.specs.Numbers.{no_key}
use Rattle.plan_model.proofs.DistinctMessages.{every_place}
use Rattle.outer_io.specs.Count.{Rose}
use Rattle.outer_io.specs.Inlet.{InletReading, ahead, IsAtEnd}
use Rattle.outer_io.specs.Links.{LinksReading}
use Rattle.frame_code.specs.declared.framing.Framing.{Framing}
use Rattle.frame_code.specs.Frames.{hello, frame, frame_bytes, shown}
use Rattle.frame_code.proofs.ReadFrames.{length-frame, length-hello}
use Rattle.node_talk.specs.declared.fault.NodeFault.{NodeFault}
use Rattle.node_talk.specs.declared.fault.NodeFault.TheVariants.{Link, Closed, BadFrame, OtherJob, NoThread}
use Rattle.node_talk.specs.Talks.{Node, framing, expected, expected_at, frames, stream, IsRun, EndsBefore}
use Rattle.node_talk.specs.PeerLinks.{in_from}
use Rattle.node_talk.proofs.Frames.{frames_at, frames_length, stream_length, same_split, begins_with}
use Rattle.node_talk.proofs.NoCauses.{ahead_nothing, left_of}
use Rattle.node_talk.proofs.PassedLists.{take_place}
use Rattle.link_reader.specs.Heard.{NoFrame, NoHello, GaveNoFrame, GaveOtherHello, EndedWithin}
use Rattle.link_reader.specs.ReadWords.{framed, WordsCame, CameShort}
use Rattle.link_reader.specs.NodeReaders.{incoming, ReadsFrom}

framed_length : (r : Framing) (keys : List Key) (words : List ℕ) → length words ≤ length keys → length (framed r keys words) ≡ frame_bytes r * length words
framed_length r [] [] l = omega arith
framed_length r [] (word ∷ words) l = absurd (omega arith)
framed_length r (key ∷ keys) [] l = omega arith
framed_length r (key ∷ keys) (word ∷ words) l = length-append (frame r key word) (framed r keys words) ∙ ap₂ (λ a b. a + b) (length-frame r key word) (framed_length r keys words (omega arith)) ∙ omega arith

module _ (n : Node) (q : ℕ) (long : length n.digest ≡ 32) (words bytes : List ℕ) (before after : LinksReading) (told : (in_from n before q).told ≡ Some bytes)
    (still : Rose (in_from n before q).faults (in_from n after q).faults → ⊥) where
  abbrev now : InletReading
  now = in_from n before q

  abbrev last : InletReading
  last = in_from n after q

  -- the words that a longer run would have
  abbrev Longer : Type 0
  Longer = (word : Key → ℕ) × IsRun n q bytes (suc (length words)) word

  -- a run of one frame more has so many bytes
  run_long : (word : Key → ℕ) (f : ℕ) → IsRun n q bytes f word → 38 + frame_bytes (framing n) * f ≤ length bytes
  run_long word f run =
      let keys : List Key = take f (expected n q) in
      let few : frame_bytes (framing n) * length keys ≡ frame_bytes (framing n) * f = ap (λ z. frame_bytes (framing n) * z) (length-take-le f (expected n q) run.count) in
      let all : length bytes ≡ 38 + frame_bytes (framing n) * length keys + length run.begins.0 =
      ap (λ z. length z) run.begins.1 ∙ length-append (stream (framing n) n.digest q n.me word keys) run.begins.0 ∙ ap (λ z. z + length run.begins.0) (stream_length (framing n) n.digest q n.me word keys long) in
      omega arith

  -- the inlet ended after fewer bytes
  ended : (front piece : List ℕ) (word : Key → ℕ) → IsRun n q bytes (suc (length words)) word → now.told ≡ ahead front (ahead piece last.told) → IsAtEnd last.told → length front + length piece < 38 + frame_bytes (framing n) * suc (length words) → ⊥
  ended front piece word run is none short =
      let l = left_of bytes front piece last.told (sym told ∙ is) in
      let nothing : l.0 ≡ [] = subst IsAtEnd l.1 none in
      let size : length bytes ≡ length front + (length piece + length l.0) = ap (λ z. length z) l.2 ∙ length-append front (piece ++ l.0) ∙ ap (λ z. length front + z) (length-append piece l.0) in
      let most = run_long word (suc (length words)) run in
      absurd (let e = ap (λ z. length z) nothing in omega arith)

  of_hello : (fault : NodeFault) → words ≡ [] → NoHello (incoming n q) now last fault → EndsBefore n q bytes (suc (length words))
  of_hello (Link r) none g word run = absurd (still g.1)
  of_hello (Closed r at) none g word run =
      let e : EndedWithin 38 0 at now last = g.1 in
      let is : now.told ≡ ahead [] (ahead e.front last.told) = e.told ∙ ahead_nothing (ahead e.front last.told) in
      ended [] e.front word run is e.none_left (let s = e.short in omega arith)
  of_hello (BadFrame r at theirs) none g word run = absurd g
  of_hello (OtherJob r ours theirs) none g word run =
      let e : GaveOtherHello (incoming n q) theirs now last = g.2 in
      let l = begins_with bytes theirs last.told (sym told ∙ e.told) in
      let keys : List Key = take (suc (length words)) (expected n q) in
      let both : theirs ++ l.0 ≡ hello q n.me n.digest ++ (frames (framing n) word keys ++ run.begins.0) = sym l.1 ∙ run.begins.1 ∙ append_assoc (hello q n.me n.digest) (frames (framing n) word keys) run.begins.0 in
      absurd (e.differ (same_split theirs (hello q n.me n.digest) l.0 _ (e.long ∙ sym (length-hello q n.me n.digest long)) both).0)
  of_hello (NoThread r) none g word run = absurd g

  module _ (mid : InletReading) (came : WordsCame (incoming n q) words (in_from n before q) mid) (less : length words < length (expected n q)) where
    front : List ℕ
    front = hello q n.me n.digest ++ framed (framing n) (expected n q) words

    front_long : length front ≡ 38 + frame_bytes (framing n) * length words
    unfolding front
    front_long = length-append (hello q n.me n.digest) (framed (framing n) (expected n q) words) ∙ ap₂ (λ a b. a + b) (length-hello q n.me n.digest long) (framed_length (framing n) (expected n q) words came.few)

    then_told : (piece : List ℕ) → mid.told ≡ ahead piece last.told → now.told ≡ ahead front (ahead piece last.told)
    unfolding front
    then_told piece is = came.told ∙ ap (ahead (hello q n.me n.digest ++ framed (framing n) (expected n q) words)) is

    of_frame : (fault : NodeFault) → NoFrame (incoming n q) (length words) mid last fault → EndsBefore n q bytes (suc (length words))
    of_frame (Link r) g word run = absurd (still (subst (λ z. Rose z last.faults) came.faults g.1))
    of_frame (Closed r at) g word run = (let s = g.1.short in ended front g.1.front word run (then_told g.1.front g.1.told) g.1.none_left (omega (arith, front_long, s)))
    of_frame (BadFrame r at theirs) g word run =
        let e : GaveNoFrame (incoming n q) (length words) (shown theirs) mid last = g.2 in
        let l = left_of bytes front (shown theirs) last.told (sym told ∙ then_told (shown theirs) e.told) in
        let f : ℕ = length words in
        let keys : List Key = take (suc f) (expected n q) in
        let many : length keys ≡ suc f = length-take-le (suc f) (expected n q) run.count in
        let t = frames_at (framing n) word keys f (omega arith) in
        let key : Key = slice_index_or keys f no_key in
        let first : List ℕ = hello q n.me n.digest ++ frames (framing n) word (take f keys) in
        let first_long : length first ≡ 38 + frame_bytes (framing n) * f =
        length-append (hello q n.me n.digest) (frames (framing n) word (take f keys))
        ∙ ap₂ (λ a b. a + b) (length-hello q n.me n.digest long) (frames_length (framing n) word (take f keys) ∙ ap (λ z. frame_bytes (framing n) * z) (length-take-le f keys (omega arith))) in
        let whole : bytes ≡ first ++ (frame (framing n) key (word key) ++ (t.0 ++ run.begins.0)) =
        run.begins.1
        ∙ ap (λ z. (hello q n.me n.digest ++ z) ++ run.begins.0) t.1
        ∙ ap (λ z. z ++ run.begins.0) (sym (append_assoc (hello q n.me n.digest) (frames (framing n) word (take f keys)) (frame (framing n) key (word key) ++ t.0)))
        ∙ append_assoc first (frame (framing n) key (word key) ++ t.0) run.begins.0
        ∙ ap (λ z. first ++ z) (append_assoc (frame (framing n) key (word key)) t.0 run.begins.0) in
        let split = same_split front first (shown theirs ++ l.0) _ (front_long ∙ sym first_long) (sym l.2 ∙ whole) in
        let second = same_split (shown theirs) (frame (framing n) key (word key)) l.0 _ (e.long ∙ sym (length-frame (framing n) key (word key))) split.1 in
        let small : word key < 2 ^ n.world.plan.bits = every_place (λ k. word k < 2 ^ n.world.plan.bits) keys f no_key run.small (omega arith) in
        let same : key ≡ expected_at n q f = take_place (expected n q) (suc f) f no_key (omega arith) in
        absurd (e.no_frame (word key) small (second.0 ∙ ap (λ z. frame (framing n) z (word key)) same))
    of_frame (OtherJob r ours theirs) g word run = absurd g
    of_frame (NoThread r) g word run = absurd g

  pub no_more : (result : Result (Unit {0}) NodeFault) → ReadsFrom n q words before after result → EndsBefore n q bytes (suc (length words))
  no_more (Ok u) h = λ word run. absurd (let c = run.count in let e : length words ≡ length (expected n q) = h.1 in omega arith)
  no_more (Err fault) h = ⊎_elim
      (λ none. of_hello fault none.0 none.1)
      (λ (s : CameShort (incoming n q) words now last fault). of_frame s.now s.came s.missing fault s.no_frame)
      h
