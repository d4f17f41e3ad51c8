-- Why a reader stopped.
use Rattle.std.proofs.Common.{◌≡◌, ℕ, ◌<◌, List, ◌++◌, length, take, sym, ap, ◌∙◌, subst, arith, inl, inr, ⊎_elim}
use Rattle.std.specs.Prelude.{slice_index, slice_index_or}
use Rattle.plan_model.specs.Numbers.{no_key}
use Rattle.outer_io.specs.Count.{Rose}
use Rattle.outer_io.specs.Inlet.{InletReading, ahead}
use Rattle.frame_code.specs.Frames.{hello, shown}
use Rattle.node_talk.specs.declared.fault.NodeFault.{NodeFault}
use Rattle.node_talk.specs.declared.fault.NodeFault.TheVariants.{Link, Closed, BadFrame, OtherJob, NoThread}
use Rattle.node_talk.specs.Talks.{Node, IsPeer, framing, expected, stream}
use Rattle.node_talk.specs.PeerLinks.{in_from}
use Rattle.outer_io.specs.Links.{LinksReading}
use Rattle.node_talk.specs.Causes.{Cause, CameAfter}
use Rattle.link_reader.specs.Heard.{NoFrame, NoHello}
use Rattle.link_reader.specs.ReadWords.{WordsCame, CameShort}
use Rattle.link_reader.specs.NodeReaders.{incoming, TellsCause}
use Rattle.link_reader.proofs.Runs.{small_words, framed_taken, word_at, word_at_place}

module _ (n : Node) (q : ℕ) (long : length n.digest ≡ 32) (peer : IsPeer n q) (before after : LinksReading) (refused refused' : ℕ) where
  abbrev now : InletReading
  now = in_from n before q

  abbrev last : InletReading
  last = in_from n after q

  abbrev Causes : NodeFault → Type 0
  Causes fault = Cause n before after refused refused' fault

  -- after the hello and the frames of these words came these bytes
  came_after : (words bytes : List ℕ) (mid : InletReading) → WordsCame (incoming n q) words now mid → mid.told ≡ ahead bytes last.told → CameAfter n before after q (length words) bytes
  came_after words bytes mid h told =
      let fits : (place : ℕ) → place < length words → word_at n words (slice_index_or (expected n q) place no_key) ≡ slice_index words place = λ place l. word_at_place n q words place (let f = h.few in omega (arith, f, l)) in
      record {
        word = word_at n words;
        small = small_words n.world.plan.bits (word_at n words) (expected n q) words (length words) h.few (omega arith) fits h.small;
        told = h.told ∙ ap (λ z. ahead (hello q n.me n.digest ++ z) mid.told) (framed_taken (framing n) (word_at n words) (expected n q) words h.few fits) ∙ ap (ahead (stream (framing n) n.digest q n.me (word_at n words) (take (length words) (expected n q)))) told;
      }

  of_frame : (fault : NodeFault) (words : List ℕ) (mid : InletReading) → WordsCame (incoming n q) words now mid → length words < length (expected n q)
      → NoFrame (incoming n q) (length words) mid last fault → Causes fault
  of_frame (Link r) words mid h less g = subst (λ z. Causes (Link z)) (sym g.0) (peer, inl (subst (λ z. Rose z last.faults) h.faults g.1))
  of_frame (Closed r at) words mid h less g =
      let e = g.1 in
      subst (λ z. Causes (Closed z at)) (sym g.0) (
        peer,
        record {
          within = inr (record {
            frame = length words;
            within = less;
            piece = e.front;
            place = e.in_all;
            short = e.short;
            came = came_after words e.front mid h e.told;
          });
          none_left = e.none_left;
          ended = e.ended;
        },
      )
  of_frame (BadFrame r at bytes) words mid h less g =
      subst (λ z. Causes (BadFrame z at bytes)) (sym g.0) (
        peer,
        record {
          frame = length words;
          within = less;
          place = g.1;
          long = g.2.long;
          came = came_after words (shown bytes) mid h g.2.told;
          no_frame = g.2.no_frame;
        },
      )
  of_frame (OtherJob r ours theirs) words mid h less g = absurd g
  of_frame (NoThread r) words mid h less g = absurd g

  of_hello : (fault : NodeFault) → NoHello (incoming n q) now last fault → Causes fault
  of_hello (Link r) g = subst (λ z. Causes (Link z)) (sym g.0) (peer, inl g.1)
  of_hello (Closed r at) g =
      let e = g.1 in
      subst (λ z. Causes (Closed z at)) (sym g.0) (
        peer,
        record {
          within = inl (record { piece = e.front; place = (let p = e.in_all in omega (arith, p)); short = e.short; told = e.told });
          none_left = e.none_left;
          ended = e.ended;
        },
      )
  of_hello (BadFrame r at bytes) g = absurd g
  of_hello (OtherJob r ours theirs) g =
      subst (λ z. Causes (OtherJob z ours theirs)) (sym g.0) (
        peer,
        record {
          expected = g.1;
          long = g.2.long;
          told = g.2.told;
          differ = λ e. g.2.differ (e ∙ g.1);
        },
      )
  of_hello (NoThread r) g = absurd g

pub tells_cause : (n : Node) (q : ℕ) → length n.digest ≡ 32 → IsPeer n q → TellsCause n q
tells_cause n q long peer words before after refused refused' fault h =
    ⊎_elim (λ hello. of_hello n q long peer before after refused refused' fault hello.1)
    (λ (s : CameShort (incoming n q) words (in_from n before q) (in_from n after q) fault). of_frame n q long peer before after refused refused' fault words s.now s.came s.missing s.no_frame) h
