-- What sends leave of the outlets of a node.
use Rattle.std.proofs.Common.{◌≡◌, ◌≢◌, ℕ, suc, ◌+◌, ◌*◌, ◌<◌, ◌≤◌, List, length, sym, ap, ◌∙◌, subst, arith, Option, Some, None, Ok, Err, length-append}
use Rattle.std.specs.Prelude.{IsTrue, IsOk}
use Rattle.std.proofs.lemmas.Bool.{false≢true}
use Rattle.plan_model.specs.declared.key.Key.{Key}
use Rattle.program_model.specs.Programs.{at}
use Rattle.frame_code.specs.Frames.{frame_bytes}
use Rattle.outer_io.specs.Sink.{SinkReading, Writes}
use Rattle.outer_io.specs.declared.sink.Failed.{Failed}
use Rattle.node_talk.specs.Talks.{Node, framing, acts, IsPeer, frames, messages_between, post_to, posts_to}
use Rattle.node_talk.specs.PeerLinks.{out_to}
use Rattle.node_talk.proofs.Frames.{frames_length}
use Rattle.node_talk.proofs.MessageOrder.{gather_step, gather_prefix, posts_are_all}
use Rattle.node_run.specs.Mail.{Mail, outlet_to}
use Rattle.node_run.specs.Progress.{Begin, Going, KeepsRoom, OutletStays, said_bytes, talk_bytes}

-- ---- bytes that are said

-- one instruction says the bytes of its frames
pub bytes_more : (n : Node) (q k : ℕ) (word : Key → ℕ) (bytes : List ℕ) → k < length (acts n) → frames (framing n) word (post_to n.world.plan q (at (acts n) k)) ≡ bytes
    → said_bytes n q (suc k) ≡ said_bytes n q k + length bytes
bytes_more n q k word bytes l is =
    let more : length (posts_to n q (suc k)) ≡ length (posts_to n q k) + length (post_to n.world.plan q (at (acts n) k)) =
    ap (λ z. length z) (gather_step (post_to n.world.plan q) (acts n) k l) ∙ length-append (posts_to n q k) (post_to n.world.plan q (at (acts n) k)) in
    let long : frame_bytes (framing n) * length (post_to n.world.plan q (at (acts n) k)) ≡ length bytes = sym (frames_length (framing n) word (post_to n.world.plan q (at (acts n) k))) ∙ ap (λ z. length z) is in
    let many : frame_bytes (framing n) * length (posts_to n q (suc k)) ≡ frame_bytes (framing n) * (length (posts_to n q k) + length (post_to n.world.plan q (at (acts n) k))) = ap (λ z. frame_bytes (framing n) * z) more in
    omega (arith, many, long)

-- the first instructions say no more than the talk
pub bytes_within : (n : Node) (q k : ℕ) → k ≤ length (acts n) → said_bytes n q k ≤ talk_bytes n q
bytes_within n q k le =
    let r = gather_prefix (post_to n.world.plan q) (acts n) k (length (acts n)) le in
    let all : length (posts_to n q k) + length r.0 ≡ length (messages_between n.world.plan n.me q) =
    sym (length-append (posts_to n q k) r.0) ∙ ap (λ z. length z) (sym r.1) ∙ ap (λ z. length z) (posts_are_all n q) in
    let many : frame_bytes (framing n) * (length (posts_to n q k) + length r.0) ≡ frame_bytes (framing n) * length (messages_between n.world.plan n.me q) = ap (λ z. frame_bytes (framing n) * z) all in
    omega (arith, many)

-- ---- sends

pub room_kept : (before : SinkReading) → KeepsRoom 0 before before
room_kept before = record { steady = λ s. s; room = λ s. omega arith }

pub room_then : (a b : ℕ) (x y z : SinkReading) → KeepsRoom a x y → KeepsRoom b y z → KeepsRoom (a + b) x z
room_then a b x y z p q = record {
  steady = λ s. q.steady (p.steady s);
  room = λ s. (let e = p.room s in let f = q.room (p.steady s) in omega (arith, e, f));
}

pub room_at : (a b : ℕ) (x y : SinkReading) → a ≡ b → KeepsRoom a x y → KeepsRoom b x y
room_at a b x y e h = subst (λ (z : ℕ). KeepsRoom z x y) e h

-- what a send that succeeded leaves, and what one that failed does
pub record Sent (text : List ℕ) (before after : SinkReading) : Type 0 where
  pub faults : after.faults ≡ before.faults
  pub room : KeepsRoom (length text) before after

pub record Unsent (text : List ℕ) (before after : SinkReading) : Type 0 where
  pub grows : before.faults ≤ after.faults
  pub steady : IsTrue before.steady → IsTrue after.steady
  pub short : IsTrue before.steady → before.room < length text

pub sent_ok : (text : List ℕ) (before after : SinkReading) (u : Unit {0}) → Writes text before after (Ok u) → Sent text before after
sent_ok text before after u w = record { faults = w.quiet; room = record { steady = w.keeps_steady; room = w.room_left } }

pub sent_err : (text : List ℕ) (before after : SinkReading) (f : Failed) → Writes text before after (Err f) → Unsent text before after
sent_err text before after f w = record {
  grows = w.faults_grow;
  steady = w.keeps_steady;
  short = λ s. too_long (length text) before.room (λ fits. no_err f ((w.by_itself s).1 fits));
}
  where
    no_err : (f : Failed) → IsOk {T = Unit {0}} {E = Failed} (Err f) → ⊥
    no_err f e = false≢true e

    too_long : (a b : ℕ) → (a ≤ b → ⊥) → b < a
    too_long a b h = omega arith

-- ---- a run

-- nothing failed at the outlet to a peer
pub going_stays : (n : Node) (k : ℕ) (start : Begin) (now : Mail) → Going n k start now → (q : ℕ) → IsPeer n q → OutletStays n q now.failed (out_to n start.links q) (outlet_to now q)
going_stays n k start now g q peer = record {
  grows = (let e = g.calm q peer in omega (arith, e));
  calm = λ ne. g.calm q peer;
  steady = (g.room q peer).steady;
  room = λ s fits e. absurd (let f : None ≡ Some q = sym g.quiet ∙ e in cc);
}

-- nothing failed at an outlet, where a send to another failed
pub other_stays : (n : Node) (q p : ℕ) (failed : Option ℕ) (bytes : ℕ) (before after : SinkReading) → failed ≡ Some p → p ≢ q → after.faults ≡ before.faults → KeepsRoom bytes before after → OutletStays n q failed before after
other_stays n q p failed bytes before after is ne calm room = record {
  grows = omega (arith, calm);
  calm = λ x. calm;
  steady = room.steady;
  room = λ s fits e. ne (let f : Some p ≡ Some q = sym is ∙ e in cc);
}

-- a send of these bytes failed, after others that all succeeded
pub failed_stays : (n : Node) (q : ℕ) (failed : Option ℕ) (bytes : ℕ) (text : List ℕ) (before now after : SinkReading) → failed ≡ Some q → now.faults ≡ before.faults → KeepsRoom bytes before now → bytes + length text ≤ talk_bytes n q
    → Unsent text now after → OutletStays n q failed before after
failed_stays n q failed bytes text before now after is calm room within u = record {
  grows = (let g = u.grows in omega (arith, calm, g));
  calm = λ x. absurd (x is);
  steady = λ s. u.steady (room.steady s);
  room = λ s fits e. (let left = room.room s in let short = u.short (room.steady s) in absurd (omega (arith, left, short, within, fits)));
}
