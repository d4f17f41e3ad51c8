-- Where each inlet holds all that is expected, and nothing failed, there is no cause of a fault.
use Rattle.std.proofs.Common.{◌≡◌, ℕ, ◌+◌, ◌*◌, ◌<◌, ◌≤◌, ◌^◌, List, [], ◌++◌, take, length, refl, sym, ap, ◌∙◌, subst, arith, append_assoc, length-append, ⊎_elim, Option, Some, None}
use Rattle.std.specs.List.{AllByRecursion}
use Rattle.std.proofs.lemmas.List.{take_all, length-take-le}
use Rattle.std.proofs.lemmas.Nat.{mul-le}
use Rattle.plan_model.specs.declared.key.Key.{Key}
use Rattle.plan_model.specs.Numbers.{no_key}
use Rattle.plan_model.proofs.DistinctMessages.{every_place}
use Rattle.outer_io.specs.Count.{Rose}
use Rattle.outer_io.specs.Inlet.{ahead, IsAtEnd}
use Rattle.outer_io.specs.Links.{LinksReading}
use Rattle.frame_code.specs.Frames.{hello, frame, frame_bytes, shown}
use Rattle.frame_code.proofs.ReadFrames.{length-frame, length-hello}
use Rattle.node_talk.specs.declared.fault.NodeFault.{NodeFault}
use Rattle.node_talk.specs.declared.fault.NodeFault.TheVariants.{Link, Closed, BadFrame, OtherJob, NoThread}
use Rattle.node_talk.specs.Talks.{Node, framing, expected, expected_at, frames, stream, heard, IsRun}
use Rattle.node_talk.specs.PeerLinks.{in_from}
use Rattle.node_talk.specs.Causes.{Cause, EndsInHello, EndsInFrame, ClosedAt}
use Rattle.node_talk.specs.Runs.{HearsAll, NoneRose}
use Rattle.node_talk.proofs.Frames.{stream_length, frames_at, same_split}

pub ahead_nothing : (told : Option (List ℕ)) → told ≡ ahead [] told
ahead_nothing None = refl
ahead_nothing (Some left) = refl

pub left_of : (bytes front piece : List ℕ) (told : Option (List ℕ)) → Some bytes ≡ ahead front (ahead piece told) → (left : List ℕ) × (told ≡ Some left) × (bytes ≡ front ++ (piece ++ left))
left_of bytes front piece None e = absurd (let f : Some bytes ≡ None = e in cc)
left_of bytes front piece (Some left) e = (left, refl, (let f : Some bytes ≡ Some (front ++ (piece ++ left)) = e in cc))

module _ (n : Node) (before after : LinksReading) (refused refused' : ℕ) (long : length n.digest ≡ 32) where
  -- the bytes are the hello, all frames, and what is left
  all_of : (q : ℕ) (bytes : List ℕ) (word : Key → ℕ) → IsRun n q bytes (length (expected n q)) word → (rest : List ℕ) × (bytes ≡ heard n q word ++ rest)
  all_of q bytes word run = (run.begins.0, run.begins.1 ∙ ap (λ z. stream (framing n) n.digest q n.me word z ++ run.begins.0) (take_all (length (expected n q)) (expected n q) (omega arith)))

  -- before the end of an inlet fewer bytes came than are expected
  too_few : (q at : ℕ) (bytes : List ℕ) → (in_from n before q).told ≡ Some bytes → ClosedAt n before after q at → length bytes < 38 + frame_bytes (framing n) * length (expected n q)
  too_few q at bytes told c = ⊎_elim in_hello in_frame c.within
    where
      nothing : (front piece left : List ℕ) → (in_from n after q).told ≡ Some left → bytes ≡ front ++ (piece ++ left) → length bytes ≡ length front + length piece
      nothing front piece left is whole =
          let none' : left ≡ [] = subst IsAtEnd is c.none_left in
          omega (arith, ap length whole, length-append front (piece ++ left), length-append piece left, ap length none')

      in_hello : EndsInHello n before after q at → length bytes < 38 + frame_bytes (framing n) * length (expected n q)
      in_hello e =
          let l = left_of bytes [] e.piece (in_from n after q).told (sym told ∙ e.told ∙ ahead_nothing (ahead e.piece (in_from n after q).told)) in
          let size = nothing [] e.piece l.0 l.1 l.2 in
          let short = e.short in
          omega (arith, size, short)

      in_frame : EndsInFrame n before after q at → length bytes < 38 + frame_bytes (framing n) * length (expected n q)
      in_frame e =
          let front : List ℕ = stream (framing n) n.digest q n.me e.came.word (take e.frame (expected n q)) in
          let l = left_of bytes front e.piece (in_from n after q).told (sym told ∙ e.came.told) in
          let size = nothing front e.piece l.0 l.1 l.2 in
          let short = e.short in
          let many : ℕ = length (expected n q) in
          let more : frame_bytes (framing n) * (e.frame + 1) ≤ frame_bytes (framing n) * many = mul-le (frame_bytes (framing n)) (e.frame + 1) (frame_bytes (framing n)) many (omega arith) (let l = e.within in omega (arith, l)) in
          omega (arith, size, short, more, stream_length (framing n) n.digest q n.me e.came.word (take e.frame (expected n q)) long, ap (λ z. frame_bytes (framing n) * z) (length-take-le e.frame (expected n q) (let l = e.within in omega (arith, l))))

  module _ (hears : HearsAll n before) (none : NoneRose n before after) (no_refusal : Rose refused refused' → ⊥) where
    by_fault : (fault : NodeFault) → Cause n before after refused refused' fault → ⊥
    by_fault (Link q) c = ⊎_elim (λ a. (none q c.0).0 a) (λ b. (none q c.0).1 b) c.1
    by_fault (Closed q at) c =
        let x = hears q c.0 in
        let a = all_of q x.0 x.1 x.3 in
        let few = too_few q at x.0 x.2 c.1 in
        absurd (omega (arith, few, ap length a.1, length-append (heard n q x.1) a.0, stream_length (framing n) n.digest q n.me x.1 (expected n q) long))
    by_fault (BadFrame q at bytes) c =
        let f : ℕ = c.1.frame in
        let x = hears q c.0 in
        let word : Key → ℕ = x.1 in
        let a = all_of q x.0 x.1 x.3 in
        let key : Key = expected_at n q f in
        let t = frames_at (framing n) word (expected n q) f c.1.within in
        let front : List ℕ = stream (framing n) n.digest q n.me c.1.came.word (take f (expected n q)) in
        let l = left_of x.0 front (shown bytes) (in_from n after q).told (sym x.2 ∙ c.1.came.told) in
        let first : List ℕ = frames (framing n) word (take f (expected n q)) in
        let mine : x.0 ≡ stream (framing n) n.digest q n.me word (take f (expected n q)) ++ (frame (framing n) key (word key) ++ (t.0 ++ a.0)) =
        a.1
        ∙ append_assoc (hello q n.me n.digest) (frames (framing n) word (expected n q)) a.0
        ∙ ap (λ z. hello q n.me n.digest ++ (z ++ a.0)) t.1
        ∙ ap (λ z. hello q n.me n.digest ++ z) (append_assoc first (frame (framing n) key (word key) ++ t.0) a.0 ∙ ap (λ z. first ++ z) (append_assoc (frame (framing n) key (word key)) t.0 a.0))
        ∙ sym (append_assoc (hello q n.me n.digest) first (frame (framing n) key (word key) ++ (t.0 ++ a.0))) in
        let front_long : length front ≡ length (stream (framing n) n.digest q n.me word (take f (expected n q))) =
        stream_length (framing n) n.digest q n.me c.1.came.word (take f (expected n q)) long ∙ sym (stream_length (framing n) n.digest q n.me word (take f (expected n q)) long) in
        let split = same_split front _ (shown bytes ++ l.0) _ front_long (sym l.2 ∙ mine) in
        let second = same_split (shown bytes) (frame (framing n) key (word key)) l.0 _ (c.1.long ∙ sym (length-frame (framing n) key (word key))) split.1 in
        let small = every_place (λ k. word k < 2 ^ n.world.plan.bits) (expected n q) f no_key (subst (AllByRecursion (λ k. word k < 2 ^ n.world.plan.bits)) (take_all (length (expected n q)) (expected n q) (omega arith)) x.3.small) c.1.within in
        c.1.no_frame (word key) small second.0
    by_fault (OtherJob q ours theirs) c =
        let x = hears q c.0 in
        let a = all_of q x.0 x.1 x.3 in
        let l = left_of x.0 [] theirs (in_from n after q).told (sym x.2 ∙ c.1.told ∙ ahead_nothing (ahead theirs (in_from n after q).told)) in
        let both : theirs ++ l.0 ≡ hello q n.me n.digest ++ (frames (framing n) x.1 (expected n q) ++ a.0) =
        sym l.2 ∙ a.1 ∙ append_assoc (hello q n.me n.digest) (frames (framing n) x.1 (expected n q)) a.0 in
        c.1.differ ((same_split theirs (hello q n.me n.digest) l.0 _ (c.1.long ∙ sym (length-hello q n.me n.digest long)) both).0 ∙ sym c.1.expected)
    by_fault (NoThread q) c = no_refusal c.1

  pub no_cause : HearsAll n before → NoneRose n before after → (Rose refused refused' → ⊥) → (fault : NodeFault) → Cause n before after refused refused' fault → ⊥
  no_cause hears none no_refusal fault = by_fault hears none no_refusal fault
