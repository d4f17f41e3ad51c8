-- Why a node stops.
use Rattle.std.specs.Prelude.{◌≡◌, ◌≢◌, ◌⊎◌, ℕ, ◌+◌, ◌<◌, ◌^◌, IsTrue, List, length, take, Option, None, Some}
use Rattle.std.specs.List.{AllByRecursion}
use Rattle.plan_model.specs.declared.key.Key.{Key}
use Rattle.outer_io.specs.Count.{Rose}
use Rattle.outer_io.specs.Inlet.{ahead, IsAtEnd}
use Rattle.frame_code.specs.declared.framing.Framing.{Framing}
use Rattle.frame_code.specs.Frames.{hello, frame, frame_begin, frame_bytes, shown}
use Rattle.node_talk.specs.declared.fault.NodeFault.{NodeFault}
use Rattle.node_talk.specs.declared.fault.NodeFault.TheVariants.{Link, Closed, BadFrame, OtherJob, NoThread}
use Rattle.outer_io.specs.Links.{LinksReading}
use Rattle.node_talk.specs.Talks.{Node, IsPeer, framing, stream, expected, expected_at}
use Rattle.node_talk.specs.PeerLinks.{in_from, out_to}
use Rattle.frame_code.specs.declared.sizes.TheConstants.{HELLO_BYTES}

-- the word of a frame of this message, if the bytes are one with a word of the ring
abbrev pub IsWordOf : List ℕ → Framing → Key → Option ℕ → Type 0
IsWordOf bytes f key (Some word) = (word < 2 ^ f.bits) × (bytes ≡ frame f key word)
IsWordOf bytes f key None = (word : ℕ) → word < 2 ^ f.bits → bytes ≢ frame f key word

-- from q came the hello and the first f expected frames, with words of the ring, and then these bytes
pub record CameAfter (n : Node) (before after : LinksReading) (q f : ℕ) (bytes : List ℕ) : Type 0 where
  pub word : Key → ℕ
  pub small : AllByRecursion (λ key. word key < 2 ^ n.world.plan.bits) (take f (expected n q))
  pub told : (in_from n before q).told
      ≡ ahead (stream (framing n) n.digest q n.me word (take f (expected n q))) (ahead bytes (in_from n after q).told)

-- `at` bytes came from q, fewer than the hello has
pub record EndsInHello (n : Node) (before after : LinksReading) (q at : ℕ) : Type 0 where
  pub piece : List ℕ
  pub place : at ≡ length piece
  pub short : length piece < HELLO_BYTES
  pub told : (in_from n before q).told ≡ ahead piece (in_from n after q).told

-- `at` bytes came from q: the hello and some expected frames, and fewer than the next expected frame has
pub record EndsInFrame (n : Node) (before after : LinksReading) (q at : ℕ) : Type 0 where
  pub frame : ℕ
  pub within : frame < length (expected n q)
  pub piece : List ℕ
  pub place : at ≡ frame_begin (framing n) frame + length piece
  pub short : length piece < frame_bytes (framing n)
  pub came : CameAfter n before after q frame piece

-- `at` bytes came from q, and then the end, within the hello or the frame that is expected next
pub record ClosedAt (n : Node) (before after : LinksReading) (q at : ℕ) : Type 0 where
  pub within : EndsInHello n before after q at ⊎ EndsInFrame n before after q at
  pub none_left : IsAtEnd (in_from n after q).told
  pub ended : IsTrue (in_from n after q).ended

-- after the hello and the frames before it, at the place of an expected frame came as many bytes as a frame has,
-- which are not that frame with a word of the ring
pub record BadAt (n : Node) (before after : LinksReading) (q at : ℕ) (bytes : List ℕ) : Type 0 where
  pub frame : ℕ
  pub within : frame < length (expected n q)
  pub place : at ≡ frame_begin (framing n) frame
  pub long : length bytes ≡ frame_bytes (framing n)
  pub came : CameAfter n before after q frame bytes
  pub no_frame : IsWordOf bytes (framing n) (expected_at n q frame) None

-- the first bytes from q, as many as a hello has, are not the hello that is expected
pub record OtherHello (n : Node) (before after : LinksReading) (q : ℕ) (ours theirs : List ℕ) : Type 0 where
  pub expected : ours ≡ hello q n.me n.digest
  pub long : length theirs ≡ HELLO_BYTES
  pub told : (in_from n before q).told ≡ ahead theirs (in_from n after q).told
  pub differ : theirs ≢ ours

-- the cause of each fault. refused and refused' count the refusals to start a reader, before the run and after it.
abbrev pub Cause : Node → LinksReading → LinksReading → ℕ → ℕ → NodeFault → Type 0
Cause n before after refused refused' (Link q) =
    IsPeer n q
    × (Rose (in_from n before q).faults (in_from n after q).faults
    ⊎ Rose (out_to n before q).faults (out_to n after q).faults)
Cause n before after refused refused' (Closed q at) = IsPeer n q × ClosedAt n before after q at
Cause n before after refused refused' (BadFrame q at bytes) = IsPeer n q × BadAt n before after q at (shown bytes)
Cause n before after refused refused' (OtherJob q ours theirs) = IsPeer n q
    × OtherHello n before after q ours theirs
Cause n before after refused refused' (NoThread q) = IsPeer n q × Rose refused refused'
