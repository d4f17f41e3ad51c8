-- What parties say to one another, in bytes. All numbers are big-endian.
use Rattle.std.specs.Prelude.{ℕ, ◌+◌, ◌-◌, ◌*◌, ◌/◌, ◌<◌, ◌^◌, List, ◌∷◌, ◌++◌, take, codes}
use Rattle.std.specs.Int.{w16, w32, w64, to_be_bytes}
use Rattle.byteorder.specs.Endian.{big_bytes}
use Rattle.plan_model.specs.declared.key.Key.{Key}
use Rattle.frame_code.specs.declared.framing.FrameForm.{FrameForm}
use Rattle.frame_code.specs.declared.framing.FrameForm.TheVariants.{Named, Short}
use Rattle.frame_code.specs.declared.framing.Framing.{Framing}
use Rattle.frame_code.specs.declared.framing.FrameBytes.{FrameBytes}
use Rattle.frame_code.specs.declared.sizes.TheConstants.{HELLO_BYTES, NAMED_BYTES}

-- the letters MPC1, the number of the party that speaks and of the one that it speaks to, and the digest of the job
unfoldable pub hello : ℕ → ℕ → List ℕ → List ℕ
hello sender receiver digest = codes "MPC1" ++ (sender ∷ receiver ∷ digest)

-- a 1, the session and the slot of a message, its share, sender and receiver, and its word
unfoldable pub named_frame : Key → ℕ → List ℕ
named_frame key word =
    1 ∷ (to_be_bytes w16 key.session ++ (to_be_bytes w32 key.slot
    ++ (key.share ∷ key.sender ∷ key.receiver ∷ to_be_bytes w64 word)))

-- in how many bytes a word of so many bits goes
abbrev pub word_bytes : ℕ → ℕ
word_bytes bits = (bits - 1) / 8 + 1

-- a word of so many bits alone
unfoldable pub short_frame : ℕ → ℕ → List ℕ
short_frame bits word = big_bytes (word_bytes bits) word

-- the frame of a message and its word, in either form
abbrev pub frame_as : FrameForm → ℕ → Key → ℕ → List ℕ
frame_as Named bits key word = named_frame key word
frame_as Short bits key word = short_frame bits word

unfoldable pub frame : Framing → Key → ℕ → List ℕ
frame f key word = frame_as f.form f.bits key word

-- how many bytes it has
abbrev pub bytes_as : FrameForm → ℕ → ℕ
bytes_as Named bits = NAMED_BYTES
bytes_as Short bits = word_bytes bits

unfoldable pub frame_bytes : Framing → ℕ
frame_bytes f = bytes_as f.form f.bits

-- where the frame at a place begins, behind a hello and the frames before it
abbrev pub frame_begin : Framing → ℕ → ℕ
frame_begin f place = HELLO_BYTES + frame_bytes f * place

-- the bytes that are counted
abbrev pub shown : FrameBytes → List ℕ
shown frame = take frame.count frame.bytes

-- a frame that names its message has room for this one
pub record FitsFrame (key : Key) : Type 0 where
  pub session : key.session < 2 ^ 16
  pub slot : key.slot < 2 ^ 32
  pub share : key.share < 256
  pub sender : key.sender < 256
  pub receiver : key.receiver < 256
