-- What a party expects of a peer.
use Rattle.std.specs.Prelude.{◌≡◌, ℕ, ◌<◌, ◌≤◌, ◌^◌, List, filter, length, take, slice_index, slice_index_or}
use Rattle.plan_model.specs.declared.key.Key.{Key}
use Rattle.plan_model.specs.Plans.{Plan}
use Rattle.plan_model.specs.Numbers.{message, no_key}
use Rattle.plan_model.specs.Messages.{messages}
use Rattle.frame_code.specs.declared.framing.FrameForm.{FrameForm}
use Rattle.frame_code.specs.declared.framing.Framing.{Framing}
use Rattle.frame_code.specs.Frames.{FitsFrame}
use Rattle.node_talk.specs.Talks.{Node, goes, place_of}

-- the hello of `peer` to party `me`, in a job of this digest, and then a frame of this form for each of these messages,
-- with words of `bits` bits
pub record TalkModel : Type 0 where
  pub peer : ℕ
  pub me : ℕ
  pub digest : List ℕ
  pub bits : ℕ
  pub keys : List Key
  pub form : FrameForm

-- how its messages are framed
abbrev pub framing_of : TalkModel → Framing
framing_of talk = record { form = talk.form; bits = talk.bits }

-- the message of the frame at this place
abbrev pub key_at : TalkModel → ℕ → Key
key_at talk place = slice_index_or talk.keys place no_key

-- a frame has room for each of these names
abbrev pub AllFitFrames : List Key → Type 0
AllFitFrames keys = (place : ℕ) → place < length keys → FitsFrame (slice_index_or keys place no_key)

-- a hello has room for the parties, and a frame for each message and its word
pub record FitsTalk (talk : TalkModel) : Type 0 where
  pub peer : talk.peer < 256
  pub me : talk.me < 256
  pub bits : talk.bits ≤ 64
  pub few : length talk.keys < 2 ^ 32
  pub frames : AllFitFrames talk.keys

-- where each message stands among those that its sender sends to party n
pub record HasPlaces (n : Node) (places : List ℕ) : Type 0 where
  pub count : length places ≡ length (messages n.world.plan)
  pub each : (m : ℕ) → m < length (messages n.world.plan) → slice_index places m ≡ place_of n m

-- how many of the first n messages go from q to party me
abbrev pub sent_before : Plan → ℕ → ℕ → ℕ → ℕ
sent_before plan q me n = length (filter (goes q me) (take n (messages plan)))

-- the places of the first n messages among those that their senders send to party me, and how many each party sends it
pub record ArePlaced (plan : Plan) (me n : ℕ) (places counts : List ℕ) : Type 0 where
  pub long : length places ≡ n
  pub each : (m : ℕ) → m < n → slice_index places m ≡ sent_before plan (message plan m).sender me m
  pub many : length counts ≡ plan.parties
  pub sent : (q : ℕ) → q < plan.parties → slice_index counts q ≡ sent_before plan q me n
