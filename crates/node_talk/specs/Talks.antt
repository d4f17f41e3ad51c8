-- A party by itself: what it says to each other party over a pipe, and what it hears from it.
use Rattle.std.specs.Prelude.{◌≡◌, ◌≢◌, ℕ, suc, ◌<◌, ◌≤◌, ◌^◌, Bool, ◌&&◌, nat_eq, List, [], ◌∷◌, ◌++◌, filter, length, take, slice_index_or}
use Rattle.std.specs.List.{flat_map, AllByRecursion}
use Rattle.list_laws.specs.Lists.{joined, only_if}
use Rattle.plan_model.specs.Plans.{Plan}
use Rattle.plan_model.specs.declared.key.Key.{Key}
use Rattle.plan_model.specs.Messages.{messages}
use Rattle.plan_model.specs.Numbers.{message, no_key}
use Rattle.share_world.specs.Worlds.{World}
use Rattle.share_world.specs.Locals.{local_word}
use Rattle.program_model.specs.declared.instruction.Instruction.{Instruction}
use Rattle.program_model.specs.declared.instruction.Instruction.TheVariants.{Post}
use Rattle.program_model.specs.Programs.{program, to}
use Rattle.frame_code.specs.declared.framing.FrameForm.{FrameForm}
use Rattle.frame_code.specs.declared.framing.Framing.{Framing}
use Rattle.frame_code.specs.Frames.{hello, frame}

-- ---- between two parties

-- the message goes from p to q
abbrev pub goes : ℕ → ℕ → Key → Bool
goes p q key = nat_eq key.sender p && nat_eq key.receiver q

-- all messages that go from p to q, in the order of their numbers
abbrev pub messages_between : Plan → ℕ → ℕ → List Key
messages_between plan p q = filter (goes p q) (messages plan)

-- the frame of each message, with its word
abbrev pub frames : Framing → (Key → ℕ) → List Key → List ℕ
frames f word keys = flat_map (λ key. frame f key (word key)) keys

-- what p sends to q: its hello, and then the frames of these messages
abbrev pub stream : Framing → List ℕ → ℕ → ℕ → (Key → ℕ) → List Key → List ℕ
stream f digest p q word keys = hello p q digest ++ frames f word keys

-- the bytes begin with these
abbrev pub Begins : List ℕ → List ℕ → Type 0
Begins bytes front = (rest : List ℕ) × (bytes ≡ front ++ rest)

-- ---- a party

-- a party of a world, with the digest of the job and the form of its frames
pub record Node : Type 0 where
  pub world : World
  pub me : ℕ
  pub digest : List ℕ
  pub form : FrameForm

-- how its messages are framed
abbrev pub framing : Node → Framing
framing n = record { form = n.form; bits = n.world.plan.bits }

-- q is another party
abbrev pub IsPeer : Node → ℕ → Type 0
IsPeer n q = (q < n.world.plan.parties) × (q ≢ n.me)

-- the message stays with it: it goes from it to itself, and so over no pipe
abbrev pub Stays : Node → Key → Type 0
Stays n key = (key.sender ≡ n.me) × (key.receiver ≡ n.me)

-- the word of each of its messages, as it computes it by itself where it got these words
abbrev pub own_word : Node → (Key → ℕ) → Key → ℕ
own_word n got = local_word n.world got n.me

-- all that it says to q: the hello, and the frame of each of its messages to q
abbrev pub talk : Node → ℕ → (Key → ℕ) → List ℕ
talk n q word = stream (framing n) n.digest n.me q word (messages_between n.world.plan n.me q)

-- the messages that it expects of q, in order
abbrev pub expected : Node → ℕ → List Key
expected n q = messages_between n.world.plan q n.me

-- the one at this place
abbrev pub expected_at : Node → ℕ → ℕ → Key
expected_at n q place = slice_index_or (expected n q) place no_key

-- where message m stands among those that its sender sends to this party
abbrev pub place_of : Node → ℕ → ℕ
place_of n m =
    length (filter (goes (message n.world.plan m).sender n.me) (take m (messages n.world.plan)))

-- all that q says to it
abbrev pub heard : Node → ℕ → (Key → ℕ) → List ℕ
heard n q word = stream (framing n) n.digest q n.me word (expected n q)

-- ---- by its instructions

-- all that it does, session after session
abbrev pub acts : Node → List Instruction
acts n = joined (length n.world.plan.sessions) (program n.world.plan n.me)

-- the message that an instruction posts to q
abbrev pub post_to : Plan → ℕ → Instruction → List Key
post_to plan q (Post m i) = only_if (to plan q m) (message plan m ∷ [])
post_to plan q _ = []

-- the messages that the first k instructions post to q
abbrev pub posts_to : Node → ℕ → ℕ → List Key
posts_to n q k = flat_map (post_to n.world.plan q) (take k (acts n))

-- what it says to q by its first k instructions
abbrev pub said : Node → ℕ → (Key → ℕ) → ℕ → List ℕ
said n q word k = stream (framing n) n.digest n.me q word (posts_to n q k)

-- all instructions together say the talk
abbrev pub TalkIsSaid : Node → Type 0
TalkIsSaid n = (q : ℕ) (word : Key → ℕ) → said n q word (length (acts n)) ≡ talk n q word

-- ---- what an inlet holds of q

-- the bytes begin with the hello that is expected of q, and then with the first f expected frames, with these words of
-- the ring
pub record IsRun (n : Node) (q : ℕ) (bytes : List ℕ) (f : ℕ) (word : Key → ℕ) : Type 0 where
  pub count : f ≤ length (expected n q)
  pub small : AllByRecursion (λ key. word key < 2 ^ n.world.plan.bits) (take f (expected n q))
  pub begins : Begins bytes (stream (framing n) n.digest q n.me word (take f (expected n q)))

-- the bytes hold no run of f frames
abbrev pub EndsBefore : Node → ℕ → List ℕ → ℕ → Type 0
EndsBefore n q bytes f = (word : Key → ℕ) → IsRun n q bytes f word → ⊥

-- two runs in the same bytes have the same words, as far as both go
abbrev pub RunsAgree : Node → ℕ → Type 0
RunsAgree n q =
    (bytes : List ℕ) (f g : ℕ) (v w : Key → ℕ) → IsRun n q bytes f v → IsRun n q bytes g w
    → (place : ℕ) → place < f → place < g → v (expected_at n q place) ≡ w (expected_at n q place)

-- and two that can't be longer are as long
abbrev pub OneIsLongest : Node → ℕ → Type 0
OneIsLongest n q =
    (bytes : List ℕ) (f g : ℕ) (v w : Key → ℕ) → IsRun n q bytes f v → IsRun n q bytes g w
    → EndsBefore n q bytes (suc f) → EndsBefore n q bytes (suc g) → f ≡ g
