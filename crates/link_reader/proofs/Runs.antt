-- What was read is a run in the bytes of the inlet.
use Rattle.std.proofs.Common.{◌≡◌, ℕ, zero, suc, ◌<◌, ◌≤◌, ◌^◌, List, [], ◌∷◌, ◌++◌, length, take, refl, sym, ap, ap₂, ◌∙◌, subst, arith, append_assoc, ⊎_elim}
use Rattle.std.specs.Prelude.{slice_index, slice_index_or, Result, Ok, Err}
use Rattle.std.specs.List.{AllByRecursion}
use Rattle.std.proofs.Math.Seq.{take-length}
use Rattle.plan_model.specs.declared.key.Key.{Key}
use Rattle.plan_model.specs.Numbers.{no_key, number}
use Rattle.plan_model.proofs.DistinctMessages.{numbers_are_inverse}
use Rattle.outer_io.specs.Inlet.{InletReading, ahead}
use Rattle.frame_code.specs.declared.framing.Framing.{Framing}
use Rattle.frame_code.specs.Frames.{hello, frame}
use Rattle.node_talk.specs.declared.fault.NodeFault.{NodeFault}
use Rattle.node_talk.specs.Talks.{Node, framing, expected, expected_at, place_of, heard, frames, stream}
use Rattle.outer_io.specs.Links.{LinksReading}
use Rattle.node_talk.specs.PeerLinks.{in_from}
use Rattle.node_talk.proofs.ExpectedPlaces.{Expected, expected_there}
use Rattle.node_talk.proofs.Frames.{begins_with}
use Rattle.link_reader.specs.Expected.{TalkModel}
use Rattle.link_reader.specs.ReadWords.{framed, WordsCame, CameShort, ReadsWords}
use Rattle.link_reader.specs.NodeReaders.{incoming, ReadsFrom, HasFirstWords, ReadsARun, TalksThrough}

-- the frames of more words begin with those of the first ones
first_frames : (r : Framing) (got : Key → ℕ) (keys : List Key) (words : List ℕ) (c : ℕ) → c ≤ length keys → c ≤ length words → ((f : ℕ) → f < c → got (slice_index_or keys f no_key) ≡ slice_index words f) → (more : List ℕ) × (framed r keys words ≡ frames r got (take c keys) ++ more)
first_frames r got keys words zero lk lw h = (framed r keys words, refl)
first_frames r got [] words (suc c) lk lw h = absurd (omega arith)
first_frames r got (key ∷ keys) [] (suc c) lk lw h = absurd (omega arith)
first_frames r got (key ∷ keys) (word ∷ words) (suc c) lk lw h =
    let t = first_frames r got keys words c (omega arith) (omega arith) (λ f l. h (suc f) (omega arith)) in
    (t.0, ap₂ (λ w z. frame r key w ++ z) (sym (h 0 (omega arith))) t.1 ∙ sym (append_assoc (frame r key (got key)) (frames r got (take c keys)) t.0))

pub small_words : (bits : ℕ) (got : Key → ℕ) (keys : List Key) (words : List ℕ) (c : ℕ) → c ≤ length keys → c ≤ length words → ((f : ℕ) → f < c → got (slice_index_or keys f no_key) ≡ slice_index words f)
    → AllByRecursion (λ word. word < 2 ^ bits) words → AllByRecursion (λ key. got key < 2 ^ bits) (take c keys)
small_words bits got keys words zero lk lw h small = tt
small_words bits got [] words (suc c) lk lw h small = absurd (omega arith)
small_words bits got (key ∷ keys) [] (suc c) lk lw h small = absurd (omega arith)
small_words bits got (key ∷ keys) (word ∷ words) (suc c) lk lw h small =
    (subst (λ z. z < 2 ^ bits) (sym (h 0 (omega arith))) small.0, small_words bits got keys words c (omega arith) (omega arith) (λ f l. h (suc f) (omega arith)) small.1)

-- what came before the reader's end, of which a first word was read
pub came_so_far : (talk : TalkModel) (words : List ℕ) (before after : InletReading) (result : Result (Unit {0}) NodeFault) → 0 < length words → ReadsWords talk words before after result
    → (now : InletReading) × WordsCame talk words before now
came_so_far talk words before after (Ok _) some h = (after, h.0)
came_so_far talk words before after (Err fault) some h =
    ⊎_elim (λ none. absurd (let e = ap length none.0 in omega arith)) (λ (s : CameShort talk words before after fault). (s.now, s.came)) h

pub reads_a_run : (n : Node) (q : ℕ) → ReadsARun n q
reads_a_run n q got count words bytes before after result told some has h =
    let c = came_so_far (incoming n q) words (in_from n before q) (in_from n after q) result (let l = has.0 in omega arith) h in
    let fits : count ≤ length (expected n q) = (let f = c.1.few in let l = has.0 in omega arith) in
    let f = first_frames (framing n) got (expected n q) words count fits has.0 has.1 in
    let b = begins_with bytes (hello q n.me n.digest ++ framed (framing n) (expected n q) words) c.0.told (sym told ∙ c.1.told) in
    record {
      count = fits;
      small = small_words n.world.plan.bits got (expected n q) words count fits has.0 has.1 c.1.small;
      begins = (
        f.0 ++ b.0,
        b.1
            ∙ ap (λ z. (hello q n.me n.digest ++ z) ++ b.0) f.1
            ∙ ap (λ z. z ++ b.0) (sym (append_assoc (hello q n.me n.digest) (frames (framing n) got (take count (expected n q))) f.0))
            ∙ append_assoc (stream (framing n) n.digest q n.me got (take count (expected n q))) f.0 b.0,
      );
    }

-- ---- all that is expected came

-- the frames of some first words, with a function of messages that gives these
pub framed_taken : (r : Framing) (got : Key → ℕ) (keys : List Key) (words : List ℕ) → length words ≤ length keys → ((f : ℕ) → f < length words → got (slice_index_or keys f no_key) ≡ slice_index words f) → framed r keys words ≡ frames r got (take (length words) keys)
framed_taken r got [] [] l h = refl
framed_taken r got [] (word ∷ words) l h = absurd (omega arith)
framed_taken r got (key ∷ keys) [] l h = refl
framed_taken r got (key ∷ keys) (word ∷ words) l h = ap₂ (λ w z. frame r key w ++ z) (sym (h 0 (omega arith))) (framed_taken r got keys words (omega arith) (λ f l. h (suc f) (omega arith)))

framed_frames : (r : Framing) (got : Key → ℕ) (keys : List Key) (words : List ℕ) → length words ≡ length keys → ((f : ℕ) → f < length keys → got (slice_index_or keys f no_key) ≡ slice_index words f) → framed r keys words ≡ frames r got keys
framed_frames r got keys words e h = framed_taken r got keys words (omega (arith, e)) (λ f l. h f (omega (arith, e, l))) ∙ ap (frames r got) (ap (λ z. take z keys) e ∙ take-length keys)

-- ---- words as a function of messages

-- the word that stands among these at the place of a message
abbrev pub word_at : Node → List ℕ → Key → ℕ
word_at n words key = slice_index words (place_of n (number n.world.plan key))

pub word_at_place : (n : Node) (q : ℕ) (words : List ℕ) (place : ℕ) → place < length (expected n q) → word_at n words (expected_at n q place) ≡ slice_index words place
word_at_place n q words place l =
    let x : Expected n q place = expected_there n q place l in
    ap (word_at n words) (sym x.same) ∙ ap (λ z. slice_index words (place_of n z)) ((numbers_are_inverse n.world.plan).0 x.number x.there) ∙ ap (slice_index words) x.place_is

-- ---- an inlet that was read whole

-- an inlet that was read whole gave the hello and all expected frames
pub whole_words : (n : Node) (q : ℕ) (got : Key → ℕ) (words : List ℕ) (before after : LinksReading) → ReadsFrom n q words before after (Ok tt) → HasFirstWords n q got (length (expected n q)) words
    → ((in_from n before q).told ≡ ahead (heard n q got) (in_from n after q).told) × AllByRecursion (λ key. got key < 2 ^ n.world.plan.bits) (expected n q)
whole_words n q got words before after r a = (
  r.0.told ∙ ap (λ z. ahead (hello q n.me n.digest ++ z) (in_from n after q).told) (framed_frames (framing n) got (expected n q) words r.1 a.1),
  subst (AllByRecursion (λ key. got key < 2 ^ n.world.plan.bits)) (take-length (expected n q)) (small_words n.world.plan.bits got (expected n q) words (length (expected n q)) (omega arith) a.0 a.1 r.0.small),
)

pub talks_through : (n : Node) → TalksThrough n
talks_through n got before after h = record {
  told = h.told;
  heard = λ q peer. (whole_words n q got (h.words q) before after (h.read q peer) (h.agrees q peer)).0;
  small = λ q peer. (whole_words n q got (h.words q) before after (h.read q peer) (h.agrees q peer)).1;
}
