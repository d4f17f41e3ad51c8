-- A party that got the world's words says them, and has the plain outputs.
use Rattle.std.proofs.Common.{◌≡◌, ◌≢◌, ℕ, zero, suc, ◌<◌, ◌^◌, true, nat_eq, List, ◌++◌, take, length, refl, sym, ap, ◌∙◌, subst, arith, append_assoc, Some}
use Rattle.std.specs.Prelude.{slice_index_or}
use Rattle.std.specs.List.{AllByRecursion}
use Rattle.std.proofs.lemmas.Bool.{and_from, and_parts, cases_eq, eq-eqb, eqb-true}
use Rattle.std.proofs.lemmas.List.{take_all}
use mathlib.Core.Logic.{inl, inr}
use Rattle.plan_model.specs.declared.key.Key.{Key}
use Rattle.plan_model.specs.Messages.{messages}
use Rattle.plan_model.specs.Numbers.{message, no_key}
use Rattle.plan_model.proofs.DistinctMessages.{every_place}
use Rattle.share_world.specs.Worlds.{word}
use Rattle.share_world.specs.Locals.{local_word}
use Rattle.share_world.specs.Laws.{IsWhole}
use Rattle.share_world.proofs.SmallWords.{small_word, is_plan}
use Rattle.program_laws.proofs.OncePosted.{once}
use Rattle.program_laws.proofs.PartLaws.{part_of}
use Rattle.program_laws.proofs.RightWords.{IsBefore, IsUpTo, own_words, opens_plain}
use Rattle.outer_io.specs.Sink.{added}
use Rattle.outer_io.specs.Links.{LinksReading}
use Rattle.frame_code.specs.Frames.{hello}
use Rattle.node_talk.specs.Talks.{Node, framing, IsPeer, Stays, own_word, goes, messages_between, frames, stream, talk, expected, heard}
use Rattle.node_talk.specs.PeerLinks.{in_from, out_to}
use Rattle.node_talk.specs.Runs.{Results, IsDone, TalkedThrough, HearsAll, HearsWorld, GotWorld, IsOfWorld}
use Rattle.node_talk.proofs.PassedLists.{every_unfilter, every_filtered, every_from_places}
use Rattle.node_talk.proofs.Frames.{frames_eq, strip, same_frames, begins_with}
use Rattle.node_talk.proofs.ExpectedPlaces.{between_parties}

-- where the party got the world's words in all slots before one, it has the word of each message that it sends up to there
pub own_up_to : (n : Node) → IsWhole n.world → n.me < n.world.plan.parties → (got : Key → ℕ) (t k : ℕ)
    → ((m : ℕ) → m < length (messages n.world.plan) → (message n.world.plan m).receiver ≡ n.me → IsBefore t k (message n.world.plan m).session (message n.world.plan m).slot → got (message n.world.plan m) ≡ word n.world (message n.world.plan m))
    → (m : ℕ) → m < length (messages n.world.plan) → (message n.world.plan m).sender ≡ n.me → IsUpTo t k (message n.world.plan m).session (message n.world.plan m).slot → own_word n got (message n.world.plan m) ≡ word n.world (message n.world.plan m)
own_up_to n whole lp got t k right m lm from so_far =
    every_place (λ key. key.sender ≡ n.me → IsUpTo t k key.session key.slot → local_word n.world got n.me key ≡ word n.world key) (messages n.world.plan) m no_key
    (own_words n.world whole n.me lp got t k (every_from_places (λ key. key.receiver ≡ n.me → IsBefore t k key.session key.slot → got key ≡ word n.world key) (messages n.world.plan) no_key right)) lm from so_far

-- a party that got the world's words of its peers, and of the messages that stay with it has its own words, got the world's
-- words: session by session, then slot by slot
module _ (n : Node) (whole : IsWhole n.world) (lp : n.me < n.world.plan.parties) (got : Key → ℕ)
    (peers : (m : ℕ) → m < length (messages n.world.plan) → (message n.world.plan m).receiver ≡ n.me → (message n.world.plan m).sender ≢ n.me → got (message n.world.plan m) ≡ word n.world (message n.world.plan m))
    (own : (m : ℕ) → m < length (messages n.world.plan) → Stays n (message n.world.plan m) → got (message n.world.plan m) ≡ own_word n got (message n.world.plan m)) where
  abbrev key_of : ℕ → Key
  key_of m = message n.world.plan m

  abbrev Right : ℕ → Type 0
  Right m = got (message n.world.plan m) ≡ word n.world (message n.world.plan m)

  -- all that it got in the sessions before t
  abbrev Earlier : ℕ → Type 0
  Earlier t = (m : ℕ) → m < length (messages n.world.plan) → (key_of m).receiver ≡ n.me → (key_of m).session < t → Right m

  -- all that it got in session t before slot k
  abbrev Before : ℕ → ℕ → Type 0
  Before t k = (m : ℕ) → m < length (messages n.world.plan) → (key_of m).receiver ≡ n.me → (key_of m).session ≡ t → (key_of m).slot < k → Right m

  here_right : (t k : ℕ) → Earlier t → Before t k → (m : ℕ) → m < length (messages n.world.plan) → (key_of m).receiver ≡ n.me → (key_of m).session ≡ t → (key_of m).slot ≡ k → Right m
  here_right t k earlier before m lm to here at_k = elim (cases_eq (key_of m).sender n.me) [
    | inr ne ↦ peers m lm to ne
    | inl from ↦ own m lm (from, to) ∙ own_up_to n whole lp got t k
        (λ r lr to' is. elim is [ inl less ↦ earlier r lr to' less | inr same ↦ before r lr to' same.0 same.1 ])
        m lm from (inr (here, omega (arith, at_k)))
  ]

  before_slot : (t k : ℕ) → Earlier t → Before t k
  before_slot t zero earlier m lm to here less = absurd (omega (arith, less))
  before_slot t (suc k) earlier m lm to here less = elim (cases_eq (key_of m).slot k) [
    | inl e ↦ here_right t k earlier (before_slot t k earlier) m lm to here e
    | inr ne ↦ before_slot t k earlier m lm to here (omega (arith, less, ne))
  ]

  before_session : (t : ℕ) → Earlier t
  before_session zero m lm to less = absurd (omega (arith, less))
  before_session (suc t) m lm to less = elim (cases_eq (key_of m).session t) [
    | inl e ↦ before_slot t (suc (key_of m).slot) (before_session t) m lm to e (omega arith)
    | inr ne ↦ before_session t m lm to (omega (arith, less, ne))
  ]

  pub got_world : GotWorld n got
  got_world m lm to = before_session (suc (key_of m).session) m lm to (omega arith)

-- what a party that is done kept for itself is its own word
pub kept_as_sent : (n : Node) (got : Key → ℕ) (r : Results) → IsDone n got r → (m : ℕ) → m < length (messages n.world.plan) → Stays n (message n.world.plan m) → got (message n.world.plan m) ≡ own_word n got (message n.world.plan m)
kept_as_sent n got r done m lm stays =
    let both : Some (got (message n.world.plan m)) ≡ Some (own_word n got (message n.world.plan m)) = sym (done.words m lm stays.1) ∙ done.sent m lm stays.0 in
    cc

module _ (n : Node) (whole : IsWhole n.world) (lp : n.me < n.world.plan.parties) (got : Key → ℕ) (right : GotWorld n got) where
  abbrev last : ℕ
  last = length n.world.plan.sessions

  -- the word of a message that it sends, as it has it by itself, is the world's
  pub own_right : (m : ℕ) → m < length (messages n.world.plan) → (message n.world.plan m).sender ≡ n.me → own_word n got (message n.world.plan m) ≡ word n.world (message n.world.plan m)
  own_right m lm from =
      own_up_to n whole lp got last 0 (λ r lr to before. right r lr to) m lm from (inl (once n.world.plan m (is_plan n.world whole) lm).session_there)

  all_got : AllByRecursion (λ key. key.receiver ≡ n.me → IsBefore last 0 key.session key.slot → got key ≡ word n.world key) (messages n.world.plan)
  all_got = every_from_places (λ key. key.receiver ≡ n.me → IsBefore last 0 key.session key.slot → got key ≡ word n.world key) (messages n.world.plan) no_key (λ m lm to before. right m lm to)

  pub said_right : (q : ℕ) → AllByRecursion (λ key. own_word n got key ≡ word n.world key) (messages_between n.world.plan n.me q)
  said_right q =
      every_filtered (goes n.me q) (λ key. own_word n got key ≡ word n.world key) (messages n.world.plan) (every_from_places (λ key. goes n.me q key ≡ true → own_word n got key ≡ word n.world key) (messages n.world.plan) no_key (λ m lm g.
      own_right m lm (eqb-true _ _ (and_parts (nat_eq (message n.world.plan m).sender n.me) (nat_eq (message n.world.plan m).receiver q) g).0)))

  pub talk_right : (q : ℕ) → talk n q (own_word n got) ≡ talk n q (word n.world)
  talk_right q = ap (λ z. hello n.me q n.digest ++ z) (frames_eq (framing n) (own_word n got) (word n.world) (messages_between n.world.plan n.me q) (said_right q))

  pub is_of_world : (r : Results) (before after : LinksReading) → IsDone n got r → TalkedThrough n got before after → IsOfWorld n r before after
  is_of_world r before after done talked = record {
    told = λ q peer. talked.told q peer ∙ ap (added (out_to n before q).told) (talk_right q);
    outputs = λ s o ls lo read. done.outputs s o ls lo read ∙ ap Some (opens_plain n.world whole n.me lp got last 0 all_got s o ls lo read (inl ls));
  }

-- ---- inlets that begin with what the peers say in the world

module _ (n : Node) (whole : IsWhole n.world) where
  small_words' : (keys : List Key) → AllByRecursion (λ key. word n.world key < 2 ^ n.world.plan.bits) keys
  small_words' keys = every_from_places (λ key. word n.world key < 2 ^ n.world.plan.bits) keys no_key (λ j lj. small_word n.world whole (slice_index_or keys j no_key))

  pub hears_all : (links : LinksReading) → HearsWorld n links → HearsAll n links
  hears_all links hears q peer =
      let x = hears q peer in
      let keys : List Key = expected n q in
      let all : take (length keys) keys ≡ keys = take_all (length keys) keys (omega arith) in (
        x.0,
        word n.world,
        x.1,
        record {
          count = omega arith;
          small = subst (AllByRecursion (λ key. word n.world key < 2 ^ n.world.plan.bits)) (sym all) (small_words' keys);
          begins = (x.2.0, x.2.1 ∙ ap (λ z. stream (framing n) n.digest q n.me (word n.world) z ++ x.2.0) (sym all));
        },
      )

  module _ (lp : n.me < n.world.plan.parties) (got : Key → ℕ) (before after : LinksReading) (talked : TalkedThrough n got before after) (hears : HearsWorld n before) where
    heard_right : (q : ℕ) → IsPeer n q → AllByRecursion (λ key. got key ≡ word n.world key) (expected n q)
    heard_right q peer =
        let x = hears q peer in
        let keys : List Key = expected n q in
        let start : List ℕ = hello q n.me n.digest in
        let b = begins_with x.0 (heard n q got) (in_from n after q).told (sym x.1 ∙ talked.heard q peer) in
        let his : x.0 ≡ start ++ (frames (framing n) got keys ++ b.0) = b.1 ∙ append_assoc start (frames (framing n) got keys) b.0 in
        let mine : x.0 ≡ start ++ (frames (framing n) (word n.world) keys ++ x.2.0) = x.2.1 ∙ append_assoc start (frames (framing n) (word n.world) keys) x.2.0 in
        let few = whole.sound.bits in
        same_frames (framing n) few got (word n.world) keys b.0 x.2.0 (talked.small q peer) (small_words' keys)
        (strip start _ _ (sym his ∙ mine))

    from_peers : (m : ℕ) → m < length (messages n.world.plan) → (message n.world.plan m).receiver ≡ n.me → (message n.world.plan m).sender ≢ n.me → got (message n.world.plan m) ≡ word n.world (message n.world.plan m)
    from_peers m lm to ne =
        let key : Key = message n.world.plan m in
        let b = between_parties n (part_of n.world whole n.me lp) m lm in
        every_place (λ z. goes key.sender n.me z ≡ true → got z ≡ word n.world z) (messages n.world.plan) m no_key
        (every_unfilter (goes key.sender n.me) (λ z. got z ≡ word n.world z) (messages n.world.plan) (heard_right key.sender (b.sender, ne))) lm
        (and_from (nat_eq key.sender key.sender) (nat_eq key.receiver n.me) (eq-eqb key.sender key.sender refl) (eq-eqb key.receiver n.me to))

    pub joins : (r : Results) → IsDone n got r → IsOfWorld n r before after
    joins r done = is_of_world n whole lp got (got_world n whole lp got from_peers (kept_as_sent n got r done)) r before after done talked
