-- A party that stopped while its readers read.
use Rattle.std.proofs.Common.{◌≡◌, ℕ, ◌<◌, nat_eq, if◌then◌else◌, List, length, sym, ap, ◌∙◌, subst, arith, ⊎_elim}
use Rattle.std.specs.Prelude.{slice_index, Some, Result}
use Rattle.std.proofs.lemmas.Bool.{cond-true, cond-false, eq-eqb, ne_eqb}
use Rattle.plan_model.specs.declared.key.Key.{Key}
use Rattle.plan_model.specs.Numbers.{message, number}
use Rattle.plan_model.proofs.DistinctMessages.{number_of_message}
use Rattle.outer_io.specs.Inlet.{InletReading}
use Rattle.outer_io.specs.Links.{LinksReading}
use Rattle.node_talk.specs.declared.fault.NodeFault.{NodeFault}
use Rattle.node_talk.specs.Talks.{Node, IsPeer, Stays, expected, expected_at, place_of, IsRun}
use Rattle.node_talk.specs.PeerLinks.{in_from}
use Rattle.node_talk.specs.Runs.{NoSendRose, AllStarted, SaidAll, BrokeOff}
use Rattle.node_talk.proofs.ExpectedPlaces.{expected_there}
use Rattle.link_reader.specs.ReadWords.{WordsCame}
use Rattle.link_reader.specs.NodeReaders.{incoming, ReadsFrom, HasReadWords, StoppedShort}
use Rattle.link_reader.proofs.Runs.{came_so_far, reads_a_run}
use Rattle.link_reader.proofs.NoMore.{no_more}

module _ (n : Node) (long : length n.digest ≡ 32) (before after : LinksReading) (fault : NodeFault) (h : StoppedShort n before after fault) where
  -- each message of a peer has the word that was read at its place
  read_word : Key → ℕ
  read_word key = slice_index (h.words key.sender) (place_of n (number n.world.plan key))

  -- and those of the party itself have the words that it kept
  got : Key → ℕ
  got key = if nat_eq key.sender n.me then h.kept key else read_word key

  got_own : (key : Key) → Stays n key → got key ≡ h.kept key
  unfolding got
  got_own key stays = cond-true (nat_eq key.sender n.me) (h.kept key) (read_word key) (eq-eqb key.sender n.me stays.0)

  got_at : (q place : ℕ) → IsPeer n q → place < length (expected n q) → got (expected_at n q place) ≡ slice_index (h.words q) place
  unfolding got read_word
  got_at q place peer l =
      let e = expected_there n q place l in
      let key : Key = message n.world.plan e.number in
      subst (λ z. got z ≡ slice_index (h.words q) place) e.same
      (
      cond-false (nat_eq key.sender n.me) (h.kept key) (read_word key) (ne_eqb key.sender n.me (λ me. peer.1 (sym e.sender ∙ me)))
      ∙ ap (λ z. slice_index (h.words z) (place_of n (number n.world.plan key))) e.sender
      ∙ ap (λ z. slice_index (h.words q) (place_of n z)) (number_of_message n.world.plan e.number e.there)
      ∙ ap (slice_index (h.words q)) e.place_is
      )

  came_of : (q : ℕ) → IsPeer n q → 0 < length (h.words q) → (result : Result (Unit {0}) NodeFault) × (now : InletReading) × ReadsFrom n q (h.words q) before after result × WordsCame (incoming n q) (h.words q) (in_from n before q) now
  came_of q peer some =
      ⊎_elim (λ none. absurd (let e = ap (λ z. length z) none in omega arith))
      (λ (r : (result : Result (Unit {0}) NodeFault) × ReadsFrom n q (h.words q) before after result).
      let c = came_so_far (incoming n q) (h.words q) (in_from n before q) (in_from n after q) r.0 some r.1 in (r.0, c.0, r.1, c.1)) (h.read q peer)

  read_words : HasReadWords n got h.words h.kept
  read_words = (λ q peer. (omega arith, λ place l. got_at q place peer (let few = (came_of q peer (omega arith)).3.few in omega arith)), got_own)

  hears : (q : ℕ) → IsPeer n q → (bytes : List ℕ) → (in_from n before q).told ≡ Some bytes → 0 < length (h.words q) → IsRun n q bytes (length (h.words q)) got
  hears q peer bytes told some =
      let c = came_of q peer some in
      reads_a_run n q got (length (h.words q)) (h.words q) bytes before after c.0 told some (read_words.0 q peer) c.2

  all : AllStarted fault → NoSendRose n before after → SaidAll n got (λ q. length (h.words q)) h.k before after
  all started calm =
      let a = h.all started calm in
      record {
        told = a.told got read_words;
        stops = a.stops;
        most = λ q peer still bytes told. let r = a.read q peer in no_more n q long (h.words q) bytes before after told still r.0 r.1;
      }

  pub breaks_off : (g : Key → ℕ) × BrokeOff n g before after fault
  breaks_off = (
    got,
    record {
      came = λ q. length (h.words q);
      k = h.k;
      hears = hears;
      takes = h.takes;
      keeps = h.keeps got read_words;
      told = h.sent got read_words;
      sends = h.sends got read_words;
      all = all;
    },
  )
