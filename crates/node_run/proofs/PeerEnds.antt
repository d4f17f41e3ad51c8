-- What each reader read, from the end of all of them.
use Rattle.std.proofs.Common.{◌≡◌, ◌≢◌, ◌⊎◌, ⊎_elim, ℕ, zero, suc, ◌+◌, ◌%◌, ◌<◌, ◌^◌, false, List, [], ◌∷◌, length, map, refl, sym, ap, ◌∙◌, subst, arith, Option, Some, None, Result, Ok, Err, mod-eq_of_lt, pow_pos}
use Rattle.std.specs.Prelude.{slice_index, slice_index_or, is_err}
use Rattle.std.proofs.lemmas.Bool.{cases_lt}
use Rattle.std.proofs.lemmas.Bool.Decides.{nat_tests}
use Rattle.std.proofs.lemmas.List.{get_or_past}
use mathlib.Core.Logic.{inl as left', inr as right'}
use Rattle.list_laws.proofs.JoinedLists.{every_at}
use Rattle.message_board.specs.Pairs.{Knows}
use Rattle.message_board.specs.Plain.{plain_cell}
use Rattle.inbox_board.specs.Seats.{mark_of}
use Rattle.inbox_board.specs.Folds.{GotWhatWasPushed}
use Rattle.plan_model.specs.Messages.{messages}
use Rattle.plan_model.specs.Numbers.{message}
use Rattle.program_model.specs.declared.instruction.Instruction.TheVariants.{Take, End}
use Rattle.program_model.specs.Programs.{at}
use Rattle.outer_io.specs.Inlet.{InletReading, shut_inlet}
use Rattle.outer_io.specs.Links.{LinksReading}
use Rattle.node_talk.specs.declared.fault.NodeFault.{NodeFault}
use Rattle.node_talk.specs.Talks.{Node, IsPeer, acts, place_of}
use Rattle.node_talk.specs.PeerLinks.{place_among, no_inlet, in_from}
use Rattle.node_talk.proofs.ExpectedPlaces.{between_parties}
use Rattle.node_talk.proofs.ActPlaces.{taken_by}
use Rattle.link_reader.specs.Heard.{KeepsCalm}
use Rattle.link_reader.specs.NodeReaders.{incoming, ReadsFrom}
use Rattle.link_reader.specs.ReadWords.{ReadsWords}
use Rattle.link_reader.proofs.Runs.{came_so_far, whole_words, word_at, word_at_place}
use Rattle.node_run.specs.Mail.{ComesFromPeer, Mail, IsMail, NeverComes, place_to, no_box, box_of}
use Rattle.node_run.specs.Progress.{Begin, IsOf}
use Rattle.node_run.specs.Remains.{party_at, PeerEnd, first_of, AllEnd, AllKeepCalm, ReadBy, EndsAtRefusal}
use Rattle.node_run.specs.NodeRuns.{GaveAll}
use Rattle.node_run.proofs.ClosedLinks.{calm_same, inlet_shut}
use Rattle.node_run.proofs.KnownWords.{cell_there}

-- ---- places of peers

pub party_there : (p q : ℕ) → q ≢ p → party_at p (place_among p q) ≡ q
party_there p q ne = grind (arith, nat_tests)

pub place_there : (p place : ℕ) → place_among p (party_at p place) ≡ place
place_there p place = grind (arith, nat_tests)

pub place_less : (p q r : ℕ) → q ≢ p → r ≢ p → r < q → place_among p r < place_among p q
place_less p q r nq nr l = grind (arith, nat_tests)

-- ---- reader after reader

-- the words that each reader read
pub words_of : (n : Node) (now : Mail) (place : ℕ) (befores afters : List InletReading) (fault : Option NodeFault) → AllEnd n now place befores afters fault → List (List ℕ)
words_of n now place [] [] fault h = []
words_of n now place [] (a ∷ afters) fault h = absurd h
words_of n now place (b ∷ befores) [] fault h = absurd h
words_of n now place (b ∷ befores) (a ∷ afters) fault h = h.1.words ∷ words_of n now (suc place) befores afters h.2.0 h.2.1

-- how the reader at a place ended
pub record EndAt (n : Node) (now : Mail) (place : ℕ) (before after : InletReading) (words : List ℕ) (fault : Option NodeFault) : Type 0 where
  pub result : Result (Unit {0}) NodeFault
  pub end : PeerEnd n now place before after result
  pub same : end.words ≡ words
  pub none : fault ≡ None → is_err result ≡ false

no_first : (result : Result (Unit {0}) NodeFault) (fault later : Option NodeFault) → fault ≡ first_of result later → fault ≡ None → (is_err result ≡ false) × (later ≡ None)
no_first (Ok u) fault later e none = (refl, sym e ∙ none)
no_first (Err x) fault later e none = absurd (let f : Some x ≡ None = sym e ∙ none in cc)

pub end_at : (n : Node) (now : Mail) (place : ℕ) (befores afters : List InletReading) (fault : Option NodeFault) (h : AllEnd n now place befores afters fault) (k p : ℕ) → k < length befores → p ≡ place + k
    → EndAt n now p (slice_index_or befores k no_inlet) (slice_index_or afters k no_inlet) (slice_index_or (words_of n now place befores afters fault h) k []) fault
unfolding words_of
end_at n now place [] afters fault h k p l e = absurd (omega arith)
end_at n now place (b ∷ befores) [] fault h k p l e = absurd h
end_at n now place (b ∷ befores) (a ∷ afters) fault h zero p l e = subst (λ z. EndAt n now z b a h.1.words fault) (let x : place ≡ p = omega arith in x) (record {
  result = h.0;
  end = h.1;
  same = refl;
  none = λ none. (no_first h.0 fault h.2.0 h.2.2 none).0;
})
end_at n now place (b ∷ befores) (a ∷ afters) fault h (suc k) p l e =
    let r = end_at n now (suc place) befores afters h.2.0 h.2.1 k p (omega arith) (omega arith) in
    record { result = r.result; end = r.end; same = r.same; none = λ none. r.none (no_first h.0 fault h.2.0 h.2.2 none).1 }

-- the first reader that ended by a fault
pub record FirstEnd (n : Node) (now : Mail) (place : ℕ) (befores afters : List InletReading) (fault : NodeFault) : Type 0 where
  pub k : ℕ
  pub within : k < length befores
  pub end : (p : ℕ) → p ≡ place + k → PeerEnd n now p (slice_index_or befores k no_inlet) (slice_index_or afters k no_inlet) (Err fault)
  pub whole : (j p : ℕ) → j < k → p ≡ place + j → PeerEnd n now p (slice_index_or befores j no_inlet) (slice_index_or afters j no_inlet) (Ok tt)

whole_end : (n : Node) (now : Mail) (place : ℕ) (b a : InletReading) (u : Unit {0}) → PeerEnd n now place b a (Ok u) → PeerEnd n now place b a (Ok tt)
whole_end n now place b a u h = record { words = h.words; reads = h.reads; got = h.got }

first_by : (n : Node) (now : Mail) (place : ℕ) (b a : InletReading) (befores afters : List InletReading) (result : Result (Unit {0}) NodeFault) (fault : NodeFault) (later : Option NodeFault)
    → PeerEnd n now place b a result → Some fault ≡ first_of result later → (later ≡ Some fault → FirstEnd n now (suc place) befores afters fault) → FirstEnd n now place (b ∷ befores) (a ∷ afters) fault
first_by n now place b a befores afters (Ok u) fault later h e more =
    let r = more (sym e) in
    record {
      k = suc r.k;
      within = (let w = r.within in omega arith);
      end = λ p at. r.end p (omega arith);
      whole = λ j p l at. whole_at r j p l at;
    }
  where
    whole_at : (r : FirstEnd n now (suc place) befores afters fault) (j p : ℕ) → j < suc r.k → p ≡ place + j → PeerEnd n now p (slice_index_or (b ∷ befores) j no_inlet) (slice_index_or (a ∷ afters) j no_inlet) (Ok tt)
    whole_at r zero p l at = subst (λ z. PeerEnd n now z b a (Ok tt)) (let x : place ≡ p = omega arith in x) (whole_end n now place b a u h)
    whole_at r (suc j) p l at = r.whole j p (omega arith) (omega arith)
first_by n now place b a befores afters (Err x) fault later h e more =
    let same : x ≡ fault = (let f : Some fault ≡ Some x = e in cc) in
    record {
      k = 0;
      within = omega arith;
      end = λ p at. subst (λ z. PeerEnd n now z b a (Err fault)) (let y : place ≡ p = omega arith in y) (subst (λ z. PeerEnd n now place b a (Err z)) same h);
      whole = λ j p l at. absurd (omega arith);
    }

pub first_end : (n : Node) (now : Mail) (place : ℕ) (befores afters : List InletReading) (fault : Option NodeFault) (x : NodeFault) → AllEnd n now place befores afters fault → fault ≡ Some x → FirstEnd n now place befores afters x
first_end n now place [] [] fault x h e = absurd (let f : None ≡ Some x = sym h ∙ e in cc)
first_end n now place [] (a ∷ afters) fault x h e = absurd h
first_end n now place (b ∷ befores) [] fault x h e = absurd h
first_end n now place (b ∷ befores) (a ∷ afters) fault x h e =
    first_by n now place b a befores afters h.0 x h.2.0 h.1 (sym e ∙ h.2.2) (λ more. first_end n now (suc place) befores afters h.2.0 x h.2.1 more)

-- no steady inlet failed
pub stays_at : (befores afters : List InletReading) (k : ℕ) → AllKeepCalm befores afters → KeepsCalm (slice_index_or befores k no_inlet) (slice_index_or afters k no_inlet)
stays_at [] [] k h = calm_same no_inlet
stays_at [] (a ∷ afters) k h = absurd h
stays_at (b ∷ befores) [] k h = absurd h
stays_at (b ∷ befores) (a ∷ afters) zero h = h.0
stays_at (b ∷ befores) (a ∷ afters) (suc k) h = stays_at befores afters k h.1

-- the first reader that wasn't started, with what became of the others
pub record RefusedAt (n : Node) (q place : ℕ) (befores afters : List InletReading) : Type 0 where
  pub k : ℕ
  pub within : k < length befores
  pub at : (p : ℕ) → p ≡ place + k → party_at n.me p ≡ q
  pub below : (j p : ℕ) → j < k → p ≡ place + j → ReadBy (incoming n (party_at n.me p)) (slice_index_or befores j no_inlet) (slice_index_or afters j no_inlet)
  pub itself : (slice_index_or afters k no_inlet ≡ shut_inlet (slice_index_or befores k no_inlet)) ⊎ ReadBy (incoming n q) (slice_index_or befores k no_inlet) (slice_index_or afters k no_inlet)
  pub above : (j : ℕ) → k < j → j < length befores → slice_index_or afters j no_inlet ≡ shut_inlet (slice_index_or befores j no_inlet)

pub refused_at : (n : Node) (q place : ℕ) (befores afters : List InletReading) → EndsAtRefusal n q place befores afters → RefusedAt n q place befores afters
refused_at n q place [] [] h = absurd h
refused_at n q place [] (a ∷ afters) h = absurd h
refused_at n q place (b ∷ befores) [] h = absurd h
refused_at n q place (b ∷ befores) (a ∷ afters) h = ⊎_elim
    (λ (here : (party_at n.me place ≡ q) × ((a ≡ shut_inlet b) ⊎ ReadBy (incoming n q) b a) × (afters ≡ map shut_inlet befores)). record {
      k = 0;
      within = omega arith;
      at = λ p e. ap (party_at n.me) (let x : p ≡ place = omega arith in x) ∙ here.0;
      below = λ j p l e. absurd (omega arith);
      itself = here.1;
      above = λ j l within. above_first here.2 j l within;
    })
    (λ later. read_first later.0 (refused_at n q (suc place) befores afters later.1))
    h
  where
    above_first : afters ≡ map shut_inlet befores → (j : ℕ) → 0 < j → j < length (b ∷ befores) → slice_index_or (a ∷ afters) j no_inlet ≡ shut_inlet (slice_index_or (b ∷ befores) j no_inlet)
    above_first e zero l within = absurd (omega arith)
    above_first e (suc j) l within = ap (λ (z : List InletReading). slice_index_or z j no_inlet) e ∙ inlet_shut befores j (omega arith)

    read_first : ReadBy (incoming n (party_at n.me place)) b a → RefusedAt n q (suc place) befores afters → RefusedAt n q place (b ∷ befores) (a ∷ afters)
    read_first read r = record {
      k = suc r.k;
      within = (let w = r.within in omega arith);
      at = λ p e. r.at p (omega arith);
      below = below;
      itself = r.itself;
      above = above;
    }
      where
        below : (j p : ℕ) → j < suc r.k → p ≡ place + j → ReadBy (incoming n (party_at n.me p)) (slice_index_or (b ∷ befores) j no_inlet) (slice_index_or (a ∷ afters) j no_inlet)
        below zero p l e = subst (λ z. ReadBy (incoming n (party_at n.me z)) b a) (let x : place ≡ p = omega arith in x) read
        below (suc j) p l e = r.below j p (omega arith) (omega arith)

        above : (j : ℕ) → suc r.k < j → j < length (b ∷ befores) → slice_index_or (a ∷ afters) j no_inlet ≡ shut_inlet (slice_index_or (b ∷ befores) j no_inlet)
        above zero l within = absurd (omega arith)
        above (suc j) l within = r.above j (omega arith) (omega arith)

-- ---- peer by peer

-- what was read of q, and that what the party found in its inbox is what was pushed and left there
pub record PeerRead (n : Node) (now : Mail) (before after : LinksReading) (q : ℕ) (words : List ℕ) (result : Result (Unit {0}) NodeFault) : Type 0 where
  pub reads : ReadsFrom n q words before after result
  pub got : GotWhatWasPushed words (mark_of (is_err result)) (box_of now q).view

pub peer_read : (n : Node) (now : Mail) (before after : LinksReading) (q : ℕ) (result : Result (Unit {0}) NodeFault) → now.me ≡ n.me → q ≢ n.me
    → (h : PeerEnd n now (place_among n.me q) (slice_index_or before.inlets (place_among n.me q) no_inlet) (slice_index_or after.inlets (place_among n.me q) no_inlet) result)
    → PeerRead n now before after q h.words result
peer_read n now before after q result me other h = record {
  reads = subst (λ z. ReadsWords (incoming n z) h.words (in_from n before q) (in_from n after q) result) (party_there n.me q other) h.reads;
  got = subst (λ z. GotWhatWasPushed h.words (mark_of (is_err result)) (slice_index_or now.boxes (place_among z q) no_box).view) (sym me) h.got;
}

-- ---- words that were taken

-- a word that is kept of a message to the party is the one that its sender's reader read, at the message's place
pub record WordRead (n : Node) (m v : ℕ) (words : List ℕ) : Type 0 where
  pub within : place_of n m < length words
  pub word : v ≡ slice_index words (place_of n m)

small_word : (n : Node) (q : ℕ) (words : List ℕ) (before after : LinksReading) (result : Result (Unit {0}) NodeFault) (place : ℕ) → place < length words → ReadsFrom n q words before after result → slice_index words place < 2 ^ n.world.plan.bits
small_word n q words before after result place l reads =
    let c = came_so_far (incoming n q) words (in_from n before q) (in_from n after q) result (omega arith) reads in
    every_at (λ w. w < 2 ^ n.world.plan.bits) words place (pow_pos n.world.plan.bits) c.1.small

module _ (n : Node) (start : Begin) (now : Mail) (own : IsOf n start now) (mail : IsMail now) (m v : ℕ) (to : (message n.world.plan m).receiver ≡ n.me) (apart : (message n.world.plan m).sender ≢ n.me) (is : plain_cell now.words.cells m ≡ Some v) where
  pub there : m < length (messages n.world.plan)
  there = let a = cell_there now.words.cells m v is in let b = own.cells in omega (arith, a, b)

  from_peer_now : ComesFromPeer now m
  from_peer_now = record {
    there = subst (λ z. m < length (messages z)) (sym own.plan) there;
    receiver = ap (λ z. (message z m).receiver) own.plan ∙ to ∙ sym own.me;
    sender = λ e. apart (sym (ap (λ z. (message z m).sender) own.plan) ∙ e ∙ own.me);
  }

  pub sender : IsPeer n (message n.world.plan m).sender
  sender = let b = between_parties n own.part m there in (b.sender, apart)

  pub word_read : (before after : LinksReading) (words : List ℕ) (result : Result (Unit {0}) NodeFault) → PeerRead n now before after (message n.world.plan m).sender words result → WordRead n m v words
  word_read before after words result p =
      let x = mail.read m v from_peer_now is in
      let place : slice_index now.places m ≡ place_of n m = mail.placed m from_peer_now ∙ ap (λ z. place_to z now.me m) own.plan ∙ ap (λ z. place_to n.world.plan z m) own.me in
      let known : Knows (box_of now (message n.world.plan m).sender).view.seen (place_of n m) x.found =
      subst (λ z. Knows (box_of now (message n.world.plan m).sender).view.seen z x.found) place (subst (λ z. Knows (box_of now (message z m).sender).view.seen (slice_index now.places m) x.found) own.plan x.known) in
      let k = p.got.known (place_of n m) x.found known in
      let small : x.found < 2 ^ n.world.plan.bits = subst (λ z. z < 2 ^ n.world.plan.bits) k.1 (small_word n (message n.world.plan m).sender words before after result (place_of n m) k.0 p.reads) in
      record {
        within = k.0;
        word = x.reduced ∙ ap (λ z. x.found % 2 ^ z.bits) own.plan ∙ mod-eq_of_lt small ∙ sym k.1;
      }

-- ---- a word that won't come

module _ (n : Node) (start : Begin) (now : Mail) (own : IsOf n start now) (mail : IsMail now) (k m i : ℕ) (is : at (acts n) k ≡ Take m i) where
  pub awaited : (m < length (messages n.world.plan)) × ((message n.world.plan m).receiver ≡ n.me)
  awaited = elim (cases_lt k (length (acts n))) [
    | left' l ↦ taken_by n own.part k m i l is
    | right' past ↦ absurd (let f : End ≡ Take m i = sym (get_or_past (acts n) k End past) ∙ is in cc)
  ]

  pub from_peer : NeverComes now m → IsPeer n (message n.world.plan m).sender
  from_peer never =
      let b = between_parties n own.part m awaited.0 in
      (b.sender, λ e. never.peer (ap (λ z. (message z m).sender) own.plan ∙ e ∙ sym own.me))

  -- its sender's reader didn't read it
  pub not_read : NeverComes now m → (before after : LinksReading) (words : List ℕ) (result : Result (Unit {0}) NodeFault) → PeerRead n now before after (message n.world.plan m).sender words result → ¬ (place_of n m < length words)
  not_read never before after words result p less =
      let there : m < length (messages now.plan) = subst (λ z. m < length (messages z)) (sym own.plan) awaited.0 in
      let to : (message now.plan m).receiver ≡ now.me = ap (λ z. (message z m).receiver) own.plan ∙ awaited.1 ∙ sym own.me in
      let place : slice_index now.places m ≡ place_of n m = mail.placed m (record { there = there; receiver = to; sender = never.peer }) ∙ ap (λ z. place_to z now.me m) own.plan ∙ ap (λ z. place_to n.world.plan z m) own.me in
      let all : never.total ≡ length words = p.got.total never.total (subst (λ z. (box_of now (message z m).sender).view.total ≡ Some never.total) own.plan never.found) in
      let few = never.few in
      absurd (omega (arith, place, all, few, less))

-- a reader that read all that is expected gave all
pub gave_all : (n : Node) (q : ℕ) (words : List ℕ) (before after : LinksReading) → ReadsFrom n q words before after (Ok tt) → GaveAll n before after q
gave_all n q words before after reads =
    let w = whole_words n q (word_at n words) words before after reads (let l = reads.1 in omega (arith, l), λ place l. word_at_place n q words place l) in
    (word_at n words, w.1, w.0)
