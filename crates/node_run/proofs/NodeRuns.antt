-- What a run leaves has the clauses of a node's run.
use Rattle.std.proofs.Common.{◌≡◌, ◌≢◌, ◌⊎◌, ℕ, ◌+◌, ◌-◌, ◌<◌, false, List, [], length, map, refl, sym, ap, ◌∙◌, subst, arith, Option, Some, None, Result, Ok, Err, inl, inr, ⊎_elim}
use Rattle.std.specs.Prelude.{slice_index_or, is_err, IsTrue}
use Rattle.std.specs.List.{list_all}
use Rattle.std.proofs.Math.ListN.{length-map}
use Rattle.std.proofs.lemmas.Bool.{cases_eq, false≢true}
use Rattle.std.proofs.lemmas.List.{append-nil}
use mathlib.Core.Logic.{inl as left', inr as right'}
use Rattle.plan_model.specs.declared.key.Key.{Key}
use Rattle.plan_model.specs.Numbers.{message}
use Rattle.message_board.specs.Plain.{plain_cell}
use Rattle.party_desk.specs.declared.desk.Desk.{Desk}
use Rattle.inbox_board.specs.Seats.{mark_of}
use Rattle.outer_io.specs.Count.{Rose}
use Rattle.outer_io.specs.Inlet.{InletReading, shut_inlet}
use Rattle.outer_io.specs.Outlet.{OutletReading, shut_outlet}
use Rattle.outer_io.proofs.NetRefusals.{both_true}
use Rattle.outer_io.specs.Jobs.{SpawnerReading}
use Rattle.outer_io.specs.Links.{LinksReading, HasPeers, are_closed, are_flushed}
use Rattle.outer_io.specs.Sink.{added, AddedPrefix}
use Rattle.frame_code.specs.Frames.{hello}
use Rattle.node_talk.specs.declared.fault.NodeFault.{NodeFault}
use Rattle.node_talk.specs.declared.fault.NodeFault.TheVariants.{Link, Closed, BadFrame, OtherJob, NoThread}
use Rattle.node_talk.specs.Talks.{Node, IsPeer, own_word, said, place_of}
use Rattle.node_talk.specs.PeerLinks.{place_among, no_inlet, no_outlet, in_from, out_to}
use Rattle.node_talk.specs.Causes.{Cause}
use Rattle.node_talk.specs.Runs.{Results, IsDone, TalkedThrough, KeepsItsWords, StopsAfter, NoSendRose, AllStarted, SaysFirst, BrokeOff}
use Rattle.node_talk.proofs.NoCauses.{no_cause}
use Rattle.node_talk.proofs.RightRuns.{joins}
use Rattle.node_talk.proofs.ExpectedPlaces.{placed}
use Rattle.node_talk.proofs.ActPlaces.{posted_by, taken_by}
use Rattle.link_reader.specs.NodeReaders.{incoming, ReadsFrom, HasReadWords, SaidWhatItCould}
use Rattle.link_reader.proofs.BrokenOffRuns.{breaks_off}
use Rattle.link_reader.specs.ReadWords.{ReadsWords, CameShort}
use Rattle.link_reader.specs.Expected.{TalkModel}
use Rattle.link_reader.proofs.ToldCauses.{tells_cause}
use Rattle.node_run.specs.Mail.{Mail, IsMail, outlet_to, box_of}
use Rattle.node_run.specs.Progress.{Begin, Agrees, IsOf, Going, Stopped, StopsBy, Halted, Ungreeted, InOrder, OutletStays, before_session}
use Rattle.node_run.specs.Remains.{RemainsModel, SpawnerStays, AllKeepCalm, PeerEnd, AllEnd, ReadBy, EndsAtRefusal, EndsAs, Remained, party_at, fault_told, answer}
use Rattle.node_run.specs.NodeRuns.{Runs, GaveAll, GaveAllBelow, IsFirst, IsFirstUnstarted, NothingSaid, TellsSends, TellsRefusals, KeepsOutlet, StaySteady}
use Rattle.node_talk.proofs.SaidParts.{shown_alike}
use Rattle.node_run.proofs.KnownWords.{known, agrees_known}
use Rattle.node_run.proofs.OutletSteps.{going_stays}
use Rattle.node_run.proofs.SessionSteps.{stopped_at}
use Rattle.node_run.proofs.DoneRuns.{is_done}
use Rattle.node_run.proofs.CellChanges.{place_within}
use Rattle.node_run.proofs.ReaderRuns.{peer_at, spawner_rests}
use Rattle.node_run.proofs.ClosedLinks.{all_shut, inlets_closed, outlets_closed, outlet_shut}
use Rattle.node_run.proofs.PeerEnds.{party_there, place_there, place_less, RefusedAt, refused_at, words_of, end_at, FirstEnd, first_end, stays_at, PeerRead, peer_read, WordRead, word_read, there, sender, from_peer, not_read, gave_all}

-- ---- the clauses, by the answer

module _ (n : Node) (before after : LinksReading) (spawner spawner' : SpawnerReading) where
  pub fault_runs : (fault : NodeFault) → length n.digest ≡ 32 → HasPeers (n.world.plan.parties - 1) after → IsTrue (are_closed after) → (NoSendRose n before after → IsTrue (are_flushed after.outlets)) → (got : Key → ℕ) × BrokeOff n got before after fault
      → Cause n before after spawner.refusals spawner'.refusals fault → IsFirst n before after fault → TellsSends n before after (Err fault) → TellsRefusals spawner.refusals spawner'.refusals (Err fault)
      → NothingSaid n before after fault → StaySteady n before after spawner spawner' → Runs n before after spawner spawner' (Err fault)
  fault_runs fault long peers closed gone broke cause first sends starts unsaid steady = record {
    peers = peers;
    closed = closed;
    gone = gone;
    done = tt;
    broke = broke;
    cause = cause;
    least = first;
    sends = sends;
    reads = λ q peer changed. refl;
    starts = starts;
    unsaid = unsaid;
    completes = λ hears none quiet. absurd (no_cause n before after spawner.refusals spawner'.refusals long hears none quiet fault cause);
    joins = λ whole hears. tt;
    steady = steady;
  }

  pub done_runs : (r : Results) → n.me < n.world.plan.parties → HasPeers (n.world.plan.parties - 1) after → IsTrue (are_closed after) → IsTrue (are_flushed after.outlets) → (got : Key → ℕ) × IsDone n got r × TalkedThrough n got before after
      → ((q : ℕ) → IsPeer n q → (in_from n after q).faults ≡ (in_from n before q).faults) → TellsSends n before after (Ok r) → TellsRefusals spawner.refusals spawner'.refusals (Ok r) → StaySteady n before after spawner spawner' → Runs n before after spawner spawner' (Ok r)
  done_runs r party peers closed gone done calm sends starts steady = record {
    peers = peers;
    closed = closed;
    gone = λ calm. gone;
    done = done;
    broke = tt;
    cause = tt;
    least = tt;
    sends = sends;
    reads = λ q peer changed. absurd (changed (calm q peer));
    starts = starts;
    unsaid = tt;
    completes = λ hears none quiet. refl;
    joins = λ whole hears. joins n whole party done.0 before after done.2 hears r done.1;
    steady = steady;
  }

-- ---- what was said, whatever words are still to come

abbrev SaysSo : Node → Begin → Mail → ℕ → Type 0
SaysSo n start now k = (got : Key → ℕ) → Agrees n now.words.cells got → SaysFirst n (own_word n got) k (out_to n start.links) (outlet_to now)

going_says : (n : Node) (start : Begin) (now : Mail) (k : ℕ) → Going n k start now → SaysSo n start now k
going_says n start now k g got ag = inl (λ q peer. (g.sent got ag q peer, g.calm q peer))

failed_says : (n : Node) (start : Begin) (now : Mail) (k q : ℕ) → StopsBy n k start now (Some q) → SaysSo n start now k
failed_says n start now k q why got ag = inr (q, why.0, why.1, why.2 got ag)

-- ---- what is left of the links

module _ (n : Node) (start : Begin) (after : LinksReading) (now : Mail) (own : IsOf n start now) (mail : IsMail now) (inlets : length after.inlets ≡ length start.links.inlets) (outlets : after.outlets ≡ map shut_outlet now.outlets)
    (were : HasPeers (n.world.plan.parties - 1) start.links) where
  pub outlet_same : (q : ℕ) → out_to n after q ≡ record (outlet_to now q) { steady = false }
  outlet_same q =
      ap (λ z. (slice_index_or z (place_among n.me q) no_outlet).sink) outlets ∙ outlet_shut now.outlets (place_among n.me q)
      ∙ ap (λ z. record (slice_index_or now.outlets (place_among z q) no_outlet).sink { steady = false }) (sym own.me)

  pub all_closed : IsTrue (list_all (λ (i : InletReading). i.closed) after.inlets) → IsTrue (are_closed after)
  all_closed shut = both_true _ _ shut (subst (λ z. IsTrue (list_all (λ (o : OutletReading). o.closed) z)) (sym outlets) (outlets_closed now.outlets))

  pub has_peers : HasPeers (n.world.plan.parties - 1) after
  has_peers = record {
    inlets = inlets ∙ were.inlets;
    outlets = (let a = mail.outlets in let b = ap (λ z. z.parties) own.plan in let c = ap (λ z. length z) outlets ∙ length-map now.outlets shut_outlet in omega (arith, a, b, c));
  }

  module _ (stays : (q : ℕ) → IsPeer n q → OutletStays n q now.failed (out_to n start.links q) (outlet_to now q)) where
    pub keeps_outlet : (q : ℕ) → IsPeer n q → KeepsOutlet n q (out_to n start.links q) (out_to n after q)
    keeps_outlet q peer = subst (KeepsOutlet n q (out_to n start.links q)) (sym (outlet_same q)) (record {
      faults_grow = (stays q peer).grows;
      room = λ s fits. (stays q peer).calm ((stays q peer).room s fits);
    })

    -- an outlet whose count changed is the one to which a send failed
    pub tells_sends : (result : Result Results NodeFault) → ((q : ℕ) → now.failed ≡ Some q → result ≡ Err (Link q)) → TellsSends n start.links after result
    tells_sends result told q peer changed = by_failed now.failed refl
      where
        by_failed : (failed : Option ℕ) → now.failed ≡ failed → result ≡ Err (Link q)
        by_failed None e = absurd (changed (ap (λ z. z.faults) (outlet_same q) ∙ (stays q peer).calm (λ f. (let x : None ≡ Some q = sym e ∙ f in cc))))
        by_failed (Some p) e = elim (cases_eq p q) [
          | left' same ↦ told q (e ∙ ap Some same)
          | right' ne ↦ absurd (changed (ap (λ z. z.faults) (outlet_same q) ∙ (stays q peer).calm (λ f. ne (let x : Some p ≡ Some q = sym e ∙ f in cc))))
        ]

  -- the links that are left show what was said
  says_left : (k : ℕ) (word : Key → ℕ) → SaysFirst n word k (out_to n start.links) (outlet_to now) → SaysFirst n word k (out_to n start.links) (out_to n after)
  says_left k word = shown_alike n word k (out_to n start.links) (outlet_to now) (out_to n after) (λ q. ap (λ z. z.told) (outlet_same q)) (λ q. ap (λ z. z.faults) (outlet_same q))

  -- ---- a run that was broken off

  -- where no word was taken, and a send or a start failed
  pub broke_silent : ((m : ℕ) → plain_cell now.words.cells m ≡ None) → (k : ℕ) → Stopped n k start now → (fault : NodeFault) → SaysSo n start now k → (AllStarted fault → ¬ NoSendRose n start.links after) → (got : Key → ℕ) × BrokeOff n got start.links after fault
  broke_silent none k s fault says hindered = breaks_off n own.digest start.links after fault (record {
    k = k;
    words = λ q. [];
    kept = λ key. 0;
    read = λ q peer. inl refl;
    takes = λ j m i l e. let v = s.taken j m i l e in absurd (let f : None ≡ Some v.0 = sym (none m) ∙ v.1 in cc);
    keeps = λ got has j m i l e to. let v = s.posted j m i l e in absurd (let f : None ≡ Some v.0 = sym (none m) ∙ v.1 in cc);
    sent = λ got has q peer. subst (AddedPrefix (out_to n start.links q).told (said n q (own_word n got) k)) (sym (ap (λ z. z.told) (outlet_same q)))
        (s.sent got (λ m v to e. absurd (let f : None ≡ Some v = sym (none m) ∙ e in cc)) q peer);
    sends = λ got has. says_left k (own_word n got) (says got (λ m v to e. absurd (let f : None ≡ Some v = sym (none m) ∙ e in cc)));
    all = λ started calm. absurd (hindered started calm);
  })

  -- a send that failed
  pub rose_at : (k : ℕ) (q : ℕ) → StopsBy n k start now (Some q) → IsPeer n q × Rose (out_to n start.links q).faults (out_to n after q).faults
  rose_at k q why = (why.0, subst (λ z. Rose (out_to n start.links q).faults z.faults) (sym (outlet_same q)) why.1)

  module _ (fault : Option NodeFault) (h : AllEnd n now 0 start.links.inlets after.inlets fault) where
    abbrev words : ℕ → List ℕ
    words q = slice_index_or (words_of n now 0 start.links.inlets after.inlets fault h) (place_among n.me q) []

    within : (q : ℕ) → IsPeer n q → place_among n.me q < length start.links.inlets
    within q peer = place_within n.me q n.world.plan.parties (length start.links.inlets) peer.0 peer.1 own.part.party (let a = were.inlets in let b = own.part.party in omega (arith, a, b))

    -- what was read of a peer
    pub read : (q : ℕ) → IsPeer n q → (result : Result (Unit {0}) NodeFault)
        × PeerRead n now start.links after q (slice_index_or (words_of n now 0 start.links.inlets after.inlets fault h) (place_among n.me q) []) result × (fault ≡ None → is_err result ≡ false)
    read q peer =
        let e = end_at n now 0 start.links.inlets after.inlets fault h (place_among n.me q) (place_among n.me q) (within q peer) (omega arith) in
        (e.result, subst (λ z. PeerRead n now start.links after q z e.result) e.same (peer_read n now start.links after q e.result own.me peer.1 e.end), e.none)

    taken_word : (m v : ℕ) → (message n.world.plan m).receiver ≡ n.me → (message n.world.plan m).sender ≢ n.me → plain_cell now.words.cells m ≡ Some v → WordRead n m v (words (message n.world.plan m).sender)
    taken_word m v to apart is =
        let r = read (message n.world.plan m).sender (sender n start now own mail m v to apart is) in
        word_read n start now own mail m v to apart is start.links after (words (message n.world.plan m).sender) r.0 r.1

    agrees : (got : Key → ℕ) → HasReadWords n got words (known n now.words.cells) → Agrees n now.words.cells got
    agrees got has m v to is = elim (cases_eq (message n.world.plan m).sender n.me) [
      | left' from ↦ has.1 (message n.world.plan m) (from, to) ∙ agrees_known n now.words.cells own.cells m v to is
      | right' apart ↦
          let w = taken_word m v to apart is in
          let p = placed n m (there n start now own mail m v to apart is) to in
          ap got (sym p.1) ∙ (has.0 (message n.world.plan m).sender (sender n start now own mail m v to apart is)).1 (place_of n m) w.within ∙ sym w.word
    ]

    -- what it posted to itself is its own word
    keeps_words : (k : ℕ) → Stopped n k start now → (got : Key → ℕ) → HasReadWords n got words (known n now.words.cells) → KeepsItsWords n got k
    keeps_words k s got has j m i l e to =
        let v = s.posted j m i l e in
        let from = (posted_by n own.part j m i (let b = s.within in omega (arith, l, b)) e).1 in
        agrees got has m v.0 to v.1 ∙ s.own_words.word m v.0 v.1 from got (agrees got has)

    pub broke_while_read : (k : ℕ) → Stopped n k start now → (told : NodeFault) → SaysSo n start now k → (AllStarted told → NoSendRose n start.links after → SaidWhatItCould n words (known n now.words.cells) k start.links after) → (got : Key → ℕ) × BrokeOff n got start.links after told
    broke_while_read k s told says all = breaks_off n own.digest start.links after told (record {
      k = k;
      words = words;
      kept = known n now.words.cells;
      read = λ q peer. let r = read q peer in inr (r.0, r.1.reads);
      takes = λ j m i l e.
          let v = s.taken j m i l e in
          let t = taken_by n own.part j m i (let b = s.within in omega (arith, l, b)) e in
          elim (cases_eq (message n.world.plan m).sender n.me) [ left' from ↦ inl from | right' apart ↦ inr (taken_word m v.0 t.1 apart v.1).within ];
      keeps = keeps_words k s;
      sent = λ got has q peer. subst (AddedPrefix (out_to n start.links q).told (said n q (own_word n got) k)) (sym (ap (λ z. z.told) (outlet_same q))) (s.sent got (agrees got has) q peer);
      sends = λ got has. says_left k (own_word n got) (says got (agrees got has));
      all = all;
    })

    said_could : (k : ℕ) → Going n k start now → StopsAfter n (λ q. length (words q)) k → SaidWhatItCould n words (known n now.words.cells) k start.links after
    said_could k going stops = record {
      read = λ q peer. let r = read q peer in (r.0, r.1.reads);
      told = λ got has q peer. ap (λ z. z.told) (outlet_same q) ∙ going.sent got (agrees got has) q peer;
      stops = stops;
    }

    -- the sessions ran to their end, or the party waited for a word that doesn't come
    pub broke_at_end : (told : NodeFault) → Going n (before_session n (length n.world.plan.sessions)) start now → (got : Key → ℕ) × BrokeOff n got start.links after told
    broke_at_end told going =
        let k : ℕ = before_session n (length n.world.plan.sessions) in
        broke_while_read k (stopped_at n k start now going) told (going_says n start now k going) (λ started calm. said_could k going (inl refl))

    pub broke_at_take : (told : NodeFault) (k : ℕ) → StopsBy n k start now None → (got : Key → ℕ) × BrokeOff n got start.links after told
    broke_at_take told k why =
        let m : ℕ = why.1.0 in
        let r = read (message n.world.plan m).sender (from_peer n start now own mail k m why.1.1 why.1.2 why.1.3) in
        broke_while_read k (stopped_at n k start now why.0) told (going_says n start now k why.0) (λ started calm. said_could k why.0
        (inr (m, why.1.1, why.1.2, ⊎_elim (from_peer n start now own mail k m why.1.1 why.1.2 why.1.3).1 (not_read n start now own mail k m why.1.1 why.1.2 why.1.3 start.links after (words (message n.world.plan m).sender) r.0 r.1))))

    -- ---- the first fault of a reader

    pub first_fault : (x : NodeFault) → fault ≡ Some x → (q : ℕ) × IsPeer n q × ((words : List ℕ) × ReadsFrom n q words start.links after (Err x)) × GaveAllBelow n start.links after q
    first_fault x is =
        let f = first_end n now 0 start.links.inlets after.inlets fault x h is in
        let less : f.k + 1 < n.world.plan.parties = (let a = f.within in let b = were.inlets in omega (arith, a, b)) in
        let q : ℕ = party_at n.me f.k in
        let peer : IsPeer n q = peer_at n f.k less in
        let at : place_among n.me q ≡ f.k = place_there n.me f.k in
        let e = subst (λ z. PeerEnd n now z (slice_index_or start.links.inlets z no_inlet) (slice_index_or after.inlets z no_inlet) (Err x)) (sym at) (f.end f.k (omega arith)) in
        let p = peer_read n now start.links after q (Err x) own.me peer.1 e in
        (q, peer, (e.words, p.reads), λ r other l. below f q at peer r other l)
      where
        below : (f : FirstEnd n now 0 start.links.inlets after.inlets x) (q : ℕ) → place_among n.me q ≡ f.k → IsPeer n q → (r : ℕ) → IsPeer n r → r < q → GaveAll n start.links after r
        below f q at peer r other l =
            let less : place_among n.me r < f.k = (let a = place_less n.me q r peer.1 other.1 l in omega (arith, a, at)) in
            let e = f.whole (place_among n.me r) (place_among n.me r) less (omega arith) in
            gave_all n r e.words start.links after (peer_read n now start.links after r (Ok tt) own.me other.1 e).reads

    -- ---- a run to its end

    -- no reader ended by a fault
    whole_reads : (q : ℕ) (words : List ℕ) (result : Result (Unit {0}) NodeFault) → is_err result ≡ false → ReadsFrom n q words start.links after result → ReadsFrom n q words start.links after (Ok tt)
    whole_reads q words (Ok u) e reads = reads
    whole_reads q words (Err x) e reads = absurd (false≢true (sym e))

    pub ran : fault ≡ None → (ds : List Desk) (r : Results) → InOrder n (length n.world.plan.sessions) start ds now → r ≡ record { words = now.words.cells; outputs = map (λ (d : Desk). d.memory.outputs.items) ds }
        → (got : Key → ℕ) × IsDone n got r × TalkedThrough n got start.links after
    ran none ds r order is = is_done n start after ds now r (record {
      order = order;
      told = λ q peer. ap (λ z. z.told) (outlet_same q);
      words = words;
      read = λ q peer. let r = read q peer in whole_reads q (words q) r.0 (r.2 none) r.1.reads;
      heard = λ m v to apart e. let w = taken_word m v to apart e in (w.within, w.word);
      kept_words = ap (λ z. z.words) is;
      kept_outputs = ap (λ z. z.outputs) is;
    })

    pub read_calm : fault ≡ None → (q : ℕ) → IsPeer n q → (in_from n after q).faults ≡ (in_from n start.links q).faults
    read_calm none q peer = let r = read q peer in (whole_reads q (words q) r.0 (r.2 none) r.1.reads).0.faults

    -- a party doesn't stop for a reader that ended by a fault, where none did
    pub no_stop : fault ≡ None → (k : ℕ) → StopsBy n k start now None → ⊥
    no_stop none k s =
        let m : ℕ = s.1.0 in
        let r = read (message n.world.plan m).sender (from_peer n start now own mail k m s.1.1 s.1.2 s.1.3) in
        let noted : (box_of now (message n.world.plan m).sender).view.noted ≡ 2 = subst (λ z. (box_of now (message z m).sender).view.noted ≡ 2) own.plan s.1.3.ended in
        not_whole r.0 (r.2 none) (sym noted ∙ r.1.got.mark (λ z. absurd (omega (arith, noted, z))))
      where
        not_whole : (result : Result (Unit {0}) NodeFault) → is_err result ≡ false → 2 ≡ mark_of (is_err result) → ⊥
        not_whole (Ok u) e f = omega (arith, f)
        not_whole (Err x) e f = false≢true (sym e)

-- ---- the peer of a fault

abbrev peer_of : NodeFault → ℕ
peer_of (Link q) = q
peer_of (Closed q at) = q
peer_of (BadFrame q at bytes) = q
peer_of (OtherJob q ours theirs) = q
peer_of (NoThread q) = q

of_reader : (talk : TalkModel) (words : List ℕ) (before after : InletReading) (x : NodeFault) → ReadsWords talk words before after (Err x) → peer_of x ≡ talk.peer
of_reader talk words before after (Link q) h = ⊎_elim (λ none. none.1.0) (λ (s : CameShort talk words before after (Link q)). s.no_frame.0) h
of_reader talk words before after (Closed q at) h = ⊎_elim (λ none. none.1.0) (λ (s : CameShort talk words before after (Closed q at)). s.no_frame.0) h
of_reader talk words before after (BadFrame q at bytes) h = ⊎_elim (λ none. absurd none.1) (λ (s : CameShort talk words before after (BadFrame q at bytes)). s.no_frame.0) h
of_reader talk words before after (OtherJob q ours theirs) h = ⊎_elim (λ none. none.1.0) (λ (s : CameShort talk words before after (OtherJob q ours theirs)). absurd s.no_frame) h
of_reader talk words before after (NoThread q) h = ⊎_elim (λ none. absurd none.1) (λ (s : CameShort talk words before after (NoThread q)). absurd s.no_frame) h

-- a reader doesn't tell that it wasn't started
never_unstarted : (talk : TalkModel) (words : List ℕ) (b a : InletReading) (p : ℕ) → ReadsWords talk words b a (Err (NoThread p)) → ⊥
never_unstarted talk words b a p h = ⊎_elim (λ none. none.1) (λ (s : CameShort talk words b a (NoThread p)). s.no_frame) h

is_first : (n : Node) (before after : LinksReading) (x : NodeFault) (q : ℕ) → peer_of x ≡ q → GaveAllBelow n before after q → (talk : TalkModel) (words : List ℕ) (b a : InletReading) → ReadsWords talk words b a (Err x) → IsFirst n before after x
is_first n before after (Link p) q e h talk words b a reads = inr (subst (GaveAllBelow n before after) (sym e) h)
is_first n before after (Closed p at) q e h talk words b a reads = subst (GaveAllBelow n before after) (sym e) h
is_first n before after (BadFrame p at bytes) q e h talk words b a reads = subst (GaveAllBelow n before after) (sym e) h
is_first n before after (OtherJob p ours theirs) q e h talk words b a reads = subst (GaveAllBelow n before after) (sym e) h
is_first n before after (NoThread p) q e h talk words b a reads = absurd (never_unstarted talk words b a p reads)

nothing_unsaid : (n : Node) (before after : LinksReading) (x : NodeFault) (talk : TalkModel) (words : List ℕ) (b a : InletReading) → ReadsWords talk words b a (Err x) → NothingSaid n before after x
nothing_unsaid n before after (Link p) talk words b a h = tt
nothing_unsaid n before after (Closed p at) talk words b a h = tt
nothing_unsaid n before after (BadFrame p at bytes) talk words b a h = tt
nothing_unsaid n before after (OtherJob p ours theirs) talk words b a h = tt
nothing_unsaid n before after (NoThread p) talk words b a h = absurd (never_unstarted talk words b a p h)

-- ---- the run of a node

module _ (n : Node) (start : Begin) (after : LinksReading) (spawner spawner' : SpawnerReading) (were : HasPeers (n.world.plan.parties - 1) start.links) where
  -- what stays steady
  steady_links : (now : Mail) → IsOf n start now → IsMail now → length after.inlets ≡ length start.links.inlets → after.outlets ≡ map shut_outlet now.outlets → AllKeepCalm start.links.inlets after.inlets → SpawnerStays spawner spawner'
      → ((q : ℕ) → IsPeer n q → OutletStays n q now.failed (out_to n start.links q) (outlet_to now q)) → StaySteady n start.links after spawner spawner'
  steady_links now own mail inlets outlets all spawners stays = record {
    inlets = λ q peer. stays_at start.links.inlets after.inlets (place_among n.me q) all;
    outlets = keeps_outlet n start after now own mail inlets outlets were stays;
    spawner_stays = spawners;
  }

  -- a send failed
  send_failed : (now : Mail) → IsMail now → (h : Halted n start now) (q : ℕ) → now.failed ≡ Some q → length after.inlets ≡ length start.links.inlets → after.outlets ≡ map shut_outlet now.outlets → AllKeepCalm start.links.inlets after.inlets → IsTrue (list_all (λ (i : InletReading). i.closed) after.inlets) → SpawnerStays spawner spawner'
      → spawner'.refusals ≡ spawner.refusals → (got : Key → ℕ) × BrokeOff n got start.links after (Link q) → Runs n start.links after spawner spawner' (Err (Link q))
  send_failed now mail h q is inlets outlets all shut spawners quiet broke =
      let own = h.stopped.own in
      let why = rose_at n start after now own mail inlets outlets were h.k q (subst (StopsBy n h.k start now) is h.why) in
      fault_runs n start.links after spawner spawner' (Link q) own.digest (has_peers n start after now own mail inlets outlets were) (all_closed n start after now own mail inlets outlets were shut) (λ calm. absurd (calm q why.0 why.1)) broke (why.0, inr why.1) (inl why.1)
      (tells_sends n start after now own mail inlets outlets were h.outlets (Err (Link q)) (λ p e. ap (λ z. Err (Link z)) (let f : Some q ≡ Some p = sym is ∙ e in cc)))
      (λ changed. absurd (changed quiet)) tt (steady_links now own mail inlets outlets all spawners h.outlets)

  -- a hello failed
  pub ungreeted_runs : (now : Mail) → IsMail now → Ungreeted n start now → after.inlets ≡ map shut_inlet start.links.inlets → after.outlets ≡ map shut_outlet now.outlets → spawner' ≡ spawner → (fault : Option NodeFault) (r : Results)
      → Runs n start.links after spawner spawner' (answer (fault_told now.failed None fault) r)
  ungreeted_runs now mail u inlets outlets rests fault r = by_failed now.failed refl
    where
      by_failed : (o : Option ℕ) → now.failed ≡ o → Runs n start.links after spawner spawner' (answer (fault_told now.failed None fault) r)
      by_failed None is = absurd (u.some is)
      by_failed (Some q) is =
          let many = ap (λ (z : List InletReading). length z) inlets ∙ length-map start.links.inlets shut_inlet in
          let why = subst (StopsBy n u.halted.k start now) is u.halted.why in
          let rose = rose_at n start after now u.halted.stopped.own mail many outlets were u.halted.k q why in
          subst (λ z. Runs n start.links after spawner spawner' (answer (fault_told z None fault) r)) (sym is)
          (send_failed now mail u.halted q is many outlets (subst (AllKeepCalm start.links.inlets) (sym inlets) (all_shut start.links.inlets)) (subst (λ z. IsTrue (list_all (λ (i : InletReading). i.closed) z)) (sym inlets) (inlets_closed start.links.inlets)) (subst (SpawnerStays spawner) (sym rests) (spawner_rests spawner))
          (ap (λ z. z.refusals) rests) (broke_silent n start after now u.halted.stopped.own mail many outlets were u.words u.halted.k u.halted.stopped (Link q) (failed_says n start now u.halted.k q why) (λ started calm. calm q rose.0 rose.1)))

  -- the readers were started, or a start was refused
  module _ (r : RemainsModel) (h : Remained n start 0 start.links.inlets after.inlets spawner spawner' r) (outs : after.outlets ≡ r.outlets) where
    abbrev now : Mail
    now = h.now

    abbrev results : Results
    results = record { words = r.words.cells; outputs = map (λ (d : Desk). d.memory.outputs.items) r.desks }

    outlets' : after.outlets ≡ map shut_outlet h.now.outlets
    outlets' = outs ∙ h.outlets

    abbrev Answers : Option NodeFault → Type 0
    Answers told = Runs n start.links after spawner spawner' (answer told results)

    peers' : HasPeers (n.world.plan.parties - 1) after
    peers' = has_peers n start after h.now h.own h.mail h.count outlets' were

    closed' : IsTrue (are_closed after)
    closed' = all_closed n start after h.now h.own h.mail h.count outlets' were h.closed

    gone' : r.failed ≡ None → IsTrue (are_flushed after.outlets)
    gone' quiet = subst (λ z. IsTrue (are_flushed z)) (sym outs) (h.out quiet)

    -- the first reader that wasn't started, peer by peer
    unstarted : (p : ℕ) → IsPeer n p → EndsAtRefusal n p 0 start.links.inlets after.inlets → IsFirstUnstarted n start.links after p
    unstarted p peer e =
        let u : RefusedAt n p 0 start.links.inlets after.inlets = refused_at n p 0 start.links.inlets after.inlets e in
        let place : place_among n.me p ≡ u.k = ap (place_among n.me) (sym (u.at u.k (omega arith))) ∙ place_there n.me u.k in
        record {
          below = λ r other l.
              let less : place_among n.me r < u.k = (let a = place_less n.me p r peer.1 other.1 l in omega (arith, a, place)) in
              let read = u.below (place_among n.me r) (place_among n.me r) less (omega arith) in
              (read.0, read.1, subst (λ z. ReadsWords (incoming n z) read.0 (in_from n start.links r) (in_from n after r) read.1) (party_there n.me r other.1) read.2);
          itself = subst (λ k. (slice_index_or after.inlets k no_inlet ≡ shut_inlet (slice_index_or start.links.inlets k no_inlet)) ⊎ ReadBy (incoming n p) (slice_index_or start.links.inlets k no_inlet) (slice_index_or after.inlets k no_inlet)) (sym place) u.itself;
          above = λ r other l.
              let more : u.k < place_among n.me r = (let a = place_less n.me r p other.1 peer.1 l in omega (arith, a, place)) in
              u.above (place_among n.me r) more (place_within n.me r n.world.plan.parties (length start.links.inlets) other.0 other.1 h.own.part.party (let a = were.inlets in let b = h.own.part.party in omega (arith, a, b)));
        }

    -- a reader wasn't started
    refused_runs : (p : ℕ) → r.refused ≡ Some p → EndsAs n start 0 start.links.inlets after.inlets spawner.refusals spawner'.refusals r h.now (Some p) → Answers (fault_told r.failed r.refused r.fault)
    refused_runs p is e =
        let none : r.failed ≡ None = h.failed ∙ e.1.quiet in
        let stays = going_stays n 0 start h.now e.1 in
        let same = outlet_same n start after h.now h.own h.mail h.count outlets' were in
        subst (λ z. Answers (fault_told z r.refused r.fault)) (sym none) (subst (λ z. Answers (fault_told None z r.fault)) (sym is)
        (fault_runs n start.links after spawner spawner' (NoThread p) h.own.digest peers' closed' (λ calm. gone' none) (broke_silent n start after h.now h.own h.mail h.count outlets' were e.2 0 (stopped_at n 0 start h.now e.1) (NoThread p) (going_says n start h.now 0 e.1) (λ started calm. started)) (e.0, e.3) (unstarted p e.0 e.4)
        (tells_sends n start after h.now h.own h.mail h.count outlets' were stays (Err (NoThread p)) (λ q f. absurd (let x : None ≡ Some q = sym e.1.quiet ∙ f in cc)))
        (λ changed. (p, refl))
        (λ q peer. ap (λ z. z.told) (same q) ∙ e.1.sent (known n h.now.words.cells) (agrees_known n h.now.words.cells h.own.cells) q peer ∙ ap (added (out_to n start.links q).told) (append-nil (hello n.me q n.digest)))
        (steady_links h.now h.own h.mail h.count outlets' h.inlets h.spawner_stays stays)))

    module _ (unrefused : r.refused ≡ None) (ends : InOrder n (length n.world.plan.sessions) start r.desks h.now ⊎ Halted n start h.now) (all : AllEnd n h.now 0 start.links.inlets after.inlets r.fault) (quiet : spawner'.refusals ≡ spawner.refusals) where
      told_is : (failed : Option ℕ) → h.now.failed ≡ failed → fault_told failed None r.fault ≡ fault_told r.failed r.refused r.fault
      told_is failed is = ap (λ z. fault_told z None r.fault) (sym is ∙ sym h.failed) ∙ ap (λ z. fault_told r.failed z r.fault) (sym unrefused)

      stays' : (q : ℕ) → IsPeer n q → OutletStays n q h.now.failed (out_to n start.links q) (outlet_to h.now q)
      stays' = elim ends [
        | left' order ↦ going_stays n (before_session n (length n.world.plan.sessions)) start h.now order.going
        | right' halted ↦ halted.outlets
      ]

      steady' : StaySteady n start.links after spawner spawner'
      steady' = steady_links h.now h.own h.mail h.count outlets' h.inlets h.spawner_stays stays'

      -- a send failed in the sessions
      sends_failed : (q : ℕ) → h.now.failed ≡ Some q → Answers (Some (Link q))
      sends_failed q is = elim ends [
        | left' order ↦ absurd (let f : None ≡ Some q = sym order.going.quiet ∙ is in cc)
        | right' halted ↦
            let why = subst (StopsBy n halted.k start h.now) is halted.why in
            let rose = rose_at n start after h.now h.own h.mail h.count outlets' were halted.k q why in
            send_failed h.now h.mail halted q is h.count outlets' h.inlets h.closed h.spawner_stays quiet
            (broke_while_read n start after h.now h.own h.mail h.count outlets' were r.fault all halted.k halted.stopped (Link q) (failed_says n start h.now halted.k q why) (λ started calm. absurd (calm q rose.0 rose.1)))
      ]

      module _ (calm : h.now.failed ≡ None) where
        sends' : (result : Result Results NodeFault) → TellsSends n start.links after result
        sends' result = tells_sends n start after h.now h.own h.mail h.count outlets' were stays' result (λ q f. absurd (let x : None ≡ Some q = sym calm ∙ f in cc))

        broke : (x : NodeFault) → (got : Key → ℕ) × BrokeOff n got start.links after x
        broke x = elim ends [
          | left' order ↦ broke_at_end n start after h.now h.own h.mail h.count outlets' were r.fault all x order.going
          | right' halted ↦ broke_at_take n start after h.now h.own h.mail h.count outlets' were r.fault all x halted.k (subst (StopsBy n halted.k start h.now) calm halted.why)
        ]

        -- a reader ended by a fault
        reader_failed : (x : NodeFault) → r.fault ≡ Some x → Answers (Some x)
        reader_failed x is =
            let f = first_fault n start after h.now h.own h.mail h.count outlets' were r.fault all x is in
            fault_runs n start.links after spawner spawner' x h.own.digest peers' closed' (λ none. gone' (h.failed ∙ calm)) (broke x)
            (tells_cause n f.0 h.own.digest f.1 f.2.0 start.links after spawner.refusals spawner'.refusals x f.2.1)
            (is_first n start.links after x f.0 (of_reader (incoming n f.0) f.2.0 (in_from n start.links f.0) (in_from n after f.0) x f.2.1) f.3 (incoming n f.0) f.2.0 (in_from n start.links f.0) (in_from n after f.0) f.2.1)
            (sends' (Err x)) (λ changed. absurd (changed quiet))
            (nothing_unsaid n start.links after x (incoming n f.0) f.2.0 (in_from n start.links f.0) (in_from n after f.0) f.2.1) steady'

        -- nothing failed
        all_done : r.fault ≡ None → Answers None
        all_done none = elim ends [
          | left' order ↦
              done_runs n start.links after spawner spawner' results h.own.part.party peers' closed' (gone' (h.failed ∙ calm))
              (ran n start after h.now h.own h.mail h.count outlets' were r.fault all none r.desks results order (ap (λ z. record { words = z.cells; outputs = map (λ (d : Desk). d.memory.outputs.items) r.desks }) h.words))
              (read_calm n start after h.now h.own h.mail h.count outlets' were r.fault all none)
              (sends' (Ok results)) (λ changed. absurd (changed quiet)) steady'
          | right' halted ↦ absurd (no_stop n start after h.now h.own h.mail h.count outlets' were r.fault all none halted.k (subst (StopsBy n halted.k start h.now) calm halted.why))
        ]

        by_fault : (fault : Option NodeFault) → r.fault ≡ fault → Answers r.fault
        by_fault None is = subst Answers (sym is) (all_done is)
        by_fault (Some x) is = subst Answers (sym is) (reader_failed x is)

      by_failed : (failed : Option ℕ) → h.now.failed ≡ failed → Answers (fault_told r.failed r.refused r.fault)
      by_failed None is = subst Answers (told_is None is) (by_fault is r.fault refl)
      by_failed (Some q) is = subst Answers (told_is (Some q) is) (sends_failed q is)

    by_refused : (o : Option ℕ) → r.refused ≡ o → EndsAs n start 0 start.links.inlets after.inlets spawner.refusals spawner'.refusals r h.now o → Answers (fault_told r.failed r.refused r.fault)
    by_refused None is e = by_failed is e.0 e.1 e.2 h.now.failed refl
    by_refused (Some p) is e = refused_runs p is e

    pub remained_runs : Runs n start.links after spawner spawner' (answer (fault_told r.failed r.refused r.fault) (record { words = r.words.cells; outputs = map (λ (d : Desk). d.memory.outputs.items) r.desks }))
    remained_runs = by_refused r.refused refl h.ends
