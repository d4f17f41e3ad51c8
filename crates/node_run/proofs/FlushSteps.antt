-- Flush after flush.
use Rattle.std.proofs.Common.{◌≡◌, ◌≢◌, ℕ, zero, suc, ◌+◌, ◌<◌, false, not, List, [], ◌∷◌, length, take, refl, sym, ap, ◌∙◌, subst, arith, inl as sum_inl, inr as sum_inr, Some, None, Result, Ok, Err}
use Rattle.std.specs.Prelude.{IsTrue, OnOk, slice_index_or}
use Rattle.std.proofs.lemmas.Bool.{cases_eq}
use Rattle.std.proofs.lemmas.Bool.Decides.{nat_tests}
use mathlib.Core.Logic.{inl, inr}
use Rattle.plan_model.specs.declared.key.Key.{Key}
use Rattle.message_board.specs.Plain.{plain_cell}
use Rattle.party_desk.specs.declared.desk.Desk.{Desk}
use Rattle.outer_io.specs.Count.{Rose}
use Rattle.outer_io.specs.Links.{are_flushed}
use Rattle.outer_io.specs.Outlet.{OutletReading}
use Rattle.outer_io.specs.Sink.{Writes, added}
use Rattle.outer_io.specs.declared.sink.Failed.{Failed}
use Rattle.outer_io.proofs.NetRefusals.{both_true}
use Rattle.outer_io.proofs.WrittenPieces.{added-nil}
use Rattle.node_talk.specs.Talks.{Node, IsPeer, own_word, said}
use Rattle.node_talk.specs.PeerLinks.{no_outlet, out_to}
use Rattle.node_talk.specs.Runs.{GoesOut}
use Rattle.plan_model.specs.Numbers.{message}
use Rattle.node_run.specs.Mail.{Mail, IsMail, NeverComes, NothingWaits, SentTo, FlushedTo, failed_after, link_to, outlet_to}
use Rattle.node_run.specs.Progress.{Begin, Agrees, HasTaken, HasPosted, KeepsOwn, IsOf, Going, KeepsRoom, OutletStays, StopsBy, Halted, InSession, InOrder, FlushedBelow, FlushFailed, AllGreeted, Ungreeted, Greeted, said_bytes}
use Rattle.node_run.specs.Remains.{party_at}
use Rattle.node_run.proofs.HelloSteps.{all_greeted}
use Rattle.node_run.proofs.SessionSteps.{whole_prefix, stopped_at}
use Rattle.node_run.proofs.OutletSteps.{bytes_within, room_then, room_at, Sent, Unsent, sent_ok, sent_err, going_stays, other_stays, failed_stays}
use Rattle.node_run.proofs.PeerEnds.{place_there}

-- ---- nothing is sent to one peer

take_none : (n : ℕ) → take {A = ℕ} n [] ≡ []
take_none zero = refl
take_none (suc n) = refl

module _ (n : Node) (k : ℕ) (start : Begin) (c : Mail) (g : Going n k start c) (q : ℕ) (lq : q < n.world.plan.parties) (other : q ≢ n.me) (d : Mail) (sent : SentTo q [] c d) where
  own' : IsOf n start d
  own' = subst (IsOf n start) (sym sent.rest) (record { part = g.own.part; digest = g.own.digest; plan = g.own.plan; me = g.own.me; form = g.own.form; ids = g.own.ids; cells = g.own.cells })

  same_cells : d.words.cells ≡ c.words.cells
  same_cells = ap (λ (z : Mail). z.words.cells) sent.rest

  before' : (got : Key → ℕ) → Agrees n d.words.cells got → Agrees n c.words.cells got
  before' got ag m v to e = ag m v to (ap (λ z. plain_cell z m) same_cells ∙ e)

  there : (r : ℕ) → IsPeer n r → q ≢ r → outlet_to d r ≡ outlet_to c r
  there r peer ne = ap (λ z. z.sink) (sent.others r (subst (λ z. r < z.parties) (sym g.own.plan) peer.0) (λ f. peer.1 (f ∙ g.own.me)) (λ f. ne (sym f)))

  -- what the outlet to q shows then
  abbrev Nothing : Type 0
  Nothing =
      ((outlet_to d q).told ≡ (outlet_to c q).told)
      × (d.failed ≡ None → Sent [] (outlet_to c q) (outlet_to d q))
      × (d.failed ≢ None → Rose (outlet_to c q).faults (outlet_to d q).faults × (d.failed ≡ Some q) × Unsent [] (outlet_to c q) (outlet_to d q))

  by_result : (r : Result (Unit {0}) Failed) → Writes [] (outlet_to c q) (outlet_to d q) r → d.failed ≡ failed_after q r c.failed → Nothing
  by_result (Ok u) w kept = (w.ok ∙ sym (added-nil (outlet_to c q).told), λ quiet. sent_ok [] _ _ u w, λ some. absurd (some (kept ∙ g.quiet)))
  by_result (Err f) w kept = (
    w.err.1 ∙ ap (added (outlet_to c q).told) (take_none w.err.0) ∙ sym (added-nil (outlet_to c q).told),
    λ quiet. absurd (let x : Some q ≡ None = sym kept ∙ quiet in cc),
    λ some. (w.failed, kept, sent_err [] _ _ f w),
  )

  nothing : Nothing
  nothing = by_result sent.result sent.writes (ap (λ (z : Mail). z.failed) sent.rest)

  told : (r : ℕ) → IsPeer n r → (outlet_to d r).told ≡ (outlet_to c r).told
  told r peer = elim (cases_eq q r) [
    | inl e ↦ subst (λ z. (outlet_to d z).told ≡ (outlet_to c z).told) e nothing.0
    | inr ne ↦ ap (λ z. z.told) (there r peer ne)
  ]

  said_still : (got : Key → ℕ) → Agrees n d.words.cells got → (r : ℕ) → IsPeer n r → (outlet_to d r).told ≡ added (out_to n start.links r).told (said n r (own_word n got) k)
  said_still got ag r peer = told r peer ∙ g.sent got (before' got ag) r peer

  pub goes_on : d.failed ≡ None → Going n k start d
  goes_on quiet = record {
    own = own';
    within = g.within;
    taken = subst (HasTaken n k) (sym same_cells) g.taken;
    posted = subst (HasPosted n k) (sym same_cells) g.posted;
    own_words = subst (KeepsOwn n) (sym same_cells) g.own_words;
    sent = said_still;
    calm = λ r peer. elim (cases_eq q r) [
      | inl e ↦ subst (λ z. (outlet_to d z).faults ≡ (out_to n start.links z).faults) e ((nothing.1 quiet).faults ∙ g.calm q (lq, other))
      | inr ne ↦ ap (λ z. z.faults) (there r peer ne) ∙ g.calm r peer
    ];
    room = λ r peer. elim (cases_eq q r) [
      | inl e ↦ subst (λ z. KeepsRoom (said_bytes n z k) (out_to n start.links z) (outlet_to d z)) e
          (room_at _ (said_bytes n q k) _ _ (omega arith) (room_then (said_bytes n q k) 0 _ _ _ (g.room q (lq, other)) (nothing.1 quiet).room))
      | inr ne ↦ subst (KeepsRoom (said_bytes n r k) (out_to n start.links r)) (sym (there r peer ne)) (g.room r peer)
    ];
    quiet = quiet;
  }

  pub halts : d.failed ≢ None → GoesOut n k → Halted n start d
  halts some out = record {
    k = k;
    stopped = record {
      own = own';
      within = g.within;
      taken = subst (HasTaken n k) (sym same_cells) g.taken;
      posted = subst (HasPosted n k) (sym same_cells) g.posted;
      own_words = subst (KeepsOwn n) (sym same_cells) g.own_words;
      sent = λ got ag r peer. whole_prefix _ _ _ (said_still got ag r peer);
    };
    why = subst (StopsBy n k start d) (sym (nothing.2 some).1) (
      (lq, other),
      subst (λ z. Rose z (outlet_to d q).faults) (g.calm q (lq, other)) (nothing.2 some).0,
      λ got ag.
          sum_inl (record { itself = sum_inr (out, said_still got ag q (lq, other)); others = λ r peer ne. said_still got ag r peer }),
    );
    outlets = λ r peer. elim (cases_eq q r) [
      | inl e ↦ subst (λ z. OutletStays n z d.failed (out_to n start.links z) (outlet_to d z)) e
          (failed_stays n q d.failed (said_bytes n q k) [] _ (outlet_to c q) _ (nothing.2 some).1 (g.calm q (lq, other)) (g.room q (lq, other))
          (let a = bytes_within n q k g.within in omega (arith, a)) (nothing.2 some).2)
      | inr ne ↦ other_stays n r q d.failed (said_bytes n r k) _ _ (nothing.2 some).1 ne (ap (λ z. z.faults) (there r peer ne) ∙ g.calm r peer)
          (subst (KeepsRoom (said_bytes n r k) (out_to n start.links r)) (sym (there r peer ne)) (g.room r peer))
    ];
  }

-- ---- one peer after another

pub none_flushed : (c : Mail) → FlushedBelow 0 c c
none_flushed c = record { rest = refl; out = λ r l ne less. absurd (omega arith); going = λ n k start g. g }

module _ (q : ℕ) (b c : Mail) (h : FlushedBelow q b c) where
  less : (r : ℕ) → r < q + 1 → r ≢ q → r < q
  less r l ne = omega arith

  pub skipped : q ≡ c.me → FlushedBelow (q + 1) b c
  skipped same = record {
    rest = h.rest;
    out = λ r l ne below. h.out r l ne (less r below (λ e. ne (e ∙ same ∙ ap (λ (z : Mail). z.me) h.rest)));
    going = h.going;
  }

  module _ (lq : q < c.plan.parties) (other : q ≢ c.me) (d : Mail) (f : FlushedTo q c d) where
    rest' : d ≡ record b { outlets = d.outlets; failed = d.failed }
    rest' = let e = f.sent.rest in
        e ∙ ap (λ (z : Mail). record z { outlets = d.outlets; failed = failed_after q f.sent.result c.failed }) h.rest
        ∙ ap (λ o. record b { outlets = d.outlets; failed = o }) (sym (ap (λ (z : Mail). z.failed) e))

    is_out : (r : Result (Unit {0}) Failed) → d.failed ≡ failed_after q r c.failed → OnOk r ((link_to d q).holds ≡ false) → d.failed ≡ None → (link_to d q).holds ≡ false
    is_out (Ok u) kept none quiet = none
    is_out (Err x) kept none quiet = absurd (let y : Some q ≡ None = sym kept ∙ quiet in cc)

    of_peer : (n : Node) (k : ℕ) (start : Begin) → Going n k start b → (q < n.world.plan.parties) × (q ≢ n.me)
    of_peer n k start g = let own = (h.going n k start g).own in (subst (λ z. q < z.parties) own.plan lq, λ e. other (e ∙ sym own.me))

    pub flushed_more : d.failed ≡ None → FlushedBelow (q + 1) b d
    flushed_more quiet = record {
      rest = rest';
      out = λ r l ne below. elim (cases_eq r q) [
        | inl e ↦ subst (λ z. (link_to d z).holds ≡ false) (sym e) (is_out f.sent.result (ap (λ (z : Mail). z.failed) f.sent.rest) f.out quiet)
        | inr apart ↦
            ap (λ z. z.holds) (f.sent.others r (subst (λ (z : Mail). r < z.plan.parties) (sym h.rest) l) (λ e. ne (e ∙ ap (λ (z : Mail). z.me) h.rest)) apart)
            ∙ h.out r l ne (less r below apart)
      ];
      going = λ n k start g. let p = of_peer n k start g in goes_on n k start c (h.going n k start g) q p.0 p.1 d f.sent quiet;
    }

    pub flush_failed : d.failed ≢ None → FlushFailed b d
    flush_failed some = record {
      rest = rest';
      some = some;
      halted = λ n k start g out. let p = of_peer n k start g in halts n k start c (h.going n k start g) q p.0 p.1 d f.sent some out;
    }

-- ---- all outlets

peer_there : (me parties place : ℕ) → place + 1 < parties → (party_at me place < parties) × (party_at me place ≢ me)
peer_there me parties place l = grind (arith, nat_tests)

all_out : (xs : List OutletReading) → ((k : ℕ) → k < length xs → (slice_index_or xs k no_outlet).holds ≡ false) → IsTrue (are_flushed xs)
all_out [] each = refl
all_out (x ∷ xs) each = both_true _ _ (ap not (each 0 (omega arith))) (all_out xs (λ k l. each (suc k) (omega arith)))

pub nothing_waits : (b c : Mail) → IsMail c → FlushedBelow b.plan.parties b c → NothingWaits c
nothing_waits b c mail h = all_out c.outlets (λ k l. at k l)
  where
    at : (k : ℕ) → k < length c.outlets → (slice_index_or c.outlets k no_outlet).holds ≡ false
    at k l =
        let same : c.plan.parties ≡ b.plan.parties = ap (λ (z : Mail). z.plan.parties) h.rest in
        let mine : c.me ≡ b.me = ap (λ (z : Mail). z.me) h.rest in
        let many = mail.outlets in
        let peer = peer_there c.me c.plan.parties k (omega (arith, l, many)) in
        let less : party_at c.me k < b.plan.parties = (let p = peer.0 in omega (arith, p, same)) in
        subst (λ z. (slice_index_or c.outlets z no_outlet).holds ≡ false) (place_there c.me k) (h.out (party_at c.me k) less (λ e. peer.1 (e ∙ sym mine)) less)

-- ---- what a run has come to

-- what holds of words holds after a flush
pub same_words : (q : ℕ) (c d : Mail) → FlushedBelow q c d → (m : ℕ) → plain_cell d.words.cells m ≡ plain_cell c.words.cells m
same_words q c d h m = ap (λ (z : Mail). plain_cell z.words.cells m) h.rest

pub all_gone : (n : Node) (start : Begin) (q : ℕ) (c d : Mail) → Greeted n n.world.plan.parties start c → FlushedBelow q c d → NothingWaits d → AllGreeted n start d
all_gone n start q c d g h out = record { going = h.going n 0 start (all_greeted n start c g); words = λ m. same_words q c d h m ∙ g.words m; out = out }

pub hello_stays : (n : Node) (start : Begin) (c d : Mail) → Greeted n n.world.plan.parties start c → FlushFailed c d → Ungreeted n start d
hello_stays n start c d g h = record {
  halted = h.halted n 0 start (all_greeted n start c g) (sum_inl refl);
  some = h.some;
  words = λ m. ap (λ (z : Mail). plain_cell z.words.cells m) h.rest ∙ g.words m;
}

pub session_goes : (n : Node) (s : ℕ) (start : Begin) (desk : Desk) (q : ℕ) (c d : Mail) → InSession n s start desk c → FlushedBelow q c d → InSession n s start desk d
session_goes n s start desk q c d i h = record {
  session = i.session;
  desk = λ got ag. i.desk got (λ m v to e. ag m v to (same_words q c d h m ∙ e));
  going = h.going n _ start i.going;
}

pub order_goes : (n : Node) (s : ℕ) (start : Begin) (ds : List Desk) (q : ℕ) (c d : Mail) → InOrder n s start ds c → FlushedBelow q c d → InOrder n s start ds d
order_goes n s start ds q c d o h = record {
  many = o.many;
  done = λ got ag t x l is. o.done got (λ m v to e. ag m v to (same_words q c d h m ∙ e)) t x l is;
  ended = o.ended;
  new = o.new;
  still = o.still;
  going = h.going n _ start o.going;
}

-- where no send failed, a party stopped since a word won't come
pub stops_at_take : (n : Node) (start : Begin) (c : Mail) (h : Halted n start c) → c.failed ≡ None → StopsBy n h.k start c None
stops_at_take n start c h quiet = subst (StopsBy n h.k start c) quiet h.why

pub halted_goes : (n : Node) (start : Begin) (q : ℕ) (c d : Mail) → Halted n start c → c.failed ≡ None → FlushedBelow q c d → Halted n start d
halted_goes n start q c d h quiet f =
    let why = stops_at_take n start c h quiet in
    let g = f.going n h.k start why.0 in
    let never = why.1.3 in
    record {
      k = h.k;
      stopped = stopped_at n h.k start d g;
      why = subst (StopsBy n h.k start d) (sym g.quiet)
          (g, (why.1.0, why.1.1, why.1.2, subst (λ z. NeverComes z why.1.0) (sym f.rest) (record { peer = never.peer; ended = never.ended; total = never.total; found = never.found; few = never.few })));
      outlets = going_stays n h.k start d g;
    }

pub halted_fails : (n : Node) (start : Begin) (c d : Mail) → Halted n start c → c.failed ≡ None → FlushFailed c d → Halted n start d
halted_fails n start c d h quiet f =
    let why = stops_at_take n start c h quiet in
    f.halted n h.k start why.0
    (sum_inr (sum_inr (why.1.0, why.1.1, why.1.2, λ e. why.1.3.peer (ap (λ z. (message z why.1.0).sender) why.0.own.plan ∙ e ∙ sym why.0.own.me))))
