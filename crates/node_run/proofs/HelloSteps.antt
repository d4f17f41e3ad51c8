-- Hello after hello.
use Rattle.std.proofs.Common.{◌≡◌, ◌≢◌, ℕ, ◌+◌, ◌<◌, Bool, true, false, not, List, refl, sym, ap, ◌∙◌, subst, arith, inr as sum_inr, Option, Some, None, Result, Ok, Err}
use Rattle.std.specs.Option.{is_some}
use Rattle.std.proofs.lemmas.Bool.{cases_eq, cases_lt}
use Rattle.std.proofs.lemmas.List.{append-nil}
use mathlib.Core.Logic.{inl, inr}
use Rattle.plan_model.specs.declared.key.Key.{Key}
use Rattle.message_board.specs.Plain.{plain_cell}
use Rattle.outer_io.specs.Count.{Rose}
use Rattle.outer_io.specs.Sink.{Writes, added, AddedPrefix}
use Rattle.outer_io.specs.declared.sink.Failed.{Failed}
use Rattle.outer_io.proofs.WrittenPieces.{added-nil}
use Rattle.frame_code.specs.Frames.{hello}
use Rattle.frame_code.proofs.ReadFrames.{length-hello}
use Rattle.node_talk.specs.Talks.{Node, IsPeer, own_word, said}
use Rattle.node_talk.specs.PeerLinks.{out_to}
use Rattle.node_run.specs.Mail.{Mail, SentTo, failed_after, outlet_to}
use Rattle.node_run.specs.Progress.{Begin, IsOf, Going, KeepsRoom, OutletStays, StopsBy, Halted, Greeted, Ungreeted, said_bytes}
use Rattle.node_run.proofs.SessionSteps.{whole_prefix}
use Rattle.node_run.proofs.OutletSteps.{room_kept, room_at, Sent, Unsent, sent_ok, sent_err, other_stays, failed_stays}

pub not_some : (o : Option ℕ) (b : Bool) → is_some o ≡ not b → b ≡ true → o ≡ None
not_some None b e f = refl
not_some (Some x) b e f = absurd (let g : true ≡ false = e ∙ ap not f in cc)

pub not_none : (o : Option ℕ) (b : Bool) → is_some o ≡ not b → b ≡ false → o ≢ None
not_none None b e f none = (let g : false ≡ true = e ∙ ap not f in cc)
not_none (Some x) b e f none = (let g : Some x ≡ None = none in cc)

-- what a party says first is its hello
said_nothing : (n : Node) (q : ℕ) (word : Key → ℕ) → said n q word 0 ≡ hello n.me q n.digest
said_nothing n q word = append-nil (hello n.me q n.digest)

module _ (n : Node) (q : ℕ) (start : Begin) (c : Mail) (h : Greeted n q start c) where
  pub skipped : q ≡ n.me → Greeted n (q + 1) start c
  skipped same = record {
    own = h.own;
    words = h.words;
    sent = λ r peer l. h.sent r peer (let ne : r ≢ q = (λ e. peer.1 (e ∙ same)) in less r q l ne);
    calm = h.calm;
    room = λ r peer l. h.room r peer (let ne : r ≢ q = (λ e. peer.1 (e ∙ same)) in less r q l ne);
    others = λ r peer l. h.others r peer (omega arith);
    quiet = h.quiet;
  }
    where
      less : (r q : ℕ) → r < q + 1 → r ≢ q → r < q
      less r q l ne = omega arith

  module _ (lq : q < n.world.plan.parties) (other : q ≢ n.me) (d : Mail) (sent : SentTo q (hello n.me q n.digest) c d) where
    own' : IsOf n start d
    own' = subst (IsOf n start) (sym sent.rest) (record { part = h.own.part; digest = h.own.digest; plan = h.own.plan; me = h.own.me; form = h.own.form; ids = h.own.ids; cells = h.own.cells })

    words' : (m : ℕ) → plain_cell d.words.cells m ≡ None
    words' m = ap (λ (z : Mail). plain_cell z.words.cells m) sent.rest ∙ h.words m

    there : (r : ℕ) → IsPeer n r → r ≢ q → outlet_to d r ≡ outlet_to c r
    there r peer ne = ap (λ z. z.sink) (sent.others r (subst (λ z. r < z.parties) (sym h.own.plan) peer.0) (λ f. peer.1 (f ∙ h.own.me)) ne)

    -- all of the hello, or a first part of it
    abbrev Writ : Type 0
    Writ =
        (d.failed ≡ None → ((outlet_to d q).told ≡ added (outlet_to c q).told (hello n.me q n.digest)) × Sent (hello n.me q n.digest) (outlet_to c q) (outlet_to d q))
        × (d.failed ≢ None → AddedPrefix (outlet_to c q).told (hello n.me q n.digest) (outlet_to d q).told × Rose (outlet_to c q).faults (outlet_to d q).faults × (d.failed ≡ Some q)
        × Unsent (hello n.me q n.digest) (outlet_to c q) (outlet_to d q))

    by_result : (r : Result (Unit {0}) Failed) → Writes (hello n.me q n.digest) (outlet_to c q) (outlet_to d q) r → d.failed ≡ failed_after q r c.failed
        → Writ
    by_result (Ok u) w kept = (λ quiet. (w.ok, sent_ok (hello n.me q n.digest) _ _ u w), λ some. absurd (some (kept ∙ h.quiet)))
    by_result (Err f) w kept = (λ quiet. absurd (let g : Some q ≡ None = sym kept ∙ quiet in cc), λ some. (w.err, w.failed, kept, sent_err (hello n.me q n.digest) _ _ f w))

    written : Writ
    written = by_result sent.result sent.writes (ap (λ (z : Mail). z.failed) sent.rest)

    fresh : outlet_to c q ≡ out_to n start.links q
    fresh = h.others q (lq, other) (omega arith)

    pub greeted : d.failed ≡ None → Greeted n (q + 1) start d
    greeted quiet = record {
      own = own';
      words = words';
      sent = λ r peer l. elim (cases_eq r q) [
        | inl e ↦ subst (λ z. (outlet_to d z).told ≡ added (out_to n start.links z).told (hello n.me z n.digest)) (sym e) ((written.0 quiet).0 ∙ ap (λ z. added z.told (hello n.me q n.digest)) fresh)
        | inr ne ↦ ap (λ z. z.told) (there r peer ne) ∙ h.sent r peer (omega arith)
      ];
      calm = λ r peer. elim (cases_eq r q) [
        | inl e ↦ subst (λ z. (outlet_to d z).faults ≡ (out_to n start.links z).faults) (sym e) ((written.0 quiet).1.faults ∙ ap (λ z. z.faults) fresh)
        | inr ne ↦ ap (λ z. z.faults) (there r peer ne) ∙ h.calm r peer
      ];
      room = λ r peer l. elim (cases_eq r q) [
        | inl e ↦ subst (λ z. KeepsRoom 38 (out_to n start.links z) (outlet_to d z)) (sym e) (subst (λ z. KeepsRoom 38 z (outlet_to d q)) fresh (room_at _ 38 _ _ (length-hello n.me q n.digest h.own.digest) (written.0 quiet).1.room))
        | inr ne ↦ subst (KeepsRoom 38 (out_to n start.links r)) (sym (there r peer ne)) (h.room r peer (omega arith))
      ];
      others = λ r peer l. there r peer (λ e. absurd (omega arith)) ∙ h.others r peer (omega arith);
      quiet = quiet;
    }

    -- what is said by no instruction is the hello
    in_said : (r : ℕ) (word : Key → ℕ) (told told' : Option (List ℕ)) → AddedPrefix told (hello n.me r n.digest) told' → AddedPrefix told (said n r word 0) told'
    in_said r word told told' p = subst (λ z. AddedPrefix told z told') (sym (said_nothing n r word)) p

    nothing_said : (r : ℕ) (told : Option (List ℕ)) → AddedPrefix told (hello n.me r n.digest) told
    nothing_said r told = (0, added-nil told)

    halted : d.failed ≢ None → Halted n start d
    halted some = record {
      k = 0;
      stopped = record {
        own = own';
        within = omega arith;
        taken = λ j m i l e. absurd (omega arith);
        posted = λ j m i l e. absurd (omega arith);
        own_words = record {
          sender = λ m v e ne. absurd (let f : None ≡ Some v = sym (words' m) ∙ e in cc);
          word = λ m v e from got ag. absurd (let f : None ≡ Some v = sym (words' m) ∙ e in cc);
        };
        sent = λ got ag r peer. in_said r (own_word n got) _ _ (elim (cases_eq r q) [
          | inl e ↦ subst (λ z. AddedPrefix (out_to n start.links z).told (hello n.me z n.digest) (outlet_to d z).told) (sym e) (subst (λ z. AddedPrefix z.told (hello n.me q n.digest) (outlet_to d q).told) fresh (written.1 some).0)
          | inr ne ↦ subst (λ z. AddedPrefix (out_to n start.links r).told (hello n.me r n.digest) z.told) (sym (there r peer ne)) (before_here r peer)
        ]);
      };
      why = subst (StopsBy n 0 start d) (sym (written.1 some).2) (
        (lq, other),
        subst (λ z. Rose z (outlet_to d q).faults) (h.calm q (lq, other)) (written.1 some).1,
        λ got ag.
            sum_inr (
              refl,
              record {
                below = λ r peer l. ap (λ z. z.told) (there r peer (let ne : r ≢ q = (λ e. omega (arith, l, e)) in ne)) ∙ h.sent r peer l;
                above = λ r peer l. ap (λ z. z.told) (there r peer (let ne : r ≢ q = (λ e. omega (arith, l, e)) in ne) ∙ h.others r peer (omega (arith, l)));
              },
            ),
      );
      outlets = λ r peer. elim (cases_eq q r) [
        | inl e ↦ subst (λ z. OutletStays n z d.failed (out_to n start.links z) (outlet_to d z)) e
            (failed_stays n q d.failed 0 (hello n.me q n.digest) _ (outlet_to c q) _ (written.1 some).2 (h.calm q (lq, other)) (subst (λ z. KeepsRoom 0 z (outlet_to c q)) fresh (room_kept (outlet_to c q)))
            (let a = length-hello n.me q n.digest h.own.digest in omega (arith, a)) (written.1 some).3)
        | inr ne ↦ let room = room_so_far r peer (λ e. ne (sym e)) in other_stays n r q d.failed room.0 _ _ (written.1 some).2 ne (ap (λ z. z.faults) (there r peer (λ e. ne (sym e))) ∙ h.calm r peer) room.1
      ];
    }
      where
        room_so_far : (r : ℕ) → IsPeer n r → r ≢ q → (bytes : ℕ) × KeepsRoom bytes (out_to n start.links r) (outlet_to d r)
        room_so_far r peer ne = elim (cases_lt r q) [
          | inl less ↦ (38, subst (KeepsRoom 38 (out_to n start.links r)) (sym (there r peer ne)) (h.room r peer less))
          | inr past ↦ (0, subst (KeepsRoom 0 (out_to n start.links r)) (sym (there r peer ne ∙ h.others r peer (omega arith))) (room_kept (out_to n start.links r)))
        ]

        before_here : (r : ℕ) → IsPeer n r → AddedPrefix (out_to n start.links r).told (hello n.me r n.digest) (outlet_to c r).told
        before_here r peer = elim (cases_lt r q) [
          | inl less ↦ whole_prefix (hello n.me r n.digest) _ _ (h.sent r peer less)
          | inr past ↦ subst (λ z. AddedPrefix (out_to n start.links r).told (hello n.me r n.digest) z.told) (sym (h.others r peer (omega arith))) (nothing_said r (out_to n start.links r).told)
        ]

    pub hello_failed : d.failed ≢ None → Ungreeted n start d
    hello_failed some = record { halted = halted some; some = some; words = words' }

-- all peers were greeted: no instruction is done yet
pub all_greeted : (n : Node) (start : Begin) (c : Mail) → Greeted n n.world.plan.parties start c → Going n 0 start c
all_greeted n start c h = record {
  own = h.own;
  within = omega arith;
  taken = λ j m i l e. absurd (omega arith);
  posted = λ j m i l e. absurd (omega arith);
  own_words = record {
    sender = λ m v e ne. absurd (let f : None ≡ Some v = sym (h.words m) ∙ e in cc);
    word = λ m v e from got ag. absurd (let f : None ≡ Some v = sym (h.words m) ∙ e in cc);
  };
  sent = λ got ag q peer. h.sent q peer peer.0 ∙ ap (added (out_to n start.links q).told) (sym (said_nothing n q (own_word n got)));
  calm = h.calm;
  room = λ q peer. room_at 38 (said_bytes n q 0) _ _ (omega arith) (h.room q peer peer.0);
  quiet = h.quiet;
}
