-- What was read of an inlet, once it is closed.
use Rattle.std.proofs.Common.{◌≡◌, ℕ, suc, length, Bool, false, List, Option, Some, None, Result, Ok, Err, refl, sym, ◌∙◌, subst, inl, inr, ⊎_elim}
use Rattle.std.specs.Prelude.{IsTrue, is_err, is_some}
use Rattle.std.proofs.lemmas.Bool.{false≢true}
use Rattle.inbox_board.specs.Rule.{newcomer, ends}
use Rattle.inbox_board.specs.Seats.{SeatModel, mark_of}
use Rattle.inbox_board.specs.Folds.{pushed}
use Rattle.outer_io.specs.Inlet.{InletReading, shut_inlet}
use Rattle.node_talk.specs.declared.fault.NodeFault.{NodeFault}
use Rattle.node_talk.specs.declared.fault.NodeFault.TheVariants.{Link, Closed, BadFrame, OtherJob, NoThread}
use Rattle.link_reader.specs.Expected.{TalkModel}
use Rattle.link_reader.specs.Heard.{StaysSteady, KeepsCalm, EndedWithin, NoFrame, NoHello}
use Rattle.link_reader.specs.Wakers.{WakerModel, gives}
use Rattle.link_reader.specs.ReadWords.{CameShort, ReadsWords, ReaderModel, Works, WorksFrom}

pub calm : (before after : InletReading) → StaysSteady before after → KeepsCalm before after
calm before after h = record { faults_grow = h.faults_grow; steady = λ s. (h.steady s).1 }

pub calm_shut : (before after : InletReading) → KeepsCalm before after → KeepsCalm before (shut_inlet after)
calm_shut before after h = record { faults_grow = h.faults_grow; steady = h.steady }

module _ (talk : TalkModel) (before after : InletReading) where
  ended_shut : (wanted at count : ℕ) → EndedWithin wanted at count before after → EndedWithin wanted at count before (shut_inlet after)
  ended_shut wanted at count h = record { front = h.front; short = h.short; in_all = h.in_all; told = h.told; none_left = h.none_left; ended = h.ended }

  frame_shut : (place : ℕ) (fault : NodeFault) → NoFrame talk place before after fault → NoFrame talk place before (shut_inlet after) fault
  frame_shut place (Link peer) h = h
  frame_shut place (Closed peer at) h = (h.0, ended_shut _ _ _ h.1)
  frame_shut place (BadFrame peer at bytes) h = (h.0, h.1, record { long = h.2.long; told = h.2.told; no_frame = h.2.no_frame })
  frame_shut place (OtherJob peer ours theirs) h = absurd h
  frame_shut place (NoThread peer) h = absurd h

  hello_shut : (fault : NodeFault) → NoHello talk before after fault → NoHello talk before (shut_inlet after) fault
  hello_shut (Link peer) h = h
  hello_shut (Closed peer at) h = (h.0, ended_shut _ _ _ h.1)
  hello_shut (BadFrame peer at bytes) h = absurd h
  hello_shut (OtherJob peer ours theirs) h = (h.0, h.1, record { long = h.2.long; told = h.2.told; differ = h.2.differ })
  hello_shut (NoThread peer) h = absurd h

-- to close an inlet at the end takes nothing back
pub reads_shut : (talk : TalkModel) (words : List ℕ) (before after : InletReading) (result : Result (Unit {0}) NodeFault) → ReadsWords talk words before after result → ReadsWords talk words before (shut_inlet after) result
reads_shut talk words before after (Ok u) h =
    let c = h.0 in
    (record { few = c.few; small = c.small; told = c.told; faults = c.faults; ended = c.ended }, h.1)
reads_shut talk words before after (Err fault) h = ⊎_elim
    (λ none. inl (none.0, hello_shut talk before after fault none.1))
    (λ (s : CameShort talk words before after fault). inr (record { now = s.now; came = s.came; missing = s.missing; no_frame = frame_shut talk s.now after _ fault s.no_frame }))
    h

pub none_kept : {A : Type 0} (o : Option A) (b : Bool) → b ≡ is_some o → b ≡ false → o ≡ None
none_kept None b e f = refl
none_kept (Some x) b e f = absurd (false≢true (sym f ∙ e))

-- a new reader that read these words, and whose inlet was closed then, did its work
pub works_new : (before was : ReaderModel) → before ≡ was → (mid last : InletReading) (seat : SeatModel) (waker : WakerModel) (words : List ℕ) (outcome : Result (Unit {0}) NodeFault) → before.outcome ≡ None → ReadsWords before.talk words before.inlet mid outcome → StaysSteady before.inlet mid
    → last ≡ shut_inlet mid → seat.id ≡ before.seat.id → seat.view ≡ ends (pushed (newcomer 1) words) (mark_of (is_err outcome)) → waker ≡ gives before.waker (suc (length words)) → Works was (record before { inlet = last; seat = seat; waker = waker; outcome = Some outcome })
works_new before was same mid last seat waker words outcome new reads steady is id view woken =
    subst (λ z. Works z (record before { inlet = last; seat = seat; waker = waker; outcome = Some outcome })) same
    (subst (λ o. WorksFrom o before (record before { inlet = last; seat = seat; waker = waker; outcome = Some outcome })) (sym new)
    (record {
      outcome = outcome;
      words = words;
      reads = subst (λ z. ReadsWords before.talk words before.inlet z outcome) (sym is) (reads_shut before.talk words before.inlet mid outcome reads);
      steady = subst (KeepsCalm before.inlet) (sym is) (calm_shut before.inlet mid (calm before.inlet mid steady));
      closed = subst (λ (z : InletReading). IsTrue z.closed) (sym is) refl;
      leaves = λ i. record before { inlet = last; seat = record { id = id i; view = view i }; waker = woken i; outcome = Some outcome };
    }))
