-- Texts that are gathered piece by piece.
use Rattle.std.proofs.Common.{◌≡◌, ℕ, ◌≤◌, Bool, true, false, List, [], ◌++◌, length, Result, Ok, Err, refl, sym, ap, ◌∙◌, subst, arith, append_assoc, length-append}
use Rattle.std.specs.Prelude.{is_err}
use Rattle.std.proofs.lemmas.Bool.{false≢true}
use Rattle.std.proofs.lemmas.List.{append-nil}
use Rattle.outer_io.specs.Sink.{SinkReading, Writes}
use Rattle.outer_io.specs.declared.sink.Failed.{Failed}
use Rattle.outer_io.specs.Blocks.{Gathering, Gathered, Extends, Adds, Finishes, block_size}
use Rattle.outer_io.proofs.WrittenPieces.{writes_nothing, writes_part, writes_then}

-- nothing was gathered yet
pub gathered_nothing : (now : Gathering) → now.pending ≡ [] → now.failed ≡ false → Gathered [] now.sink now
gathered_nothing now empty quiet = record {
  taken = λ no. ([], sym empty, writes_nothing now.sink tt);
  cut = λ yes. absurd (false≢true (sym quiet ∙ yes));
}

pub extends_then : (a b : List ℕ) (before mid after : Gathering) → Extends a before mid → Extends b mid after → Extends (a ++ b) before after
extends_then a b before mid after first second = record {
  same_sink = second.same_sink ∙ first.same_sink;
  text = λ text start is. subst (λ t. Gathered t start after) (append_assoc text a b) (second.text (text ++ a) start (first.text text start is));
}

pub adds_nothing : (now : Gathering) → Adds [] now now
adds_nothing now = record {
  extends = record { same_sink = refl; text = λ text start is. subst (λ t. Gathered t start now) (sym (append-nil text)) is };
  waits = λ fits. (refl, sym (append-nil now.pending));
}

first_fits : (a b pending : List ℕ) → length (pending ++ (a ++ b)) ≤ block_size → length (pending ++ a) ≤ block_size
first_fits a b pending fits = omega (arith, length-append pending a, length-append a b, length-append pending (a ++ b))

second_fits : (a b pending mid : List ℕ) → mid ≡ pending ++ a → length (pending ++ (a ++ b)) ≤ block_size → length (mid ++ b) ≤ block_size
second_fits a b pending mid is fits = subst (λ t. length t ≤ block_size) (sym (ap (λ t. t ++ b) is ∙ append_assoc pending a b)) fits

pub adds_then : (a b : List ℕ) (before mid after : Gathering) → Adds a before mid → Adds b mid after → Adds (a ++ b) before after
adds_then a b before mid after first second = record {
  extends = extends_then a b before mid after first.extends second.extends;
  waits = λ fits.
      let here = first.waits (first_fits a b before.pending fits) in
      let there = second.waits (second_fits a b before.pending mid.pending here.1 fits) in
      (there.0 ∙ here.0, there.1 ∙ ap (λ t. t ++ b) here.1 ∙ append_assoc before.pending a b);
}

module _ (behind : ℕ) (piece : List ℕ) where
  -- the same where what was pending is told otherwise
  pub extends_after_same : (sink : SinkReading) (pending pending' : List ℕ) (failed : Bool) (after : Gathering) → pending ≡ pending'
      → Extends piece (record { behind = behind; sink = sink; pending = pending; failed = failed }) after → Extends piece (record { behind = behind; sink = sink; pending = pending'; failed = failed }) after
  extends_after_same sink pending pending' failed after same extends = subst (λ p. Extends piece (record { behind = behind; sink = sink; pending = p; failed = failed }) after) same extends

  -- a piece that is pending
  pub extends_pending : (sink : SinkReading) (pending pending' : List ℕ) (failed : Bool) → pending' ≡ pending ++ piece
      → Extends piece (record { behind = behind; sink = sink; pending = pending; failed = failed }) (record { behind = behind; sink = sink; pending = pending'; failed = failed })
  extends_pending sink pending pending' failed added = record {
    same_sink = refl;
    text = λ text start is. record {
      taken = λ no. let part = is.taken no in (part.0, ap (λ t. t ++ piece) part.1 ∙ append_assoc part.0 pending piece ∙ ap (λ t. part.0 ++ t) (sym added), part.2);
      cut = λ yes. let fails = is.cut yes in (fails.0, writes_part text piece start sink fails.0 fails.1);
    };
  }

  -- nothing more is given to a sink that has failed
  pub extends_after_failure : (sink : SinkReading) (pending pending' : List ℕ) (failed : Bool) → failed ≡ true
      → Extends piece (record { behind = behind; sink = sink; pending = pending; failed = failed }) (record { behind = behind; sink = sink; pending = pending'; failed = failed })
  extends_after_failure sink pending pending' failed fault = record {
    same_sink = refl;
    text = λ text start is. record {
      taken = λ no. absurd (false≢true (sym no ∙ fault));
      cut = λ yes. let fails = is.cut yes in (fails.0, writes_part text piece start sink fails.0 fails.1);
    };
  }

  whole : (text first pending given : List ℕ) → text ≡ first ++ pending → given ≡ pending ++ piece → first ++ given ≡ text ++ piece
  whole text first pending given is same = ap (λ t. first ++ t) same ∙ sym (append_assoc first pending piece) ∙ ap (λ t. t ++ piece) (sym is)

  -- what is pending, and the piece, are given to the sink
  pub extends_given : (sink sink' : SinkReading) (pending given pending' : List ℕ) (failed failed' : Bool) (result : Result Unit Failed)
      → failed ≡ false → given ≡ pending ++ piece → pending' ≡ [] → failed' ≡ is_err result → Writes given sink sink' result
      → Extends piece (record { behind = behind; sink = sink; pending = pending; failed = failed }) (record { behind = behind; sink = sink'; pending = pending'; failed = failed' })
  extends_given sink sink' pending given pending' failed failed' (Ok u) quiet same empty fine w = record {
    same_sink = refl;
    text = λ text start is. record {
      taken = λ no.
          let part = is.taken quiet in (
            text ++ piece,
            sym (append-nil (text ++ piece)) ∙ ap (λ t. (text ++ piece) ++ t) (sym empty),
            subst (λ t. Writes t start sink' (Ok tt)) (whole text part.0 pending given part.1 same) (writes_then part.0 given start sink sink' tt (Ok u) part.2 w),
          );
      cut = λ yes. absurd (false≢true (sym fine ∙ yes));
    };
  }
  extends_given sink sink' pending given pending' failed failed' (Err e) quiet same empty fault w = record {
    same_sink = refl;
    text = λ text start is. record {
      taken = λ no. absurd (false≢true (sym no ∙ fault));
      cut = λ yes. let part = is.taken quiet in (e, subst (λ t. Writes t start sink' (Err e)) (whole text part.0 pending given part.1 same) (writes_then part.0 given start sink sink' tt (Err e) part.2 w));
    };
  }

-- what was added since the start, and taken in the end, was written as one text to the sink that was lent
pub adds_all : {A : Type 0} (reading : A → SinkReading) (text : List ℕ) (start made added done : Gathering) (result : Result Unit Failed) (last left : A)
    → made ≡ start → start.pending ≡ [] → start.failed ≡ false → Adds text made added → Finishes added done result
    → done.sink ≡ reading last → (start.behind ≡ done.behind → left ≡ last) → Writes text start.sink (reading left) result
adds_all reading text start made added done result last left same empty quiet adds finishes shown lent =
    let begun : Gathered [] start.sink made = subst (λ g. Gathered [] start.sink g) (sym same) (gathered_nothing start empty quiet) in
    let is : left ≡ last = lent (sym (finishes.same_sink ∙ adds.extends.same_sink ∙ ap (λ g. g.behind) same)) in
    subst (λ sink. Writes text start.sink sink result) (shown ∙ ap reading (sym is)) (finishes.text text start.sink (adds.extends.text [] start.sink begun))
