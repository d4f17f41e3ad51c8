use Rattle.std.proofs.Common.{◌≡◌, ℕ, List, length}
use Rattle.inbox_board.specs.Rule.{newcomer}
use Rattle.inbox_board.specs.Folds.{pushed}
use Rattle.link_reader.specs.Heard.{StaysSteady}
use Rattle.link_reader.specs.Wakers.{gives}
use Rattle.link_reader.specs.ReadWords.{WordsCame}
use Rattle.link_reader.proofs.read_words.read_all.Given as goal

-- the hello and so many words came, they were pushed, and as many tokens were given
abbrev pub invariant-loop-place : goal.invariant-loop-place
invariant-loop-place g l =
    record {
      seat : l.seat.id ≡ l.fn.seat.id;
      read : (words : List ℕ) × (length words ≡ l.place) × WordsCame l.talk words (g.I.Inlet.reading l.fn.inlet) (g.I.Inlet.reading l.inlet) × (l.seat.view ≡ pushed (newcomer 1) words) × (l.waker ≡ gives l.fn.waker (length words));
      steady : StaysSteady (g.I.Inlet.reading l.fn.inlet) (g.I.Inlet.reading l.inlet);
    }
