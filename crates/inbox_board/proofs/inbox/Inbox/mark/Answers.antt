use Rattle.std.proofs.Common.{ap, sym, ◌∙◌, arith}
use Rattle.inbox_board.proofs.RuleSteps.{notes_keep}
use Rattle.inbox_board.proofs.inbox.Inbox.mark.Goals as goal

pub load-found-requires : goal.load-found-requires
load-found-requires c = (
  ap (λ s. s.id) c.seat.view_is ∙ c.requires.seat ∙ sym (ap (λ p. p.id) c.self.view_is),
  (let e = c.self.invariant.0 in omega arith),
  notes_keep _ _ _ _,
)
