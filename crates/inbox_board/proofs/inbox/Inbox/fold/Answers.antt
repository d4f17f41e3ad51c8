use Rattle.std.proofs.Common.{ap, sym, ◌∙◌, arith}
use Rattle.inbox_board.proofs.RuleSteps.{joins_keep, compares_keep}
use Rattle.inbox_board.proofs.inbox.Inbox.fold.Goals as goal

pub join_seat-requires : goal.join_seat-requires
join_seat-requires c = (
  ap (λ s. s.id) c.seat.view_is ∙ c.requires.seat ∙ sym (ap (λ p. p.id) c.self.view_is),
  ap (λ s. s.id) c.other.view_is ∙ c.requires.other ∙ sym (ap (λ p. p.id) c.self.view_is),
  c.other.invariant.0,
  (let e = c.self.invariant.0 in omega arith),
  joins_keep _ _ _ _ _ c.seat.invariant.1.stored c.seat.invariant.1.idle c.other.invariant.1.idle,
)

pub load-requires : goal.load-requires
load-requires c = (
  c.join_seat.ensures.0 ∙ ap (λ s. s.id) c.seat.view_is ∙ c.requires.seat ∙ sym (ap (λ p. p.id) c.self.view_is),
  (let e = c.self.invariant.0 in omega arith),
  compares_keep _ _ _ _,
)
