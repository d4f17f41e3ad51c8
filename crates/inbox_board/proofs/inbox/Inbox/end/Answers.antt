use Rattle.std.proofs.Common.{◌≡◌, ap, sym, ◌∙◌, arith}
use Rattle.inbox_board.proofs.RuleSteps.{ends_keep}
use Rattle.inbox_board.proofs.inbox.Inbox.end.Goals as goal

pub store-requires : goal.store-requires
store-requires c =
    let pen : c.seat.inside.seat.me.0.pens ≡ 1 = ap (λ s. s.view.pens) c.seat.view_is ∙ c.requires.writes.0 in (
      ap (λ s. s.id) c.seat.view_is ∙ c.requires.seat ∙ sym (ap (λ p. p.id) c.self.view_is),
      (let e = c.self.invariant.0 in omega arith),
      ends_keep _ _ _ _ _ (omega arith) (ap (λ s. s.view.ended) c.seat.view_is ∙ c.requires.writes.1),
    )
