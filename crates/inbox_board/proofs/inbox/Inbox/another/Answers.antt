use Rattle.std.proofs.Common.{ap, sym, ◌∙◌, arith}
use Rattle.inbox_board.proofs.RuleSteps.{splits_keep}
use Rattle.inbox_board.proofs.inbox.Inbox.another.Goals as goal

pub split_seat-requires : goal.split_seat-requires
split_seat-requires c = (ap (λ s. s.id) c.seat.view_is ∙ c.requires ∙ sym (ap (λ p. p.id) c.self.view_is), (let e = c.self.invariant.0 in omega arith), splits_keep _ _ _)
