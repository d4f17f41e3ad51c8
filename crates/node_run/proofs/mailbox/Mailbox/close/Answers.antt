use Rattle.std.proofs.Common.{◌≡◌, ap, sym, ◌∙◌, subst}
use Rattle.inbox_board.specs.declared.steps.InboxView.{InboxView}
use Rattle.inbox_board.specs.Rule.{folds, ends, newcomer, FitsTogether}
use Rattle.inbox_board.specs.Folds.{pushed}
use Rattle.inbox_board.proofs.PushedWords.{fold_tells}
use Rattle.node_run.specs.Mail.{BoxModel}
use Rattle.node_run.proofs.mailbox.Mailbox.close.Goals as goal

pub returns : goal.returns
returns c = λ words mark e.
    let same : c.self.inside.seat.view ≡ c.args.self.view = ap (λ (b : BoxModel). b.view) c.self.view_is in
    fold_tells words mark c.args.self.view
    (ap (λ (v : InboxView). v.length) (sym same) ∙ c.self.invariant.2)
    (ap (λ (v : InboxView). v.ended) (sym same) ∙ c.self.invariant.3)
    (subst FitsTogether (c.fold.ensures.view ∙ ap (λ v. folds v c.self.inside.seat.view) e ∙ ap (λ v. folds (ends (pushed (newcomer 1) words) mark) v) same) c.fold.ensures.agrees)
