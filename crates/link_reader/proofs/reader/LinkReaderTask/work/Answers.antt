use Rattle.std.proofs.Common.{◌≡◌, suc, length, rules, arith, ap, ◌∙◌}
use Rattle.inbox_board.specs.Folds.{pushed}
use Rattle.inbox_board.specs.Rule.{newcomer, ends}
use Rattle.inbox_board.specs.Seats.{mark_of}
use Rattle.link_reader.specs.Wakers.{gives}
use Rattle.link_reader.proofs.Tokens.{gives_more}
use Rattle.link_reader.proofs.ShutInlets.{works_new, none_kept}
use Rattle.inbox_board.proofs.PushedWords.{pushed_pens, pushed_ended}
use Rattle.link_reader.proofs.reader.LinkReaderTask.work.Goals as goal

pub end-requires-clause-writes : goal.end-requires-clause-writes
end-requires-clause-writes g c =
    let read = c.read_all-outcome.ensures.read in
    (ap (λ v. v.pens) read.1 ∙ pushed_pens (newcomer 1) read.0, ap (λ v. v.ended) read.1 ∙ pushed_ended (newcomer 1) read.0)

pub returns : goal.returns
returns g c =
    let read = c.read_all-outcome.ensures.read in
    let id : c.end.new.seat.id ≡ c.self.inside.seat.id = search rules in
    works_new _ _ c.self.view_is _ _ _ _ read.0 c.read_all-outcome.result (none_kept c.self.inside.outcome c.is_some.result c.is_some.ensures c.if-is_some.false) read.2 c.read_all-outcome.ensures.steady c.close.ensures id
    (c.end.ensures.view ∙ ap (λ v. ends v (mark_of c.is_err.result)) read.1 ∙ ap (λ b. ends (pushed (newcomer 1) read.0) (mark_of b)) c.is_err.ensures.value)
    (c.wake.ensures ∙ ap (λ w. gives w 1) read.3 ∙ gives_more _ (length read.0) (suc (length read.0)) (omega arith))
