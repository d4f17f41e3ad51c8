use Rattle.std.proofs.Common.{◌≡◌, ap, sym, ◌∙◌, inl as sum_inl, inr as sum_inr, None}
use Rattle.std.proofs.lemmas.Bool.{cases_Bool}
use mathlib.Core.Logic.{inl, inr}
use Rattle.node_run.specs.Mail.{Mail}
use Rattle.node_run.specs.Progress.{before_session}
use Rattle.node_run.proofs.KnownWords.{is_there, is_missing}
use Rattle.node_run.proofs.FlushSteps.{order_goes, halted_goes, halted_fails}
use Rattle.node_run.proofs.sessions.run_sessions.Goals as goal

pub returns-then-is_some-clause-halted : goal.returns-then-is_some-clause-halted
returns-then-is_some-clause-halted g c = λ n start e h no. elim (cases_Bool c.walk_all-ended.result) [
  | inl ran ↦
      let order = c.walk_all-ended.ensures.ended n start e h ran in
      absurd (is_there c.cells.inside.failed c.is_some.result (sym c.is_some.ensures) c.if-is_some.true (ap (λ (z : Mail). z.failed) c.cells.view_is ∙ order.going.quiet))
  | inr short ↦ c.walk_all-ended.ensures.halted n start e h short
]

pub returns-then-not-flush_all-clause-halted : goal.returns-then-not-flush_all-clause-halted
returns-then-not-flush_all-clause-halted g c = λ n start e h no.
    let quiet : c.walk_all-ended.new.cells.failed ≡ None = ap (λ (z : Mail). z.failed) (sym c.cells.view_is) ∙ is_missing c.cells.inside.failed c.is_some.result (sym c.is_some.ensures) c.if-is_some.false in
    let f = c.flush_all.ensures.failed c.if-not-flush_all.true in
    elim (cases_Bool c.walk_all-ended.result) [
      | inl ran ↦ f.halted n _ start (c.walk_all-ended.ensures.ended n start e h ran).going (sum_inr (sum_inl (ap (λ z. before_session n z) h.many)))
      | inr short ↦ halted_fails n start c.walk_all-ended.new.cells c.flush_all.new.cells (c.walk_all-ended.ensures.halted n start e h short) quiet f
    ]

pub returns-clause-ended : goal.returns-clause-ended
returns-clause-ended g c = λ n start e h yes.
    order_goes n _ start _ _ c.walk_all-ended.new.cells c.flush_all.new.cells (c.walk_all-ended.ensures.ended n start e h yes) (c.flush_all.ensures.on c.if-not-flush_all.false)

pub returns-clause-halted : goal.returns-clause-halted
returns-clause-halted g c = λ n start e h no.
    let quiet : c.walk_all-ended.new.cells.failed ≡ None = ap (λ (z : Mail). z.failed) (sym c.cells.view_is) ∙ is_missing c.cells.inside.failed c.is_some.result (sym c.is_some.ensures) c.if-is_some.false in
    halted_goes n start _ c.walk_all-ended.new.cells c.flush_all.new.cells (c.walk_all-ended.ensures.halted n start e h no) quiet (c.flush_all.ensures.on c.if-not-flush_all.false)
