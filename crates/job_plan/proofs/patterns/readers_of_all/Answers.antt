use Rattle.std.proofs.Common.{ℕ, below_more, sym, subst, arith}
use Rattle.std.specs.List.{Contains}
use Rattle.std.proofs.lemmas.List.Elements.{Contains-append_left, Contains-append_right, Contains-get_or}
use Rattle.session_slots.specs.Sessions.{readers}
use Rattle.plan_model.specs.Plans.{session}
use Rattle.job_plan.proofs.patterns.readers_of_all.Goals as goal

pub loop-s-preserved : goal.loop-s-preserved
loop-s-preserved c =
    let old = c.loop-s.masks in
    let list = readers (session c.args.outline.now c.loop-s.s) in
    below_more _ _
    (λ s lt o lo. (c.in_ok-add_readers.ensures _).1 (Contains-append_left old list _ (c.loop-s.invariant s lt o lo)))
    (λ o lo. (c.in_ok-add_readers.ensures _).1 (Contains-append_right old list _ (Contains-get_or list o 0 lo)))

pub returns : goal.returns
returns c = λ mask read.
    subst (λ (mask : ℕ). Contains c.loop-s.masks mask) (sym read.is) (c.loop-s.invariant read.at (omega (arith, c.loop-s-test.false, c.sessions-s-end.ensures.is, read.session_there)) read.output read.output_there)
