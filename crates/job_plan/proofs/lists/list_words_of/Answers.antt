use Rattle.std.proofs.Common.{◌≡◌, ℕ, ◌+◌, length, ap, ◌∙◌, arith}
use Rattle.list_laws.specs.Lists.{total, listed}
use Rattle.plan_model.specs.Plans.{words}
use Rattle.plan_model.proofs.GrownLists.{listed_push}
use Rattle.job_plan.proofs.lists.list_words_of.Goals as goal

pub returns : goal.returns
returns c =
    let plan = c.args.outline.now in
    let sum : ℕ → ℕ = λ s. total s (words plan c.args.p) in
    let ended : c.loop-s.s ≡ length plan.sessions = omega arith in
    c.of.ensures
    ∙ c.in_ok-push-2.ensures.items
    ∙ listed_push c.loop-s.s sum c.loop-s.starts.items c.loop-s.count c.loop-s.invariant.starts c.loop-s.invariant.is
    ∙ ap (λ n. listed (n + 1) sum) ended
