use Rattle.std.proofs.Common.{◌<◌, length, ap, sym, ◌∙◌, subst, arith}
use Rattle.std.specs.Prelude.{slice_index_or}
use Rattle.list_laws.proofs.JoinedLists.{length-listed, listed_at}
use Rattle.plan_model.specs.Patterns.{deal_transfers, transfers, Occurs}
use Rattle.job_plan.proofs.patterns.Patterns.transfers.Goals as goal

pub index-requires : goal.index-requires
index-requires c =
    let plan = c.requires.0 in
    let there : c.in-Dealt.p < plan.parties = subst (Occurs plan) c.in-Dealt.is c.requires.2 in
    omega (arith, there, c.args.self.now.deals.ok.0, ap length c.requires.1.deals, length-listed plan.parties (deal_transfers plan))

pub returns-in-Dealt : goal.returns-in-Dealt
returns-in-Dealt c = λ plan h occurs.
    let there : c.in-Dealt.p < plan.parties = subst (Occurs plan) c.in-Dealt.is occurs in
    c.as_slice.ensures
    ∙ c.index.ensures
    ∙ ap (λ rows. slice_index_or rows c.in-Dealt.p c.index.result.now) h.deals
    ∙ listed_at plan.parties (deal_transfers plan) c.in-Dealt.p c.index.result.now there
    ∙ ap (transfers plan) (sym c.in-Dealt.is)
