use Rattle.std.proofs.Common.{◌≡◌, ◌+◌, length, ap, ◌∙◌, arith}
use Rattle.std.specs.Prelude.{slice_index}
use Rattle.list_laws.proofs.JoinedLists.{length-listed, listed_at}
use Rattle.plan_model.specs.Plans.{slots}
use Rattle.plan_model.specs.Firsts.{first, session_starts, starts_of}
use Rattle.plan_model.proofs.SlotMessages.{first_within}
use Rattle.plan_model.proofs.GrownLists.{row_is}
use Rattle.job_plan.proofs.plan.Plan.first.Goals as goal

pub index-requires : goal.index-requires
index-requires c =
    let plan = c.args.self.now in
    let begin : c.self.inside.starts.items ≡ starts_of plan = c.self.invariant.begin ∙ ap starts_of c.self.view_is in
    omega (arith, c.self.inside.starts.ok.0, ap length begin, length-listed (length plan.sessions) (session_starts plan))

pub at-requires : goal.at-requires
at-requires c =
    let plan = c.args.self.now in
    let begin : c.self.inside.starts.items ≡ starts_of plan = c.self.invariant.begin ∙ ap starts_of c.self.view_is in
    let row = row_is c.self.inside.starts.items (length plan.sessions) (session_starts plan) c.args.s c.index.result.now begin c.requires.session c.index.ensures in
    omega (arith, ap length row, length-listed (slots plan c.args.s + 1) (first plan c.args.s))

pub returns : goal.returns
returns c =
    let plan = c.args.self.now in
    let begin : c.self.inside.starts.items ≡ starts_of plan = c.self.invariant.begin ∙ ap starts_of c.self.view_is in
    let row = row_is c.self.inside.starts.items (length plan.sessions) (session_starts plan) c.args.s c.index.result.now begin c.requires.session c.index.ensures in
    let is : c.at.result ≡ first plan c.args.s c.args.k = c.at.ensures ∙ ap (λ xs. slice_index xs c.args.k) row ∙ listed_at (slots plan c.args.s + 1) (first plan c.args.s) c.args.k 0 (omega arith) in
    let within = first_within plan c.args.s c.args.k c.requires.session c.requires.slot in
    record { is = is; within = omega arith }
