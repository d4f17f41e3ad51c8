-- A talk over links, and what was written of it.
use Rattle.std.proofs.Common.{◌≡◌, ℕ, Bool, List, Result, Ok, Err, refl, ap, sym, ◌∙◌, subst, length}
use Rattle.std.specs.Prelude.{IfOk, IsErrAnd}
use Rattle.std.proofs.lemmas.Result.{err_from_is_err_and}
use Rattle.outer_io.specs.Jobs.{SpawnerReading}
use Rattle.outer_io.specs.Links.{LinksReading}
use Rattle.outer_io.specs.Sink.{SinkReading, Writes}
use Rattle.outer_io.specs.declared.sink.Failed.{Failed}
use Rattle.plan_model.specs.Plans.{Plan}
use Rattle.plan_model.specs.Messages.{messages}
use Rattle.plan_model.specs.declared.key.Key.{Key}
use Rattle.node_talk.specs.declared.fault.NodeFault.{NodeFault}
use Rattle.node_talk.specs.Runs.{Results, IsDone, TalkedThrough}
use Rattle.node_talk.specs.Talks.{Node}
use Rattle.node_run.specs.NodeRuns as node_runs
use Rattle.node_text.specs.NodeText.{node_text}
use Rattle.job_walk.specs.declared.stop.Stop.{Stop}
use Rattle.job_walk.specs.declared.stop.Stop.TheVariants.{Out, Peer}
use Rattle.mpc_top.specs.LinkTalks.{HasCountsOf, Written}

counted : (n : Node) (plan : Plan) → n.world.plan ≡ plan → (links kept : LinksReading) (outcome : Result Results NodeFault)
    → IfOk outcome (λ r. (got : Key → ℕ) × IsDone n got r × TalkedThrough n got links kept) → IfOk outcome (HasCountsOf plan)
counted n plan same links kept (Ok r) done = record {
  sessions = done.1.session_count ∙ ap (λ (p : Plan). length p.sessions) same;
  messages = done.1.message_count ∙ ap (λ (p : Plan). length (messages p)) same;
}
counted n plan same links kept (Err fault) done = tt

-- what a run comes to has the counts of its plan
pub has_counts : (n : Node) (plan : Plan) → n.world.plan ≡ plan → (links kept : LinksReading) (spawner spawner' : SpawnerReading) (outcome : Result Results NodeFault)
    → node_runs.Runs n links kept spawner spawner' outcome → IfOk outcome (HasCountsOf plan)
has_counts n plan same links kept spawner spawner' outcome run = counted n plan same links kept outcome run.done

module _ (names : List (List ℕ)) (numeric : List Bool) (plan : Plan) (me : ℕ) (view : Bool) (outcome : Result Results NodeFault) (out out' : SinkReading) where
  -- the talk ended with a fault
  pub broke : (fault : NodeFault) → outcome ≡ Err fault → out' ≡ out → Written names numeric plan me view outcome out out' (Err (Peer names fault))
  broke fault is same = subst (λ o. Written names numeric plan me view o out out' (Err (Peer names fault))) (sym is) (refl, same)

  module _ (results : Results) (is : outcome ≡ Ok results) where
    -- its lines were written
    pub written : (u : Unit {0}) → Writes (node_text names numeric plan me view results) out out' (Ok u) → Written names numeric plan me view outcome out out' (Ok u)
    written u w = subst (λ o. Written names numeric plan me view o out out' (Ok u)) (sym is) w

    -- `out` failed to take them
    pub cut : (failed : Failed) → Writes (node_text names numeric plan me view results) out out' (Err failed) → (result : Result Unit Stop) → IsErrAnd result (λ e. e ≡ Out)
        → Written names numeric plan me view outcome out out' result
    cut failed w result stops =
        let p = err_from_is_err_and result stops in
        subst (Written names numeric plan me view outcome out out') (sym p.1) (subst (λ o. Written names numeric plan me view o out out' (Err p.0)) (sym is) (p.2, (failed, w)))
