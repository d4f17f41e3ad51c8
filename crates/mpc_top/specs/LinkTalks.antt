-- What a talk over links comes to, once the net gave them, and what is written of it.
use Rattle.std.specs.Prelude.{◌≡◌, ℕ, Bool, List, length, Result, Ok, Err, Some}
use Rattle.outer_io.specs.Jobs.{SpawnerReading}
use Rattle.outer_io.specs.Links.{LinksReading, NetReading}
use Rattle.outer_io.specs.Sink.{SinkReading, Writes, FailsToWrite}
use Rattle.plan_model.specs.Plans.{Plan}
use Rattle.plan_model.specs.Messages.{messages}
use Rattle.node_talk.specs.declared.fault.NodeFault.{NodeFault}
use Rattle.node_talk.specs.Runs.{Results}
use Rattle.node_talk.specs.Talks.{Node}
use Rattle.node_run.specs.NodeRuns as node_runs
use Rattle.node_run.specs.Ready.{NodePart, IsNodeOf}
use Rattle.node_text.specs.NodeText.{node_text}
use Rattle.job_walk.specs.declared.stop.Stop.{Stop}
use Rattle.job_walk.specs.declared.stop.Stop.TheVariants.{Out, Peer}

-- outputs for each session, and a place for the word of each message
pub record HasCountsOf (plan : Plan) (results : Results) : Type 0 where
  pub sessions : length results.outputs ≡ length plan.sessions
  pub messages : length results.words ≡ length (messages plan)

-- The run of each node with this part, and there is one, came to the outcome over these links, and the net has them
-- back.
pub record TalkedOver (part : NodePart) (links : LinksReading) (net net' : NetReading)
    (spawner spawner' : SpawnerReading) (outcome : Result Results NodeFault) : Type 0 where
  pub kept : LinksReading
  pub has_back : net' ≡ record net { kept = Some kept }
  pub someone : (n : Node) × IsNodeOf part n
  pub run : (n : Node) → IsNodeOf part n → node_runs.Runs n links kept spawner spawner' outcome

-- The lines of party `me` were written, or `out` failed to take them; where the talk ended with a fault, nothing was
-- written.
abbrev pub Written : List (List ℕ) → List Bool → Plan → ℕ → Bool → Result Results NodeFault → SinkReading
    → SinkReading → Result Unit Stop → Type 0
Written names numeric plan me view (Ok results) out out' (Ok _) =
    Writes (node_text names numeric plan me view results) out out' (Ok tt)
Written names numeric plan me view (Ok results) out out' (Err stop) =
    (stop ≡ Out) × FailsToWrite (node_text names numeric plan me view results) out out'
Written names numeric plan me view (Err fault) out out' (Ok _) = ⊥
Written names numeric plan me view (Err fault) out out' (Err stop) = (stop ≡ Peer names fault) × (out' ≡ out)
