-- What the talk of a node with the other parties comes to.
use Rattle.std.specs.Prelude.{◌≡◌, ℕ, ◌-◌, ◌<◌, ◌≤◌, IsTrue, List, length, Result, Some}
use Rattle.plan_model.specs.declared.key.Key.{Key}
use Rattle.outer_io.specs.Count.{Rose, last_count}
use Rattle.outer_io.specs.Links.{LinksReading, HasPeers, Meeting, are_fresh, are_steady}
use Rattle.node_talk.specs.declared.fault.NodeFault.{NodeFault}
use Rattle.node_talk.specs.PeerLinks.{out_to}
use Rattle.node_talk.specs.Runs.{Results, HearsAll, NoneRose, IsDone}
use Rattle.node_talk.specs.Talks.{Node, IsPeer}
use Rattle.node_run.specs.NodeRuns as node_runs
use Rattle.node_run.specs.Progress.{talk_bytes}
use Rattle.node_run.specs.Ready.{NodePart, IsNodeOf}
use Rattle.node_text.specs.NodeText.{node_text}
use Rattle.job_walk.specs.NodeOf.{NodeForm}
use Rattle.mpc_top.specs.Outside.{Outside}

-- what the party runs with
abbrev pub node_part : NodeForm → NodePart
node_part job = record { plan = job.plan; me = job.me; given = job.given; digest = job.digest; form = job.form }

-- what it asks of the net
abbrev pub meeting_of : NodeForm → Meeting
meeting_of job =
    record { hosts = job.hosts; port = job.port; me = job.me; parties = job.plan.parties }

-- the links that the net offers to it
abbrev pub offered : NodeForm → Outside → LinksReading
offered job outside = outside.net.offers (job.plan.parties - 1)

-- the lines of what it read, and its own view, if the nodes of its job write theirs
abbrev pub lines_of : NodeForm → Results → List ℕ
lines_of job results = node_text job.names job.numeric job.plan job.me job.view results

-- The net gave a fresh link to each peer, and steady ones where it is steady. Over them the run of each node with this
-- part, and there is one, comes to the result, and the net has them back.
pub record Talks (job : NodeForm) (before after : Outside) (result : Result Results NodeFault) : Type 0 where
  pub kept : LinksReading
  pub has_back : after.net.kept ≡ Some kept
  pub quiet : after.net.faults ≡ before.net.faults
  pub peers : HasPeers (job.plan.parties - 1) (offered job before)
  pub steady : IsTrue before.net.steady → IsTrue (are_steady (offered job before))
  pub fresh : IsTrue (are_fresh (offered job before))
  pub someone : (n : Node) × IsNodeOf (node_part job) n
  pub run : (n : Node) → IsNodeOf (node_part job) n
      → node_runs.Runs n (offered job before) kept before.spawner after.spawner result

-- The net failed and gave no links, as a steady net does at no meeting that it expects. It has the links that it had,
-- and no reader was started.
pub record MeetsNobody (job : NodeForm) (before after : Outside) : Type 0 where
  pub rose : Rose before.net.faults after.net.faults
  pub unexpected : IsTrue before.net.steady → before.net.expects ≡ Some (meeting_of job) → ⊥
  pub same_kept : after.net.kept ≡ before.net.kept
  pub same_spawner : after.spawner ≡ before.spawner

-- ---- when nothing stops a talk

-- no count of the net, of its links or of the spawner rose, and each inlet holds all that is expected of its peer
pub record HearsAllQuietly (job : NodeForm) (before after : Outside) : Type 0 where
  pub net : ¬ Rose before.net.faults after.net.faults
  pub spawner : ¬ Rose before.spawner.refusals after.spawner.refusals
  pub links : (kept : LinksReading) → after.net.kept ≡ Some kept → (n : Node) → IsNodeOf (node_part job) n
      → NoneRose n (offered job before) kept
  pub hears : (n : Node) → IsNodeOf (node_part job) n → HearsAll n (offered job before)

-- The net is steady and expects this meeting, the spawner is steady and can count one more refusal, each inlet holds
-- all that is expected of its peer, each outlet has room for the talk, and `out` for the lines of what is read.
pub record LetsTalk (job : NodeForm) (before : Outside) : Type 0 where
  pub net : IsTrue before.net.steady
  pub expects : before.net.expects ≡ Some (meeting_of job)
  pub spawner : IsTrue before.spawner.steady
  pub few : before.spawner.refusals < last_count
  pub hears : (n : Node) → IsNodeOf (node_part job) n → HearsAll n (offered job before)
  pub room : (n : Node) → IsNodeOf (node_part job) n → (q : ℕ) → IsPeer n q
      → talk_bytes n q ≤ (out_to n (offered job before) q).room
  pub lines : (n : Node) (got : Key → ℕ) (results : Results) → IsNodeOf (node_part job) n → IsDone n got results
      → length (lines_of job results) ≤ before.out.room
