-- That what a node's files give is its part of a whole world, and that the nodes of a job make a network.
use Rattle.std.specs.Prelude.{◌≡◌, ◌≢◌, ℕ, ◌<◌, true, List, ◌∷◌, Option, Some, Result}
use Rattle.std.specs.List.{AllByRecursion}
use Rattle.list_laws.specs.Lists.{listed}
use Rattle.plan_model.specs.Plans.{Plan}
use Rattle.frame_code.specs.declared.framing.FrameForm.{FrameForm}
use Rattle.share_world.specs.Worlds.{World}
use Rattle.share_world.specs.Laws.{IsWhole}
use Rattle.job_file.specs.Forms.{JobForm}
use Rattle.job_run.specs.Parties.{world_of}
use Rattle.job_walk.specs.Names.{path_of, job_file}
use Rattle.job_walk.specs.Verdict.{accepted}
use Rattle.job_walk.specs.JobOf.{Contents, JobText}
use Rattle.job_walk.specs.NodeOf.{NodeForm, NodeAt, circuit_files}
use Rattle.outer_io.specs.Links.{LinksReading}
use Rattle.node_talk.specs.declared.fault.NodeFault.{NodeFault}
use Rattle.node_talk.specs.Runs.{Results}
use Rattle.node_talk.specs.Talks.{Node}
use Rattle.network_laws.specs.Networks.{IsPipe}
use Rattle.node_run.specs.Ready.{IsNodeOf, IsNodePart}
use Rattle.network_runs.specs.Played.{MakeANetwork, Played, network_of}
use Rattle.mpc_top.specs.NodeTalks.{Talks, offered, node_part}
use Rattle.mpc_top.specs.Outside.{Outside}
use Rattle.mpc_top.specs.WholeJobs.{WholeJob, JobAt}

-- ---- one node

-- the node of these files is a party of its plan, and what it gives fits the plan
abbrev pub NodesAreParts : Type 0
NodesAreParts =
    (files : Contents) (dir name : List ℕ) (node : NodeForm)
    → NodeAt files dir name (accepted node) → IsNodePart (node_part node)

-- the node of this form in a world
abbrev pub node_in : World → NodeForm → Node
node_in w node = record { world = w; me = node.me; digest = node.digest; form = node.form }

-- where a folder has the files of all parties, it is the party's part of the folder's job
abbrev pub NodesHaveTheirParts : Type 0
NodesHaveTheirParts =
    (files : Contents) (dir name : List ℕ) (asked : Option (List ℕ)) (node : NodeForm) (job : WholeJob)
    → NodeAt files dir name (accepted node) → JobAt files dir asked (accepted job)
    → IsNodeOf (node_part node) (node_in job.world node)

-- ---- all nodes of a job

-- two folders hold the same under each of these names
abbrev pub HoldSame : Contents → List ℕ → Contents → List ℕ → List (List ℕ) → Type 0
HoldSame files dir files' dir' = AllByRecursion (λ name. files (path_of dir name) ≡ files' (path_of dir' name))

-- of one plan, digest and form of frames, and each writes its own view or none does
abbrev pub AreAlike : NodeForm → NodeForm → Type 0
AreAlike node node' =
    (node'.plan ≡ node.plan) × (node'.digest ≡ node.digest) × (node'.form ≡ node.form) × (node'.view ≡ node.view)

-- folders that hold the same file of the job, and the same files of its circuits, give nodes that are alike
abbrev pub NodesAgree : Type 0
NodesAgree =
    (files files' : Contents) (dir dir' name name' : List ℕ) (job : JobForm) (node node' : NodeForm)
    → JobText true files dir (accepted job) → HoldSame files dir files' dir' (job_file ∷ circuit_files job)
    → NodeAt files dir name (accepted node) → NodeAt files' dir' name' (accepted node')
    → AreAlike node node'

-- each party of a plan read its own files, of a job with this plan, digest and form of frames
pub record AreNodesOf (plan : Plan) (digest : List ℕ) (form : FrameForm) (nodes : ℕ → NodeForm) : Type 0 where
  pub some : 0 < plan.parties
  pub read : (p : ℕ) → p < plan.parties
      → (files : Contents) × (dir : List ℕ) × (name : List ℕ) × NodeAt files dir name (accepted (nodes p))
  pub parties : (p : ℕ) → p < plan.parties → (nodes p).me ≡ p
  pub plans : (p : ℕ) → p < plan.parties → (nodes p).plan ≡ plan
  pub digests : (p : ℕ) → p < plan.parties → (nodes p).digest ≡ digest
  pub forms : (p : ℕ) → p < plan.parties → (nodes p).form ≡ form

-- the world of what all parties give
abbrev pub joint_world : Plan → (ℕ → NodeForm) → World
joint_world plan nodes = world_of plan (listed plan.parties (λ p. (nodes p).given))

-- their world is whole, and in it each party has its own part
pub record IsJoint (plan : Plan) (digest : List ℕ) (form : FrameForm) (nodes : ℕ → NodeForm) : Type 0 where
  pub whole : IsWhole (joint_world plan nodes)
  pub parts : (p : ℕ) → p < plan.parties
      → IsNodeOf (node_part (nodes p)) (record { world = joint_world plan nodes; me = p; digest = digest; form = form })

abbrev pub PartsMakeAWorld : Type 0
PartsMakeAWorld =
    (plan : Plan) (digest : List ℕ) (form : FrameForm) (nodes : ℕ → NodeForm)
    → AreNodesOf plan digest form nodes → IsJoint plan digest form nodes

-- ---- their network

-- What their outsides showed before and after: the links that each net offered and has back, and what each run came to.
abbrev pub played_by : Plan → List ℕ → FrameForm → (ℕ → NodeForm) → (ℕ → Outside) → (ℕ → Outside)
    → (ℕ → LinksReading) → (ℕ → Result Results NodeFault) → Played
played_by plan digest form nodes before after kept answers = record {
  world = joint_world plan nodes;
  digest = digest;
  form = form;
  before = λ p. offered (nodes p) (before p);
  after = kept;
  spawner = λ p. (before p).spawner;
  spawner_after = λ p. (after p).spawner;
  answers = answers;
}

-- each node of a job talked, its net has its links back, and each pipe invents nothing
pub record TalkTogether (plan : Plan) (digest : List ℕ) (form : FrameForm) (nodes : ℕ → NodeForm)
    (before after : ℕ → Outside) (kept : ℕ → LinksReading) (answers : ℕ → Result Results NodeFault) : Type 0 where
  pub are : AreNodesOf plan digest form nodes
  pub talks : (p : ℕ) → p < plan.parties → Talks (nodes p) (before p) (after p) (answers p)
  pub links : (p : ℕ) → p < plan.parties → (after p).net.kept ≡ Some (kept p)
  pub pipes : (p q : ℕ) → p < plan.parties → q < plan.parties → p ≢ q
      → IsPipe (network_of (played_by plan digest form nodes before after kept answers)) p q

-- they make a network, in which each party that ended well is right
abbrev pub TalksMakeANetwork : Type 0
TalksMakeANetwork =
    (plan : Plan) (digest : List ℕ) (form : FrameForm) (nodes : ℕ → NodeForm) (before after : ℕ → Outside)
    (kept : ℕ → LinksReading) (answers : ℕ → Result Results NodeFault)
    → TalkTogether plan digest form nodes before after kept answers
    → MakeANetwork (played_by plan digest form nodes before after kept answers)
