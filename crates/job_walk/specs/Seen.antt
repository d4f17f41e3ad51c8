-- What contracts see of what was read.
use Rattle.std.specs.Prelude.{ℕ, List, Option}
use Rattle.std.specs.Borrow.{Bor}
use Rattle.std.specs.Option.{option_map}
use Rattle.party_file.specs.Forms.{form_of}
use Rattle.job_file.specs.declared.job.Job.{Job}
use Rattle.job_walk.specs.declared.plan.Planned as code
use Rattle.job_walk.specs.declared.plan.PlanRest.{PlanRest}
use Rattle.job_walk.specs.declared.node.NodeRest.{NodeRest}
use Rattle.job_walk.specs.declared.node.NodeJob.{NodeJob}
use Rattle.job_walk.specs.JobOf.{Planned}
use Rattle.job_walk.specs.NodeOf.{NodeForm, frames_of}

abbrev pub planned_view : code.Planned → Planned
planned_view p = record { names = p.names; group = p.group; plan = p.plan; numeric = p.numeric.items }

-- a job, and what was read beside it
abbrev pub planned_with : Job → PlanRest → Planned
planned_with job rest =
    record { names = job.names; group = rest.group; plan = rest.plan; numeric = rest.numeric.items }

-- the bytes of a text, if there is one
abbrev pub text_view : Option (Bor (List ℕ)) → Option (List ℕ)
text_view text = option_map (λ bytes. bytes.now) text

abbrev pub node_view : NodeJob → NodeForm
node_view job = record {
  names = job.names;
  hosts = job.hosts;
  port = job.port;
  form = job.form;
  view = job.view;
  me = job.me;
  plan = job.plan;
  numeric = job.numeric.items;
  given = form_of job.given;
  digest = job.digest;
}

-- a job, and what its party read beside it
abbrev pub node_with : Job → NodeRest → NodeForm
node_with job rest = record {
  names = job.names;
  hosts = job.hosts;
  port = job.port;
  form = frames_of job.short_frames;
  view = job.own_views;
  me = rest.me;
  plan = rest.plan;
  numeric = rest.numeric.items;
  given = form_of rest.given;
  digest = rest.digest;
}
