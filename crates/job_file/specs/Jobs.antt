-- A job as the code keeps it.
use Rattle.std.specs.Prelude.{◌≡◌, ℕ, ◌<◌, ◌≤◌, All, List, length, map, slice_index_or}
use Rattle.party_names.specs.Names.{AreNames}
use Rattle.party_set.specs.Parties.{Members}
use Rattle.job_file.specs.declared.job.Job.{Job}
use Rattle.job_file.specs.declared.job.JobSession.{JobSession}
use Rattle.job_file.specs.declared.job.Adversary.{Adversary}
use Rattle.job_file.specs.declared.job.Adversary.TheVariants.{Formula, Tolerated}
use Rattle.job_file.specs.Owners.{IsOwner}
use Rattle.job_file.specs.Forms.{JobForm, SessionForm, AdversaryForm, by_formula, by_list}
use Rattle.job_limits.specs.declared.limits.TheConstants.{MOST_SESSIONS}

abbrev pub session_view : JobSession → SessionForm
session_view session = record {
  circuit = session.circuit;
  layout = session.layout;
  products = session.products;
  layered_gates = session.layered_gates;
  owners = session.owners.items;
  readers = map (λ (group : Members). group.mask) session.readers.items;
}

abbrev pub adversary_view : Adversary → AdversaryForm
adversary_view (Formula text) = by_formula text
adversary_view (Tolerated groups) = by_list (map (λ (group : Members). group.mask) groups.items)

abbrev pub job_view : Job → JobForm
job_view job = record {
  bits = job.ring;
  names = job.names;
  adversary = adversary_view job.adversary;
  hosts = job.hosts;
  port = job.port;
  short_frames = job.short_frames;
  own_views = job.own_views;
  sessions = map session_view job.sessions.items;
}

-- the session of this number among `parties` parties: each owner is one of them or of an earlier session, and each
-- reader group has as many
pub record IsSession (parties : ℕ) (number : ℕ) (session : JobSession) : Type 0 where
  pub owners : All (IsOwner parties number) session.owners.items
  pub readers : All (λ (group : Members). group.parties ≡ parties) session.readers.items

-- such sessions, numbered from 0
abbrev pub AreSessions : ℕ → List JobSession → Type 0
AreSessions parties sessions =
    (s : ℕ) (d : JobSession) → s < length sessions → IsSession parties s (slice_index_or sessions s d)

-- the listed groups, if any, are of `parties` parties
abbrev pub HasParties : ℕ → Adversary → Type 0
HasParties parties (Formula text) = Unit {0}
HasParties parties (Tolerated groups) =
    All (λ (group : Members). group.parties ≡ parties) groups.items

pub record IsJob (job : Job) : Type 0 where
  pub some_bits : 0 < job.ring
  pub few_bits : job.ring ≤ 64
  pub names : AreNames job.names
  pub adversary : HasParties (length job.names) job.adversary
  pub some_sessions : 1 ≤ length job.sessions.items
  pub few_sessions : length job.sessions.items ≤ MOST_SESSIONS
  pub sessions : AreSessions (length job.names) job.sessions.items
