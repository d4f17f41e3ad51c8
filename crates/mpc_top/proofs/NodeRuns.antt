-- A node that was read, and what its talk comes to.
use Rattle.std.proofs.Common.{◌≡◌, ℕ, ◌-◌, Bool, List, Result, Ok, Err, Some, refl, sym, ap, subst, ◌∙◌}
use Rattle.std.specs.Prelude.{IsErrOf, IsTrue}
use Rattle.std.proofs.lemmas.Bool.{false≢true}
use Rattle.outer_io.specs.Files.{FilesReading}
use Rattle.outer_io.specs.Jobs.{SpawnerReading}
use Rattle.outer_io.specs.Links.{LinksReading, HasPeers, Meeting, NetReading, Connects, are_fresh, are_steady}
use Rattle.outer_io.specs.Sink.{SinkReading, Writes}
use Rattle.outer_io.specs.declared.net.NetRefusal.{NetRefusal}
use Rattle.outer_io.specs.declared.net.NetRefusal.TheVariants as refusal
use Rattle.outer_io.specs.declared.sink.Failed.{Failed}
use Rattle.command_words.specs.Commands.{node}
use Rattle.node_talk.specs.declared.fault.NodeFault.{NodeFault}
use Rattle.job_walk.specs.declared.node.NodeJob.{NodeJob}
use Rattle.job_walk.specs.declared.stop.Stop.{Stop}
use Rattle.job_walk.specs.declared.stop.Stop.TheVariants.{Memory, Net, Out, Peer}
use Rattle.job_walk.specs.NodeOf.{NodeForm, NodeAt}
use Rattle.job_walk.specs.Reads.{ReadsAs}
use Rattle.job_walk.specs.Seen.{node_view}
use Rattle.job_walk.specs.FilesAsked.{AsksAll, AsksFirst}
use Rattle.job_walk.specs.JobReads.{node_asking}
use Rattle.job_walk.proofs.Steps.{reads_stop, reads_on, reads_end}
use Rattle.mpc_top.proofs.FilesRead.{first_of_all}
use Rattle.mpc_top.specs.Outside.{Outside, KeepsNet, KeepsSpawner}
use Rattle.mpc_top.specs.Due.{Due, talk, DueOf}
use Rattle.node_talk.specs.Talks.{Node}
use Rattle.node_talk.specs.Runs.{Results}
use Rattle.node_run.specs.NodeRuns as node_runs
use Rattle.std.specs.Global.{Vec}
use Rattle.node_run.specs.Ready.{NodePart, given_words, IsNodeOf}
use Rattle.mpc_top.specs.NodeTalks.{node_part, lines_of, Talks, HearsAllQuietly}
use Rattle.mpc_top.specs.LinkTalks.{Written, TalkedOver}
use Rattle.mpc_top.specs.Outcomes.{RunsWords}
use Rattle.mpc_top.proofs.Runs.{spawner_kept}

abbrev pub as_talk : NodeJob → Due
as_talk job = talk (node_view job)

module _ (dir name : List ℕ) (before after : FilesReading) {xs : List (List ℕ)} where
  -- the node could not be read
  pub node_stops : (stop : Stop) → ReadsAs {C = NodeJob} dir xs node_view (λ m. NodeAt m dir name) before after (Err stop) → ReadsAs dir xs as_talk (DueOf (node dir name)) before after (Err stop)
  unfolding DueOf
  node_stops stop r = reads_stop _ _ node_view as_talk before after stop r

  pub node_read : (job : NodeJob) → ReadsAs dir xs node_view (λ m. NodeAt m dir name) before after (Ok job) → ReadsAs dir xs as_talk (DueOf (node dir name)) before after (Ok job)
  unfolding DueOf
  node_read job r = reads_on _ _ node_view as_talk before after after job (Ok job) r (reads_end as_talk after job)

-- where no count rose and all is heard, no talk ends with a fault
pub quiet_talk : (job : NodeForm) (before after : Outside) (fault : NodeFault) → Talks job before after (Err fault) → HearsAllQuietly job before after → ⊥
quiet_talk job before after fault t q =
    let n = t.someone.0 in
    let of = t.someone.1 in
    false≢true ((t.run n of).completes (q.hears n of) (q.links t.kept t.has_back n of) q.spawner)

pub memory_is_no_fault : {Given : Type 0} (result : Result Given NetRefusal) (fault : NetRefusal) → result ≡ Err fault → fault ≡ refusal.Memory → result ≡ Err refusal.Failed → ⊥
memory_is_no_fault result fault is memory failed = cc

-- ---- the talk of a node that was read

module _ (dir name : List ℕ) (files files' : FilesReading) (job : NodeJob) {xs : List (List ℕ)} (read : ReadsAs dir xs node_view (λ m. NodeAt m dir name) files files' (Ok job)) (all : AsksAll (node_asking dir name) files files') (err err' : SinkReading) (parties : ℕ) (same : parties ≡ job.plan.parties) where
  abbrev form : NodeForm
  form = node_view job

  abbrev asked : Meeting
  asked = record { hosts = job.hosts; port = job.port; me = job.me; parties = parties }

  asks : AsksFirst (node_asking dir name) files files'
  asks = first_of_all (Some (node_asking dir name)) files files' all

  abbrev finds : ReadsAs dir xs as_talk (DueOf (node dir name)) files files' (Ok job)
  finds = node_read dir name files files' job read

  module _ {Given : Type 0} (shown : Given → LinksReading) (out : SinkReading) (net net' : NetReading) (spawner : SpawnerReading) where
    -- the net failed
    pub meets_nobody : (result : Result Given NetRefusal) → IsErrOf result refusal.Failed → Connects shown asked net net' result
        → RunsWords (Some (node dir name)) (record { files = files; out = out; err = err; net = net; spawner = spawner })
        (record { files = files'; out = out; err = err'; net = net'; spawner = spawner }) (Err Net)
    meets_nobody result failed c = record {
      ok = tt;
      hides = tt;
      stop = (
        node_view job,
        (finds.ok, (dir, name, refl), finds.quiet),
        record {
          rose = c.failed failed;
          unexpected = λ steady expects. c.by_itself steady (expects ∙ ap (λ n. Some (record { hosts = job.hosts; port = job.port; me = job.me; parties = n })) (sym same)) failed;
          same_kept = c.same_kept;
          same_spawner = refl;
        },
        refl,
      );
      asks = asks;
      asks_all = tt;
      keeps = finds.keeps;
      keeps_net = record { faults_grow = c.faults_grow; keeps_steady = c.keeps_steady };
      keeps_spawner = spawner_kept spawner;
    }

    -- there was no memory for the links
    pub meets_no_memory : (why : NetRefusal) → ¬ IsErrOf {T = Given} (Err why) refusal.Failed → Connects shown asked net net' (Err why)
        → RunsWords (Some (node dir name)) (record { files = files; out = out; err = err; net = net; spawner = spawner })
        (record { files = files'; out = out; err = err'; net = net'; spawner = spawner }) (Err Memory)
    meets_no_memory why not c = record {
      ok = tt;
      hides = tt;
      stop = (refl, record { files = finds.quiet; out = refl; net = c.quiet not; same_expects = c.same_expects; same_offers = c.same_offers; same_kept = c.same_kept; same_spawner = refl });
      asks = asks;
      asks_all = tt;
      keeps = finds.keeps;
      keeps_net = record { faults_grow = c.faults_grow; keeps_steady = c.keeps_steady };
      keeps_spawner = spawner_kept spawner;
    }

  module _ {Given : Type 0} (shown : Given → LinksReading) (links : Given) (net mid net' : NetReading) (spawner spawner' : SpawnerReading) (kept : LinksReading)
      (c : Connects shown asked net mid (Ok links)) (quiet : mid.faults ≡ net.faults) (back : net' ≡ record mid { kept = Some kept }) (result : Result Results NodeFault)
      (someone : (n : Node) × IsNodeOf (node_part form) n) (run : (n : Node) → IsNodeOf (node_part form) n → node_runs.Runs n (shown links) kept spawner spawner' result) (out out' : SinkReading) where
    abbrev at_start : Outside
    at_start = record { files = files; out = out; err = err; net = net; spawner = spawner }

    abbrev at_end : Outside
    at_end = record { files = files'; out = out'; err = err'; net = net'; spawner = spawner' }

    pub are_offered : shown links ≡ net.offers (job.plan.parties - 1)
    are_offered = c.offered ∙ ap (λ n. net.offers (n - 1)) same

    pub talks : Talks form at_start at_end result
    talks = record {
      kept = kept;
      has_back = ap (λ (n : NetReading). n.kept) back;
      quiet = ap (λ (n : NetReading). n.faults) back ∙ quiet;
      peers = subst (HasPeers (job.plan.parties - 1)) are_offered (subst (λ n. HasPeers (n - 1) (shown links)) same c.peers);
      steady = λ steady. subst (λ l. IsTrue (are_steady l)) are_offered (c.steady_links steady);
      fresh = subst (λ l. IsTrue (are_fresh l)) are_offered c.fresh;
      someone = someone;
      run = λ n of. subst (λ l. node_runs.Runs n l kept spawner spawner' result) are_offered (run n of);
    }

    pub net_keeps : KeepsNet net net'
    net_keeps = subst (KeepsNet net) (sym back) (record { faults_grow = c.faults_grow; keeps_steady = c.keeps_steady })

    pub spawner_keeps : KeepsSpawner spawner spawner'
    spawner_keeps = let stays = (run someone.0 someone.1).steady.spawner_stays in record { refusals_grow = stays.refusals_grow; keeps_steady = λ steady. (stays.steady steady).0 }

-- a talk that came to its end, and its lines were written, or not; or it broke off
module _ (dir name : List ℕ) (files files' : FilesReading) (job : NodeJob) {xs : List (List ℕ)} (read : ReadsAs dir xs node_view (λ m. NodeAt m dir name) files files' (Ok job)) (all : AsksAll (node_asking dir name) files files') (before after : Outside)
    (at_files : before.files ≡ files) (at_files' : after.files ≡ files') (net : KeepsNet before.net after.net) (spawner : KeepsSpawner before.spawner after.spawner) where
  all_found : AsksAll (node_asking dir name) before.files after.files
  all_found = subst (λ f. AsksAll (node_asking dir name) f after.files) (sym at_files) (subst (λ f. AsksAll (node_asking dir name) files f) (sym at_files') all)

  asks_found : AsksFirst (node_asking dir name) before.files after.files
  asks_found = first_of_all (Some (node_asking dir name)) before.files after.files all_found

  found : ReadsAs dir xs as_talk (DueOf (node dir name)) before.files after.files (Ok job)
  found = subst (λ f. ReadsAs dir xs as_talk (DueOf (node dir name)) f after.files (Ok job)) (sym at_files) (subst (λ f. ReadsAs dir xs as_talk (DueOf (node dir name)) files f (Ok job)) (sym at_files') (node_read dir name files files' job read))

  pub talk_done : (results : Results) (u : Unit {0}) → Talks (node_view job) before after (Ok results) → Writes (lines_of (node_view job) results) before.out after.out (Ok u) → RunsWords (Some (node dir name)) before after (Ok u)
  talk_done results u talks w = record { ok = (talk (node_view job), (found.ok, (dir, name, refl), found.quiet), (results, talks, w)); hides = tt; stop = tt; asks = asks_found; asks_all = all_found; keeps = found.keeps; keeps_net = net; keeps_spawner = spawner }

  pub talk_cut : (results : Results) (failed : Failed) → Talks (node_view job) before after (Ok results) → Writes (lines_of (node_view job) results) before.out after.out (Err failed) → RunsWords (Some (node dir name)) before after (Err Out)
  talk_cut results failed talks w = record { ok = tt; hides = tt; stop = (talk (node_view job), (found.ok, (dir, name, refl), found.quiet), (results, talks, (failed, w))); asks = asks_found; asks_all = tt; keeps = found.keeps; keeps_net = net; keeps_spawner = spawner }

  pub talk_broke : (fault : NodeFault) → Talks (node_view job) before after (Err fault) → after.out ≡ before.out → RunsWords (Some (node dir name)) before after (Err (Peer job.names fault))
  talk_broke fault talks out = record { ok = tt; hides = tt; stop = (node_view job, (found.ok, (dir, name, refl), found.quiet), refl, talks, out); asks = asks_found; asks_all = tt; keeps = found.keeps; keeps_net = net; keeps_spawner = spawner }

-- what is ready is the part of the node that was read
pub ready_part : (job : NodeJob) (ready : NodePart) (inputs : List (Vec ℕ)) → ready ≡ record { plan = job.plan; me = job.me; given = given_words inputs job.given.tapes.items; digest = job.digest; form = job.form }
    → inputs ≡ job.given.inputs.items → ready ≡ node_part (node_view job)
ready_part job ready inputs is same = is ∙ ap (λ (i : List (Vec ℕ)). record { plan = job.plan; me = job.me; given = given_words i job.given.tapes.items; digest = job.digest; form = job.form }) same

-- ---- the talk over the links that the net gave

module _ (dir name : List ℕ) (files files' : FilesReading) (job : NodeJob) {xs : List (List ℕ)} (read : ReadsAs dir xs node_view (λ m. NodeAt m dir name) files files' (Ok job)) (all : AsksAll (node_asking dir name) files files') (err err' : SinkReading) (parties : ℕ) (same : parties ≡ job.plan.parties)
    {Given : Type 0} (shown : Given → LinksReading) (links : Given) (net mid net' : NetReading) (spawner spawner' : SpawnerReading)
    (c : Connects shown (record { hosts = job.hosts; port = job.port; me = job.me; parties = parties }) net mid (Ok links)) (out out' : SinkReading) where
  abbrev before_talk : Outside
  before_talk = record { files = files; out = out; err = err; net = net; spawner = spawner }

  abbrev after_talk : Outside
  after_talk = record { files = files'; out = out'; err = err'; net = net'; spawner = spawner' }

  quiet_net : mid.faults ≡ net.faults
  quiet_net = c.quiet (λ failed. (cc))

  of_talk : (kept : LinksReading) (outcome : Result Results NodeFault) (result : Result Unit Stop) → net' ≡ record mid { kept = Some kept }
      → ((n : Node) × IsNodeOf (node_part (node_view job)) n) → ((n : Node) → IsNodeOf (node_part (node_view job)) n → node_runs.Runs n (shown links) kept spawner spawner' outcome)
      → Written job.names job.numeric.items job.plan job.me job.view outcome out out' result → RunsWords (Some (node dir name)) before_talk after_talk result
  of_talk kept (Ok results) (Ok u) back someone run written =
      talk_done dir name files files' job read all before_talk after_talk refl refl
      (net_keeps dir name files files' job read all err err' parties same shown links net mid net' spawner spawner' kept c quiet_net back (Ok results) someone run out out')
      (spawner_keeps dir name files files' job read all err err' parties same shown links net mid net' spawner spawner' kept c quiet_net back (Ok results) someone run out out')
      results u (talks dir name files files' job read all err err' parties same shown links net mid net' spawner spawner' kept c quiet_net back (Ok results) someone run out out') written
  of_talk kept (Ok results) (Err stop) back someone run written =
      subst (λ s. RunsWords (Some (node dir name)) before_talk after_talk (Err s)) (sym written.0)
      (talk_cut dir name files files' job read all before_talk after_talk refl refl
      (net_keeps dir name files files' job read all err err' parties same shown links net mid net' spawner spawner' kept c quiet_net back (Ok results) someone run out out')
      (spawner_keeps dir name files files' job read all err err' parties same shown links net mid net' spawner spawner' kept c quiet_net back (Ok results) someone run out out')
      results written.1.0 (talks dir name files files' job read all err err' parties same shown links net mid net' spawner spawner' kept c quiet_net back (Ok results) someone run out out') written.1.1)
  of_talk kept (Err fault) (Ok u) back someone run written = absurd written
  of_talk kept (Err fault) (Err stop) back someone run written =
      subst (λ s. RunsWords (Some (node dir name)) before_talk after_talk (Err s)) (sym written.0)
      (talk_broke dir name files files' job read all before_talk after_talk refl refl
      (net_keeps dir name files files' job read all err err' parties same shown links net mid net' spawner spawner' kept c quiet_net back (Err fault) someone run out out')
      (spawner_keeps dir name files files' job read all err err' parties same shown links net mid net' spawner spawner' kept c quiet_net back (Err fault) someone run out out')
      fault (talks dir name files files' job read all err err' parties same shown links net mid net' spawner spawner' kept c quiet_net back (Err fault) someone run out out') written.1)

  pub talked : (part : NodePart) → part ≡ node_part (node_view job) → (outcome : Result Results NodeFault) → TalkedOver part (shown links) mid net' spawner spawner' outcome
      → (numeric : List Bool) → numeric ≡ job.numeric.items → (result : Result Unit Stop) → Written job.names numeric job.plan job.me job.view outcome out out' result → RunsWords (Some (node dir name)) before_talk after_talk result
  talked part is outcome t numeric same result written =
      let own = subst (λ s. TalkedOver s (shown links) mid net' spawner spawner' outcome) is t in
      of_talk own.kept outcome result own.has_back own.someone own.run (subst (λ ns. Written job.names ns job.plan job.me job.view outcome out out' result) same written)
