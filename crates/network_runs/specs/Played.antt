-- The runs of all parties of a world, over pipes between them.
use Rattle.std.specs.Prelude.{◌≡◌, ◌≢◌, ℕ, ◌-◌, ◌<◌, nat_eq, ◌||◌, true, false, if◌then◌else◌, List, [], length, None, Some, Result, Ok, Err, IsOk}
use Rattle.list_laws.specs.Lists.{listed}
use Rattle.session_slots.specs.Sessions.{readers, output_wire}
use Rattle.plan_model.specs.Plans.{session, reads}
use Rattle.plan_model.specs.Messages.{messages}
use Rattle.plan_model.specs.Numbers.{message}
use Rattle.share_world.specs.Worlds.{World, plain, word}
use Rattle.share_world.specs.Laws.{IsWhole}
use Rattle.frame_code.specs.declared.framing.FrameForm.{FrameForm}
use Rattle.outer_io.specs.Inlet.{InletReading, shut_inlet}
use Rattle.outer_io.specs.Jobs.{SpawnerReading}
use Rattle.outer_io.specs.Links.{LinksReading}
use Rattle.outer_io.specs.Outlet.{OutletReading, shut_outlet}
use Rattle.node_talk.specs.declared.fault.NodeFault.{NodeFault}
use Rattle.node_talk.specs.Runs.{Results}
use Rattle.node_talk.specs.Talks.{messages_between, stream}
use Rattle.node_run.specs.NodeRuns as node_runs
use Rattle.node_run.specs.Remains.{party_at}
use Rattle.network_laws.specs.Networks.{Network, IsNetwork, IsPipe, IsRight, RanThrough, node}

-- a world, a digest and a form of frames; and of each party what its links and its spawner show before its run and
-- after it, and what it answered
pub record Played : Type 0 where
  pub world : World
  pub digest : List ℕ
  pub form : FrameForm
  pub before : ℕ → LinksReading
  pub after : ℕ → LinksReading
  pub spawner : ℕ → SpawnerReading
  pub spawner_after : ℕ → SpawnerReading
  pub answers : ℕ → Result Results NodeFault

-- what a party has after its run: nothing, where it ended at a fault
abbrev pub results_of : Result Results NodeFault → Results
results_of (Ok r) = r
results_of (Err fault) = record { words = []; outputs = [] }

-- the network that they make
abbrev pub network_of : Played → Network
network_of x = record {
  world = x.world;
  digest = x.digest;
  form = x.form;
  before = x.before;
  after = x.after;
  results = λ p. results_of (x.answers p);
}

-- each party's run says what the run of a node says, and each pipe invents nothing
pub record ArePlayed (x : Played) : Type 0 where
  pub whole : IsWhole x.world
  pub digest : length x.digest ≡ 32
  pub runs : (p : ℕ) → p < x.world.plan.parties
      → node_runs.Runs (node (network_of x) p) (x.before p) (x.after p) (x.spawner p) (x.spawner_after p) (x.answers p)
  pub pipes : (p q : ℕ) → p < x.world.plan.parties → q < x.world.plan.parties → p ≢ q → IsPipe (network_of x) p q

-- who answered Ok ran to its end, got the world's words, and has the plain outputs
pub record EndedWell (net : Network) (p : ℕ) : Type 0 where
  pub through : RanThrough net p
  pub right : IsRight net p

-- they make a network, in which each party that answered Ok ended well
pub record MakeANetwork (x : Played) : Type 0 where
  pub network : IsNetwork (network_of x)
  pub right : (p : ℕ) → p < x.world.plan.parties → IsOk (x.answers p) → EndedWell (network_of x) p

abbrev pub RunsMakeANetwork : Type 0
RunsMakeANetwork = (x : Played) → ArePlayed x → MakeANetwork x

-- ---- runs in which nothing fails

-- all that p says to q in the world
abbrev pub words_between : World → List ℕ → FrameForm → ℕ → ℕ → List ℕ
words_between w digest form p q =
    stream (record { form = form; bits = w.plan.bits }) digest p q (word w) (messages_between w.plan p q)

-- an inlet with these bytes left, and an outlet that took these and has room for those
abbrev pub inlet_with : List ℕ → InletReading
inlet_with left = record { told = Some left; faults = 0; ended = false; steady = true; closed = false }

abbrev pub outlet_with : List ℕ → List ℕ → OutletReading
outlet_with took more =
    record {
      sink = record { told = Some took; faults = 0; steady = true; room = length more };
      holds = false;
      closed = false;
    }

-- the links of a party, by the peer at their other end
abbrev pub links_by : World → ℕ → (ℕ → InletReading) → (ℕ → OutletReading) → LinksReading
links_by w me inlet outlet = record {
  inlets = listed (w.plan.parties - 1) (λ k. inlet (party_at me k));
  outlets = listed (w.plan.parties - 1) (λ k. outlet (party_at me k));
}

-- the words that party p sends or gets, and the outputs that it reads
abbrev pub world_results : World → ℕ → Results
world_results w p = record {
  words =
      listed (length (messages w.plan)) (λ m.
      if nat_eq (message w.plan m).sender p || nat_eq (message w.plan m).receiver p
      then Some (word w (message w.plan m))
      else None);
  outputs =
      listed (length w.plan.sessions) (λ s.
      listed (length (readers (session w.plan s))) (λ o.
      if reads w.plan p s o then Some (plain w s (output_wire (session w.plan s) o)) else None));
}

-- a spawner that refuses nothing
abbrev pub idle : SpawnerReading
idle = record { refusals = 0; steady = true }

-- each party hears all that its peers say in the world, says all that it says there, and closes its links
abbrev pub whole_play : World → List ℕ → FrameForm → Played
whole_play w digest form = record {
  world = w;
  digest = digest;
  form = form;
  before =
      λ p. links_by w p
      (λ q. inlet_with (words_between w digest form q p))
      (λ q. outlet_with [] (words_between w digest form p q));
  after =
      λ p. links_by w p
      (λ q. shut_inlet (inlet_with []))
      (λ q. shut_outlet (outlet_with (words_between w digest form p q) []));
  spawner = λ p. idle;
  spawner_after = λ p. idle;
  answers = λ p. Ok (world_results w p);
}

-- every whole world is played so
abbrev pub WorldsArePlayed : Type 0
WorldsArePlayed =
    (w : World) (digest : List ℕ) (form : FrameForm) → IsWhole w → length digest ≡ 32
    → ArePlayed (whole_play w digest form)
