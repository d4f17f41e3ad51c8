-- A network: a node for each party of one world, and a pipe from each party to each other.
use Rattle.std.specs.Prelude.{◌≡◌, ◌≢◌, ◌⊎◌, ℕ, ◌<◌, List, ◌++◌, length, Some}
use Rattle.plan_model.specs.Plans.{Plan}
use Rattle.plan_model.specs.Messages.{messages}
use Rattle.plan_model.specs.Numbers.{message}
use Rattle.plan_model.specs.declared.key.Key.{Key}
use Rattle.share_world.specs.Worlds.{World, word, view}
use Rattle.share_world.specs.Laws.{IsWhole}
use Rattle.outer_io.specs.Links.{LinksReading}
use Rattle.outer_io.specs.Sink.{AddedPrefix}
use Rattle.node_talk.specs.declared.fault.NodeFault.{NodeFault}
use Rattle.frame_code.specs.declared.framing.FrameForm.{FrameForm}
use Rattle.node_talk.specs.Talks.{Node, talk}
use Rattle.node_talk.specs.PeerLinks.{in_from, out_to}
use Rattle.node_talk.specs.Runs.{Results, IsDone, TalkedThrough, BrokeOff, IsOfWorld, word_kept, kept_view}
use Rattle.party_set.specs.Parties.{party_mask}

-- a world, a digest and a form of frames; and of each party what its links show before its run and after it, and what
-- it has then
pub record Network : Type 0 where
  pub world : World
  pub digest : List ℕ
  pub form : FrameForm
  pub before : ℕ → LinksReading
  pub after : ℕ → LinksReading
  pub results : ℕ → Results

abbrev pub plan_of : Network → Plan
plan_of net = net.world.plan

-- party p
abbrev pub node : Network → ℕ → Node
node net p = record { world = net.world; me = p; digest = net.digest; form = net.form }

-- p's run ended well
pub record RanThrough (net : Network) (p : ℕ) : Type 0 where
  pub got : Key → ℕ
  pub done : IsDone (node net p) got (net.results p)
  pub talked : TalkedThrough (node net p) got (net.before p) (net.after p)

-- p's run ended at a fault
pub record RanShort (net : Network) (p : ℕ) : Type 0 where
  pub fault : NodeFault
  pub got : Key → ℕ
  pub broke : BrokeOff (node net p) got (net.before p) (net.after p) fault

-- a pipe may lose what comes last, and invents nothing: what q's inlet from p holds is a first part of what p's outlet
-- to q took
pub record IsPipe (net : Network) (p q : ℕ) : Type 0 where
  pub earlier : List ℕ
  pub held : List ℕ
  pub lost : List ℕ
  pub before : (out_to (node net p) (net.before p) q).told ≡ Some earlier
  pub after : (out_to (node net p) (net.after p) q).told ≡ Some (earlier ++ (held ++ lost))
  pub inlet : (in_from (node net q) (net.before q) p).told ≡ Some held

-- each party ran to its end or to a fault, over such pipes
pub record IsNetwork (net : Network) : Type 0 where
  pub whole : IsWhole net.world
  pub digest : length net.digest ≡ 32
  pub runs : (p : ℕ) → p < (plan_of net).parties → RanThrough net p ⊎ RanShort net p
  pub pipes : (p q : ℕ) → p < (plan_of net).parties → q < (plan_of net).parties → p ≢ q → IsPipe net p q

-- each party ran to its end
abbrev pub AllRanThrough : Network → Type 0
AllRanThrough net = (p : ℕ) → p < (plan_of net).parties → RanThrough net p

-- ---- what a network comes to

-- what each outlet took begins what its party says in the world
abbrev pub SaysWorld : Network → Type 0
SaysWorld net =
    (p q : ℕ) → p < (plan_of net).parties → q < (plan_of net).parties → p ≢ q
    → AddedPrefix (out_to (node net p) (net.before p) q).told (talk (node net p) q (word net.world))
    (out_to (node net p) (net.after p) q).told

-- p got the world's words, said all that it says in the world, kept its own view in it, and has the plain outputs
pub record IsRight (net : Network) (p : ℕ) : Type 0 where
  pub words : (m : ℕ) → m < length (messages (plan_of net)) → (message (plan_of net) m).receiver ≡ p
      → word_kept (net.results p) m ≡ Some (word net.world (message (plan_of net) m))
  pub own_view : kept_view (plan_of net) p (net.results p) ≡ view net.world (party_mask p)
  pub of_world : IsOfWorld (node net p) (net.results p) (net.before p) (net.after p)
