-- What a group of parties sees of a network.
use Rattle.std.specs.Prelude.{◌≡◌, ◌≢◌, ℕ, ◌<◌, true, List, ◌++◌, filter, Some}
use Rattle.std.specs.List.{flat_map}
use Rattle.party_set.specs.Parties.{has_party}
use Rattle.plan_model.specs.declared.key.Key.{Key}
use Rattle.share_world.specs.Worlds.{view}
use Rattle.outer_io.specs.Inlet.{ahead}
use Rattle.outer_io.specs.Sink.{added, AddedPrefix}
use Rattle.frame_code.specs.declared.framing.Framing.{Framing}
use Rattle.frame_code.specs.Frames.{hello, frame}
use Rattle.node_talk.specs.Talks.{goes, Begins}
use Rattle.node_talk.specs.PeerLinks.{in_from, out_to}
use Rattle.network_laws.specs.Networks.{Network, plan_of, node}

-- what goes from p to q, in the words of a view: a hello, and the frame of each message of theirs
abbrev pub on_wire : Framing → List ℕ → ℕ → ℕ → List (Key × ℕ) → List ℕ
on_wire f digest p q seen =
    hello p q digest ++ flat_map (λ (s : Key × ℕ). frame f s.0 s.1) (filter (λ (s : Key × ℕ). goes p q s.0) seen)

-- how messages are framed in a network
abbrev pub framing_of : Network → Framing
framing_of net = record { form = net.form; bits = net.world.plan.bits }

-- on each wire of a member went what its group's view holds of it, and nothing else
pub record IsSeen (net : Network) (group : ℕ) : Type 0 where
  pub said : (p q : ℕ) → p < (plan_of net).parties → q < (plan_of net).parties → p ≢ q
      → has_party group p ≡ true
      → (out_to (node net p) (net.after p) q).told
      ≡ added (out_to (node net p) (net.before p) q).told
      (on_wire (framing_of net) net.digest p q (view net.world group))
  pub heard : (p q : ℕ) → p < (plan_of net).parties → q < (plan_of net).parties → p ≢ q
      → has_party group q ≡ true
      → (in_from (node net q) (net.before q) p).told
      ≡ ahead (on_wire (framing_of net) net.digest p q (view net.world group))
      (in_from (node net q) (net.after q) p).told

-- whatever broke: each outlet of a member took, and each inlet of a member held, a first part of what its group's view
-- holds of that wire
pub record SeesNoMore (net : Network) (group : ℕ) : Type 0 where
  pub said : (p q : ℕ) → p < (plan_of net).parties → q < (plan_of net).parties → p ≢ q
      → has_party group p ≡ true
      → AddedPrefix (out_to (node net p) (net.before p) q).told
      (on_wire (framing_of net) net.digest p q (view net.world group))
      (out_to (node net p) (net.after p) q).told
  pub held : (p q : ℕ) → p < (plan_of net).parties → q < (plan_of net).parties → p ≢ q
      → has_party group q ≡ true
      → (bytes : List ℕ) × ((in_from (node net q) (net.before q) p).told ≡ Some bytes)
      × Begins (on_wire (framing_of net) net.digest p q (view net.world group)) bytes
