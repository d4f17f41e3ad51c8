-- What the wires of a group's members carry, and a simulator of it.
use Rattle.std.specs.Prelude.{◌≡◌, ℕ, ◌<◌, nat_eq, Bool, true, not, ◌&&◌, ◌||◌, List, [], ◌∷◌, count_by}
use Rattle.list_laws.specs.Lists.{joined, only_if}
use Rattle.party_set.specs.Parties.{has_party}
use Rattle.maximal_groups.specs.Families.{LiesWithin}
use Rattle.plan_model.specs.declared.key.Key.{Key}
use Rattle.plan_model.specs.Plans.{Plan, structure}
use Rattle.frame_code.specs.declared.framing.FrameForm.{FrameForm}
use Rattle.share_world.specs.Worlds.{World, view}
use Rattle.share_world.specs.Laws.{IsWhole}
use Rattle.tape_map.specs.TapeMaps.{with_tapes}
use Rattle.view_counts.specs.Counts.{choices}
use Rattle.view_counts.specs.Laws.{IsChoice}
use Rattle.view_counts.specs.Simulators.{known, simulated_ways}
use Rattle.outer_io.specs.Sink.{added}
use Rattle.node_talk.specs.PeerLinks.{out_to}
use Rattle.network_laws.specs.Networks.{Network, plan_of, node, IsNetwork, AllRanThrough}
use Rattle.network_laws.specs.Views.{on_wire, framing_of}

-- the pipe from p to q is one of a member
abbrev pub is_wire : ℕ → ℕ → ℕ → Bool
is_wire group p q = not (nat_eq p q) && (has_party group p || has_party group q)

-- one text for each wire of the members, by sender and receiver
abbrev pub by_wires : Plan → ℕ → (ℕ → ℕ → List ℕ) → List (List ℕ)
by_wires plan group text =
    joined plan.parties (λ p. joined plan.parties (λ q. only_if (is_wire group p q) (text p q ∷ [])))

-- what a view puts on them
abbrev pub wires_of : Plan → FrameForm → List ℕ → ℕ → List (Key × ℕ) → List (List ℕ)
wires_of plan form digest group seen =
    by_wires plan group (λ p q. on_wire (record { form = form; bits = plan.bits }) digest p q seen)

-- these texts went over the wires: each outlet took its text
pub record Carries (net : Network) (group : ℕ) (text : ℕ → ℕ → List ℕ) : Type 0 where
  pub took : (p q : ℕ) → p < (plan_of net).parties → q < (plan_of net).parties → is_wire group p q ≡ true
      → (out_to (node net p) (net.after p) q).told ≡ added (out_to (node net p) (net.before p) q).told (text p q)

-- over the wires went what the view puts there
abbrev pub CarriesTheView : Network → ℕ → Type 0
CarriesTheView net group = Carries net group (λ p q. on_wire (framing_of net) net.digest p q (view net.world group))

-- a network for each choice of the others' tapes, of the same inputs, digest and form of frames, in which all ran to
-- their end
pub record AreNetworksOf (w : World) (form : FrameForm) (digest : List ℕ) (group : ℕ) (nets : List (List ℕ) → Network)
    (texts : List (List ℕ) → ℕ → ℕ → List ℕ) : Type 0 where
  pub worlds : (tapes : List (List ℕ)) → IsChoice w group tapes → (nets tapes).world ≡ with_tapes w tapes
  pub forms : (tapes : List (List ℕ)) → IsChoice w group tapes → (nets tapes).form ≡ form
  pub digests : (tapes : List (List ℕ)) → IsChoice w group tapes → (nets tapes).digest ≡ digest
  pub networks : (tapes : List (List ℕ)) → IsChoice w group tapes → IsNetwork (nets tapes)
  pub ended : (tapes : List (List ℕ)) → IsChoice w group tapes → AllRanThrough (nets tapes)
  pub carried : (tapes : List (List ℕ)) → IsChoice w group tapes → Carries (nets tapes) group (texts tapes)

-- What was carried passes each test for as many choices as what the simulator's view puts on the wires.
abbrev pub WiresAreSimulated : Type 0
WiresAreSimulated =
    (w : World) (form : FrameForm) (digest : List ℕ) (group : ℕ) (nets : List (List ℕ) → Network)
    (texts : List (List ℕ) → ℕ → ℕ → List ℕ)
    → IsWhole w → LiesWithin (structure w.plan) group → AreNetworksOf w form digest group nets texts
    → (test : List (List ℕ) → Bool)
    → count_by (λ tapes. test (by_wires w.plan group (texts tapes))) (choices w.plan group w.tapes)
    ≡ simulated_ways w.plan group (known w group) (λ seen. test (wires_of w.plan form digest group seen))
