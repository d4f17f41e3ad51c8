-- A talk over a steady net in which all is heard comes to its end.
use Rattle.std.proofs.Common.{◌≡◌, ◌<◌, ℕ, Bool, true, false, List, length, get_or, None, Some, Err, refl, sym, ap, ◌∙◌, arith}
use Rattle.std.specs.Prelude.{IsTrue}
use Rattle.std.specs.List.{list_all}
use Rattle.std.proofs.lemmas.Bool.{cases_lt, and_parts, false≢true}
use Rattle.std.proofs.lemmas.List.{get_or_past}
use Rattle.std.proofs.lemmas.List.Folds.{list_all_at}
use mathlib.Core.Logic.{inl, inr}
use Rattle.outer_io.specs.Count.{Rose}
use Rattle.outer_io.specs.Inlet.{InletReading}
use Rattle.outer_io.specs.Outlet.{OutletReading}
use Rattle.outer_io.specs.Links.{LinksReading, is_fresh_inlet, is_fresh_outlet}
use Rattle.node_talk.specs.declared.fault.NodeFault.{NodeFault}
use Rattle.node_talk.specs.Talks.{Node, IsPeer}
use Rattle.node_talk.specs.PeerLinks.{place_among, no_inlet, no_outlet, in_from, out_to}
use Rattle.node_talk.specs.Runs.{HearsAll}
use Rattle.node_run.proofs.ReaderRuns.{none_left}
use Rattle.job_walk.specs.NodeOf.{NodeForm}
use Rattle.mpc_top.specs.Outside.{Outside}
use Rattle.mpc_top.specs.NodeTalks.{offered, Talks, LetsTalk}

unless_false : (b : Bool) → (b ≡ false → ⊥) → IsTrue b
unless_false true never = refl
unless_false false never = absurd (never refl)

-- what holds of all holds of each
at_each : {A : Type 0} (p : A → Bool) (xs : List A) (k : ℕ) (d : A) → k < length xs → IsTrue (list_all p xs) → IsTrue (p (get_or xs k d))
at_each p xs k d l all = unless_false (p (get_or xs k d)) (λ no. false≢true (sym (list_all_at p xs k d l no) ∙ all))

-- a count that is still 0 did not rise
not_risen : (faults faults' : ℕ) → faults ≡ 0 → faults' ≡ faults → Rose faults faults' → ⊥
not_risen faults faults' none same rose = absurd (omega (arith, none, same, rose))

module _ (job : NodeForm) (before after : Outside) (fault : NodeFault) (t : Talks job before after (Err fault)) (lets : LetsTalk job before) where
  abbrev links : LinksReading
  links = offered job before

  abbrev n : Node
  n = t.someone.0

  hears : HearsAll n links
  hears = lets.hears n t.someone.1

  -- each peer has its place
  placed : (q : ℕ) → IsPeer n q → place_among n.me q < length links.inlets
  placed q peer = elim (cases_lt (place_among n.me q) (length links.inlets)) [
    | inl l ↦ l
    | inr past ↦ (
        let held = (hears q peer).2 in
        let none : in_from n links q ≡ no_inlet = get_or_past links.inlets (place_among n.me q) no_inlet past in
        let f : None ≡ Some (hears q peer).0 = sym (ap (λ (i : InletReading). i.told) none) ∙ held in absurd (cc)
        )
  ]

  placed_out : (q : ℕ) → IsPeer n q → place_among n.me q < length links.outlets
  placed_out q peer = let l = placed q peer in omega (arith, l, t.peers.inlets, t.peers.outlets)

  steady_parts : IsTrue (list_all (λ (i : InletReading). i.steady) links.inlets) × IsTrue (list_all (λ (o : OutletReading). o.sink.steady) links.outlets)
  steady_parts = and_parts _ _ (t.steady lets.net)

  fresh_parts : IsTrue (list_all is_fresh_inlet links.inlets) × IsTrue (list_all is_fresh_outlet links.outlets)
  fresh_parts = and_parts _ _ t.fresh

  quiet_inlet : (q : ℕ) → IsPeer n q → Rose (in_from n links q).faults (in_from n t.kept q).faults → ⊥
  quiet_inlet q peer =
      let l = placed q peer in
      let fresh = and_parts _ _ (at_each is_fresh_inlet links.inlets (place_among n.me q) no_inlet l fresh_parts.0) in
      let steady = at_each (λ (i : InletReading). i.steady) links.inlets (place_among n.me q) no_inlet l steady_parts.0 in
      not_risen _ _ (none_left _ fresh.0) (((t.run n t.someone.1).steady.inlets q peer).steady steady)

  quiet_outlet : (q : ℕ) → IsPeer n q → Rose (out_to n links q).faults (out_to n t.kept q).faults → ⊥
  quiet_outlet q peer =
      let l = placed_out q peer in
      let fresh = and_parts _ _ (at_each is_fresh_outlet links.outlets (place_among n.me q) no_outlet l fresh_parts.1) in
      let steady = at_each (λ (o : OutletReading). o.sink.steady) links.outlets (place_among n.me q) no_outlet l steady_parts.1 in
      not_risen _ _ (none_left _ fresh.0) (((t.run n t.someone.1).steady.outlets q peer).room steady (lets.room n t.someone.1 q peer))

  quiet_spawner : Rose before.spawner.refusals after.spawner.refusals → ⊥
  quiet_spawner rose =
      let same = ((t.run n t.someone.1).steady.spawner_stays.steady lets.spawner).1 in
      absurd (omega (arith, rose, same, lets.few))

  -- so it doesn't end with a fault
  pub steady_talk : ⊥
  steady_talk = false≢true ((t.run n t.someone.1).completes hears (λ q peer. (quiet_inlet q peer, quiet_outlet q peer)) quiet_spawner)
