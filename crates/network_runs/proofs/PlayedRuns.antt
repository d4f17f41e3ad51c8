-- The runs of all parties make a network.
use Rattle.std.proofs.Common.{ℕ, ◌<◌, ◌⊎◌, Result, Ok, Err, inl, inr, refl}
use Rattle.std.specs.Prelude.{IfOk, IfErr, IsOk}
use Rattle.plan_model.specs.declared.key.Key.{Key}
use Rattle.outer_io.specs.Links.{LinksReading}
use Rattle.node_talk.specs.declared.fault.NodeFault.{NodeFault}
use Rattle.node_talk.specs.Talks.{Node}
use Rattle.node_talk.specs.Runs.{BrokeOff, IsDone, Results, TalkedThrough}
use Rattle.network_laws.specs.Networks.{IsNetwork, RanShort, RanThrough, node}
use Rattle.network_laws.proofs.CutTalks.{is_right}
use Rattle.network_runs.specs.Played.{ArePlayed, Played, RunsMakeANetwork, network_of, results_of}

-- a run that answered Ok went through, and any other broke off
through : (n : Node) (before after : LinksReading) (result : Result Results NodeFault) → IfOk result (λ r. (got : Key → ℕ) × IsDone n got r × TalkedThrough n got before after) → IsOk result
    → (got : Key → ℕ) × IsDone n got (results_of result) × TalkedThrough n got before after
through n before after (Ok r) done is = done
through n before after (Err fault) done is = cc

short : (n : Node) (before after : LinksReading) (result : Result Results NodeFault) → IfErr result (λ fault. (got : Key → ℕ) × BrokeOff n got before after fault) → (IsOk result → ⊥) → (fault : NodeFault) × (got : Key → ℕ) × BrokeOff n got before after fault
short n before after (Ok r) broke not = absurd (not refl)
short n before after (Err fault) broke not = (fault, broke.0, broke.1)

ok_or_not : (result : Result Results NodeFault) → IsOk result ⊎ (IsOk result → ⊥)
ok_or_not (Ok r) = inl refl
ok_or_not (Err fault) = inr (λ e. cc)

module _ (x : Played) (are : ArePlayed x) where
  ran : (p : ℕ) → p < x.world.plan.parties → IsOk (x.answers p) → RanThrough (network_of x) p
  ran p l is =
      let t = through (node (network_of x) p) (x.before p) (x.after p) (x.answers p) (are.runs p l).done is in
      record { got = t.0; done = t.1; talked = t.2 }

  broke : (p : ℕ) → p < x.world.plan.parties → (IsOk (x.answers p) → ⊥) → RanShort (network_of x) p
  broke p l not = (let t = short (node (network_of x) p) (x.before p) (x.after p) (x.answers p) (are.runs p l).broke not in record { fault = t.0; got = t.1; broke = t.2 })

  network : IsNetwork (network_of x)
  network = record {
    whole = are.whole;
    digest = are.digest;
    runs = λ p l. elim (ok_or_not (x.answers p)) [ inl is ↦ inl (ran p l is) | inr not ↦ inr (broke p l not) ];
    pipes = are.pipes;
  }

pub runs_make_a_network : RunsMakeANetwork
runs_make_a_network x are = record {
  network = network x are;
  right = λ p l is. record { through = ran x are p l is; right = is_right (network_of x) (network x are) p l (ran x are p l is) };
}
