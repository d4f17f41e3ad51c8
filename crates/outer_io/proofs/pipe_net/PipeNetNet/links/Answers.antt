use Rattle.std.proofs.Common.{◌≡◌, rules, arith, refl, ap, sym, ◌∙◌, Some}
use Rattle.std.specs.Option.{option_map}
use Rattle.std.proofs.lemmas.Bool.{false≢true}
use Rattle.outer_io.specs.Links.{are_steady}
use Rattle.outer_io.specs.PipeNets.{offered, meeting_of}
use Rattle.outer_io.proofs.PastCalls.{all_past-coming}
use Rattle.outer_io.proofs.NetRefusals.{first_of_both, second_of_both, still_steady, made_for, given_away, refused}
use Rattle.outer_io.proofs.pipe_net.PipeNetNet.links.Goals as goal

pub returns-then-contains : goal.returns-then-contains
returns-then-contains c =
    refused _ _ _ _ c.saturating_add-self-then-contains.ensures (omega arith) refl refl refl
    (still_steady c.args.self.now.failing.items c.args.self.now.calls c.saturating_add-self.result _ _ (omega arith) c.saturating_add-self.ensures (λ links. links))
    (λ steady expected. all_past-coming _ _ _ _ c.deref.ensures.value c.contains.ensures.value c.if-contains.true (first_of_both _ _ steady))

pub returns-then-not-expects : goal.returns-then-not-expects
returns-then-not-expects c =
    refused _ _ _ _ c.saturating_add-self-then-not-expects.ensures (omega arith) refl refl refl
    (still_steady c.args.self.now.failing.items c.args.self.now.calls c.saturating_add-self.result _ _ (omega arith) c.saturating_add-self.ensures (λ links. links))
    (λ steady expected. false≢true (sym c.if-not-expects.true ∙ c.expects.ensures.1 (sym (made_for _ _ c.args.self.now.links expected))))

pub returns-in_default : goal.returns-in_default
returns-in_default c =
    let gone : c.take.new.self ≡ c.args.self.now.links = c.take.ensures.after ∙ sym c.in_default.is ∙ c.take.ensures.value in
    refused _ _ _ _ c.saturating_add-self-in_default.ensures (omega arith)
    (ap (option_map (λ links. meeting_of c.args.self.now)) gone)
    (ap (λ links peers. offered links) gone)
    refl
    (still_steady c.args.self.now.failing.items c.args.self.now.calls c.saturating_add-self.result _ _ (omega arith) c.saturating_add-self.ensures (rw gone (λ links. links)))
    (λ steady expected. given_away _ _ c.args.self.now.links (sym c.take.ensures.value ∙ c.in_default.is) expected)

pub returns : goal.returns
returns c =
    let given : c.args.self.now.links ≡ Some c.in-Some.links = sym c.take.ensures.value ∙ c.in-Some.is in
    let same = c.expects.ensures.0 c.if-not-expects.false in
    record {
      offered = sym (ap offered given);
      peers = rw (ap (λ m. m.parties) same) (c.args.self.now.peers c.in-Some.links given);
      fresh = c.args.self.now.fresh c.in-Some.links given;
      failed = search rules;
      quiet = λ not_failed. refl;
      faults_grow = omega arith;
      same_expects = tt;
      same_offers = tt;
      same_kept = refl;
      keeps_steady = still_steady c.args.self.now.failing.items c.args.self.now.calls c.saturating_add-self.result _ _ (omega arith) c.saturating_add-self.ensures (λ links. rw c.take.ensures.after refl);
      steady_links = λ steady. rw (← ap (λ links. are_steady (offered links)) given) (second_of_both _ _ steady);
      by_itself = λ is_steady expected failed. search rules;
      stranger = λ steady ok. ap (option_map (λ links. meeting_of c.args.self.now)) given ∙ ap Some (sym same);
    }
