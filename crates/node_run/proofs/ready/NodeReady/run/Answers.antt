use Rattle.std.proofs.Common.{◌≡◌, ◌-◌, vec_len, length, drop, map, refl, sym, ap, ◌∙◌, subst, arith}
use Rattle.outer_io.specs.Inlet.{shut_inlet}
use Rattle.node_run.proofs.ReaderRuns.{whole_first}
use Rattle.outer_io.specs.Links.{LinksReading, HasPeers, links_reading}
use Rattle.node_run.specs.Progress.{Begin, ids_of}
use Rattle.node_run.specs.Ready.{NodePart, IsNodeOf}
use Rattle.node_talk.specs.Runs.{Results}
use Rattle.party_desk.specs.declared.desk.Desk.{Desk}
use Rattle.node_run.specs.Remains.{RemainsModel, Remained, fault_told, answer}
use Rattle.node_run.specs.NodeRuns.{Runs}
use Rattle.node_run.proofs.NodeParts.{some_node}
use Rattle.node_run.proofs.RunBegins.{is_mail_at, greeted_at, had_peers, may_run}
use Rattle.node_run.proofs.NodeRuns.{remained_runs, ungreeted_runs}
use Rattle.node_run.proofs.ready.NodeReady.run.Goals as goal

pub invariant_of-cells : goal.invariant_of-cells
invariant_of-cells g c =
    let peers = subst (λ (z : NodePart). HasPeers (z.plan.parties - 1) (links_reading g.I.Inlet.reading g.O.Outlet.reading c.args.links)) (sym c.self.view_is) c.requires.peers in
    is_mail_at _ _ c.self.invariant c.args.plan.now (c.requires.plan ∙ sym (ap (λ (z : NodePart). z.plan) c.self.view_is)) _ peers.outlets

pub greet-requires : goal.greet-requires
greet-requires g c =
    let peers = subst (λ (z : NodePart). HasPeers (z.plan.parties - 1) (links_reading g.I.Inlet.reading g.O.Outlet.reading c.args.links)) (sym c.self.view_is) c.requires.peers in
    let same = c.requires.plan ∙ sym (ap (λ (z : NodePart). z.plan) c.self.view_is) in
    let some = some_node _ c.self.invariant.fits in
    (some.0, record { links = links_reading g.I.Inlet.reading g.O.Outlet.reading c.args.links; ids = ids_of c.self.inside.boxes.items }, some.1.digest, greeted_at _ _ c.self.invariant some.0 some.1 _ peers c.args.plan.now same)

pub read_peers-remains-requires-clause-run : goal.read_peers-remains-requires-clause-run
read_peers-remains-requires-clause-run g c =
    let peers = subst (λ (z : NodePart). HasPeers (z.plan.parties - 1) (links_reading g.I.Inlet.reading g.O.Outlet.reading c.args.links)) (sym c.self.view_is) c.requires.peers in
    let same = c.requires.plan ∙ sym (ap (λ (z : NodePart). z.plan) c.self.view_is) in
    let some = some_node _ c.self.invariant.fits in
    let start : Begin = record { links = links_reading g.I.Inlet.reading g.O.Outlet.reading c.args.links; ids = ids_of c.self.inside.boxes.items } in
    let greeted = c.greet.ensures.on some.0 start some.1.digest (greeted_at _ _ c.self.invariant some.0 some.1 _ peers c.args.plan.now same) c.if-not-greet.false in
    (some.0, start, 0, some.1.plan ∙ sym same, may_run _ _ c.self.invariant some.0 some.1 _ peers c.greet.new.cells greeted)

pub returns-then-not-greet : goal.returns-then-not-greet
returns-then-not-greet g c = λ n of.
    let mine = subst (λ (z : NodePart). IsNodeOf z n) (sym c.self.view_is) of in
    let peers = subst (λ (z : NodePart). HasPeers (z.plan.parties - 1) (links_reading g.I.Inlet.reading g.O.Outlet.reading c.args.links)) (sym c.self.view_is) c.requires.peers in
    let same = c.requires.plan ∙ sym (ap (λ (z : NodePart). z.plan) c.self.view_is) in
    let start : Begin = record { links = links_reading g.I.Inlet.reading g.O.Outlet.reading c.args.links; ids = ids_of c.self.inside.boxes.items } in
    let u = c.greet.ensures.halted n start mine.digest (greeted_at _ _ c.self.invariant n mine _ peers c.args.plan.now same) c.if-not-greet.true in
    let links = ap (links_reading g.I.Inlet.reading g.O.Outlet.reading) c.into_answer.ensures.links in
    let after : LinksReading = links_reading g.I.Inlet.reading g.O.Outlet.reading c.into_answer.result.1 in
    let results : Results = record { words = c.of.result.words.cells; outputs = map (λ (d : Desk). d.memory.outputs.items) c.of.result.desks.items } in
    let long : length c.close_inlets.new.inlets ≡ vec_len c.args.links.inlets = omega (arith, c.close_inlets.auto.inlets, c.as_mut_slice.ensures.len) in
    let whole = whole_first c.close_inlets.new.inlets (drop (length c.close_inlets.new.inlets) c.args.links.inlets.items) (vec_len c.args.links.inlets) long in
    let told =
    c.into_answer.ensures.answer
    ∙ ap (λ z. answer (fault_told z c.of.result.refused c.of.result.fault) results) (ap (λ (z : RemainsModel). z.failed) c.of.ensures.left)
    ∙ ap (λ z. answer (fault_told c.greet.new.cells.failed z c.of.result.fault) results) (ap (λ (z : RemainsModel). z.refused) c.of.ensures.left) in
    subst (Runs n start.links after (g.W.Spawner.reading c.args.spawner.now) (g.W.Spawner.reading c.args.spawner.now)) (sym told)
    (ungreeted_runs n start after (g.W.Spawner.reading c.args.spawner.now) (g.W.Spawner.reading c.args.spawner.now) (had_peers _ _ c.self.invariant n mine _ peers) c.greet.new.cells c.of.ensures.mail u
    (ap (λ (z : LinksReading). z.inlets) links ∙ ap (map g.I.Inlet.reading) whole ∙ c.close_inlets.ensures ∙ ap (λ z. map shut_inlet (map g.I.Inlet.reading z)) c.as_mut_slice.ensures.value) (ap (λ (z : LinksReading). z.outlets) links ∙ ap (λ (z : RemainsModel). z.outlets) c.of.ensures.left) refl c.of.result.fault results)

pub returns : goal.returns
returns g c = λ n of.
    let mine = subst (λ (z : NodePart). IsNodeOf z n) (sym c.self.view_is) of in
    let peers = subst (λ (z : NodePart). HasPeers (z.plan.parties - 1) (links_reading g.I.Inlet.reading g.O.Outlet.reading c.args.links)) (sym c.self.view_is) c.requires.peers in
    let same = c.requires.plan ∙ sym (ap (λ (z : NodePart). z.plan) c.self.view_is) in
    let start : Begin = record { links = links_reading g.I.Inlet.reading g.O.Outlet.reading c.args.links; ids = ids_of c.self.inside.boxes.items } in
    let greeted = c.greet.ensures.on n start mine.digest (greeted_at _ _ c.self.invariant n mine _ peers c.args.plan.now same) c.if-not-greet.false in
    let may = may_run _ _ c.self.invariant n mine _ peers c.greet.new.cells greeted in
    let left : RemainsModel = record {
      outlets = map g.O.Outlet.reading c.read_peers-remains.result.outlets.items;
      words = c.read_peers-remains.result.words;
      boxes = c.read_peers-remains.result.boxes.items;
      desks = c.read_peers-remains.result.desks.items;
      failed = c.read_peers-remains.result.failed;
      refused = c.read_peers-remains.result.refused;
      fault = c.read_peers-remains.result.fault;
    } in
    let links = ap (links_reading g.I.Inlet.reading g.O.Outlet.reading) c.into_answer-2.ensures.links in
    let after : LinksReading = links_reading g.I.Inlet.reading g.O.Outlet.reading c.into_answer-2.result.1 in
    let remained = c.read_peers-remains.ensures.remained n start 0 (mine.plan ∙ sym same) may in
    subst (Runs n start.links after (g.W.Spawner.reading c.args.spawner.now) (g.W.Spawner.reading c.read_peers-remains.new.spawner)) (sym c.into_answer-2.ensures.answer)
    (remained_runs n start after (g.W.Spawner.reading c.args.spawner.now) (g.W.Spawner.reading c.read_peers-remains.new.spawner) (had_peers _ _ c.self.invariant n mine _ peers) left
    (subst (λ (z : LinksReading). Remained n start 0 start.links.inlets z.inlets (g.W.Spawner.reading c.args.spawner.now) (g.W.Spawner.reading c.read_peers-remains.new.spawner) left) (sym links) remained)
    (ap (λ (z : LinksReading). z.outlets) links))
