use Rattle.std.proofs.Common.{◌≢◌, ◌<◌, refl, sym, ◌∙◌, subst}
use Rattle.node_run.specs.Mail.{Mail, FlushedTo}
use Rattle.node_run.proofs.CellChanges.{before_as, with_outlets, same_count, flushed_to, kept_err, kept_ok}
use Rattle.node_run.proofs.cells.NodeCells.flush.Goals as goal

pub invariant_of-self : goal.invariant_of-self
invariant_of-self g c = with_outlets _ c.self.invariant _ _ (same_count _ c.self.invariant g.O.Outlet.reading c.self.inside.outlets.items refl c.peer_place-place.result c.flush.new.self)

pub invariant_of-self-else-is_err : goal.invariant_of-self-else-is_err
invariant_of-self-else-is_err g c = with_outlets _ c.self.invariant _ _ (same_count _ c.self.invariant g.O.Outlet.reading c.self.inside.outlets.items refl c.peer_place-place.result c.flush.new.self)

pub returns-then-is_err : goal.returns-then-is_err
returns-then-is_err g c =
    let party = subst (λ (z : Mail). c.args.peer < z.plan.parties) (sym c.self.view_is) c.requires.party in
    let other = subst (λ (z : Mail). c.args.peer ≢ z.me) (sym c.self.view_is) c.requires.other in
    before_as (λ x y. FlushedTo c.args.peer x y) _ _ _ c.self.view_is
    (flushed_to _ c.self.invariant g.O.Outlet.reading c.self.inside.outlets.items refl c.peer_place-place.result c.flush.new.self c.args.peer party other c.peer_place-place.ensures c.index_mut.result.now c.index_mut.ensures.value c.flush.result c.flush.ensures _
    (kept_err c.args.peer c.flush.result _ (sym c.is_err.ensures.value ∙ c.if-is_err.true)))

pub returns-else-is_err : goal.returns-else-is_err
returns-else-is_err g c =
    let party = subst (λ (z : Mail). c.args.peer < z.plan.parties) (sym c.self.view_is) c.requires.party in
    let other = subst (λ (z : Mail). c.args.peer ≢ z.me) (sym c.self.view_is) c.requires.other in
    before_as (λ x y. FlushedTo c.args.peer x y) _ _ _ c.self.view_is
    (flushed_to _ c.self.invariant g.O.Outlet.reading c.self.inside.outlets.items refl c.peer_place-place.result c.flush.new.self c.args.peer party other c.peer_place-place.ensures c.index_mut.result.now c.index_mut.ensures.value c.flush.result c.flush.ensures _
    (kept_ok c.args.peer c.flush.result _ (sym c.is_err.ensures.value ∙ c.if-is_err.false)))
