use Rattle.std.proofs.Common.{◌≡◌, ◌≤◌, Bool, true, false, refl, sym, ap, ◌∙◌, subst, arith}
use Rattle.std.specs.Prelude.{Some, slice_get}
use Rattle.std.proofs.lemmas.Bool.{both_ways, cases_lt}
use mathlib.Core.Logic.{inl, inr}
use Rattle.core_world.specs.States.{StuckOn}
use Rattle.desk_laws.specs.Pools.{left_all}
use Rattle.desk_laws.proofs.Elements.{stands_at}
use Rattle.core_world.proofs.steps.round.Goals as goal
use Rattle.core_world.proofs.steps.round.Goals.{then-walk, else-walk}

pub loop-k-preserved : goal.loop-k-preserved
loop-k-preserved c =
    let h = c.loop-k.invariant in
    let e = c.walk.ensures in
    let no_more : left_all c.loop-k.desks ≤ left_all c.args.desks.now = elim c.loop-k.moved as (λ (b : Bool). c.loop-k.moved ≡ b → left_all c.loop-k.desks ≤ left_all c.args.desks.now) [
      | true ↦ λ t. let a = h.moved t in omega arith
      | false ↦ λ f. let a = ap left_all (h.still f).0 in omega arith
    ] refl in
    elim c.if-walk.branch [
      | then-walk b ↦ record {
        state = λ w p law s. e.state w p law (h.state w p law s);
        moved = λ t. let a = e.moved b.if-walk.true in omega arith;
        still = λ f. absurd (both_ways c.if-walk.moved f b.moved-is);
        stuck = λ w p whole s f. absurd (both_ways c.if-walk.moved f b.moved-is);
      }
      | else-walk b ↦
          let a = e.still b.if-walk.false in record {
            state = λ w p law s. e.state w p law (h.state w p law s);
            moved = λ t. let m = h.moved (sym b.moved-is ∙ t) in let same = ap left_all a.0 in omega arith;
            still = λ f. let g = h.still (sym b.moved-is ∙ f) in (a.0 ∙ g.0, a.1 ∙ g.1);
            stuck = λ w p whole s f j d less is. elim (cases_lt j c.loop-k.k) [
              | inl before ↦ h.stuck w p whole s (sym b.moved-is ∙ f) j d before is
              | inr past ↦
                  let g = h.still (sym b.moved-is ∙ f) in
                  let same : c.loop-k.k ≡ j = omega arith in
                  let there : slice_get c.loop-k.desks c.loop-k.k ≡ Some d = ap (λ x. slice_get x c.loop-k.k) g.0 ∙ ap (slice_get c.args.desks.now) same ∙ is in
                  let here = e.stuck w d p whole (h.state w p whole s) there b.if-walk.false in
                  subst (λ k. StuckOn w c.args.cells.now.cells k d) same (subst (λ x. StuckOn w x.cells c.loop-k.k d) g.1 here)
            ];
          }
    ]

pub returns-clause-stuck : goal.returns-clause-stuck
returns-clause-stuck c w p whole s f j d is = c.loop-k.invariant.stuck w p whole s f j d (let inside = (stands_at c.args.desks.now j d d is).0 in omega arith) is
