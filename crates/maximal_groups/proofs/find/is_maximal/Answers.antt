use Rattle.std.proofs.Common.{◌≡◌, true, false, arith, sym, ap, ◌∙◌, below_more}
use Rattle.maximal_groups.proofs.Largest.{joined, is_joined, maximal_yes, maximal_no_self, maximal_no_more}
use Rattle.maximal_groups.proofs.find.is_maximal.Goals as goal
use Rattle.maximal_groups.proofs.find.is_maximal.Goals.{else-not-has-via-then-not-has+else-tolerated, else-not-has-via-else-not-has}

pub returns-then-not-tolerated : goal.returns-then-not-tolerated
returns-then-not-tolerated g c = sym (maximal_no_self (g.F.Family.count c.args.family.now) (g.F.Family.is_tolerated c.args.family.now) c.args.group.mask (sym c.tolerated.ensures ∙ c.if-not-tolerated.true))

pub returns-then-tolerated : goal.returns-then-tolerated
returns-then-tolerated g c =
    let is : c.with.result.mask ≡ joined c.args.group.mask c.loop-p.p = is_joined c.args.group.mask c.loop-p.p c.with.result.mask (omega arith) c.with.ensures.members in
    sym (maximal_no_more (g.F.Family.count c.args.family.now) (g.F.Family.is_tolerated c.args.family.now) c.args.group.mask c.loop-p.p (omega arith) c.requires.mask (omega arith)
    (sym c.has.ensures ∙ c.if-not-has.true)
    (ap (g.F.Family.is_tolerated c.args.family.now) (sym is) ∙ sym c.tolerated-then-not-has.ensures ∙ c.if-tolerated.true))

pub returns : goal.returns
returns g c =
    sym (maximal_yes (g.F.Family.count c.args.family.now) (g.F.Family.is_tolerated c.args.family.now) c.args.group.mask (omega arith) c.requires.mask
    c.parties-p-end.ensures.family.parts (sym c.tolerated.ensures ∙ c.if-not-tolerated.false)
    (λ p l e. c.loop-p.invariant p (omega arith) e))

pub loop-p-preserved : goal.loop-p-preserved
loop-p-preserved g c = below_more _ _ c.loop-p.invariant
    (λ e. elim c.else-not-has.branch [
      | else-not-has-via-then-not-has+else-tolerated w ↦
          (let is : w.with.result.mask ≡ joined c.args.group.mask c.loop-p.p = is_joined c.args.group.mask c.loop-p.p w.with.result.mask (omega arith) w.with.ensures.members in
          ap (g.F.Family.is_tolerated c.args.family.now) (sym is) ∙ sym w.tolerated-then-not-has.ensures ∙ w.if-tolerated.false)
      | else-not-has-via-else-not-has w ↦ (let bad : true ≡ false = sym w.if-not-has.false ∙ c.has.ensures ∙ e in cc)
    ])
