use Rattle.std.proofs.Common.{◌≡◌, ◌/◌, ◌%◌, subst}
use Rattle.share_world.specs.Worlds.{World}
use Rattle.party_desk.specs.declared.desk.Desk.{Desk}
use Rattle.share_world.specs.Laws.{IsWhole}
use Rattle.desk_laws.proofs.Elements.{stands_at}
use Rattle.core_world.specs.States.{IsState, StuckOn}
use Rattle.core_world.proofs.StepLaws.{may_step, stepped, stands_as, tells_as, counts, stays, is_stuck}
use Rattle.core_world.proofs.steps.step_at.Goals as goal

pub step_in_world-requires : goal.step_in_world-requires
step_in_world-requires c =
    let s = c.requires.state in
    let w : World = s.0 in
    (w, c.args.k / w.plan.parties, c.args.k % w.plan.parties, may_step w c.args.plan.now s.1 s.2 c.args.desks.now c.args.cells.now s.3 c.args.k c.requires.within c.index-desks-k.result)

pub returns : goal.returns
returns c =
    let k = c.args.k in
    let ds = c.args.desks.now in
    let cells = c.args.cells.now in
    let d0 : Desk = c.index-desks-k.result in
    let in' = c.requires.within in
    let e = c.step_in_world.new.desk in
    let new = c.step_in_world.new.cells in
    let r = c.step_in_world.result in
    let did = λ (w : World) (same : w.plan ≡ c.args.plan.now) (whole : IsWhole w) (h : IsState w ds cells). c.step_in_world.ensures.steps w (k / w.plan.parties) (k % w.plan.parties) (may_step w c.args.plan.now same whole ds cells h k in' d0) in
    let s = c.requires.state in record {
      state = λ w same whole h. stepped w whole ds cells h k in' d0 e new r (did w same whole h);
      stands = λ w same whole h. stands_as w whole ds cells h k in' d0 e new r (did w same whole h);
      tells = λ w same whole h. tells_as w whole ds cells h k in' d0 e new r (did w same whole h);
      left = counts s.0 s.2 ds cells s.3 k in' d0 e new r (did s.0 s.1 s.2 s.3);
      still = stays s.0 s.2 ds cells s.3 k in' d0 e new r (did s.0 s.1 s.2 s.3);
      stuck = λ w d same whole h is none. subst (StuckOn w cells.cells k) (stands_at ds k d d0 is).1 (is_stuck w whole ds cells h k in' d0 e new r (did w same whole h) none);
    }
