use Rattle.std.proofs.Common.{◌≡◌, true, false, refl, sym, ap, ◌∙◌, subst, arith}
use Rattle.program_model.specs.States.{Given}
use Rattle.party_desk.specs.declared.desk.Desk.{Desk}
use Rattle.desk_walks.specs.Walks.{NothingToCompute}
use Rattle.desk_walks.proofs.ComputedGates.{none_of_gates}
use Rattle.desk_walks.proofs.GateWalks.{few_done, fewer, rest_walks, walks_may, walks_on}
use Rattle.desk_walks.proofs.beside.walk_beside.Goals as goal

pub loop-goes-init : goal.loop-goes-init
loop-goes-init g c = (c.requires.seat, (λ given may. rest_walks given c.args.seat.now c.args.desk.now may.goes.desk), (λ same. refl))

pub loop-goes-smaller : goal.loop-goes-smaller
loop-goes-smaller g c =
    let list = g.W.Promise.list c.args.board.now.about.world in
    let given = c.requires.may.0 in
    let may = c.requires.may.1 in
    let here = walks_may c.args.plan.now list given c.args.seat.now c.loop-goes.seat c.args.desk.now c.loop-goes.desk may (c.loop-goes.invariant.1 given may) in
    let walked = c.goes_beside-goes.ensures.walks given here in
    fewer c.loop-goes.desk.position c.goes_beside-goes.new.desk.position c.goes_beside-goes.result c.loop-goes.goes c.loop-goes-test.true walked.forth c.goes_beside-goes.ensures.on (few_done given c.goes_beside-goes.new.desk walked.desk)

pub loop-goes-preserved : goal.loop-goes-preserved
loop-goes-preserved g c = (
  c.goes_beside-goes.ensures.seat,
  (λ given may.
      let list = g.W.Promise.list c.args.board.now.about.world in
      let so_far = c.loop-goes.invariant.1 given may in
      let here = walks_may c.args.plan.now list given c.args.seat.now c.loop-goes.seat c.args.desk.now c.loop-goes.desk may so_far in
      walks_on given c.args.seat.now c.loop-goes.seat c.goes_beside-goes.new.seat c.args.desk.now c.loop-goes.desk c.goes_beside-goes.new.desk so_far (c.goes_beside-goes.ensures.walks given here)),
  (λ same.
      let list = g.W.Promise.list c.args.board.now.about.world in
      let given = c.requires.may.0 in
      let may = c.requires.may.1 in
      let so_far = c.loop-goes.invariant.1 given may in
      let here = walks_may c.args.plan.now list given c.args.seat.now c.loop-goes.seat c.args.desk.now c.loop-goes.desk may so_far in
      let walked = c.goes_beside-goes.ensures.walks given here in
      let first = so_far.forth in
      let second = walked.forth in
      c.goes_beside-goes.ensures.still (omega (arith, first, second, same)) ∙ c.loop-goes.invariant.2 (omega (arith, first, second, same))),
)

-- where it did not move it is beside gates
stays_beside : (l : Given) (d e : Desk) → e ≡ d → NothingToCompute l d → NothingToCompute l e
stays_beside l d e same none = subst (NothingToCompute l) (sym same) none

pub returns-then-desk-before-clause-went : goal.returns-then-desk-before-clause-went
returns-then-desk-before-clause-went g c given may =
    let d = c.args.desk.now in
    let same = c.loop-goes.invariant.2 c.if-desk-before.true in
    record {
      walks = c.loop-goes.invariant.1 given may;
      on = λ z. absurd (let clash : false ≡ true = z in cc);
      through = λ z. stays_beside given d c.loop-goes.desk same (none_of_gates given d may.goes.desk c.requires.beside.1 c.requires.beside.0);
      looked = λ z product n i w is known. c.requires.beside.0 (ap (λ (e : Desk). e.place.pattern) (sym same) ∙ product);
    }

pub returns-clause-went : goal.returns-clause-went
returns-clause-went g c given may =
    let walked = c.loop-goes.invariant.1 given may in
    let forth = walked.forth in
    record {
      walks = walked;
      on = λ z. omega (arith, forth, c.if-desk-before.false);
      through = λ z. absurd (let clash : true ≡ false = z in cc);
      looked = λ z. absurd (let clash : true ≡ false = z in cc);
    }
