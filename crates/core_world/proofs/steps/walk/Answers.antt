use Rattle.std.proofs.Common.{◌≡◌, false, nat_lt, sym, ◌∙◌, subst, arith}
use Rattle.std.specs.Prelude.{Some, slice_get}
use Rattle.std.proofs.lemmas.Bool.Decides.{nat_tests}
use Rattle.core_world.specs.States.{StuckOn}
use Rattle.desk_laws.specs.Pools.{moves_of}
use Rattle.core_world.proofs.steps.walk.Goals as goal

pub returns-clause-stuck : goal.returns-clause-stuck
returns-clause-stuck c w d p whole s is none =
    let h = c.loop-moved.invariant in
    let b = h.still none in
    let test : nat_lt 0 (moves_of c.step_at.result) ≡ false = sym c.is_move.ensures ∙ c.loop-moved-test.false in
    let no_move : moves_of c.step_at.result ≡ 0 = grind (arith, nat_tests) in
    let here = c.step_at.ensures.stuck w d p whole (h.state w p whole s) (subst (λ x. slice_get x c.args.k ≡ Some d) (sym b.0) is) no_move in
    subst (λ x. StuckOn w x.cells c.args.k d) b.1 here
