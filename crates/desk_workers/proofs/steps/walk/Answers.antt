use Rattle.std.proofs.Common.{◌≡◌, ◌+◌, refl, subst, inl, inr, arith}
use Rattle.message_board.specs.Pairs.{Knows}
use Rattle.desk_laws.specs.Pools.{left, Stuck}
use Rattle.desk_workers.specs.Promises.{world_in}
use Rattle.desk_workers.proofs.BoardSteps.{follows, left_small, stuck_less}
use Rattle.desk_workers.proofs.steps.walk.Goals as goal

pub loop-last-init : goal.loop-last-init
loop-last-init g c = (
  c.requires.seat,
  (λ k h. record { stands = h; counts = omega arith; still = λ none. refl; grows = λ n v known. known; seats = refl; out = refl }),
  (λ none. inl refl),
  omega arith,
  left_small (world_in c.args.board.now.about.world) c.requires.pool.whole c.args.seat.now.view.seen c.requires.desk.0 c.args.desk.now c.requires.desk.1,
)

pub loop-last-preserved : goal.loop-last-preserved
loop-last-preserved g c =
    let w = world_in c.args.board.now.about.world in
    let i = c.loop-last.invariant in
    let k' = c.requires.desk.0 in
    let next = c.goes_far-last.ensures.leads k' (i.1 k' c.requires.desk.1).stands in
    let count : c.goes_far-last.result + left c.goes_far-last.new.desk ≡ left c.loop-last.desk = next.counts in
    let so_far = i.3 in (
      c.goes_far-last.ensures.seat,
      (λ k h. follows w k c.args.seat.now c.loop-last.seat c.goes_far-last.new.seat c.args.desk.now c.loop-last.desk c.goes_far-last.new.desk c.loop-last.moves c.goes_far-last.result (i.1 k h) (c.goes_far-last.ensures.leads k (i.1 k h).stands)),
      (λ none. inr (λ k h.
          let before = i.1 k h in
          let same = before.still (omega (arith, none)) in
          stuck_less c.args.seat.now.view.seen c.loop-last.seat.view.seen w k c.args.desk.now.position before.grows
          (subst (λ z. Stuck (Knows c.loop-last.seat.view.seen) w k z.position) same (c.goes_far-last.ensures.stuck (omega (arith, none)) k before.stands)))),
      omega (arith, count, so_far),
      i.4,
    )

pub loop-last-smaller : goal.loop-last-smaller
loop-last-smaller g c =
    let k = c.requires.desk.0 in
    let next = c.goes_far-last.ensures.leads k (c.loop-last.invariant.1 k c.requires.desk.1).stands in
    let count : c.goes_far-last.result + left c.goes_far-last.new.desk ≡ left c.loop-last.desk = next.counts in
    omega (arith, count, c.loop-last-test.true)

pub goes_far-last-requires-clause-desk : goal.goes_far-last-requires-clause-desk
goes_far-last-requires-clause-desk g c κs within = (c.requires.desk.0, (c.loop-last.invariant.1 c.requires.desk.0 c.requires.desk.1).stands)

pub returns-clause-stuck : goal.returns-clause-stuck
returns-clause-stuck g c none = elim (c.loop-last.invariant.2 none) [
  | inl more ↦ absurd (c.loop-last-test.false more)
  | inr stuck ↦ stuck
]
