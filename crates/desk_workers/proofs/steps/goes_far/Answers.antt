use Rattle.std.proofs.Common.{◌≡◌, ◌+◌, Bool, true, false, refl, sym, ◌∙◌, subst, arith}
use Rattle.std.specs.Int.{from_bool}
use Rattle.message_board.specs.Pairs.{Knows}
use Rattle.desk_laws.specs.Pools.{Stuck}
use Rattle.party_program.proofs.GrownDeals.{as_number}
use Rattle.program_laws.specs.Lawful.{given_to}
use Rattle.desk_workers.specs.Promises.{world_in}
use Rattle.desk_workers.specs.Pools.{Leads}
use Rattle.desk_workers.proofs.BoardSteps.{follows, stuck_less}
use Rattle.desk_workers.proofs.WalkedGates.{gates_lead, may_walk}
use Rattle.desk_workers.proofs.steps.goes_far.Goals as goal

none_told : (b : Bool) → from_bool b ≡ 0 → b ≡ false
none_told true e = absurd (omega (arith, e))
none_told false e = refl

pub walk_gates-walked-requires-clause-may : goal.walk_gates-walked-requires-clause-may
walk_gates-walked-requires-clause-may g c =
    let w = world_in c.args.board.now.about.world in
    let k = c.requires.desk.0 in
    (given_to w k, may_walk w c.requires.pool.whole k c.args.desk.now c.requires.desk.1.desk c.args.plan.now c.requires.pool.same)

pub returns-then-walked-gt0-clause-leads : goal.returns-then-walked-gt0-clause-leads
returns-then-walked-gt0-clause-leads g c k h =
    let w = world_in c.args.board.now.about.world in
    subst (λ n. Leads w k c.args.seat.now c.args.desk.now c.walk_gates-walked.new.seat c.walk_gates-walked.new.desk n) (sym c.from.ensures)
    (gates_lead w c.requires.pool.whole k c.args.desk.now h.desk c.args.plan.now c.args.seat.now c.walk_gates-walked.new.seat c.walk_gates-walked.new.desk c.walk_gates-walked.result c.requires.pool.same h
    (c.walk_gates-walked.ensures.walks (given_to w k)) c.walk_gates-walked.ensures.moves c.walk_gates-walked.ensures.still)

pub goes_on-requires-clause-desk : goal.goes_on-requires-clause-desk
goes_on-requires-clause-desk g c =
    let w = world_in c.args.board.now.about.world in
    let k = c.requires.desk.0 in
    let h = c.requires.desk.1 in
    let walked = gates_lead w c.requires.pool.whole k c.args.desk.now h.desk c.args.plan.now c.args.seat.now c.walk_gates-walked.new.seat c.walk_gates-walked.new.desk c.walk_gates-walked.result c.requires.pool.same h
    (c.walk_gates-walked.ensures.walks (given_to w k)) c.walk_gates-walked.ensures.moves c.walk_gates-walked.ensures.still in
    (k, walked.stands)

pub returns-clause-leads : goal.returns-clause-leads
returns-clause-leads g c k h =
    let w = world_in c.args.board.now.about.world in
    let n = c.walk_gates-walked.result in
    let walked = gates_lead w c.requires.pool.whole k c.args.desk.now h.desk c.args.plan.now c.args.seat.now c.walk_gates-walked.new.seat c.walk_gates-walked.new.desk n c.requires.pool.same h
    (c.walk_gates-walked.ensures.walks (given_to w k)) c.walk_gates-walked.ensures.moves c.walk_gates-walked.ensures.still in
    let step : Leads w k c.walk_gates-walked.new.seat c.walk_gates-walked.new.desk c.goes_on.new.seat c.goes_on.new.desk c.from-2.result =
    subst (Leads w k c.walk_gates-walked.new.seat c.walk_gates-walked.new.desk c.goes_on.new.seat c.goes_on.new.desk) (sym (c.from-2.ensures ∙ as_number c.goes_on.result)) (c.goes_on.ensures.leads k walked.stands) in
    let all : n + c.from-2.result ≡ c.from-2.result = omega (arith, c.if-walked-gt0.false) in
    subst (Leads w k c.args.seat.now c.args.desk.now c.goes_on.new.seat c.goes_on.new.desk) all
    (follows w k c.args.seat.now c.walk_gates-walked.new.seat c.goes_on.new.seat c.args.desk.now c.walk_gates-walked.new.desk c.goes_on.new.desk n c.from-2.result walked step)

pub returns-clause-stuck : goal.returns-clause-stuck
returns-clause-stuck g c none k h =
    let w = world_in c.args.board.now.about.world in
    let n = c.walk_gates-walked.result in
    let walked = gates_lead w c.requires.pool.whole k c.args.desk.now h.desk c.args.plan.now c.args.seat.now c.walk_gates-walked.new.seat c.walk_gates-walked.new.desk n c.requires.pool.same h
    (c.walk_gates-walked.ensures.walks (given_to w k)) c.walk_gates-walked.ensures.moves c.walk_gates-walked.ensures.still in
    let same = c.walk_gates-walked.ensures.still (omega (arith, c.if-walked-gt0.false)) in
    stuck_less c.args.seat.now.view.seen c.walk_gates-walked.new.seat.view.seen w k c.args.desk.now.position walked.grows
    (subst (λ z. Stuck (Knows c.walk_gates-walked.new.seat.view.seen) w k z.position) same (c.goes_on.ensures.stuck (none_told c.goes_on.result (sym c.from-2.ensures ∙ none)) k walked.stands))
