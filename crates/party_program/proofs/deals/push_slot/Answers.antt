use Rattle.std.proofs.Common.{arith}
use Rattle.party_program.proofs.GrownDeals.{room_left, instructions_fit, one_more}
use Rattle.party_program.proofs.deals.push_slot.Goals as goal

pub push_reserved-requires : goal.push_reserved-requires
push_reserved-requires c =
    let own = c.args.own.now in
    let next = c.requires.next in
    room_left own.plan.now own.party own.session next.0 c.args.list.now c.args.tally.now next.2 next.1.there

pub overflow_cast-tally : goal.overflow_cast-tally
overflow_cast-tally c =
    let own = c.args.own.now in
    let next = c.requires.next in
    let all = instructions_fit own.plan.now own.party own.session next.0 c.args.list.now c.args.tally.now next.2 c.args.count c.recall.ensures c.requires.steps.session next.1.there next.1.instructions in
    omega (arith, all)

pub overflow_add-tally : goal.overflow_add-tally
overflow_add-tally c =
    let own = c.args.own.now in
    let next = c.requires.next in
    let all = instructions_fit own.plan.now own.party own.session next.0 c.args.list.now c.args.tally.now next.2 c.args.count c.recall.ensures c.requires.steps.session next.1.there next.1.instructions in
    omega (arith, all)

pub returns : goal.returns
returns c k has before =
    let own = c.args.own.now in
    one_more own.plan.now own.party own.session k c.args.list.now c.args.tally.now before _ c.args.count c.args.deals c.push_reserved.ensures.items c.push_reserved.ensures.capacity has.instructions has.dealt
