use Rattle.std.proofs.Common.{◌≡◌, ◌<◌, ◌≤◌, length, ◌∙◌, arith}
use Rattle.party_desk.specs.declared.desk.Desk.{Desk}
use Rattle.desk_workers.proofs.Counts.{count_next, count_all}
use Rattle.desk_workers.proofs.ready.instructions_in.Goals as goal

pub loop-i-preserved : goal.loop-i-preserved
loop-i-preserved c =
    let small : c.instructions.result < 4294967296 = c.instructions.type_inv in
    let same : c.from-count.result ≡ c.instructions.result = c.from-count.ensures in
    count_next (λ (d : Desk). d.instructions) c.args.desks.now c.loop-i.i c.index-desks-i.result c.loop-i.count c.from-count.result c.loop-i-test.true c.index-desks-i.is (c.from-count.ensures ∙ c.instructions.ensures) (omega arith) c.loop-i.invariant

pub returns : goal.returns
returns c =
    let end : c.loop-i.i ≤ length c.args.desks.now = c.loop-i.auto.i-end in
    let past : length c.args.desks.now ≤ c.loop-i.i = c.loop-i-test.false in
    count_all (λ (d : Desk). d.instructions) c.args.desks.now c.loop-i.i c.loop-i.count (omega arith) c.loop-i.invariant
