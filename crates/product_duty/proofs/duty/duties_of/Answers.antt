use Rattle.std.proofs.Common.{◌≡◌, ◌+◌, ◌*◌, ◌<◌, ◌∷◌, [], ℕ, ap, sym, ◌∙◌, subst, arith, length, length-append}
use Rattle.secret_sharing.specs.Duties.{duty}
use Rattle.product_duty.proofs.JoinedLists.{table_more}
use Rattle.product_duty.proofs.PairDuties.{IsEither, either, some_outside, outside_is, at_place, at_row, by_rows}
use Rattle.product_duty.proofs.duty.duties_of.Goals as goal

pub unwrap-requires : goal.unwrap-requires
unwrap-requires c =
    some_outside c.args.groups.now c.loop-i.i c.loop-j.j c.union-either.result c.least_outside.result c.requires (omega arith) (omega arith)
    (either c.args.groups.now c.loop-i.i c.loop-j.j c.get.result c.get-in-loop-j.result c.union-either.result c.get.ensures c.get-in-loop-j.ensures c.union-either.ensures.parties c.union-either.ensures.members)
    c.least_outside.ensures

pub loop-j-preserved : goal.loop-j-preserved
loop-j-preserved c =
    let is : IsEither c.args.groups.now c.loop-i.i c.loop-j.j c.union-either.result =
    either c.args.groups.now c.loop-i.i c.loop-j.j c.get.result c.get-in-loop-j.result c.union-either.result c.get.ensures c.get-in-loop-j.ensures c.union-either.ensures.parties c.union-either.ensures.members in
    let entry : c.unwrap.result ≡ duty c.args.groups.now c.loop-i.i c.loop-j.j =
    outside_is c.args.groups.now c.loop-i.i c.loop-j.j c.unwrap.result c.union-either.result c.least_outside.result is c.least_outside.ensures c.unwrap.ensures in
    let column : c.loop-j.j < length c.args.groups.now.groups = omega arith in
    record {
      count =
          omega
          (arith, ap length c.in_ok-push.ensures.items, length-append c.loop-j.duties.items (c.unwrap.result ∷ []), c.loop-j.invariant.count);
      entries = λ k l.
          rw c.in_ok-push.ensures.items
          (table_more 0 (at_place c.args.groups.now) c.loop-j.duties.items (c.loop-i.i * length c.args.groups.now.groups + c.loop-j.j) c.unwrap.result c.loop-j.invariant.count c.loop-j.invariant.entries
          (entry ∙ sym (at_row c.args.groups.now c.loop-i.i c.loop-j.j column)) k (omega arith));
    }

pub returns-clause-duties : goal.returns-clause-duties
returns-clause-duties c =
    let rows : length c.args.groups.now.groups ≡ c.loop-i.i = omega arith in
    λ i j li lj. by_rows c.args.groups.now c.loop-i.duties.items
    (λ k l. c.loop-i.invariant.entries k (subst (λ (n : ℕ). k < n * length c.args.groups.now.groups) rows l)) i j li lj
