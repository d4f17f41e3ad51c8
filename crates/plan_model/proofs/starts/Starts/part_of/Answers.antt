use Rattle.std.proofs.Common.{◌≡◌, ◌≤◌, ◌<◌, true, false, leb, length, sym, ap, ◌∙◌, subst, arith, rules}
use Rattle.std.specs.List.Sorted.{IsNonDecreasing, IsPartitionPoint}
use Rattle.std.proofs.lemmas.List.Sorted.{IsPartitionPoint-from_clause, IsPartitionedBy-leb}
use Rattle.plan_model.proofs.PartSearch.{some_past, not_all_past, begins_before, ends_behind}
use Rattle.plan_model.proofs.starts.Starts.part_of.Goals as goal

pub overflow_sub-result : goal.overflow_sub-result
overflow_sub-result c =
    let starts = c.args.self.now in
    let whole : c.deref.result.now ≡ starts = c.deref.ensures.value ∙ c.self.view_is in
    let rising = subst IsNonDecreasing (sym whole) c.requires.rising in
    let found = IsPartitionPoint-from_clause (λ x. leb x c.args.n) c.deref.result.now c.partition_point-past.result c.partition_point-past.ensures.partitioned (IsPartitionedBy-leb (λ x. x) c.deref.result.now c.args.n rising) (λ a r q k. search rules) in
    let point = subst (λ xs. IsPartitionPoint (λ x. leb x c.args.n ≡ true) (λ x. leb x c.args.n ≡ false) xs c.partition_point-past.result) whole found in
    some_past starts c.args.n c.partition_point-past.result (omega (arith, ap length whole)) point c.requires.some c.requires.begin

pub returns : goal.returns
returns c =
    let starts = c.args.self.now in
    let past = c.partition_point-past.result in
    let whole : c.deref.result.now ≡ starts = c.deref.ensures.value ∙ c.self.view_is in
    let rising = subst IsNonDecreasing (sym whole) c.requires.rising in
    let found = IsPartitionPoint-from_clause (λ x. leb x c.args.n) c.deref.result.now past c.partition_point-past.ensures.partitioned (IsPartitionedBy-leb (λ x. x) c.deref.result.now c.args.n rising) (λ a r q k. search rules) in
    let point = subst (λ xs. IsPartitionPoint (λ x. leb x c.args.n ≡ true) (λ x. leb x c.args.n ≡ false) xs past) whole found in
    let bound : past ≤ length starts = omega (arith, ap length whole) in
    let some : 1 ≤ past = some_past starts c.args.n past bound point c.requires.some c.requires.begin in
    let less : past < length starts = not_all_past starts c.args.n past bound point c.requires.some c.requires.end in
    record {
      there = omega arith;
      begin = begins_before starts c.args.n past bound point some;
      end = ends_behind starts c.args.n past bound point some less;
    }
