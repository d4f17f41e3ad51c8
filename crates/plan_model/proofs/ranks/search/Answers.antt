use Rattle.std.proofs.Common.{sym, ◌∙◌, subst, rules}
use Rattle.std.specs.List.Sorted.{IsBinarySearchResult}
use Rattle.std.specs.Ordering.{nat_cmp}
use Rattle.std.specs.Prelude.{Ok}
use Rattle.std.proofs.lemmas.Fn.{always_returns_same}
use Rattle.plan_model.specs.Numbers.{rank}
use Rattle.plan_model.specs.Patterns.{named}
use Rattle.plan_model.proofs.RankSearch.{unequal, named_at, absent_beside, absent_in_gap}
use Rattle.plan_model.proofs.ranks.search.Goals as goal

pub returns-in_default-clause-absent : goal.returns-in_default-clause-absent
returns-in_default-clause-absent c =
    let s = c.args.key.session in
    let k = c.args.key.slot in
    let f = rank c.args.order in
    let by_key = c.in-Ok.ensures.position (λ held. f (named s k held)) (always_returns_same _ _ _ (λ a r g called. (search rules, search rules))) in
    absent_beside s k c.args.transfers.now f c.requires c.args.key c.in-Ok.at c.in-Ok.ensures.bound
    (subst (λ w. IsBinarySearchResult (λ held. nat_cmp (f (named s k held)) w) c.args.transfers.now (Ok c.in-Ok.at)) c.rank-wanted.ensures by_key)
    (λ e. unequal _ c.args.key c.if-eq.ensures (c.named.ensures ∙ sym (named_at s k c.args.transfers.now c.in-Ok.at c.in-Ok.ensures.bound) ∙ e))

pub returns-in_default-2-clause-absent : goal.returns-in_default-2-clause-absent
returns-in_default-2-clause-absent c =
    let s = c.args.key.session in
    let k = c.args.key.slot in
    let f = rank c.args.order in
    let by_key = c.binary_search_by_key.ensures.position (λ held. f (named s k held)) (always_returns_same _ _ _ (λ a r g called. (search rules, search rules))) in
    let found = subst (λ w. IsBinarySearchResult (λ held. nat_cmp (f (named s k held)) w) c.args.transfers.now c.binary_search_by_key.result) c.rank-wanted.ensures by_key in
    absent_in_gap s k c.args.transfers.now f c.requires c.args.key c.in_default.field-0 (subst (IsBinarySearchResult (λ held. nat_cmp (f (named s k held)) (f c.args.key)) c.args.transfers.now) c.in_default.is found)
