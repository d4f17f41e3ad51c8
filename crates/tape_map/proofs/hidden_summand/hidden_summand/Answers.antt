use Rattle.std.proofs.Common.{◌≡◌, ℕ, ◌<◌, Bool, true, length, sym, ap, ◌∙◌, subst, arith}
use Rattle.std.specs.Prelude.{slice_index}
use Rattle.std.specs.List.{position_or_len}
use Rattle.std.proofs.lemmas.Bool.{both_ways}
use Rattle.std.proofs.lemmas.List.Sums.{position_or_len_is, passes_at_first}
use Rattle.party_set.specs.Parties.{Members, within}
use Rattle.tape_map.proofs.hidden_summand.hidden_summand.Goals as goal

pub returns-then-within : goal.returns-then-within
returns-then-within c =
    let groups = c.args.groups.now.groups in
    let i = c.loop-i.i in
    let test : ℕ → Bool = within c.args.groups.now.parties c.args.group.mask in
    let here : test (slice_index groups i) ≡ true =
    ap (λ n. within n c.args.group.mask (slice_index groups i)) (sym c.requires)
    ∙ ap (λ (g : Members). within c.args.group.parties c.args.group.mask g.mask) (sym c.get.ensures) ∙ sym c.within.ensures ∙ c.if-within.true in
    let there : i < length groups = omega (arith, c.loop-i-test.true, c.len-i-end.ensures.is) in
    let is : position_or_len test groups ≡ i = position_or_len_is test groups i 0 (omega arith) c.loop-i.invariant (λ l. here) in
    (subst (λ k. k < length groups) (sym is) there, sym is)

pub returns : goal.returns
returns c l =
    let groups = c.args.groups.now.groups in
    let test : ℕ → Bool = within c.args.groups.now.parties c.args.group.mask in
    both_ways (test (slice_index groups (position_or_len test groups))) (c.loop-i.invariant (position_or_len test groups) (omega (arith, c.loop-i-test.false, c.len-i-end.ensures.is))) (passes_at_first test groups 0 l)
