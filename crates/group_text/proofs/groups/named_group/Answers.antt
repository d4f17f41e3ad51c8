use Rattle.std.proofs.Common.{◌<◌, ◌^◌, ◌∷◌, ◌++◌, [], Ok, length, sym, subst, ap, ◌∙◌, arith}
use Rattle.std.proofs.lemmas.List.Sums.{count_by-le-length}
use Rattle.std.proofs.lemmas.List.Splits.{length-slice_split}
use Rattle.group_text.specs.GroupTexts.{is_plus, parts_of}
use Rattle.group_text.proofs.NamedGroups.{Reads, reads_none, reads_next, reads_bad, reads_all}
use Rattle.group_text.proofs.groups.named_group.Goals as goal

pub loop-part-init : goal.loop-part-init
loop-part-init c =
    ([], reads_none c.args.names.now (parts_of c.args.text.now) _ (c.into_iter-part-iterator.ensures.into_iter_gives ∙ c.of-part-items.ensures))

pub returns-in_default : goal.returns-in_default
returns-in_default c =
    let names = c.args.names.now in
    let parts = parts_of c.args.text.now in
    let before = c.loop-part.invariant.0 in
    let reads = subst (λ left. Reads names parts before left c.loop-part.at c.loop-part.mask) c.in-Some.ensures.steps c.loop-part.invariant.1 in
    sym (reads_bad names parts before c.next.new.self c.loop-part.at c.loop-part.mask c.in-Some.part.now reads (sym c.in_default.ensures))

pub overflow_add-at : goal.overflow_add-at
overflow_add-at c =
    let text = c.args.text.now in
    omega (arith, c.loop-part.invariant.1.room, ap length c.in-Some.ensures.steps, length-slice_split is_plus text, count_by-le-length is_plus text)

pub loop-part-preserved : goal.loop-part-preserved
loop-part-preserved c =
    let names = c.args.names.now in
    let parts = parts_of c.args.text.now in
    let before = c.loop-part.invariant.0 in
    let part = c.in-Some.part.now in
    let reads = subst (λ left. Reads names parts before left c.loop-part.at c.loop-part.mask) c.in-Some.ensures.steps c.loop-part.invariant.1 in
    (before ++ part ∷ [], reads_next names parts before c.next.new.self c.loop-part.at c.loop-part.mask part reads c.len-parties.ensures.names c.in-Some-mask_with.more (sym c.in-Some-mask_with.ensures))

pub group_of_mask-requires-clause-mask : goal.group_of_mask-requires-clause-mask
group_of_mask-requires-clause-mask c = subst (λ n. c.loop-part.mask < 2 ^ n) (sym c.len-parties.ensures.is) c.loop-part.invariant.1.below

pub returns : goal.returns
returns c =
    let names = c.args.names.now in
    let parts = parts_of c.args.text.now in
    let all = reads_all names parts c.loop-part.invariant.0 c.loop-part.part-iterator c.loop-part.at c.loop-part.mask c.in-None.ensures.steps.0 c.loop-part.invariant.1 in
    ap Ok (c.group_of_mask.ensures ∙ ap (λ n. record { parties = n; mask = c.loop-part.mask }) c.len-parties.ensures.is) ∙ sym all
