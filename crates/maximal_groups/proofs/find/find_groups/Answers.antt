use Rattle.std.proofs.Common.{◌≡◌, ◌*◌, ◌%◌, ◌^◌, ℕ, Bool, length, refl, sym, ap, ◌∙◌, arith, ◌∷◌, [], ◌++◌, length-append}
use Rattle.party_set.specs.Parties.{Members}
use Rattle.party_set.proofs.Masks.{power_is}
use Rattle.maximal_groups.specs.Families.{is_maximal}
use Rattle.maximal_groups.proofs.NumberFilters.{filter_no}
use Rattle.maximal_groups.proofs.FoundGroups.{masks, more_yes, all_more, one_too_many, all_found, antichain_found}
use Rattle.maximal_groups.proofs.find.find_groups.Goals as goal
use Rattle.maximal_groups.proofs.find.find_groups.Goals.{then-is_maximal+else-len-eq-MOST_GROUPS+in_ok-push, else-is_maximal}

pub returns-then-len-eq-MOST_GROUPS : goal.returns-then-len-eq-MOST_GROUPS
returns-then-len-eq-MOST_GROUPS g c =
    let group : c.group_of_mask-group.result ≡ record { parties = c.parties-parties.result; mask = c.loop-mask.mask } = c.group_of_mask-group.ensures in
    let p : ℕ → Bool = is_maximal (g.F.Family.count c.args.family.now) (g.F.Family.is_tolerated c.args.family.now) in (
      refl,
      one_too_many p c.loop-mask.mask (2 ^ g.F.Family.count c.args.family.now) c.loop-mask.groups.items c.loop-mask.invariant.found
          (ap (λ (m : Members). p m.mask) (sym group) ∙ sym c.is_maximal.ensures ∙ c.if-is_maximal.true)
          (omega (arith, power_is (g.F.Family.count c.args.family.now) (omega arith), ap (λ n. 1 * 2 ^ n % 2 ^ 32) c.parties-parties.ensures.is))
          (omega arith),
    )

pub loop-mask-preserved : goal.loop-mask-preserved
loop-mask-preserved g c =
    let group : c.group_of_mask-group.result ≡ record { parties = c.parties-parties.result; mask = c.loop-mask.mask } = c.group_of_mask-group.ensures in
    let p : ℕ → Bool = is_maximal (g.F.Family.count c.args.family.now) (g.F.Family.is_tolerated c.args.family.now) in
    elim c.if-is_maximal.branch [
      | then-is_maximal+else-len-eq-MOST_GROUPS+in_ok-push w ↦
          (let e : c.if-is_maximal.groups.items ≡ c.loop-mask.groups.items ++ (c.group_of_mask-group.result ∷ []) = ap (λ v. v.items) w.groups-is ∙ w.in_ok-push.ensures.items in
          record {
            found = more_yes p c.loop-mask.mask c.loop-mask.groups.items c.if-is_maximal.groups.items c.group_of_mask-group.result c.loop-mask.invariant.found
                (ap (λ (m : Members). p m.mask) (sym group) ∙ sym c.is_maximal.ensures ∙ w.if-is_maximal.true) e (ap (λ (m : Members). m.mask) group);
            parties = all_more c.parties-parties.result c.loop-mask.groups.items c.if-is_maximal.groups.items c.group_of_mask-group.result c.loop-mask.invariant.parties e (ap (λ (m : Members). m.parties) group);
            fits = omega (arith, ap length e, length-append c.loop-mask.groups.items (c.group_of_mask-group.result ∷ []), c.loop-mask.invariant.fits, w.if-len-eq-MOST_GROUPS.false);
          })
      | else-is_maximal w ↦
          (let e : c.if-is_maximal.groups.items ≡ c.loop-mask.groups.items = ap (λ v. v.items) w.groups-is in
          record {
            found = ap masks e ∙ c.loop-mask.invariant.found ∙ sym (filter_no p c.loop-mask.mask (ap (λ (m : Members). p m.mask) (sym group) ∙ sym c.is_maximal.ensures ∙ w.if-is_maximal.false));
            parties = rw e c.loop-mask.invariant.parties;
            fits = omega (arith, ap length e);
          })
    ]

pub of-requires-clause-antichain : goal.of-requires-clause-antichain
of-requires-clause-antichain g c =
    let n : ℕ = g.F.Family.count c.args.family.now in
    let t : ℕ → Bool = g.F.Family.is_tolerated c.args.family.now in
    let is = all_found n t c.loop-mask.mask c.parties-parties.result c.loop-mask.groups.items c.loop-mask.invariant.found
    (omega (arith, power_is n (omega arith), ap (λ m. 1 * 2 ^ m % 2 ^ 32) c.parties-parties.ensures.is)) c.parties-parties.ensures.is in
    antichain_found n t (record { parties = c.parties-parties.result; groups = masks c.loop-mask.groups.items }) c.loop-mask.groups.items is refl (omega arith) (omega arith)
    c.parties-parties.ensures.family.nobody c.loop-mask.invariant.fits
