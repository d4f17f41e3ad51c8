use Rattle.std.proofs.Common.{◌≡◌, true, [], sym, ap, ap₂, ◌∙◌, nat_eq, ◌++◌, ◌%◌}
use Rattle.std.specs.Prelude.{not, codes}
use Rattle.list_laws.specs.Lists.{only_if}
use Rattle.party_set.specs.Parties.{has_party}
use Rattle.outer_io.proofs.GatheredTexts.{adds_then}
use Rattle.text_parts.proofs.GatheredTexts.{adds_same}
use Rattle.text_parts.proofs.Members.{member_is}
use Rattle.text_parts.proofs.gathered.gather_member.Goals as goal

pub returns : goal.returns
returns g c =
    let has : has_party c.args.group.mask c.args.party ≡ true = sym c.has.ensures ∙ c.if-not-has.false in
    adds_same _ _ _ _
    (member_is c.args.names.now c.args.group.mask c.args.party _ [] _ c.name.result.now has c.party_mask.ensures c.name.ensures
    (ap₂ (λ x y. x ++ y) (ap (λ m. only_if (not (nat_eq (m % c.party_mask.result) 0)) (codes "+")) c.mask.ensures.is) c.as_bytes.ensures.value))
    (adds_then _ _ _ _ _ c.gather_plus.ensures c.push.ensures)
