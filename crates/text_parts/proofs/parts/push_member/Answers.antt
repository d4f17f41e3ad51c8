use Rattle.std.proofs.Common.{◌≡◌, true, ◌∙◌, sym, ap, ap₂, nat_eq, ◌++◌, ◌%◌}
use Rattle.std.specs.Prelude.{not, codes}
use Rattle.list_laws.specs.Lists.{only_if}
use Rattle.party_set.specs.Parties.{has_party}
use Rattle.text_parts.proofs.Members.{member_is, on_ok}
use Rattle.text_parts.proofs.parts.push_member.Goals as goal

pub returns : goal.returns
returns c =
    let has : has_party c.args.group.mask c.args.party ≡ true = sym c.has.ensures ∙ c.if-not-has.false in
    on_ok c.push_text.result _ _ (λ e. member_is c.args.names.now c.args.group.mask c.args.party _ c.args.text.now.items _ c.name.result.now has c.party_mask.ensures c.name.ensures (e ∙ ap₂ (λ x y. x ++ y) (c.in_ok-push_plus.ensures ∙ ap (λ m. c.args.text.now.items ++ only_if (not (nat_eq (m % c.party_mask.result) 0)) (codes "+")) c.mask.ensures.is) c.as_bytes.ensures.value)) c.push_text.ensures
