use Rattle.std.proofs.Common.{◌≡◌, ◌+◌, if◌then◌else◌, List, length, ap, ap₂, ◌∙◌}
use Rattle.program_model.specs.declared.half.Half.TheVariants.{Head, Tail}
use Rattle.party_program.specs.declared.step.Step.{Step}
use Rattle.party_program.proofs.GrownDeals.{as_number}
use Rattle.party_program.proofs.deals.count_products.Goals as goal

-- as many as the steps of both halves
both : (a b x y : List Step) → a ≡ x → b ≡ y → length a + length b ≡ length x + length y
both a b x y = ap₂ (λ (u v : List Step). length u + length v)

pub returns : goal.returns
returns c =
    let own = c.args.own.now in
    let plan = own.plan.now in
    let p = own.party in
    let s = own.session in
    let heads = c.requires.heads in
    let tails = c.requires.tails in
    record {
      mask = both _ _ _ _ (c.of_mask.ensures plan p s Head heads) (c.of_mask-2.ensures plan p s Tail tails);
      product = both _ _ _ _ (c.of_product.ensures plan p s Head heads) (c.of_product-2.ensures plan p s Tail tails);
      opening = both _ _ _ _ (c.of_opening.ensures plan p s Head heads) (c.of_opening-2.ensures plan p s Tail tails);
      join = both _ _ _ _ (c.of_join.ensures plan p s Head heads) (c.of_join-2.ensures plan p s Tail tails);
      deals = c.from.ensures ∙ as_number c.multiplies.result ∙ ap (λ b. if b then 1 else 0) c.multiplies.ensures;
    }
