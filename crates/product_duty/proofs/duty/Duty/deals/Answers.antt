use Rattle.std.proofs.Common.{◌≡◌, ◌<◌, [], not, nat_eq, length, ap, ◌∙◌, sym, ℕ, arith}
use Rattle.std.specs.Global.{Vec}
use Rattle.std.proofs.lemmas.List.{get_or-map, length-map}
use Rattle.party_set.specs.Parties.{Structure}
use Rattle.product_duty.specs.Duties.{pairs_of}
use Rattle.product_duty.proofs.PairDuties.{deals_is}
use Rattle.product_duty.proofs.duty.Duty.deals.Goals as goal

pub returns : goal.returns
returns c = λ bits.
    let party : c.args.p < c.self.inside.parties = omega (arith, ap (λ (s : Structure). s.parties) c.self.view_is) in
    let within : c.args.p < length c.self.inside.pairs.items = omega (arith, c.self.invariant.count, length-map c.self.inside.pairs.items (λ (list : Vec (ℕ × ℕ)). list.items)) in
    let is : c.index.result.now.items ≡ pairs_of c.args.self.now c.args.p =
    ap (λ (list : Vec (ℕ × ℕ)). list.items) c.index.ensures ∙ sym (get_or-map (λ (list : Vec (ℕ × ℕ)). list.items) c.self.inside.pairs.items c.args.p c.index.result.now [] within)
    ∙ c.self.invariant.lists c.args.p party ∙ ap (λ (s : Structure). pairs_of s c.args.p) c.self.view_is in
    ap not (c.is_empty.ensures ∙ ap (λ n. nat_eq n 0) (omega (arith, c.index.result.now.ok) ∙ ap length is)) ∙ deals_is bits c.args.self.now c.args.p
