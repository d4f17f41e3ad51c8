use Rattle.std.proofs.Common.{◌≡◌, ℕ, [], ap, sym, ◌∙◌, arith}
use Rattle.std.specs.Prelude.{count_by, nat_eq}
use Rattle.std.proofs.lemmas.Grind.{common_steps}
use Rattle.session_slots.specs.Sessions.{given_by}
use Rattle.session_slots.proofs.ValueWires.{count_given}
use Rattle.session_slots.proofs.WiringSlots.{all_given}
use Rattle.session_slots.proofs.wiring.Wiring.owned.Goals as goal

pub returns-then-is_empty : goal.returns-then-is_empty
returns-then-is_empty c =
    let w = c.args.self.now in
    let none : w.sources.items ≡ [] = grind (arith, common_steps) in
    let is : c.count_item.result ≡ count_by (λ (q : ℕ). nat_eq q c.args.p) w.owners.items = grind (arith, common_steps) in
    is ∙ count_given c.args.p w.owners.items ∙ ap (count_by (given_by c.args.p)) (sym (all_given w c.requires none))
