use Rattle.std.proofs.Common.{◌≡◌, ℕ, [], sym, ap, ◌∙◌, arith}
use Rattle.std.specs.Prelude.{slice_index, slice_index_or}
use Rattle.std.proofs.lemmas.Grind.{common_steps, get_or_default_zero}
use Rattle.std.proofs.lemmas.List.{get_or-map}
use Rattle.session_slots.specs.declared.source.Source.TheVariants.{Given}
use Rattle.session_slots.proofs.WiringSlots.{all_given}
use Rattle.session_slots.proofs.wiring.Wiring.source.Goals as goal

pub returns-then-is_empty : goal.returns-then-is_empty
returns-then-is_empty c =
    let w = c.args.self.now in
    let v = c.args.v in
    let none : w.sources.items ≡ [] = grind (arith, common_steps) in
    let is : c.index.result.now ≡ slice_index w.owners.items v = c.index.ensures ∙ get_or_default_zero w.owners.items v c.index.result.now c.requires.within in
    ap (λ (p : ℕ). Given p) is
    ∙ sym (ap (λ xs. slice_index_or xs v (Given 0)) (all_given w c.requires.wiring none) ∙ get_or-map (λ (p : ℕ). Given p) w.owners.items v 0 (Given 0) c.requires.within)
