use Rattle.std.proofs.Common.{◌≡◌, ℕ, ◌+◌, ◌%◌, ◌^◌, ◌<◌, List, length, nat_eq, set, sym, ap, ◌∙◌, arith, inl, inr, get_or-set_other, get_or-set_same, length-set}
use Rattle.std.specs.Prelude.{slice_index}
use Rattle.std.proofs.lemmas.Bool.{cases_eq, cond-true, cond-false, eq-eqb, eqb-false, ne_eqb}
use Rattle.std.proofs.lemmas.Grind.{get_or_default_zero}
use Rattle.tape_map.specs.TapeMaps.{raised}
use Rattle.wire_tables.proofs.ListedRows.{listed_of}
use Rattle.tape_map.proofs.change.raised_row.Goals as goal

pub returns : goal.returns
returns c =
    let xs = c.in_ok-raised.raised.items in
    let q : ℕ = 2 ^ c.args.ring in
    let g = c.args.share in
    let new = c.add.result in
    let row : List ℕ = c.args.row.now in
    let is : xs ≡ row = c.in_ok-raised.ensures.items in
    let some : 0 < length row = omega (arith, eqb-false (length row) 0 (sym c.if-is_empty.ensures)) in
    let there : g < length xs = omega (arith, ap length is, (c.requires.row some).0) in
    let word : c.index-word.result.now ≡ slice_index row g = c.index-word.ensures ∙ get_or_default_zero xs g c.index-word.result.now there ∙ ap (λ ys. slice_index ys g) is in
    listed_of 0 (length row) (raised q g c.args.growth (slice_index row)) (set xs g new) (length-set xs g new ∙ ap length is) (λ i li. elim (cases_eq i g) [
      | inl e ↦
          ap (slice_index (set xs g new)) e ∙ get_or-set_same xs g new 0 there ∙ c.add.ensures.is
          ∙ ap (λ z. (z + c.args.growth) % q) (word ∙ ap (slice_index row) (sym e))
          ∙ sym (cond-true (nat_eq i g) ((slice_index row i + c.args.growth) % q) (slice_index row i) (eq-eqb i g e))
      | inr ne ↦
          get_or-set_other xs g i new 0 ne ∙ ap (λ ys. slice_index ys i) is
          ∙ sym (cond-false (nat_eq i g) ((slice_index row i + c.args.growth) % q) (slice_index row i) (ne_eqb i g ne))
    ])
