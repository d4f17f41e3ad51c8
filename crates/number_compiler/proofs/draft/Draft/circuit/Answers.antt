use Rattle.std.proofs.Common.{◌≡◌, ◌++◌, false, map, refl, sym, ◌∙◌, ap₂}
use Rattle.number_compiler.specs.Circuits.{copy, has_large_circuit}
use Rattle.number_compiler.proofs.Sizes.{large_of, assembled_is, assembled_valid}
use Rattle.number_compiler.proofs.draft.Draft.circuit.Goals as goal

pub returns-then-is_large : goal.returns-then-is_large
returns-then-is_large c = λ p h. (large_of c.args.self.now p h ∙ sym (c.is_large.ensures h.draft h.keeps) ∙ c.if-is_large.true, refl)

pub assemble-requires : goal.assemble-requires
assemble-requires c =
    let p = c.requires.0 in
    let h = c.requires.1 in
    let small : has_large_circuit p ≡ false = large_of c.args.self.now p h ∙ sym (c.is_large.ensures h.draft h.keeps) ∙ c.if-is_large.false in
    assembled_valid c.args.self.now p h c.deref-2.result.now c.deref-3.result.now c.deref-4.result.now small
    (c.deref-2.ensures.value ∙ c.in_ok-gates.ensures ∙ ap₂ (λ xs ys. xs ++ map copy ys) c.drafted.ensures c.deref.ensures.value) c.deref-3.ensures.value c.deref-4.ensures.value

pub returns : goal.returns
returns c = λ p h.
    let small : has_large_circuit p ≡ false = large_of c.args.self.now p h ∙ sym (c.is_large.ensures h.draft h.keeps) ∙ c.if-is_large.false in (
      small,
      c.in_ok-assemble.ensures ∙ assembled_is c.args.self.now p h c.deref-2.result.now c.deref-3.result.now c.deref-4.result.now small
          (c.deref-2.ensures.value ∙ c.in_ok-gates.ensures ∙ ap₂ (λ xs ys. xs ++ map copy ys) c.drafted.ensures c.deref.ensures.value) c.deref-3.ensures.value c.deref-4.ensures.value,
    )
