use Rattle.std.proofs.Common.{refl, ◌∙◌, ap₂, subst, arith, ◌++◌, ◌∷◌, []}
use Rattle.number_compiler.specs.Named.{Binds}
use Rattle.number_compiler.specs.Seen.{seen}
use Rattle.number_compiler.proofs.InputSteps.{input_made}
use Rattle.number_compiler.proofs.DraftSteps.{input_takes}
use Rattle.number_compiler.proofs.draft.Draft.named_input.Goals as goal

pub returns : goal.returns
returns c = λ d width keeps is wide.
    input_takes d c.args.line.now.text.now c.args.line.now.number c.args.name width c.args.self.now _ (seen c.in_ok-number.number) c.bind.result keeps wide
    (c.in_ok-number.ensures ∙ input_made c.args.ring c.args.self.now.wires c.in-Some.end d.wires _ is keeps.wires (omega (arith, c.bits-width.ensures.is, is)))
    (subst (λ x. Binds d.of c.args.line.now.number x (seen c.in_ok-number.number) c.bind.result c.bind.new.self) c.word_bytes.ensures (c.bind.ensures d.of keeps.names))
    refl (omega (arith, keeps.wires, is)) (c.in_ok-push_width.ensures ∙ ap₂ (λ ws w. ws ++ (w ∷ [])) keeps.inputs (c.bits-width.ensures.is ∙ is)) refl refl
