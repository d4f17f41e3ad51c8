use Rattle.std.proofs.Common.{◌≡◌, ◌++◌, ◌∷◌, [], length, arith, cond, nat_lt, refl, ◌∙◌, ap, ap₂}
use Rattle.number_compiler.specs.Seen.{seen}
use Rattle.number_compiler.proofs.DraftSteps.{when_ok, output_kept}
use Rattle.number_compiler.proofs.draft.Draft.keep_output.Goals as goal

pub returns-clause-keeps : goal.returns-clause-keeps
returns-clause-keeps c = λ d keeps.
    let before : c.len.result ≡ length c.args.self.now.outputs.items = omega (arith, c.len.ensures) in
    let width : c.len-2.result ≡ length c.args.number.now.bits.items = omega (arith, c.len-2.ensures) in
    when_ok c.push_width.result _ _ c.push_width.ensures (λ e.
    output_kept c.args.self.now _ d (seen c.args.number.now) keeps refl refl refl
    (c.in_ok-push_bits.ensures ∙ ap₂ (λ n xs. cond (nat_lt n 1024) (c.args.self.now.bits.items ++ xs) c.args.self.now.bits.items) before c.deref.ensures.value)
    (e ∙ ap (λ n. c.args.self.now.outputs.items ++ (n ∷ [])) width))
