use Rattle.std.proofs.Common.{◌≡◌, [], ◌∷◌, refl, sym, ap, ◌∙◌, arith}
use Rattle.std.proofs.lemmas.Bool.Decides.{nat_tests}
use Rattle.view_check.specs.Lines.{lines_of}
use Rattle.view_check.proofs.TextLines.{lines-none, lines-last, lines-cut}
use Rattle.view_check.proofs.text_lines.TextLines.next_line.Goals as goal

pub returns-then-is_empty : goal.returns-then-is_empty
returns-then-is_empty c = let z : c.args.self.now ≡ [] = sym c.self.view_is ∙ lines-none c.self.inside.rest.now (grind (arith, nat_tests)) in (z, z)

pub returns-in-Some : goal.returns-in-Some
returns-in-Some c = sym c.self.view_is ∙ lines-cut c.self.inside.rest.now c.in-Some.line.now c.in-Some.rest.now c.in-Some.ensures ∙ ap (λ line. line ∷ lines_of c.in-Some.rest.now) (sym c.without_cr.ensures)

pub returns-in-None : goal.returns-in-None
returns-in-None c = sym c.self.view_is ∙ lines-last c.self.inside.rest.now (grind (arith, nat_tests)) c.in-None.ensures ∙ ap (λ ls. c.self.inside.rest.now ∷ ls) (sym (lines-none [] refl))
