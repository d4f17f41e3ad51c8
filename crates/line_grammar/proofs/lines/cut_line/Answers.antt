use Rattle.std.proofs.Common.{◌+◌, ◌∷◌, inl, inr, take, refl, sym, ◌∙◌, ap, arith}
use Rattle.std.specs.List.{slice_split}
use Rattle.std.proofs.lemmas.List.{take_rest}
use Rattle.line_grammar.specs.Lines.{is_line_end}
use Rattle.line_grammar.proofs.CutLines.{first_line, last_line}
use Rattle.line_grammar.proofs.lines.cut_line.Goals as goal

pub returns-then-text-at-eq10-clause-cut : goal.returns-then-text-at-eq10-clause-cut
returns-then-text-at-eq10-clause-cut c =
    inl (first_line c.args.text.now c.loop-at.at c.loop-at-test.true c.if-text-at-eq10.true c.loop-at.invariant
    ∙ ap (λ r. take c.loop-at.at c.args.text.now ∷ slice_split is_line_end r) (sym (take_rest c.args.text.now (c.loop-at.at + 1))))

pub returns-clause-cut : goal.returns-clause-cut
returns-clause-cut c = inr (last_line c.args.text.now (λ k l. c.loop-at.invariant k (omega (arith, l, c.loop-at-test.false))), refl)
