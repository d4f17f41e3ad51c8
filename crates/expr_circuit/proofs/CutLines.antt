-- Line by line through a text.
use Rattle.std.proofs.Common.{◌≡◌, ℕ, ◌+◌, inl, inr, List, [], ◌∷◌, length, Result, Ok, Err, refl, sym, ◌∙◌, ap, arith}
use Rattle.line_grammar.specs.Lines.{IsCut}
use Rattle.expr_circuit.specs.declared.fault.ExprFault.{ExprFault}
use Rattle.expr_circuit.specs.Faults.{lines}
use Rattle.expr_circuit.specs.Circuits.{Draft}
use Rattle.expr_circuit.specs.Walks.{line_in, lines_in, lines_after}
use Rattle.list_laws.specs.Answers.{◌>>=◌}
use Rattle.expr_circuit.proofs.LineWalks.{blank_line}

empty_line : (q n : ℕ) (d : Draft) → lines_in q d n ([] ∷ []) ≡ Ok d
unfolding lines_in
empty_line q n d = ap (λ r. r >>= (λ e. lines_in q e (n + 1) [])) (blank_line q d n [] refl)

last_by : (q n : ℕ) (r : Result Draft ExprFault) → r >>= (λ e. lines_in q e (n + 1) []) ≡ r >>= (λ e. lines_in q e (n + 1) ([] ∷ []))
unfolding lines_in
last_by q n (Ok e) = sym (empty_line q (n + 1) e)
last_by q n (Err f) = refl

-- the first line, and then the others
pub cut_in : (q n : ℕ) (d : Draft) (text line rest : List ℕ) → IsCut text line rest → lines_in q d n (lines text) ≡ lines_after q n (line_in q d n line) (lines rest)
unfolding lines_in
cut_in q n d text line rest (inl e) = ap (lines_in q d n) e
cut_in q n d text line rest (inr e) = ap (lines_in q d n) e.0 ∙ last_by q n (line_in q d n line) ∙ ap (λ r. lines_after q n (line_in q d n line) (lines r)) (sym e.1)

-- no lines are left
pub no_line : (q n : ℕ) (d : Draft) (text : List ℕ) → length text ≡ 0 → lines_in q d n (lines text) ≡ Ok d
no_line q n d [] e = empty_line q n d
no_line q n d (c ∷ cs) e = absurd (omega arith)
