-- Programs whose names are known and whose numbers are below the modulus.
use Rattle.std.proofs.Common.{◌≡◌, ℕ, ◌+◌, ◌<◌, Bool, true, false, cond, List, [], ◌∷◌, Option, Some, None, refl, sym, subst, inl, inr}
use Rattle.std.specs.Prelude.{nat_lt}
use Rattle.std.specs.Option.{option_or}
use Rattle.std.proofs.lemmas.Bool.{ltb-true}
use Rattle.expr_circuit.specs.declared.fault.ExprFault.{ExprFault}
use Rattle.expr_circuit.specs.declared.fault.ExprFault.TheVariants.{UnknownName, BadConstant}
use Rattle.line_grammar.specs.declared.dialect.Dialect.TheVariants.{Words}
use Rattle.line_grammar.specs.declared.operator.Infix.{Infix}
use Rattle.line_grammar.specs.declared.operator.Infix.TheVariants as infixes
use Rattle.line_grammar.specs.Dialects.{has_infix}
use Rattle.line_grammar.specs.Grammar.{Expr, LineForm, IsExpr, IsLine}
use Rattle.line_grammar.specs.Grammar.Expr.{number, named, grouped, paired, prefixed, infixed, chosen}
use Rattle.line_grammar.specs.Grammar.LineForm.{input_line, wide_input_line, let_line, output_line}
use Rattle.line_grammar.specs.LineFaults.{shallow}
use Rattle.expr_circuit.specs.Programs.{Term, Statement, operation, term, statement}
use Rattle.line_grammar.specs.Places.{name_at, number_at}
use Rattle.expr_circuit.specs.Programs.Term.{constant, variable, negative, sum, subtraction, product}
use Rattle.expr_circuit.specs.Programs.Statement.{input, define, output}
use Rattle.expr_circuit.specs.Faults.{bad, bad_line, twice, knows, AreLines}

-- the names of a term are known, and its numbers are below q
abbrev pub IsGood : ℕ → (List ℕ → Bool) → Term → Type 0
IsGood q known (constant n) = n < q
IsGood q known (variable x) = known x ≡ true
IsGood q known (negative t) = IsGood q known t
IsGood q known (sum s t) = IsGood q known s × IsGood q known t
IsGood q known (subtraction s t) = IsGood q known s × IsGood q known t
IsGood q known (product s t) = IsGood q known s × IsGood q known t

abbrev pub IsGoodStatement : ℕ → (List ℕ → Bool) → Statement → Type 0
IsGoodStatement q known (input x) = Unit {0}
IsGoodStatement q known (define x t) = IsGood q known t
IsGoodStatement q known (output t) = IsGood q known t

abbrev pub AreGood : ℕ → (List ℕ → Bool) → List Statement → Type 0
AreGood q known [] = Unit {0}
AreGood q known (s ∷ p) = IsGoodStatement q known s × AreGood q (knows known s) p

neither : {F : Type 0} (x y : Option F) → option_or x y ≡ None → (x ≡ None) × (y ≡ None)
neither None y e = (refl, e)
neither (Some f) y e = cc

known_if : (b : Bool) (f : ExprFault) → cond b None (Some f) ≡ None → b ≡ true
known_if true f e = refl
known_if false f e = cc

good_operation : (q : ℕ) (known : List ℕ → Bool) (o : Infix) (s t : Term) → has_infix Words o ≡ true → IsGood q known s → IsGood q known t → IsGood q known (operation o s t)
good_operation q known infixes.Add s t has a b = (a, b)
good_operation q known infixes.Subtract s t has a b = (a, b)
good_operation q known infixes.Multiply s t has a b = (a, b)
good_operation q known _ s t has a b = cc

good_expr : (q : ℕ) (known : List ℕ → Bool) (line : List ℕ) (n m : ℕ) (e : Expr) → IsExpr Words shallow m e → bad q known line n e ≡ None → IsGood q known (term line e)
good_expr q known line n m (number at) is h = ltb-true (number_at line at) q (known_if (nat_lt (number_at line at) q) (BadConstant n at) h)
good_expr q known line n m (named at) is h = known_if (known (name_at line at)) (UnknownName n at) h
good_expr q known line n m (grouped e) is h = good_expr q known line n (m + 1) e is.1 h
good_expr q known line n m (prefixed x at e) is h = good_expr q known line n (m + 1) e is.3 h
good_expr q known line n m (infixed o at a b) is h =
    let none = neither (bad q known line n a) (bad q known line n b) h in
    good_operation q known o (term line a) (term line b) is.0 (good_expr q known line n m a is.3 none.0) (good_expr q known line n m b is.4 none.1)
good_expr q known line n m (paired p a b) is h = let no : false ≡ true = is.0 in cc
good_expr q known line n m (chosen c a b) is h = let no : false ≡ true = is.0 in cc

good_line : (q : ℕ) (known : List ℕ → Bool) (line : List ℕ) (n : ℕ) (l : LineForm) → IsLine Words shallow l → bad_line q known line n l ≡ None → IsGoodStatement q known (statement line l)
good_line q known line n (input_line x) is h = tt
good_line q known line n (wide_input_line x w) is h = tt
good_line q known line n (let_line x e) is h = good_expr q known line n 0 e is (neither (bad q known line n e) (twice known line n x) h).0
good_line q known line n (output_line e) is h = good_expr q known line n 0 e is h

-- what lines say is good
pub good_lines : (q : ℕ) (known : List ℕ → Bool) (n : ℕ) (lines : List (List ℕ)) (p : List Statement) → AreLines q known n lines p → AreGood q known p
good_lines q known n [] p h = subst (AreGood q known) (sym h) tt
good_lines q known n (line ∷ lines) p h = elim h [
  | inl blank ↦ good_lines q known (n + 1) lines p blank.1
  | inr next ↦ (let says = next.3 in
      subst (AreGood q known) (sym next.2)
      (subst (IsGoodStatement q known) (sym says.meant) (good_line q known line n says.form.form says.form.is says.good), good_lines q (knows known next.0) (n + 1) lines next.1 next.4))
]
