-- Of a program that a text is, no bound is 2^64 or more.
use Rattle.std.proofs.Common.{◌≡◌, ℕ, ◌+◌, ◌^◌, ◌<◌, ◌≤◌, nat_lt, nat_le, inl, inr, Bool, true, false, ◌&&◌, cond, List, [], ◌∷◌, Option, None, Some, refl, sym, ap, ◌∙◌, subst, arith}
use Rattle.std.specs.List.{AllByRecursion}
use Rattle.std.specs.Option.{option_or, unwrap_or}
use Rattle.std.specs.Str.{bytes_eq}
use Rattle.std.proofs.lemmas.Bool.{ltb-true, leb-true}
use Rattle.std.proofs.Math.Nat.{pow-le-pow_right}
use Rattle.circuit_model.proofs.SetWires.{funext}
use Rattle.line_grammar.specs.Grammar.{Expr, LineForm}
use Rattle.line_grammar.specs.Grammar.Expr.{number, named, grouped, paired, prefixed, infixed, chosen}
use Rattle.line_grammar.specs.Grammar.LineForm.{input_line, wide_input_line, let_line, output_line}
use Rattle.line_grammar.specs.declared.operator.Pair.TheVariants.{Least, Most}
use Rattle.number_circuit.specs.declared.fault.NumberFault.{NumberFault}
use Rattle.number_circuit.specs.Values.{bound}
use Rattle.number_circuit.specs.Values.Term.{operation}
use Rattle.number_circuit.specs.Programs.{Statement, statement, term, bind, widest, bounds_after, program_bounds}
use Rattle.number_circuit.specs.Programs.Statement.{output}
use Rattle.line_grammar.specs.Places.{number_at}
use Rattle.number_circuit.specs.Faults.{Bounds, of_name, bad, bad_line, bad_width, too_wide, fits, knows, none_known, AreLines}

-- no bound that is known is 2^64 or more
abbrev DoFit : Bounds → Type 0
DoFit known = (x : List ℕ) → of_name known x < 2 ^ 64

unless_bad : {A : Type 0} (b : Bool) (fault : A) → cond b None (Some fault) ≡ None → b ≡ true
unless_bad true fault e = refl
unless_bad false fault e = cc

none_first : {A : Type 0} (a b : Option A) → option_or a b ≡ None → (a ≡ None) × (b ≡ None)
none_first None b e = (refl, e)
none_first (Some a) b e = cc

module _ (known : Bounds) (fit : DoFit known) (line : List ℕ) (n : ℕ) where
  bound_fits : (e : Expr) → bad known line n e ≡ None → bound (of_name known) (term line e) < 2 ^ 64
  bound_fits (number at) good = ltb-true (number_at line at) (2 ^ 64) (unless_bad (fits (number_at line at)) _ good)
  bound_fits (named at) good = fit _
  bound_fits (grouped e) good = bound_fits e good
  bound_fits (paired Least a b) good =
      let both = none_first (bad known line n a) (bad known line n b) good in
      let one = bound_fits a both.0 in
      omega (arith, one)
  bound_fits (paired Most a b) good =
      let both = none_first (bad known line n a) (bad known line n b) good in
      let one = bound_fits a both.0 in
      let two = bound_fits b both.1 in
      omega (arith, one, two)
  bound_fits (prefixed x at e) good = omega arith
  bound_fits (infixed o at a b) good =
      let both = none_first (bad known line n a) _ good in
      let last = none_first (bad known line n b) (too_wide known n at (operation o (term line a) (term line b))) both.1 in
      ltb-true (bound (of_name known) (operation o (term line a) (term line b))) (2 ^ 64) (unless_bad (fits (bound (of_name known) (operation o (term line a) (term line b)))) _ last.1)
  bound_fits (chosen c a b) good =
      let both = none_first (bad known line n c) _ good in
      let last = none_first (bad known line n a) (bad known line n b) both.1 in
      let one = bound_fits a last.0 in
      let two = bound_fits b last.1 in
      omega (arith, one, two)

-- a name more
bound_more : (known : Bounds) (x : List ℕ) (m : ℕ) → of_name (bind known x (Some m)) ≡ bind (of_name known) x m
bound_more known x m = funext _ _ (λ y. either y (bytes_eq x y))
  where
    either : (y : List ℕ) (b : Bool) → unwrap_or (cond b (Some m) (known y)) 0 ≡ cond b m (unwrap_or (known y) 0)
    either y true = refl
    either y false = refl

fit_more : (known : Bounds) (x : List ℕ) (m : ℕ) → DoFit known → m < 2 ^ 64 → DoFit (bind known x (Some m))
fit_more known x m fit l y = either (bytes_eq x y)
  where
    either : (b : Bool) → unwrap_or (cond b (Some m) (known y)) 0 < 2 ^ 64
    either true = l
    either false = fit y

line_known : (known : Bounds) → DoFit known → (line : List ℕ) (n : ℕ) (form : LineForm) → bad_line known line n form ≡ None → DoFit (knows known (statement line form))
line_known known fit line n (input_line x) good = fit_more known _ 0 fit (omega arith)
line_known known fit line n (wide_input_line x w) good =
    let first = none_first (bad_width line n w) _ good in
    let width = both_true (nat_lt 0 (number_at line w)) (nat_le (number_at line w) 64) (unless_bad (nat_lt 0 (number_at line w) && nat_le (number_at line w) 64) _ first.0) in
    let few : 2 ^ number_at line w ≤ 2 ^ 64 = pow-le-pow_right (omega arith) (leb-true (number_at line w) 64 width) in
    fit_more known _ (widest (number_at line w)) fit (omega (arith, few))
  where
    both_true : (a b : Bool) → (a && b) ≡ true → b ≡ true
    both_true true b e = e
    both_true false b e = cc
line_known known fit line n (let_line x e) good =
    let first = none_first (bad known line n e) _ good in
    fit_more known _ (bound (of_name known) (term line e)) fit (bound_fits known fit line n e first.0)
line_known known fit line n (output_line e) good = fit

abbrev pub DoAllFit : List ℕ → Type 0
DoAllFit bounds = AllByRecursion (λ m. m < 2 ^ 64) bounds

line_fits : (known : Bounds) → DoFit known → (line : List ℕ) (n : ℕ) (form : LineForm) (rest : List Statement) → bad_line known line n form ≡ None → DoAllFit (bounds_after (of_name (knows known (statement line form))) rest)
    → DoAllFit (bounds_after (of_name known) (statement line form ∷ rest))
line_fits known fit line n (input_line x) rest good more = subst (λ of. DoAllFit (bounds_after of rest)) (bound_more known _ 0) more
line_fits known fit line n (wide_input_line x w) rest good more = subst (λ of. DoAllFit (bounds_after of rest)) (bound_more known _ (widest (number_at line w))) more
line_fits known fit line n (let_line x e) rest good more = subst (λ of. DoAllFit (bounds_after of rest)) (bound_more known _ (bound (of_name known) (term line e))) more
line_fits known fit line n (output_line e) rest good more = (bound_fits known fit line n e good, more)

lines_fit : (known : Bounds) → DoFit known → (n : ℕ) (lines : List (List ℕ)) (p : List Statement) → AreLines known n lines p → DoAllFit (bounds_after (of_name known) p)
lines_fit known fit n [] p e = subst (λ p. DoAllFit (bounds_after (of_name known) p)) (sym e) tt
lines_fit known fit n (line ∷ lines) p (inl (blank, rest)) = lines_fit known fit (n + 1) lines p rest
lines_fit known fit n (line ∷ lines) p (inr (s, rest, e, says, more)) =
    let form : LineForm = says.form.form in
    let meant : s ≡ statement line form = says.meant in
    let next : DoFit (knows known (statement line form)) = line_known known fit line n form says.good in
    let later : DoAllFit (bounds_after (of_name (knows known (statement line form))) rest) = lines_fit (knows known (statement line form)) next (n + 1) lines rest (subst (λ s. AreLines (knows known s) (n + 1) lines rest) meant more) in
    subst (λ p. DoAllFit (bounds_after (of_name known) p)) (ap (λ s. s ∷ rest) (sym meant) ∙ sym e) (line_fits known fit line n form rest says.good later)

-- no output line's bound is 2^64 or more
pub bounds_fit : (lines : List (List ℕ)) (p : List Statement) → AreLines none_known 1 lines p → DoAllFit (program_bounds p)
bounds_fit lines p said = lines_fit none_known (λ x. omega arith) 1 lines p said
