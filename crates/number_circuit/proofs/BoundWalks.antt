-- What a reader answers for an expression is its bound, or its first fault.
use Rattle.std.proofs.Common.{◌≡◌, ℕ, Bool, true, false, cond, List, ◌∷◌, Option, Some, None, Result, Ok, Err, refl, ◌∙◌, ap}
use Rattle.std.specs.Prelude.{is_some, unwrap_or}
use Rattle.std.specs.Option.{option_or}
use Rattle.list_laws.specs.Answers.{◌>>=◌}
use Rattle.list_laws.specs.Checks.{then_fault}
use Rattle.line_grammar.specs.declared.element.ExprElement.{ExprElement}
use Rattle.line_grammar.specs.declared.element.ExprElement.TheVariants as elements
use Rattle.line_grammar.specs.Grammar.{Expr}
use Rattle.line_grammar.specs.Grammar.Expr.{number, named, grouped, paired, prefixed, infixed, chosen}
use Rattle.line_grammar.specs.Postfix.{post}
use Rattle.number_circuit.specs.declared.fault.NumberFault.{NumberFault}
use Rattle.number_circuit.specs.declared.fault.NumberFault.TheVariants.{UnknownName, BadConstant, TooWide}
use Rattle.number_circuit.specs.Values.{is_number, bound}
use Rattle.number_circuit.specs.Values.Term.{operation}
use Rattle.number_circuit.specs.Programs.{term}
use Rattle.line_grammar.specs.Places.{name_at, number_at}
use Rattle.number_circuit.specs.Faults.{Bounds, of_name, fits, bad, too_wide}
use Rattle.number_circuit.specs.Walks.{named_bound, elements_in}

one_then : (x y : Option NumberFault) (r : Result (List ℕ) NumberFault) → then_fault x (then_fault y r) ≡ then_fault (option_or x y) r
one_then None y r = refl
one_then (Some f) y r = refl

named_case : (n at : ℕ) (bs : List ℕ) (o : Option ℕ) (k : List ℕ → Result (List ℕ) NumberFault)
    → named_bound n at bs o >>= k ≡ then_fault (cond (is_some o) None (Some (UnknownName n at))) (k (unwrap_or o 0 ∷ bs))
named_case n at bs None k = refl
named_case n at bs (Some b) k = refl

fits_case : (b : ℕ) (bs : List ℕ) (f : NumberFault) (t : Bool) (k : List ℕ → Result (List ℕ) NumberFault)
    → cond t (Ok (b ∷ bs)) (Err f) >>= k ≡ then_fault (cond t None (Some f)) (k (b ∷ bs))
fits_case b bs f true k = refl
fits_case b bs f false k = refl

module _ (known : Bounds) (line : List ℕ) (n : ℕ) where
  abbrev bound_of : Expr → ℕ
  bound_of e = bound (of_name known) (term line e)

  -- the walk over an expression
  pub walk_expr : (e : Expr) (rest : List ExprElement) (bs : List ℕ) (by_number : Bool) → elements_in known line n by_number (post e rest) bs ≡ then_fault (bad known line n e) (elements_in known line n (is_number (term line e)) rest (bound_of e ∷ bs))
  walk_expr (number at) rest bs by_number = fits_case (number_at line at) bs (BadConstant n at) (fits (number_at line at)) (elements_in known line n true rest)
  walk_expr (named at) rest bs by_number = named_case n at bs (known (name_at line at)) (elements_in known line n false rest)
  walk_expr (grouped e) rest bs by_number = walk_expr e rest bs by_number
  walk_expr (paired p a b) rest bs by_number =
      walk_expr a (post b (elements.Pair p ∷ rest)) bs by_number
      ∙ ap (then_fault (bad known line n a)) (walk_expr b (elements.Pair p ∷ rest) (bound_of a ∷ bs) (is_number (term line a)))
      ∙ one_then (bad known line n a) (bad known line n b) (elements_in known line n false rest (bound_of (paired p a b) ∷ bs))
  walk_expr (prefixed x at e) rest bs by_number = walk_expr e (elements.Prefix x ∷ rest) bs by_number
  walk_expr (infixed o at a b) rest bs by_number =
      let wide : Option NumberFault = too_wide known n at (operation o (term line a) (term line b)) in
      let more = elements_in known line n false rest (bound_of (infixed o at a b) ∷ bs) in
      walk_expr a (post b (elements.Infix o at ∷ rest)) bs by_number
      ∙ ap (then_fault (bad known line n a))
      (walk_expr b (elements.Infix o at ∷ rest) (bound_of a ∷ bs) (is_number (term line a))
      ∙ ap (then_fault (bad known line n b)) (fits_case (bound_of (infixed o at a b)) bs (TooWide n at) (fits (bound_of (infixed o at a b))) (elements_in known line n false rest))
      ∙ one_then (bad known line n b) wide more)
      ∙ one_then (bad known line n a) (option_or (bad known line n b) wide) more
  walk_expr (chosen c a b) rest bs by_number =
      let more = elements_in known line n false rest (bound_of (chosen c a b) ∷ bs) in
      walk_expr c (post a (post b (elements.Choose ∷ rest))) bs by_number
      ∙ ap (then_fault (bad known line n c))
      (walk_expr a (post b (elements.Choose ∷ rest)) (bound_of c ∷ bs) (is_number (term line c))
      ∙ ap (then_fault (bad known line n a)) (walk_expr b (elements.Choose ∷ rest) (bound_of a ∷ bound_of c ∷ bs) (is_number (term line a)))
      ∙ one_then (bad known line n a) (bad known line n b) more)
      ∙ one_then (bad known line n c) (option_or (bad known line n a) (bad known line n b)) more
