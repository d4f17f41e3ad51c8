-- What is answered for the elements of an expression is the value of its term, or the first fault of the expression.
use Rattle.std.proofs.Common.{◌≡◌, ℕ, false, List, [], ◌∷◌, Option, Some, None, Ok, Err, refl, sym, ◌∙◌, ap, subst}
use Rattle.list_laws.specs.Checks.{then_fault}
use Rattle.line_grammar.specs.Grammar.{Expr}
use Rattle.line_grammar.specs.Postfix.{post}
use Rattle.number_gates.specs.Steps.{Kept, Runs}
use Rattle.number_circuit.specs.declared.fault.NumberFault.{NumberFault}
use Rattle.number_circuit.specs.declared.fault.NumberFault.TheVariants.{UnknownName, TooWide, BadConstant, NotUtf8, Syntax, TooDeep, TwiceNamed, TooLarge, BadWidth, Memory}
use Rattle.number_circuit.specs.Values.{bound}
use Rattle.number_circuit.specs.Programs.{term}
use Rattle.number_circuit.specs.Faults.{of_name, bad}
use Rattle.number_circuit.specs.Walks.{elements_in}
use Rattle.number_circuit.proofs.BoundWalks.{walk_expr}
use Rattle.number_compiler.specs.declared.number.Number.{Number}
use Rattle.number_compiler.specs.Terms.{Value, steps_of}
use Rattle.number_compiler.specs.Circuits.{Names, value_of}
use Rattle.number_compiler.specs.Elements.{top_value, bounds_of, mosts}
use Rattle.number_compiler.specs.Seen.{seen}
use Rattle.number_compiler.specs.Moves.{Fails, Expresses}
use Rattle.number_compiler.proofs.ElementWalks.{walk_all}

-- the term's value was answered, and the expression has no fault
pub record IsTerm (of : Names) (line : List ℕ) (n : ℕ) (e : Expr) (old : Kept) (v : Value) (new : Kept) : Type 0 where
  pub good : bad (bounds_of of) line n e ≡ None
  pub most : v.most ≡ bound (of_name (bounds_of of)) (term line e)
  pub made : Runs (steps_of (value_of of) (term line e)) old v new

none_bad : (o : Option NumberFault) (x y : ℕ) → then_fault o (Ok (x ∷ [])) ≡ Ok (y ∷ []) → (o ≡ None) × (y ≡ x)
none_bad None x y e = (refl, (let s : y ≡ x = cc in s))
none_bad (Some f) x y e = cc

some_bad : (o : Option NumberFault) (x : ℕ) (f : NumberFault) → then_fault o (Ok (x ∷ [])) ≡ Err f → o ≡ Some f
some_bad None x f e = cc
some_bad (Some g) x f e = ap Some (let s : g ≡ f = cc in s)

pub expressed : (of : Names) (line : List ℕ) (n : ℕ) (e : Expr) (old new : Kept) (c : Number) → Expresses of line n (post e []) old (Ok c) new → IsTerm of line n e old (seen c) new
expressed of line n e old new c h =
    let all = walk_all of line e old new h.0 h.2 in
    let is : seen c ≡ all.0 = h.3 ∙ ap top_value all.1 in
    let bounds = none_bad (bad (bounds_of of) line n e) (bound (of_name (bounds_of of)) (term line e)) all.0.most (sym (walk_expr (bounds_of of) line n e [] [] false) ∙ h.1 ∙ ap (λ us. Ok (mosts us)) all.1) in
    record {
      good = bounds.0;
      most = ap (λ (v : Value). v.most) is ∙ bounds.1;
      made = subst (λ (v : Value). Runs (steps_of (value_of of) (term line e)) old v new) (sym is) all.2;
    }

-- the fault that was answered is the first of the expression, unless memory ran out
abbrev pub IsFirstOf : NumberFault → Option NumberFault → Type 0
IsFirstOf Memory o = Unit {0}
IsFirstOf fault o = o ≡ Some fault

pub refused : (of : Names) (line : List ℕ) (n : ℕ) (e : Expr) (f : NumberFault) → Fails f (elements_in (bounds_of of) line n false (post e []) []) → IsFirstOf f (bad (bounds_of of) line n e)
refused of line n e f h = go f h
  where
    told : (f : NumberFault) → elements_in (bounds_of of) line n false (post e []) [] ≡ Err f → bad (bounds_of of) line n e ≡ Some f
    told f h = some_bad (bad (bounds_of of) line n e) (bound (of_name (bounds_of of)) (term line e)) f (sym (walk_expr (bounds_of of) line n e [] [] false) ∙ h)

    go : (f : NumberFault) → Fails f (elements_in (bounds_of of) line n false (post e []) []) → IsFirstOf f (bad (bounds_of of) line n e)
    go Memory h = tt
    go (NotUtf8 at) h = told (NotUtf8 at) h
    go (Syntax line at) h = told (Syntax line at) h
    go (UnknownName line at) h = told (UnknownName line at) h
    go (BadConstant line at) h = told (BadConstant line at) h
    go (TooDeep line at) h = told (TooDeep line at) h
    go (TwiceNamed line) h = told (TwiceNamed line) h
    go TooLarge h = told TooLarge h
    go (TooWide line at) h = told (TooWide line at) h
    go (BadWidth line at) h = told (BadWidth line at) h
