-- Each formula is read to its end.
use Rattle.std.proofs.Common.{◌≡◌, ℕ, List, [], ◌∷◌, ◌++◌, Option, Some, None, refl, sym, ◌∙◌, ap, subst, append_assoc, append-nil}
use Rattle.group_formula.specs.declared.token.FormulaToken.{FormulaToken}
use Rattle.group_formula.specs.declared.token.FormulaToken.TheVariants.{Name, Of, Bar, Ampersand, Open, Close, Comma}
use Rattle.group_formula.specs.Grammar.{IsViable, Expr, Term, Factor, Parts, spell, spell_term, spell_factor, spell_parts}
use Rattle.group_formula.specs.Grammar.Expr.{one_term, or_term}
use Rattle.group_formula.specs.Grammar.Term.{one_factor, and_factor}
use Rattle.group_formula.specs.Grammar.Factor.{named, grouped, counted}
use Rattle.group_formula.specs.Grammar.Parts.{one_part, more_parts}
use Rattle.group_formula.specs.Machine.{Level, Pending, MachineState, join_term, join_expr, join_parts, take_factor, close, separate, step}
use Rattle.group_formula.proofs.MachineSteps.{goes_on, run, read_ors, read, read_step, read_close, spell_joined_expr}
use Rattle.group_formula.specs.Machine.Level.{level}
use Rattle.group_formula.specs.Machine.Pending.{plain, listed}
use Rattle.group_formula.specs.Machine.MachineState.{want, want_of, want_open, have}

-- after an expression
abbrev pub have_expr : Expr → List Pending → MachineState
have_expr (one_term t) fs = have None t fs
have_expr (or_term e t) fs = have (Some e) t fs

after_bar : (e : Expr) (fs : List Pending) → step (have_expr e fs) Bar ≡ Some (want (level (Some e) None) fs)
after_bar (one_term t) fs = refl
after_bar (or_term e t) fs = refl

after_close : (e : Expr) (fs : List Pending) → step (have_expr e fs) Close ≡ close e fs
after_close (one_term t) fs = refl
after_close (or_term e t) fs = refl

after_comma : (e : Expr) (fs : List Pending) → step (have_expr e fs) Comma ≡ separate e fs
after_comma (one_term t) fs = refl
after_comma (or_term e t) fs = refl

abbrev pub have_parts : Parts → ℕ → Level → List Pending → MachineState
have_parts (one_part e) n l fs = have_expr e (listed n l None ∷ fs)
have_parts (more_parts ps e) n l fs = have_expr e (listed n l (Some ps) ∷ fs)

parts_comma : (ps : Parts) (n : ℕ) (l : Level) (fs : List Pending) → step (have_parts ps n l fs) Comma ≡ Some (want (level None None) (listed n l (Some ps) ∷ fs))
parts_comma (one_part e) n l fs = after_comma e (listed n l None ∷ fs)
parts_comma (more_parts ps e) n l fs = after_comma e (listed n l (Some ps) ∷ fs)

parts_close : (ps : Parts) (n : ℕ) (l : Level) (fs : List Pending) → step (have_parts ps n l fs) Close ≡ Some (take_factor l (counted n ps) fs)
parts_close (one_part e) n l fs = after_close e (listed n l None ∷ fs)
parts_close (more_parts ps e) n l fs = after_close e (listed n l (Some ps) ∷ fs)

mutual
  pub goes_expr : (e : Expr) (fs : List Pending) (rest : List FormulaToken) → goes_on (Some (want (level None None) fs)) (spell e ++ rest) ≡ goes_on (Some (have_expr e fs)) rest
  goes_expr (one_term t) fs rest = goes_term t None fs rest
  goes_expr (or_term e t) fs rest =
      ap (goes_on (Some (want (level None None) fs))) (append_assoc (spell e) (Bar ∷ spell_term t) rest)
      ∙ goes_expr e fs (Bar ∷ (spell_term t ++ rest))
      ∙ ap (λ s. goes_on s (spell_term t ++ rest)) (after_bar e fs)
      ∙ goes_term t (Some e) fs rest

  pub goes_term : (t : Term) (ors : Option Expr) (fs : List Pending) (rest : List FormulaToken) → goes_on (Some (want (level ors None) fs)) (spell_term t ++ rest) ≡ goes_on (Some (have ors t fs)) rest
  goes_term (one_factor f) ors fs rest = goes_factor f (level ors None) fs rest
  goes_term (and_factor t f) ors fs rest =
      ap (goes_on (Some (want (level ors None) fs))) (append_assoc (spell_term t) (Ampersand ∷ spell_factor f) rest)
      ∙ goes_term t ors fs (Ampersand ∷ (spell_factor f ++ rest))
      ∙ goes_factor f (level ors (Some t)) fs rest

  pub goes_factor : (f : Factor) (l : Level) (fs : List Pending) (rest : List FormulaToken) → goes_on (Some (want l fs)) (spell_factor f ++ rest) ≡ goes_on (Some (take_factor l f fs)) rest
  goes_factor (named p) l fs rest = refl
  goes_factor (grouped e) l fs rest =
      ap (goes_on (Some (want (level None None) (plain l ∷ fs)))) (append_assoc (spell e) (Close ∷ []) rest)
      ∙ goes_expr e (plain l ∷ fs) (Close ∷ rest)
      ∙ ap (λ s. goes_on s rest) (after_close e (plain l ∷ fs))
  goes_factor (counted n ps) l fs rest =
      ap (goes_on (Some (want (level None None) (listed n l None ∷ fs)))) (append_assoc (spell_parts ps) (Close ∷ []) rest)
      ∙ goes_parts ps n l fs (Close ∷ rest)
      ∙ ap (λ s. goes_on s rest) (parts_close ps n l fs)

  pub goes_parts : (ps : Parts) (n : ℕ) (l : Level) (fs : List Pending) (rest : List FormulaToken) → goes_on (Some (want (level None None) (listed n l None ∷ fs))) (spell_parts ps ++ rest) ≡ goes_on (Some (have_parts ps n l fs)) rest
  goes_parts (one_part e) n l fs rest = goes_expr e (listed n l None ∷ fs) rest
  goes_parts (more_parts ps e) n l fs rest =
      ap (goes_on (Some (want (level None None) (listed n l None ∷ fs)))) (append_assoc (spell_parts ps) (Comma ∷ spell e) rest)
      ∙ goes_parts ps n l fs (Comma ∷ (spell e ++ rest))
      ∙ ap (λ s. goes_on s (spell e ++ rest)) (parts_comma ps n l fs)
      ∙ goes_expr e (listed n l (Some ps) ∷ fs) rest

-- the end of a formula
pub run_formula : (e : Expr) → run (spell e) ≡ Some (have_expr e [])
run_formula e = ap (goes_on (Some (want (level None None) []))) (sym (append-nil (spell e))) ∙ goes_expr e [] []

none_stays : (ts : List FormulaToken) → goes_on None ts ≡ None
none_stays [] = refl
none_stays (t ∷ ts) = refl

pub goes_append : (s : Option MachineState) (xs ys : List FormulaToken) → goes_on s (xs ++ ys) ≡ goes_on (goes_on s xs) ys
goes_append s [] ys = refl
goes_append None (x ∷ xs) ys = sym (none_stays ys)
goes_append (Some s) (x ∷ xs) ys = goes_append (step s x) xs ys

-- what is stuck begins no formula
pub stuck_no : (ts : List FormulaToken) → run ts ≡ None → IsViable ts → ⊥
stuck_no ts stuck (rest, e, is) =
    let a : Some (have_expr e []) ≡ goes_on (run ts) rest = sym (run_formula e) ∙ ap run is ∙ goes_append (Some (want (level None None) [])) ts rest in
    let b : Some (have_expr e []) ≡ None = a ∙ ap (λ s. goes_on s rest) stuck ∙ none_stays rest in
    cc

through : (s : MachineState) (t : FormulaToken) (ts : List FormulaToken) (next : MachineState) (mid : Option MachineState) → step s t ≡ mid → goes_on mid ts ≡ Some next
    → ((m : MachineState) → goes_on (Some m) ts ≡ Some next → read next ≡ read m ++ ts) → read next ≡ read s ++ (t ∷ ts)
through s t ts next None is e ih = let n : None ≡ Some next = sym (none_stays ts) ∙ e in cc
through s t ts next (Some m) is e ih = ih m e ∙ ap (λ xs. xs ++ ts) (read_step s t m is) ∙ append_assoc (read s) (t ∷ []) ts

-- what was read by a state
pub read_goes : (s : MachineState) (ts : List FormulaToken) (next : MachineState) → goes_on (Some s) ts ≡ Some next → read next ≡ read s ++ ts
read_goes s [] next e = let is : s ≡ next = cc in ap read (sym is) ∙ sym (append-nil (read s))
read_goes s (t ∷ ts) next e = through s t ts next (step s t) refl e (λ m h. read_goes m ts next h)

pub read_run : (ts : List FormulaToken) (s : MachineState) → run ts ≡ Some s → read s ≡ ts
read_run ts s e = read_goes (want (level None None) []) ts s e

-- where all parentheses are closed after a term, a formula was read
pub formula_read : (ts : List FormulaToken) (ors : Option Expr) (t : Term) → run ts ≡ Some (have ors t []) → ts ≡ spell (join_expr ors t)
formula_read ts ors t e = sym (read_run ts (have ors t []) e) ∙ sym (spell_joined_expr ors t)

same_end : (a b : Expr) → Some (have_expr a []) ≡ Some (have_expr b []) → a ≡ b
same_end (one_term t) (one_term u) e = cc
same_end (one_term t) (or_term f u) e = cc
same_end (or_term d t) (one_term u) e = cc
same_end (or_term d t) (or_term f u) e = cc

-- one formula for a text
pub one_formula : (a b : Expr) → spell a ≡ spell b → a ≡ b
one_formula a b e = same_end a b (sym (run_formula a) ∙ ap run e ∙ run_formula b)

-- tokens complete what a state has read to a formula
one_more : (ts : List FormulaToken) (t : FormulaToken) (us : List FormulaToken) → us ≡ ts ++ (t ∷ []) → IsViable us → IsViable ts
one_more ts t us is (rest, e, spelled) = (t ∷ rest, e, spelled ∙ ap (λ xs. xs ++ rest) is ∙ append_assoc ts (t ∷ []) rest)

pub end_have : (ors : Option Expr) (t : Term) (fs : List Pending) → IsViable (read (have ors t fs))
end_have ors t [] = ([], join_expr ors t, spell_joined_expr ors t ∙ sym (append-nil (read_ors ors ++ spell_term t)))
end_have ors t (plain (level os ands) ∷ fs) =
    one_more (read (have ors t (plain (level os ands) ∷ fs))) Close (read (have os (join_term ands (grouped (join_expr ors t))) fs))
    (read_close ors t (plain (level os ands) ∷ fs) (have os (join_term ands (grouped (join_expr ors t))) fs) refl)
    (end_have os (join_term ands (grouped (join_expr ors t))) fs)
end_have ors t (listed n (level os ands) done ∷ fs) =
    one_more (read (have ors t (listed n (level os ands) done ∷ fs))) Close (read (have os (join_term ands (counted n (join_parts done (join_expr ors t)))) fs))
    (read_close ors t (listed n (level os ands) done ∷ fs) (have os (join_term ands (counted n (join_parts done (join_expr ors t)))) fs) refl)
    (end_have os (join_term ands (counted n (join_parts done (join_expr ors t)))) fs)

end_want : (l : Level) (fs : List Pending) → IsViable (read (want l fs))
end_want (level os ands) fs = one_more (read (want (level os ands) fs)) (Name 0) (read (have os (join_term ands (named 0)) fs))
    (read_step (want (level os ands) fs) (Name 0) (have os (join_term ands (named 0)) fs) refl)
    (end_have os (join_term ands (named 0)) fs)

end_want_open : (n : ℕ) (l : Level) (fs : List Pending) → IsViable (read (want_open n l fs))
end_want_open n l fs = one_more (read (want_open n l fs)) Open (read (want (level None None) (listed n l None ∷ fs)))
    (read_step (want_open n l fs) Open (want (level None None) (listed n l None ∷ fs)) refl) (end_want (level None None) (listed n l None ∷ fs))

-- each state can be completed
pub has_end : (s : MachineState) → IsViable (read s)
has_end (want l fs) = end_want l fs
has_end (want_open n l fs) = end_want_open n l fs
has_end (want_of n l fs) = one_more (read (want_of n l fs)) Of (read (want_open n l fs)) (read_step (want_of n l fs) Of (want_open n l fs) refl) (end_want_open n l fs)
has_end (have ors t fs) = end_have ors t fs

pub run_viable : (ts : List FormulaToken) (s : MachineState) → run ts ≡ Some s → IsViable ts
run_viable ts s e = subst IsViable (read_run ts s e) (has_end s)
