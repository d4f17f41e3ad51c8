-- Each step reads one token.
use Rattle.std.proofs.Common.{◌≡◌, List, [], ◌∷◌, ◌++◌, Option, Some, None, refl, ◌∙◌, append_assoc, append-nil}
use Rattle.group_formula.specs.declared.token.FormulaToken.{FormulaToken}
use Rattle.group_formula.specs.declared.token.FormulaToken.TheVariants.{Name, Number, Of, Bar, Ampersand, Open, Close, Comma}
use Rattle.group_formula.specs.Grammar.{Expr, Term, Factor, Parts, spell, spell_term, spell_factor, spell_parts}
use Rattle.group_formula.specs.Grammar.Factor.{named, grouped, counted}
use Rattle.group_formula.specs.Machine.{Level, Pending, MachineState, join_term, join_expr, join_parts, take_factor, close, separate, empty, step}
use Rattle.group_formula.specs.Machine.Level.{level}
use Rattle.group_formula.specs.Machine.Pending.{plain, listed}
use Rattle.group_formula.specs.Machine.MachineState.{want, want_of, want_open, have}

-- goes on from a state, or stays stuck
abbrev pub goes_on : Option MachineState → List FormulaToken → Option MachineState
goes_on s [] = s
goes_on None (t ∷ ts) = None
goes_on (Some s) (t ∷ ts) = goes_on (step s t) ts

abbrev pub run : List FormulaToken → Option MachineState
run ts = goes_on (Some (want (level None None) [])) ts

-- what a state has read
abbrev pub read_ors : Option Expr → List FormulaToken
read_ors None = []
read_ors (Some e) = spell e ++ (Bar ∷ [])

abbrev pub read_ands : Option Term → List FormulaToken
read_ands None = []
read_ands (Some t) = spell_term t ++ (Ampersand ∷ [])

abbrev pub read_level : Level → List FormulaToken
read_level (level ors ands) = read_ors ors ++ read_ands ands

abbrev pub read_parts : Option Parts → List FormulaToken
read_parts None = []
read_parts (Some ps) = spell_parts ps ++ (Comma ∷ [])

abbrev pub read_pending : Pending → List FormulaToken
read_pending (plain l) = read_level l ++ (Open ∷ [])
read_pending (listed n l done) = read_level l ++ (Number n ∷ Of ∷ Open ∷ read_parts done)

abbrev pub read_all : List Pending → List FormulaToken
read_all [] = []
read_all (f ∷ fs) = read_all fs ++ read_pending f

abbrev pub read : MachineState → List FormulaToken
read (want l fs) = read_all fs ++ read_level l
read (want_of n l fs) = read_all fs ++ (read_level l ++ (Number n ∷ []))
read (want_open n l fs) = read_all fs ++ (read_level l ++ (Number n ∷ Of ∷ []))
read (have ors t fs) = read_all fs ++ (read_ors ors ++ spell_term t)

pub spell_joined_term : (ands : Option Term) (f : Factor) → spell_term (join_term ands f) ≡ read_ands ands ++ spell_factor f
spell_joined_term None f = refl
spell_joined_term (Some t) f = simp append_assoc

pub spell_joined_expr : (ors : Option Expr) (t : Term) → spell (join_expr ors t) ≡ read_ors ors ++ spell_term t
spell_joined_expr None t = refl
spell_joined_expr (Some e) t = simp append_assoc

pub spell_joined_parts : (done : Option Parts) (e : Expr) → spell_parts (join_parts done e) ≡ read_parts done ++ spell e
spell_joined_parts None e = refl
spell_joined_parts (Some ps) e = simp append_assoc

pub read_factor : (l : Level) (f : Factor) (fs : List Pending) → read (take_factor l f fs) ≡ read_all fs ++ (read_level l ++ spell_factor f)
read_factor (level ors ands) f fs = simp (spell_joined_term, append_assoc)

pub read_close : (ors : Option Expr) (t : Term) (fs : List Pending) (s : MachineState) → close (join_expr ors t) fs ≡ Some s → read s ≡ read (have ors t fs) ++ (Close ∷ [])
read_close ors t [] s e = cc
read_close ors t (plain l ∷ fs) s e =
    let is : take_factor l (grouped (join_expr ors t)) fs ≡ s = cc in
    rw (← is) (read_factor l (grouped (join_expr ors t)) fs ∙ simp (spell_joined_expr, append_assoc))
read_close ors t (listed n l done ∷ fs) s e =
    let is : take_factor l (counted n (join_parts done (join_expr ors t))) fs ≡ s = cc in
    rw (← is) (read_factor l (counted n (join_parts done (join_expr ors t))) fs ∙ simp (spell_joined_expr, spell_joined_parts, append_assoc))

pub read_separate : (ors : Option Expr) (t : Term) (fs : List Pending) (s : MachineState) → separate (join_expr ors t) fs ≡ Some s → read s ≡ read (have ors t fs) ++ (Comma ∷ [])
read_separate ors t [] s e = cc
read_separate ors t (plain l ∷ fs) s e = cc
read_separate ors t (listed n l done ∷ fs) s e =
    let is : want (level None None) (listed n l (Some (join_parts done (join_expr ors t))) ∷ fs) ≡ s = cc in
    rw (← is) (simp (spell_joined_expr, spell_joined_parts, append_assoc, append-nil))

pub read_step : (s : MachineState) (t : FormulaToken) (next : MachineState) → step s t ≡ Some next → read next ≡ read s ++ (t ∷ [])
read_step (want l fs) (Name p) next e = let is : take_factor l (named p) fs ≡ next = cc in rw (← is) (read_factor l (named p) fs ∙ simp append_assoc)
read_step (want l fs) (Number n) next e = let is : want_of n l fs ≡ next = cc in rw (← is) (simp append_assoc)
read_step (want l fs) Open next e = let is : want empty (plain l ∷ fs) ≡ next = cc in rw (← is) (simp (append_assoc, append-nil))
read_step (want_of n l fs) Of next e = let is : want_open n l fs ≡ next = cc in rw (← is) (simp append_assoc)
read_step (want_open n l fs) Open next e = let is : want empty (listed n l None ∷ fs) ≡ next = cc in rw (← is) (simp (append_assoc, append-nil))
read_step (have ors t fs) Bar next e = let is : want (level (Some (join_expr ors t)) None) fs ≡ next = cc in rw (← is) (simp (spell_joined_expr, append_assoc, append-nil))
read_step (have ors t fs) Ampersand next e = let is : want (level ors (Some t)) fs ≡ next = cc in rw (← is) (simp append_assoc)
read_step (have ors t fs) Close next e = read_close ors t fs next e
read_step (have ors t fs) Comma next e = read_separate ors t fs next e
read_step _ _ next e = cc
