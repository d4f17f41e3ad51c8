-- What a reader that goes from left to right has read, and its steps.
use Rattle.std.specs.Prelude.{ℕ, List, [], ◌∷◌, Option, Some, None}
use Rattle.group_formula.specs.declared.token.FormulaToken.{FormulaToken}
use Rattle.group_formula.specs.declared.token.FormulaToken.TheVariants.{Name, Number, Of, Bar, Ampersand, Open, Close, Comma}
use Rattle.group_formula.specs.Grammar.{Expr, Term, Factor, Parts}
use Rattle.group_formula.specs.Grammar.Expr.{one_term, or_term}
use Rattle.group_formula.specs.Grammar.Term.{one_factor, and_factor}
use Rattle.group_formula.specs.Grammar.Factor.{named, grouped, counted}
use Rattle.group_formula.specs.Grammar.Parts.{one_part, more_parts}

-- the left side of a `|`, and the left side of an `&`, that wait for a factor
pub data Level : Type 0 where
  level : Option Expr → Option Term → Level

-- an open parenthesis with what stands before it
pub data Pending : Type 0 where
  plain : Level → Pending
  listed : ℕ → Level → Option Parts → Pending

-- what was read: a factor is wanted, or `of` or `(` after a number, or a term is there
pub data MachineState : Type 0 where
  want : Level → List Pending → MachineState
  want_of : ℕ → Level → List Pending → MachineState
  want_open : ℕ → Level → List Pending → MachineState
  have : Option Expr → Term → List Pending → MachineState

-- the term, with one more factor
abbrev pub join_term : Option Term → Factor → Term
join_term None f = one_factor f
join_term (Some t) f = and_factor t f

-- the expression, with one more term
abbrev pub join_expr : Option Expr → Term → Expr
join_expr None t = one_term t
join_expr (Some e) t = or_term e t

-- the parts, with one more
abbrev pub join_parts : Option Parts → Expr → Parts
join_parts None e = one_part e
join_parts (Some ps) e = more_parts ps e

-- a factor comes
abbrev pub take_factor : Level → Factor → List Pending → MachineState
take_factor (level ors ands) f fs = have ors (join_term ands f) fs

-- a closing parenthesis after an expression
abbrev pub close : Expr → List Pending → Option MachineState
close e [] = None
close e (plain l ∷ fs) = Some (take_factor l (grouped e) fs)
close e (listed n l done ∷ fs) = Some (take_factor l (counted n (join_parts done e)) fs)

-- a comma after an expression
abbrev pub separate : Expr → List Pending → Option MachineState
separate e [] = None
separate e (plain l ∷ fs) = None
separate e (listed n l done ∷ fs) = Some (want (level None None) (listed n l (Some (join_parts done e)) ∷ fs))

-- nothing waits for a factor
abbrev pub empty : Level
empty = level None None

-- the state after one more token, None where no formula goes on with it
abbrev pub step : MachineState → FormulaToken → Option MachineState
step (want l fs) (Name p) = Some (take_factor l (named p) fs)
step (want l fs) (Number n) = Some (want_of n l fs)
step (want l fs) Open = Some (want empty (plain l ∷ fs))
step (want_of n l fs) Of = Some (want_open n l fs)
step (want_open n l fs) Open = Some (want empty (listed n l None ∷ fs))
step (have ors t fs) Bar = Some (want (level (Some (join_expr ors t)) None) fs)
step (have ors t fs) Ampersand = Some (want (level ors (Some t)) fs)
step (have ors t fs) Close = close (join_expr ors t) fs
step (have ors t fs) Comma = separate (join_expr ors t) fs
step _ _ = None

-- the state before the first token
abbrev pub start : MachineState
start = want (level None None) []
