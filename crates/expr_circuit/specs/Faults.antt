-- Programs and first faults of texts.
use Rattle.std.specs.Prelude.{◌≡◌, ℕ, ◌+◌, nat_lt, ◌⊎◌, Bool, true, false, List, [], ◌∷◌, Option, Some, None, if◌then◌else◌}
use Rattle.std.specs.List.{slice_split}
use Rattle.std.specs.Option.{option_or}
use Rattle.line_grammar.specs.declared.dialect.Dialect.TheVariants.{Words}
use Rattle.line_grammar.specs.declared.fault.LineFault.{LineFault}
use Rattle.line_grammar.specs.declared.fault.LineFault.TheVariants as parts
use Rattle.line_grammar.specs.Lines.{is_line_end}
use Rattle.line_grammar.specs.Grammar.{Expr, LineForm, Line}
use Rattle.line_grammar.specs.Grammar.Expr.{number, named, grouped, prefixed, infixed}
use Rattle.line_grammar.specs.Grammar.LineForm.{input_line, wide_input_line, let_line, output_line}
use Rattle.line_grammar.specs.LineFaults as grammar
use Rattle.line_grammar.specs.LineFaults.{shallow, IsLineFault}
use Rattle.expr_circuit.specs.declared.fault.ExprFault.{ExprFault}
use Rattle.expr_circuit.specs.declared.fault.ExprFault.TheVariants.{Syntax, UnknownName, BadConstant, TooDeep, TwiceNamed, Memory}
use Rattle.expr_circuit.specs.Programs.{Statement, statement, bind}
use Rattle.line_grammar.specs.Places.{name_at, number_at}
use Rattle.expr_circuit.specs.Programs.Statement.{input, define, output}

-- a line without tokens
abbrev pub IsBlank : List ℕ → Type 0
IsBlank line = grammar.IsBlank Words line

-- the line is this one of the grammar of words, in which at most 32 signs are open at once
abbrev pub Parses : List ℕ → Line Words shallow → Type 0
Parses line l = grammar.Parses Words line l

-- the fault of a name that no earlier line gives
abbrev pub bad_name : (List ℕ → Bool) → List ℕ → ℕ → ℕ → Option ExprFault
bad_name known line n at = if known (name_at line at) then None else Some (UnknownName n at)

-- the fault of a number that is no number below q
abbrev pub bad_number : ℕ → List ℕ → ℕ → ℕ → Option ExprFault
bad_number q line n at = if nat_lt (number_at line at) q then None else Some (BadConstant n at)

-- the first name or number of an expression that has a fault, in the order of the line, which is line n: words have no
-- other expressions than these
abbrev pub bad : ℕ → (List ℕ → Bool) → List ℕ → ℕ → Expr → Option ExprFault
bad q known line n (number at) = bad_number q line n at
bad q known line n (named at) = bad_name known line n at
bad q known line n (grouped e) = bad q known line n e
bad q known line n (prefixed x at e) = bad q known line n e
bad q known line n (infixed o at a b) = option_or (bad q known line n a) (bad q known line n b)
bad q known line n _ = None

-- the name was known before
abbrev pub twice : (List ℕ → Bool) → List ℕ → ℕ → ℕ → Option ExprFault
twice known line n at = if known (name_at line at) then Some (TwiceNamed n) else None

-- the fault of a line that is one of the grammar
abbrev pub bad_line : ℕ → (List ℕ → Bool) → List ℕ → ℕ → LineForm → Option ExprFault
bad_line q known line n (input_line x) = twice known line n x
bad_line q known line n (wide_input_line x w) = twice known line n x
bad_line q known line n (let_line x e) = option_or (bad q known line n e) (twice known line n x)
bad_line q known line n (output_line e) = bad q known line n e

-- the names that are known after a line
abbrev pub knows : (List ℕ → Bool) → Statement → List ℕ → Bool
knows known (input x) = bind known x true
knows known (define x t) = bind known x true
knows known (output t) = known

-- line n says this, where these names are known
pub record Says (q : ℕ) (known : List ℕ → Bool) (line : List ℕ) (n : ℕ) (s : Statement) : Type 0 where
  pub form : Line Words shallow
  pub parsed : Parses line form
  pub good : bad_line q known line n form.form ≡ None
  pub meant : s ≡ statement line form.form

-- a fault of the tokens of line n
abbrev pub of_line : ℕ → LineFault → ExprFault
of_line n (parts.Syntax at) = Syntax n at
of_line n (parts.TooDeep at) = TooDeep n at
of_line n parts.Memory = Memory

-- the first fault of line n: that of its first token that has one, or of its end; else of a name or a number; else of
-- the name that it gives
pub data FaultOfLine (q : ℕ) (known : List ℕ → Bool) (line : List ℕ) (n : ℕ) (fault : ExprFault) : Type 0 where
  token_fault : (f : LineFault) → fault ≡ of_line n f → IsLineFault Words line f → FaultOfLine q known line n fault
  name_fault : (form : Line Words shallow) → Parses line form → bad_line q known line n form.form ≡ Some fault
      → FaultOfLine q known line n fault

-- the lines from line n on say the program, where these names are known
abbrev pub AreLines : ℕ → (List ℕ → Bool) → ℕ → List (List ℕ) → List Statement → Type 0
AreLines q known n [] p = p ≡ []
AreLines q known n (line ∷ lines) p =
    (IsBlank line × AreLines q known (n + 1) lines p)
    ⊎ ((s : Statement) × (rest : List Statement) × (p ≡ s ∷ rest) × Says q known line n s
    × AreLines q (knows known s) (n + 1) lines rest)

-- the fault is that of the first line that has one, from line n on
abbrev pub IsFaultIn : ℕ → (List ℕ → Bool) → ℕ → List (List ℕ) → ExprFault → Type 0
IsFaultIn q known n [] fault = ⊥
IsFaultIn q known n (line ∷ lines) fault =
    (IsBlank line × IsFaultIn q known (n + 1) lines fault)
    ⊎ (FaultOfLine q known line n fault
    ⊎ ((s : Statement) × Says q known line n s × IsFaultIn q (knows known s) (n + 1) lines fault))

-- no name is known
abbrev pub none_known : List ℕ → Bool
none_known x = false

-- the lines of a text
abbrev pub lines : List ℕ → List (List ℕ)
lines text = slice_split is_line_end text
