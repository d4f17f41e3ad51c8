-- Programs and first faults of texts.
use Rattle.std.specs.Prelude.{◌≡◌, ℕ, ◌+◌, ◌^◌, nat_lt, nat_le, nat_eq, ◌⊎◌, Bool, not, ◌&&◌, List, [], ◌∷◌, map, Option, Some, None, is_some, unwrap_or, if◌then◌else◌}
use Rattle.std.specs.List.{slice_split, take_while}
use Rattle.std.specs.Option.{option_or}
use Rattle.line_grammar.specs.declared.dialect.Dialect.TheVariants.{Numbers}
use Rattle.line_grammar.specs.declared.fault.LineFault.{LineFault}
use Rattle.line_grammar.specs.declared.fault.LineFault.TheVariants as parts
use Rattle.line_grammar.specs.Lines.{is_line_end}
use Rattle.line_grammar.specs.Grammar.{Expr, LineForm, Line}
use Rattle.line_grammar.specs.Grammar.Expr.{number, named, grouped, paired, prefixed, infixed, chosen}
use Rattle.line_grammar.specs.Grammar.LineForm.{input_line, wide_input_line, let_line, output_line}
use Rattle.line_grammar.specs.LineFaults as grammar
use Rattle.line_grammar.specs.LineFaults.{shallow, IsLineFault}
use Rattle.number_circuit.specs.declared.fault.NumberFault.{NumberFault}
use Rattle.number_circuit.specs.declared.fault.NumberFault.TheVariants.{Syntax, UnknownName, BadConstant, TooDeep, TwiceNamed, TooWide, BadWidth, Memory}
use Rattle.number_circuit.specs.Values.{Term, bound}
use Rattle.number_circuit.specs.Values.Term.{operation}
use Rattle.number_circuit.specs.Programs.{Statement, term, statement, bind, widest}
use Rattle.line_grammar.specs.Places.{name_at, number_at}
use Rattle.number_circuit.specs.Programs.Statement.{input, define, output}

-- the bound of each name that is known
abbrev pub Bounds : Type 0
Bounds = List ℕ → Option ℕ

-- the bound of a name, and 0 where it isn't known
abbrev pub of_name : Bounds → List ℕ → ℕ
of_name known x = unwrap_or (known x) 0

-- the fault of a name that no earlier line gives
abbrev pub bad_name : Bounds → List ℕ → ℕ → ℕ → Option NumberFault
bad_name known line n at = if is_some (known (name_at line at)) then None else Some (UnknownName n at)

-- the number is below 2^64
abbrev pub fits : ℕ → Bool
fits m = nat_lt m (2 ^ 64)

-- the fault of a number that doesn't fit
abbrev pub bad_number : List ℕ → ℕ → ℕ → Option NumberFault
bad_number line n at = if fits (number_at line at) then None else Some (BadConstant n at)

-- the fault of an operator whose bound doesn't fit
abbrev pub too_wide : Bounds → ℕ → ℕ → Term → Option NumberFault
too_wide known n at t = if fits (bound (of_name known) t) then None else Some (TooWide n at)

-- the first name, number or operator of an expression that has a fault, operands first, where this is line n
abbrev pub bad : Bounds → List ℕ → ℕ → Expr → Option NumberFault
bad known line n (number at) = bad_number line n at
bad known line n (named at) = bad_name known line n at
bad known line n (grouped e) = bad known line n e
bad known line n (paired p a b) = option_or (bad known line n a) (bad known line n b)
bad known line n (prefixed x at e) = bad known line n e
bad known line n (infixed o at a b) =
    option_or (bad known line n a)
    (option_or (bad known line n b) (too_wide known n at (operation o (term line a) (term line b))))
bad known line n (chosen c a b) =
    option_or (bad known line n c) (option_or (bad known line n a) (bad known line n b))

-- the name was known before
abbrev pub twice : Bounds → List ℕ → ℕ → ℕ → Option NumberFault
twice known line n at = if is_some (known (name_at line at)) then Some (TwiceNamed n) else None

-- the fault of a width of 0, or of more than 64
abbrev pub bad_width : List ℕ → ℕ → ℕ → Option NumberFault
bad_width line n at =
    if nat_lt 0 (number_at line at) && nat_le (number_at line at) 64 then None else Some (BadWidth n at)

-- the fault of a line that is one of the grammar
abbrev pub bad_line : Bounds → List ℕ → ℕ → LineForm → Option NumberFault
bad_line known line n (input_line x) = twice known line n x
bad_line known line n (wide_input_line x w) = option_or (bad_width line n w) (twice known line n x)
bad_line known line n (let_line x e) = option_or (bad known line n e) (twice known line n x)
bad_line known line n (output_line e) = bad known line n e

-- the bounds of the names that are known after a line
abbrev pub knows : Bounds → Statement → Bounds
knows known (input x w) = bind known x (Some (widest w))
knows known (define x t) = bind known x (Some (bound (of_name known) t))
knows known (output t) = known

abbrev pub IsBlank : List ℕ → Type 0
IsBlank line = grammar.IsBlank Numbers line

-- the line is this one of the grammar
abbrev pub Parses : List ℕ → Line Numbers shallow → Type 0
Parses line l = grammar.Parses Numbers line l

-- line n says this, where these names are known
pub record Says (known : Bounds) (line : List ℕ) (n : ℕ) (s : Statement) : Type 0 where
  pub form : Line Numbers shallow
  pub parsed : Parses line form
  pub good : bad_line known line n form.form ≡ None
  pub meant : s ≡ statement line form.form

-- a fault of the tokens of line n
abbrev pub of_line : ℕ → LineFault → NumberFault
of_line n (parts.Syntax at) = Syntax n at
of_line n (parts.TooDeep at) = TooDeep n at
of_line n parts.Memory = Memory

-- the first fault of line n: that of its tokens, or else of what it says
pub data FaultOfLine (known : Bounds) (line : List ℕ) (n : ℕ) (fault : NumberFault) : Type 0 where
  token_fault : (f : LineFault) → fault ≡ of_line n f → IsLineFault Numbers line f
      → FaultOfLine known line n fault
  name_fault : (form : Line Numbers shallow) → Parses line form → bad_line known line n form.form ≡ Some fault
      → FaultOfLine known line n fault

-- the lines from line n on say the program, where these names are known
abbrev pub AreLines : Bounds → ℕ → List (List ℕ) → List Statement → Type 0
AreLines known n [] p = p ≡ []
AreLines known n (line ∷ lines) p =
    (IsBlank line × AreLines known (n + 1) lines p)
    ⊎ ((s : Statement) × (rest : List Statement) × (p ≡ s ∷ rest) × Says known line n s
    × AreLines (knows known s) (n + 1) lines rest)

-- the fault is that of the first line that has one, from line n on
abbrev pub IsFaultIn : Bounds → ℕ → List (List ℕ) → NumberFault → Type 0
IsFaultIn known n [] fault = ⊥
IsFaultIn known n (line ∷ lines) fault =
    (IsBlank line × IsFaultIn known (n + 1) lines fault)
    ⊎ (FaultOfLine known line n fault
    ⊎ ((s : Statement) × Says known line n s × IsFaultIn (knows known s) (n + 1) lines fault))

-- no name is known
abbrev pub none_known : Bounds
none_known x = None

-- a line up to its comment
abbrev pub told : List ℕ → List ℕ
told line = take_while (λ c. not (nat_eq c 35)) line

-- the lines of a text
abbrev pub lines : List ℕ → List (List ℕ)
lines text = map told (slice_split is_line_end text)
