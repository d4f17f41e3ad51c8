-- How the parser keeps a state: marks, open parentheses, and the elements in postfix order.
use Rattle.std.specs.Prelude.{◌≡◌, ℕ, ◌+◌, ◌⊎◌, Bool, true, false, List, [], ◌∷◌, ◌++◌, Option, Some, None, Result, Ok, Err, if◌then◌else◌}
use Rattle.std.specs.declared.alloc.AllocError.{AllocError}
use Rattle.group_formula.specs.declared.element.FormulaElement.{FormulaElement}
use Rattle.group_formula.specs.declared.element.FormulaElement.TheVariants.{And, Or, AtLeast}
use Rattle.group_formula.specs.declared.formula_parser.FormulaMode.{FormulaMode}
use Rattle.group_formula.specs.declared.formula_parser.FormulaMode.TheVariants as modes
use Rattle.group_formula.specs.declared.formula_parser.Bracket.{Bracket}
use Rattle.group_formula.specs.declared.formula_parser.Bracket.TheVariants as brackets
use Rattle.group_formula.specs.declared.formula_parser.Frame.{Frame}
use Rattle.group_formula.specs.Trees.{tree_count}
use Rattle.group_formula.specs.Postfix.{postfix, postfix_all}
use Rattle.group_formula.specs.Grammar.{Expr, Term, Parts, shape, shape_term, shape_parts}
use Rattle.group_formula.specs.Machine.{Level, Pending, MachineState}
use Rattle.group_formula.specs.Machine.Level.{level}
use Rattle.group_formula.specs.Machine.Pending.{plain, listed}
use Rattle.group_formula.specs.Machine.MachineState.{want, want_of, want_open, have}

-- what the parser expects next, what waits for a factor, the open parentheses, and the elements so far
pub record Kept : Type 0 where
  pub mode : FormulaMode
  pub or_waits : Bool
  pub and_waits : Bool
  pub frames : List Frame
  pub out : List FormulaElement

-- whether there is one
abbrev pub there : {A : Type 0} → Option A → Bool
there None = false
there (Some a) = true

-- the elements of the left side of a `|`
abbrev pub elements_ors : Option Expr → List FormulaElement
elements_ors None = []
elements_ors (Some e) = postfix (shape e)

-- the elements of the left side of an `&`
abbrev pub elements_ands : Option Term → List FormulaElement
elements_ands None = []
elements_ands (Some t) = postfix (shape_term t)

-- the elements of the parts of a list that were read
abbrev pub elements_done : Option Parts → List FormulaElement
elements_done None = []
elements_done (Some ps) = postfix_all (shape_parts ps)

-- how many parts of a list were read
abbrev pub number_done : Option Parts → ℕ
number_done None = 0
number_done (Some ps) = tree_count (shape_parts ps)

-- the elements of both left sides
abbrev pub elements_level : Level → List FormulaElement
elements_level (level ors ands) = elements_ors ors ++ elements_ands ands

-- the elements of what stands before an open parenthesis, and of the parts of its list that were read
abbrev pub elements_pending : Pending → List FormulaElement
elements_pending (plain l) = elements_level l
elements_pending (listed n l done) = elements_level l ++ elements_done done

-- the elements of what stands before the last open parenthesis, in the order of the text
abbrev pub elements_all : List Pending → List FormulaElement
elements_all [] = []
elements_all (f ∷ fs) = elements_all fs ++ elements_pending f

-- how an open parenthesis is kept
abbrev pub frame_of : Pending → Frame
frame_of (plain (level ors ands)) = record { bracket = brackets.Group; or_waits = there ors; and_waits = there ands }
frame_of (listed n (level ors ands) done) = record {
  bracket = brackets.List n (number_done done);
  or_waits = there ors;
  and_waits = there ands;
}

-- how the open parentheses are kept, the first one first
abbrev pub frames_of : List Pending → List Frame
frames_of [] = []
frames_of (f ∷ fs) = frames_of fs ++ (frame_of f ∷ [])

-- how a state is kept
abbrev pub kept_of : MachineState → Kept
kept_of (want (level ors ands) fs) = record {
  mode = modes.Want;
  or_waits = there ors;
  and_waits = there ands;
  frames = frames_of fs;
  out = elements_all fs ++ (elements_ors ors ++ elements_ands ands);
}
kept_of (want_of n (level ors ands) fs) = record {
  mode = modes.WantOf n;
  or_waits = there ors;
  and_waits = there ands;
  frames = frames_of fs;
  out = elements_all fs ++ (elements_ors ors ++ elements_ands ands);
}
kept_of (want_open n (level ors ands) fs) = record {
  mode = modes.WantOpen n;
  or_waits = there ors;
  and_waits = there ands;
  frames = frames_of fs;
  out = elements_all fs ++ (elements_ors ors ++ elements_ands ands);
}
kept_of (have ors t fs) =
    record {
      mode = modes.Have;
      or_waits = there ors;
      and_waits = false;
      frames = frames_of fs;
      out = elements_all fs ++ (elements_ors ors ++ postfix (shape_term t));
    }

-- a factor was written
abbrev pub with_factor : Kept → Kept
with_factor c =
    record {
      mode = modes.Have;
      or_waits = c.or_waits;
      and_waits = false;
      frames = c.frames;
      out = (if c.and_waits then c.out ++ (And ∷ []) else c.out);
    }

-- a term was written, and the expression before it is joined to it
abbrev pub joined_out : Kept → List FormulaElement
joined_out c = if c.or_waits then c.out ++ (Or ∷ []) else c.out

-- what the end of a list makes of the elements
abbrev pub closed_out : Bracket → List FormulaElement → List FormulaElement
closed_out brackets.Group out = out
closed_out (brackets.List n parts) out = out ++ (AtLeast n (parts + 1) ∷ [])

-- what a closing parenthesis makes of what is kept
abbrev pub closed : Kept → List Frame → Frame → Kept
closed old rest f =
    with_factor (record {
      mode = old.mode;
      or_waits = f.or_waits;
      and_waits = f.and_waits;
      frames = rest;
      out = closed_out f.bracket (joined_out old);
    })

-- what a closing parenthesis leaves: false where none is open
abbrev pub Closes : Kept → Bool → Kept → Type 0
Closes old false new = old.frames ≡ []
Closes old true new = (rest : List Frame) × (f : Frame) × (old.frames ≡ rest ++ (f ∷ [])) × (new ≡ closed old rest f)

-- what a comma makes of it, in the list after the number n
abbrev pub separated : Kept → List Frame → Frame → ℕ → ℕ → Kept
separated old rest f n parts =
    record {
      mode = modes.Want;
      or_waits = false;
      and_waits = false;
      frames = rest ++ (record f { bracket = brackets.List n (parts + 1) } ∷ []);
      out = joined_out old;
    }

-- what a comma leaves: false where no list is open
abbrev pub Separates : Kept → Bool → Kept → Type 0
Separates old false new =
    (old.frames ≡ []) ⊎ ((rest : List Frame) × (f : Frame) × (old.frames ≡ rest ++ (f ∷ []))
    × (f.bracket ≡ brackets.Group))
Separates old true new =
    (rest : List Frame) × (f : Frame) × (n : ℕ) × (parts : ℕ) × (old.frames ≡ rest ++ (f ∷ []))
    × (f.bracket ≡ brackets.List n parts) × (new ≡ separated old rest f n parts)

-- some state is kept
abbrev pub IsKept : Kept → Type 0
IsKept c = (s : MachineState) × (c ≡ kept_of s)

-- what the parser answers where a step gives this
abbrev pub Advances : Option MachineState → Result Bool AllocError → Kept → Type 0
Advances next (Err e) new = Unit {0}
Advances (Some next) (Ok true) new = new ≡ kept_of next
Advances (Some next) (Ok false) new = ⊥
Advances None (Ok true) new = ⊥
Advances None (Ok false) new = Unit {0}
