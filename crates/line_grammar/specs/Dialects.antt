-- What each language has.
use Rattle.std.specs.Prelude.{Bool, true, false}
use Rattle.line_grammar.specs.declared.dialect.Dialect.{Dialect}
use Rattle.line_grammar.specs.declared.dialect.Dialect.TheVariants.{Words, Numbers}
use Rattle.line_grammar.specs.declared.operator.Infix.{Infix}
use Rattle.line_grammar.specs.declared.operator.Infix.TheVariants.{Add, Subtract, Multiply}
use Rattle.line_grammar.specs.declared.operator.Prefix.{Prefix}
use Rattle.line_grammar.specs.declared.operator.Prefix.TheVariants.{Not, Negate}
use Rattle.line_grammar.specs.declared.frame.Frame.{Frame}
use Rattle.line_grammar.specs.declared.frame.Frame.TheVariants as frames

-- the operators between operands: words have + - * alone, and numbers all but -
abbrev pub has_infix : Dialect → Infix → Bool
has_infix Words Add = true
has_infix Words Subtract = true
has_infix Words Multiply = true
has_infix Words _ = false
has_infix Numbers Subtract = false
has_infix Numbers _ = true

-- the operators before an operand: words have -, and numbers `not`
abbrev pub has_prefix : Dialect → Prefix → Bool
has_prefix Words Not = false
has_prefix Words Negate = true
has_prefix Numbers Not = true
has_prefix Numbers Negate = false

-- `min` and `max`
abbrev pub has_pairs : Dialect → Bool
has_pairs Words = false
has_pairs Numbers = true

-- `if`
abbrev pub has_choice : Dialect → Bool
has_choice Words = false
has_choice Numbers = true

-- an input has a width
abbrev pub has_width : Dialect → Bool
has_width Words = false
has_width Numbers = true

-- the language has what the frame is of
abbrev pub has_frame : Dialect → Frame → Bool
has_frame d (frames.First p) = has_pairs d
has_frame d frames.Condition = has_choice d
has_frame d (frames.Prefix x) = has_prefix d x
has_frame d (frames.Infix o at) = has_infix d o
has_frame d _ = true
