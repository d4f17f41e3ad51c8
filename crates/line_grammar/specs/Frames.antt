-- What waits for an operand.
use Rattle.std.specs.Prelude.{ℕ, ◌+◌, ◌-◌, nat_le, Bool, false, List, [], ◌∷◌, Option, Some, None, if◌then◌else◌}
use Rattle.line_grammar.specs.declared.token.LineToken.{LineToken}
use Rattle.line_grammar.specs.declared.token.LineToken.TheVariants as tokens
use Rattle.line_grammar.specs.declared.operator.Infix.TheVariants.{Subtract}
use Rattle.line_grammar.specs.declared.operator.Prefix.TheVariants as prefixes
use Rattle.line_grammar.specs.declared.frame.Frame.{Frame}
use Rattle.line_grammar.specs.declared.frame.Frame.TheVariants.{Group, First, Second, Condition, Chosen, Otherwise, Prefix, Infix}
use Rattle.line_grammar.specs.declared.element.ExprElement.{ExprElement}
use Rattle.line_grammar.specs.declared.element.ExprElement.TheVariants as elements
use Rattle.line_grammar.specs.declared.limits.TheConstants.{ATOM}
use Rattle.line_grammar.specs.Levels.{level, right, prefix_level}

-- what a token begins where an operand is wanted
abbrev pub begun : LineToken → Option Frame
begun tokens.Open = Some Group
begun (tokens.Pair p) = Some (First p)
begun tokens.If = Some Condition
begun (tokens.Not at) = Some (Prefix prefixes.Not)
begun (tokens.Infix Subtract at) = Some (Prefix prefixes.Negate)
begun t = None

-- the least level of the operand
abbrev pub wanted : Frame → ℕ
wanted (Prefix x) = prefix_level x
wanted (Infix o at) = right o
wanted _ = 0

-- the level of the expression that is begun
abbrev pub whole : Frame → ℕ
whole Group = ATOM
whole (First p) = ATOM
whole (Second p) = ATOM
whole Condition = 0
whole Chosen = 0
whole Otherwise = 0
whole (Prefix x) = prefix_level x
whole (Infix o at) = level o

-- whether a token of power k ends the expression, once it has the operand
abbrev pub ends : ℕ → Frame → Bool
ends k Otherwise = nat_le k 0
ends k (Prefix x) = nat_le k (prefix_level x)
ends k (Infix o at) = nat_le k (right o)
ends k _ = false

-- the element that stands behind its operands
abbrev pub element : Frame → Option ExprElement
element Otherwise = Some elements.Choose
element (Prefix x) = Some (elements.Prefix x)
element (Infix o at) = Some (elements.Infix o at)
element _ = None

abbrev pub with_element : Option ExprElement → List ExprElement → List ExprElement
with_element None out = out
with_element (Some x) out = x ∷ out

-- how many signs are open with it, and without it: an operator between operands is none
abbrev pub more : Frame → ℕ → ℕ
more (Infix o at) signs = signs
more _ signs = signs + 1

abbrev pub fewer : Frame → ℕ → ℕ
fewer (Infix o at) signs = signs
fewer _ signs = signs - 1

-- the least level that the last of the frames wants
abbrev pub wanted_last : List Frame → ℕ
wanted_last [] = 0
wanted_last (f ∷ fs) = wanted f

-- the last of the frames, if a token of power k ends it
abbrev pub ending : ℕ → List Frame → Option Frame
ending k [] = None
ending k (f ∷ fs) = if ends k f then Some f else None
