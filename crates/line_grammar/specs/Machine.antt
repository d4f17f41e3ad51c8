-- What a parser that goes from left to right keeps, and its steps.
use Rattle.std.specs.Prelude.{ℕ, ◌+◌, ◌-◌, nat_le, ◌&&◌, List, [], ◌∷◌, reverse, Option, Some, None, if◌then◌else◌}
use Rattle.line_grammar.specs.declared.token.LineToken.{LineToken}
use Rattle.line_grammar.specs.declared.token.LineToken.TheVariants as tokens
use Rattle.line_grammar.specs.declared.element.ExprElement.{ExprElement}
use Rattle.line_grammar.specs.declared.element.ExprElement.TheVariants as elements
use Rattle.line_grammar.specs.declared.element.Head.{Head}
use Rattle.line_grammar.specs.declared.element.Head.TheVariants as heads
use Rattle.line_grammar.specs.declared.mode.LineMode.{LineMode}
use Rattle.line_grammar.specs.declared.mode.LineMode.TheVariants.{First, InputName, InputWidth, LetName, LetEquals, Ended, Want, Call, Have}
use Rattle.line_grammar.specs.declared.frame.Frame.{Frame}
use Rattle.line_grammar.specs.declared.frame.Frame.TheVariants as frames
use Rattle.line_grammar.specs.declared.dialect.Dialect.{Dialect}
use Rattle.line_grammar.specs.declared.limits.TheConstants.{ATOM}
use Rattle.line_grammar.specs.Levels.{level, left}
use Rattle.line_grammar.specs.Dialects.{has_infix, has_width, has_frame}
use Rattle.line_grammar.specs.Frames.{begun, whole, ends, element, with_element, more, fewer, wanted_last}

-- how many signs are open, and frames and elements with the last one first
pub record State : Type 0 where
  pub mode : LineMode
  pub signs : ℕ
  pub frames : List Frame
  pub out : List ExprElement

abbrev pub state : LineMode → ℕ → List Frame → List ExprElement → State
state mode signs frames out = record { mode = mode; signs = signs; frames = frames; out = out }

abbrev pub start : State
start = state First 0 [] []

-- how tightly a token binds what was read before it: 0 is the least
abbrev pub power : LineToken → ℕ
power (tokens.Infix o at) = level o + 1
power t = 0

-- an expression of this level was read: each frame that a token of power k ends has ended
abbrev pub gather : Head → ℕ → ℕ → ℕ → List Frame → List ExprElement → State
gather head k n signs [] out = state (Have head n) signs [] out
gather head k n signs (f ∷ fs) out =
    if ends k f then gather head k (whole f) (fewer f signs) fs (with_element (element f) out)
    else state (Have head n) signs (f ∷ fs) out

abbrev pub gathered_in : LineMode → ℕ → State → State
gathered_in (Have head n) k s = gather head k n s.signs s.frames s.out
gathered_in _ k s = s

abbrev pub gathered : ℕ → State → State
gathered k s = gathered_in s.mode k s

abbrev pub go : State → LineMode → Option State
go s mode = Some (record s { mode = mode })

-- a name or a number was read
abbrev pub leaf : State → Head → ExprElement → State
leaf s head x = state (Have head ATOM) s.signs s.frames (x ∷ s.out)

-- a frame more
abbrev pub push : State → Frame → LineMode → State
push s f mode = state mode (more f s.signs) (f ∷ s.frames) s.out

-- what comes after the first token of a frame
abbrev pub after_first : Head → Frame → LineMode
after_first head (frames.First p) = Call head
after_first head _ = Want head

-- a frame begins, if the language has it and an expression of its level may stand here
abbrev pub begin : Dialect → State → Head → Option Frame → Option State
begin d s head None = None
begin d s head (Some f) =
    if has_frame d f && nat_le (wanted_last s.frames) (whole f) then Some (push s f (after_first head f)) else None

abbrev pub want_step : Dialect → Head → State → LineToken → Option State
want_step d head s (tokens.Name at) = Some (leaf s head (elements.Name at))
want_step d head s (tokens.Number at) = Some (leaf s head (elements.Number at))
want_step d head s t = begin d s head (begun t)

-- what stands in parentheses has ended
abbrev pub close : State → Head → List Frame → List ExprElement → State
close s head fs out = state (Have head ATOM) (s.signs - 1) fs out

-- an operand of the last frame was read, and another is wanted
abbrev pub turn : State → Head → Frame → List Frame → State
turn s head f fs = state (Want head) s.signs (f ∷ fs) s.out

abbrev pub close_step : Head → State → List Frame → LineToken → Option State
close_step head s (frames.Group ∷ fs) tokens.Close = Some (close s head fs s.out)
close_step head s (frames.First p ∷ fs) tokens.Comma = Some (turn s head (frames.Second p) fs)
close_step head s (frames.Second p ∷ fs) tokens.Close = Some (close s head fs (elements.Pair p ∷ s.out))
close_step head s (frames.Condition ∷ fs) tokens.Then = Some (turn s head frames.Chosen fs)
close_step head s (frames.Chosen ∷ fs) tokens.Else = Some (turn s head frames.Otherwise fs)
close_step head s _ t = None

abbrev pub have_step : Dialect → Head → ℕ → State → LineToken → Option State
have_step d head n s (tokens.Infix o at) =
    if has_infix d o && nat_le (left o) n then Some (push s (frames.Infix o at) (Want head)) else None
have_step d head n s t = close_step head s s.frames t

-- the state after one more token, in this mode
abbrev pub step_in : Dialect → LineMode → State → LineToken → Option State
step_in d First s tokens.Input = go s InputName
step_in d First s tokens.Let = go s LetName
step_in d First s tokens.Output = go s (Want heads.Output)
step_in d InputName s (tokens.Name at) = go s (if has_width d then InputWidth at else Ended (heads.Input at))
step_in d (InputWidth x) s (tokens.Number at) = go s (Ended (heads.WideInput x at))
step_in d LetName s (tokens.Name at) = go s (LetEquals at)
step_in d (LetEquals at) s tokens.Equals = go s (Want (heads.Let at))
step_in d (Want head) s t = want_step d head s t
step_in d (Call head) s tokens.Open = go s (Want head)
step_in d (Have head n) s t = have_step d head n s t
step_in d _ s _ = None

abbrev pub step_from : Dialect → State → LineToken → Option State
step_from d s t = step_in d s.mode s t

-- the state after one more token, None where no line goes on with it
abbrev pub step : Dialect → State → LineToken → Option State
step d s t = step_from d (gathered (power t) s) t

-- a line that was read: what it begins with, and its expression in postfix order
pub record Read : Type 0 where
  pub head : Head
  pub elements : List ExprElement

abbrev pub read : Head → List ExprElement → Read
read head out = record { head = head; elements = reverse out }

abbrev pub finish_in : LineMode → State → List Frame → Option Read
finish_in (Ended head) s fs = Some (read head s.out)
finish_in (Have head n) s [] = Some (read head s.out)
finish_in _ s fs = None

abbrev pub finish_from : State → Option Read
finish_from s = finish_in s.mode s s.frames

-- the line, if it may end here
abbrev pub finish : State → Option Read
finish s = finish_from (gathered 0 s)
