-- What the parser has read, as parts of a line of the grammar.
use Rattle.std.proofs.Common.{◌≡◌, ℕ, ◌+◌, ◌-◌, Bool, true, false, cond, List, [], ◌∷◌, Option, Some, None, refl, ◌∙◌, ap}
use Rattle.std.specs.Prelude.{nat_le, ◌&&◌}
use Rattle.std.specs.Option.{option_map}
use Rattle.line_grammar.specs.declared.token.LineToken.{LineToken}
use Rattle.line_grammar.specs.declared.token.LineToken.TheVariants as tokens
use Rattle.line_grammar.specs.declared.element.ExprElement.{ExprElement}
use Rattle.line_grammar.specs.declared.element.Head.{Head}
use Rattle.line_grammar.specs.declared.element.Head.TheVariants as heads
use Rattle.line_grammar.specs.declared.mode.LineMode.TheVariants as modes
use Rattle.line_grammar.specs.declared.frame.Frame.{Frame}
use Rattle.line_grammar.specs.declared.frame.Frame.TheVariants as frames
use Rattle.line_grammar.specs.declared.operator.Infix.{Infix}
use Rattle.line_grammar.specs.declared.operator.Infix.TheVariants as infixes
use Rattle.line_grammar.specs.declared.operator.Prefix.{Prefix}
use Rattle.line_grammar.specs.declared.operator.Prefix.TheVariants.{Not, Negate}
use Rattle.line_grammar.specs.declared.operator.Pair.{Pair}
use Rattle.line_grammar.specs.declared.dialect.Dialect.{Dialect}
use Rattle.line_grammar.specs.declared.limits.TheConstants.{ATOM}
use Rattle.line_grammar.specs.Levels.{left, right, prefix_level}
use Rattle.line_grammar.specs.Dialects.{has_infix, has_width, has_frame}
use Rattle.line_grammar.specs.Frames.{whole, ends, more, wanted_last}
use Rattle.line_grammar.specs.Grammar.{Expr, level, prefix_token, spell}
use Rattle.line_grammar.specs.Grammar.Expr.{number, named, grouped, paired, prefixed, infixed, chosen}
use Rattle.line_grammar.specs.Machine.{State, state, start, power, gather, gathered, want_step, have_step, close_step, step_from, step}
use Rattle.line_grammar.proofs.Runs.{back, one_back}

pub data LineHead : Type 0 where
  let_head : ℕ → LineHead
  output_head : LineHead

-- a frame with the operands that were read
pub data Part : Type 0 where
  group : Part
  first : Pair → Part
  second : Pair → Expr → Part
  condition : Part
  yes : Expr → Part
  no : Expr → Expr → Part
  sign : Prefix → ℕ → Part
  after : Infix → ℕ → Expr → Part

pub data Partial : Type 0 where
  at_first : Partial
  at_input : Partial
  at_width : ℕ → Partial
  at_let : Partial
  at_equals : ℕ → Partial
  at_end : ℕ → Partial
  at_wide_end : ℕ → ℕ → Partial
  at_want : LineHead → List Part → Partial
  at_call : LineHead → Pair → List Part → Partial
  at_have : LineHead → Expr → List Part → Partial

-- ---- how it is kept

abbrev pub head_of : LineHead → Head
head_of (let_head x) = heads.Let x
head_of output_head = heads.Output

abbrev pub frame_of : Part → Frame
frame_of group = frames.Group
frame_of (first p) = frames.First p
frame_of (second p a) = frames.Second p
frame_of condition = frames.Condition
frame_of (yes c) = frames.Chosen
frame_of (no c a) = frames.Otherwise
frame_of (sign x at) = frames.Prefix x
frame_of (after o at a) = frames.Infix o at

abbrev pub frames_of : List Part → List Frame
frames_of [] = []
frames_of (p ∷ ps) = frame_of p ∷ frames_of ps

abbrev pub signs_of : List Part → ℕ
signs_of [] = 0
signs_of (p ∷ ps) = more (frame_of p) (signs_of ps)

abbrev pub out_of : Part → List ExprElement → List ExprElement
out_of (second p a) out = back a out
out_of (yes c) out = back c out
out_of (no c a) out = back a (back c out)
out_of (after o at a) out = back a out
out_of _ out = out

abbrev pub outs : List Part → List ExprElement
outs [] = []
outs (p ∷ ps) = out_of p (outs ps)

abbrev pub state_of : Partial → State
state_of at_first = start
state_of at_input = state modes.InputName 0 [] []
state_of (at_width x) = state (modes.InputWidth x) 0 [] []
state_of at_let = state modes.LetName 0 [] []
state_of (at_equals x) = state (modes.LetEquals x) 0 [] []
state_of (at_end x) = state (modes.Ended (heads.Input x)) 0 [] []
state_of (at_wide_end x w) = state (modes.Ended (heads.WideInput x w)) 0 [] []
state_of (at_want h ps) = state (modes.Want (head_of h)) (signs_of ps) (frames_of ps) (outs ps)
state_of (at_call h p ps) = state (modes.Call (head_of h)) (signs_of ps + 1) (frames.First p ∷ frames_of ps) (outs ps)
state_of (at_have h e ps) = state (modes.Have (head_of h) (level e)) (signs_of ps) (frames_of ps) (back e (outs ps))

-- ---- what ends what

-- the operand ends the part
abbrev pub join : Part → Expr → Expr
join (no c a) e = chosen c a e
join (sign x at) e = prefixed x at e
join (after o at a) e = infixed o at a e
join _ e = e

pub record Folded : Type 0 where
  pub tree : Expr
  pub parts : List Part

abbrev pub fold : ℕ → Expr → List Part → Folded
fold k e [] = record { tree = e; parts = [] }
fold k e (p ∷ ps) = cond (ends k (frame_of p)) (fold k (join p e) ps) (record { tree = e; parts = p ∷ ps })

abbrev pub have_folded : LineHead → Folded → Partial
have_folded h f = at_have h f.tree f.parts

abbrev pub folded : ℕ → Partial → Partial
folded k (at_have h e ps) = have_folded h (fold k e ps)
folded k a = a

-- either way
either_kept : (h : LineHead) (b : Bool) (s t : State) (f g : Folded) → s ≡ state_of (have_folded h f) → t ≡ state_of (have_folded h g) → cond b s t ≡ state_of (have_folded h (cond b f g))
either_kept h true s t f g e k = e
either_kept h false s t f g e k = k

fold_kept : (h : LineHead) (k : ℕ) (e : Expr) (ps : List Part) → gather (head_of h) k (level e) (signs_of ps) (frames_of ps) (back e (outs ps)) ≡ state_of (have_folded h (fold k e ps))
fold_kept h k e [] = refl
fold_kept h k e (group ∷ ps) = refl
fold_kept h k e (first p ∷ ps) = refl
fold_kept h k e (second p a ∷ ps) = refl
fold_kept h k e (condition ∷ ps) = refl
fold_kept h k e (yes c ∷ ps) = refl
fold_kept h k e (no c a ∷ ps) =
    either_kept h (nat_le k 0) _ _ (fold k (chosen c a e) ps) (record { tree = e; parts = no c a ∷ ps })
    (ap (λ n. gather (head_of h) k 0 n (frames_of ps) (back (chosen c a e) (outs ps))) (one_back (signs_of ps)) ∙ fold_kept h k (chosen c a e) ps) refl
fold_kept h k e (sign x at ∷ ps) =
    either_kept h (nat_le k (prefix_level x)) _ _ (fold k (prefixed x at e) ps) (record { tree = e; parts = sign x at ∷ ps })
    (ap (λ n. gather (head_of h) k (prefix_level x) n (frames_of ps) (back (prefixed x at e) (outs ps))) (one_back (signs_of ps)) ∙ fold_kept h k (prefixed x at e) ps) refl
fold_kept h k e (after o at a ∷ ps) =
    either_kept h (nat_le k (right o)) _ _ (fold k (infixed o at a e) ps) (record { tree = e; parts = after o at a ∷ ps }) (fold_kept h k (infixed o at a e) ps) refl

pub folded_kept : (k : ℕ) (a : Partial) → gathered k (state_of a) ≡ state_of (folded k a)
folded_kept k at_first = refl
folded_kept k at_input = refl
folded_kept k (at_width x) = refl
folded_kept k at_let = refl
folded_kept k (at_equals x) = refl
folded_kept k (at_end x) = refl
folded_kept k (at_wide_end x w) = refl
folded_kept k (at_want h ps) = refl
folded_kept k (at_call h p ps) = refl
folded_kept k (at_have h e ps) = fold_kept h k e ps

-- ---- one token more

abbrev pub opening : LineToken → Option Part
opening tokens.Open = Some group
opening (tokens.Pair p) = Some (first p)
opening tokens.If = Some condition
opening (tokens.Not at) = Some (sign Not at)
opening (tokens.Infix infixes.Subtract at) = Some (sign Negate at)
opening t = None

-- what has been read after the first token of a part
abbrev pub entered : LineHead → Part → List Part → Partial
entered h (first p) ps = at_call h p ps
entered h p ps = at_want h (p ∷ ps)

-- the part may begin here
abbrev pub may : Dialect → List Part → Part → Bool
may d ps p = has_frame d (frame_of p) && nat_le (wanted_last (frames_of ps)) (whole (frame_of p))

abbrev pub enter : Dialect → LineHead → List Part → Option Part → Option Partial
enter d h ps None = None
enter d h ps (Some p) = cond (may d ps p) (Some (entered h p ps)) None

abbrev pub want_more : Dialect → LineHead → List Part → LineToken → Option Partial
want_more d h ps (tokens.Name at) = Some (at_have h (named at) ps)
want_more d h ps (tokens.Number at) = Some (at_have h (number at) ps)
want_more d h ps t = enter d h ps (opening t)

abbrev pub close_more : LineHead → Expr → List Part → LineToken → Option Partial
close_more h e (group ∷ ps) tokens.Close = Some (at_have h (grouped e) ps)
close_more h e (first p ∷ ps) tokens.Comma = Some (at_want h (second p e ∷ ps))
close_more h e (second p a ∷ ps) tokens.Close = Some (at_have h (paired p a e) ps)
close_more h e (condition ∷ ps) tokens.Then = Some (at_want h (yes e ∷ ps))
close_more h e (yes c ∷ ps) tokens.Else = Some (at_want h (no c e ∷ ps))
close_more h e ps t = None

-- the operator may follow the expression
abbrev pub may_follow : Dialect → Expr → Infix → Bool
may_follow d e o = has_infix d o && nat_le (left o) (level e)

abbrev pub have_more : Dialect → LineHead → Expr → List Part → LineToken → Option Partial
have_more d h e ps (tokens.Infix o at) = cond (may_follow d e o) (Some (at_want h (after o at e ∷ ps))) None
have_more d h e ps t = close_more h e ps t

abbrev pub more_in : Dialect → Partial → LineToken → Option Partial
more_in d at_first tokens.Input = Some at_input
more_in d at_first tokens.Let = Some at_let
more_in d at_first tokens.Output = Some (at_want output_head [])
more_in d at_input (tokens.Name x) = Some (cond (has_width d) (at_width x) (at_end x))
more_in d (at_width x) (tokens.Number w) = Some (at_wide_end x w)
more_in d at_let (tokens.Name x) = Some (at_equals x)
more_in d (at_equals x) tokens.Equals = Some (at_want (let_head x) [])
more_in d (at_want h ps) t = want_more d h ps t
more_in d (at_call h p ps) tokens.Open = Some (at_want h (first p ∷ ps))
more_in d (at_have h e ps) t = have_more d h e ps t
more_in d _ _ = None

-- what has been read after one more token
abbrev pub one_more : Dialect → Partial → LineToken → Option Partial
one_more d a t = more_in d (folded (power t) a) t

both_kept : (b : Bool) (s : State) (a : Partial) → s ≡ state_of a → cond b (Some s) None ≡ option_map state_of (cond b (Some a) None)
both_kept true s a e = ap Some e
both_kept false s a e = refl

want_kept : (d : Dialect) (h : LineHead) (ps : List Part) (t : LineToken) → want_step d (head_of h) (state_of (at_want h ps)) t ≡ option_map state_of (want_more d h ps t)
want_kept d h ps (tokens.Name at) = refl
want_kept d h ps (tokens.Number at) = refl
want_kept d h ps tokens.Open = both_kept (may d ps group) _ (at_want h (group ∷ ps)) refl
want_kept d h ps (tokens.Pair p) = both_kept (may d ps (first p)) _ (at_call h p ps) refl
want_kept d h ps tokens.If = both_kept (may d ps condition) _ (at_want h (condition ∷ ps)) refl
want_kept d h ps (tokens.Not at) = both_kept (may d ps (sign Not at)) _ (at_want h (sign Not at ∷ ps)) refl
want_kept d h ps (tokens.Infix infixes.Subtract at) = both_kept (may d ps (sign Negate at)) _ (at_want h (sign Negate at ∷ ps)) refl
want_kept d h ps _ = refl

closed_kept : (h : LineHead) (e : Expr) (ps : List Part) (out : List ExprElement) → out ≡ back e (outs ps) → Some (state (modes.Have (head_of h) ATOM) (signs_of ps + 1 - 1) (frames_of ps) out) ≡ Some (state (modes.Have (head_of h) ATOM) (signs_of ps) (frames_of ps) (back e (outs ps)))
closed_kept h e ps out k = ap (λ n. Some (state (modes.Have (head_of h) ATOM) n (frames_of ps) out)) (one_back (signs_of ps)) ∙ ap (λ o. Some (state (modes.Have (head_of h) ATOM) (signs_of ps) (frames_of ps) o)) k

close_kept : (h : LineHead) (e : Expr) (ps : List Part) (t : LineToken) → close_step (head_of h) (state_of (at_have h e ps)) (frames_of ps) t ≡ option_map state_of (close_more h e ps t)
close_kept h e (group ∷ ps) tokens.Close = closed_kept h (grouped e) ps _ refl
close_kept h e (group ∷ ps) _ = refl
close_kept h e (first p ∷ ps) tokens.Comma = refl
close_kept h e (first p ∷ ps) _ = refl
close_kept h e (second p a ∷ ps) tokens.Close = closed_kept h (paired p a e) ps _ refl
close_kept h e (second p a ∷ ps) _ = refl
close_kept h e (condition ∷ ps) tokens.Then = refl
close_kept h e (condition ∷ ps) _ = refl
close_kept h e (yes c ∷ ps) tokens.Else = refl
close_kept h e (yes c ∷ ps) _ = refl
close_kept h e (no c a ∷ ps) _ = refl
close_kept h e (sign x at ∷ ps) _ = refl
close_kept h e (after o at a ∷ ps) _ = refl
close_kept h e [] _ = refl

have_kept : (d : Dialect) (h : LineHead) (e : Expr) (ps : List Part) (t : LineToken) → have_step d (head_of h) (level e) (state_of (at_have h e ps)) t ≡ option_map state_of (have_more d h e ps t)
have_kept d h e ps (tokens.Infix o at) = both_kept (may_follow d e o) _ (at_want h (after o at e ∷ ps)) refl
have_kept d h e ps tokens.Input = close_kept h e ps tokens.Input
have_kept d h e ps tokens.Let = close_kept h e ps tokens.Let
have_kept d h e ps tokens.Output = close_kept h e ps tokens.Output
have_kept d h e ps tokens.If = close_kept h e ps tokens.If
have_kept d h e ps tokens.Then = close_kept h e ps tokens.Then
have_kept d h e ps tokens.Else = close_kept h e ps tokens.Else
have_kept d h e ps (tokens.Not at) = close_kept h e ps (tokens.Not at)
have_kept d h e ps (tokens.Pair p) = close_kept h e ps (tokens.Pair p)
have_kept d h e ps (tokens.Name at) = close_kept h e ps (tokens.Name at)
have_kept d h e ps (tokens.Number at) = close_kept h e ps (tokens.Number at)
have_kept d h e ps tokens.Equals = close_kept h e ps tokens.Equals
have_kept d h e ps tokens.Open = close_kept h e ps tokens.Open
have_kept d h e ps tokens.Comma = close_kept h e ps tokens.Comma
have_kept d h e ps tokens.Close = close_kept h e ps tokens.Close
have_kept d h e ps tokens.Unknown = close_kept h e ps tokens.Unknown

named_kept : (x : ℕ) (b : Bool) → Some (state (cond b (modes.InputWidth x) (modes.Ended (heads.Input x))) 0 [] []) ≡ Some (state_of (cond b (at_width x) (at_end x)))
named_kept x true = refl
named_kept x false = refl

more_kept : (d : Dialect) (a : Partial) (t : LineToken) → step_from d (state_of a) t ≡ option_map state_of (more_in d a t)
more_kept d at_first tokens.Input = refl
more_kept d at_first tokens.Let = refl
more_kept d at_first tokens.Output = refl
more_kept d at_first _ = refl
more_kept d at_input (tokens.Name x) = named_kept x (has_width d)
more_kept d at_input _ = refl
more_kept d (at_width x) (tokens.Number w) = refl
more_kept d (at_width x) _ = refl
more_kept d at_let (tokens.Name x) = refl
more_kept d at_let _ = refl
more_kept d (at_equals x) tokens.Equals = refl
more_kept d (at_equals x) _ = refl
more_kept d (at_end x) _ = refl
more_kept d (at_wide_end x w) _ = refl
more_kept d (at_want h ps) t = want_kept d h ps t
more_kept d (at_call h p ps) tokens.Open = refl
more_kept d (at_call h p ps) _ = refl
more_kept d (at_have h e ps) t = have_kept d h e ps t

-- one step of the parser
pub step_kept : (d : Dialect) (a : Partial) (t : LineToken) → step d (state_of a) t ≡ option_map state_of (one_more d a t)
step_kept d a t = ap (λ s. step_from d s t) (folded_kept (power t) a) ∙ more_kept d (folded (power t) a) t

-- ---- the tokens that were read, and then others

abbrev pub part_tokens : Part → List LineToken → List LineToken
part_tokens group rest = tokens.Open ∷ rest
part_tokens (first p) rest = tokens.Pair p ∷ tokens.Open ∷ rest
part_tokens (second p a) rest = tokens.Pair p ∷ tokens.Open ∷ spell a (tokens.Comma ∷ rest)
part_tokens condition rest = tokens.If ∷ rest
part_tokens (yes c) rest = tokens.If ∷ spell c (tokens.Then ∷ rest)
part_tokens (no c a) rest = tokens.If ∷ spell c (tokens.Then ∷ spell a (tokens.Else ∷ rest))
part_tokens (sign x at) rest = prefix_token x at ∷ rest
part_tokens (after o at a) rest = spell a (tokens.Infix o at ∷ rest)

abbrev pub parts_tokens : List Part → List LineToken → List LineToken
parts_tokens [] rest = rest
parts_tokens (p ∷ ps) rest = parts_tokens ps (part_tokens p rest)

abbrev pub head_tokens : LineHead → List LineToken → List LineToken
head_tokens (let_head x) rest = tokens.Let ∷ tokens.Name x ∷ tokens.Equals ∷ rest
head_tokens output_head rest = tokens.Output ∷ rest

abbrev pub told : Partial → List LineToken → List LineToken
told at_first rest = rest
told at_input rest = tokens.Input ∷ rest
told (at_width x) rest = tokens.Input ∷ tokens.Name x ∷ rest
told at_let rest = tokens.Let ∷ rest
told (at_equals x) rest = tokens.Let ∷ tokens.Name x ∷ rest
told (at_end x) rest = tokens.Input ∷ tokens.Name x ∷ rest
told (at_wide_end x w) rest = tokens.Input ∷ tokens.Name x ∷ tokens.Number w ∷ rest
told (at_want h ps) rest = head_tokens h (parts_tokens ps rest)
told (at_call h p ps) rest = head_tokens h (parts_tokens ps (tokens.Pair p ∷ rest))
told (at_have h e ps) rest = head_tokens h (parts_tokens ps (spell e rest))

abbrev TellsAs : List LineToken → List LineToken → Folded → Type 0
TellsAs ts rest f = parts_tokens f.parts (spell f.tree rest) ≡ ts

either : (P : Folded → Type 0) (b : Bool) (f g : Folded) → P f → P g → P (cond b f g)
either P true f g p q = p
either P false f g p q = q

fold_told : (k : ℕ) (e : Expr) (ps : List Part) (rest : List LineToken) → TellsAs (parts_tokens ps (spell e rest)) rest (fold k e ps)
fold_told k e [] rest = refl
fold_told k e (group ∷ ps) rest = refl
fold_told k e (first p ∷ ps) rest = refl
fold_told k e (second p a ∷ ps) rest = refl
fold_told k e (condition ∷ ps) rest = refl
fold_told k e (yes c ∷ ps) rest = refl
fold_told k e (no c a ∷ ps) rest = either (TellsAs (parts_tokens (no c a ∷ ps) (spell e rest)) rest) (nat_le k 0) _ _ (fold_told k (chosen c a e) ps rest) refl
fold_told k e (sign x at ∷ ps) rest = either (TellsAs (parts_tokens (sign x at ∷ ps) (spell e rest)) rest) (nat_le k (prefix_level x)) _ _ (fold_told k (prefixed x at e) ps rest) refl
fold_told k e (after o at a ∷ ps) rest = either (TellsAs (parts_tokens (after o at a ∷ ps) (spell e rest)) rest) (nat_le k (right o)) _ _ (fold_told k (infixed o at a e) ps rest) refl

pub folded_told : (k : ℕ) (a : Partial) (rest : List LineToken) → told (folded k a) rest ≡ told a rest
folded_told k at_first rest = refl
folded_told k at_input rest = refl
folded_told k (at_width x) rest = refl
folded_told k at_let rest = refl
folded_told k (at_equals x) rest = refl
folded_told k (at_end x) rest = refl
folded_told k (at_wide_end x w) rest = refl
folded_told k (at_want h ps) rest = refl
folded_told k (at_call h p ps) rest = refl
folded_told k (at_have h e ps) rest = ap (head_tokens h) (fold_told k e ps rest)

-- if there is one
abbrev pub When : Option Partial → (Partial → Type 0) → Type 0
When None P = Unit {0}
When (Some b) P = P b

when_either : (P : Partial → Type 0) (b : Bool) (a : Partial) → (b ≡ true → P a) → When (cond b (Some a) None) P
when_either P true a p = p refl
when_either P false a p = tt

want_told : (d : Dialect) (h : LineHead) (ps : List Part) (t : LineToken) (rest : List LineToken) → When (want_more d h ps t) (λ b. told b rest ≡ told (at_want h ps) (t ∷ rest))
want_told d h ps (tokens.Name at) rest = refl
want_told d h ps (tokens.Number at) rest = refl
want_told d h ps tokens.Open rest = when_either _ (may d ps group) _ (λ e. refl)
want_told d h ps (tokens.Pair p) rest = when_either _ (may d ps (first p)) _ (λ e. refl)
want_told d h ps tokens.If rest = when_either _ (may d ps condition) _ (λ e. refl)
want_told d h ps (tokens.Not at) rest = when_either _ (may d ps (sign Not at)) _ (λ e. refl)
want_told d h ps (tokens.Infix infixes.Subtract at) rest = when_either _ (may d ps (sign Negate at)) _ (λ e. refl)
want_told d h ps _ rest = tt

close_told : (h : LineHead) (e : Expr) (ps : List Part) (t : LineToken) (rest : List LineToken) → When (close_more h e ps t) (λ b. told b rest ≡ told (at_have h e ps) (t ∷ rest))
close_told h e (group ∷ ps) tokens.Close rest = refl
close_told h e (first p ∷ ps) tokens.Comma rest = refl
close_told h e (second p a ∷ ps) tokens.Close rest = refl
close_told h e (condition ∷ ps) tokens.Then rest = refl
close_told h e (yes c ∷ ps) tokens.Else rest = refl
close_told h e ps t rest = tt

have_told : (d : Dialect) (h : LineHead) (e : Expr) (ps : List Part) (t : LineToken) (rest : List LineToken) → When (have_more d h e ps t) (λ b. told b rest ≡ told (at_have h e ps) (t ∷ rest))
have_told d h e ps (tokens.Infix o at) rest = when_either _ (may_follow d e o) _ (λ k. refl)
have_told d h e ps tokens.Input rest = close_told h e ps tokens.Input rest
have_told d h e ps tokens.Let rest = close_told h e ps tokens.Let rest
have_told d h e ps tokens.Output rest = close_told h e ps tokens.Output rest
have_told d h e ps tokens.If rest = close_told h e ps tokens.If rest
have_told d h e ps tokens.Then rest = close_told h e ps tokens.Then rest
have_told d h e ps tokens.Else rest = close_told h e ps tokens.Else rest
have_told d h e ps (tokens.Not at) rest = close_told h e ps (tokens.Not at) rest
have_told d h e ps (tokens.Pair p) rest = close_told h e ps (tokens.Pair p) rest
have_told d h e ps (tokens.Name at) rest = close_told h e ps (tokens.Name at) rest
have_told d h e ps (tokens.Number at) rest = close_told h e ps (tokens.Number at) rest
have_told d h e ps tokens.Equals rest = close_told h e ps tokens.Equals rest
have_told d h e ps tokens.Open rest = close_told h e ps tokens.Open rest
have_told d h e ps tokens.Comma rest = close_told h e ps tokens.Comma rest
have_told d h e ps tokens.Close rest = close_told h e ps tokens.Close rest
have_told d h e ps tokens.Unknown rest = close_told h e ps tokens.Unknown rest

named_told : (x : ℕ) (rest : List LineToken) (b : Bool) → told (cond b (at_width x) (at_end x)) rest ≡ told at_input (tokens.Name x ∷ rest)
named_told x rest true = refl
named_told x rest false = refl

in_told : (d : Dialect) (a : Partial) (t : LineToken) (rest : List LineToken) → When (more_in d a t) (λ b. told b rest ≡ told a (t ∷ rest))
in_told d at_first tokens.Input rest = refl
in_told d at_first tokens.Let rest = refl
in_told d at_first tokens.Output rest = refl
in_told d at_first _ rest = tt
in_told d at_input (tokens.Name x) rest = named_told x rest (has_width d)
in_told d at_input _ rest = tt
in_told d (at_width x) (tokens.Number w) rest = refl
in_told d (at_width x) _ rest = tt
in_told d at_let (tokens.Name x) rest = refl
in_told d at_let _ rest = tt
in_told d (at_equals x) tokens.Equals rest = refl
in_told d (at_equals x) _ rest = tt
in_told d (at_end x) _ rest = tt
in_told d (at_wide_end x w) _ rest = tt
in_told d (at_want h ps) t rest = want_told d h ps t rest
in_told d (at_call h p ps) tokens.Open rest = refl
in_told d (at_call h p ps) _ rest = tt
in_told d (at_have h e ps) t rest = have_told d h e ps t rest

when_same : (o : Option Partial) (rest ts us : List LineToken) → ts ≡ us → When o (λ b. told b rest ≡ ts) → When o (λ b. told b rest ≡ us)
when_same None rest ts us e h = tt
when_same (Some b) rest ts us e h = h ∙ e

pub more_told : (d : Dialect) (a : Partial) (t : LineToken) (rest : List LineToken) → When (one_more d a t) (λ b. told b rest ≡ told a (t ∷ rest))
more_told d a t rest = when_same (one_more d a t) rest _ _ (folded_told (power t) a (t ∷ rest)) (in_told d (folded (power t) a) t rest)
