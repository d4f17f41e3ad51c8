-- What the parser has read begins a line of the grammar.
use Rattle.std.proofs.Common.{◌≡◌, ℕ, ◌+◌, ◌≤◌, ◌<◌, Bool, true, false, cond, List, [], ◌∷◌, ◌++◌, Option, Some, None, refl, sym, ◌∙◌, ap, arith}
use Rattle.std.specs.Prelude.{nat_le, ◌&&◌}
use Rattle.std.specs.Option.{option_map}
use Rattle.std.proofs.lemmas.List.{append-nil}
use Rattle.std.proofs.lemmas.Bool.{leb-true, leb-false}
use Rattle.line_grammar.specs.declared.token.LineToken.{LineToken}
use Rattle.line_grammar.specs.declared.token.LineToken.TheVariants as tokens
use Rattle.line_grammar.specs.declared.element.Head.TheVariants as heads
use Rattle.line_grammar.specs.declared.operator.Infix.TheVariants as infixes
use Rattle.line_grammar.specs.declared.operator.Prefix.{Prefix}
use Rattle.line_grammar.specs.declared.operator.Prefix.TheVariants.{Not, Negate}
use Rattle.line_grammar.specs.declared.dialect.Dialect.{Dialect}
use Rattle.line_grammar.specs.declared.limits.TheConstants.{ATOM}
use Rattle.line_grammar.specs.Levels as levels
use Rattle.line_grammar.specs.Levels.{left, right, prefix_level}
use Rattle.line_grammar.specs.Dialects.{has_infix, has_prefix, has_pairs, has_choice, has_width, has_frame}
use Rattle.line_grammar.specs.Frames.{whole, wanted_last}
use Rattle.line_grammar.specs.Grammar.{Expr, LineForm, Line, level, within, HasRoom, IsExpr, IsLine, spell, spell_line}
use Rattle.line_grammar.specs.Grammar.Expr.{number, grouped, paired, prefixed, infixed, chosen}
use Rattle.line_grammar.specs.Grammar.LineForm.{input_line, wide_input_line, let_line, output_line}
use Rattle.line_grammar.specs.Postfix.{read_of}
use Rattle.line_grammar.specs.Machine.{State, start, power, Read, read, finish, finish_from}
use Rattle.line_grammar.specs.Grammar.{IsViable}
use Rattle.line_grammar.specs.Scanned.{is_first}
use Rattle.line_grammar.proofs.Runs.{back, below_atom, run, allowed, run_none, run-append, run_line, end_of, read_back}
use Rattle.line_grammar.proofs.Partials.{LineHead, Part, Partial, frame_of, frames_of, signs_of, state_of, Folded, fold, folded, folded_kept, may, want_more, close_more, have_more, more_in, one_more, step_kept, part_tokens, parts_tokens, head_tokens, told, folded_told, When, more_told}
use Rattle.line_grammar.proofs.Partials.LineHead.{let_head, output_head}
use Rattle.line_grammar.proofs.Partials.Part.{group, first, second, condition, yes, no, sign, after}
use Rattle.line_grammar.proofs.Partials.Partial.{at_first, at_input, at_width, at_let, at_equals, at_end, at_wide_end, at_want, at_call, at_have}

prefix_small : (x : Prefix) → prefix_level x ≤ ATOM
prefix_small Not = omega arith
prefix_small Negate = omega arith

wanted_small : (ps : List Part) → wanted_last (frames_of ps) ≤ ATOM
wanted_small [] = omega arith
wanted_small (group ∷ ps) = omega arith
wanted_small (first p ∷ ps) = omega arith
wanted_small (second p a ∷ ps) = omega arith
wanted_small (condition ∷ ps) = omega arith
wanted_small (yes c ∷ ps) = omega arith
wanted_small (no c a ∷ ps) = omega arith
wanted_small (sign x at ∷ ps) = prefix_small x
wanted_small (after o at a ∷ ps) = omega (arith, below_atom o)

-- where a token of power k ended what it could, what waits binds less
fold_below : (k : ℕ) (e : Expr) (ps : List Part) → 1 ≤ k → wanted_last (frames_of (fold k e ps).parts) < k
fold_below k e [] l = omega (arith, l)
fold_below k e (group ∷ ps) l = omega (arith, l)
fold_below k e (first p ∷ ps) l = omega (arith, l)
fold_below k e (second p a ∷ ps) l = omega (arith, l)
fold_below k e (condition ∷ ps) l = omega (arith, l)
fold_below k e (yes c ∷ ps) l = omega (arith, l)
fold_below k e (no c a ∷ ps) l = below_if (nat_le k 0) _ _ k refl (λ f. omega (arith, l)) (fold_below k (chosen c a e) ps l)
  where
    below_if : (b : Bool) (f g : Folded) (k : ℕ) → nat_le k 0 ≡ b → (b ≡ false → wanted_last (frames_of g.parts) < k) → wanted_last (frames_of f.parts) < k → wanted_last (frames_of (cond b f g).parts) < k
    below_if true f g k e h i = i
    below_if false f g k e h i = h refl
fold_below k e (sign x at ∷ ps) l = below_sign (nat_le k (prefix_level x)) (fold k (prefixed x at e) ps) refl (fold_below k (prefixed x at e) ps l)
  where
    below_sign : (b : Bool) (f : Folded) → nat_le k (prefix_level x) ≡ b → wanted_last (frames_of f.parts) < k → wanted_last (frames_of (cond b f (record { tree = e; parts = sign x at ∷ ps })).parts) < k
    below_sign true f h i = i
    below_sign false f h i = leb-false k (prefix_level x) h
fold_below k e (after o at a ∷ ps) l = below_infix (nat_le k (right o)) (fold k (infixed o at a e) ps) refl (fold_below k (infixed o at a e) ps l)
  where
    below_infix : (b : Bool) (f : Folded) → nat_le k (right o) ≡ b → wanted_last (frames_of f.parts) < k → wanted_last (frames_of (cond b f (record { tree = e; parts = after o at a ∷ ps })).parts) < k
    below_infix true f h i = i
    below_infix false f h i = leb-false k (right o) h

-- what closes each part
abbrev pub tail : Part → List LineToken → List LineToken
tail group rest = tokens.Close ∷ rest
tail (first p) rest = tokens.Comma ∷ tokens.Number 0 ∷ tokens.Close ∷ rest
tail (second p a) rest = tokens.Close ∷ rest
tail condition rest = tokens.Then ∷ tokens.Number 0 ∷ tokens.Else ∷ tokens.Number 0 ∷ rest
tail (yes c) rest = tokens.Else ∷ tokens.Number 0 ∷ rest
tail _ rest = rest

abbrev pub closing : List Part → List LineToken
closing [] = []
closing (p ∷ ps) = tail p (closing ps)

-- the expression that then stands there
abbrev pub fill : Part → Expr → Expr
fill group e = grouped e
fill (first p) e = paired p e (number 0)
fill (second p a) e = paired p a e
fill condition e = chosen e (number 0) (number 0)
fill (yes c) e = chosen c e (number 0)
fill (no c a) e = chosen c a e
fill (sign x at) e = prefixed x at e
fill (after o at a) e = infixed o at a e

fill_told : (p : Part) (e : Expr) (rest : List LineToken) → spell (fill p e) rest ≡ part_tokens p (spell e (tail p rest))
fill_told group e rest = refl
fill_told (first p) e rest = refl
fill_told (second p a) e rest = refl
fill_told condition e rest = refl
fill_told (yes c) e rest = refl
fill_told (no c a) e rest = refl
fill_told (sign x at) e rest = refl
fill_told (after o at a) e rest = refl

abbrev pub line_with : LineHead → Expr → LineForm
line_with (let_head x) e = let_line x e
line_with output_head e = output_line e

line_told : (h : LineHead) (e : Expr) → spell_line (line_with h e) ≡ head_tokens h (spell e [])
line_told (let_head x) e = refl
line_told output_head e = refl

module _ (d : Dialect) (limit : Option ℕ) where
  -- a part stands in its place, where n signs are open and an operand of level w is wanted
  abbrev pub Fits : ℕ → ℕ → Part → Type 0
  Fits n w group = HasRoom limit n
  Fits n w (first p) = HasRoom limit n × (has_pairs d ≡ true)
  Fits n w (second p a) = HasRoom limit n × (has_pairs d ≡ true) × IsExpr d limit (n + 1) a
  Fits n w condition = HasRoom limit n × (w ≤ 0) × (has_choice d ≡ true)
  Fits n w (yes c) = HasRoom limit n × (w ≤ 0) × (has_choice d ≡ true) × IsExpr d limit (n + 1) c
  Fits n w (no c a) = HasRoom limit n × (w ≤ 0) × (has_choice d ≡ true) × IsExpr d limit (n + 1) c × IsExpr d limit (n + 1) a
  Fits n w (sign x at) = HasRoom limit n × (w ≤ prefix_level x) × (has_prefix d x ≡ true)
  Fits n w (after o at a) = IsExpr d limit n a × (left o ≤ level a) × (w ≤ levels.level o) × (has_infix d o ≡ true)

  abbrev pub Fit : List Part → Type 0
  Fit [] = Unit {0}
  Fit (p ∷ ps) = Fits (signs_of ps) (wanted_last (frames_of ps)) p × Fit ps

  -- an expression stands in its place
  abbrev pub Stands : Expr → List Part → Type 0
  Stands e ps = IsExpr d limit (signs_of ps) e × (wanted_last (frames_of ps) ≤ level e) × Fit ps

  abbrev pub IsSound : Partial → Type 0
  IsSound (at_width x) = has_width d ≡ true
  IsSound (at_end x) = has_width d ≡ false
  IsSound (at_wide_end x w) = has_width d ≡ true
  IsSound (at_want h ps) = Fit ps
  IsSound (at_call h p ps) = Fits (signs_of ps) (wanted_last (frames_of ps)) (first p) × Fit ps
  IsSound (at_have h e ps) = Stands e ps
  IsSound _ = Unit {0}

  fill_stands : (p : Part) (e : Expr) (ps : List Part) → Stands e (p ∷ ps) → Stands (fill p e) ps
  fill_stands group e ps s = ((s.2.0, s.0), wanted_small ps, s.2.1)
  fill_stands (first p) e ps s = ((s.2.0.1, s.2.0.0, s.0, tt), wanted_small ps, s.2.1)
  fill_stands (second p a) e ps s = ((s.2.0.1, s.2.0.0, s.2.0.2, s.0), wanted_small ps, s.2.1)
  fill_stands condition e ps s = ((s.2.0.2, s.2.0.0, s.0, tt, tt), s.2.0.1, s.2.1)
  fill_stands (yes c) e ps s = ((s.2.0.2, s.2.0.0, s.2.0.3, s.0, tt), s.2.0.1, s.2.1)
  fill_stands (no c a) e ps s = ((s.2.0.2, s.2.0.0, s.2.0.3, s.2.0.4, s.0), s.2.0.1, s.2.1)
  fill_stands (sign x at) e ps s = ((s.2.0.2, s.1, s.2.0.0, s.0), s.2.0.1, s.2.1)
  fill_stands (after o at a) e ps s = ((s.2.0.3, s.2.0.1, s.1, s.2.0.0, s.0), s.2.0.2, s.2.1)

  stands_either : (b : Bool) (f g : Folded) → Stands f.tree f.parts → Stands g.tree g.parts → Stands (cond b f g).tree (cond b f g).parts
  stands_either true f g p q = p
  stands_either false f g p q = q

  fold_stands : (k : ℕ) (e : Expr) (ps : List Part) → Stands e ps → Stands (fold k e ps).tree (fold k e ps).parts
  fold_stands k e [] s = s
  fold_stands k e (group ∷ ps) s = s
  fold_stands k e (first p ∷ ps) s = s
  fold_stands k e (second p a ∷ ps) s = s
  fold_stands k e (condition ∷ ps) s = s
  fold_stands k e (yes c ∷ ps) s = s
  fold_stands k e (no c a ∷ ps) s =
      stands_either (nat_le k 0) (fold k (chosen c a e) ps) (record { tree = e; parts = no c a ∷ ps }) (fold_stands k (chosen c a e) ps (fill_stands (no c a) e ps s)) s
  fold_stands k e (sign x at ∷ ps) s =
      stands_either (nat_le k (prefix_level x)) (fold k (prefixed x at e) ps) (record { tree = e; parts = sign x at ∷ ps }) (fold_stands k (prefixed x at e) ps (fill_stands (sign x at) e ps s)) s
  fold_stands k e (after o at a ∷ ps) s =
      stands_either (nat_le k (right o)) (fold k (infixed o at a e) ps) (record { tree = e; parts = after o at a ∷ ps }) (fold_stands k (infixed o at a e) ps (fill_stands (after o at a) e ps s)) s

  -- what waits binds less than k
  abbrev Below : ℕ → Partial → Type 0
  Below k (at_have h e ps) = 1 ≤ k → wanted_last (frames_of ps) < k
  Below k _ = Unit {0}

  folded_below : (k : ℕ) (a : Partial) → Below k (folded k a)
  folded_below k at_first = tt
  folded_below k at_input = tt
  folded_below k (at_width x) = tt
  folded_below k at_let = tt
  folded_below k (at_equals x) = tt
  folded_below k (at_end x) = tt
  folded_below k (at_wide_end x w) = tt
  folded_below k (at_want h ps) = tt
  folded_below k (at_call h p ps) = tt
  folded_below k (at_have h e ps) = fold_below k e ps

  pub folded_sound : (k : ℕ) (a : Partial) → IsSound a → IsSound (folded k a)
  folded_sound k at_first s = s
  folded_sound k at_input s = s
  folded_sound k (at_width x) s = s
  folded_sound k at_let s = s
  folded_sound k (at_equals x) s = s
  folded_sound k (at_end x) s = s
  folded_sound k (at_wide_end x w) s = s
  folded_sound k (at_want h ps) s = s
  folded_sound k (at_call h p ps) s = s
  folded_sound k (at_have h e ps) s = fold_stands k e ps s

  -- sound, if no more signs are open than may be
  abbrev Keeps : Partial → Type 0
  Keeps b = within limit (state_of b).signs ≡ true → IsSound b

  keeps_if : (a : Bool) (n m : ℕ) (b : Partial) → (a ≡ true → n ≤ m → Keeps b) → When (cond (a && nat_le n m) (Some b) None) Keeps
  keeps_if false n m b h = tt
  keeps_if true n m b h = go (nat_le n m) refl
    where
      go : (c : Bool) → nat_le n m ≡ c → When (cond c (Some b) None) Keeps
      go true e = h refl (leb-true n m e)
      go false e = tt

  -- sound, if the part may begin here
  enters : (p : Part) (ps : List Part) (b : Partial) → (has_frame d (frame_of p) ≡ true → wanted_last (frames_of ps) ≤ whole (frame_of p) → Keeps b) → When (cond (may d ps p) (Some b) None) Keeps
  enters p ps b h = keeps_if (has_frame d (frame_of p)) (wanted_last (frames_of ps)) (whole (frame_of p)) b h

  want_sound : (h : LineHead) (ps : List Part) (t : LineToken) → Fit ps → When (want_more d h ps t) Keeps
  want_sound h ps (tokens.Name at) s = λ w. (tt, wanted_small ps, s)
  want_sound h ps (tokens.Number at) s = λ w. (tt, wanted_small ps, s)
  want_sound h ps tokens.Open s = enters group ps _ (λ e l w. (w, s))
  want_sound h ps (tokens.Pair p) s = enters (first p) ps _ (λ e l w. ((w, e), s))
  want_sound h ps tokens.If s = enters condition ps _ (λ e l w. ((w, l, e), s))
  want_sound h ps (tokens.Not at) s = enters (sign Not at) ps _ (λ e l w. ((w, l, e), s))
  want_sound h ps (tokens.Infix infixes.Subtract at) s = enters (sign Negate at) ps _ (λ e l w. ((w, l, e), s))
  want_sound h ps _ s = tt

  close_sound : (h : LineHead) (e : Expr) (ps : List Part) (t : LineToken) → Stands e ps → When (close_more h e ps t) Keeps
  close_sound h e (group ∷ ps) tokens.Close s = λ w. fill_stands group e ps s
  close_sound h e (first p ∷ ps) tokens.Comma s = λ w. ((s.2.0.0, s.2.0.1, s.0), s.2.1)
  close_sound h e (second p a ∷ ps) tokens.Close s = λ w. fill_stands (second p a) e ps s
  close_sound h e (condition ∷ ps) tokens.Then s = λ w. ((s.2.0.0, s.2.0.1, s.2.0.2, s.0), s.2.1)
  close_sound h e (yes c ∷ ps) tokens.Else s = λ w. ((s.2.0.0, s.2.0.1, s.2.0.2, s.2.0.3, s.0), s.2.1)
  close_sound h e ps t s = tt

  have_sound : (h : LineHead) (e : Expr) (ps : List Part) (t : LineToken) → Stands e ps → Below (power t) (at_have h e ps) → When (have_more d h e ps t) Keeps
  have_sound h e ps (tokens.Infix o at) s b =
      let low : wanted_last (frames_of ps) < levels.level o + 1 = b (omega arith) in
      keeps_if (has_infix d o) (left o) (level e) _ (λ k l w. ((s.0, l, omega (arith, low), k), s.2))
  have_sound h e ps tokens.Input s b = close_sound h e ps tokens.Input s
  have_sound h e ps tokens.Let s b = close_sound h e ps tokens.Let s
  have_sound h e ps tokens.Output s b = close_sound h e ps tokens.Output s
  have_sound h e ps tokens.If s b = close_sound h e ps tokens.If s
  have_sound h e ps tokens.Then s b = close_sound h e ps tokens.Then s
  have_sound h e ps tokens.Else s b = close_sound h e ps tokens.Else s
  have_sound h e ps (tokens.Not at) s b = close_sound h e ps (tokens.Not at) s
  have_sound h e ps (tokens.Pair p) s b = close_sound h e ps (tokens.Pair p) s
  have_sound h e ps (tokens.Name at) s b = close_sound h e ps (tokens.Name at) s
  have_sound h e ps (tokens.Number at) s b = close_sound h e ps (tokens.Number at) s
  have_sound h e ps tokens.Equals s b = close_sound h e ps tokens.Equals s
  have_sound h e ps tokens.Open s b = close_sound h e ps tokens.Open s
  have_sound h e ps tokens.Comma s b = close_sound h e ps tokens.Comma s
  have_sound h e ps tokens.Close s b = close_sound h e ps tokens.Close s
  have_sound h e ps tokens.Unknown s b = close_sound h e ps tokens.Unknown s

  named_sound : (x : ℕ) (b : Bool) → has_width d ≡ b → Keeps (cond b (at_width x) (at_end x))
  named_sound x true e w = e
  named_sound x false e w = e

  in_sound : (a : Partial) (t : LineToken) → IsSound a → Below (power t) a → When (more_in d a t) Keeps
  in_sound at_first tokens.Input s b = λ w. tt
  in_sound at_first tokens.Let s b = λ w. tt
  in_sound at_first tokens.Output s b = λ w. tt
  in_sound at_first _ s b = tt
  in_sound at_input (tokens.Name x) s b = named_sound x (has_width d) refl
  in_sound at_input _ s b = tt
  in_sound (at_width x) (tokens.Number w) s b = λ k. s
  in_sound (at_width x) _ s b = tt
  in_sound at_let (tokens.Name x) s b = λ w. tt
  in_sound at_let _ s b = tt
  in_sound (at_equals x) tokens.Equals s b = λ w. tt
  in_sound (at_equals x) _ s b = tt
  in_sound (at_end x) _ s b = tt
  in_sound (at_wide_end x w) _ s b = tt
  in_sound (at_want h ps) t s b = want_sound h ps t s
  in_sound (at_call h p ps) tokens.Open s b = λ w. s
  in_sound (at_call h p ps) _ s b = tt
  in_sound (at_have h e ps) t s b = have_sound h e ps t s b

  pub more_sound : (a : Partial) (t : LineToken) → IsSound a → When (one_more d a t) Keeps
  more_sound a t s = in_sound (folded (power t) a) t (folded_sound (power t) a s) (folded_below (power t) a)

  -- ---- some line begins with what was read

  abbrev pub Begins : List LineToken → Type 0
  Begins ts = (line : Line d limit) × (spell_line line.form ≡ ts)

  line_is : (h : LineHead) (e : Expr) → IsExpr d limit 0 e → IsLine d limit (line_with h e)
  line_is (let_head x) e is = is
  line_is output_head e is = is

  completed : (h : LineHead) (e : Expr) (ps : List Part) → Stands e ps → Begins (head_tokens h (parts_tokens ps (spell e (closing ps))))
  completed h e [] s = (record { form = line_with h e; is = line_is h e s.0 }, line_told h e)
  completed h e (p ∷ ps) s =
      let c = completed h (fill p e) ps (fill_stands p e ps s) in
      (c.0, c.1 ∙ ap (λ ts. head_tokens h (parts_tokens ps ts)) (fill_told p e (closing ps)))

  abbrev GoesOn : Partial → Type 0
  GoesOn a = (rest : List LineToken) × Begins (told a rest)

  named_on : (b : Bool) → has_width d ≡ b → GoesOn at_input
  named_on true e = (tokens.Name 0 ∷ tokens.Number 0 ∷ [], (record { form = wide_input_line 0 0; is = e }, refl))
  named_on false e = (tokens.Name 0 ∷ [], (record { form = input_line 0; is = e }, refl))

  pub goes_on : (a : Partial) → IsSound a → GoesOn a
  goes_on at_first s = (tokens.Output ∷ tokens.Number 0 ∷ [], (record { form = output_line (number 0); is = tt }, refl))
  goes_on at_input s = named_on (has_width d) refl
  goes_on (at_width x) s = (tokens.Number 0 ∷ [], (record { form = wide_input_line x 0; is = s }, refl))
  goes_on at_let s = (tokens.Name 0 ∷ tokens.Equals ∷ tokens.Number 0 ∷ [], (record { form = let_line 0 (number 0); is = tt }, refl))
  goes_on (at_equals x) s = (tokens.Equals ∷ tokens.Number 0 ∷ [], (record { form = let_line x (number 0); is = tt }, refl))
  goes_on (at_end x) s = ([], (record { form = input_line x; is = s }, refl))
  goes_on (at_wide_end x w) s = ([], (record { form = wide_input_line x w; is = s }, refl))
  goes_on (at_want h ps) s = (tokens.Number 0 ∷ closing ps, completed h (number 0) ps (tt, wanted_small ps, s))
  goes_on (at_call h p ps) s = (tokens.Open ∷ tokens.Number 0 ∷ closing (first p ∷ ps), completed h (number 0) (first p ∷ ps) (tt, omega arith, s))
  goes_on (at_have h e ps) s = (closing ps, completed h e ps s)

  -- ---- what the parser has read once it has gone over tokens

  pub record Reached (a : Partial) (ts : List LineToken) (s : State) : Type 0 where
    pub partial : Partial
    pub is : s ≡ state_of partial
    pub read : (rest : List LineToken) → told partial rest ≡ told a (ts ++ rest)
    pub sound : IsSound partial

  abbrev Goal : Partial → LineToken → List LineToken → State → Option Partial → Type 0
  Goal a t ts s o = run d limit (allowed d limit (option_map state_of o)) ts ≡ Some s → Reached a (t ∷ ts) s

  reached_by : (a : Partial) (t : LineToken) (ts : List LineToken) (s : State) (o : Option Partial) → ((rest : List LineToken) → When o (λ b. told b rest ≡ told a (t ∷ rest))) → When o Keeps
      → ((b : Partial) → IsSound b → run d limit (Some (state_of b)) ts ≡ Some s → Reached b ts s) → Goal a t ts s o
  reached_by a t ts s None tells keeps next e = let no : None ≡ Some s = sym (run_none d limit ts) ∙ e in cc
  reached_by a t ts s (Some b) tells keeps next e = go (within limit (state_of b).signs) refl e
    where
      go : (c : Bool) → within limit (state_of b).signs ≡ c → run d limit (cond c (Some (state_of b)) None) ts ≡ Some s → Reached a (t ∷ ts) s
      go true w e =
          let r = next b (keeps w) e in
          record { partial = r.partial; is = r.is; read = λ rest. r.read rest ∙ tells (ts ++ rest); sound = r.sound }
      go false w e = let no : None ≡ Some s = sym (run_none d limit ts) ∙ e in cc

  pub reached : (a : Partial) (ts : List LineToken) (s : State) → IsSound a → run d limit (Some (state_of a)) ts ≡ Some s → Reached a ts s
  reached a [] s is e = record { partial = a; is = (let same : s ≡ state_of a = cc in same); read = λ rest. refl; sound = is }
  reached a (t ∷ ts) s is e =
      reached_by a t ts s (one_more d a t) (λ rest. more_told d a t rest) (more_sound a t is) (λ b. reached b ts s) (ap (λ o. run d limit (allowed d limit o) ts) (sym (step_kept d a t)) ∙ e)

  -- the parser has gone over tokens of which none has a fault
  pub run_viable : (ts : List LineToken) (s : State) → run d limit (Some start) ts ≡ Some s → IsViable d limit ts
  run_viable ts s e =
      let r = reached at_first ts s tt e in
      let g = goes_on r.partial r.sound in
      (g.0, g.1.0, g.1.1 ∙ r.read g.0)

  -- ---- where the parser finishes

  abbrev IsFinished : Partial → Read → Type 0
  IsFinished a r = (line : Line d limit) × (spell_line line.form ≡ told a []) × (r ≡ read_of line.form)

  finished_have : (h : LineHead) (e : Expr) (ps : List Part) (r : Read) → Stands e ps → finish_from (state_of (at_have h e ps)) ≡ Some r → IsFinished (at_have h e ps) r
  finished_have h e (p ∷ ps) r s f = cc
  finished_have (let_head x) e [] r s f =
      let same : r ≡ read (heads.Let x) (back e []) = cc in
      (record { form = let_line x e; is = s.0 }, refl, same ∙ read_back (heads.Let x) e)
  finished_have output_head e [] r s f =
      let same : r ≡ read heads.Output (back e []) = cc in
      (record { form = output_line e; is = s.0 }, refl, same ∙ read_back heads.Output e)

  finished : (a : Partial) (r : Read) → IsSound a → finish_from (state_of a) ≡ Some r → IsFinished a r
  finished at_first r s f = cc
  finished at_input r s f = cc
  finished (at_width x) r s f = cc
  finished at_let r s f = cc
  finished (at_equals x) r s f = cc
  finished (at_end x) r s f = (record { form = input_line x; is = s }, refl, (let same : r ≡ record { head = heads.Input x; elements = [] } = cc in same))
  finished (at_wide_end x w) r s f = (record { form = wide_input_line x w; is = s }, refl, (let same : r ≡ record { head = heads.WideInput x w; elements = [] } = cc in same))
  finished (at_want h ps) r s f = cc
  finished (at_call h p ps) r s f = cc
  finished (at_have h e ps) r s f = finished_have h e ps r s f

  -- the tokens are those of a line
  pub finish_spelled : (ts : List LineToken) (s : State) (r : Read) → run d limit (Some start) ts ≡ Some s → finish s ≡ Some r → (line : Line d limit) × (spell_line line.form ≡ ts) × (r ≡ read_of line.form)
  finish_spelled ts s r e f =
      let t = reached at_first ts s tt e in
      let g = finished (folded 0 t.partial) r (folded_sound 0 t.partial t.sound) (ap finish_from (sym (folded_kept 0 t.partial)) ∙ ap finish (sym t.is) ∙ f) in
      (g.0, g.1 ∙ folded_told 0 t.partial [] ∙ t.read [] ∙ append-nil ts, g.2)

  first_none : (a : Partial) → is_first (state_of a).mode ≡ true → told a [] ≡ []
  first_none at_first e = refl
  first_none at_input e = cc
  first_none (at_width x) e = cc
  first_none at_let e = cc
  first_none (at_equals x) e = cc
  first_none (at_end x) e = cc
  first_none (at_wide_end x w) e = cc
  first_none (at_want h ps) e = cc
  first_none (at_call h p ps) e = cc
  first_none (at_have h e ps) k = cc

  -- where the parser still wants the first word, there was no token
  pub first_blank : (ts : List LineToken) (s : State) → run d limit (Some start) ts ≡ Some s → is_first s.mode ≡ true → ts ≡ []
  first_blank ts s e f =
      let t = reached at_first ts s tt e in
      sym (sym (first_none t.partial (ap (λ (x : State). is_first x.mode) (sym t.is) ∙ f)) ∙ t.read [] ∙ append-nil ts)

  -- a line that some tokens begin is gone over
  pub viable_run : within limit 0 ≡ true → (ts : List LineToken) → IsViable d limit ts → (s : State) × (run d limit (Some start) ts ≡ Some s)
  viable_run some ts v = some_state (run d limit (Some start) ts) refl
    where
      some_state : (o : Option State) → run d limit (Some start) ts ≡ o → (s : State) × (run d limit (Some start) ts ≡ Some s)
      some_state None e =
          let no : None ≡ Some (end_of v.1.form) = sym (run_none d limit v.0) ∙ ap (λ o. run d limit o v.0) (sym e) ∙ sym (run-append d limit (Some start) ts v.0) ∙ ap (run d limit (Some start)) (sym v.2) ∙ run_line d limit some v.1.form v.1.is in
          cc
      some_state (Some s) e = (s, e)
