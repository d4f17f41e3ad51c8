-- The parser goes over the tokens of a line, and leaves its elements.
use Rattle.std.proofs.Common.{◌≡◌, ℕ, ◌+◌, ◌-◌, ◌≤◌, ◌<◌, ◌⊎◌, inl, inr, Bool, true, false, cond, List, [], ◌∷◌, ◌++◌, Option, Some, None, refl, ◌∙◌, ap, arith}
use Rattle.std.specs.Prelude.{reverse, nat_le, ◌&&◌}
use Rattle.std.proofs.lemmas.Bool.{le-leb, lt-leb}
use Rattle.line_grammar.specs.declared.token.LineToken.{LineToken}
use Rattle.line_grammar.specs.declared.token.LineToken.TheVariants as tokens
use Rattle.line_grammar.specs.declared.element.ExprElement.{ExprElement}
use Rattle.line_grammar.specs.declared.element.ExprElement.TheVariants as elements
use Rattle.line_grammar.specs.declared.element.Head.{Head}
use Rattle.line_grammar.specs.declared.element.Head.TheVariants as heads
use Rattle.line_grammar.specs.declared.mode.LineMode.TheVariants.{InputName, InputWidth, LetName, LetEquals, Ended, Want, Call, Have}
use Rattle.line_grammar.specs.declared.frame.Frame.{Frame}
use Rattle.line_grammar.specs.declared.frame.Frame.TheVariants.{Group, First, Second, Condition, Chosen, Otherwise, Prefix, Infix}
use Rattle.line_grammar.specs.declared.operator.Infix.{Infix as InfixOperator}
use Rattle.line_grammar.specs.declared.operator.Infix.TheVariants as infixes
use Rattle.line_grammar.specs.declared.operator.Prefix.{Prefix as PrefixOperator}
use Rattle.line_grammar.specs.declared.operator.Prefix.TheVariants.{Not, Negate}
use Rattle.line_grammar.specs.declared.dialect.Dialect.{Dialect}
use Rattle.line_grammar.specs.declared.limits.TheConstants.{ATOM}
use Rattle.line_grammar.specs.Levels as levels
use Rattle.line_grammar.specs.Levels.{left, right, prefix_level}
use Rattle.line_grammar.specs.Dialects.{has_infix, has_frame}
use Rattle.line_grammar.specs.Frames.{begun, whole, ends, wanted_last}
use Rattle.line_grammar.specs.Grammar.{Expr, LineForm, level, within, IsExpr, IsLine, prefix_token, spell, spell_line}
use Rattle.line_grammar.specs.Grammar.Expr.{number, named, grouped, paired, prefixed, infixed, chosen}
use Rattle.line_grammar.specs.Grammar.LineForm.{input_line, wide_input_line, let_line, output_line}
use Rattle.line_grammar.specs.Postfix.{post, read_of}
use Rattle.line_grammar.specs.Scanned.{is_first}
use Rattle.line_grammar.specs.Machine.{State, state, start, gather, gathered, begin, step_from, step, read, finish, finish_from}

-- ---- what the proofs know of the table of operators

pub above_left : (o : InfixOperator) → levels.level o ≤ left o
above_left infixes.Or = omega arith
above_left _ = omega arith

pub some_level : (o : InfixOperator) → 1 ≤ levels.level o
some_level infixes.Or = omega arith
some_level _ = omega arith

pub below_atom : (o : InfixOperator) → levels.level o ≤ 7
below_atom infixes.Or = omega arith
below_atom _ = omega arith

-- an operator before its operand has a level of its own
apart : (o : InfixOperator) (x : PrefixOperator) → left o ≤ prefix_level x → levels.level o + 1 ≤ prefix_level x
apart infixes.Or Not l = omega arith
apart _ Not l = omega (arith, l)
apart infixes.Or Negate l = omega arith
apart _ Negate l = omega arith

-- ---- what ends what

-- a token of power k may follow an expression of level n that it ends, or takes as its left operand
abbrev pub Follows : ℕ → ℕ → Type 0
Follows k n = (k ≡ 0) ⊎ ((o : InfixOperator) × (k ≡ levels.level o + 1) × (left o ≤ n))

pub follows_more : (k n m : ℕ) → n ≤ m → Follows k n → Follows k m
follows_more k n m l (inl z) = inl z
follows_more k n m l (inr f) = inr (f.0, f.1, omega (arith, l, f.2))

ends_infix : (k at : ℕ) (o : InfixOperator) → Follows k (levels.level o) → ends k (Infix o at) ≡ true
ends_infix k at o (inl z) = le-leb k (right o) (omega (arith, z))
ends_infix k at o (inr f) = le-leb k (right o) (omega (arith, f.1, f.2, above_left f.0))

ends_prefix : (k : ℕ) (x : PrefixOperator) → Follows k (prefix_level x) → ends k (Prefix x) ≡ true
ends_prefix k x (inl z) = le-leb k (prefix_level x) (omega (arith, z))
ends_prefix k x (inr f) = le-leb k (prefix_level x) (omega (arith, f.1, apart f.0 x f.2))

ends_otherwise : (k : ℕ) → Follows k 0 → ends k Otherwise ≡ true
ends_otherwise k (inl z) = le-leb k 0 (omega (arith, z))
ends_otherwise k (inr f) = absurd (omega (arith, f.2, above_left f.0, some_level f.0))

-- the elements of an expression with the last one first, before elements that were read earlier
abbrev pub back : Expr → List ExprElement → List ExprElement
back (number at) out = elements.Number at ∷ out
back (named at) out = elements.Name at ∷ out
back (grouped e) out = back e out
back (paired p a b) out = elements.Pair p ∷ back b (back a out)
back (prefixed x at e) out = elements.Prefix x ∷ back e out
back (infixed o at a b) out = elements.Infix o at ∷ back b (back a out)
back (chosen c a b) out = elements.Choose ∷ back b (back a (back c out))

-- an operand is wanted, or was read
abbrev pub wants : Head → ℕ → List Frame → List ExprElement → State
wants h n frames out = state (Want h) n frames out

abbrev pub has : Head → ℕ → ℕ → List Frame → List ExprElement → State
has h m n frames out = state (Have h m) n frames out

-- the state after an expression: the operators on its right wait still
abbrev pub spine : Head → ℕ → List Frame → List ExprElement → Expr → State
spine h n frames out (prefixed x at e) = spine h (n + 1) (Prefix x ∷ frames) out e
spine h n frames out (infixed o at a b) = spine h n (Infix o at ∷ frames) (back a out) b
spine h n frames out (chosen c a b) = spine h (n + 1) (Otherwise ∷ frames) (back a (back c out)) b
spine h n frames out e = has h ATOM n frames (back e out)

pub one_back : (n : ℕ) → n + 1 - 1 ≡ n
one_back n = omega arith

module _ (d : Dialect) (limit : Option ℕ) where
  -- what waits on the right of an expression ends with a token that may follow the expression
  pub gather_spine : (e : Expr) (h : Head) (k n : ℕ) (frames : List Frame) (out : List ExprElement) → IsExpr d limit n e → Follows k (level e)
      → gathered k (spine h n frames out e) ≡ gather h k (level e) n frames (back e out)
  gather_spine (number at) h k n frames out is f = refl
  gather_spine (named at) h k n frames out is f = refl
  gather_spine (grouped e) h k n frames out is f = refl
  gather_spine (paired p a b) h k n frames out is f = refl
  gather_spine (prefixed x at e) h k n frames out is f =
      gather_spine e h k (n + 1) (Prefix x ∷ frames) out is.3 (follows_more k (prefix_level x) (level e) is.1 f)
      ∙ ap (λ b. cond b (gather h k (prefix_level x) (n + 1 - 1) frames (elements.Prefix x ∷ back e out)) (has h (level e) (n + 1) (Prefix x ∷ frames) (back e out))) (ends_prefix k x f)
      ∙ ap (λ m. gather h k (prefix_level x) m frames (elements.Prefix x ∷ back e out)) (one_back n)
  gather_spine (infixed o at a b) h k n frames out is f =
      gather_spine b h k n (Infix o at ∷ frames) (back a out) is.4 (follows_more k (levels.level o) (level b) (omega (arith, is.2)) f)
      ∙ ap (λ c. cond c (gather h k (levels.level o) n frames (elements.Infix o at ∷ back b (back a out))) (has h (level b) n (Infix o at ∷ frames) (back b (back a out)))) (ends_infix k at o f)
  gather_spine (chosen c a b) h k n frames out is f =
      gather_spine b h k (n + 1) (Otherwise ∷ frames) (back a (back c out)) is.4 (follows_more k 0 (level b) (omega arith) f)
      ∙ ap (λ t. cond t (gather h k 0 (n + 1 - 1) frames (elements.Choose ∷ back b (back a (back c out)))) (has h (level b) (n + 1) (Otherwise ∷ frames) (back b (back a (back c out))))) (ends_otherwise k f)
      ∙ ap (λ m. gather h k 0 m frames (elements.Choose ∷ back b (back a (back c out)))) (one_back n)

  -- a token that binds tighter than what waits ends nothing
  pub gather_stays : (h : Head) (k m n : ℕ) (frames : List Frame) (out : List ExprElement) → wanted_last frames < k → gather h k m n frames out ≡ has h m n frames out
  gather_stays h k m n [] out l = refl
  gather_stays h k m n (Prefix x ∷ fs) out l = ap (λ b. cond b (gather h k (prefix_level x) (n - 1) fs (elements.Prefix x ∷ out)) (has h m n (Prefix x ∷ fs) out)) (lt-leb k (prefix_level x) l)
  gather_stays h k m n (Infix o at ∷ fs) out l = ap (λ b. cond b (gather h k (levels.level o) n fs (elements.Infix o at ∷ out)) (has h m n (Infix o at ∷ fs) out)) (lt-leb k (right o) l)
  gather_stays h k m n (Otherwise ∷ fs) out l = ap (λ b. cond b (gather h k 0 (n - 1) fs (elements.Choose ∷ out)) (has h m n (Otherwise ∷ fs) out)) (lt-leb k 0 l)
  gather_stays h k m n (Group ∷ fs) out l = refl
  gather_stays h k m n (First p ∷ fs) out l = refl
  gather_stays h k m n (Second p ∷ fs) out l = refl
  gather_stays h k m n (Condition ∷ fs) out l = refl
  gather_stays h k m n (Chosen ∷ fs) out l = refl

  -- ---- runs within the limit

  abbrev pub allowed : Option State → Option State
  allowed None = None
  allowed (Some s) = cond (within limit s.signs) (Some s) None

  abbrev pub step_to : Option State → LineToken → Option State
  step_to None t = None
  step_to (Some s) t = allowed (step d s t)

  -- the state after tokens
  abbrev pub run : Option State → List LineToken → Option State
  run o [] = o
  run o (t ∷ ts) = run (step_to o t) ts

  pub run_none : (ts : List LineToken) → run None ts ≡ None
  run_none [] = refl
  run_none (t ∷ ts) = run_none ts

  pub run-append : (o : Option State) (xs ys : List LineToken) → run o (xs ++ ys) ≡ run (run o xs) ys
  run-append o [] ys = refl
  run-append o (x ∷ xs) ys = run-append (step_to o x) xs ys

  pub goes : (s : State) (ts : List LineToken) → within limit s.signs ≡ true → run (allowed (Some s)) ts ≡ run (Some s) ts
  goes s ts w = ap (λ b. run (cond b (Some s) None) ts) w

  both : (a b : Bool) → a ≡ true → b ≡ true → (a && b) ≡ true
  both a b e k = ap (λ c. c && b) e ∙ k

  begins : (s : State) (h : Head) (f : Frame) (o : Option Frame) (next : State) (ts : List LineToken) → o ≡ Some f → has_frame d f ≡ true → wanted_last s.frames ≤ whole f
      → begin d s h (Some f) ≡ cond (has_frame d f && nat_le (wanted_last s.frames) (whole f)) (Some next) None → within limit next.signs ≡ true → run (allowed (begin d s h o)) ts ≡ run (Some next) ts
  begins s h f o next ts e some l is w =
      ap (λ o. run (allowed (begin d s h o)) ts) e ∙ ap (λ o. run (allowed o) ts) is
      ∙ ap (λ b. run (allowed (cond b (Some next) None)) ts) (both (has_frame d f) (nat_le (wanted_last s.frames) (whole f)) some (le-leb (wanted_last s.frames) (whole f) l)) ∙ goes next ts w

  -- a token after an expression that it ends
  after : (e : Expr) (h : Head) (n : ℕ) (frames : List Frame) (out : List ExprElement) (t : LineToken) (k : ℕ) (ts : List LineToken) → IsExpr d limit n e → Follows k (level e)
      → run (allowed (step_from d (gathered k (spine h n frames out e)) t)) ts ≡ run (allowed (step_from d (gather h k (level e) n frames (back e out)) t)) ts
  after e h n frames out t k ts is f = ap (λ s. run (allowed (step_from d s t)) ts) (gather_spine e h k n frames out is f)

  ended : (s : State) (m n : ℕ) (h : Head) (frames : List Frame) (out : List ExprElement) (ts : List LineToken) → m ≡ n → within limit n ≡ true → run (allowed (Some (has h ATOM m frames out))) ts ≡ run (Some (has h ATOM n frames out)) ts
  ended s m n h frames out ts e w = ap (λ m. run (allowed (Some (has h ATOM m frames out))) ts) e ∙ goes (has h ATOM n frames out) ts w

  prefix_begun : (x : PrefixOperator) (at : ℕ) → begun (prefix_token x at) ≡ Some (Prefix x)
  prefix_begun Not at = refl
  prefix_begun Negate at = refl

  -- what is spelled for an operator before its operand is no name and no number
  prefix_step : (x : PrefixOperator) (at : ℕ) (h : Head) (n : ℕ) (frames : List Frame) (out : List ExprElement) → step d (wants h n frames out) (prefix_token x at) ≡ begin d (wants h n frames out) h (begun (prefix_token x at))
  prefix_step Not at h n frames out = refl
  prefix_step Negate at h n frames out = refl

  pub run_expr : (e : Expr) (h : Head) (n : ℕ) (frames : List Frame) (out : List ExprElement) (rest : List LineToken) → IsExpr d limit n e → wanted_last frames ≤ level e → within limit n ≡ true
      → run (Some (wants h n frames out)) (spell e rest) ≡ run (Some (spine h n frames out e)) rest
  run_expr (number at) h n frames out rest is l w = goes (has h ATOM n frames (elements.Number at ∷ out)) rest w
  run_expr (named at) h n frames out rest is l w = goes (has h ATOM n frames (elements.Name at ∷ out)) rest w
  run_expr (grouped e) h n frames out rest is l w =
      begins (wants h n frames out) h Group (Some Group) (wants h (n + 1) (Group ∷ frames) out) (spell e (tokens.Close ∷ rest)) refl refl l refl is.0
      ∙ run_expr e h (n + 1) (Group ∷ frames) out (tokens.Close ∷ rest) is.1 (omega arith) is.0
      ∙ after e h (n + 1) (Group ∷ frames) out tokens.Close 0 rest is.1 (inl refl)
      ∙ ended start (n + 1 - 1) n h frames (back e out) rest (one_back n) w
  run_expr (paired p a b) h n frames out rest is l w =
      begins (wants h n frames out) h (First p) (Some (First p)) (state (Call h) (n + 1) (First p ∷ frames) out) (tokens.Open ∷ spell a (tokens.Comma ∷ spell b (tokens.Close ∷ rest))) refl is.0 l refl is.1
      ∙ goes (wants h (n + 1) (First p ∷ frames) out) (spell a (tokens.Comma ∷ spell b (tokens.Close ∷ rest))) is.1
      ∙ run_expr a h (n + 1) (First p ∷ frames) out (tokens.Comma ∷ spell b (tokens.Close ∷ rest)) is.2 (omega arith) is.1
      ∙ after a h (n + 1) (First p ∷ frames) out tokens.Comma 0 (spell b (tokens.Close ∷ rest)) is.2 (inl refl)
      ∙ goes (wants h (n + 1) (Second p ∷ frames) (back a out)) (spell b (tokens.Close ∷ rest)) is.1
      ∙ run_expr b h (n + 1) (Second p ∷ frames) (back a out) (tokens.Close ∷ rest) is.3 (omega arith) is.1
      ∙ after b h (n + 1) (Second p ∷ frames) (back a out) tokens.Close 0 rest is.3 (inl refl)
      ∙ ended start (n + 1 - 1) n h frames (elements.Pair p ∷ back b (back a out)) rest (one_back n) w
  run_expr (prefixed x at e) h n frames out rest is l w =
      ap (λ o. run (allowed o) (spell e rest)) (prefix_step x at h n frames out)
      ∙ begins (wants h n frames out) h (Prefix x) (begun (prefix_token x at)) (wants h (n + 1) (Prefix x ∷ frames) out) (spell e rest) (prefix_begun x at) is.0 l refl is.2
      ∙ run_expr e h (n + 1) (Prefix x ∷ frames) out rest is.3 is.1 is.2
  run_expr (infixed o at a b) h n frames out rest is l w =
      run_expr a h n frames out (tokens.Infix o at ∷ spell b rest) is.3 (omega (arith, l, is.1, above_left o)) w
      ∙ after a h n frames out (tokens.Infix o at) (levels.level o + 1) (spell b rest) is.3 (inr (o, refl, is.1))
      ∙ ap (λ s. run (allowed (step_from d s (tokens.Infix o at))) (spell b rest)) (gather_stays h (levels.level o + 1) (level a) n frames (back a out) (omega (arith, l)))
      ∙ ap (λ c. run (allowed (cond c (Some (wants h n (Infix o at ∷ frames) (back a out))) None)) (spell b rest)) (both (has_infix d o) (nat_le (left o) (level a)) is.0 (le-leb (left o) (level a) is.1))
      ∙ goes (wants h n (Infix o at ∷ frames) (back a out)) (spell b rest) w
      ∙ run_expr b h n (Infix o at ∷ frames) (back a out) rest is.4 is.2 w
  run_expr (chosen c a b) h n frames out rest is l w =
      begins (wants h n frames out) h Condition (Some Condition) (wants h (n + 1) (Condition ∷ frames) out) (spell c (tokens.Then ∷ spell a (tokens.Else ∷ spell b rest))) refl is.0 l refl is.1
      ∙ run_expr c h (n + 1) (Condition ∷ frames) out (tokens.Then ∷ spell a (tokens.Else ∷ spell b rest)) is.2 (omega arith) is.1
      ∙ after c h (n + 1) (Condition ∷ frames) out tokens.Then 0 (spell a (tokens.Else ∷ spell b rest)) is.2 (inl refl)
      ∙ goes (wants h (n + 1) (Chosen ∷ frames) (back c out)) (spell a (tokens.Else ∷ spell b rest)) is.1
      ∙ run_expr a h (n + 1) (Chosen ∷ frames) (back c out) (tokens.Else ∷ spell b rest) is.3 (omega arith) is.1
      ∙ after a h (n + 1) (Chosen ∷ frames) (back c out) tokens.Else 0 (spell b rest) is.3 (inl refl)
      ∙ goes (wants h (n + 1) (Otherwise ∷ frames) (back a (back c out))) (spell b rest) is.1
      ∙ run_expr b h (n + 1) (Otherwise ∷ frames) (back a (back c out)) rest is.4 (omega arith) is.1

-- ---- whole lines

-- reversed before others
abbrev pub onto : List ExprElement → List ExprElement → List ExprElement
onto [] rest = rest
onto (x ∷ xs) rest = onto xs (x ∷ rest)

back_post : (e : Expr) (out rest : List ExprElement) → onto (back e out) rest ≡ onto out (post e rest)
back_post (number at) out rest = refl
back_post (named at) out rest = refl
back_post (grouped e) out rest = back_post e out rest
back_post (paired p a b) out rest = back_post b (back a out) (elements.Pair p ∷ rest) ∙ back_post a out (post b (elements.Pair p ∷ rest))
back_post (prefixed x at e) out rest = back_post e out (elements.Prefix x ∷ rest)
back_post (infixed o at a b) out rest = back_post b (back a out) (elements.Infix o at ∷ rest) ∙ back_post a out (post b (elements.Infix o at ∷ rest))
back_post (chosen c a b) out rest =
    back_post b (back a (back c out)) (elements.Choose ∷ rest) ∙ back_post a (back c out) (post b (elements.Choose ∷ rest)) ∙ back_post c out (post a (post b (elements.Choose ∷ rest)))

pub back_reversed : (e : Expr) → reverse (back e []) ≡ post e []
back_reversed e = back_post e [] []

pub read_back : (h : Head) (e : Expr) → read h (back e []) ≡ record { head = h; elements = post e [] }
read_back h e = ap (λ out. record { head = h; elements = out }) (back_reversed e)

-- the state after the tokens of a line
abbrev pub end_of : LineForm → State
end_of (input_line x) = state (Ended (heads.Input x)) 0 [] []
end_of (wide_input_line x w) = state (Ended (heads.WideInput x w)) 0 [] []
end_of (let_line x e) = spine (heads.Let x) 0 [] [] e
end_of (output_line e) = spine heads.Output 0 [] [] e

spine_begun : (h : Head) (n : ℕ) (frames : List Frame) (out : List ExprElement) (e : Expr) → is_first (spine h n frames out e).mode ≡ false
spine_begun h n frames out (number at) = refl
spine_begun h n frames out (named at) = refl
spine_begun h n frames out (grouped e) = refl
spine_begun h n frames out (paired p a b) = refl
spine_begun h n frames out (prefixed x at e) = spine_begun h (n + 1) (Prefix x ∷ frames) out e
spine_begun h n frames out (infixed o at a b) = spine_begun h n (Infix o at ∷ frames) (back a out) b
spine_begun h n frames out (chosen c a b) = spine_begun h (n + 1) (Otherwise ∷ frames) (back a (back c out)) b

pub line_begun : (l : LineForm) → is_first (end_of l).mode ≡ false
line_begun (input_line x) = refl
line_begun (wide_input_line x w) = refl
line_begun (let_line x e) = spine_begun (heads.Let x) 0 [] [] e
line_begun (output_line e) = spine_begun heads.Output 0 [] [] e

module _ (d : Dialect) (limit : Option ℕ) (some : within limit 0 ≡ true) where
  pub run_line : (l : LineForm) → IsLine d limit l → run d limit (Some start) (spell_line l) ≡ Some (end_of l)
  run_line (input_line x) is =
      goes d limit (state InputName 0 [] []) (tokens.Name x ∷ []) some
      ∙ ap (λ b. allowed d limit (Some (state (cond b (InputWidth x) (Ended (heads.Input x))) 0 [] []))) is
      ∙ goes d limit (end_of (input_line x)) [] some
  run_line (wide_input_line x w) is =
      goes d limit (state InputName 0 [] []) (tokens.Name x ∷ tokens.Number w ∷ []) some
      ∙ ap (λ b. run d limit (allowed d limit (Some (state (cond b (InputWidth x) (Ended (heads.Input x))) 0 [] []))) (tokens.Number w ∷ [])) is
      ∙ goes d limit (state (InputWidth x) 0 [] []) (tokens.Number w ∷ []) some
      ∙ goes d limit (end_of (wide_input_line x w)) [] some
  run_line (let_line x e) is =
      goes d limit (state LetName 0 [] []) (tokens.Name x ∷ tokens.Equals ∷ spell e []) some
      ∙ goes d limit (state (LetEquals x) 0 [] []) (tokens.Equals ∷ spell e []) some
      ∙ goes d limit (wants (heads.Let x) 0 [] []) (spell e []) some
      ∙ run_expr d limit e (heads.Let x) 0 [] [] [] is (omega arith) some
  run_line (output_line e) is =
      goes d limit (wants heads.Output 0 [] []) (spell e []) some
      ∙ run_expr d limit e heads.Output 0 [] [] [] is (omega arith) some

  finish_expr : (h : Head) (e : Expr) → IsExpr d limit 0 e → finish (spine h 0 [] [] e) ≡ Some (record { head = h; elements = post e [] })
  finish_expr h e is = ap finish_from (gather_spine d limit e h 0 0 [] [] is (inl refl)) ∙ ap Some (read_back h e)

  pub finish_line : (l : LineForm) → IsLine d limit l → finish (end_of l) ≡ Some (read_of l)
  finish_line (input_line x) is = refl
  finish_line (wide_input_line x w) is = refl
  finish_line (let_line x e) is = finish_expr (heads.Let x) e is
  finish_line (output_line e) is = finish_expr heads.Output e is
