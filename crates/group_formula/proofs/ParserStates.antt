-- What the parser keeps, step by step.
use Rattle.std.proofs.Common.{◌≡◌, ℕ, ◌+◌, ◌≤◌, ◌<◌, inl, inr, Bool, true, false, List, [], ◌∷◌, ◌++◌, length, Option, Some, None, Result, Ok, Err, refl, sym, ◌∙◌, ap, ap₂, subst, append_assoc, append-nil, length-append, arith}
use Rattle.std.specs.Prelude.{if◌then◌else◌, IfOk}
use Rattle.std.specs.declared.alloc.AllocError.{AllocError}
use Rattle.group_formula.specs.declared.token.FormulaToken.TheVariants as tokens
use Rattle.group_formula.specs.declared.element.FormulaElement.{FormulaElement}
use Rattle.group_formula.specs.declared.element.FormulaElement.TheVariants.{And, Or, AtLeast}
use Rattle.group_formula.specs.declared.formula_parser.FormulaMode.{FormulaMode}
use Rattle.group_formula.specs.declared.formula_parser.FormulaMode.TheVariants as modes
use Rattle.group_formula.specs.declared.formula_parser.Bracket.{Bracket}
use Rattle.group_formula.specs.declared.formula_parser.Bracket.TheVariants as brackets
use Rattle.group_formula.specs.declared.formula_parser.Frame.{Frame}
use Rattle.group_formula.specs.Trees.{Tree, Trees, tree_count}
use Rattle.group_formula.specs.Postfix.{postfix, postfix_all}
use Rattle.group_formula.specs.Trees.Tree.{leaf, both, either, at_least}
use Rattle.group_formula.specs.Trees.Trees.{one_tree, more_trees}
use Rattle.group_formula.specs.Grammar.{Expr, Term, Factor, Parts, shape, shape_term, shape_factor, shape_parts}
use Rattle.group_formula.specs.Grammar.Factor.{grouped, counted}
use Rattle.group_formula.specs.Machine.{Pending, MachineState, step, join_expr, join_parts, take_factor, close, separate}
use Rattle.group_formula.specs.Machine.Level.{level}
use Rattle.group_formula.specs.Machine.Pending.{plain, listed}
use Rattle.group_formula.specs.Machine.MachineState.{want, want_of, want_open, have}
use Rattle.group_formula.specs.Kept.{Kept, there, elements_ors, elements_ands, elements_done, number_done, elements_level, elements_pending, elements_all, frame_of, frames_of, kept_of, with_factor, joined_out, closed, Closes, separated, Separates, Advances, IsKept}

pub last_same : {A : Type 0} (xs ys : List A) (x y : A) → xs ++ (x ∷ []) ≡ ys ++ (y ∷ []) → (xs ≡ ys) × (x ≡ y)
last_same [] [] x y e = (refl, cc)
last_same [] (b ∷ []) x y e = cc
last_same [] (b ∷ c ∷ ys) x y e = cc
last_same (a ∷ []) [] x y e = cc
last_same (a ∷ b ∷ xs) [] x y e = cc
last_same (a ∷ xs) (b ∷ ys) x y e = let r : (xs ≡ ys) × (x ≡ y) = last_same xs ys x y cc in (let h : a ≡ b = cc in let t : xs ≡ ys = r.0 in cc, r.1)

pub no_last : {A : Type 0} (xs : List A) (x : A) → xs ++ (x ∷ []) ≡ [] → ⊥
no_last [] x e = cc
no_last (a ∷ xs) x e = cc

pub elements_joined_parts : (done : Option Parts) (e : Expr) → postfix_all (shape_parts (join_parts done e)) ≡ elements_done done ++ postfix (shape e)
elements_joined_parts None e = refl
elements_joined_parts (Some ps) e = refl

pub count_joined : (done : Option Parts) (e : Expr) → tree_count (shape_parts (join_parts done e)) ≡ number_done done + 1
count_joined None e = refl
count_joined (Some ps) e = refl

pub joined_code : (ors : Option Expr) (t : Term) (fs : List Pending) → joined_out (kept_of (have ors t fs)) ≡ elements_all fs ++ postfix (shape (join_expr ors t))
joined_code None t fs = refl
joined_code (Some e) t fs = simp append_assoc

-- a factor comes
pub factor_code : (m : FormulaMode) (os : Option Expr) (ands : Option Term) (fs : List Pending) (f : Factor) (out : List FormulaElement) → out ≡ (elements_all fs ++ (elements_ors os ++ elements_ands ands)) ++ postfix (shape_factor f)
    → with_factor (record { mode = m; or_waits = there os; and_waits = there ands; frames = frames_of fs; out = out }) ≡ kept_of (take_factor (level os ands) f fs)
factor_code m os None fs f out e = rw e (ap (λ out. record { mode = modes.Have; or_waits = there os; and_waits = false; frames = frames_of fs; out = out }) (simp (append_assoc, append-nil)))
factor_code m os (Some t) fs f out e = rw e (ap (λ out. record { mode = modes.Have; or_waits = there os; and_waits = false; frames = frames_of fs; out = out }) (simp append_assoc))

pub closes_have : (ors : Option Expr) (t : Term) (fs : List Pending) (done : Bool) (new : Kept) → Closes (kept_of (have ors t fs)) done new → Advances (close (join_expr ors t) fs) (Ok done) new
closes_have ors t [] false new h = tt
closes_have ors t [] true new (rest, f, e, is) = no_last rest f (sym e)
closes_have ors t (p ∷ fs) false new h = absurd (no_last (frames_of fs) (frame_of p) h)
closes_have ors t (plain (level os ands) ∷ fs) true new (rest, f, e, is) =
    let same : (rest ≡ frames_of fs) × (f ≡ frame_of (plain (level os ands))) = last_same _ _ _ _ (sym e) in
    is ∙ ap₂ (closed (kept_of (have ors t (plain (level os ands) ∷ fs)))) same.0 same.1
    ∙ factor_code modes.Have os ands fs (grouped (join_expr ors t)) _ (joined_code ors t (plain (level os ands) ∷ fs))
closes_have ors t (listed n (level os ands) done ∷ fs) true new (rest, f, e, is) =
    let same : (rest ≡ frames_of fs) × (f ≡ frame_of (listed n (level os ands) done)) = last_same _ _ _ _ (sym e) in
    is ∙ ap₂ (closed (kept_of (have ors t (listed n (level os ands) done ∷ fs)))) same.0 same.1
    ∙ factor_code modes.Have os ands fs (counted n (join_parts done (join_expr ors t))) _
    (ap (λ out. out ++ (AtLeast n (number_done done + 1) ∷ [])) (joined_code ors t (listed n (level os ands) done ∷ fs))
    ∙ simp (elements_joined_parts, count_joined, append_assoc))

pub separates_have : (ors : Option Expr) (t : Term) (fs : List Pending) (done : Bool) (new : Kept) → Separates (kept_of (have ors t fs)) done new → Advances (separate (join_expr ors t) fs) (Ok done) new
separates_have ors t [] false new h = tt
separates_have ors t [] true new (rest, f, n, parts, e, at, is) = no_last rest f (sym e)
separates_have ors t (plain (level os ands) ∷ fs) false new h = tt
separates_have ors t (plain (level os ands) ∷ fs) true new (rest, f, n, parts, e, at, is) =
    let same : (rest ≡ frames_of fs) × (f ≡ frame_of (plain (level os ands))) = last_same _ _ _ _ (sym e) in
    let no : brackets.Group ≡ brackets.List n parts = sym (ap (λ (g : Frame). g.bracket) same.1) ∙ at in cc
separates_have ors t (listed n (level os ands) done ∷ fs) false new (inl e) = no_last (frames_of fs) (frame_of (listed n (level os ands) done)) e
separates_have ors t (listed n (level os ands) done ∷ fs) false new (inr (rest, f, e, at)) =
    let same : (rest ≡ frames_of fs) × (f ≡ frame_of (listed n (level os ands) done)) = last_same _ _ _ _ (sym e) in
    let bad : brackets.List n (number_done done) ≡ brackets.Group = sym (ap (λ (g : Frame). g.bracket) same.1) ∙ at in cc
separates_have ors t (listed n (level os ands) done ∷ fs) true new (rest, f, m, parts, e, at, is) =
    let same : (rest ≡ frames_of fs) × (f ≡ frame_of (listed n (level os ands) done)) = last_same _ _ _ _ (sym e) in
    let both_same : brackets.List n (number_done done) ≡ brackets.List m parts = sym (ap (λ (g : Frame). g.bracket) same.1) ∙ at in
    let number : m ≡ n = cc in
    let read : parts ≡ number_done done = cc in
    is ∙ ap₂ (λ xs g. separated (kept_of (have ors t (listed n (level os ands) done ∷ fs))) xs g m parts) same.0 same.1
    ∙ ap₂ (separated (kept_of (have ors t (listed n (level os ands) done ∷ fs))) (frames_of fs) (frame_of (listed n (level os ands) done))) number read
    ∙ ap₂ (λ parts out. record { mode = modes.Want; or_waits = false; and_waits = false; frames = frames_of fs ++ (record { bracket = brackets.List n parts; or_waits = there os; and_waits = there ands } ∷ []); out = out })
    (sym (count_joined done (join_expr ors t)))
    (joined_code ors t (listed n (level os ands) done ∷ fs) ∙ simp (elements_joined_parts, append_assoc, append-nil))

mutual
  some_tree : (t : Tree) → 0 < length (postfix t)
  some_tree (leaf p) = omega arith
  some_tree (both a b) = omega (arith, length-append (postfix a ++ postfix b) (And ∷ []))
  some_tree (either a b) = omega (arith, length-append (postfix a ++ postfix b) (Or ∷ []))
  some_tree (at_least n ts) = omega (arith, length-append (postfix_all ts) (AtLeast n (tree_count ts) ∷ []))

count_le : (ts : Trees) → tree_count ts ≤ length (postfix_all ts)
count_le (one_tree t) = some_tree t
count_le (more_trees ts t) = omega (arith, count_le ts, some_tree t, length-append (postfix_all ts) (postfix t))

done_le : (done : Option Parts) → number_done done ≤ length (elements_done done)
done_le None = omega arith
done_le (Some ps) = count_le (shape_parts ps)

-- how many parts an open parenthesis has
abbrev pub parts_of : Bracket → ℕ
parts_of brackets.Group = 0
parts_of (brackets.List n parts) = parts

pending_le : (p : Pending) → parts_of (frame_of p).bracket ≤ length (elements_pending p)
pending_le (plain (level os ands)) = omega arith
pending_le (listed n (level os ands) done) = omega (arith, done_le done, length-append (elements_level (level os ands)) (elements_done done))

frames_le : (fs : List Pending) (rest : List Frame) (f : Frame) → frames_of fs ≡ rest ++ (f ∷ []) → parts_of f.bracket ≤ length (elements_all fs)
frames_le [] rest f e = absurd (no_last rest f (sym e))
frames_le (p ∷ fs) rest f e =
    let same : (frames_of fs ≡ rest) × (frame_of p ≡ f) = last_same _ _ _ _ e in
    omega (arith, pending_le p, ap (λ (g : Frame). parts_of g.bracket) same.1, length-append (elements_all fs) (elements_pending p))

pub kept_le : (s : MachineState) (rest : List Frame) (f : Frame) → (kept_of s).frames ≡ rest ++ (f ∷ []) → parts_of f.bracket ≤ length (kept_of s).out
kept_le (want (level os ands) fs) rest f e = omega (arith, frames_le fs rest f e, length-append (elements_all fs) (elements_ors os ++ elements_ands ands))
kept_le (want_of n (level os ands) fs) rest f e = omega (arith, frames_le fs rest f e, length-append (elements_all fs) (elements_ors os ++ elements_ands ands))
kept_le (want_open n (level os ands) fs) rest f e = omega (arith, frames_le fs rest f e, length-append (elements_all fs) (elements_ors os ++ elements_ands ands))
kept_le (have ors t fs) rest f e = omega (arith, frames_le fs rest f e, length-append (elements_all fs) (elements_ors ors ++ postfix (shape_term t)))

pub keeps_le : (c : Kept) (rest : List Frame) (f : Frame) → IsKept c → c.frames ≡ rest ++ (f ∷ []) → parts_of f.bracket ≤ length c.out
keeps_le c rest f (s, is) e = omega (arith, kept_le s rest f (sym (ap (λ d. d.frames) is) ∙ e), ap (λ d. length d.out) is)

-- by mode
pub closes_any : (s : MachineState) (old : Kept) (done : Bool) (new : Kept) → old ≡ kept_of s → old.mode ≡ modes.Have → Closes old done new → Advances (step s tokens.Close) (Ok done) new
closes_any (want (level os ands) fs) old done new is m h = let bad : modes.Want ≡ modes.Have = sym (ap (λ d. d.mode) is) ∙ m in absurd cc
closes_any (want_of n (level os ands) fs) old done new is m h = let bad : modes.WantOf n ≡ modes.Have = sym (ap (λ d. d.mode) is) ∙ m in absurd cc
closes_any (want_open n (level os ands) fs) old done new is m h = let bad : modes.WantOpen n ≡ modes.Have = sym (ap (λ d. d.mode) is) ∙ m in absurd cc
closes_any (have ors t fs) old done new is m h = closes_have ors t fs done new (subst (λ (c : Kept). Closes c done new) is h)

pub separates_any : (s : MachineState) (old : Kept) (done : Bool) (new : Kept) → old ≡ kept_of s → old.mode ≡ modes.Have → Separates old done new → Advances (step s tokens.Comma) (Ok done) new
separates_any (want (level os ands) fs) old done new is m h = let bad : modes.Want ≡ modes.Have = sym (ap (λ d. d.mode) is) ∙ m in absurd cc
separates_any (want_of n (level os ands) fs) old done new is m h = let bad : modes.WantOf n ≡ modes.Have = sym (ap (λ d. d.mode) is) ∙ m in absurd cc
separates_any (want_open n (level os ands) fs) old done new is m h = let bad : modes.WantOpen n ≡ modes.Have = sym (ap (λ d. d.mode) is) ∙ m in absurd cc
separates_any (have ors t fs) old done new is m h = separates_have ors t fs done new (subst (λ (c : Kept). Separates c done new) is h)

joined_longer : (b : Bool) (out : List FormulaElement) → length out ≤ length (if b then out ++ (Or ∷ []) else out)
joined_longer true out = omega (arith, length-append out (Or ∷ []))
joined_longer false out = omega arith

-- the count of parts has room where the elements have
pub parts_room : (old joined : Kept) (rest : List Frame) (f : Frame) → IsKept old → joined ≡ record old { out = joined_out old } → joined.frames ≡ rest ++ (f ∷ []) → parts_of f.bracket ≤ length joined.out
parts_room old joined rest f k is e =
    omega (arith, keeps_le old rest f k (sym (ap (λ c. c.frames) is) ∙ e), joined_longer old.or_waits old.out, ap (λ c. length c.out) is)

pub closes_result : (s : MachineState) (old : Kept) (r : Result Bool AllocError) (new : Kept) → old ≡ kept_of s → old.mode ≡ modes.Have → IfOk r (λ done. Closes old done new) → Advances (step s tokens.Close) r new
closes_result s old (Err e) new is m h = tt
closes_result s old (Ok done) new is m h = closes_any s old done new is m h

pub separates_result : (s : MachineState) (old : Kept) (r : Result Bool AllocError) (new : Kept) → old ≡ kept_of s → old.mode ≡ modes.Have → IfOk r (λ done. Separates old done new) → Advances (step s tokens.Comma) r new
separates_result s old (Err e) new is m h = tt
separates_result s old (Ok done) new is m h = separates_any s old done new is m h
