-- How far the tokens have no fault.
use Rattle.std.proofs.Common.{◌≡◌, ℕ, ◌+◌, ◌≤◌, ◌<◌, Bool, true, false, cond, List, [], ◌∷◌, ◌++◌, length, Option, Some, None, Ok, refl, sym, ◌∙◌, ap, subst, append_assoc, append-nil, length-append, arith}
use Rattle.std.specs.Prelude.{count_by}
use Rattle.std.proofs.lemmas.List.Sums.{sum_by-append}
use Rattle.group_formula.specs.declared.token.FormulaToken.{FormulaToken}
use Rattle.group_formula.specs.declared.token.FormulaToken.TheVariants.{Name, Number, Of, Bar, Ampersand, Open, Close, Comma}
use Rattle.group_formula.specs.declared.element.FormulaElement.{FormulaElement}
use Rattle.group_formula.specs.declared.formula_parser.FormulaMode.TheVariants as modes
use Rattle.text_tokens.specs.RunTokens.{Placed, bare, tokens, tokens_after}
use Rattle.text_tokens.specs.FirstFaults.{AreFine, StopsAt, EndsAt}
use Rattle.text_tokens.proofs.FirstFaults.{bare_last, fine_more, fine_none, fine_last}
use Rattle.group_formula.specs.Tokens.{formula_language, is_element}
use Rattle.group_formula.specs.Grammar.{Expr, Term, spell, shape, IsViable}
use Rattle.group_formula.specs.Postfix.{postfix}
use Rattle.group_formula.specs.Grammar.Expr.{one_term, or_term}
use Rattle.group_formula.specs.Grammar.Factor.{named, grouped, counted}
use Rattle.group_formula.specs.Machine.{Pending, MachineState, step, join_expr, join_term, join_parts}
use Rattle.group_formula.specs.Machine.Level.{level}
use Rattle.group_formula.specs.Machine.Pending.{plain, listed}
use Rattle.group_formula.specs.Machine.MachineState.{want, want_of, want_open, have}
use Rattle.group_formula.specs.Kept.{Kept, kept_of, joined_out, frames_of, frame_of, Advances}
use Rattle.group_formula.specs.Faults.{is_open, is_close, IsShallow, IsSmall, IsFine}
use Rattle.group_formula.specs.Parsed.{IsParsed}
use Rattle.group_formula.proofs.MachineSteps.{goes_on, run}
use Rattle.group_formula.proofs.MachineRuns.{goes_append, run_viable, stuck_no, formula_read, run_formula, have_expr}
use Rattle.group_formula.proofs.ParserStates.{joined_code}

abbrev pub one_if : Bool → ℕ
one_if b = cond b 1 0

pub count_last : (p : FormulaToken → Bool) (xs : List FormulaToken) (x : FormulaToken) → count_by p (xs ++ (x ∷ [])) ≡ count_by p xs + cond (p x) 1 0
count_last p xs x = sum_by-append (λ y. cond (p y) 1 0) xs (x ∷ []) ∙ omega arith

abbrev pub frames_in : MachineState → List Pending
frames_in (want l fs) = fs
frames_in (want_of n l fs) = fs
frames_in (want_open n l fs) = fs
frames_in (have ors t fs) = fs

frames_long : (fs : List Pending) → length (frames_of fs) ≡ length fs
frames_long [] = refl
frames_long (f ∷ fs) = omega (arith, frames_long fs, length-append {A = _} (frames_of fs) (frame_of f ∷ []))

depth_is : (s : MachineState) → length (kept_of s).frames ≡ length (frames_in s)
depth_is (want (level a b) fs) = frames_long fs
depth_is (want_of n (level a b) fs) = frames_long fs
depth_is (want_open n (level a b) fs) = frames_long fs
depth_is (have ors t fs) = frames_long fs

-- one more or one less parenthesis is open
Balances : MachineState → FormulaToken → MachineState → Type 0
Balances s t next = cond (is_open t) 1 0 + length (frames_in s) ≡ cond (is_close t) 1 0 + length (frames_in next)

balance_step : (s : MachineState) (t : FormulaToken) (next : MachineState) → step s t ≡ Some next → Balances s t next
unfolding Balances
balance_step (want (level a b) fs) (Name p) next e = let is : have a (join_term b (named p)) fs ≡ next = cc in rw (← is) refl
balance_step (want l fs) (Number n) next e = let is : want_of n l fs ≡ next = cc in rw (← is) refl
balance_step (want l fs) Open next e = let is : want (level None None) (plain l ∷ fs) ≡ next = cc in rw (← is) (omega arith)
balance_step (want_of n l fs) Of next e = let is : want_open n l fs ≡ next = cc in rw (← is) refl
balance_step (want_open n l fs) Open next e = let is : want (level None None) (listed n l None ∷ fs) ≡ next = cc in rw (← is) (omega arith)
balance_step (have ors t fs) Bar next e = let is : want (level (Some (join_expr ors t)) None) fs ≡ next = cc in rw (← is) refl
balance_step (have ors t fs) Ampersand next e = let is : want (level ors (Some t)) fs ≡ next = cc in rw (← is) refl
balance_step (have ors t (plain (level a b) ∷ fs)) Close next e = let is : have a (join_term b (grouped (join_expr ors t))) fs ≡ next = cc in rw (← is) (omega arith)
balance_step (have ors t (listed n (level a b) done ∷ fs)) Close next e = let is : have a (join_term b (counted n (join_parts done (join_expr ors t)))) fs ≡ next = cc in rw (← is) (omega arith)
balance_step (have ors t (listed n l done ∷ fs)) Comma next e = let is : want (level None None) (listed n l (Some (join_parts done (join_expr ors t))) ∷ fs) ≡ next = cc in rw (← is) (omega arith)
balance_step _ _ next e = cc

balance_at : (s : MachineState) (t : FormulaToken) (next : MachineState) → step s t ≡ Some next → cond (is_open t) 1 0 + length (frames_in s) ≡ cond (is_close t) 1 0 + length (frames_in next)
unfolding Balances
balance_at s t next e = balance_step s t next e

count_first : (p : FormulaToken → Bool) (t : FormulaToken) (ts : List FormulaToken) → count_by p (t ∷ ts) ≡ cond (p t) 1 0 + count_by p ts
count_first p t ts = sum_by-append (λ y. cond (p y) 1 0) (t ∷ []) ts ∙ omega arith

-- as many parentheses are open as there are frames
Balanced : MachineState → List FormulaToken → MachineState → Type 0
Balanced s ts end = count_by is_open ts + length (frames_in s) ≡ count_by is_close ts + length (frames_in end)

balanced_from : (s : MachineState) (t : FormulaToken) (ts : List FormulaToken) (end : MachineState) (next : Option MachineState) → step s t ≡ next → goes_on next ts ≡ Some end → ((m : MachineState) → goes_on (Some m) ts ≡ Some end → Balanced m ts end) → Balanced s (t ∷ ts) end
unfolding Balanced
balanced_from s t [] end None e g h = cc
balanced_from s t (u ∷ ts) end None e g h = cc
balanced_from s t ts end (Some m) e g h =
    let rest : count_by is_open ts + length (frames_in m) ≡ count_by is_close ts + length (frames_in end) = h m g in
    omega (arith, balance_at s t m e, rest, count_first is_open t ts, count_first is_close t ts)

same_end : (a b : MachineState) → a ≡ b → Balanced a [] b
unfolding Balanced
same_end a b e = omega (arith, ap (λ s. length (frames_in s)) e)

balanced : (s : MachineState) (ts : List FormulaToken) (end : MachineState) → goes_on (Some s) ts ≡ Some end → Balanced s ts end
balanced s [] end e = same_end s end cc
balanced s (t ∷ ts) end e = balanced_from s t ts end (step s t) refl e (λ m g. balanced m ts end g)

pub opened : (ts : List FormulaToken) (s : MachineState) → run ts ≡ Some s → count_by is_open ts ≡ count_by is_close ts + length (frames_in s)
unfolding Balanced
opened ts s e = omega (arith, balanced (want (level None None) []) ts s e)

-- one more token
pub run_last : (ts : List FormulaToken) (s : MachineState) (t : FormulaToken) → run ts ≡ Some s → run (ts ++ (t ∷ [])) ≡ step s t
run_last ts s t e = goes_append (Some (want (level None None) [])) ts (t ∷ []) ∙ ap (λ o. goes_on o (t ∷ [])) e

pub advanced : (next : Option MachineState) (new : Kept) → Advances next (Ok true) new → (s : MachineState) × (next ≡ Some s) × (new ≡ kept_of s)
advanced None new h = absurd h
advanced (Some s) new h = (s, refl, h)

pub refused : (next : Option MachineState) (new : Kept) → Advances next (Ok false) new → next ≡ None
refused None new h = refl
refused (Some s) new h = absurd h

pub fine_nothing : AreFine IsFine []
fine_nothing = fine_none IsFine (record { viable = run_viable [] (want (level None None) []) refl; shallow = omega arith; small = omega arith })

-- after the tokens before this place
pub record Going (text : List ℕ) (from elements : ℕ) (kept : Kept) : Type 0 where
  pub done : List (Placed FormulaToken)
  pub cut : tokens formula_language text ≡ done ++ tokens_after formula_language text from
  pub state : MachineState
  pub ran : run (bare done) ≡ Some state
  pub is : kept ≡ kept_of state
  pub fine : AreFine IsFine (bare done)
  pub counted : elements ≡ count_by is_element (bare done)

-- after a token more, before its limits are looked at
pub record Moved (ts : List FormulaToken) (t : FormulaToken) (kept : Kept) : Type 0 where
  pub state : MachineState
  pub ran : run (ts ++ (t ∷ [])) ≡ Some state
  pub is : kept ≡ kept_of state

pub moves : (ts : List FormulaToken) (t : FormulaToken) (s : MachineState) (new : Kept) → run ts ≡ Some s → Advances (step s t) (Ok true) new → Moved ts t new
moves ts t s new ran h =
    let next : (m : MachineState) × (step s t ≡ Some m) × (new ≡ kept_of m) = advanced (step s t) new h in
    record { state = next.0; ran = run_last ts s t ran ∙ next.1; is = next.2 }

pub begins : (text : List ℕ) (kept : Kept) → kept ≡ kept_of (want (level None None) []) → Going text 0 0 kept
begins text kept is = record { done = []; cut = refl; state = want (level None None) []; ran = refl; is = is; fine = fine_nothing; counted = refl }

-- the token is the first that has a fault
pub stops : (text : List ℕ) (from elements end : ℕ) (kept : Kept) (t : Placed FormulaToken) (P : List FormulaToken → Type 0) (g : Going text from elements kept)
    → tokens_after formula_language text from ≡ t ∷ tokens_after formula_language text end → P (bare g.done ++ (t.token ∷ [])) → StopsAt formula_language IsFine text t.at P
stops text from elements end kept t P g found p = record {
  before = g.done;
  here = t;
  after = tokens_after formula_language text end;
  cut = g.cut ∙ ap (λ xs. g.done ++ xs) found;
  place = refl;
  fine = g.fine;
  fault = subst P (sym (bare_last g.done t)) p;
}

pub stuck : (text : List ℕ) (from elements : ℕ) (kept new : Kept) (t : FormulaToken) (g : Going text from elements kept) → Advances (step g.state t) (Ok false) new → IsViable (bare g.done ++ (t ∷ [])) → ⊥
stuck text from elements kept new t g h = stuck_no (bare g.done ++ (t ∷ [])) (run_last (bare g.done) g.state t g.ran ∙ refused (step g.state t) new h)

depth : (ts : List FormulaToken) (t : FormulaToken) (new : Kept) (m : Moved ts t new) → count_by is_open (ts ++ (t ∷ [])) ≡ count_by is_close (ts ++ (t ∷ [])) + length new.frames
depth ts t new m = omega (arith, opened (ts ++ (t ∷ [])) m.state m.ran, depth_is m.state, ap (λ (c : Kept). length c.frames) m.is)

pub too_deep : (ts : List FormulaToken) (t : FormulaToken) (new : Kept) → Moved ts t new → 32 < length new.frames → IsViable (ts ++ (t ∷ [])) × (IsShallow (ts ++ (t ∷ [])) → ⊥)
too_deep ts t new m deep = (run_viable (ts ++ (t ∷ [])) m.state m.ran, λ h. omega (arith, h, depth ts t new m, deep))

pub too_many : (ts : List FormulaToken) (t : FormulaToken) (new : Kept) → Moved ts t new → length new.frames ≤ 32 → count_by is_element ts ≡ 256 → is_element t ≡ true
    → IsViable (ts ++ (t ∷ [])) × IsShallow (ts ++ (t ∷ [])) × (IsSmall (ts ++ (t ∷ [])) → ⊥)
too_many ts t new m shallow full element = (
  run_viable (ts ++ (t ∷ [])) m.state m.ran,
  omega (arith, depth ts t new m, shallow),
  λ h. omega (arith, h, full, count_last is_element ts t, ap one_if element),
)

-- to the next token
pub goes_next : (text : List ℕ) (from elements more end : ℕ) (kept new : Kept) (t : Placed FormulaToken) (g : Going text from elements kept)
    → tokens_after formula_language text from ≡ t ∷ tokens_after formula_language text end → Moved (bare g.done) t.token new → length new.frames ≤ 32
    → more ≡ elements + cond (is_element t.token) 1 0 → more ≤ 256 → Going text end more new
goes_next text from elements more end kept new t g found m shallow counts small =
    let all : bare (g.done ++ (t ∷ [])) ≡ bare g.done ++ (t.token ∷ []) = bare_last g.done t in
    let counted : more ≡ count_by is_element (bare g.done ++ (t.token ∷ [])) = omega (arith, g.counted, counts, count_last is_element (bare g.done) t.token) in
    record {
      done = g.done ++ (t ∷ []);
      cut = g.cut ∙ ap (λ xs. g.done ++ xs) found ∙ sym (append_assoc g.done (t ∷ []) (tokens_after formula_language text end));
      state = m.state;
      ran = ap run all ∙ m.ran;
      is = m.is;
      fine = subst (AreFine IsFine) (sym all) (fine_more IsFine (bare g.done) t.token g.fine (record {
        viable = run_viable (bare g.done ++ (t.token ∷ [])) m.state m.ran;
        shallow = omega (arith, depth (bare g.done) t.token new m, shallow);
        small = omega (arith, counted, small);
      }));
      counted = counted ∙ ap (count_by is_element) (sym all);
    }

pub few : (text : List ℕ) (from elements : ℕ) (kept : Kept) → Going text from elements kept → elements ≤ 256
few text from elements kept g =
    let whole : IsFine (bare g.done) = fine_last IsFine (bare g.done) g.fine in
    omega (arith, g.counted, whole.small)

all_done : (text : List ℕ) (from elements : ℕ) (kept : Kept) (g : Going text from elements kept) → tokens_after formula_language text from ≡ [] → tokens formula_language text ≡ g.done
all_done text from elements kept g none = g.cut ∙ ap (λ xs. g.done ++ xs) none ∙ append-nil g.done

ended_mode : (e : Expr) → (kept_of (have_expr e [])).mode ≡ modes.Have
ended_mode (one_term t) = refl
ended_mode (or_term f t) = refl

ended_frames : (e : Expr) → length (kept_of (have_expr e [])).frames ≡ 0
ended_frames (one_term t) = refl
ended_frames (or_term f t) = refl

-- the end comes too early
pub not_done : (text : List ℕ) (from elements : ℕ) (kept : Kept) → Going text from elements kept → tokens_after formula_language text from ≡ [] → ((kept.mode ≡ modes.Have) × (length kept.frames ≡ 0) → ⊥) → EndsAt formula_language IsFine spell text (length text)
not_done text from elements kept g none unended =
    let all : tokens formula_language text ≡ g.done = all_done text from elements kept g none in
    record {
      place = refl;
      fine = subst (λ ts. AreFine IsFine (bare ts)) (sym all) g.fine;
      none = λ e spelled.
          let ends : Some (have_expr e []) ≡ Some g.state = sym (run_formula e) ∙ ap run (spelled ∙ ap bare all) ∙ g.ran in
          let same : have_expr e [] ≡ g.state = cc in
          let is : kept ≡ kept_of (have_expr e []) = g.is ∙ ap kept_of (sym same) in
          unended (ap (λ c. c.mode) is ∙ ended_mode e, ap (λ c. length c.frames) is ∙ ended_frames e);
    }

finished : (s : MachineState) (kept : Kept) → kept ≡ kept_of s → kept.mode ≡ modes.Have → length kept.frames ≡ 0 → (ors : Option Expr) × (t : Term) × (s ≡ have ors t [])
finished (want (level a b) fs) kept is m z = let bad : modes.Want ≡ modes.Have = sym (ap (λ d. d.mode) is) ∙ m in cc
finished (want_of n (level a b) fs) kept is m z = let bad : modes.WantOf n ≡ modes.Have = sym (ap (λ d. d.mode) is) ∙ m in cc
finished (want_open n (level a b) fs) kept is m z = let bad : modes.WantOpen n ≡ modes.Have = sym (ap (λ d. d.mode) is) ∙ m in cc
finished (have ors t []) kept is m z = (ors, t, refl)
finished (have ors t (f ∷ fs)) kept is m z = absurd (omega (arith, z, ap (λ c. length c.frames) is, frames_long (f ∷ fs)))

-- a formula was read
pub parsed : (text : List ℕ) (from elements : ℕ) (kept : Kept) (out : List FormulaElement) → Going text from elements kept → tokens_after formula_language text from ≡ [] → kept.mode ≡ modes.Have → length kept.frames ≡ 0 → out ≡ joined_out kept → IsParsed text out
parsed text from elements kept out g none m z e =
    let all : tokens formula_language text ≡ g.done = all_done text from elements kept g none in
    let end : (ors : Option Expr) × (t : Term) × (g.state ≡ have ors t []) = finished g.state kept g.is m z in
    let is : kept ≡ kept_of (have end.0 end.1 []) = g.is ∙ ap kept_of end.2 in
    record {
      expr = join_expr end.0 end.1;
      parsed = record {
        spelled = sym (formula_read (bare g.done) end.0 end.1 (g.ran ∙ ap Some end.2)) ∙ ap bare (sym all);
        fine = subst (λ ts. AreFine IsFine (bare ts)) (sym all) g.fine;
      };
      written = e ∙ ap joined_out is ∙ joined_code end.0 end.1 [] ∙ nothing (postfix (shape (join_expr end.0 end.1)));
    }
  where
    nothing : (ns : List FormulaElement) → [] ++ ns ≡ ns
    nothing ns = refl
