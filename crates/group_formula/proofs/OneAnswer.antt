-- Each text has one answer.
use Rattle.std.proofs.Common.{◌≡◌, ℕ, ◌≤◌, ◌<◌, ◌⊎◌, inl, inr, Bool, true, false, List, [], ◌∷◌, ◌++◌, length, Option, Some, None, refl, sym, ◌∙◌, ap, ap₂, subst, append_assoc, append-nil, nat_le, arith}
use Rattle.std.specs.Prelude.{count_by}
use Rattle.std.proofs.lemmas.Bool.{leb-true, leb-false}
use Rattle.group_formula.specs.declared.token.FormulaToken.{FormulaToken}
use Rattle.group_formula.specs.declared.fault.FormulaFault.{FormulaFault}
use Rattle.group_formula.specs.declared.fault.FormulaFault.TheVariants.{Syntax, UnknownName, BadCount, TooDeep, TooManyNodes, Memory}
use Rattle.text_tokens.specs.RunTokens.{Placed, bare, tokens}
use Rattle.text_tokens.specs.FirstFaults.{AreFine}
use Rattle.text_tokens.proofs.FirstFaults.{bare_last, fine_more, stop, no_stop, same_place, both_stop}
use Rattle.group_formula.specs.Tokens.{formula_language, is_element}
use Rattle.group_formula.specs.Grammar.{Expr, Term, shape, IsViable}
use Rattle.group_formula.specs.Grammar.Expr.{one_term, or_term}
use Rattle.group_formula.specs.Machine.{Level, Pending, MachineState, step, join_expr}
use Rattle.group_formula.specs.Machine.Level.{level}
use Rattle.group_formula.specs.Machine.MachineState.{want, want_of, want_open, have}
use Rattle.group_formula.specs.Faults.{IsShallow, IsSmall, IsFine, Parses, IsFirstFault}
use Rattle.group_formula.specs.Trees.{Tree, Meaning}
use Rattle.group_formula.specs.Formulas.{reading, resolved, bad, IsFormula, IsFault}
use Rattle.group_formula.specs.Laws.{HasOneAnswer}
use Rattle.group_formula.proofs.MachineSteps.{run}
use Rattle.group_formula.proofs.MachineRuns.{run_viable, stuck_no, formula_read, run_formula, have_expr, one_formula}
use Rattle.group_formula.proofs.FaultlessTokens.{frames_in, opened, run_last, fine_nothing}

-- what the first pass finds
abbrev pub Passes : List ℕ → Type 0
Passes text = ((e : Expr) × Parses text e) ⊎ ((fault : FormulaFault) × IsFirstFault text fault)

unended : (text : List ℕ) (done : List (Placed FormulaToken)) (s : MachineState) → tokens formula_language text ≡ done → run (bare done) ≡ Some s → AreFine IsFine (bare done) → ((e : Expr) → have_expr e [] ≡ s → ⊥) → Passes text
unended text done s cut ran fine bars = inr (
  Syntax (length text),
  inr (record {
    place = refl;
    fine = subst (λ ts. AreFine IsFine (bare ts)) (sym cut) fine;
    none = λ e spelled.
        let ends : Some (have_expr e []) ≡ Some s = sym (run_formula e) ∙ ap run (spelled ∙ ap bare cut) ∙ ran in
        let same : have_expr e [] ≡ s = cc in
        bars e same;
  }),
)

not_want : (e : Expr) (l : Level) (fs : List Pending) → have_expr e [] ≡ want l fs → ⊥
not_want (one_term t) l fs e = cc
not_want (or_term d t) l fs e = cc

not_want_of : (e : Expr) (n : ℕ) (l : Level) (fs : List Pending) → have_expr e [] ≡ want_of n l fs → ⊥
not_want_of (one_term t) n l fs e = cc
not_want_of (or_term d t) n l fs e = cc

not_want_open : (e : Expr) (n : ℕ) (l : Level) (fs : List Pending) → have_expr e [] ≡ want_open n l fs → ⊥
not_want_open (one_term t) n l fs e = cc
not_want_open (or_term d t) n l fs e = cc

not_inside : (e : Expr) (ors : Option Expr) (t : Term) (f : Pending) (fs : List Pending) → have_expr e [] ≡ have ors t (f ∷ fs) → ⊥
not_inside (one_term u) ors t f fs e = cc
not_inside (or_term d u) ors t f fs e = cc

ended : (text : List ℕ) (done : List (Placed FormulaToken)) (s : MachineState) → tokens formula_language text ≡ done → run (bare done) ≡ Some s → AreFine IsFine (bare done) → Passes text
ended text done (want l fs) cut ran fine = unended text done (want l fs) cut ran fine (λ e h. not_want e l fs h)
ended text done (want_of n l fs) cut ran fine = unended text done (want_of n l fs) cut ran fine (λ e h. not_want_of e n l fs h)
ended text done (want_open n l fs) cut ran fine = unended text done (want_open n l fs) cut ran fine (λ e h. not_want_open e n l fs h)
ended text done (have ors t (f ∷ fs)) cut ran fine = unended text done (have ors t (f ∷ fs)) cut ran fine (λ e h. not_inside e ors t f fs h)
ended text done (have ors t []) cut ran fine = inl (
  join_expr ors t,
  record { spelled = sym (formula_read (bare done) ors t ran) ∙ ap bare (sym cut); fine = subst (λ ts. AreFine IsFine (bare ts)) (sym cut) fine },
)

decide_small : (text : List ℕ) (done rest : List (Placed FormulaToken)) (t : Placed FormulaToken) (next : MachineState) (b : Bool) → tokens formula_language text ≡ done ++ (t ∷ rest) → AreFine IsFine (bare done) → run (bare done ++ (t.token ∷ [])) ≡ Some next
    → IsShallow (bare done ++ (t.token ∷ [])) → nat_le (count_by is_element (bare done ++ (t.token ∷ []))) 256 ≡ b
    → (AreFine IsFine (bare (done ++ (t ∷ []))) → Passes text) → Passes text
decide_small text done rest t next true cut fine ran shallow e goes =
    goes (subst (AreFine IsFine) (sym (bare_last done t)) (fine_more IsFine (bare done) t.token fine (record { viable = run_viable (bare done ++ (t.token ∷ [])) next ran; shallow = shallow; small = leb-true _ 256 e })))
decide_small text done rest t next false cut fine ran shallow e goes =
    let many : 256 < count_by is_element (bare done ++ (t.token ∷ [])) = leb-false _ 256 e in
    inr (TooManyNodes t.at, stop formula_language IsFine text done rest t (λ ts. IsViable ts × IsShallow ts × (IsSmall ts → ⊥)) cut fine (run_viable (bare done ++ (t.token ∷ [])) next ran, shallow, λ h. omega (arith, h, many)))

decide_shallow : (text : List ℕ) (done rest : List (Placed FormulaToken)) (t : Placed FormulaToken) (next : MachineState) (b : Bool) → tokens formula_language text ≡ done ++ (t ∷ rest) → AreFine IsFine (bare done) → run (bare done ++ (t.token ∷ [])) ≡ Some next
    → nat_le (length (frames_in next)) 32 ≡ b → (AreFine IsFine (bare (done ++ (t ∷ []))) → Passes text) → Passes text
decide_shallow text done rest t next true cut fine ran e goes =
    let few : length (frames_in next) ≤ 32 = leb-true (length (frames_in next)) 32 e in
    decide_small text done rest t next (nat_le (count_by is_element (bare done ++ (t.token ∷ []))) 256) cut fine ran (omega (arith, opened (bare done ++ (t.token ∷ [])) next ran, few)) refl goes
decide_shallow text done rest t next false cut fine ran e goes =
    let many : 32 < length (frames_in next) = leb-false (length (frames_in next)) 32 e in
    inr (TooDeep t.at, stop formula_language IsFine text done rest t (λ ts. IsViable ts × (IsShallow ts → ⊥)) cut fine (run_viable (bare done ++ (t.token ∷ [])) next ran, λ h. omega (arith, h, opened (bare done ++ (t.token ∷ [])) next ran, many)))

decide_step : (text : List ℕ) (done rest : List (Placed FormulaToken)) (t : Placed FormulaToken) (s : MachineState) (next : Option MachineState) → tokens formula_language text ≡ done ++ (t ∷ rest) → AreFine IsFine (bare done) → run (bare done) ≡ Some s
    → step s t.token ≡ next → ((m : MachineState) → run (bare (done ++ (t ∷ []))) ≡ Some m → AreFine IsFine (bare (done ++ (t ∷ []))) → Passes text) → Passes text
decide_step text done rest t s None cut fine ran e goes =
    inr (Syntax t.at, inl (stop formula_language IsFine text done rest t (λ ts. IsViable ts → ⊥) cut fine (stuck_no (bare done ++ (t.token ∷ [])) (run_last (bare done) s t.token ran ∙ e))))
decide_step text done rest t s (Some next) cut fine ran e goes =
    let after : run (bare done ++ (t.token ∷ [])) ≡ Some next = run_last (bare done) s t.token ran ∙ e in
    decide_shallow text done rest t next (nat_le (length (frames_in next)) 32) cut fine after refl (goes next (ap run (bare_last done t) ∙ after))

decide : (text : List ℕ) (done rest : List (Placed FormulaToken)) (s : MachineState) → tokens formula_language text ≡ done ++ rest → AreFine IsFine (bare done) → run (bare done) ≡ Some s → Passes text
decide text done [] s cut fine ran = ended text done s (cut ∙ append-nil done) ran fine
decide text done (t ∷ rest) s cut fine ran =
    decide_step text done rest t s (step s t.token) cut fine ran refl
    (λ m after more. decide text (done ++ (t ∷ [])) rest m (cut ∙ sym (append_assoc done (t ∷ []) rest)) more after)

passes : (text : List ℕ) → Passes text
passes text = decide text [] (tokens formula_language text) (want (level None None) []) refl fine_nothing refl

decide_second : (text : List ℕ) (names : List (List ℕ)) (e : Expr) (b : Option FormulaFault) → Parses text e → bad (reading text names) (shape e) ≡ b
    → ((f : Meaning) × IsFormula text names f) ⊎ ((fault : FormulaFault) × IsFault text names fault)
decide_second text names e None p is =
    let tree : Tree = resolved (reading text names) (shape e) in
    inl (record { parties = length names; tree = tree }, record { expr = e; parsed = p; good = is; parties = refl; tree = refl })
decide_second text names e (Some fault) p is = inr (fault, inr (record { expr = e; parsed = p; found = is }))

some_answer : (text : List ℕ) (names : List (List ℕ)) → ((f : Meaning) × IsFormula text names f) ⊎ ((fault : FormulaFault) × IsFault text names fault)
some_answer text names = elim (passes text) [
  | inl p ↦ decide_second text names p.0 (bad (reading text names) (shape p.0)) p.1 refl
  | inr f ↦ inr (f.0, inl f.1)
]

abbrev pub Unviable : List FormulaToken → Type 0
Unviable ts = IsViable ts → ⊥

abbrev pub Deep : List FormulaToken → Type 0
Deep ts = IsViable ts × (IsShallow ts → ⊥)

abbrev pub Many : List FormulaToken → Type 0
Many ts = IsViable ts × IsShallow ts × (IsSmall ts → ⊥)

unviable_no : (ts : List FormulaToken) → Unviable ts → IsFine ts → ⊥
unviable_no ts h f = h f.viable

deep_no : (ts : List FormulaToken) → Deep ts → IsFine ts → ⊥
deep_no ts h f = h.1 f.shallow

many_no : (ts : List FormulaToken) → Many ts → IsFine ts → ⊥
many_no ts h f = h.2 f.small

one_first : (text : List ℕ) (a b : FormulaFault) → IsFirstFault text a → IsFirstFault text b → a ≡ b
one_first text (Syntax x) (Syntax y) (inl s) (inl u) = ap Syntax (same_place formula_language IsFine text x y Unviable Unviable unviable_no unviable_no s u)
one_first text (Syntax x) (Syntax y) (inl s) (inr u) = absurd (no_stop formula_language IsFine text x Unviable unviable_no u.fine s)
one_first text (Syntax x) (Syntax y) (inr s) (inl u) = absurd (no_stop formula_language IsFine text y Unviable unviable_no s.fine u)
one_first text (Syntax x) (Syntax y) (inr s) (inr u) = ap Syntax (s.place ∙ sym u.place)
one_first text (Syntax x) (TooDeep y) (inl s) u = absurd (both_stop formula_language IsFine text x y Unviable Deep unviable_no deep_no (λ ts p q. p q.0) s u)
one_first text (Syntax x) (TooDeep y) (inr s) u = absurd (no_stop formula_language IsFine text y Deep deep_no s.fine u)
one_first text (Syntax x) (TooManyNodes y) (inl s) u = absurd (both_stop formula_language IsFine text x y Unviable Many unviable_no many_no (λ ts p q. p q.0) s u)
one_first text (Syntax x) (TooManyNodes y) (inr s) u = absurd (no_stop formula_language IsFine text y Many many_no s.fine u)
one_first text (TooDeep x) (Syntax y) s (inl u) = absurd (both_stop formula_language IsFine text x y Deep Unviable deep_no unviable_no (λ ts p q. q p.0) s u)
one_first text (TooDeep x) (Syntax y) s (inr u) = absurd (no_stop formula_language IsFine text x Deep deep_no u.fine s)
one_first text (TooDeep x) (TooDeep y) s u = ap TooDeep (same_place formula_language IsFine text x y Deep Deep deep_no deep_no s u)
one_first text (TooDeep x) (TooManyNodes y) s u = absurd (both_stop formula_language IsFine text x y Deep Many deep_no many_no (λ ts p q. p.1 q.1) s u)
one_first text (TooManyNodes x) (Syntax y) s (inl u) = absurd (both_stop formula_language IsFine text x y Many Unviable many_no unviable_no (λ ts p q. q p.0) s u)
one_first text (TooManyNodes x) (Syntax y) s (inr u) = absurd (no_stop formula_language IsFine text x Many many_no u.fine s)
one_first text (TooManyNodes x) (TooDeep y) s u = absurd (both_stop formula_language IsFine text x y Many Deep many_no deep_no (λ ts p q. q.1 p.1) s u)
one_first text (TooManyNodes x) (TooManyNodes y) s u = ap TooManyNodes (same_place formula_language IsFine text x y Many Many many_no many_no s u)
one_first text (UnknownName x) b s u = absurd s
one_first text (BadCount x) b s u = absurd s
one_first text Memory b s u = absurd s
one_first text a (UnknownName y) s u = absurd u
one_first text a (BadCount y) s u = absurd u
one_first text a Memory s u = absurd u

not_parsed : (text : List ℕ) (fault : FormulaFault) (e : Expr) → IsFirstFault text fault → Parses text e → ⊥
not_parsed text (Syntax x) e (inl s) p = no_stop formula_language IsFine text x Unviable unviable_no p.fine s
not_parsed text (Syntax x) e (inr s) p = s.none e p.spelled
not_parsed text (TooDeep x) e s p = no_stop formula_language IsFine text x Deep deep_no p.fine s
not_parsed text (TooManyNodes x) e s p = no_stop formula_language IsFine text x Many many_no p.fine s
not_parsed text (UnknownName x) e s p = s
not_parsed text (BadCount x) e s p = s
not_parsed text Memory e s p = s

same_expr : (text : List ℕ) (d e : Expr) → Parses text d → Parses text e → d ≡ e
same_expr text d e p q = one_formula d e (p.spelled ∙ sym q.spelled)

one_fault : (text : List ℕ) (names : List (List ℕ)) (a b : FormulaFault) → IsFault text names a → IsFault text names b → a ≡ b
one_fault text names a b (inl s) (inl u) = one_first text a b s u
one_fault text names a b (inl s) (inr u) = absurd (not_parsed text a u.expr s u.parsed)
one_fault text names a b (inr s) (inl u) = absurd (not_parsed text b s.expr u s.parsed)
one_fault text names a b (inr s) (inr u) =
    let same : Some a ≡ Some b = sym s.found ∙ ap (λ e. bad (reading text names) (shape e)) (same_expr text s.expr u.expr s.parsed u.parsed) ∙ u.found in cc

not_both : (text : List ℕ) (names : List (List ℕ)) (f : Meaning) (fault : FormulaFault) → IsFormula text names f → IsFault text names fault → ⊥
not_both text names f fault p (inl s) = not_parsed text fault p.expr s p.parsed
not_both text names f fault p (inr s) =
    let same : None ≡ Some fault = sym p.good ∙ ap (λ e. bad (reading text names) (shape e)) (same_expr text p.expr s.expr p.parsed s.parsed) ∙ s.found in cc

one_meaning : (text : List ℕ) (names : List (List ℕ)) (f g : Meaning) → IsFormula text names f → IsFormula text names g → f ≡ g
one_meaning text names f g p q =
    let tree : f.tree ≡ g.tree = p.tree ∙ ap (λ e. resolved (reading text names) (shape e)) (same_expr text p.expr q.expr p.parsed q.parsed) ∙ sym q.tree in
    ap₂ (λ n t. record { parties = n; tree = t }) (p.parties ∙ sym q.parties) tree

pub one_answer : (text : List ℕ) (names : List (List ℕ)) → HasOneAnswer text names
one_answer text names = record {
  some = some_answer text names;
  not_both = not_both text names;
  one_formula = one_meaning text names;
  one_fault = one_fault text names;
}
