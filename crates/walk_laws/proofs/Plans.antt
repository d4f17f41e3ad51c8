-- The formula, the test of the groups, and the plan end once.
use Rattle.std.proofs.Common.{◌≡◌, ℕ, ◌<◌, ◌≤◌, List, length, inl, inr, refl, sym, ap, ap₂, ◌∙◌, arith}
use Rattle.std.specs.Prelude.{slice_index}
use Rattle.std.proofs.lemmas.Bool.{false≢true, cases_order}
use Rattle.party_set.specs.Parties.{Structure, IsQ2, covers}
use Rattle.group_formula.proofs.OneAnswer.{one_answer}
use Rattle.expr_circuit.specs.declared.fault.ExprFault.{ExprFault}
use Rattle.expr_circuit.specs.Circuits.{circuit}
use Rattle.expr_circuit.proofs.OneAnswer.{one_answer as one_program_only}
use Rattle.number_circuit.specs.declared.fault.NumberFault.{NumberFault}
use Rattle.number_circuit.proofs.OneAnswer.{one_answer as one_number_program}
use Rattle.number_compiler.specs.Circuits.{has_large_circuit, circuit as circuit_of_numbers}
use Rattle.q2_test.specs.CoveringPairs.{IsFirstCovering}
use Rattle.plan_model.specs.Plans.{Plan}
use Rattle.plan_model.specs.Tallies.{tape_length}
use Rattle.job_plan.specs.Limits.{IsPlanWithin, IsPlanRefusal, IsFirstOverdrawn}
use Rattle.plan_faults.specs.declared.plan_fault.PlanFault.{PlanFault}
use Rattle.plan_faults.specs.declared.plan_fault.PlanFault.TheVariants.{TooManyMessages, TooManyWords, Memory}
use Rattle.job_file.specs.Forms.{JobForm, AdversaryForm, by_formula, by_list}
use Rattle.refusal_text.specs.Lines.{formula_line, covering_line, plan_line}
use Rattle.job_walk.specs.Verdict.{accepted, missing, refused, EndsOnce}
use Rattle.job_walk.specs.JobOf.{ExpressionsOf, ProgramOf, FormulaOf, GroupsOf, Q2Of, PlanOf}
use Rattle.walk_laws.proofs.Walks.{ends_once, then_once}

formula_once : (names : List (List ℕ)) (text : List ℕ) → EndsOnce (FormulaOf names text)
unfolding FormulaOf
formula_once names text (accepted f) (accepted g) a b = ap accepted ((one_answer text names).one_formula f g a b)
formula_once names text (accepted f) (missing name) a b = absurd b
formula_once names text (accepted f) (refused s line) a (fault, is, three, told) = absurd ((one_answer text names).not_both f fault a is)
formula_once names text (missing name) w a b = absurd a
formula_once names text (refused s line) (accepted f) (fault, is, three, told) b = absurd ((one_answer text names).not_both f fault b is)
formula_once names text (refused s line) (missing name) a b = absurd b
formula_once names text (refused s line) (refused s' line') (fault, is, three, told) (fault', is', three', told') =
    ap₂ refused (three ∙ sym three') (told ∙ ap formula_line ((one_answer text names).one_fault fault fault' is is') ∙ sym told')

pub expressions_once : (line : ExprFault → List ℕ) (bits : ℕ) (text : List ℕ) → EndsOnce (ExpressionsOf line bits text)
unfolding ExpressionsOf
expressions_once line bits text (accepted c) (accepted d) a b = ap accepted (a.made ∙ ap (circuit bits) ((one_program_only bits text).one_program a.program b.program a.is b.is) ∙ sym b.made)
expressions_once line bits text (accepted c) (missing name) a b = absurd b
expressions_once line bits text (accepted c) (refused s told) a (fault, is, three, same) = absurd ((one_program_only bits text).not_both a.program fault a.is is)
expressions_once line bits text (missing name) w a b = absurd a
expressions_once line bits text (refused s told) (accepted c) (fault, is, three, same) b = absurd ((one_program_only bits text).not_both b.program fault b.is is)
expressions_once line bits text (refused s told) (missing name) a b = absurd b
expressions_once line bits text (refused s told) (refused s' told') (fault, is, three, same) (fault', is', three', same') =
    ap₂ refused (three ∙ sym three') (same ∙ ap line ((one_program_only bits text).one_fault fault fault' is is') ∙ sym same')

pub program_once : (line : NumberFault → List ℕ) (text : List ℕ) → EndsOnce (ProgramOf line text)
unfolding ProgramOf
program_once line text (accepted c) (accepted d) a b = ap accepted (a.made ∙ ap circuit_of_numbers ((one_number_program has_large_circuit text).one_program a.program b.program a.is b.is) ∙ sym b.made)
program_once line text (accepted c) (missing name) a b = absurd b
program_once line text (accepted c) (refused s told) a (fault, is, three, same) = absurd ((one_number_program has_large_circuit text).not_both a.program fault a.is is)
program_once line text (missing name) w a b = absurd a
program_once line text (refused s told) (accepted c) (fault, is, three, same) b = absurd ((one_number_program has_large_circuit text).not_both b.program fault b.is is)
program_once line text (refused s told) (missing name) a b = absurd b
program_once line text (refused s told) (refused s' told') (fault, is, three, same) (fault', is', three', same') =
    ap₂ refused (three ∙ sym three') (same ∙ ap line ((one_number_program has_large_circuit text).one_fault fault fault' is is') ∙ sym same')

pub groups_once : (names : List (List ℕ)) (adversary : AdversaryForm) → EndsOnce (GroupsOf names adversary)
unfolding GroupsOf
groups_once names (by_formula text) = then_once _ _ (formula_once names text) (λ formula. ends_once _)
groups_once names (by_list masks) = ends_once _

-- ---- covering pairs

module _ (s : Structure) (i j i' j' : ℕ) (a : IsFirstCovering s i j) (b : IsFirstCovering s i' j') where
  same_first : i ≡ i'
  same_first = elim (cases_order i i') [
    | inl same ↦ same
    | inr (inl less) ↦ absurd (false≢true (sym (b.earlier_rows i j less a.order a.group) ∙ a.covering))
    | inr (inr more) ↦ absurd (false≢true (sym (a.earlier_rows i' j' more b.order b.group) ∙ b.covering))
  ]

  same_second : j ≡ j'
  same_second = elim (cases_order j j') [
    | inl same ↦ same
    | inr (inl less) ↦
        let there : i' ≤ j = omega (arith, same_first, a.order) in
        absurd (false≢true (sym (b.earlier j there less) ∙ ap (λ k. covers s.parties (slice_index s.groups k) (slice_index s.groups j)) (sym same_first) ∙ a.covering))
    | inr (inr more) ↦
        let there : i ≤ j' = omega (arith, same_first, b.order) in
        absurd (false≢true (sym (a.earlier j' there more) ∙ ap (λ k. covers s.parties (slice_index s.groups k) (slice_index s.groups j')) same_first ∙ b.covering))
  ]

none_covers : {P : Type 0} (s : Structure) (i j : ℕ) → IsQ2 s → IsFirstCovering s i j → P
none_covers s i j q a =
    let first : i < length s.groups = omega (arith, a.order, a.group) in
    absurd (false≢true (sym (q.no_cover i j first a.group) ∙ a.covering))

pub q2_once : (job : JobForm) (s : Structure) → EndsOnce (Q2Of job s)
unfolding Q2Of
q2_once job s (accepted t) (accepted t') a b = ap accepted (a.0 ∙ sym b.0)
q2_once job s (accepted t) (missing name) a b = absurd b
q2_once job s (accepted t) (refused status line) a (i, j, is, four, text) = none_covers s i j a.1 is
q2_once job s (missing name) w a b = absurd a
q2_once job s (refused status line) (accepted t) (i, j, is, four, text) b = none_covers s i j b.1 is
q2_once job s (refused status line) (missing name) a b = absurd b
q2_once job s (refused status line) (refused status' line') (i, j, is, four, text) (i', j', is', four', text') =
    ap₂ refused (four ∙ sym four')
    (text ∙ ap₂ (λ m n. covering_line job.names (slice_index s.groups m) (slice_index s.groups n)) (same_first s i j i' j' is is') (same_second s i j i' j' is is') ∙ sym text')

-- ---- plans

module _ (plan : Plan) (p n p' n' : ℕ) (a : IsFirstOverdrawn plan p n) (b : IsFirstOverdrawn plan p' n') where
  same_party : p ≡ p'
  same_party = elim (cases_order p p') [
    | inl same ↦ same
    | inr (inl less) ↦ absurd (omega (arith, b.first p less, a.is, a.over))
    | inr (inr more) ↦ absurd (omega (arith, a.first p' more, b.is, b.over))
  ]

  same_count : n ≡ n'
  same_count = a.is ∙ ap (tape_length plan) same_party ∙ sym b.is

within_or_not : {P : Type 0} (plan : Plan) (fault : PlanFault) → IsPlanWithin plan → IsPlanRefusal plan fault → (fault ≡ Memory → ⊥) → P
within_or_not plan (TooManyMessages count) w r not = absurd (omega (arith, w.messages, r.1, r.0))
within_or_not plan (TooManyWords party count) w r not = absurd (omega (arith, w.words party r.1.there, r.1.is, r.1.over))
within_or_not plan Memory w r not = absurd (not refl)

same_fault : (plan : Plan) (f g : PlanFault) → IsPlanRefusal plan f → IsPlanRefusal plan g → (f ≡ Memory → ⊥) → (g ≡ Memory → ⊥) → f ≡ g
same_fault plan (TooManyMessages n) (TooManyMessages n') a b real real' = ap TooManyMessages (a.0 ∙ sym b.0)
same_fault plan (TooManyMessages n) (TooManyWords p n') a b real real' = absurd (omega (arith, a.0, a.1, b.0))
same_fault plan (TooManyMessages n) Memory a b real real' = absurd (real' refl)
same_fault plan (TooManyWords p n) (TooManyMessages n') a b real real' = absurd (omega (arith, b.0, b.1, a.0))
same_fault plan (TooManyWords p n) (TooManyWords p' n') a b real real' = ap₂ TooManyWords (same_party plan p n p' n' a.1 b.1) (same_count plan p n p' n' a.1 b.1)
same_fault plan (TooManyWords p n) Memory a b real real' = absurd (real' refl)
same_fault plan Memory g a b real real' = absurd (real refl)

pub plan_once : (job : JobForm) (plan : Plan) → EndsOnce (PlanOf job plan)
unfolding PlanOf
plan_once job plan (accepted p) (accepted p') a b = ap accepted (a.0 ∙ sym b.0)
plan_once job plan (accepted p) (missing name) a b = absurd b
plan_once job plan (accepted p) (refused status line) a (fault, is, real, three, text) = within_or_not plan fault a.1 is real
plan_once job plan (missing name) w a b = absurd a
plan_once job plan (refused status line) (accepted p) (fault, is, real, three, text) b = within_or_not plan fault b.1 is real
plan_once job plan (refused status line) (missing name) a b = absurd b
plan_once job plan (refused status line) (refused status' line') (fault, is, real, three, text) (fault', is', real', three', text') =
    ap₂ refused (three ∙ sym three') (text ∙ ap (plan_line job.names) (same_fault plan fault fault' is is' real real') ∙ sym text')
