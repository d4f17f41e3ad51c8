-- A line more was read.
use Rattle.std.proofs.Common.{◌≡◌, ℕ, ◌+◌, inl, inr, List, [], ◌∷◌, ◌++◌, refl, sym, ◌∙◌, ap, subst, append_assoc}
use Rattle.number_gates.specs.Steps.{done, Kept, Ran, run, no_gates, Runs}
use Rattle.number_gates.proofs.RunSteps.{run_then}
use Rattle.number_circuit.specs.declared.fault.NumberFault.{NumberFault}
use Rattle.number_circuit.specs.Programs.{Statement}
use Rattle.number_circuit.specs.Faults.{Bounds, IsBlank, Says, FaultOfLine, knows, AreLines, IsFaultIn, none_known, lines}
use Rattle.number_compiler.specs.Circuits.{Draft, no_lines, statement_steps, program_steps}
use Rattle.number_compiler.specs.Elements.{bounds_of}
use Rattle.number_compiler.specs.Progress.{IsReadTo, GoesOn}

-- statements one after the other
run_more : (p : List Statement) (s : Statement) (d : Draft) (k : Kept) → run (program_steps d (p ++ (s ∷ []))) k ≡ run (statement_steps (run (program_steps d p) k).result s) (run (program_steps d p) k).kept
unfolding run
run_more [] s d k = run_then (statement_steps d s) (λ e. done e) k
run_more (t ∷ p) s d k =
    let r : Ran Draft = run (statement_steps d t) k in
    run_then (statement_steps d t) (λ e. program_steps e (p ++ (s ∷ []))) k ∙ run_more p s r.result r.kept
    ∙ ap (λ (x : Ran Draft). run (statement_steps x.result s) x.kept) (sym (run_then (statement_steps d t) (λ e. program_steps e p) k))

pub runs_more : (p : List Statement) (s : Statement) (d e : Draft) (k new : Kept) → Runs (program_steps no_lines p) no_gates d k → Runs (statement_steps d s) k e new → Runs (program_steps no_lines (p ++ (s ∷ []))) no_gates e new
unfolding run
runs_more p s d e k new r t = record { is = run_more p s no_lines no_gates ∙ ap (λ (x : Ran Draft). run (statement_steps x.result s) x.kept) r.is ∙ t.is }

module _ (text : List ℕ) (n : ℕ) (rest first after : List ℕ) (d : Draft) (k : Kept) (cut : GoesOn rest first after) (read : IsReadTo text n rest d k) where
  pub read_blank : IsBlank first → IsReadTo text (n + 1) after d k
  read_blank blank = record {
    program = read.program;
    made = read.made;
    says = λ q h. read.says q (cut.says (bounds_of d.of) n q (inl (blank, h)));
    fails = λ f h. read.fails f (cut.fails (bounds_of d.of) n f (inl (blank, h)));
  }

  pub read_said : (s : Statement) (e : Draft) (new : Kept) → Says (bounds_of d.of) first n s → Runs (statement_steps d s) k e new → bounds_of e.of ≡ knows (bounds_of d.of) s → IsReadTo text (n + 1) after e new
  read_said s e new says made same = record {
    program = read.program ++ (s ∷ []);
    made = runs_more read.program s d e k new read.made made;
    says = λ q h. subst (AreLines none_known 1 (lines text)) (sym (append_assoc read.program (s ∷ []) q))
        (read.says (s ∷ q) (cut.says (bounds_of d.of) n (s ∷ q)
        (inr (s, q, refl, says, subst (λ (b : Bounds). AreLines b (n + 1) (lines after) q) same h))));
    fails = λ f h. read.fails f (cut.fails (bounds_of d.of) n f
        (inr (inr (s, says, subst (λ (b : Bounds). IsFaultIn b (n + 1) (lines after) f) same h))));
  }

  pub read_fault : (f : NumberFault) → FaultOfLine (bounds_of d.of) first n f → IsFaultIn none_known 1 (lines text) f
  read_fault f h = read.fails f (cut.fails (bounds_of d.of) n f (inr (inl h)))

-- nothing was read
pub read_none : (text : List ℕ) → IsReadTo text 1 text no_lines no_gates
unfolding run
read_none text = record { program = []; made = record { is = refl }; says = λ q h. h; fails = λ f h. h }
