-- What a run writes for a session of expressions.
use Rattle.std.proofs.Common.{◌≡◌, ℕ, zero, suc, ◌+◌, ◌-◌, ◌^◌, ◌<◌, ◌≤◌, Bool, false, List, [], ◌∷◌, length, replicate, refl, sym, ap, ◌∙◌, subst, arith}
use Rattle.std.specs.Prelude.{slice_index, sum}
use Rattle.std.proofs.lemmas.List.{get_or-replicate, length-replicate}
use Rattle.std.proofs.lemmas.List.Folds.{sum_by-replicate}
use Rattle.std.proofs.lemmas.List.FromFn.{get_or-map-range_with_len, length-map-range_with_len}
use Rattle.list_laws.specs.Lists.{total, listed}
use Rattle.circuit_model.specs.Netlists.{Netlist, output_wires, plain as value}
use Rattle.expr_circuit.specs.Programs.{Statement, program_value}
use Rattle.expr_circuit.specs.Circuits.{circuit, netlist, draft_of}
use Rattle.expr_circuit.specs.Laws.{IsCircuitOf, output_words}
use Rattle.expr_circuit.proofs.ValidPrograms.{program_has_its_value}
use Rattle.value_words.specs.Turned.{is_numeric}
use Rattle.value_words.proofs.Shown.{shown_in_others}
use Rattle.share_world.specs.Worlds.{World, first_values, plain}
use Rattle.job_file.specs.Forms.{SessionForm}
use Rattle.job_file.specs.Faults.{job_in}
use Rattle.job_file.specs.declared.layout.SessionLayout.{SessionLayout}
use Rattle.job_file.specs.declared.layout.SessionLayout.TheVariants.{Expressions}
use Rattle.job_walk.specs.JobOf.{Contents, JobText, has_numbers, is_numbers}
use Rattle.job_walk.specs.Verdict.{Then}
use Rattle.job_laws.specs.Documents.{IsJobForm}
use Rattle.job_laws.proofs.ReadJobs.{good_job}
use Rattle.mpc_top.proofs.WholeWorlds.{was_ok}
use Rattle.walk_laws.specs.Expressions.{IsProgramOf, WritesValues, RunsWriteValues}
use Rattle.walk_laws.specs.FileCircuits.{IsCircuitIn, HasCircuit, output_word, ComputesCircuit}
use Rattle.walk_laws.proofs.FileCircuits.{run_numeric, runs_compute_circuits}

-- the output values of a program have one word each
one_word : (bits : ℕ) (p : List Statement) → (circuit bits p).outputs ≡ replicate (length (draft_of p).outputs) 1
unfolding netlist
one_word bits p = refl

total_ones : (v : ℕ) (f : ℕ → ℕ) → ((i : ℕ) → i < v → f i ≡ 1) → total v f ≡ v
total_ones zero f h = refl
total_ones (suc v) f h = (let rest = total_ones v f (λ i l. h i (omega (arith, l))) in let last = h v (omega arith) in omega (arith, rest, last))

ones_before : (m v : ℕ) → v < m → total v (slice_index (replicate m 1)) ≡ v
ones_before m v l = total_ones v (slice_index (replicate m 1)) (λ i below. get_or-replicate m i 1 0 (omega (arith, below, l)))

-- the word of output value v is the v-th of the output words
value_word : (c : Netlist) (inputs : ℕ → ℕ) (m v : ℕ) → c.outputs ≡ replicate m 1 → v < m → listed (slice_index c.outputs v) (output_word c inputs v) ≡ slice_index (output_words c inputs) v ∷ []
value_word c inputs m v ones l =
    let width : slice_index c.outputs v ≡ 1 = ap (λ ws. slice_index ws v) ones ∙ get_or-replicate m v 1 0 l in
    let before : total v (slice_index c.outputs) ≡ v = ap (λ ws. total v (slice_index ws)) ones ∙ ones_before m v l in
    let wires : output_wires c ≡ m = ap sum ones ∙ sum_by-replicate (λ x. x) m 1 ∙ omega arith in
    let at : c.wires - output_wires c + (total v (slice_index c.outputs) + 0) ≡ c.wires - output_wires c + v = omega (arith, before) in
    ap (λ n. listed n (output_word c inputs v)) width ∙ ap (λ k. value c inputs k ∷ []) at
    ∙ ap (λ x. x ∷ []) (sym (get_or-map-range_with_len (value c inputs) (c.wires - output_wires c) (output_wires c) v (c.wires - output_wires c + v) 0 (omega (arith, l, wires)) refl))

-- a session that computes the circuit of a program writes its values
writes : (numeric : List Bool) (w : World) (s bits : ℕ) (p : List Statement) (values : List ℕ) → is_numeric numeric s ≡ false → ComputesCircuit numeric w s (circuit bits p) → output_words (circuit bits p) (first_values w (plain w) s) ≡ values → WritesValues numeric w s values
writes numeric w s bits p values words computes e =
    let c : Netlist = circuit bits p in
    let inputs : ℕ → ℕ = first_values w (plain w) s in
    let m : ℕ = length (draft_of p).outputs in
    let outputs : length c.outputs ≡ m = ap length (one_word bits p) ∙ length-replicate {A = ℕ} m 1 in
    let wires : output_wires c ≡ m = ap sum (one_word bits p) ∙ sum_by-replicate (λ x. x) m 1 ∙ omega arith in
    let long : length values ≡ m = ap length (sym e) ∙ length-map-range_with_len (value c inputs) (c.wires - output_wires c) (output_wires c) ∙ wires in
    record {
      count = computes.count ∙ outputs ∙ sym long;
      words = λ v l. computes.words v (omega (arith, l, long, outputs)) ∙ shown_in_others numeric s w.plan.bits (slice_index c.outputs v) (output_word c inputs v) words ∙ value_word c inputs m v (one_word bits p) (omega (arith, l, long)) ∙ ap (λ xs. slice_index xs v ∷ []) e;
    }

of_program : (files : Contents) (dir : List ℕ) (bits : ℕ) (form : SessionForm) (numeric : List Bool) (w : World) (s : ℕ) (c : Netlist) (layout : SessionLayout) → 0 < bits → bits ≤ 64 → form.layout ≡ layout → layout ≡ Expressions
    → is_numeric numeric s ≡ has_numbers form → HasCircuit files dir bits form c → ComputesCircuit numeric w s c
    → (p : List Statement) × IsProgramOf files dir bits form p × WritesValues numeric w s (program_value (2 ^ bits) p (first_values w (plain w) s))
of_program files dir bits form numeric w s c layout some few is expressions words has computes =
    let of : IsCircuitOf bits has.text c = subst (λ (l : SessionLayout). IsCircuitIn l bits has.text c) (is ∙ expressions) has.is in
    let p : List Statement = of.program in (
      p,
      record { text = has.text; file = has.file; is = of.is },
      writes numeric w s bits p (program_value (2 ^ bits) p (first_values w (plain w) s)) (words ∙ ap is_numbers (is ∙ expressions)) (subst (λ (c : Netlist). ComputesCircuit numeric w s c) of.made computes) (program_has_its_value bits has.text p some few (first_values w (plain w) s) of.is),
    )

pub runs_write_values : RunsWriteValues
unfolding JobText Then
runs_write_values files dir asked job whole text at s form there layout =
    let good : IsJobForm false job = good_job false text.0 job (was_ok _ (job_in false text.0) job text.2) in
    let found = runs_compute_circuits files dir asked job whole text at s form there in
    of_program files dir job.bits form whole.numeric whole.world s found.0 form.layout good.some_bits good.few_bits refl layout (run_numeric files dir asked job whole text at s form there) found.1 found.2
