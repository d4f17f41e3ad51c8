-- What a run writes for a session of numbers.
use Rattle.std.proofs.Common.{◌≡◌, ℕ, zero, suc, ◌+◌, ◌-◌, ◌^◌, ◌<◌, ◌≤◌, nat_lt, Bool, true, List, [], ◌∷◌, length, Option, refl, sym, ap, ◌∙◌, subst, arith, pow_pos}
use Rattle.std.specs.Prelude.{slice_index}
use Rattle.std.specs.List.{AllByRecursion}
use Rattle.std.proofs.lemmas.Bool.{cond_both}
use Rattle.list_laws.specs.Lists.{total}
use Rattle.circuit_model.specs.Netlists.{Netlist, output_wires, plain as value}
use Rattle.circuit_model.proofs.SetWires.{funext}
use Rattle.number_circuit.specs.Programs.{Statement, input_widths, program_value}
use Rattle.number_circuit.specs.Laws.{numbers_from}
use Rattle.number_compiler.specs.Circuits.{circuit}
use Rattle.number_compiler.specs.Laws.{IsRight, IsCircuitOf as IsCircuitOfNumbers}
use Rattle.number_compiler.proofs.NarrowOutputs.{narrow_outputs}
use Rattle.number_compiler.proofs.ValidCircuits.{compiled_right}
use Rattle.value_words.specs.Turned.{column, is_numeric, turned}
use Rattle.value_words.proofs.Shown.{shown_in_numeric}
use Rattle.session_slots.specs.declared.source.Source.{Source}
use Rattle.session_slots.specs.declared.source.Source.TheVariants.{Given, Earlier}
use Rattle.session_slots.specs.Sessions.{owners, source}
use Rattle.plan_model.specs.Plans.{session}
use Rattle.plan_model.specs.Sound.{IsSound}
use Rattle.plan_model.specs.InputWords.{AreInputs}
use Rattle.share_world.specs.Worlds.{World, carried_wire, first_values, plain, source_input, source_value}
use Rattle.share_world.specs.Laws.{IsWhole}
use Rattle.wire_tables.proofs.ValueLists.{small_plain}
use Rattle.job_file.specs.Forms.{SessionForm}
use Rattle.job_file.specs.declared.layout.SessionLayout.{SessionLayout}
use Rattle.job_file.specs.declared.layout.SessionLayout.TheVariants.{Numbers}
use Rattle.job_walk.specs.JobOf.{Contents, has_numbers, is_numbers}
use Rattle.job_walk.specs.Verdict.{accepted}
use Rattle.mpc_top.specs.WholeJobs.{WholeJob, JobAt}
use Rattle.mpc_top.proofs.WholeWorlds.{jobs_are_whole}
use Rattle.walk_laws.specs.Expressions.{WritesValues}
use Rattle.walk_laws.specs.FileCircuits.{IsCircuitIn, HasCircuit, output_word, ComputesCircuit}
use Rattle.walk_laws.specs.Numbers.{AreOfFiles, IsNumbersOf, input_number, RunsWriteNumbers}
use Rattle.walk_laws.proofs.FileCircuits.{run_has_bits, run_numeric, run_planned, runs_compute_circuits}
use Rattle.walk_laws.proofs.InputNumbers.{inputs_are_of_files}
use Rattle.walk_laws.proofs.NumberColumns.{number_column, numbers_at, many_numbers}

-- the words of input wires are numbers of the ring
module _ (w : World) (sound : IsSound w.plan) (inputs : AreInputs w.plan w.inputs) (s v : ℕ) where
  small_source : (from : Source) → source (session w.plan s) v ≡ from → source_value w (plain w) s v from < 2 ^ w.plan.bits
  small_source (Given p) is = subst (λ (f : Source). source_input w s v f < 2 ^ w.plan.bits) (sym is) (inputs.below p s _)
  small_source (Earlier r c i) is = small_plain w sound inputs r (carried_wire w.plan r c i)

  small_first : first_values w (plain w) s v < 2 ^ w.plan.bits
  small_first =
      cond_both (nat_lt v (length (owners (session w.plan s)))) (source_value w (plain w) s v (source (session w.plan s) v)) 0 (λ n. n < 2 ^ w.plan.bits)
      (λ e. small_source (source (session w.plan s) v) refl) (λ e. pow_pos w.plan.bits)

narrow_at : (widths : List ℕ) → AllByRecursion (λ k. k ≤ 64) widths → (v : ℕ) → slice_index widths v ≤ 64
narrow_at [] narrow v = omega arith
narrow_at (k ∷ widths) narrow zero = narrow.0
narrow_at (k ∷ widths) narrow (suc v) = narrow_at widths narrow.1 v

-- a session that computes the circuit of a program of numbers writes its values
module _ (numeric : List Bool) (w : World) (s : ℕ) (p : List Statement) (words : is_numeric numeric s ≡ true) (one : w.plan.bits ≡ 1) (right : IsRight p) (narrow : AllByRecursion (λ k. k ≤ 64) (circuit p).outputs)
    (low : (v : ℕ) → first_values w (plain w) s v < 2) (low_values : (v : ℕ) → plain w s v < 2) (computes : ComputesCircuit numeric w s (circuit p)) where
  abbrev c : Netlist
  c = circuit p

  abbrev inputs : ℕ → ℕ
  inputs = first_values w (plain w) s

  abbrev values : List ℕ
  values = program_value p (input_number w s (input_widths p))

  values_are : numbers_from (value c inputs) (c.wires - output_wires c) c.outputs ≡ values
  values_are = right.values inputs low ∙ ap (λ ws. program_value p (input_number w s ws)) right.inputs

  low_outputs : (v : ℕ) → value c inputs v < 2
  low_outputs v = subst (λ n. n < 2) (computes.values v) (low_values v)

  number_is : (v : ℕ) → v < length c.outputs → column (slice_index c.outputs v) (output_word c inputs v) 0 ≡ slice_index values v
  number_is v l =
      let start : ℕ = c.wires - output_wires c in
      let same : (i : ℕ) → output_word c inputs v i ≡ value c inputs (start + total v (slice_index c.outputs) + i) =
      (λ i. ap (value c inputs) (let e : start + (total v (slice_index c.outputs) + i) ≡ start + total v (slice_index c.outputs) + i = omega arith in e)) in
      ap (λ f. column (slice_index c.outputs v) f 0) (funext (output_word c inputs v) (λ i. value c inputs (start + total v (slice_index c.outputs) + i)) same)
      ∙ sym (number_column (value c inputs) low_outputs (start + total v (slice_index c.outputs)) (slice_index c.outputs v))
      ∙ sym (numbers_at (value c inputs) start c.outputs v l) ∙ ap (λ xs. slice_index xs v) values_are

  long : length c.outputs ≡ length values
  long = sym (many_numbers (value c inputs) (c.wires - output_wires c) c.outputs) ∙ ap length values_are

  writes : WritesValues numeric w s values
  writes = record {
    count = computes.count ∙ long;
    words = λ v l.
        let below : v < length c.outputs = omega (arith, l, long) in
        computes.words v below ∙ shown_in_numeric numeric s w.plan.bits (slice_index c.outputs v) (output_word c inputs v) words (narrow_at c.outputs narrow v)
        ∙ ap (turned (slice_index c.outputs v) (output_word c inputs v)) one ∙ ap (λ x. x ∷ []) (number_is v below);
  }

of_numbers : (files : Contents) (dir : List ℕ) (asked : Option (List ℕ)) (bits : ℕ) (form : SessionForm) (whole : WholeJob) (s : ℕ) (c : Netlist) (layout : SessionLayout) → form.layout ≡ layout → layout ≡ Numbers → JobAt files dir asked (accepted whole)
    → s < length whole.world.plan.sessions → whole.world.plan.bits ≡ bits → is_numeric whole.numeric s ≡ has_numbers form → HasCircuit files dir bits form c → ComputesCircuit whole.numeric whole.world s c
    → (p : List Statement) × IsNumbersOf files dir form p × AreOfFiles files dir whole s (input_number whole.world s (input_widths p)) × WritesValues whole.numeric whole.world s (program_value p (input_number whole.world s (input_widths p)))
of_numbers files dir asked bits form whole s c layout is numbers at within same words has computes =
    let w : World = whole.world in
    let world : IsWhole w = jobs_are_whole files dir asked whole at in
    let both : (bits ≡ 1) × IsCircuitOfNumbers has.text c = subst (λ (l : SessionLayout). IsCircuitIn l bits has.text c) (is ∙ numbers) has.is in
    let of : IsCircuitOfNumbers has.text c = both.1 in
    let p : List Statement = of.program in
    let right : IsRight p = compiled_right p of.is.small in
    let one : w.plan.bits ≡ 1 = same ∙ both.0 in
    let two : 2 ^ w.plan.bits ≡ 2 = ap (λ k. 2 ^ k) one in
    let low : (v : ℕ) → first_values w (plain w) s v < 2 = (λ v. subst (λ n. first_values w (plain w) s v < n) two (small_first w world.sound world.inputs s v)) in
    let numeric : is_numeric whole.numeric s ≡ true = words ∙ ap is_numbers (is ∙ numbers) in
    let made : ComputesCircuit whole.numeric w s (circuit p) = subst (λ (c : Netlist). ComputesCircuit whole.numeric w s c) of.made computes in (
      p,
      record { text = has.text; file = has.file; is = of.is },
      inputs_are_of_files files dir asked whole s (input_widths p) at within numeric one low (sym (made.inputs ∙ right.inputs)),
      writes whole.numeric w s p numeric one right (narrow_outputs has.text p of.is) low (λ v. subst (λ n. plain w s v < n) two (small_plain w world.sound world.inputs s v)) made,
    )

pub runs_write_numbers : RunsWriteNumbers
runs_write_numbers files dir asked job whole text at s form there layout =
    let found = runs_compute_circuits files dir asked job whole text at s form there in
    let planned = run_planned files dir asked job whole text at s form there in
    of_numbers files dir asked job.bits form whole s found.0 form.layout refl layout at planned.within (run_has_bits files dir asked job whole text at) (run_numeric files dir asked job whole text at s form there) found.1 found.2
