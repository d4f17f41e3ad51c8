use Rattle.std.proofs.Common.{◌≡◌, ◌+◌, ◌-◌, ◌^◌, ◌<◌, ◌≤◌, ℕ, suc, List, length, get_or, replicate, sym, ◌∙◌, ap, ap₂, subst, arith, length-append, length-set, set}
use Rattle.std.specs.Prelude.{slice_index}
use Rattle.std.proofs.lemmas.List.{length-replicate, get_or_default}
use Rattle.circuit_model.specs.Circuits.{operate, values}
use Rattle.circuit_model.specs.declared.gate.Gate.{Gate}
use Rattle.circuit_model.specs.Netlists.{gate, before_gates, input_wires}
use Rattle.circuit_model.proofs.GateWires.{first_below, second_below, output_below}
use Rattle.plain_eval.proofs.GateWords.{words_given, given_below, words_next, below_next}
use Rattle.plain_eval.proofs.eval.Goals as goal

pub loop-i-init : goal.loop-i-init
loop-i-init c =
    let circuit = c.args.circuit.now in
    let inputs = c.args.inputs.now in
    let m = c.wires.result - length inputs in
    let items = c.in_ok-values.ensures in
    let fits : input_wires circuit ≤ circuit.wires = c.wires.ensures.valid.within.input_wires in
    let start = λ (w : ℕ). ap (λ xs. slice_index xs w) items ∙ words_given circuit inputs m w c.requires.long in
    record {
      long = omega (arith, ap length items, length-append inputs (replicate m 0), length-replicate {A = ℕ} m 0, c.requires.long, c.wires.ensures.is, fits);
      values = start;
      words = λ w. subst (λ (n : ℕ). n < 2 ^ c.args.ring) (sym (start w)) (given_below circuit c.args.ring inputs w c.requires.long c.requires.words);
    }

read : (xs : List ℕ) (i r : ℕ) → i < length xs → r ≡ get_or xs i r → r ≡ slice_index xs i
read xs i r l e = e ∙ get_or_default xs i r 0 l

pub apply-word-requires : goal.apply-word-requires
apply-word-requires c =
    let circuit = c.args.circuit.now in
    let xs = c.loop-i.values.items in
    let g = c.gate-gate.result in
    let valid = c.wires.ensures.valid in
    let less : c.loop-i.i < length circuit.gates = omega (arith, c.loop-i-test.true, c.gates-i-end.ensures) in
    let first : g.first < length xs = subst (λ (h : Gate). h.first < length xs) (sym c.gate-gate.ensures) (omega (arith, first_below circuit c.loop-i.i valid less, c.loop-i.invariant.long)) in
    let second : g.second < length xs = subst (λ (h : Gate). h.second < length xs) (sym c.gate-gate.ensures) (omega (arith, second_below circuit c.loop-i.i valid less, c.loop-i.invariant.long)) in
    let below = λ (r w : ℕ) (e : r ≡ slice_index xs w). subst (λ (n : ℕ). n < 2 ^ c.args.ring) (sym e) (c.loop-i.invariant.words w) in (
      below c.index-first.result.now g.first (read xs g.first c.index-first.result.now first c.index-first.ensures),
      below c.index-second.result.now g.second (read xs g.second c.index-second.result.now second c.index-second.ensures),
    )

pub loop-i-preserved : goal.loop-i-preserved
loop-i-preserved c =
    let circuit = c.args.circuit.now in
    let xs = c.loop-i.values.items in
    let q = 2 ^ c.args.ring in
    let i = c.loop-i.i in
    let g = c.gate-gate.result in
    let valid = c.wires.ensures.valid in
    let less : i < length circuit.gates = omega (arith, c.loop-i-test.true, c.gates-i-end.ensures) in
    let first : g.first < length xs = subst (λ (h : Gate). h.first < length xs) (sym c.gate-gate.ensures) (omega (arith, first_below circuit i valid less, c.loop-i.invariant.long)) in
    let second : g.second < length xs = subst (λ (h : Gate). h.second < length xs) (sym c.gate-gate.ensures) (omega (arith, second_below circuit i valid less, c.loop-i.invariant.long)) in
    let output : (gate circuit i).output < length xs = omega (arith, output_below circuit i valid less, c.loop-i.invariant.long) in
    let a = read xs g.first c.index-first.result.now first c.index-first.ensures in
    let b = read xs g.second c.index-second.result.now second c.index-second.ensures in
    let word : c.apply-word.result ≡ operate q g.operation g.constant (slice_index xs g.first) (slice_index xs g.second) = c.apply-word.ensures.is ∙ ap₂ (operate q g.operation g.constant) a b in
    let Next : Gate → Type 0 = λ h. (w : ℕ) → slice_index (set xs h.output c.apply-word.result) w ≡ values q (gate circuit) (before_gates circuit (slice_index c.args.inputs.now)) (i + 1) w in
    let Small : Gate → Type 0 = λ h. (w : ℕ) → slice_index (set xs h.output c.apply-word.result) w < q in
    let one : suc i ≡ i + 1 = omega arith in
    let next = words_next circuit q i c.apply-word.result (before_gates circuit (slice_index c.args.inputs.now)) xs output c.loop-i.invariant.values
    (subst (λ (h : Gate). c.apply-word.result ≡ operate q h.operation h.constant (slice_index xs h.first) (slice_index xs h.second)) c.gate-gate.ensures word) in
    record {
      long = length-set xs g.output c.apply-word.result ∙ c.loop-i.invariant.long;
      values = subst Next (sym c.gate-gate.ensures) (λ w. next w ∙ ap (λ k. values q (gate circuit) (before_gates circuit (slice_index c.args.inputs.now)) k w) one);
      words = subst Small (sym c.gate-gate.ensures) (below_next q (gate circuit i).output c.apply-word.result xs output c.apply-word.ensures.below c.loop-i.invariant.words);
    }

pub returns-clause-words : goal.returns-clause-words
returns-clause-words c = λ k d l. subst (λ (n : ℕ). n < 2 ^ c.args.ring) (get_or_default c.loop-i.values.items k 0 d l) (c.loop-i.invariant.words k)
