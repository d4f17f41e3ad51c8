-- The outputs of a program's draft are the values of its output lines.
use Rattle.std.proofs.Common.{◌≡◌, ℕ, zero, suc, ◌+◌, ◌^◌, ◌<◌, ◌≤◌, Bool, true, false, cond, List, [], ◌∷◌, ◌++◌, length, map, sum, Some, refl, sym, ◌∙◌, ap, subst, arith, append_assoc}
use Rattle.std.specs.Prelude.{unwrap_or}
use Rattle.std.specs.Str.{bytes_eq}
use Rattle.std.proofs.lemmas.List.{append-nil, map-append}
use Rattle.std.proofs.lemmas.List.Sums.{sum_by-cons}
use Rattle.binary_numbers.proofs.Carrying.{number_below}
use Rattle.number_gates.specs.declared.wire.Wire.{Wire}
use Rattle.number_gates.specs.Steps.{Steps, done, ◌>>=◌, Kept, Ran, run}
use Rattle.number_gates.proofs.RunSteps.{run_then}
use Rattle.number_laws.specs.Values.{bits, number_on, Computes}
use Rattle.number_laws.proofs.Making.{makes_then, makes_so, makes_done}
use Rattle.number_laws.proofs.BitValues.{bits_long}
use Rattle.number_circuit.specs.Values.{value, bound}
use Rattle.number_circuit.specs.Programs.{Statement, bind, widest, outputs_after, bounds_after, input_widths}
use Rattle.number_circuit.specs.Programs.Statement.{input, define, output}
use Rattle.number_circuit.proofs.Bounding.{AreWithin, bind_within, value_within}
use Rattle.number_compiler.specs.Widths.{bits_of}
use Rattle.number_compiler.specs.Terms.{Value, fitted, steps_of}
use Rattle.number_compiler.specs.Circuits.{Names, value_of, no_value, input_bits, Draft, with_input, with_name, with_output, program_steps, widths_of}
use Rattle.number_compiler.proofs.TermValues.{IsValue, AreValues, fitted_is, term_makes}

abbrev pub numbers_on : (Wire → Bool) → List Value → List ℕ
numbers_on on vs = map (λ (v : Value). number_on on v.bits) vs

-- input i and those after it, of these widths, are the numbers of the input wires from k on
abbrev pub AreGiven : (Wire → Bool) → (ℕ → ℕ) → ℕ → ℕ → List ℕ → Type 0
AreGiven on inputs i k [] = Unit {0}
AreGiven on inputs i k (w ∷ ws) = (number_on on (input_bits k w) ≡ inputs i) × AreGiven on inputs (i + 1) (k + w) ws

-- outputs of these numbers and bounds come behind those before
pub record HasOutputs (on : Wire → Bool) (values bounds : List ℕ) (before : List Value) (new : Draft) : Type 0 where
  pub numbers : numbers_on on new.outputs ≡ numbers_on on before ++ values
  pub widths : widths_of new.outputs ≡ widths_of before ++ map bits_of bounds

pub input_long : (k w : ℕ) → length (input_bits k w) ≡ w
input_long k zero = refl
input_long k (suc w) = ap suc (input_long (k + 1) w)

bind_values : (on : Wire → Bool) (b v : List ℕ → ℕ) (of : Names) (x : List ℕ) (m n : ℕ) (c : Value) → AreValues on b v (value_of of) → IsValue on m n c → AreValues on (bind b x m) (bind v x n) (value_of (bind of x (Some c)))
bind_values on b v of x m n c h i y = go (bytes_eq x y)
  where
    go : (t : Bool) → IsValue on (cond t m (b y)) (cond t n (v y)) (unwrap_or (cond t (Some c) (of y)) no_value)
    go true = i
    go false = h y

pushed : (f : Value → ℕ) (xs : List Value) (x : Value) (n : ℕ) (rest : List ℕ) → f x ≡ n → map f (xs ++ (x ∷ [])) ++ rest ≡ map f xs ++ (n ∷ rest)
pushed f xs x n rest e =
    ap (λ ys. ys ++ rest) (map-append f xs (x ∷ [])) ∙ append_assoc (map f xs) (f x ∷ []) rest ∙ ap (λ k. map f xs ++ (k ∷ rest)) e

-- what goes on with a term's value
then_value : {on : Wire → Bool} {steps : Steps Value} {Q : Value → Type 0} (f : Value → Draft) (next : Draft → Steps Draft) (R : Draft → Type 0) → Computes on steps Q → ((c : Value) → Q c → Computes on (next (f c)) R) → Computes on ((steps >>= (λ c. done (f c))) >>= next) R
then_value {on = on} f next R h more =
    makes_then next R (makes_then (λ c. done (f c)) (λ e. Computes on (next e) R) h (λ c q. makes_done (f c) (λ e. Computes on (next e) R) (more c q))) (λ e m. m)

module _ (on : Wire → Bool) (inputs : ℕ → ℕ) where
  input_small : (i k w : ℕ) → number_on on (input_bits k w) ≡ inputs i → inputs i ≤ widest w
  input_small i k w e =
      let few : number_on on (input_bits k w) < 2 ^ length (bits on (input_bits k w)) = number_below (bits on (input_bits k w)) in
      let long : length (bits on (input_bits k w)) ≡ w = bits_long on (input_bits k w) ∙ input_long k w in
      let here : inputs i < 2 ^ w = subst (λ n. inputs i < 2 ^ n) long (subst (λ n. n < 2 ^ length (bits on (input_bits k w))) e few) in
      omega (arith, here)

  input_is : (i k w : ℕ) → number_on on (input_bits k w) ≡ inputs i → IsValue on (widest w) (inputs i) (fitted (widest w) (input_bits k w))
  input_is i k w e = fitted_is on (widest w) (widest w) (inputs i) (input_bits k w) refl e (input_small i k w e)

  output_more : (d e : Draft) (c : Value) (m n : ℕ) (numbers bounds : List ℕ) → IsValue on m n c → HasOutputs on numbers bounds (with_output d c).outputs e → HasOutputs on (n ∷ numbers) (m ∷ bounds) d.outputs e
  output_more d e c m n numbers bounds i h = record {
    numbers = h.numbers ∙ pushed (λ (v : Value). number_on on v.bits) d.outputs c n numbers i.number;
    widths = h.widths ∙ pushed (λ (v : Value). length v.bits) d.outputs c (bits_of m) (map bits_of bounds) i.long;
  }

  -- the draft of a program
  pub program_makes : (p : List Statement) (i : ℕ) (d : Draft) (b v : List ℕ → ℕ) → AreWithin v b → AreValues on b v (value_of d.of) → AreGiven on inputs i d.wires (input_widths p) → Computes on (program_steps d p) (HasOutputs on (outputs_after inputs i v p) (bounds_after b p) d.outputs)
  program_makes [] i d b v w h g =
      makes_done d (HasOutputs on [] [] d.outputs) (record { numbers = sym (append-nil (numbers_on on d.outputs)); widths = sym (append-nil (widths_of d.outputs)) })
  program_makes (input x k ∷ p) i d b v w h g =
      program_makes p (i + 1) (with_input d x k) (bind b x (widest k)) (bind v x (inputs i)) (bind_within v b x (inputs i) (widest k) w (input_small i d.wires k g.0))
      (bind_values on b v d.of x (widest k) (inputs i) (fitted (widest k) (input_bits d.wires k)) h (input_is i d.wires k g.0)) g.1
  program_makes (define x t ∷ p) i d b v w h g =
      then_value (with_name d x) (λ e. program_steps e p) (HasOutputs on (outputs_after inputs i v (define x t ∷ p)) (bounds_after b (define x t ∷ p)) d.outputs) (term_makes on b v (value_of d.of) w h t)
      (λ c ic. program_makes p i (with_name d x c) (bind b x (bound b t)) (bind v x (value v t)) (bind_within v b x (value v t) (bound b t) w (value_within v b w t))
      (bind_values on b v d.of x (bound b t) (value v t) c h ic) g)
  program_makes (output t ∷ p) i d b v w h g =
      let R : Draft → Type 0 = HasOutputs on (outputs_after inputs i v (output t ∷ p)) (bounds_after b (output t ∷ p)) d.outputs in
      then_value (with_output d) (λ e. program_steps e p) R (term_makes on b v (value_of d.of) w h t)
      (λ c ic. makes_so R (program_makes p i (with_output d c) b v w h g)
      (λ e m. output_more d e c (bound b t) (value v t) (outputs_after inputs i v p) (bounds_after b p) ic m))

-- inputs of these widths come behind those before
pub record HasInputs (ws before : List ℕ) (k : ℕ) (new : Draft) : Type 0 where
  pub inputs : new.inputs ≡ before ++ ws
  pub wires : new.wires ≡ k + sum ws

run_named : (steps : Steps Value) (f : Value → Draft) (next : Draft → Steps Draft) (k : Kept) → (run ((steps >>= (λ c. done (f c))) >>= next) k).result ≡ (run (next (f (run steps k).result)) (run steps k).kept).result
unfolding run
run_named steps f next k =
    ap (λ (r : Ran Draft). r.result) (run_then (steps >>= (λ c. done (f c))) next k
    ∙ ap (λ (r : Ran Draft). run (next r.result) r.kept) (run_then steps (λ c. done (f c)) k))

input_more : (d e : Draft) (x : List ℕ) (k : ℕ) (ws : List ℕ) → HasInputs ws (with_input d x k).inputs (with_input d x k).wires e → HasInputs (k ∷ ws) d.inputs d.wires e
input_more d e x k ws h = record {
  inputs = h.inputs ∙ append_assoc d.inputs (k ∷ []) ws;
  wires = omega (arith, h.wires, sum_by-cons (λ (n : ℕ). n) k ws);
}

pub inputs_after : (p : List Statement) (d : Draft) (k : Kept) → HasInputs (input_widths p) d.inputs d.wires (run (program_steps d p) k).result
unfolding run
inputs_after [] d k = record { inputs = sym (append-nil d.inputs); wires = omega arith }
inputs_after (input x w ∷ p) d k = input_more d _ x w (input_widths p) (inputs_after p (with_input d x w) k)
inputs_after (define x t ∷ p) d k =
    let r : Ran Value = run (steps_of (value_of d.of) t) k in
    subst (HasInputs (input_widths p) d.inputs d.wires) (sym (run_named (steps_of (value_of d.of) t) (with_name d x) (λ e. program_steps e p) k)) (inputs_after p (with_name d x r.result) r.kept)
inputs_after (output t ∷ p) d k =
    let r : Ran Value = run (steps_of (value_of d.of) t) k in
    subst (HasInputs (input_widths p) d.inputs d.wires) (sym (run_named (steps_of (value_of d.of) t) (with_output d) (λ e. program_steps e p) k)) (inputs_after p (with_output d r.result) r.kept)
