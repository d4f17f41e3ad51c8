-- The gates of a program read only wires before them.
use Rattle.std.proofs.Common.{◌≡◌, ℕ, zero, suc, ◌+◌, ◌-◌, ◌/◌, ◌%◌, ◌<◌, ◌≤◌, Bool, true, false, cond, nat_eq, List, [], ◌∷◌, ◌++◌, length, replicate, sum, Some, arith}
use Rattle.std.specs.Prelude.{unwrap_or}
use Rattle.std.specs.Str.{bytes_eq}
use Rattle.std.proofs.lemmas.List.Sums.{sum_by-cons}
use Rattle.line_grammar.specs.declared.operator.Infix.{Infix}
use Rattle.line_grammar.specs.declared.operator.Infix.TheVariants.{Or, And, Equal, Unequal, Less, AtMost, Greater, AtLeast, Add, Subtract, Multiply, Divide, Remainder}
use Rattle.line_grammar.specs.declared.operator.Pair.{Pair}
use Rattle.line_grammar.specs.declared.operator.Pair.TheVariants.{Least, Most}
use Rattle.number_gates.specs.declared.wire.Wire.{Wire}
use Rattle.number_gates.specs.declared.wire.Wire.TheVariants as wires
use Rattle.number_gates.specs.declared.wire.Bit.{Bit}
use Rattle.number_gates.specs.declared.wire.Bit.TheVariants.{Zero, One}
use Rattle.number_gates.specs.Steps.{Steps, done, ◌>>=◌}
use Rattle.number_gates.specs.BitGates.{opposite, both}
use Rattle.number_gates.specs.Numbers.{some, equal, less}
use Rattle.number_gates.specs.BitLists.{widened}
use Rattle.number_laws.specs.Reading.{IsOpen, AreOpen, Reads}
use Rattle.number_laws.proofs.ReadingSteps.{reads_then, reads_done}
use Rattle.number_laws.proofs.Costing.{costs_reads}
use Rattle.number_laws.proofs.BitCosts as costs
use Rattle.number_laws.proofs.CostLaws.{reading_are}
use Rattle.number_circuit.specs.Values.{Term, is_number, most, extreme}
use Rattle.number_circuit.specs.Values.Term.{constant, variable, inverse, operation, pair, choice}
use Rattle.number_circuit.specs.Programs.{Statement, bind, widest, input_widths}
use Rattle.number_circuit.specs.Programs.Statement.{input, define, output}
use Rattle.number_compiler.specs.Widths.{bits_of, known_bits, cut}
use Rattle.number_compiler.specs.Terms.{Value, fitted, truth_bits, operated, operator_steps, chosen_of, pair_steps, inverse_steps, choice_steps, constant_value, steps_of}
use Rattle.number_compiler.specs.Circuits.{Names, value_of, no_value, input_bits, Draft, with_input, with_name, with_output, program_steps, all_bits}

module _ (P : Wire → Type 0) where
  -- P at all depths
  abbrev At : ℕ → Wire → Type 0
  At d = P

  at_more : (d e : ℕ) (w : Wire) → d ≤ e → At d w → At e w
  at_more d e w l p = p

  open_append : (xs ys : List Bit) → AreOpen P xs → AreOpen P ys → AreOpen P (xs ++ ys)
  open_append xs ys h k = costs.open_append At at_more 0 xs ys h k

  opposite_reads : (a : Bit) → IsOpen P a → Reads P (opposite a) (IsOpen P)
  opposite_reads a h = costs_reads 0 (opposite a) (costs.opposite_costs At at_more 0 a h)

  both_reads : (a b : Bit) → IsOpen P a → IsOpen P b → Reads P (both a b) (IsOpen P)
  both_reads a b h k = costs_reads 1 (both a b) (costs.both_costs At at_more 0 a b h k)

  some_reads : (a : List Bit) → AreOpen P a → Reads P (some a) (IsOpen P)
  some_reads a h = (reading_are P a a h h).some

  abbrev pub OpenValue : Value → Type 0
  OpenValue v = AreOpen P v.bits

  open_cut : (n : ℕ) (xs : List Bit) → AreOpen P xs → AreOpen P (cut n xs)
  open_cut n xs h =
      costs.open_take At at_more 0 n (widened n xs) (open_append xs (replicate (n - length xs) Zero) h (costs.open_same At at_more 0 (n - length xs) Zero tt))

  open_known : (k n : ℕ) → AreOpen P (known_bits k n)
  unfolding known_bits
  open_known zero n = tt
  open_known (suc k) n = (one (nat_eq (n % 2) 1), open_known k (n / 2))
    where
      one : (b : Bool) → IsOpen P (cond b One Zero)
      one true = tt
      one false = tt

  -- ---- terms

  truth_reads : (steps : Steps Bit) → Reads P steps (IsOpen P) → Reads P (truth_bits steps) (AreOpen P)
  truth_reads steps h = reads_then _ h (λ o ho. reads_done (o ∷ []) (ho, tt))

  opposed_reads : (steps : Steps Bit) → Reads P steps (IsOpen P) → Reads P (truth_bits (steps >>= opposite)) (AreOpen P)
  opposed_reads steps h = truth_reads (steps >>= opposite) (reads_then opposite h (λ o ho. opposite_reads o ho))

  operated_reads : (o : Infix) (a b : List Bit) → AreOpen P a → AreOpen P b → Reads P (operated o a b) (AreOpen P)
  operated_reads Or a b h k = truth_reads _ (some_reads (a ++ b) (open_append a b h k))
  operated_reads And a b h k = truth_reads _ (reads_then _ (some_reads a h) (λ p hp. reads_then _ (some_reads b k) (λ q hq. both_reads p q hp hq)))
  operated_reads Equal a b h k = truth_reads (equal a b) (reading_are P a b h k).equal
  operated_reads Unequal a b h k = opposed_reads (equal a b) (reading_are P a b h k).equal
  operated_reads Less a b h k = truth_reads (less a b) (reading_are P a b h k).less
  operated_reads AtMost a b h k = opposed_reads (less b a) (reading_are P b a k h).less
  operated_reads Greater a b h k = truth_reads (less b a) (reading_are P b a k h).less
  operated_reads AtLeast a b h k = opposed_reads (less a b) (reading_are P a b h k).less
  operated_reads Add a b h k = (reading_are P a b h k).sum
  operated_reads Subtract a b h k = (reading_are P a b h k).difference
  operated_reads Multiply a b h k = (reading_are P a b h k).product
  operated_reads Divide a b h k = reads_then _ (reading_are P a b h k).divided (λ t ht. reads_done t.quotient ht.0)
  operated_reads Remainder a b h k = reads_then _ (reading_are P a b h k).divided (λ t ht. reads_done t.rest ht.1)

  fitted_reads : (m : ℕ) (xs : List Bit) → AreOpen P xs → Reads P (done (fitted m xs)) OpenValue
  fitted_reads m xs h = reads_done (fitted m xs) (open_cut (bits_of m) xs h)

  operator_reads : (o : Infix) (m : ℕ) (a b : Value) → OpenValue a → OpenValue b → Reads P (operator_steps o m a b) OpenValue
  operator_reads o m a b h k = reads_then _ (operated_reads o a.bits b.bits h k) (λ c hc. fitted_reads m c hc)

  chosen_reads : (p : Pair) (o : Bit) (a b : List Bit) → IsOpen P o → AreOpen P a → AreOpen P b → Reads P (chosen_of p o a b) (AreOpen P)
  chosen_reads Least o a b ho h k = (reading_are P a b h k).choose o ho
  chosen_reads Most o a b ho h k = (reading_are P b a k h).choose o ho

  pair_reads : (p : Pair) (a b : Value) → OpenValue a → OpenValue b → Reads P (pair_steps p a b) OpenValue
  pair_reads p a b h k =
      reads_then _ (reading_are P a.bits b.bits h k).less (λ o ho. reads_then _ (chosen_reads p o a.bits b.bits ho h k) (λ c hc. fitted_reads (extreme p a.most b.most) c hc))

  inverse_reads : (a : Value) → OpenValue a → Reads P (inverse_steps a) OpenValue
  inverse_reads a h = reads_then _ (some_reads a.bits h) (λ o ho. reads_then _ (opposite_reads o ho) (λ c hc. fitted_reads 1 (c ∷ []) (hc, tt)))

  choice_reads : (c a b : Value) → OpenValue c → OpenValue a → OpenValue b → Reads P (choice_steps c a b) OpenValue
  choice_reads c a b hc h k =
      reads_then _ (some_reads c.bits hc) (λ o ho. reads_then _ ((reading_are P a.bits b.bits h k).choose o ho) (λ d hd. fitted_reads _ d hd))

  pub term_reads : (of : List ℕ → Value) → ((x : List ℕ) → OpenValue (of x)) → (t : Term) → Reads P (steps_of of t) OpenValue
  term_reads of h (constant n) = reads_done (constant_value n) (open_known (bits_of n) n)
  term_reads of h (variable x) = reads_done (of x) (h x)
  term_reads of h (inverse t) = reads_then inverse_steps (term_reads of h t) inverse_reads
  term_reads of h (operation o s t) = reads_then _ (term_reads of h s) (λ a ha. reads_then _ (term_reads of h t) (λ b hb. operator_reads o (most o a.most b.most (is_number t)) a b ha hb))
  term_reads of h (pair p s t) = reads_then _ (term_reads of h s) (λ a ha. reads_then _ (term_reads of h t) (λ b hb. pair_reads p a b ha hb))
  term_reads of h (choice c s t) =
      reads_then _ (term_reads of h c) (λ o ho. reads_then _ (term_reads of h s) (λ a ha. reads_then _ (term_reads of h t) (λ b hb. choice_reads o a b ho ha hb)))

  -- ---- programs

  pub record OpenDraft (d : Draft) : Type 0 where
    pub names : (x : List ℕ) → OpenValue (value_of d.of x)
    pub outputs : AreOpen P (all_bits d.outputs)

  open_bind : (of : Names) (x : List ℕ) (v : Value) → ((y : List ℕ) → OpenValue (value_of of y)) → OpenValue v → (y : List ℕ) → OpenValue (value_of (bind of x (Some v)) y)
  open_bind of x v h k y = go (bytes_eq x y)
    where
      go : (t : Bool) → OpenValue (unwrap_or (cond t (Some v) (of y)) no_value)
      go true = k
      go false = h y

  open_push : (vs : List Value) (v : Value) → AreOpen P (all_bits vs) → OpenValue v → AreOpen P (all_bits (vs ++ (v ∷ [])))
  open_push [] v h k = open_append v.bits [] k tt
  open_push (u ∷ vs) v h k =
      let parts = open_parts u.bits (all_bits vs) h in
      open_append u.bits (all_bits (vs ++ (v ∷ []))) parts.0 (open_push vs v parts.1 k)
    where
      open_parts : (xs ys : List Bit) → AreOpen P (xs ++ ys) → AreOpen P xs × AreOpen P ys
      open_parts [] ys h = (tt, h)
      open_parts (x ∷ xs) ys h = (let rest = open_parts xs ys h.1 in ((h.0, rest.0), rest.1))

  then_reads : {steps : Steps Value} {Q : Value → Type 0} (f : Value → Draft) (next : Draft → Steps Draft) (R : Draft → Type 0) → Reads P steps Q → ((c : Value) → Q c → Reads P (next (f c)) R) → Reads P ((steps >>= (λ c. done (f c))) >>= next) R
  then_reads f next R h more =
      reads_then next (reads_then (λ c. done (f c)) h (λ c q. reads_done (f c) {Q = λ e. Reads P (next e) R} (more c q))) (λ e m. m)

  module _ (m : ℕ) (inputs_open : (i : ℕ) → i < m → P (wires.Input i)) where
    open_input : (k w : ℕ) → k + w ≤ m → AreOpen P (input_bits k w)
    open_input k zero l = tt
    open_input k (suc w) l = (inputs_open k (omega arith), open_input (k + 1) w (omega arith))

    pub program_reads : (p : List Statement) (d : Draft) → d.wires + sum (input_widths p) ≤ m → OpenDraft d → Reads P (program_steps d p) OpenDraft
    program_reads [] d l h = reads_done d h
    program_reads (input x w ∷ p) d l h =
        let all : sum (w ∷ input_widths p) ≡ w + sum (input_widths p) = sum_by-cons (λ (n : ℕ). n) w (input_widths p) in
        program_reads p (with_input d x w) (omega (arith, l, all)) (record {
          names = open_bind d.of x (fitted (widest w) (input_bits d.wires w)) h.names (open_cut (bits_of (widest w)) (input_bits d.wires w) (open_input d.wires w (omega (arith, l, all))));
          outputs = h.outputs;
        })
    program_reads (define x t ∷ p) d l h =
        then_reads (with_name d x) (λ e. program_steps e p) OpenDraft (term_reads (value_of d.of) h.names t)
        (λ c hc. program_reads p (with_name d x c) l (record { names = open_bind d.of x c h.names hc; outputs = h.outputs }))
    program_reads (output t ∷ p) d l h =
        then_reads (with_output d) (λ e. program_steps e p) OpenDraft (term_reads (value_of d.of) h.names t)
        (λ c hc. program_reads p (with_output d c) l (record { names = h.names; outputs = open_push d.outputs c h.outputs hc }))
