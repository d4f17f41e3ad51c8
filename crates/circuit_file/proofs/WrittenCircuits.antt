-- The text of a circuit stands for it, and is read back.
use Rattle.std.proofs.Common.{◌≡◌, ℕ, ◌+◌, ◌%◌, ◌<◌, ◌≤◌, ◌^◌, false, cond, List, [], ◌∷◌, ◌++◌, length, map, take, sum, Some, Ok, refl, ◌∙◌, arith}
use Rattle.std.specs.Prelude.{decimal}
use Rattle.std.specs.List.{AllByRecursion}
use Rattle.std.proofs.lemmas.Fmt.{decimal_nonempty, decimal_by_steps, digits_decimal, digits_value-decimal}
use Rattle.std.proofs.lemmas.Bool.Decides.{nat_tests}
use Rattle.std.proofs.Math.Nat.{pow-le-pow_right}
use Rattle.std.proofs.lemmas.List.Sums.{sum_by-cons}
use Rattle.std.proofs.lemmas.List.Elements.{All-from_get_or, recursion_from_All}
use Rattle.list_laws.proofs.JoinedLists.{every_append}
use Rattle.text_tokens.specs.Tokens.{is_blank}
use Rattle.text_tokens.specs.Numbers.{number_written}
use Rattle.text_tokens.proofs.Values.{digits, all_digits, number_is}
use Rattle.circuit_model.specs.declared.gate.Operation.{Operation}
use Rattle.circuit_model.specs.declared.gate.Operation.TheVariants.{Add, Sub, Neg, Mul, Xor, And, Inv, Eq, Eqw}
use Rattle.circuit_model.specs.declared.gate.Gate.{Gate}
use Rattle.circuit_model.specs.declared.layout.CircuitLayout.{CircuitLayout}
use Rattle.circuit_model.specs.Netlists.{Netlist, no_gate, arity, is_constant}
use Rattle.circuit_model.proofs.GateWires.{first_below, second_below}
use Rattle.circuit_file.specs.Grammar.{Write, listed_wires, AreGateLines, StandsFor}
use Rattle.circuit_file.specs.CircuitFiles.{circuit_in}
use Rattle.circuit_file.specs.CircuitTexts.{operation_name, gate_numbers, gate_parts, circuit_parts, circuit_text, HasOperation, IsWritable}
use Rattle.circuit_file.proofs.FileLaws.{file_related}
use Rattle.circuit_file.proofs.WrittenLines.{IsPart, ArePart, rows_with, rows_from-lines, lines_utf8}

-- below 2^64
abbrev pub IsSmall : ℕ → Type 0
IsSmall n = n < 2 ^ 64

-- a byte of ASCII that is no blank
abbrev IsPlain : ℕ → Type 0
IsPlain c = (is_blank c ≡ false) × (c < 128)

digit_plain : (d : ℕ) → d < 10 → IsPlain (48 + d)
digit_plain d l = (grind (arith, nat_tests), omega arith)

decimal_plain : (n : ℕ) → IsSmall n → AllByRecursion IsPlain (decimal n)
decimal_plain = decimal_by_steps (λ n ds. AllByRecursion IsPlain ds) (λ n l. (digit_plain n l, tt))
    (λ n ds l all. every_append IsPlain ds ((48 + n % 10) ∷ []) all (digit_plain (n % 10) (omega arith), tt))

clear_of : (bs : List ℕ) → AllByRecursion IsPlain bs → AllByRecursion (λ c. is_blank c ≡ false) bs
clear_of [] all = tt
clear_of (b ∷ bs) all = (all.0.0, clear_of bs all.1)

ascii_of : (bs : List ℕ) → AllByRecursion IsPlain bs → AllByRecursion (λ c. c < 128) bs
ascii_of [] all = tt
ascii_of (b ∷ bs) all = (all.0.1, ascii_of bs all.1)

decimal_part : (n : ℕ) → IsSmall n → IsPart (decimal n)
decimal_part n l = record { some = decimal_nonempty n l; clear = clear_of (decimal n) (decimal_plain n l); ascii = ascii_of (decimal n) (decimal_plain n l) }

decimals_parts : (ns : List ℕ) → AllByRecursion IsSmall ns → AllByRecursion IsPart (map decimal ns)
decimals_parts [] all = tt
decimals_parts (n ∷ ns) all = (decimal_part n all.0, decimals_parts ns all.1)

-- a decimal writes its number
written : (n : ℕ) → IsSmall n → number_written (decimal n) ≡ Some n
written n l = number_is (decimal n) n (decimal_nonempty n l) (all_digits (decimal n) ∙ digits_decimal digits n l) (digits_value-decimal digits n l) l

writes : (ns : List ℕ) → AllByRecursion IsSmall ns → Write (map decimal ns) ns
writes [] all = tt
writes (n ∷ ns) all = (written n all.0, writes ns all.1)

-- the numbers of a gate are below 2^64, and the layout has its operation
pub record IsWritten (layout : CircuitLayout) (g : Gate) : Type 0 where
  pub operation : HasOperation layout g
  pub first : IsSmall g.first
  pub second : IsSmall g.second
  pub output : IsSmall g.output
  pub constant : IsSmall g.constant

numbers_small : (o : Operation) (f s out c : ℕ) → IsSmall f → IsSmall s → IsSmall out → IsSmall c
    → AllByRecursion IsSmall (arity o ∷ 1 ∷ ((cond (is_constant o) (c ∷ []) (take (arity o) (f ∷ s ∷ []))) ++ (out ∷ [])))
numbers_small Add f s out c hf hs ho hc = (omega arith, (omega arith, (hf, (hs, (ho, tt)))))
numbers_small Sub f s out c hf hs ho hc = (omega arith, (omega arith, (hf, (hs, (ho, tt)))))
numbers_small Mul f s out c hf hs ho hc = (omega arith, (omega arith, (hf, (hs, (ho, tt)))))
numbers_small Xor f s out c hf hs ho hc = (omega arith, (omega arith, (hf, (hs, (ho, tt)))))
numbers_small And f s out c hf hs ho hc = (omega arith, (omega arith, (hf, (hs, (ho, tt)))))
numbers_small Neg f s out c hf hs ho hc = (omega arith, (omega arith, (hf, (ho, tt))))
numbers_small Inv f s out c hf hs ho hc = (omega arith, (omega arith, (hf, (ho, tt))))
numbers_small Eqw f s out c hf hs ho hc = (omega arith, (omega arith, (hf, (ho, tt))))
numbers_small Eq f s out c hf hs ho hc = (omega arith, (omega arith, (hc, (ho, tt))))

gate_small : (layout : CircuitLayout) (g : Gate) → IsWritten layout g → AllByRecursion IsSmall (gate_numbers g)
gate_small layout g h = numbers_small g.operation g.first g.second g.output g.constant h.first h.second h.output h.constant

name_part : (o : Operation) → IsPart (operation_name o)
name_part Add = record { some = omega arith; clear = (refl, (refl, (refl, tt))); ascii = (omega arith, (omega arith, (omega arith, tt))) }
name_part Sub = record { some = omega arith; clear = (refl, (refl, (refl, tt))); ascii = (omega arith, (omega arith, (omega arith, tt))) }
name_part Neg = record { some = omega arith; clear = (refl, (refl, (refl, tt))); ascii = (omega arith, (omega arith, (omega arith, tt))) }
name_part Mul = record { some = omega arith; clear = (refl, (refl, (refl, tt))); ascii = (omega arith, (omega arith, (omega arith, tt))) }
name_part Xor = record { some = omega arith; clear = (refl, (refl, (refl, tt))); ascii = (omega arith, (omega arith, (omega arith, tt))) }
name_part And = record { some = omega arith; clear = (refl, (refl, (refl, tt))); ascii = (omega arith, (omega arith, (omega arith, tt))) }
name_part Inv = record { some = omega arith; clear = (refl, (refl, (refl, tt))); ascii = (omega arith, (omega arith, (omega arith, tt))) }
name_part Eq = record { some = omega arith; clear = (refl, (refl, tt)); ascii = (omega arith, (omega arith, tt)) }
name_part Eqw = record { some = omega arith; clear = (refl, (refl, (refl, tt))); ascii = (omega arith, (omega arith, (omega arith, tt))) }

gates_parts : (layout : CircuitLayout) (gs : List Gate) → AllByRecursion (IsWritten layout) gs → AllByRecursion ArePart (map gate_parts gs)
gates_parts layout [] all = tt
gates_parts layout (g ∷ gs) all =
    let numbers = gate_small layout g all.0 in (
      (decimal_part (arity g.operation) numbers.0, every_append IsPart (map decimal (1 ∷ (listed_wires g ++ (g.output ∷ [])))) (operation_name g.operation ∷ []) (decimals_parts (1 ∷ (listed_wires g ++ (g.output ∷ []))) numbers.1) (name_part g.operation, tt)),
      gates_parts layout gs all.1,
    )

gate_lines : (layout : CircuitLayout) (n : ℕ) (gs : List Gate) → AllByRecursion (IsWritten layout) gs → AreGateLines layout (rows_with n (map gate_parts gs)) gs
gate_lines layout n [] all = tt
gate_lines layout n (g ∷ gs) all = (
  record {
    numbers = map decimal (gate_numbers g);
    name = operation_name g.operation;
    tokens = refl;
    write = writes (gate_numbers g) (gate_small layout g all.0);
    operation = all.0.operation;
  },
  gate_lines layout (n + 1) gs all.1,
)

small_sum : (ns : List ℕ) (most : ℕ) → most ≤ 131072 → sum ns ≤ most → AllByRecursion IsSmall ns
small_sum [] most l h = tt
small_sum (n ∷ ns) most l h = let e : sum (n ∷ ns) ≡ n + sum ns = sum_by-cons (λ x. x) n ns in (omega (arith, e), small_sum ns most l (omega (arith, e)))

gate_written : (layout : CircuitLayout) (c : Netlist) → IsWritable layout c → AllByRecursion (IsWritten layout) c.gates
gate_written layout c h =
    recursion_from_All (IsWritten layout) c.gates (All-from_get_or (IsWritten layout) c.gates no_gate (λ t l.
    let valid = h.valid in
    let bits : 2 ^ c.bits ≤ 2 ^ 64 = pow-le-pow_right {n = 2} (omega arith) valid.within.bits in
    let fits = valid.fits t l in let wires : c.wires ≤ 131072 = valid.within.wires in
    record {
      operation = h.operations t l;
      first = omega (arith, first_below c t valid l);
      second = omega (arith, second_below c t valid l);
      output = omega (arith, fits.output);
      constant = omega (arith, fits.constant);
    }))

-- the text of a valid circuit stands for it, in a layout that has its operations
pub circuit_stands : (layout : CircuitLayout) (c : Netlist) → IsWritable layout c → StandsFor layout c.bits (circuit_text c) c
unfolding circuit_text
circuit_stands layout c h =
    let within = h.valid.within in
    let gates = gate_written layout c h in
    let inputs : AllByRecursion IsSmall c.inputs = small_sum c.inputs c.wires within.wires within.input_wires in
    let outputs : AllByRecursion IsSmall c.outputs = small_sum c.outputs c.wires within.wires within.output_wires in
    let counts : AllByRecursion IsSmall (length c.gates ∷ c.wires ∷ []) = (omega (arith, within.gates), (omega (arith, within.wires), tt)) in
    let parts : AllByRecursion ArePart (circuit_parts c) = (
      (decimal_part (length c.gates) counts.0, decimals_parts (c.wires ∷ []) counts.1),
      (
        (decimal_part (length c.inputs) (omega (arith, within.inputs)), decimals_parts c.inputs inputs),
        (
          (decimal_part (length c.outputs) (omega (arith, within.outputs)), decimals_parts c.outputs outputs),
          gates_parts layout c.gates gates,
        ),
      ),
    ) in
    record {
      one = record { number = 1; tokens = map decimal (length c.gates ∷ c.wires ∷ []) };
      two = record { number = 2; tokens = map decimal (length c.inputs ∷ c.inputs) };
      three = record { number = 3; tokens = map decimal (length c.outputs ∷ c.outputs) };
      rest = rows_with 4 (map gate_parts c.gates);
      text = lines_utf8 (circuit_parts c) parts;
      lines = rows_from-lines 1 (circuit_parts c) parts;
      counts = writes (length c.gates ∷ c.wires ∷ []) counts;
      inputs = writes (length c.inputs ∷ c.inputs) (omega (arith, within.inputs), inputs);
      outputs = writes (length c.outputs ∷ c.outputs) (omega (arith, within.outputs), outputs);
      gates = gate_lines layout 4 c.gates gates;
      words = refl;
      boolean = h.boolean;
      valid = h.valid;
    }

-- and it is read back
pub circuit_read : (layout : CircuitLayout) (c : Netlist) → IsWritable layout c → circuit_in layout c.bits (circuit_text c) ≡ Ok c
circuit_read layout c h = file_related layout c.bits (circuit_text c) c (circuit_stands layout c h)
