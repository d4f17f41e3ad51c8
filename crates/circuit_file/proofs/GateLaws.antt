-- Gate lines without a fault.
use Rattle.std.proofs.Common.{◌≡◌, ℕ, suc, ◌+◌, ◌^◌, ◌≤◌, true, false, ◌&&◌, cond, List, [], ◌∷◌, ◌++◌, length, take, drop, get_or, nat_lt, nat_eq, Option, Some, None, Result, Ok, refl, sym, ◌∙◌, ap, ap₂, subst, arith, length-drop}
use Rattle.std.specs.Prelude.{slice_index, slice_index_or}
use Rattle.std.specs.Option.{is_some, unwrap_or}
use Rattle.std.specs.List.{list_all}
use Rattle.std.proofs.lemmas.Bool.{lt-ltb, ltb-false, eqb-true, and_parts, and_from, not-false}
use Rattle.std.proofs.lemmas.List.{take_more, take-append-drop, length-take-le, length-map}
use Rattle.std.proofs.Math.Seq.{take-length}
use Rattle.text_tokens.specs.Numbers.{number_written}
use Rattle.list_laws.proofs.FirstFaults.{none_failed, or_fault-ok}
use Rattle.list_laws.proofs.ShortLists.{one_long, two_long}
use Rattle.gate_lines.specs.Rows.{Row}
use Rattle.circuit_model.specs.declared.gate.Gate.{Gate}
use Rattle.circuit_model.specs.declared.gate.Operation.{Operation}
use Rattle.circuit_model.specs.declared.gate.Operation.TheVariants.{Add, Sub, Neg, Mul, Xor, And, Inv, Eq, Eqw}
use Rattle.circuit_model.specs.declared.fault.CircuitFault.{CircuitFault}
use Rattle.circuit_model.specs.Netlists.{Netlist, GateFits, arity, is_constant, read_by, sets}
use Rattle.list_laws.specs.Checks.{first_fault}
use Rattle.circuit_model.specs.DraftSteps.{gate_checks, gate_of, next_gate}
use Rattle.circuit_file.specs.Tokens.{token, tokens_after, is_number, number_in, all_numbers}
use Rattle.circuit_file.specs.GateLines.{operation_of, input_count, output_count, wire_count, operation_in, form_checks, wires_in, gate_line_of, gate_line_in, GateLine}
use Rattle.circuit_file.specs.CircuitFiles.{gate_in}
use Rattle.circuit_file.specs.Grammar.{Write, listed_wires, IsGateLine}
use Rattle.circuit_model.specs.declared.layout.CircuitLayout.{CircuitLayout}
use Rattle.circuit_file.proofs.PassedChecks.{bind_ok}
use Rattle.circuit_file.proofs.WrittenNumbers.{write_all, write_some, write_none}

-- ---- a gate line in the grammar has no fault

two : (layout : CircuitLayout) (c : Netlist) (line : ℕ) (o : Operation) (t0 t1 t2 t3 t4 name : List ℕ) (a b w : ℕ)
    → arity o ≡ 2 → is_constant o ≡ false → number_written t0 ≡ Some 2 → number_written t1 ≡ Some 1 → number_written t2 ≡ Some a → number_written t3 ≡ Some b → number_written t4 ≡ Some w → operation_of layout name ≡ Some o
    → list_all (λ v. nat_lt v c.wires) (a ∷ b ∷ []) ≡ true → nat_lt w c.wires ≡ true → list_all (sets c) (a ∷ b ∷ []) ≡ true → sets c w ≡ false
    → gate_in layout c (record { number = line; tokens = t0 ∷ t1 ∷ t2 ∷ t3 ∷ t4 ∷ name ∷ [] }) ≡ Ok (record { operation = o; first = a; second = b; output = w; constant = 0 })
unfolding gate_line_in form_checks next_gate gate_checks
two layout c line o t0 t1 t2 t3 t4 name a b w ar k v0 v1 v2 v3 v4 op below out read fresh = simp (v0, v1, v2, v3, v4, op, ar, k, below, out, read, fresh)

one : (layout : CircuitLayout) (c : Netlist) (line : ℕ) (o : Operation) (t0 t1 t2 t3 name : List ℕ) (a w : ℕ)
    → arity o ≡ 1 → is_constant o ≡ false → number_written t0 ≡ Some 1 → number_written t1 ≡ Some 1 → number_written t2 ≡ Some a → number_written t3 ≡ Some w → operation_of layout name ≡ Some o
    → list_all (λ v. nat_lt v c.wires) (a ∷ []) ≡ true → nat_lt w c.wires ≡ true → list_all (sets c) (a ∷ []) ≡ true → sets c w ≡ false
    → gate_in layout c (record { number = line; tokens = t0 ∷ t1 ∷ t2 ∷ t3 ∷ name ∷ [] }) ≡ Ok (record { operation = o; first = a; second = 0; output = w; constant = 0 })
unfolding gate_line_in form_checks next_gate gate_checks
one layout c line o t0 t1 t2 t3 name a w ar k v0 v1 v2 v3 op below out read fresh = simp (v0, v1, v2, v3, op, ar, k, below, out, read, fresh)

constant : (layout : CircuitLayout) (c : Netlist) (line : ℕ) (t0 t1 t2 t3 name : List ℕ) (a w : ℕ)
    → number_written t0 ≡ Some 1 → number_written t1 ≡ Some 1 → number_written t2 ≡ Some a → number_written t3 ≡ Some w → operation_of layout name ≡ Some Eq
    → nat_lt a (2 ^ c.bits) ≡ true → nat_lt w c.wires ≡ true → sets c w ≡ false
    → gate_in layout c (record { number = line; tokens = t0 ∷ t1 ∷ t2 ∷ t3 ∷ name ∷ [] }) ≡ Ok (record { operation = Eq; first = 0; second = 0; output = w; constant = a })
unfolding gate_line_in form_checks next_gate gate_checks
constant layout c line t0 t1 t2 t3 name a w v0 v1 v2 v3 op small out fresh = simp (v0, v1, v2, v3, op, small, out, fresh)

on_tokens : (layout : CircuitLayout) (c : Netlist) (row : Row) (ts : List (List ℕ)) (x : Result Gate CircuitFault) → row.tokens ≡ ts → gate_in layout c (record { number = row.number; tokens = ts }) ≡ x → gate_in layout c row ≡ x
on_tokens layout c row ts x e h = ap (λ us. gate_in layout c (record { number = row.number; tokens = us })) e ∙ h

listed_two : (g : Gate) → arity g.operation ≡ 2 → is_constant g.operation ≡ false → listed_wires g ≡ g.first ∷ g.second ∷ []
listed_two g ar k = ap (λ b. cond b (g.constant ∷ []) (take (arity g.operation) (g.first ∷ g.second ∷ []))) k ∙ ap (λ n. take n (g.first ∷ g.second ∷ [])) ar

listed_one : (g : Gate) → arity g.operation ≡ 1 → is_constant g.operation ≡ false → listed_wires g ≡ g.first ∷ []
listed_one g ar k = ap (λ b. cond b (g.constant ∷ []) (take (arity g.operation) (g.first ∷ g.second ∷ []))) k ∙ ap (λ n. take n (g.first ∷ g.second ∷ [])) ar

with_two : (layout : CircuitLayout) (c : Netlist) (row : Row) (g : Gate) → IsGateLine layout row g → GateFits c c.gates g → arity g.operation ≡ 2 → is_constant g.operation ≡ false → gate_in layout c row ≡ Ok g
with_two layout c row g r f ar k =
    let w : Write r.numbers (2 ∷ 1 ∷ g.first ∷ g.second ∷ g.output ∷ []) = subst (λ (ns : List ℕ). Write r.numbers ns) (ap₂ (λ n xs. n ∷ 1 ∷ (xs ++ (g.output ∷ []))) ar (listed_two g ar k)) r.write in
    let reads_is : read_by g ≡ g.first ∷ g.second ∷ [] = ap (λ b. cond b [] (take (arity g.operation) (g.first ∷ g.second ∷ []))) k ∙ ap (λ n. take n (g.first ∷ g.second ∷ [])) ar in
    let a = write_some _ _ _ w in
    let b = write_some _ _ _ a.4 in
    let d = write_some _ _ _ b.4 in
    let e = write_some _ _ _ d.4 in
    let h = write_some _ _ _ e.4 in
    let all : row.tokens ≡ a.0 ∷ b.0 ∷ d.0 ∷ e.0 ∷ h.0 ∷ r.name ∷ [] = r.tokens ∙ ap (λ ts. ts ++ (r.name ∷ [])) (a.2 ∙ ap (λ ts. a.0 ∷ ts) (b.2 ∙ ap (λ ts. b.0 ∷ ts) (d.2 ∙ ap (λ ts. d.0 ∷ ts) (e.2 ∙ ap (λ ts. e.0 ∷ ts) (h.2 ∙ ap (λ ts. h.0 ∷ ts) (write_none h.1 h.4)))))) in
    on_tokens layout c row (a.0 ∷ b.0 ∷ d.0 ∷ e.0 ∷ h.0 ∷ r.name ∷ []) (Ok g) all
    (two layout c row.number g.operation a.0 b.0 d.0 e.0 h.0 r.name g.first g.second g.output ar k a.3 b.3 d.3 e.3 h.3 r.operation
    (ap (list_all (λ v. nat_lt v c.wires)) (sym reads_is) ∙ f.below) (lt-ltb g.output c.wires f.output) (ap (list_all (sets c)) (sym reads_is) ∙ f.read) f.fresh
    ∙ ap (λ z. Ok (record g { constant = z })) (sym (f.plain.constant k)))

with_one : (layout : CircuitLayout) (c : Netlist) (row : Row) (g : Gate) → IsGateLine layout row g → GateFits c c.gates g → arity g.operation ≡ 1 → is_constant g.operation ≡ false → gate_in layout c row ≡ Ok g
with_one layout c row g r f ar k =
    let w : Write r.numbers (1 ∷ 1 ∷ g.first ∷ g.output ∷ []) = subst (λ (ns : List ℕ). Write r.numbers ns) (ap₂ (λ n xs. n ∷ 1 ∷ (xs ++ (g.output ∷ []))) ar (listed_one g ar k)) r.write in
    let reads_is : read_by g ≡ g.first ∷ [] = ap (λ b. cond b [] (take (arity g.operation) (g.first ∷ g.second ∷ []))) k ∙ ap (λ n. take n (g.first ∷ g.second ∷ [])) ar in
    let a = write_some _ _ _ w in
    let b = write_some _ _ _ a.4 in
    let d = write_some _ _ _ b.4 in
    let e = write_some _ _ _ d.4 in
    let all : row.tokens ≡ a.0 ∷ b.0 ∷ d.0 ∷ e.0 ∷ r.name ∷ [] = r.tokens ∙ ap (λ ts. ts ++ (r.name ∷ [])) (a.2 ∙ ap (λ ts. a.0 ∷ ts) (b.2 ∙ ap (λ ts. b.0 ∷ ts) (d.2 ∙ ap (λ ts. d.0 ∷ ts) (e.2 ∙ ap (λ ts. e.0 ∷ ts) (write_none e.1 e.4))))) in
    on_tokens layout c row (a.0 ∷ b.0 ∷ d.0 ∷ e.0 ∷ r.name ∷ []) (Ok g) all
    (one layout c row.number g.operation a.0 b.0 d.0 e.0 r.name g.first g.output ar k a.3 b.3 d.3 e.3 r.operation
    (ap (list_all (λ v. nat_lt v c.wires)) (sym reads_is) ∙ f.below) (lt-ltb g.output c.wires f.output) (ap (list_all (sets c)) (sym reads_is) ∙ f.read) f.fresh
    ∙ ap₂ (λ y z. Ok (record g { second = y; constant = z })) (sym (f.plain.second ar)) (sym (f.plain.constant k)))

with_constant : (layout : CircuitLayout) (c : Netlist) (row : Row) (g : Gate) → IsGateLine layout row g → GateFits c c.gates g → g.operation ≡ Eq → gate_in layout c row ≡ Ok g
with_constant layout c row g r f o =
    let w : Write r.numbers (1 ∷ 1 ∷ g.constant ∷ g.output ∷ []) = subst (λ (p : Operation). Write r.numbers (arity p ∷ 1 ∷ (cond (is_constant p) (g.constant ∷ []) (take (arity p) (g.first ∷ g.second ∷ [])) ++ (g.output ∷ [])))) o r.write in
    let a = write_some _ _ _ w in
    let b = write_some _ _ _ a.4 in
    let d = write_some _ _ _ b.4 in
    let e = write_some _ _ _ d.4 in
    let all : row.tokens ≡ a.0 ∷ b.0 ∷ d.0 ∷ e.0 ∷ r.name ∷ [] = r.tokens ∙ ap (λ ts. ts ++ (r.name ∷ [])) (a.2 ∙ ap (λ ts. a.0 ∷ ts) (b.2 ∙ ap (λ ts. b.0 ∷ ts) (d.2 ∙ ap (λ ts. d.0 ∷ ts) (e.2 ∙ ap (λ ts. e.0 ∷ ts) (write_none e.1 e.4))))) in
    on_tokens layout c row (a.0 ∷ b.0 ∷ d.0 ∷ e.0 ∷ r.name ∷ []) (Ok g) all
    (constant layout c row.number a.0 b.0 d.0 e.0 r.name g.constant g.output a.3 b.3 d.3 e.3 (r.operation ∙ ap Some o)
    (lt-ltb _ _ f.constant) (lt-ltb g.output c.wires f.output) f.fresh
    ∙ ap₂ (λ p x. Ok (record g { operation = p; first = x; second = 0 })) (sym o) (sym (f.plain.first (ap is_constant o)))
    ∙ ap (λ y. Ok (record g { second = y })) (sym (f.plain.second (ap arity o))))

by_operation : (layout : CircuitLayout) (c : Netlist) (row : Row) (g : Gate) (o : Operation) → g.operation ≡ o → IsGateLine layout row g → GateFits c c.gates g → gate_in layout c row ≡ Ok g
by_operation layout c row g Add e r f = with_two layout c row g r f (ap arity e) (ap is_constant e)
by_operation layout c row g Sub e r f = with_two layout c row g r f (ap arity e) (ap is_constant e)
by_operation layout c row g Mul e r f = with_two layout c row g r f (ap arity e) (ap is_constant e)
by_operation layout c row g Xor e r f = with_two layout c row g r f (ap arity e) (ap is_constant e)
by_operation layout c row g And e r f = with_two layout c row g r f (ap arity e) (ap is_constant e)
by_operation layout c row g Neg e r f = with_one layout c row g r f (ap arity e) (ap is_constant e)
by_operation layout c row g Inv e r f = with_one layout c row g r f (ap arity e) (ap is_constant e)
by_operation layout c row g Eqw e r f = with_one layout c row g r f (ap arity e) (ap is_constant e)
by_operation layout c row g Eq e r f = with_constant layout c row g r f e

pub gate_related : (layout : CircuitLayout) (c : Netlist) (row : Row) (g : Gate) → IsGateLine layout row g → GateFits c c.gates g → gate_in layout c row ≡ Ok g
gate_related layout c row g r f = by_operation layout c row g g.operation refl r f

-- ---- a gate line without a fault is in the grammar

front : (ts : List (List ℕ)) (k : ℕ) → 2 ≤ length ts → take (k + 2) ts ≡ slice_index_or ts 0 [] ∷ slice_index_or ts 1 [] ∷ take k (drop 2 ts)
front [] k l = absurd (omega arith)
front (a ∷ []) k l = absurd (omega arith)
front (a ∷ b ∷ ts) k l = ap (λ n. take n (a ∷ b ∷ ts)) (let e : k + 2 ≡ suc (suc k) = omega arith in e)

front_numbers : (ts : List (List ℕ)) → 2 ≤ length ts → all_numbers (take 2 (drop 0 ts)) ≡ true → (is_number (slice_index_or ts 0 []) ≡ true) × (is_number (slice_index_or ts 1 []) ≡ true)
front_numbers [] l e = absurd (omega arith)
front_numbers (a ∷ []) l e = absurd (omega arith)
front_numbers (a ∷ b ∷ ts) l e = ((and_parts _ _ e).0, (and_parts _ _ (and_parts (is_number a) _ e).1).0)

inputs_are : (o : Operation) (is os : List ℕ) → length is ≡ arity o → is ≡ listed_wires (gate_of o is os)
inputs_are Add is os e = two_long is e
inputs_are Sub is os e = two_long is e
inputs_are Mul is os e = two_long is e
inputs_are Xor is os e = two_long is e
inputs_are And is os e = two_long is e
inputs_are Neg is os e = one_long is e
inputs_are Inv is os e = one_long is e
inputs_are Eq is os e = one_long is e
inputs_are Eqw is os e = one_long is e

some_operation : (o : Option Operation) → is_some o ≡ true → o ≡ Some (unwrap_or o Eqw)
some_operation None e = cc
some_operation (Some n) e = refl

pub record IsFormed (layout : CircuitLayout) (row : Row) : Type 0 where
  pub two : 2 ≤ length row.tokens
  pub counts : all_numbers (tokens_after 0 2 row) ≡ true
  pub long : length row.tokens ≡ wire_count row + 3
  pub wires : all_numbers (tokens_after 2 (wire_count row) row) ≡ true
  pub operation : is_some (operation_in layout row) ≡ true

pub formed : (layout : CircuitLayout) (row : Row) → first_fault (form_checks layout row) ≡ None → IsFormed layout row
unfolding form_checks
formed layout row e =
    let a = none_failed _ _ _ e in
    let b = none_failed _ _ _ a.1 in
    let c = none_failed _ _ _ b.1 in
    let d = none_failed _ _ _ c.1 in
    let f = none_failed _ _ _ d.1 in
    let g = none_failed _ _ _ f.1 in
    let below : wire_count row + 3 ≤ length row.tokens = ltb-false _ _ c.0 in
    let above : length row.tokens ≤ wire_count row + 3 = ltb-false _ _ d.0 in
    record { two = ltb-false _ _ a.0; counts = not-false _ b.0; long = omega (arith, below, above); wires = not-false _ f.0; operation = not-false _ g.0 }

passed_arity : (c : Netlist) (line : ℕ) (o : Operation) (is os : List ℕ) (g : Gate) → next_gate c line o is os ≡ Ok g → (length is ≡ arity o) × (length os ≡ 1) × (gate_of o is os ≡ g)
unfolding next_gate gate_checks
passed_arity c line o is os g e =
    let k = or_fault-ok _ (gate_of o is os) g (sym e) in
    let a = none_failed _ _ _ k.0 in
    let both : (nat_eq (length is) (arity o) && nat_eq (length os) 1) ≡ true = not-false _ a.0 in
    (eqb-true (length is) (arity o) (and_parts _ _ both).0, eqb-true (length os) 1 (and_parts (nat_eq (length is) (arity o)) _ both).1, sym k.1)

line_of : (layout : CircuitLayout) (line : Row) (o : Operation) (is os : List ℕ) → IsFormed layout line → o ≡ unwrap_or (operation_in layout line) Eqw → is ≡ take (input_count line) (wires_in line) → os ≡ drop (input_count line) (wires_in line)
    → length is ≡ arity o → length os ≡ 1 → IsGateLine layout line (gate_of o is os)
line_of layout line o is os f oe ie oe2 li lo =
    let k2 : ℕ = wire_count line + 2 in
    let ts : List (List ℕ) = line.tokens in
    let all : length (wires_in line) ≡ wire_count line =
    length-map (tokens_after 2 (wire_count line) line) number_in ∙ length-take-le (wire_count line) (drop 2 line.tokens) (omega (arith, length-drop 2 line.tokens, f.long)) in
    let ins_is : input_count line ≡ arity o = sym (length-take-le (input_count line) (wires_in line) (omega (arith, all))) ∙ ap length (sym ie) ∙ li in
    let left : length (drop (input_count line) (wires_in line)) ≡ 1 = ap length (sym oe2) ∙ lo in
    let outs_is : output_count line ≡ 1 = omega (arith, all, left, length-drop (input_count line) (wires_in line)) in
    let more : take (k2 + 1) ts ≡ take k2 ts ++ (get_or ts k2 [] ∷ []) = take_more ts k2 [] (omega (arith, f.long)) in
    let whole : take (k2 + 1) ts ≡ ts = ap (λ n. take n ts) (let e : k2 + 1 ≡ length ts = omega (arith, f.long) in e) ∙ take-length ts in
    let head : take k2 ts ≡ token line 0 ∷ token line 1 ∷ tokens_after 2 (wire_count line) line = front ts (wire_count line) f.two in
    let split : wires_in line ≡ listed_wires (gate_of o is os) ++ (slice_index os 0 ∷ []) =
    sym (take-append-drop (input_count line) (wires_in line)) ∙ ap₂ (λ a b. a ++ b) (sym ie ∙ inputs_are o is os li) (sym oe2 ∙ one_long os lo) in
    let heads = front_numbers ts f.two f.counts in
    let write : Write (token line 0 ∷ token line 1 ∷ tokens_after 2 (wire_count line) line) (input_count line ∷ output_count line ∷ wires_in line) =
    write_all (token line 0 ∷ token line 1 ∷ tokens_after 2 (wire_count line) line)
    (and_from (is_number (token line 0)) _ heads.0 (and_from (is_number (token line 1)) _ heads.1 f.wires)) in
    record {
      numbers = token line 0 ∷ token line 1 ∷ tokens_after 2 (wire_count line) line;
      name = token line k2;
      tokens = sym whole ∙ more ∙ ap (λ xs. xs ++ (token line k2 ∷ [])) head;
      write = subst (λ (ns : List ℕ). Write (token line 0 ∷ token line 1 ∷ tokens_after 2 (wire_count line) line) ns) (ap (λ n. n ∷ output_count line ∷ wires_in line) ins_is ∙ ap₂ (λ n ns. arity o ∷ n ∷ ns) outs_is split) write;
      operation = some_operation (operation_in layout line) f.operation ∙ ap Some (sym oe);
    }

pub line_grounded : (layout : CircuitLayout) (c : Netlist) (row : Row) (g : Gate) → gate_in layout c row ≡ Ok g → IsGateLine layout row g × (next_gate c row.number (gate_line_of layout row).operation (gate_line_of layout row).inputs (gate_line_of layout row).outputs ≡ Ok g)
unfolding gate_line_in
line_grounded layout c row g e =
    let b = bind_ok (gate_line_in layout row) (λ (l : GateLine). next_gate c row.number l.operation l.inputs l.outputs) g e in
    let k = or_fault-ok _ (gate_line_of layout row) b.0 (sym b.1) in
    let next : next_gate c row.number (gate_line_of layout row).operation (gate_line_of layout row).inputs (gate_line_of layout row).outputs ≡ Ok g =
    ap (λ (l : GateLine). next_gate c row.number l.operation l.inputs l.outputs) (sym k.1) ∙ b.2 in
    let p = passed_arity c row.number (gate_line_of layout row).operation (gate_line_of layout row).inputs (gate_line_of layout row).outputs g next in (
      subst (λ (h : Gate). IsGateLine layout row h) p.2
          (line_of layout row (gate_line_of layout row).operation (gate_line_of layout row).inputs (gate_line_of layout row).outputs (formed layout row k.0) refl refl refl p.0 p.1),
      next,
    )
