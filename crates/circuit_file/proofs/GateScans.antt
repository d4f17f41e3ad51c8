-- Gate lines that are read in one go.
use Rattle.std.proofs.Common.{◌≡◌, ℕ, suc, ◌+◌, ◌≤◌, ◌<◌, true, false, ◌&&◌, nat_lt, nat_eq, List, [], ◌∷◌, ◌++◌, length, take, drop, get_or, set, Some, Result, Ok, Err, refl, sym, ◌∙◌, ap, ap₂, subst, arith, append_assoc, length-append, length-drop, inl, inr}
use Rattle.std.specs.Prelude.{slice_index_or}
use Rattle.std.proofs.lemmas.Bool.{le-ltb, eqb-true, cases_Bool, and_parts}
use Rattle.std.proofs.lemmas.List.{take_more, take_more_set, get_or-drop, map-append, length-map, length-take-le}
use Rattle.std.proofs.Math.Seq.{take-append_seam, get_or-append_seam}
use Rattle.text_tokens.specs.Numbers.{number_written}
use Rattle.gate_lines.specs.Rows.{Row}
use Rattle.gate_lines.specs.Places.{Place, rows_at, next_token, past_token}
use Rattle.circuit_model.specs.declared.gate.Operation.{Operation}
use Rattle.circuit_model.specs.declared.gate.Operation.TheVariants.{Add, Sub, Neg, Mul, Xor, And, Inv, Eq, Eqw}
use Rattle.circuit_model.specs.declared.fault.CircuitFault.{CircuitFault}
use Rattle.circuit_model.specs.declared.fault.CircuitFault.TheVariants.{WrongArity}
use Rattle.list_laws.specs.Checks.{first_fault, or_fault}
use Rattle.circuit_model.specs.Netlists.{Netlist, arity}
use Rattle.circuit_model.specs.DraftSteps.{Draft, gate_checks, next_gate}
use Rattle.circuit_file.specs.Tokens.{token, tokens_after, number_in, all_numbers, numbers_in}
use Rattle.circuit_file.specs.GateLines.{operation_of, form_checks, form_of, gate_line_of, wires_in}
use Rattle.circuit_file.specs.CircuitFiles.{gate_in, gates_in}
use Rattle.circuit_file.specs.Grammar.{Write}
use Rattle.circuit_file.specs.Steps.{TakesNumbers, IsParsedGate, IsFirstGate, AddsGate, AddsNext}
use Rattle.circuit_model.specs.declared.layout.CircuitLayout.{CircuitLayout}
use Rattle.circuit_file.specs.declared.gate_line.Form.{Form}
use Rattle.circuit_file.specs.declared.gate_line.ParsedGate.{ParsedGate}
use Rattle.list_laws.proofs.FirstFaults.{or_fault-ok}
use Rattle.circuit_file.proofs.WrittenNumbers.{write_some, written_long, written_all, written_are}
use Rattle.circuit_file.proofs.GateLaws.{IsFormed, formed}
use Rattle.circuit_file.proofs.ReaderSteps.{read_so, fails_so, gate_stops}

-- ---- numbers that are taken one after another

write_append : (ts us : List (List ℕ)) (ns ms : List ℕ) → Write ts ns → Write us ms → Write (ts ++ us) (ns ++ ms)
write_append [] us [] ms w v = v
write_append [] us (n ∷ ns) ms w v = absurd w
write_append (t ∷ ts) us [] ms w v = absurd w
write_append (t ∷ ts) us (n ∷ ns) ms w v = (w.0, write_append ts us ns ms w.1 v)

pub takes_then : (p q r : Place) (ns ms : List ℕ) → TakesNumbers p ns q → TakesNumbers q ms r → TakesNumbers p (ns ++ ms) r
takes_then p q r ns ms a b = record {
  tokens = a.tokens ++ b.tokens;
  before = a.before ∙ ap (λ (x : Place). record x { tokens = a.tokens ++ x.tokens }) b.before ∙ ap (λ ts. record r { tokens = ts }) (sym (append_assoc a.tokens b.tokens r.tokens));
  write = write_append a.tokens b.tokens ns ms a.write b.write;
}

takes_from : (k : ℕ) (ts : List (List ℕ)) (rows : List Row) (n : ℕ) → Some n ≡ number_written (slice_index_or ts 0 []) → TakesNumbers (record { number = k; tokens = ts; rows = rows }) (n ∷ []) (record { number = k; tokens = drop 1 ts; rows = rows })
unfolding number_written
takes_from k [] rows n e = cc
takes_from k (t ∷ ts) rows n e = record { tokens = t ∷ []; before = refl; write = (sym e, tt) }

pub takes_one : (p q : Place) (n : ℕ) → Some n ≡ number_written (next_token p) → q ≡ past_token p → TakesNumbers p (n ∷ []) q
takes_one p q n e s = subst (TakesNumbers p (n ∷ [])) (sym s) (takes_from p.number p.tokens p.rows n e)

pub takes_two : (p q r : Place) (a b : ℕ) → TakesNumbers p (a ∷ []) q → TakesNumbers q (b ∷ []) r → TakesNumbers p (a ∷ b ∷ []) r
takes_two p q r a b s t = takes_then p q r (a ∷ []) (b ∷ []) s t

pub takes_count : (p q : Place) (ns ms : List ℕ) (k count : ℕ) → count ≡ k → take k ns ≡ ms → TakesNumbers p ms q → TakesNumbers p (take count ns) q
takes_count p q ns ms k count e f t = subst (λ xs. TakesNumbers p xs q) (sym (ap (λ i. take i ns) e ∙ f)) t

-- ---- a line that has the form of a gate line

-- the counts, the wires and the operation
line_form : (layout : CircuitLayout) (n : ℕ) (t0 t1 name : List ℕ) (ts : List (List ℕ)) (inputs outputs : ℕ) (o : Operation) → number_written t0 ≡ Some inputs → number_written t1 ≡ Some outputs → all_numbers ts ≡ true → length ts ≡ inputs + outputs
    → operation_of layout name ≡ Some o
    → or_fault (first_fault (form_checks layout (record { number = n; tokens = t0 ∷ t1 ∷ (ts ++ (name ∷ [])) }))) (form_of layout (record { number = n; tokens = t0 ∷ t1 ∷ (ts ++ (name ∷ [])) }))
    ≡ Ok (record { operation = o; inputs = inputs; wires = inputs + outputs })
unfolding form_checks
line_form layout n t0 t1 name ts inputs outputs o v0 v1 all long op =
    let tokens : List (List ℕ) = t0 ∷ t1 ∷ (ts ++ (name ∷ [])) in
    let some : nat_lt (length (t0 ∷ t1 ∷ (ts ++ (name ∷ [])))) 2 ≡ false = le-ltb _ _ (omega (arith, length-append ts (name ∷ []))) in
    let enough : nat_lt (length (t0 ∷ t1 ∷ (ts ++ (name ∷ [])))) (inputs + outputs + 3) ≡ false = le-ltb _ _ (omega (arith, length-append ts (name ∷ []))) in
    let no_more : nat_lt (inputs + outputs + 3) (length (t0 ∷ t1 ∷ (ts ++ (name ∷ [])))) ≡ false = le-ltb _ _ (omega (arith, length-append ts (name ∷ []))) in
    let wires : all_numbers (take (inputs + outputs) (ts ++ (name ∷ []))) ≡ true = ap (λ k. all_numbers (take k (ts ++ (name ∷ [])))) (sym long) ∙ ap all_numbers (take-append_seam ts (name ∷ [])) ∙ all in
    let two_more : inputs + outputs + 2 ≡ suc (suc (length ts)) = omega arith in
    let last : slice_index_or (t0 ∷ t1 ∷ (ts ++ (name ∷ []))) (inputs + outputs + 2) [] ≡ name = ap (λ k. slice_index_or (t0 ∷ t1 ∷ (ts ++ (name ∷ []))) k []) two_more ∙ get_or-append_seam ts name [] [] in
    simp (v0, v1, some, enough, no_more, wires, last, op)

-- what was taken from the start of a line to its end
pub scanned : (layout : CircuitLayout) (p q r s e : Place) (rest : List Row) (line inputs outputs : ℕ) (wires name : List ℕ) (o : Operation)
    → line ≡ p.number → TakesNumbers p (inputs ∷ []) q → TakesNumbers q (outputs ∷ []) r → TakesNumbers r (take (inputs + outputs) wires) s → s ≡ record e { tokens = name ∷ e.tokens } → e.tokens ≡ [] → rest ≡ e.rows → Some o ≡ operation_of layout name
    → inputs + outputs ≤ 3 → 3 ≡ length wires
    → IsFirstGate layout (rows_at p) (record { line = line; form = record { operation = o; inputs = inputs; wires = inputs + outputs }; wires = wires }) rest
scanned layout p q r s e rest line inputs outputs wires name o at ins outs ws last none after op few three =
    let all : TakesNumbers p (inputs ∷ outputs ∷ take (inputs + outputs) wires) s = takes_then p q s (inputs ∷ []) (outputs ∷ take (inputs + outputs) wires) ins (takes_then q r s (outputs ∷ []) (take (inputs + outputs) wires) outs ws) in
    let a = write_some all.tokens inputs (outputs ∷ take (inputs + outputs) wires) all.write in
    let b = write_some a.1 outputs (take (inputs + outputs) wires) a.4 in
    let ts : List (List ℕ) = b.1 in
    let tokens_are : all.tokens ≡ a.0 ∷ b.0 ∷ b.1 = a.2 ∙ ap (λ us. a.0 ∷ us) b.2 in
    let whole : p ≡ record { number = e.number; tokens = a.0 ∷ b.0 ∷ (b.1 ++ (name ∷ [])); rows = e.rows } =
    all.before ∙ ap (λ (x : Place). record x { tokens = all.tokens ++ x.tokens }) (last ∙ ap (λ us. record e { tokens = name ∷ us }) none) ∙ ap (λ us. record e { tokens = us ++ (name ∷ []) }) tokens_are in
    let long : length b.1 ≡ inputs + outputs = written_long b.1 (take (inputs + outputs) wires) b.4 ∙ length-take-le (inputs + outputs) wires (omega (arith, few, three)) in
    record {
      row = record { number = e.number; tokens = a.0 ∷ b.0 ∷ (b.1 ++ (name ∷ [])) };
      first = ap rows_at whole ∙ ap (λ rs. record { number = e.number; tokens = a.0 ∷ b.0 ∷ (b.1 ++ (name ∷ [])) } ∷ rs) (sym after);
      is = record {
        line = at ∙ ap (λ (x : Place). x.number) whole;
        form = line_form layout e.number a.0 b.0 name b.1 inputs outputs o a.3 b.3 (written_all b.1 (take (inputs + outputs) wires) b.4) long (sym op);
        wires = sym (ap numbers_in (ap (λ k. take k (b.1 ++ (name ∷ []))) (sym long) ∙ take-append_seam b.1 (name ∷ [])) ∙ written_are b.1 (take (inputs + outputs) wires) b.4);
        inputs = omega arith;
        few = few;
      };
    }

-- ---- a line with another form

pub wires_more : (row : Row) (wires : List ℕ) (at n : ℕ) → at < length wires → at + 2 < length row.tokens → take at wires ≡ numbers_in (tokens_after 2 at row) → n ≡ number_in (token row (at + 2)) → take (at + 1) (set wires at n) ≡ numbers_in (tokens_after 2 (at + 1) row)
wires_more row wires at n l m t e =
    let two_on : 2 + at ≡ at + 2 = omega arith in
    take_more_set wires at n l
    ∙ ap₂ (λ xs k. xs ++ (k ∷ [])) t (e ∙ ap (λ k. number_in (get_or row.tokens k [])) (sym two_on) ∙ ap number_in (sym (get_or-drop 2 row.tokens at [])))
    ∙ sym (ap numbers_in (take_more (drop 2 row.tokens) at [] (omega (arith, m, length-drop 2 row.tokens))) ∙ map-append number_in (take at (drop 2 row.tokens)) (get_or (drop 2 row.tokens) at [] ∷ []))

few_taken : (o : Operation) → arity o ≤ 2
few_taken Add = omega arith
few_taken Sub = omega arith
few_taken Neg = omega arith
few_taken Mul = omega arith
few_taken Xor = omega arith
few_taken And = omega arith
few_taken Inv = omega arith
few_taken Eq = omega arith
few_taken Eqw = omega arith

misfit : (o : Operation) (a b : ℕ) → 3 < a + b → (nat_eq a (arity o) && nat_eq b 1) ≡ false
misfit o a b l = elim (cases_Bool (nat_eq a (arity o) && nat_eq b 1)) [
  | inl e ↦ absurd (omega (arith, few_taken o, eqb-true a (arity o) (and_parts (nat_eq a (arity o)) (nat_eq b 1) e).0, eqb-true b 1 (and_parts (nat_eq a (arity o)) (nat_eq b 1) e).1, l))
  | inr e ↦ e
]

too_many : (c : Netlist) (n : ℕ) (o : Operation) (is os : List ℕ) → 3 < length is + length os → next_gate c n o is os ≡ Err (WrongArity n)
unfolding next_gate gate_checks
too_many c n o is os l = simp (misfit o (length is) (length os) l)

pub wrong_arity : (layout : CircuitLayout) (c : Netlist) (row : Row) (form : Form) → Ok form ≡ or_fault (first_fault (form_checks layout row)) (form_of layout row) → 3 < form.wires → gate_in layout c row ≡ Err (WrongArity row.number)
wrong_arity layout c row form f l =
    let k = or_fault-ok (first_fault (form_checks layout row)) (form_of layout row) form f in
    let shape : IsFormed layout row = formed layout row k.0 in
    let wires : (form_of layout row).wires ≡ form.wires = ap (λ (x : Form). x.wires) (sym k.1) in
    let all : length (wires_in row) ≡ (form_of layout row).wires =
    length-map (tokens_after 2 (form_of layout row).wires row) number_in ∙ length-take-le (form_of layout row).wires (drop 2 row.tokens) (omega (arith, length-drop 2 row.tokens, shape.long)) in
    let parts : 3 < length (gate_line_of layout row).inputs + length (gate_line_of layout row).outputs =
    omega (arith, l, wires, all, length-take-le (form_of layout row).inputs (wires_in row) (omega (arith, all)), length-drop (form_of layout row).inputs (wires_in row)) in
    read_so layout c row form row.number (gate_line_of layout row).inputs (gate_line_of layout row).outputs f refl refl refl ∙ too_many c row.number form.operation (gate_line_of layout row).inputs (gate_line_of layout row).outputs parts

-- ---- the next line

pub added_next : (layout : CircuitLayout) (seen : ℕ) (rows rest : List Row) (parsed : ParsedGate) (old new : Draft) (r : Result (Unit {0}) CircuitFault) → IsFirstGate layout rows parsed rest
    → ((k : CircuitLayout) (row : Row) → IsParsedGate k row parsed → AddsGate k row old r new) → AddsNext layout seen rows old r rest new
added_next layout seen rows rest parsed old new (Ok done) says adds = (says.row, says.first, adds layout says.row says.is)
added_next layout seen rows rest parsed old new (Err f) says adds = λ n.
    fails_so f (gate_in layout old.circuit says.row) (gates_in layout (suc n) seen old.circuit rows) (adds layout says.row says.is)
    (λ e. gate_stops layout (suc n) n seen old.circuit rows rest says.row f refl says.first e)
