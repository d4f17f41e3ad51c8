-- The parts of a reader, step by step.
use Rattle.std.proofs.Common.{◌≡◌, ℕ, suc, ◌+◌, inl, inr, Bool, true, false, not, ◌&&◌, nat_eq, List, [], ◌∷◌, length, take, drop, nat_lt, sum, Option, None, Result, Ok, Err, refl, sym, ◌∙◌, ap, subst}
use Rattle.std.specs.Prelude.{pos, if◌then◌else◌}
use Rattle.std.specs.Option.{is_some}
use Rattle.std.specs.Result.{IsErr, IsErrAnd}
use Rattle.std.proofs.lemmas.Bool.{le-ltb}
use Rattle.std.specs.Str.Lossy.{utf8_valid_len}
use Rattle.gate_lines.specs.Rows.{Row, rows_of}
use Rattle.circuit_model.specs.declared.gate.Gate.{Gate}
use Rattle.circuit_model.specs.declared.gate.Operation.{Operation}
use Rattle.circuit_model.specs.declared.fault.CircuitFault.{CircuitFault}
use Rattle.circuit_model.specs.declared.fault.CircuitFault.TheVariants.{NotUtf8, FewLines, ExtraLine, WrongRing, Memory}
use Rattle.list_laws.specs.Checks.{first_fault, or_fault}
use Rattle.circuit_model.specs.Checks.{Gives}
use Rattle.circuit_model.specs.Netlists.{Netlist}
use Rattle.circuit_model.specs.DraftSteps.{Draft, header_checks, start_of, no_gates_yet, next_gate, add_gate, take_gate, after_gate, answer_of, circuit_of, Becomes}
use Rattle.circuit_file.specs.Tokens.{numbers_in}
use Rattle.circuit_file.specs.Header.{counts_in, widths_in}
use Rattle.circuit_file.specs.GateLines.{form_checks, form_of, gate_line_of, gate_line_in}
use Rattle.circuit_file.specs.CircuitFiles.{next_row, gate_in, gates_in, ended, no_gates, header_in, lines_in, is_bristol, text_checks, circuit_in}
use Rattle.circuit_file.specs.Answers.{Fails}
use Rattle.circuit_file.specs.Steps.{AddsGate, Begins}
use Rattle.circuit_file.specs.declared.header.Counts.{Counts}
use Rattle.circuit_model.specs.declared.layout.CircuitLayout.{CircuitLayout}
use Rattle.circuit_file.specs.declared.gate_line.Form.{Form}
use Rattle.list_laws.proofs.FirstFaults.{or_fault-err, or_fault-ok}
use Rattle.circuit_file.proofs.PassedChecks.{ok_same}
use Rattle.circuit_file.proofs.HeaderLaws.{AreCounts, AreWidths, counts_grounded, widths_grounded}

-- what `?` hands on is the fault that it met
pub sent : {A : Type 0} (P : Result A CircuitFault → Type 0) (r : Result A CircuitFault) (e : CircuitFault) → IsErr r × IsErrAnd r (λ f. f ≡ e) → P (Err e) → P r
sent P (Ok a) e h p = absurd h.1
sent P (Err f) e h p = subst (λ g. P (Err g)) (sym h.1) p

pub fails : {A : Type 0} (f : CircuitFault) (wanted : Result A CircuitFault) → Err f ≡ wanted → Fails f wanted
fails Memory wanted e = tt
fails _ wanted e = e

pub fails_so : {A B : Type 0} (f : CircuitFault) (a : Result A CircuitFault) (b : Result B CircuitFault) → Fails f a → (Err f ≡ a → Err f ≡ b) → Fails f b
fails_so Memory a b g k = tt
fails_so _ a b g k = k g

pub gives_fault : {A : Type 0} (f : CircuitFault) (wanted : Result A CircuitFault) → Fails f wanted → Gives (Err f) wanted
gives_fault Memory wanted g = tt
gives_fault _ wanted g = g

pub gives_same : {A : Type 0} (r wanted : Result A CircuitFault) → r ≡ wanted → Gives r wanted
gives_same (Ok a) wanted e = e
gives_same (Err f) wanted e = gives_fault f wanted (fails f wanted e)

pub gives_along : {A : Type 0} (r a b : Result A CircuitFault) → a ≡ b → Gives r a → Gives r b
gives_along {A = A} r a b e g = subst (λ (x : Result A CircuitFault). Gives r x) e g

-- ---- the header

pub row_ends : (seen : ℕ) (rows : List Row) (f : CircuitFault) → next_row seen rows ≡ Err f → (rows ≡ []) × (FewLines seen ≡ f)
row_ends seen [] f e = (refl, cc)
row_ends seen (row ∷ rows) f e = cc

pub few_1 : (bits : ℕ) (rows : List Row) (f : CircuitFault) → next_row 0 rows ≡ Err f → Err f ≡ header_in bits rows
unfolding header_in
few_1 bits rows f e = let k = row_ends 0 rows f e in sym (rw (k.0, k.1) refl)

pub bad_1 : (bits : ℕ) (rows r : List Row) (one : Row) (f : CircuitFault) → rows ≡ one ∷ r → Err f ≡ counts_in one → Err f ≡ header_in bits rows
unfolding header_in
bad_1 bits rows r one f e c = rw (e, ← c) refl

pub few_2 : (bits : ℕ) (rows r : List Row) (one : Row) (k : Counts) (f : CircuitFault) → rows ≡ one ∷ r → Ok k ≡ counts_in one → next_row 1 r ≡ Err f → Err f ≡ header_in bits rows
unfolding header_in
few_2 bits rows r one k f e c n = let m = row_ends 1 r f n in rw (e ∙ ap (λ rs. one ∷ rs) m.0, ← c, ← m.1) refl

pub bad_2 : (bits : ℕ) (rows r : List Row) (one two : Row) (k : Counts) (f : CircuitFault) → rows ≡ one ∷ two ∷ r → Ok k ≡ counts_in one → Err f ≡ widths_in k.wires two → Err f ≡ header_in bits rows
unfolding header_in
bad_2 bits rows r one two k f e c w = rw (e, ← c, ← w) refl

pub few_3 : (bits : ℕ) (rows r : List Row) (one two : Row) (k : Counts) (is : List ℕ) (f : CircuitFault) → rows ≡ one ∷ two ∷ r → Ok k ≡ counts_in one → Ok is ≡ widths_in k.wires two → next_row 2 r ≡ Err f
    → Err f ≡ header_in bits rows
unfolding header_in
few_3 bits rows r one two k is f e c w n = let m = row_ends 2 r f n in rw (e ∙ ap (λ rs. one ∷ two ∷ rs) m.0, ← c, ← w, ← m.1) refl

pub bad_3 : (bits : ℕ) (rows r : List Row) (one two three : Row) (k : Counts) (is : List ℕ) (f : CircuitFault) → rows ≡ one ∷ two ∷ three ∷ r → Ok k ≡ counts_in one → Ok is ≡ widths_in k.wires two
    → Err f ≡ widths_in k.wires three → Err f ≡ header_in bits rows
unfolding header_in
bad_3 bits rows r one two three k is f e c w v = rw (e, ← c, ← w, ← v) refl

good : (bits : ℕ) (rows r : List Row) (one two three : Row) (k : Counts) (is os : List ℕ) → rows ≡ one ∷ two ∷ three ∷ r → Ok k ≡ counts_in one → Ok is ≡ widths_in k.wires two → Ok os ≡ widths_in k.wires three
    → header_in bits rows ≡ Ok (k.gates, no_gates bits k.wires is os, r)
unfolding header_in
good bits rows r one two three k is os e c w v = rw (e, ← c, ← w, ← v) refl

-- the builder finds nothing wrong with counts and widths that passed
passed : (bits gates wires : ℕ) (is os lines : List ℕ) → nat_lt 65536 gates ≡ false → nat_lt 131072 wires ≡ false → nat_lt 1024 (length is) ≡ false → nat_lt wires (sum is) ≡ false → nat_lt 1024 (length os) ≡ false
    → nat_lt wires (sum os) ≡ false → start_of bits gates wires is os lines ≡ Ok (no_gates_yet bits gates wires is os)
unfolding start_of header_checks
passed bits gates wires is os lines a b c d e f = simp (a, b, c, d, e, f)

started : (bits : ℕ) (one two three : Row) (k : Counts) (is os lines : List ℕ) → Ok k ≡ counts_in one → Ok is ≡ widths_in k.wires two → Ok os ≡ widths_in k.wires three
    → start_of bits k.gates k.wires is os lines ≡ Ok (no_gates_yet bits k.gates k.wires is os)
started bits one two three k is os lines c w v =
    let counts : AreCounts one k = counts_grounded one k (sym c) in
    let ins : AreWidths k.wires two is = widths_grounded k.wires two is (sym w) in
    let outs : AreWidths k.wires three os = widths_grounded k.wires three os (sym v) in
    passed bits k.gates k.wires is os lines (le-ltb _ _ counts.gates) (le-ltb _ _ counts.wires) (le-ltb _ _ ins.few) (le-ltb _ _ ins.within) (le-ltb _ _ outs.few) (le-ltb _ _ outs.within)

pub start_fails : {A : Type 0} (bits : ℕ) (one two three : Row) (k : Counts) (is os lines : List ℕ) (f : CircuitFault) (wanted : Result A CircuitFault) → Ok k ≡ counts_in one → Ok is ≡ widths_in k.wires two
    → Ok os ≡ widths_in k.wires three → Gives (Err f) (start_of bits k.gates k.wires is os lines) → Fails f wanted
start_fails {A = A} bits one two three k is os lines f wanted c w v g = go f (subst (λ (r : Result Draft CircuitFault). Gives (Err f) r) (started bits one two three k is os lines c w v) g)
  where
    go : (f : CircuitFault) → Gives (Err f) (Ok (no_gates_yet bits k.gates k.wires is os)) → Fails f wanted
    go Memory h = tt
    go _ h = cc

pub begun : (bits : ℕ) (rows r : List Row) (one two three : Row) (k : Counts) (is os lines : List ℕ) (b : Draft) → rows ≡ one ∷ two ∷ three ∷ r → Ok k ≡ counts_in one → Ok is ≡ widths_in k.wires two
    → Ok os ≡ widths_in k.wires three → Ok b ≡ start_of bits k.gates k.wires is os lines → Begins bits rows (Ok (k.gates, b)) r
begun bits rows r one two three k is os lines b e c w v s =
    let same : no_gates_yet bits k.gates k.wires is os ≡ b = ok_same _ b (sym (s ∙ started bits one two three k is os lines c w v)) in
    let counts : AreCounts one k = counts_grounded one k (sym c) in
    subst (λ (d : Draft). Begins bits rows (Ok (k.gates, d)) r) same (good bits rows r one two three k is os e c w v, refl, refl, refl, counts.gates)

-- ---- a gate line

pub form_fails : (layout : CircuitLayout) (c : Netlist) (row : Row) (f : CircuitFault) → Err f ≡ or_fault (first_fault (form_checks layout row)) (form_of layout row) → Err f ≡ gate_in layout c row
unfolding gate_line_in
form_fails layout c row f e = rw (or_fault-err (first_fault (form_checks layout row)) (form_of layout row) f e) refl

pub read_so : (layout : CircuitLayout) (c : Netlist) (row : Row) (form : Form) (n : ℕ) (is os : List ℕ) → Ok form ≡ or_fault (first_fault (form_checks layout row)) (form_of layout row)
    → n ≡ row.number → is ≡ (gate_line_of layout row).inputs → os ≡ (gate_line_of layout row).outputs → gate_in layout c row ≡ next_gate c n form.operation is os
unfolding gate_line_in
read_so layout c row form n is os f e i o =
    let k = or_fault-ok (first_fault (form_checks layout row)) (form_of layout row) form f in
    let op : (gate_line_of layout row).operation ≡ form.operation = ap (λ (x : Form). x.operation) (sym k.1) in
    rw (k.0, e, i, o, ← op) refl

added : (layout : CircuitLayout) (row : Row) (old new : Draft) (result : Result (Unit {0}) CircuitFault) (wanted : Result Gate CircuitFault) → gate_in layout old.circuit row ≡ wanted → old.refused ≡ None → result ≡ answer_of new
    → Becomes old (take_gate old wanted) new → AddsGate layout row old result new
added layout row old new result (Ok g) e n a (inl b) =
    let fine : result ≡ Ok tt = a ∙ ap answer_of b ∙ ap (λ (o : Option CircuitFault). or_fault o tt) n in
    subst (λ (r : Result (Unit {0}) CircuitFault). AddsGate layout row old r new) (sym fine) (g, e, b)
added layout row old new result (Err f) e n a (inl b) =
    let bad : result ≡ Err f = a ∙ ap answer_of b in
    subst (λ (r : Result (Unit {0}) CircuitFault). AddsGate layout row old r new) (sym bad) (fails f _ (sym e))
added layout row old new result wanted e n a (inr b) =
    let out : result ≡ Err Memory = a ∙ ap answer_of b.1 in
    subst (λ (r : Result (Unit {0}) CircuitFault). AddsGate layout row old r new) (sym out) tt

abbrev gate_wires : CircuitLayout → Row → List ℕ
gate_wires layout row = numbers_in (take (form_of layout row).wires (drop 2 row.tokens))

going_on : (old new : Draft) (n : ℕ) (o : Operation) (is os : List ℕ) → old.refused ≡ None → Becomes old (after_gate old n o is os) new → Becomes old (take_gate old (next_gate old.circuit n o is os)) new
going_on old new n o is os e b = subst (λ (d : Draft). Becomes old d new) (ap (λ (r : Option CircuitFault). if is_some r then old else take_gate old (next_gate old.circuit n o is os)) e) b

pub gate_added : (layout : CircuitLayout) (row : Row) (old new : Draft) (result : Result (Unit {0}) CircuitFault) (form : Form) (n : ℕ) (found d is os : List ℕ) (ts : List (List ℕ))
    → Ok form ≡ or_fault (first_fault (form_checks layout row)) (form_of layout row) → n ≡ row.number → ts ≡ drop 2 row.tokens → found ≡ numbers_in (take form.wires ts) → d ≡ found
    → is ≡ take form.inputs d → os ≡ drop form.inputs d → old.refused ≡ None → result ≡ answer_of new → Becomes old (after_gate old n form.operation is os) new → AddsGate layout row old result new
gate_added layout row old new result form n found d is os ts f e t w dw i o going a b =
    let k = or_fault-ok (first_fault (form_checks layout row)) (form_of layout row) form f in
    let all : d ≡ numbers_in (take (form_of layout row).wires (drop 2 row.tokens)) =
    dw ∙ w ∙ ap (λ us. numbers_in (take form.wires us)) t ∙ ap (λ (x : Form). numbers_in (take x.wires (drop 2 row.tokens))) k.1 in
    let ins : is ≡ (gate_line_of layout row).inputs = i ∙ ap (λ xs. take form.inputs xs) all ∙ ap (λ (x : Form). take x.inputs (gate_wires layout row)) k.1 in
    let outs : os ≡ (gate_line_of layout row).outputs = o ∙ ap (λ xs. drop form.inputs xs) all ∙ ap (λ (x : Form). drop x.inputs (gate_wires layout row)) k.1 in
    added layout row old new result (next_gate old.circuit n form.operation is os) (read_so layout old.circuit row form n is os f e ins outs) going a
    (going_on old new n form.operation is os going b)

-- ---- the gate lines

pub lines_end : (layout : CircuitLayout) (n m seen : ℕ) (c : Netlist) (rows : List Row) (f : CircuitFault) → n ≡ suc m → next_row seen rows ≡ Err f → Err f ≡ gates_in layout n seen c rows
unfolding gates_in
lines_end layout n m seen c rows f e r = let k = row_ends seen rows f r in rw (e, k.0, ← k.1) refl

pub gate_stops : (layout : CircuitLayout) (n m seen : ℕ) (c : Netlist) (rows rest : List Row) (row : Row) (f : CircuitFault) → n ≡ suc m → rows ≡ row ∷ rest → Err f ≡ gate_in layout c row → Err f ≡ gates_in layout n seen c rows
unfolding gates_in
gate_stops layout n m seen c rows rest row f e r g = rw (e, r, ← g) refl

pub gate_goes : (layout : CircuitLayout) (n m seen : ℕ) (c : Netlist) (rows rest : List Row) (row : Row) (g : Gate) → n ≡ suc m → rows ≡ row ∷ rest → gate_in layout c row ≡ Ok g
    → gates_in layout n seen c rows ≡ gates_in layout m (seen + 1) (add_gate c g) rest
unfolding gates_in
gate_goes layout n m seen c rows rest row g e r h = rw (e, r, h) refl

pub gates_end : (layout : CircuitLayout) (n seen : ℕ) (c : Netlist) (rows : List Row) → n ≡ 0 → gates_in layout n seen c rows ≡ Ok (c, rows)
unfolding gates_in
gates_end layout n seen c rows e = rw e refl

-- ---- the lines, and the whole file

pub lines_fail : (layout : CircuitLayout) (bits : ℕ) (rows : List Row) (f : CircuitFault) → Err f ≡ header_in bits rows → Err f ≡ lines_in layout bits rows
unfolding lines_in
lines_fail layout bits rows f e = rw (← e) refl

pub lines_stop : (layout : CircuitLayout) (bits n : ℕ) (rows rest : List Row) (c : Netlist) (f : CircuitFault) → header_in bits rows ≡ Ok (n, c, rest) → Err f ≡ gates_in layout n 3 c rest → Err f ≡ lines_in layout bits rows
unfolding lines_in
lines_stop layout bits n rows rest c f e g = rw (e, ← g) refl

pub lines_done : (layout : CircuitLayout) (bits n : ℕ) (rows rest last : List Row) (c d : Netlist) → header_in bits rows ≡ Ok (n, c, rest) → gates_in layout n 3 c rest ≡ Ok (d, last) → lines_in layout bits rows ≡ ended d last
unfolding lines_in
lines_done layout bits n rows rest last c d e g = rw (e, g) refl

pub line_left : (d : Netlist) (last more : List Row) (row : Row) → last ≡ row ∷ more → ended d last ≡ Err (ExtraLine row.number)
line_left d last more row e = rw e refl

pub finished : (b : Draft) (r : Result Netlist CircuitFault) → r ≡ circuit_of b → b.refused ≡ None → r ≡ ended b.circuit []
unfolding circuit_of
finished b r e n = e ∙ rw n refl

pub ring_refused : (layout : CircuitLayout) (bits : ℕ) (bytes : List ℕ) → (is_bristol layout && not (nat_eq bits 1)) ≡ true → Err (WrongRing (pos bits)) ≡ circuit_in layout bits bytes
unfolding circuit_in text_checks
ring_refused layout bits bytes e = rw e refl

pub text_refused : (layout : CircuitLayout) (bits : ℕ) (bytes : List ℕ) → (is_bristol layout && not (nat_eq bits 1)) ≡ false → nat_lt (utf8_valid_len bytes) (length bytes) ≡ true → Err (NotUtf8 (utf8_valid_len bytes)) ≡ circuit_in layout bits bytes
unfolding circuit_in text_checks
text_refused layout bits bytes e u = rw (e, u) refl

pub text_read : (layout : CircuitLayout) (bits : ℕ) (bytes : List ℕ) → (is_bristol layout && not (nat_eq bits 1)) ≡ false → nat_lt (utf8_valid_len bytes) (length bytes) ≡ false → lines_in layout bits (rows_of bytes) ≡ circuit_in layout bits bytes
unfolding circuit_in text_checks
text_read layout bits bytes e u = sym (rw (e, u) refl)

abbrev pub ring_answer : CircuitLayout → ℕ → Result (Unit {0}) CircuitFault
ring_answer layout bits = if is_bristol layout && not (nat_eq bits 1) then Err (WrongRing (pos bits)) else Ok tt

pub chosen : (b : Bool) (z f : CircuitFault) → ◌≡◌ {A = Result (Unit {0}) CircuitFault} (Err f) (if b then Err z else Ok tt) → (b ≡ true) × (f ≡ z)
chosen true z f e = (refl, cc)
chosen false z f e = cc

not_chosen : (b : Bool) (z : CircuitFault) (x : Unit {0}) → ◌≡◌ {A = Result (Unit {0}) CircuitFault} (Ok x) (if b then Err z else Ok tt) → b ≡ false
not_chosen true z x e = cc
not_chosen false z x e = refl

pub ring_stops : (layout : CircuitLayout) (bits : ℕ) (bytes : List ℕ) (f : CircuitFault) → Err f ≡ ring_answer layout bits → Err f ≡ circuit_in layout bits bytes
ring_stops layout bits bytes f e = let k = chosen (is_bristol layout && not (nat_eq bits 1)) (WrongRing (pos bits)) f e in ap Err k.1 ∙ ring_refused layout bits bytes k.0

pub ring_passes : (layout : CircuitLayout) (bits : ℕ) (x : Unit {0}) → Ok x ≡ ring_answer layout bits → (is_bristol layout && not (nat_eq bits 1)) ≡ false
ring_passes layout bits x e = not_chosen (is_bristol layout && not (nat_eq bits 1)) (WrongRing (pos bits)) x e
