-- A file stands for a circuit exactly where it has no fault.
use Rattle.std.proofs.Common.{◌≡◌, ℕ, zero, suc, ◌≤◌, ◌<◌, Bool, true, false, not, ◌&&◌, cond, List, [], ◌∷◌, ◌++◌, length, take, nat_eq, nat_lt, None, Ok, refl, sym, ◌∙◌, ap, ap₂, subst, arith, eq-eqb}
use Rattle.std.specs.Str.{IsUtf8, is_utf8}
use Rattle.std.specs.Str.Lossy.{utf8_valid_len, valid_len_up_to}
use Rattle.std.proofs.Math.Seq.{take-length}
use Rattle.std.proofs.lemmas.Bool.{le-ltb, ltb-false, eqb-true, not-false}
use Rattle.std.proofs.lemmas.Str.{utf8_valid_len-IsUtf8, IsUtf8-from_is_utf8}
use Rattle.list_laws.proofs.FirstFaults.{none_failed}
use Rattle.gate_lines.specs.Rows.{Row, rows_of}
use Rattle.circuit_model.specs.Netlists.{Netlist, AllGatesFit, IsCircuit}
use Rattle.list_laws.specs.Checks.{first_fault, then_fault}
use Rattle.circuit_model.specs.DraftSteps.{unset_output}
use Rattle.list_laws.specs.Answers.{◌>>=◌}
use Rattle.circuit_file.specs.Header.{counts_in, widths_in}
use Rattle.circuit_file.specs.CircuitFiles.{next_row, gates_in, ended, no_gates, header_in, lines_in, is_bristol, text_checks, circuit_in}
use Rattle.circuit_file.specs.Grammar.{Write, AreGateLines, StandsFor}
use Rattle.circuit_model.specs.declared.layout.CircuitLayout.{CircuitLayout}
use Rattle.circuit_model.specs.declared.layout.CircuitLayout.TheVariants.{Bristol, Ring}
use Rattle.circuit_file.proofs.PassedChecks.{bind_ok, bind_from, then_ok, ok_same}
use Rattle.circuit_file.proofs.HeaderLaws.{AreCounts, AreWidths, counts_grounded, counts_related, widths_grounded, widths_related}
use Rattle.circuit_file.proofs.WalkLaws.{Walked, walk_grounded, walk_related, fit_on, ended_grounded, ended_related, outputs_set, none_unset}

-- ---- the header

pub row_next : (seen : ℕ) (rows : List Row) (x : Row × List Row) → next_row seen rows ≡ Ok x → rows ≡ x.0 ∷ x.1
row_next seen [] x e = cc
row_next seen (row ∷ rows) x e = ap (λ (p : Row × List Row). p.0 ∷ p.1) (ok_same (row, rows) x e)

pub record IsHeader (bits : ℕ) (rows : List Row) (h : ℕ × Netlist × List Row) : Type 0 where
  pub one : Row
  pub two : Row
  pub three : Row
  pub wires : ℕ
  pub inputs : List ℕ
  pub outputs : List ℕ
  pub lines : rows ≡ one ∷ two ∷ three ∷ h.2
  pub begin : h.1 ≡ no_gates bits wires inputs outputs
  pub counts : AreCounts one (record { gates = h.0; wires = wires })
  pub input_widths : AreWidths wires two inputs
  pub output_widths : AreWidths wires three outputs

pub header_grounded : (bits : ℕ) (rows : List Row) (h : ℕ × Netlist × List Row) → header_in bits rows ≡ Ok h → IsHeader bits rows h
unfolding header_in
header_grounded bits rows h e =
    let a = bind_ok (next_row 0 rows) _ h e in
    let b = bind_ok (counts_in a.0.0) _ h a.2 in
    let c = bind_ok (next_row 1 a.0.1) _ h b.2 in
    let d = bind_ok (widths_in b.0.wires c.0.0) _ h c.2 in
    let f = bind_ok (next_row 2 c.0.1) _ h d.2 in
    let g = bind_ok (widths_in b.0.wires f.0.0) _ h f.2 in
    subst (λ (k : ℕ × Netlist × List Row). IsHeader bits rows k) (ok_same _ h g.2) (record {
      one = a.0.0;
      two = c.0.0;
      three = f.0.0;
      wires = b.0.wires;
      inputs = d.0;
      outputs = g.0;
      lines = row_next 0 rows a.0 a.1 ∙ ap (λ rs. a.0.0 ∷ rs) (row_next 1 a.0.1 c.0 c.1 ∙ ap (λ rs. c.0.0 ∷ rs) (row_next 2 c.0.1 f.0 f.1));
      begin = refl;
      counts = counts_grounded a.0.0 b.0 b.1;
      input_widths = widths_grounded b.0.wires c.0.0 d.0 d.1;
      output_widths = widths_grounded b.0.wires f.0.0 g.0 g.1;
    })

pub header_related : (bits : ℕ) (rows : List Row) (one two three : Row) (rest : List Row) (gates wires : ℕ) (inputs outputs : List ℕ) → rows ≡ one ∷ two ∷ three ∷ rest
    → counts_in one ≡ Ok (record { gates = gates; wires = wires }) → widths_in wires two ≡ Ok inputs → widths_in wires three ≡ Ok outputs → header_in bits rows ≡ Ok (gates, no_gates bits wires inputs outputs, rest)
unfolding header_in
header_related bits rows one two three rest gates wires inputs outputs lines counts ins outs = rw (lines, counts, ins, outs) refl

-- ---- before the lines

up_to_le : (bytes : List ℕ) (n : ℕ) → valid_len_up_to bytes n ≤ n
up_to_le bytes zero = omega arith
up_to_le bytes (suc n) = go (is_utf8 (take (suc n) bytes)) (up_to_le bytes n)
  where
    go : (b : Bool) → valid_len_up_to bytes n ≤ n → cond b (suc n) (valid_len_up_to bytes n) ≤ suc n
    go true l = omega arith
    go false l = omega (arith, l)

text_front : (bytes : List ℕ) (n : ℕ) → n ≤ valid_len_up_to bytes n → IsUtf8 (take n bytes)
text_front bytes zero l = ([], (refl, refl))
text_front bytes (suc n) l = go (is_utf8 (take (suc n) bytes)) refl l
  where
    go : (b : Bool) → is_utf8 (take (suc n) bytes) ≡ b → suc n ≤ cond b (suc n) (valid_len_up_to bytes n) → IsUtf8 (take (suc n) bytes)
    go true e m = IsUtf8-from_is_utf8 (take (suc n) bytes) e
    go false e m = absurd (omega (arith, m, up_to_le bytes n))

pub text_grounded : (bytes : List ℕ) → nat_lt (utf8_valid_len bytes) (length bytes) ≡ false → IsUtf8 bytes
unfolding utf8_valid_len
text_grounded bytes e = subst (λ (bs : List ℕ). IsUtf8 bs) (take-length bytes) (text_front bytes (length bytes) (ltb-false _ _ e))

pub text_related : (bytes : List ℕ) → IsUtf8 bytes → nat_lt (utf8_valid_len bytes) (length bytes) ≡ false
text_related bytes u = le-ltb _ _ (let l : length bytes ≤ utf8_valid_len bytes = omega (arith, utf8_valid_len-IsUtf8 bytes u) in l)

boolean_grounded : (layout : CircuitLayout) (bits : ℕ) → (is_bristol layout && not (nat_eq bits 1)) ≡ false → layout ≡ Bristol → bits ≡ 1
boolean_grounded Bristol bits e is = eqb-true bits 1 (not-false _ e)
boolean_grounded Ring bits e is = cc

boolean_related : (layout : CircuitLayout) (bits : ℕ) → (layout ≡ Bristol → bits ≡ 1) → (is_bristol layout && not (nat_eq bits 1)) ≡ false
boolean_related Bristol bits h = ap not (eq-eqb bits 1 (h refl))
boolean_related Ring bits h = refl

checked : (layout : CircuitLayout) (bits : ℕ) (bytes : List ℕ) → first_fault (text_checks layout bits bytes) ≡ None → (layout ≡ Bristol → bits ≡ 1) × IsUtf8 bytes
unfolding text_checks
checked layout bits bytes e =
    let a = none_failed _ _ _ e in
    let b = none_failed _ _ _ a.1 in
    (boolean_grounded layout bits a.0, text_grounded bytes b.0)

passes : (layout : CircuitLayout) (bits : ℕ) (bytes : List ℕ) → (layout ≡ Bristol → bits ≡ 1) → IsUtf8 bytes → first_fault (text_checks layout bits bytes) ≡ None
unfolding text_checks
passes layout bits bytes h u =
    simp (boolean_related layout bits h, text_related bytes u)

-- ---- the whole file

lines_related : (layout : CircuitLayout) (c : Netlist) (rows : List Row) (one two three : Row) (rest : List Row) → rows ≡ one ∷ two ∷ three ∷ rest
    → Write one.tokens (length c.gates ∷ c.wires ∷ []) → Write two.tokens (length c.inputs ∷ c.inputs) → Write three.tokens (length c.outputs ∷ c.outputs) → AreGateLines layout rest c.gates → IsCircuit c
    → lines_in layout c.bits rows ≡ Ok c
unfolding lines_in
lines_related layout c rows one two three rest lines counts inputs outputs gates v =
    let start : Netlist = no_gates c.bits c.wires c.inputs c.outputs in
    let header : header_in c.bits rows ≡ Ok (length c.gates, start, rest) =
    header_related c.bits rows one two three rest (length c.gates) c.wires c.inputs c.outputs lines
    (counts_related one (length c.gates) c.wires counts v.within.gates v.within.wires)
    (widths_related c.wires two c.inputs inputs v.within.inputs v.within.input_wires)
    (widths_related c.wires three c.outputs outputs v.within.outputs v.within.output_wires) in
    let walk : gates_in layout (length c.gates) 3 start rest ≡ Ok (c, []) = walk_related layout 3 start rest c.gates gates (fit_on c [] c.gates refl v.fits) in
    let last : ended c [] ≡ Ok c = ended_related c (none_unset c v.within.output_wires v.outputs) in
    bind_from (header_in c.bits rows) (λ h. gates_in layout h.0 3 h.1 h.2 >>= (λ read. ended read.0 read.1)) (length c.gates, start, rest) header
    ∙ bind_from (gates_in layout (length c.gates) 3 start rest) (λ read. ended read.0 read.1) (c, []) walk ∙ last

pub file_related : (layout : CircuitLayout) (bits : ℕ) (bytes : List ℕ) (c : Netlist) → StandsFor layout bits bytes c → circuit_in layout bits bytes ≡ Ok c
unfolding circuit_in
file_related layout bits bytes c s =
    ap (λ o. then_fault o (lines_in layout bits (rows_of bytes))) (passes layout bits bytes s.boolean s.text)
    ∙ ap (λ n. lines_in layout n (rows_of bytes)) (sym s.words)
    ∙ lines_related layout c (rows_of bytes) s.one s.two s.three s.rest s.lines s.counts s.inputs s.outputs s.gates s.valid

no_gate_fits : (c : Netlist) → c.gates ≡ [] → AllGatesFit c
no_gate_fits c e = λ t l. absurd (omega (arith, l, ap length e))

stands : (layout : CircuitLayout) (bits : ℕ) (bytes : List ℕ) (h : ℕ × Netlist × List Row) (c : Netlist) → 0 < bits → bits ≤ 64 → (layout ≡ Bristol → bits ≡ 1) → IsUtf8 bytes
    → IsHeader bits (rows_of bytes) h → Walked layout h.0 h.1 h.2 c → unset_output c ≡ None → StandsFor layout bits bytes c
stands layout bits bytes h c some few boolean text i w last =
    let full : Netlist = record { bits = bits; gates = w.gates; wires = i.wires; inputs = i.inputs; outputs = i.outputs } in
    let same : full ≡ c = ap (λ (x : Netlist). record x { gates = x.gates ++ w.gates }) (sym i.begin) ∙ w.whole in
    let unset : unset_output full ≡ None = subst (λ (x : Netlist). unset_output x ≡ None) (sym same) last in
    subst (λ (x : Netlist). StandsFor layout bits bytes x) same (record {
      one = i.one;
      two = i.two;
      three = i.three;
      rest = h.2;
      text = text;
      lines = i.lines;
      counts = subst (λ (n : ℕ). Write i.one.tokens (n ∷ i.wires ∷ [])) (sym w.count) i.counts.written;
      inputs = i.input_widths.written;
      outputs = i.output_widths.written;
      gates = w.lines;
      words = refl;
      boolean = boolean;
      valid = record {
        within = record {
          some_bits = some;
          bits = few;
          gates = subst (λ (n : ℕ). n ≤ 65536) (sym w.count) i.counts.gates;
          wires = i.counts.wires;
          inputs = i.input_widths.few;
          outputs = i.output_widths.few;
          input_wires = i.input_widths.within;
          output_wires = i.output_widths.within;
        };
        fits = subst (λ (x : Netlist). AllGatesFit x) (sym same) w.fits;
        outputs = outputs_set full i.output_widths.within unset;
      };
    })

lines_grounded : (layout : CircuitLayout) (bits : ℕ) (bytes : List ℕ) (c : Netlist) → 0 < bits → bits ≤ 64 → (layout ≡ Bristol → bits ≡ 1) → IsUtf8 bytes → lines_in layout bits (rows_of bytes) ≡ Ok c
    → StandsFor layout bits bytes c
unfolding lines_in
lines_grounded layout bits bytes c some few boolean text e =
    let a = bind_ok (header_in bits (rows_of bytes)) (λ h. gates_in layout h.0 3 h.1 h.2 >>= (λ read. ended read.0 read.1)) c e in
    let i : IsHeader bits (rows_of bytes) a.0 = header_grounded bits (rows_of bytes) a.0 a.1 in
    let b = bind_ok (gates_in layout a.0.0 3 a.0.1 a.0.2) (λ (read : Netlist × List Row). ended read.0 read.1) c a.2 in
    let f = ended_grounded b.0.0 c b.0.1 b.2 in
    let read : gates_in layout a.0.0 3 a.0.1 a.0.2 ≡ Ok (c, []) = b.1 ∙ ap₂ (λ (x : Netlist) (rs : List Row). Ok (x, rs)) f.1 f.0 in
    let w : Walked layout a.0.0 a.0.1 a.0.2 c = walk_grounded layout a.0.0 3 a.0.1 a.0.2 c read (no_gate_fits a.0.1 (ap (λ (x : Netlist). x.gates) i.begin)) in
    stands layout bits bytes a.0 c some few boolean text i w (subst (λ (x : Netlist). unset_output x ≡ None) f.1 f.2)

pub file_grounded : (layout : CircuitLayout) (bits : ℕ) (bytes : List ℕ) (c : Netlist) → 0 < bits → bits ≤ 64 → circuit_in layout bits bytes ≡ Ok c → StandsFor layout bits bytes c
unfolding circuit_in
file_grounded layout bits bytes c some few e =
    let a = then_ok (first_fault (text_checks layout bits bytes)) (lines_in layout bits (rows_of bytes)) c e in
    let k = checked layout bits bytes a.0 in
    lines_grounded layout bits bytes c some few k.0 k.1 a.1
