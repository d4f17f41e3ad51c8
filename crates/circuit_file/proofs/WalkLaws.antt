-- The gate lines of a file, one after another.
use Rattle.std.proofs.Common.{◌≡◌, ℕ, zero, suc, ◌+◌, ◌-◌, ◌≤◌, ◌<◌, Bool, true, false, not, List, [], ◌∷◌, ◌++◌, length, take, get_or, Option, Some, None, Ok, refl, sym, ◌∙◌, ap, subst, arith, append_assoc, append-nil, length-append}
use Rattle.std.specs.Option.{option_map}
use Rattle.std.specs.List.{find, range_with_len}
use Rattle.std.proofs.Math.Seq.{take-append_seam, get_or-append_seam}
use Rattle.std.proofs.lemmas.Bool.{not-false}
use Rattle.gate_lines.specs.Rows.{Row}
use Rattle.circuit_model.specs.declared.gate.Gate.{Gate}
use Rattle.circuit_model.specs.declared.fault.CircuitFault.TheVariants.{OutputNotSet}
use Rattle.circuit_model.specs.Netlists.{Netlist, GateFits, AllGatesFit, no_gate, output_wires, sets}
use Rattle.circuit_model.specs.DraftSteps.{add_gate, unset_output}
use Rattle.circuit_model.proofs.PassedChecks.{next_fits}
use Rattle.circuit_model.proofs.SetWires.{all_fit_next, find_next, none_found}
use Rattle.circuit_file.specs.GateLines.{gate_line_of}
use Rattle.circuit_file.specs.CircuitFiles.{gate_in, gates_in, ended}
use Rattle.circuit_file.specs.Grammar.{AreGateLines}
use Rattle.circuit_model.specs.declared.layout.CircuitLayout.{CircuitLayout}
use Rattle.list_laws.proofs.FirstFaults.{or_fault-ok}
use Rattle.circuit_file.proofs.PassedChecks.{bind_ok, bind_from, ok_same}
use Rattle.circuit_file.proofs.GateLaws.{gate_related, line_grounded}

-- the gates that were read, beyond those of c
pub record Walked (layout : CircuitLayout) (n : ℕ) (c : Netlist) (rows : List Row) (d : Netlist) : Type 0 where
  pub gates : List Gate
  pub whole : record c { gates = c.gates ++ gates } ≡ d
  pub count : length gates ≡ n
  pub lines : AreGateLines layout rows gates
  pub fits : AllGatesFit d

pub walk_grounded : (layout : CircuitLayout) (n seen : ℕ) (c : Netlist) (rows : List Row) (d : Netlist) → gates_in layout n seen c rows ≡ Ok (d, []) → AllGatesFit c → Walked layout n c rows d
unfolding gates_in
walk_grounded layout zero seen c rows d e v =
    let both : (c, rows) ≡ (d, []) = ok_same (c, rows) (d, []) e in
    let same : c ≡ d = ap (λ (p : Netlist × List Row). p.0) both in
    let none : rows ≡ [] = ap (λ (p : Netlist × List Row). p.1) both in
    record {
      gates = [];
      whole = ap (λ gs. record c { gates = gs }) (append-nil c.gates) ∙ same;
      count = refl;
      lines = subst (λ (rs : List Row). AreGateLines layout rs []) (sym none) tt;
      fits = subst (λ (x : Netlist). AllGatesFit x) same v;
    }
walk_grounded layout (suc n) seen c [] d e v = cc
walk_grounded layout (suc n) seen c (row ∷ rows) d e v =
    let b = bind_ok (gate_in layout c row) (λ g. gates_in layout n (seen + 1) (add_gate c g) rows) (d, []) e in
    let g : Gate = b.0 in
    let line = line_grounded layout c row g b.1 in
    let fits : GateFits c c.gates g = next_fits c row.number (gate_line_of layout row).operation (gate_line_of layout row).inputs (gate_line_of layout row).outputs g (sym line.1) in
    let more : Walked layout n (add_gate c g) rows d = walk_grounded layout n (seen + 1) (add_gate c g) rows d b.2 (all_fit_next c g v fits) in
    record {
      gates = g ∷ more.gates;
      whole = sym (ap (λ gs. record c { gates = gs }) (append_assoc c.gates (g ∷ []) more.gates)) ∙ more.whole;
      count = ap suc more.count;
      lines = (line.0, more.lines);
      fits = more.fits;
    }

-- each of the gates fits after those before it
abbrev pub FitOn : Netlist → List Gate → Type 0
FitOn c [] = Unit {0}
FitOn c (g ∷ gs) = GateFits c c.gates g × FitOn (add_gate c g) gs

here : (d : Netlist) (done gs : List Gate) (g : Gate) → d.gates ≡ done ++ (g ∷ gs) → AllGatesFit d → GateFits d done g
here d done gs g e v =
    let fit : GateFits d (take (length done) (done ++ (g ∷ gs))) (get_or (done ++ (g ∷ gs)) (length done) no_gate) =
    subst (λ (xs : List Gate). GateFits d (take (length done) xs) (get_or xs (length done) no_gate)) e
    (v (length done) (omega (arith, ap length e, length-append done (g ∷ gs)))) in
    subst (λ (before : List Gate). GateFits d before g) (take-append_seam done (g ∷ gs))
    (subst (λ (h : Gate). GateFits d (take (length done) (done ++ (g ∷ gs))) h) (get_or-append_seam done g gs no_gate) fit)

moved : (d : Netlist) (done : List Gate) (g : Gate) → GateFits d done g → GateFits (record d { gates = done }) done g
moved d done g f = record { plain = f.plain; constant = f.constant; below = f.below; output = f.output; read = f.read; fresh = f.fresh }

pub fit_on : (d : Netlist) (done gs : List Gate) → d.gates ≡ done ++ gs → AllGatesFit d → FitOn (record d { gates = done }) gs
fit_on d done [] e v = tt
fit_on d done (g ∷ gs) e v = (moved d done g (here d done gs g e v), fit_on d (done ++ (g ∷ [])) gs (e ∙ sym (append_assoc done (g ∷ []) gs)) v)

pub walk_related : (layout : CircuitLayout) (seen : ℕ) (c : Netlist) (rows : List Row) (gs : List Gate) → AreGateLines layout rows gs → FitOn c gs
    → gates_in layout (length gs) seen c rows ≡ Ok (record c { gates = c.gates ++ gs }, [])
unfolding gates_in
walk_related layout seen c [] [] are fit = ap (λ gs. Ok (record c { gates = gs }, [])) (sym (append-nil c.gates))
walk_related layout seen c [] (g ∷ gs) are fit = absurd are
walk_related layout seen c (row ∷ rows) [] are fit = absurd are
walk_related layout seen c (row ∷ rows) (g ∷ gs) are fit =
    bind_from (gate_in layout c row) (λ h. gates_in layout (length gs) (seen + 1) (add_gate c h) rows) g (gate_related layout c row g are.0 fit.0)
    ∙ walk_related layout (seen + 1) (add_gate c g) rows gs are.1 fit.1
    ∙ ap (λ xs. Ok (record c { gates = xs }, [])) (append_assoc c.gates (g ∷ []) gs)

-- ---- the end of a file

no_fault : (o : Option ℕ) → option_map OutputNotSet o ≡ None → o ≡ None
no_fault None e = refl
no_fault (Some w) e = cc

pub ended_grounded : (c d : Netlist) (rows : List Row) → ended c rows ≡ Ok d → (rows ≡ []) × (c ≡ d) × (unset_output c ≡ None)
ended_grounded c d [] e = let k = or_fault-ok _ c d (sym e) in (refl, sym k.1, no_fault (unset_output c) k.0)
ended_grounded c d (row ∷ rows) e = cc

pub ended_related : (c : Netlist) → unset_output c ≡ None → ended c [] ≡ Ok c
ended_related c e = rw e refl

pub outputs_set : (c : Netlist) → output_wires c ≤ c.wires → unset_output c ≡ None → (w : ℕ) → c.wires - output_wires c ≤ w → w < c.wires → sets c w ≡ true
outputs_set c within e w l h = not-false (sets c w) (none_found (λ v. not (sets c v)) (c.wires - output_wires c) (output_wires c) w e l (omega (arith, within, h)))

none_pass : (p : ℕ → Bool) (a n : ℕ) → ((w : ℕ) → a ≤ w → w < a + n → p w ≡ false) → find p (range_with_len a n) ≡ None
none_pass p a zero h = refl
none_pass p a (suc n) h = find_next p a (suc n) n refl (h a (omega arith) (omega arith)) ∙ none_pass p (a + 1) n (λ w l m. h w (omega (arith, l)) (omega (arith, m)))

pub none_unset : (c : Netlist) → output_wires c ≤ c.wires → ((w : ℕ) → c.wires - output_wires c ≤ w → w < c.wires → sets c w ≡ true) → unset_output c ≡ None
none_unset c within h = none_pass (λ w. not (sets c w)) (c.wires - output_wires c) (output_wires c) (λ w l m. ap not (h w l (omega (arith, within, m))))
