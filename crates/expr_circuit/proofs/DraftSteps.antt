-- The steps of adding a line to a draft.
use Rattle.std.proofs.Common.{◌≡◌, ℕ, ◌+◌, true, false, cond, List, [], ◌∷◌, ◌++◌, Option, Some, None, Result, Ok, Err, sym, ◌∙◌, ap, subst}
use Rattle.std.specs.Option.{is_some}
use Rattle.expr_circuit.specs.declared.fault.ExprFault.{ExprFault}
use Rattle.expr_circuit.specs.declared.fault.ExprFault.TheVariants.{NotUtf8, Syntax, UnknownName, BadConstant, TooDeep, TwiceNamed, TooLarge, Memory}
use Rattle.expr_circuit.specs.declared.names.NamedWires.{NamedWires}
use Rattle.expr_circuit.specs.declared.draft.Draft.{Draft as DraftKept}
use Rattle.line_grammar.specs.declared.dialect.Dialect.TheVariants.{Words}
use Rattle.line_grammar.specs.declared.element.ExprElement.{ExprElement}
use Rattle.line_grammar.specs.declared.element.Head.{Head}
use Rattle.line_grammar.specs.declared.fault.LineFault.{LineFault}
use Rattle.line_grammar.specs.declared.fault.LineFault.TheVariants as parts
use Rattle.line_grammar.specs.Laws.{IsRead, Refuses}
use Rattle.line_grammar.specs.LineFaults.{IsLineFault}
use Rattle.line_grammar.specs.Machine.{State}
use Rattle.line_grammar.specs.Scanned.{read_kept}
use Rattle.line_grammar.proofs.Scans.{read_found, fault_found}
use Rattle.std.specs.Prelude.{reverse}
use Rattle.expr_circuit.specs.declared.wire.Wire.{Wire}
use Rattle.expr_circuit.specs.declared.wire.Wire.TheVariants as wires
use Rattle.expr_circuit.specs.Programs.{bind}
use Rattle.expr_circuit.specs.Circuits.{Built, Draft}
use Rattle.expr_circuit.specs.Walks.{expression_in, bind_in, input_in, define_in, output_in, with_gates, read_in, read_line, on_line, line_in}
use Rattle.list_laws.specs.Answers.{◌>>=◌}
use Rattle.expr_circuit.specs.Kept.{Kept, kept, Fails, OrMemory, Expresses}
use Rattle.expr_circuit.specs.Named.{AreNames, Binds}
use Rattle.expr_circuit.specs.Keeps.{Becomes}
use Rattle.std.specs.Prelude.{MatchResult}
use Rattle.expr_circuit.specs.Faults.{of_line}
use Rattle.expr_circuit.proofs.LineWalks.{line_read}
use Rattle.expr_circuit.proofs.GateSteps.{fails_on, fails_then, memory_fails}

twice_fails : (d : Draft) (n : ℕ) (x : List ℕ) (w : Wire) (f : ExprFault) → is_some (d.of x) ≡ true → f ≡ TwiceNamed n → bind_in d n x w ≡ Err f
twice_fails d n x w f some e = ap (λ b. cond b (Err (TwiceNamed n)) (Ok (record d { of = bind d.of x (Some w) }))) some ∙ ap Err (sym e)

bind_fails : (d : Draft) (n : ℕ) (x : List ℕ) (w : Wire) (new : NamedWires) (f : ExprFault) → Binds {A = Unit {0}} d.of n x w (Err f) new → Fails f (bind_in d n x w)
bind_fails d n x w new Memory h = tt
bind_fails d n x w new (NotUtf8 at) h = twice_fails d n x w (NotUtf8 at) h.0 h.1
bind_fails d n x w new (Syntax line at) h = twice_fails d n x w (Syntax line at) h.0 h.1
bind_fails d n x w new (UnknownName line at) h = twice_fails d n x w (UnknownName line at) h.0 h.1
bind_fails d n x w new (BadConstant line at) h = twice_fails d n x w (BadConstant line at) h.0 h.1
bind_fails d n x w new (TooDeep line at) h = twice_fails d n x w (TooDeep line at) h.0 h.1
bind_fails d n x w new (TwiceNamed line) h = twice_fails d n x w (TwiceNamed line) h.0 h.1
bind_fails d n x w new TooLarge h = twice_fails d n x w TooLarge h.0 h.1

bind_done : (d : Draft) (n : ℕ) (x : List ℕ) (w : Wire) → is_some (d.of x) ≡ false → bind_in d n x w ≡ Ok (record d { of = bind d.of x (Some w) })
bind_done d n x w none = ap (λ b. cond b (Err (TwiceNamed n)) (Ok (record d { of = bind d.of x (Some w) }))) none

-- a name for an input
pub input_becomes : (d : Draft) (n : ℕ) (x : List ℕ) (w : Wire) (names : NamedWires) (old gates : Kept) (bound r : Result (Unit {0}) ExprFault) → w ≡ wires.Input old.inputs → old ≡ kept d → bound ≡ Ok tt → Binds d.of n x w bound names
    → OrMemory r (gates ≡ record old { inputs = old.inputs + 1 }) → Becomes r (record { names = names; gates = gates }) (input_in d n x)
input_becomes d n x w names old gates (Err f) r wire is e b h = cc
input_becomes d n x w names old gates (Ok u) (Err f) wire is e b h = memory_fails f (input_in d n x) h
input_becomes d n x w names old gates (Ok u) (Ok v) wire is e b h =
    let i : Wire = wires.Input d.inputs in
    let same : w ≡ i = wire ∙ ap (λ (k : Kept). wires.Input k.inputs) is in (
      record d { of = bind d.of x (Some i); inputs = d.inputs + 1 },
      ap (λ r. r >>= (λ (e : Draft). Ok (record e { inputs = e.inputs + 1 }))) (bind_done d n x i b.0),
      (
        subst (λ (y : Wire). AreNames names (bind d.of x (Some y))) same b.1,
        h ∙ ap (λ (k : Kept). record k { inputs = k.inputs + 1 }) is,
      ),
    )

pub input_fails : (d : Draft) (n : ℕ) (x : List ℕ) (w : Wire) (names : NamedWires) (old : Kept) (bound : Result (Unit {0}) ExprFault) (f : ExprFault) → w ≡ wires.Input old.inputs → old ≡ kept d → bound ≡ Err f → Binds d.of n x w bound names → Fails f (input_in d n x)
input_fails d n x w names old (Ok u) f wire is e b = cc
input_fails d n x w names old (Err g) f wire is e b =
    let i : Wire = wires.Input d.inputs in
    let same : w ≡ i = wire ∙ ap (λ (k : Kept). wires.Input k.inputs) is in
    subst (λ k. Fails k (input_in d n x)) (let s : g ≡ f = cc in s)
    (fails_then g (bind_in d n x i) (λ (e : Draft). Ok (record e { inputs = e.inputs + 1 })) (bind_fails d n x i names g (subst (λ (y : Wire). Binds {A = Unit {0}} d.of n x y (Err g) names) same b)))

-- a name for an expression
pub define_becomes : (q : ℕ) (d : Draft) (n : ℕ) (line x : List ℕ) (elements : List ExprElement) (wire : Wire) (names : NamedWires) (gates : Kept) (built : Result Wire ExprFault) (r : Result (Unit {0}) ExprFault) → built ≡ Ok wire
    → Expresses d built gates (expression_in q d n line elements) → Binds d.of n x wire r names → Becomes r (record { names = names; gates = gates }) (define_in q d n line x elements)
define_becomes q d n line x elements wire names gates (Err f) r e h b = cc
define_becomes q d n line x elements wire names gates (Ok w) (Ok u) e h b =
    let same : wire ≡ h.0.wire = (let s : wire ≡ w = cc in s) ∙ h.2 in (
      record (with_gates d h.0) { of = bind d.of x (Some h.0.wire) },
      ap (λ r. r >>= (λ (c : Built). bind_in (with_gates d c) n x c.wire)) h.1 ∙ bind_done (with_gates d h.0) n x h.0.wire b.0,
      (subst (λ (y : Wire). AreNames names (bind d.of x (Some y))) same b.1, h.3),
    )
define_becomes q d n line x elements wire names gates (Ok w) (Err f) e h b =
    let same : wire ≡ h.0.wire = (let s : wire ≡ w = cc in s) ∙ h.2 in
    fails_on f (bind_in (with_gates d h.0) n x h.0.wire) (define_in q d n line x elements) (λ g y. ap (λ r. r >>= (λ (c : Built). bind_in (with_gates d c) n x c.wire)) h.1 ∙ y)
    (bind_fails (with_gates d h.0) n x h.0.wire names f (subst (λ (y : Wire). Binds {A = Unit {0}} d.of n x y (Err f) names) same b))

pub define_fails : (q : ℕ) (d : Draft) (n : ℕ) (line x : List ℕ) (elements : List ExprElement) (gates : Kept) (built : Result Wire ExprFault) (f : ExprFault) → built ≡ Err f → Expresses d built gates (expression_in q d n line elements) → Fails f (define_in q d n line x elements)
define_fails q d n line x elements gates (Ok w) f e h = cc
define_fails q d n line x elements gates (Err g) f e h =
    subst (λ k. Fails k (define_in q d n line x elements)) (let s : g ≡ f = cc in s) (fails_then g (expression_in q d n line elements) (λ (c : Built). bind_in (with_gates d c) n x c.wire) h)

-- an output
pub output_becomes : (q : ℕ) (d : Draft) (n : ℕ) (line : List ℕ) (elements : List ExprElement) (wire : Wire) (names : NamedWires) (gates new : Kept) (built : Result Wire ExprFault) (r : Result (Unit {0}) ExprFault) → built ≡ Ok wire → AreNames names d.of
    → Expresses d built gates (expression_in q d n line elements) → ((e : Draft) → gates ≡ kept e → OrMemory r (new ≡ kept (record e { outputs = e.outputs ++ (wire ∷ []) }))) → Becomes r (record { names = names; gates = new }) (output_in q d n line elements)
output_becomes q d n line elements wire names gates new (Err f) r e are h o = cc
output_becomes q d n line elements wire names gates new (Ok w) (Ok u) e are h o =
    let same : wire ≡ h.0.wire = (let s : wire ≡ w = cc in s) ∙ h.2 in (
      record d { gates = h.0.gates; outputs = d.outputs ++ (h.0.wire ∷ []) },
      ap (λ r. r >>= (λ (c : Built). Ok (record d { gates = c.gates; outputs = d.outputs ++ (c.wire ∷ []) }))) h.1,
      (are, o (record d { gates = h.0.gates }) h.3 ∙ ap (λ y. kept (record d { gates = h.0.gates; outputs = d.outputs ++ (y ∷ []) })) same),
    )
output_becomes q d n line elements wire names gates new (Ok w) (Err f) e are h o = memory_fails f (output_in q d n line elements) (o (record d { gates = h.0.gates }) h.3)

pub output_fails : (q : ℕ) (d : Draft) (n : ℕ) (line : List ℕ) (elements : List ExprElement) (gates : Kept) (built : Result Wire ExprFault) (f : ExprFault) → built ≡ Err f → Expresses d built gates (expression_in q d n line elements) → Fails f (output_in q d n line elements)
output_fails q d n line elements gates (Ok w) f e h = cc
output_fails q d n line elements gates (Err g) f e h =
    subst (λ k. Fails k (output_in q d n line elements)) (let s : g ≡ f = cc in s) (fails_then g (expression_in q d n line elements) (λ (c : Built). Ok (record d { gates = c.gates; outputs = d.outputs ++ (c.wire ∷ []) })) h)

-- what the grammar answers
abbrev pub IsParsed : List ℕ → State → Result (Option Head) LineFault → Type 0
IsParsed text s r = MatchResult r (λ head. IsRead Words text (read_kept s head)) (Refuses Words text)

-- a line that was read
pub line_some : (q : ℕ) (d : Draft) (n : ℕ) (text : List ℕ) (s : State) (elements : List ExprElement) (r : Result (Option Head) LineFault) (head : Head) → r ≡ Ok (Some head) → elements ≡ reverse s.out → IsParsed text s r → line_in q d n text ≡ read_in q d n text head elements
line_some q d n text s elements r head e is h =
    line_read q d n text (read_kept s (Some head)) (read_found Words text (read_kept s (Some head)) (subst (IsParsed text s) e h)) ∙ ap (read_in q d n text head) (sym is)

pub line_none : (q : ℕ) (d : Draft) (n : ℕ) (text : List ℕ) (s : State) (r : Result (Option Head) LineFault) → r ≡ Ok None → IsParsed text s r → line_in q d n text ≡ Ok d
line_none q d n text s r e h = line_read q d n text None (read_found Words text None (subst (IsParsed text s) e h))

refused : (q : ℕ) (d : Draft) (n : ℕ) (text : List ℕ) (f : LineFault) → IsLineFault Words text f → line_in q d n text ≡ Err (of_line n f)
unfolding line_in
refused q d n text f h = ap (λ r. on_line n r >>= read_line q d n text) (fault_found Words text f h)

stops : (q : ℕ) (d : Draft) (n : ℕ) (text : List ℕ) (f : LineFault) → Refuses Words text f → Fails (of_line n f) (line_in q d n text)
stops q d n text parts.Memory h = tt
stops q d n text (parts.Syntax at) h = refused q d n text (parts.Syntax at) h
stops q d n text (parts.TooDeep at) h = refused q d n text (parts.TooDeep at) h

pub line_stops : (q : ℕ) (d : Draft) (n : ℕ) (text : List ℕ) (s : State) (r : Result (Option Head) LineFault) (f : LineFault) (told : ExprFault) → told ≡ of_line n f → r ≡ Err f → IsParsed text s r → Fails told (line_in q d n text)
line_stops q d n text s r f told is e h = subst (λ (g : ExprFault). Fails g (line_in q d n text)) (sym is) (stops q d n text f (subst (IsParsed text s) e h))

-- the same, for a draft that is wanted by another name
pub becomes_same : {A : Type 0} (r : Result A ExprFault) (new : DraftKept) (x y : Result Draft ExprFault) → y ≡ x → Becomes r new x → Becomes r new y
becomes_same r new x y e h = subst (λ z. Becomes r new z) (sym e) h
