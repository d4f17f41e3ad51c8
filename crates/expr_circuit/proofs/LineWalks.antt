-- What the compiler makes of a line is what the line says.
use Rattle.std.proofs.Common.{◌≡◌, ℕ, ◌+◌, ◌⊎◌, inl, inr, Bool, true, false, cond, nat_lt, List, [], ◌∷◌, ◌++◌, Option, Some, None, Result, Ok, Err, refl, sym, ◌∙◌, ap, subst}
use Rattle.std.specs.Prelude.{is_some, unwrap_or}
use Rattle.std.specs.Option.{option_or}
use Rattle.list_laws.specs.Checks.{then_fault}
use Rattle.list_laws.specs.Answers.{◌>>=◌}
use Rattle.circuit_model.specs.declared.gate.Operation.TheVariants.{Eq}
use Rattle.line_grammar.specs.declared.dialect.Dialect.TheVariants.{Words}
use Rattle.line_grammar.specs.declared.fault.LineFault.{LineFault}
use Rattle.line_grammar.specs.declared.element.ExprElement.{ExprElement}
use Rattle.line_grammar.specs.declared.element.ExprElement.TheVariants as elements
use Rattle.line_grammar.specs.declared.operator.Infix.{Infix}
use Rattle.line_grammar.specs.declared.operator.Infix.TheVariants as infixes
use Rattle.line_grammar.specs.Dialects.{has_infix}
use Rattle.line_grammar.specs.Grammar.{Expr, LineForm, IsExpr, IsLine, Line}
use Rattle.line_grammar.specs.Grammar.Expr.{number, named, grouped, paired, prefixed, infixed, chosen}
use Rattle.line_grammar.specs.Grammar.LineForm.{input_line, wide_input_line, let_line, output_line}
use Rattle.line_grammar.specs.LineFaults.{shallow}
use Rattle.line_grammar.specs.Machine.{Read}
use Rattle.line_grammar.specs.Postfix.{post, read_of}
use Rattle.line_grammar.specs.Scanned.{parse_in}
use Rattle.line_grammar.proofs.Scans.{Parsed, parsed, read_found, fault_found as line_fault_found}
use Rattle.expr_circuit.specs.declared.wire.Wire.{Wire}
use Rattle.expr_circuit.specs.declared.wire.Wire.TheVariants as wires
use Rattle.expr_circuit.specs.declared.fault.ExprFault.{ExprFault}
use Rattle.expr_circuit.specs.declared.fault.ExprFault.TheVariants.{UnknownName, BadConstant, TwiceNamed}
use Rattle.expr_circuit.specs.Programs.{Term, Statement, bind, operation, term, statement}
use Rattle.line_grammar.specs.Places.{name_at, number_at}
use Rattle.expr_circuit.specs.Programs.Statement.{input, define, output}
use Rattle.expr_circuit.specs.Faults.{bad, bad_line, twice, knows, Says, Parses, IsBlank, FaultOfLine, AreLines, IsFaultIn}
use Rattle.expr_circuit.specs.Faults.FaultOfLine.{token_fault, name_fault}
use Rattle.expr_circuit.specs.Circuits.{Built, Draft, no_wire, add, build, after_statement, after_statements}
use Rattle.expr_circuit.specs.Walks.{Walk, put, top, named_wire, operator, operation_of, elements_in, expression_in, bind_in, input_in, with_gates, read_line, on_line, line_in, lines_in}
use Rattle.expr_circuit.proofs.Wires.{Tells, bind_tells}

-- the wire of a term that was built
abbrev built : (List ℕ → Option Wire) → Walk → Term → Walk
built of w t = put (build of w.gates t) w.wires

one_then : {A : Type 0} (x y : Option ExprFault) (r : Result A ExprFault) → then_fault x (then_fault y r) ≡ then_fault (option_or x y) r
one_then None y r = refl
one_then (Some f) y r = refl

named_case : (n at : ℕ) (w : Walk) (o : Option Wire) (b : Bool) (k : Walk → Result Walk ExprFault) → b ≡ is_some o
    → (named_wire n at o >>= (λ wire. Ok (put (record { gates = w.gates; wire = wire }) w.wires))) >>= k ≡ then_fault (cond b None (Some (UnknownName n at))) (k (put (record { gates = w.gates; wire = unwrap_or o no_wire }) w.wires))
named_case n at w None b k e = ap (λ x. then_fault (cond x None (Some (UnknownName n at))) (k (put (record { gates = w.gates; wire = no_wire }) w.wires))) (sym e)
named_case n at w (Some wire) b k e = ap (λ x. then_fault (cond x None (Some (UnknownName n at))) (k (put (record { gates = w.gates; wire = wire }) w.wires))) (sym e)

number_case : (n at : ℕ) (w : Walk) (b : Bool) (k : Walk → Result Walk ExprFault) → cond b (Ok w) (Err (BadConstant n at)) >>= k ≡ then_fault (cond b None (Some (BadConstant n at))) (k w)
number_case n at w true k = refl
number_case n at w false k = refl

-- the gate of an operator stands behind its operands
operated : (of : List ℕ → Option Wire) (w : Walk) (o : Infix) (s t : Term) → has_infix Words o ≡ true → operator (built of (built of w s) t) (operation_of o) ≡ built of w (operation o s t)
operated of w infixes.Add s t has = refl
operated of w infixes.Subtract s t has = refl
operated of w infixes.Multiply s t has = refl
operated of w _ s t has = cc

walk_expr : (q : ℕ) (known : List ℕ → Bool) (of : List ℕ → Option Wire) (n : ℕ) (line : List ℕ) → Tells known of → (m : ℕ) (e : Expr) → IsExpr Words shallow m e → (rest : List ExprElement) (w : Walk)
    → elements_in q of n line (post e rest) w ≡ then_fault (bad q known line n e) (elements_in q of n line rest (built of w (term line e)))
walk_expr q known of n line tells m (number at) is rest w = number_case n at (put (add w.gates Eq no_wire no_wire (number_at line at)) w.wires) (nat_lt (number_at line at) q) (elements_in q of n line rest)
walk_expr q known of n line tells m (named at) is rest w = named_case n at w (of (name_at line at)) (known (name_at line at)) (elements_in q of n line rest) (tells (name_at line at))
walk_expr q known of n line tells m (grouped e) is rest w = walk_expr q known of n line tells (m + 1) e is.1 rest w
walk_expr q known of n line tells m (prefixed x at e) is rest w = walk_expr q known of n line tells (m + 1) e is.3 (elements.Prefix x ∷ rest) w
walk_expr q known of n line tells m (infixed o at a b) is rest w =
    walk_expr q known of n line tells m a is.3 (post b (elements.Infix o at ∷ rest)) w
    ∙ ap (then_fault (bad q known line n a)) (walk_expr q known of n line tells m b is.4 (elements.Infix o at ∷ rest) (built of w (term line a)))
    ∙ one_then (bad q known line n a) (bad q known line n b) (elements_in q of n line rest (operator (built of (built of w (term line a)) (term line b)) (operation_of o)))
    ∙ ap (λ v. then_fault (bad q known line n (infixed o at a b)) (elements_in q of n line rest v)) (operated of w o (term line a) (term line b) is.0)
walk_expr q known of n line tells m (paired p a b) is rest w = let no : false ≡ true = is.0 in cc
walk_expr q known of n line tells m (chosen c a b) is rest w = let no : false ≡ true = is.0 in cc

after_fault : {A B : Type 0} (x : Option ExprFault) (a : A) (k : A → Result B ExprFault) → then_fault x (Ok a) >>= k ≡ then_fault x (k a)
after_fault None a k = refl
after_fault (Some f) a k = refl

-- the gates and the wire of an expression, or its first fault
expression_is : (q : ℕ) (known : List ℕ → Bool) (d : Draft) (n : ℕ) (line : List ℕ) (e : Expr) → IsExpr Words shallow 0 e → Tells known d.of → expression_in q d n line (post e []) ≡ then_fault (bad q known line n e) (Ok (build d.of d.gates (term line e)))
unfolding expression_in
expression_is q known d n line e is tells =
    ap (λ r. r >>= (λ w. Ok (record { gates = w.gates; wire = top w.wires }))) (walk_expr q known d.of n line tells 0 e is [] (record { gates = d.gates; wires = [] }))
    ∙ after_fault (bad q known line n e) (built d.of (record { gates = d.gates; wires = [] }) (term line e)) (λ w. Ok (record { gates = w.gates; wire = top w.wires }))

bound : (d : Draft) (n : ℕ) (x : List ℕ) (w : Wire) (b : Bool) → b ≡ is_some (d.of x) → bind_in d n x w ≡ then_fault (cond b (Some (TwiceNamed n)) None) (Ok (record d { of = bind d.of x (Some w) }))
bound d n x w b e = ap (λ c. cond c (Err (TwiceNamed n)) (Ok (record d { of = bind d.of x (Some w) }))) (sym e) ∙ go b
  where
    go : (b : Bool) → cond b (Err (TwiceNamed n)) (Ok (record d { of = bind d.of x (Some w) })) ≡ then_fault (cond b (Some (TwiceNamed n)) None) (Ok (record d { of = bind d.of x (Some w) }))
    go true = refl
    go false = refl

-- an input
input_read : (known : List ℕ → Bool) (d : Draft) (n : ℕ) (line : List ℕ) (x : ℕ) → Tells known d.of → input_in d n (name_at line x) ≡ then_fault (twice known line n x) (Ok (after_statement d (input (name_at line x))))
input_read known d n line x tells =
    let next : Draft = record d { of = bind d.of (name_at line x) (Some (wires.Input d.inputs)) } in
    ap (λ r. r >>= (λ (e : Draft). Ok (record e { inputs = e.inputs + 1 }))) (bound d n (name_at line x) (wires.Input d.inputs) (known (name_at line x)) (tells (name_at line x)))
    ∙ after_fault (twice known line n x) next (λ (e : Draft). Ok (record e { inputs = e.inputs + 1 }))

-- what a line of the grammar makes of a draft, or its first fault
read_is : (q : ℕ) (known : List ℕ → Bool) (d : Draft) (n : ℕ) (line : List ℕ) (l : LineForm) → IsLine Words shallow l → Tells known d.of → read_line q d n line (Some (read_of l)) ≡ then_fault (bad_line q known line n l) (Ok (after_statement d (statement line l)))
read_is q known d n line (input_line x) is tells = input_read known d n line x tells
read_is q known d n line (wide_input_line x w) is tells = input_read known d n line x tells
read_is q known d n line (let_line x e) is tells =
    let b : Built = build d.of d.gates (term line e) in
    ap (λ r. r >>= (λ (b : Built). bind_in (with_gates d b) n (name_at line x) b.wire)) (expression_is q known d n line e is tells)
    ∙ after_fault (bad q known line n e) b (λ (b : Built). bind_in (with_gates d b) n (name_at line x) b.wire)
    ∙ ap (then_fault (bad q known line n e)) (bound (with_gates d b) n (name_at line x) b.wire (known (name_at line x)) (tells (name_at line x)))
    ∙ one_then (bad q known line n e) (twice known line n x) (Ok (after_statement d (define (name_at line x) (term line e))))
read_is q known d n line (output_line e) is tells =
    let b : Built = build d.of d.gates (term line e) in
    ap (λ r. r >>= (λ (b : Built). Ok (record d { gates = b.gates; outputs = d.outputs ++ (b.wire ∷ []) }))) (expression_is q known d n line e is tells)
    ∙ after_fault (bad q known line n e) b (λ (b : Built). Ok (record d { gates = b.gates; outputs = d.outputs ++ (b.wire ∷ []) }))

-- what stands in line n, by what the compiler answers
abbrev pub Lined : ℕ → (List ℕ → Bool) → Draft → ℕ → List ℕ → Result Draft ExprFault → Type 0
Lined q known d n line (Ok e) = (IsBlank line × (e ≡ d)) ⊎ ((s : Statement) × Says q known line n s × (e ≡ after_statement d s))
Lined q known d n line (Err f) = FaultOfLine q known line n f

read_lined : (q : ℕ) (known : List ℕ → Bool) (d : Draft) (n : ℕ) (line : List ℕ) (l : Line Words shallow) → Parses line l → (o : Option ExprFault) → bad_line q known line n l.form ≡ o → Lined q known d n line (then_fault o (Ok (after_statement d (statement line l.form))))
read_lined q known d n line l h None e = inr (statement line l.form, record { form = l; parsed = h; good = e; meant = refl }, refl)
read_lined q known d n line l h (Some f) e = name_fault l h e

lined_by : (q : ℕ) (known : List ℕ → Bool) (d : Draft) (n : ℕ) (line : List ℕ) → Tells known d.of → (r : Result (Option Read) LineFault) → Parsed Words line r → Lined q known d n line (on_line n r >>= read_line q d n line)
lined_by q known d n line tells (Ok None) h = inl (h, refl)
lined_by q known d n line tells (Ok (Some r)) h =
    let l : Line Words shallow = h.0 in
    subst (Lined q known d n line) (sym (ap (λ x. read_line q d n line (Some x)) h.2 ∙ read_is q known d n line l.form l.is tells)) (read_lined q known d n line l h.1 (bad_line q known line n l.form) refl)
lined_by q known d n line tells (Err f) h = token_fault f refl h

pub lined : (q : ℕ) (known : List ℕ → Bool) (d : Draft) (n : ℕ) (line : List ℕ) → Tells known d.of → Lined q known d n line (line_in q d n line)
unfolding line_in
lined q known d n line tells = lined_by q known d n line tells (parse_in Words line) (parsed Words line)

-- the answer for what the grammar has read
pub line_read : (q : ℕ) (d : Draft) (n : ℕ) (line : List ℕ) (found : Option Read) → parse_in Words line ≡ Ok found → line_in q d n line ≡ read_line q d n line found
unfolding line_in
line_read q d n line found e = ap (λ r. on_line n r >>= read_line q d n line) e

-- the answer for a line of the grammar
form_found : (q : ℕ) (known : List ℕ → Bool) (d : Draft) (n : ℕ) (line : List ℕ) (l : Line Words shallow) → Tells known d.of → Parses line l → line_in q d n line ≡ then_fault (bad_line q known line n l.form) (Ok (after_statement d (statement line l.form)))
form_found q known d n line l tells h = line_read q d n line (Some (read_of l.form)) (read_found Words line (Some (read_of l.form)) (l, h, refl)) ∙ read_is q known d n line l.form l.is tells

-- the answer for a line that says a statement
said_found : (q : ℕ) (known : List ℕ → Bool) (d : Draft) (n : ℕ) (line : List ℕ) (s : Statement) → Tells known d.of → Says q known line n s → line_in q d n line ≡ Ok (after_statement d s)
said_found q known d n line s tells h =
    form_found q known d n line h.form tells h.parsed
    ∙ ap (λ o. then_fault o (Ok (after_statement d (statement line h.form.form)))) h.good
    ∙ ap (λ t. Ok (after_statement d t)) (sym h.meant)

pub blank_line : (q : ℕ) (d : Draft) (n : ℕ) (line : List ℕ) → IsBlank line → line_in q d n line ≡ Ok d
blank_line q d n line h = line_read q d n line None (read_found Words line None h)

-- the answer for a line that has a fault
fault_found : (q : ℕ) (known : List ℕ → Bool) (d : Draft) (n : ℕ) (line : List ℕ) (f : ExprFault) → Tells known d.of → FaultOfLine q known line n f → line_in q d n line ≡ Err f
unfolding line_in
fault_found q known d n line f tells (token_fault g e h) = ap (λ r. on_line n r >>= read_line q d n line) (line_fault_found Words line g h) ∙ ap Err (sym e)
fault_found q known d n line f tells (name_fault form h e) =
    form_found q known d n line form tells h ∙ ap (λ o. then_fault o (Ok (after_statement d (statement line form.form)))) e

next_tells : (known : List ℕ → Bool) (d : Draft) (s : Statement) → Tells known d.of → Tells (knows known s) (after_statement d s).of
next_tells known d (input x) tells = bind_tells known d.of x (wires.Input d.inputs) tells
next_tells known d (define x t) tells = bind_tells known d.of x (build d.of d.gates t).wire tells
next_tells known d (output t) tells = tells

-- what the lines say, by what the compiler answers
abbrev pub Done : ℕ → (List ℕ → Bool) → Draft → ℕ → List (List ℕ) → Result Draft ExprFault → Type 0
Done q known d n lines (Ok e) = (p : List Statement) × AreLines q known n lines p × (e ≡ after_statements d p)
Done q known d n lines (Err f) = IsFaultIn q known n lines f

done_blank : (q : ℕ) (known : List ℕ → Bool) (d : Draft) (n : ℕ) (line : List ℕ) (lines : List (List ℕ)) → IsBlank line → (r : Result Draft ExprFault) → Done q known d (n + 1) lines r → Done q known d n (line ∷ lines) r
done_blank q known d n line lines blank (Ok e) h = (h.0, inl (blank, h.1), h.2)
done_blank q known d n line lines blank (Err f) h = inl (blank, h)

done_next : (q : ℕ) (known : List ℕ → Bool) (d : Draft) (n : ℕ) (line : List ℕ) (lines : List (List ℕ)) (s : Statement) → Says q known line n s → (r : Result Draft ExprFault) → Done q (knows known s) (after_statement d s) (n + 1) lines r → Done q known d n (line ∷ lines) r
done_next q known d n line lines s says (Ok e) h = (s ∷ h.0, inr (s, h.0, refl, says, h.1), h.2)
done_next q known d n line lines s says (Err f) h = inr (inr (s, says, h))

abbrev Finds : ℕ → ℕ → List (List ℕ) → Type 0
Finds q n lines = (known : List ℕ → Bool) (d : Draft) → Tells known d.of → Done q known d n lines (lines_in q d n lines)

done_by : (q : ℕ) (known : List ℕ → Bool) (d : Draft) (n : ℕ) (line : List ℕ) (lines : List (List ℕ)) → Tells known d.of → Finds q (n + 1) lines → (r : Result Draft ExprFault) → Lined q known d n line r → Done q known d n (line ∷ lines) (r >>= (λ e. lines_in q e (n + 1) lines))
done_by q known d n line lines tells next (Ok e) (inl h) =
    subst (λ (x : Draft). Done q known d n (line ∷ lines) (lines_in q x (n + 1) lines)) (sym h.1) (done_blank q known d n line lines h.0 (lines_in q d (n + 1) lines) (next known d tells))
done_by q known d n line lines tells next (Ok e) (inr h) =
    subst (λ (x : Draft). Done q known d n (line ∷ lines) (lines_in q x (n + 1) lines)) (sym h.2)
    (done_next q known d n line lines h.0 h.1 (lines_in q (after_statement d h.0) (n + 1) lines) (next (knows known h.0) (after_statement d h.0) (next_tells known d h.0 tells)))
done_by q known d n line lines tells next (Err f) h = inr (inl h)

pub done : (q n : ℕ) (lines : List (List ℕ)) → Finds q n lines
unfolding lines_in
done q n [] known d tells = ([], refl, refl)
done q n (line ∷ lines) known d tells = done_by q known d n line lines tells (done q (n + 1) lines) (line_in q d n line) (lined q known d n line tells)

-- the answer for lines that say a program
pub lines_found : (q : ℕ) (known : List ℕ → Bool) (d : Draft) (n : ℕ) (lines : List (List ℕ)) (p : List Statement) → Tells known d.of → AreLines q known n lines p → lines_in q d n lines ≡ Ok (after_statements d p)
unfolding lines_in
lines_found q known d n [] p tells h = ap (λ x. Ok (after_statements d x)) (sym h)
lines_found q known d n (line ∷ lines) p tells (inl h) =
    ap (λ r. r >>= (λ e. lines_in q e (n + 1) lines)) (blank_line q d n line h.0) ∙ lines_found q known d (n + 1) lines p tells h.1
lines_found q known d n (line ∷ lines) p tells (inr h) =
    ap (λ r. r >>= (λ e. lines_in q e (n + 1) lines)) (said_found q known d n line h.0 tells h.3)
    ∙ lines_found q (knows known h.0) (after_statement d h.0) (n + 1) lines h.1 (next_tells known d h.0 tells) h.4
    ∙ ap (λ x. Ok (after_statements d x)) (sym h.2)

-- the answer for lines that have a fault
pub faults_found : (q : ℕ) (known : List ℕ → Bool) (d : Draft) (n : ℕ) (lines : List (List ℕ)) (f : ExprFault) → Tells known d.of → IsFaultIn q known n lines f → lines_in q d n lines ≡ Err f
unfolding lines_in
faults_found q known d n [] f tells h = absurd h
faults_found q known d n (line ∷ lines) f tells (inl h) =
    ap (λ r. r >>= (λ e. lines_in q e (n + 1) lines)) (blank_line q d n line h.0) ∙ faults_found q known d (n + 1) lines f tells h.1
faults_found q known d n (line ∷ lines) f tells (inr (inl h)) = ap (λ r. r >>= (λ e. lines_in q e (n + 1) lines)) (fault_found q known d n line f tells h)
faults_found q known d n (line ∷ lines) f tells (inr (inr h)) =
    ap (λ r. r >>= (λ e. lines_in q e (n + 1) lines)) (said_found q known d n line h.0 tells h.1)
    ∙ faults_found q (knows known h.0) (after_statement d h.0) (n + 1) lines f (next_tells known d h.0 tells) h.2
