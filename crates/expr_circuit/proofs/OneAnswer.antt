-- Each text is one program or has one first fault.
use Rattle.std.proofs.Common.{◌≡◌, ℕ, ◌+◌, ◌^◌, ◌<◌, ◌⊎◌, inl, inr, Bool, true, false, cond, nat_lt, List, [], ◌∷◌, length, Some, Result, Ok, Err, refl, sym, ◌∙◌, ap, ap₂, subst}
use Rattle.std.proofs.lemmas.Bool.{lt-ltb, ltb-true}
use Rattle.std.specs.Str.{IsUtf8}
use Rattle.std.specs.Str.Lossy.{utf8_valid_len}
use Rattle.text_tokens.specs.RunTokens.{bare}
use Rattle.expr_circuit.specs.declared.fault.ExprFault.{ExprFault}
use Rattle.expr_circuit.specs.declared.fault.ExprFault.TheVariants.{NotUtf8, TooLarge}
use Rattle.line_grammar.specs.declared.dialect.Dialect.TheVariants.{Words}
use Rattle.line_grammar.specs.Grammar.{LineForm, spell_line}
use Rattle.line_grammar.specs.Grammar.LineForm.{input_line, wide_input_line, let_line, output_line}
use Rattle.line_grammar.specs.Postfix.{read_of}
use Rattle.line_grammar.proofs.Scans.{one_reading}
use Rattle.expr_circuit.specs.Programs.{Statement}
use Rattle.expr_circuit.specs.Faults.{Says, IsBlank, AreLines, knows, none_known, lines}
use Rattle.expr_circuit.specs.Circuits.{Draft, no_lines, draft_of, is_large, circuit}
use Rattle.circuit_model.specs.Netlists.{Netlist}
use Rattle.circuit_file.proofs.FileLaws.{text_grounded, text_related}
use Rattle.expr_circuit.specs.Walks.{lines_in, netlist_in, compiled_in}
use Rattle.list_laws.specs.Answers.{◌>>=◌}
use Rattle.expr_circuit.specs.Laws.{IsProgram, IsFault, IsCircuitOf, HasOneAnswer}
use Rattle.expr_circuit.specs.Laws.IsFault.{not_utf8, in_line, too_large}
use Rattle.expr_circuit.proofs.Wires.{Tells}
use Rattle.expr_circuit.proofs.LineWalks.{Done, done, lines_found, faults_found}
use Rattle.expr_circuit.proofs.Elements.{says, says_is}

-- what stands in a text, by what the compiler answers
abbrev pub Answered : ℕ → List ℕ → Result Netlist ExprFault → Type 0
Answered bits text (Ok found) = IsCircuitOf bits text found
Answered bits text (Err fault) = IsFault bits text fault

pub none_tells : Tells none_known no_lines.of
none_tells x = refl

text_answered : (bits : ℕ) (text : List ℕ) (p : List Statement) → IsUtf8 text → AreLines (2 ^ bits) none_known 1 (lines text) p → (b : Bool) → is_large (circuit bits p) ≡ b
    → Answered bits text (cond b (Err TooLarge) (Ok (circuit bits p)))
text_answered bits text p utf8 said true large = too_large refl utf8 p said large
text_answered bits text p utf8 said false small = record { program = p; is = record { utf8 = utf8; said = said; small = small }; made = refl }

draft_answered : (bits : ℕ) (text : List ℕ) → IsUtf8 text → (r : Result Draft ExprFault) → Done (2 ^ bits) none_known no_lines 1 (lines text) r → Answered bits text (r >>= netlist_in bits)
unfolding draft_of
draft_answered bits text utf8 (Ok d) h =
    subst (λ (x : Draft). Answered bits text (netlist_in bits x)) (sym h.2) (text_answered bits text h.0 utf8 h.1 (is_large (circuit bits h.0)) refl)
draft_answered bits text utf8 (Err f) h = in_line utf8 h

answered_by : (bits : ℕ) (text : List ℕ) (b : Bool) → nat_lt (utf8_valid_len text) (length text) ≡ b → Answered bits text (cond b (Err (NotUtf8 (utf8_valid_len text))) (lines_in (2 ^ bits) no_lines 1 (lines text) >>= netlist_in bits))
answered_by bits text true e = not_utf8 refl (ltb-true _ _ e)
answered_by bits text false e = draft_answered bits text (text_grounded text e) (lines_in (2 ^ bits) no_lines 1 (lines text)) (done (2 ^ bits) 1 (lines text) none_known no_lines none_tells)

-- the answer of the compiler is what stands in the text
pub answered : (bits : ℕ) (text : List ℕ) → Answered bits text (compiled_in bits text)
unfolding compiled_in
answered bits text = answered_by bits text (nat_lt (utf8_valid_len text) (length text)) refl

read_text : (bits : ℕ) (text : List ℕ) → IsUtf8 text → compiled_in bits text ≡ lines_in (2 ^ bits) no_lines 1 (lines text) >>= netlist_in bits
unfolding compiled_in
read_text bits text u = ap (λ b. cond b (Err (NotUtf8 (utf8_valid_len text))) (lines_in (2 ^ bits) no_lines 1 (lines text) >>= netlist_in bits)) (text_related text u)

-- the answer for a program
pub program_found : (bits : ℕ) (text : List ℕ) (p : List Statement) → IsProgram bits text p → compiled_in bits text ≡ Ok (circuit bits p)
unfolding draft_of
program_found bits text p h =
    read_text bits text h.utf8
    ∙ ap (λ r. r >>= netlist_in bits) (lines_found (2 ^ bits) none_known no_lines 1 (lines text) p none_tells h.said)
    ∙ ap (λ b. cond b (Err TooLarge) (Ok (circuit bits p))) h.small

not_utf8_found : (bits : ℕ) (text : List ℕ) → utf8_valid_len text < length text → compiled_in bits text ≡ Err (NotUtf8 (utf8_valid_len text))
unfolding compiled_in
not_utf8_found bits text l = ap (λ b. cond b (Err (NotUtf8 (utf8_valid_len text))) (lines_in (2 ^ bits) no_lines 1 (lines text) >>= netlist_in bits)) (lt-ltb _ _ l)

-- the answer for a fault
pub fault_found : (bits : ℕ) (text : List ℕ) (f : ExprFault) → IsFault bits text f → compiled_in bits text ≡ Err f
unfolding draft_of
fault_found bits text f (not_utf8 e l) = not_utf8_found bits text l ∙ ap Err (sym e)
fault_found bits text f (in_line u h) =
    read_text bits text u ∙ ap (λ r. r >>= netlist_in bits) (faults_found (2 ^ bits) none_known no_lines 1 (lines text) f none_tells h)
fault_found bits text f (too_large e u p said large) =
    read_text bits text u
    ∙ ap (λ r. r >>= netlist_in bits) (lines_found (2 ^ bits) none_known no_lines 1 (lines text) p none_tells said)
    ∙ ap (λ b. cond b (Err TooLarge) (Ok (circuit bits p))) large
    ∙ ap Err (sym e)

-- a line says one statement
one_said : (q : ℕ) (known : List ℕ → Bool) (line : List ℕ) (n : ℕ) (s t : Statement) → Says q known line n s → Says q known line n t → s ≡ t
one_said q known line n s t a b =
    let e = (one_reading Words line).one_line (Some (read_of a.form.form)) (Some (read_of b.form.form)) (a.form, a.parsed, refl) (b.form, b.parsed, refl) in
    let same : read_of a.form.form ≡ read_of b.form.form = cc in
    a.meant ∙ sym (says_is line a.form.form) ∙ ap (says line) same ∙ says_is line b.form.form ∙ sym b.meant

spelled_some : (l : LineForm) → spell_line l ≡ [] → ⊥
spelled_some (input_line x) e = cc
spelled_some (wide_input_line x w) e = cc
spelled_some (let_line x y) e = cc
spelled_some (output_line y) e = cc

said_not_blank : (q : ℕ) (known : List ℕ → Bool) (line : List ℕ) (n : ℕ) (s : Statement) → Says q known line n s → IsBlank line → ⊥
said_not_blank q known line n s said blank = spelled_some said.form.form (said.parsed ∙ ap bare blank)

one_program : (q : ℕ) (known : List ℕ → Bool) (n : ℕ) (ls : List (List ℕ)) (p r : List Statement) → AreLines q known n ls p → AreLines q known n ls r → p ≡ r
one_program q known n [] p r a b = a ∙ sym b
one_program q known n (l ∷ ls) p r (inl a) (inl b) = one_program q known (n + 1) ls p r a.1 b.1
one_program q known n (l ∷ ls) p r (inl a) (inr b) = absurd (said_not_blank q known l n b.0 b.3 a.0)
one_program q known n (l ∷ ls) p r (inr a) (inl b) = absurd (said_not_blank q known l n a.0 a.3 b.0)
one_program q known n (l ∷ ls) p r (inr a) (inr b) =
    let same : a.0 ≡ b.0 = one_said q known l n a.0 b.0 a.3 b.3 in
    let rest : a.1 ≡ b.1 = one_program q (knows known b.0) (n + 1) ls a.1 b.1 (subst (λ (s : Statement). AreLines q (knows known s) (n + 1) ls a.1) same a.4) b.4 in
    a.2 ∙ ap₂ (λ s t. s ∷ t) same rest ∙ sym b.2

some_answer : (bits : ℕ) (text : List ℕ) (r : Result Netlist ExprFault) → Answered bits text r → ((p : List Statement) × IsProgram bits text p) ⊎ ((fault : ExprFault) × IsFault bits text fault)
some_answer bits text (Ok found) h = inl (h.program, h.is)
some_answer bits text (Err f) h = inr (f, h)

pub one_answer : (bits : ℕ) (text : List ℕ) → HasOneAnswer bits text
one_answer bits text = record {
  some = some_answer bits text (compiled_in bits text) (answered bits text);
  one_program = λ p r a b. one_program (2 ^ bits) none_known 1 (lines text) p r a.said b.said;
  one_fault = λ f g a b. let e = fault_found bits text f a in let k = fault_found bits text g b in let same : f ≡ g = cc in same;
  not_both = λ p f a b. let e = program_found bits text p a in let k = fault_found bits text f b in let no : ⊥ = cc in no;
}
