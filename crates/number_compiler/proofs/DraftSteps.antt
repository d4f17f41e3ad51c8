-- The steps of adding a line to a draft.
use Rattle.std.proofs.Common.{◌≡◌, ℕ, ◌+◌, inl, inr, Bool, true, false, cond, nat_lt, List, [], ◌∷◌, ◌++◌, length, take, reverse, Option, Some, None, Result, Ok, Err, refl, sym, ◌∙◌, ap, ap₂, subst, arith, length-append, append_assoc}
use Rattle.std.specs.Prelude.{MatchResult, OnOk}
use Rattle.std.specs.Option.{is_some, option_or}
use Rattle.std.proofs.lemmas.Bool.{lt-ltb, le-ltb}
use Rattle.std.proofs.lemmas.List.{take-append-le, take_all, map-append, length-map, append-nil}
use Rattle.circuit_model.proofs.SetWires.{lt_or_not}
use Rattle.line_grammar.specs.declared.dialect.Dialect.TheVariants.{Numbers}
use Rattle.line_grammar.specs.declared.element.ExprElement.{ExprElement}
use Rattle.line_grammar.specs.declared.element.Head.{Head}
use Rattle.line_grammar.specs.declared.element.Head.TheVariants as heads
use Rattle.line_grammar.specs.declared.fault.LineFault.{LineFault}
use Rattle.line_grammar.specs.declared.fault.LineFault.TheVariants as parts
use Rattle.line_grammar.specs.Grammar.{Expr, LineForm, IsLine, Line}
use Rattle.line_grammar.specs.Grammar.LineForm.{input_line, wide_input_line, let_line, output_line}
use Rattle.line_grammar.specs.LineFaults.{shallow}
use Rattle.line_grammar.specs.Laws.{IsRead, Refuses}
use Rattle.line_grammar.specs.Machine.{Read, State}
use Rattle.line_grammar.specs.Postfix.{post, read_of}
use Rattle.line_grammar.specs.Scanned.{read_kept}
use Rattle.number_gates.specs.Steps.{Kept}
use Rattle.number_circuit.specs.declared.fault.NumberFault.{NumberFault}
use Rattle.number_circuit.specs.declared.fault.NumberFault.TheVariants.{NotUtf8, Syntax, UnknownName, BadConstant, TooDeep, TwiceNamed, TooLarge, TooWide, BadWidth, Memory}
use Rattle.number_circuit.specs.Programs.{bind, widest, term}
use Rattle.line_grammar.specs.Places.{name_at, number_at}
use Rattle.number_circuit.specs.Programs.Statement.{input, define, output}
use Rattle.number_circuit.specs.Faults.{Parses, bad, bad_width, twice, bad_line, of_line}
use Rattle.number_circuit.specs.Faults.FaultOfLine.{token_fault, name_fault}
use Rattle.number_compiler.specs.declared.draft.Draft.{Draft as DraftKept}
use Rattle.number_compiler.specs.declared.names.NamedNumbers.{NamedNumbers}
use Rattle.number_compiler.specs.declared.number.Number.{Number}
use Rattle.number_compiler.specs.Terms.{Value, fitted}
use Rattle.number_compiler.specs.Circuits.{Names, Draft, input_bits, with_input, with_name, with_output, all_bits}
use Rattle.number_compiler.specs.Elements.{bounds_of}
use Rattle.number_compiler.specs.Keeps.{Keeps, TakesLine, TakesForm}
use Rattle.number_compiler.specs.Moves.{Expresses}
use Rattle.number_compiler.specs.Named.{AreNames, Binds}
use Rattle.number_compiler.specs.Progress.{IsSaid}
use Rattle.number_compiler.specs.Seen.{seen}
use Rattle.number_compiler.proofs.ExpressedTerms.{IsTerm, expressed, IsFirstOf, refused}
use Rattle.number_compiler.proofs.SaidLines.{known_if, said_input, said_define, said_output}

-- ---- outputs

take_push : {A : Type 0} (k : ℕ) (xs : List A) (x : A) → cond (nat_lt (length xs) k) (take k xs ++ (x ∷ [])) (take k xs) ≡ take k (xs ++ (x ∷ []))
take_push k xs x = elim (lt_or_not (length xs) k) [
  | inl less ↦ ap (λ b. cond b (take k xs ++ (x ∷ [])) (take k xs)) (lt-ltb (length xs) k less) ∙ ap (λ ys. ys ++ (x ∷ [])) (take_all k xs (omega arith))
      ∙ sym (take_all k (xs ++ (x ∷ [])) (omega (arith, less, length-append xs (x ∷ []))))
  | inr more ↦ ap (λ b. cond b (take k xs ++ (x ∷ [])) (take k xs)) (le-ltb (length xs) k more) ∙ sym (take-append-le k xs (x ∷ []) more)
]

bits_push : (vs : List Value) (v : Value) → all_bits (vs ++ (v ∷ [])) ≡ all_bits vs ++ v.bits
bits_push [] v = append-nil v.bits
bits_push (u ∷ vs) v = ap (λ bs. u.bits ++ bs) (bits_push vs v) ∙ sym (append_assoc u.bits (all_bits vs) v.bits)

bits_if : (b : Bool) (vs : List Value) (v : Value) → cond b (all_bits vs ++ v.bits) (all_bits vs) ≡ all_bits (cond b (vs ++ (v ∷ [])) vs)
bits_if true vs v = sym (bits_push vs v)
bits_if false vs v = refl

pub output_kept : (s new : DraftKept) (d : Draft) (v : Value) → Keeps s d → new.names ≡ s.names → new.wires ≡ s.wires → new.inputs ≡ s.inputs
    → new.bits.items ≡ cond (nat_lt (length s.outputs.items) 1024) (s.bits.items ++ v.bits) s.bits.items → new.outputs.items ≡ s.outputs.items ++ (length v.bits ∷ []) → Keeps new (with_output d v)
output_kept s new d v k names wires inputs bits outputs =
    let long : length s.outputs.items ≡ length d.outputs = ap length k.outputs ∙ length-map d.outputs (λ (u : Value). length u.bits) in
    record {
      names = subst (λ (n : NamedNumbers). AreNames n d.of) (sym names) k.names;
      wires = wires ∙ k.wires;
      inputs = ap (λ v. v.items) inputs ∙ k.inputs;
      outputs = outputs ∙ ap (λ ws. ws ++ (length v.bits ∷ [])) k.outputs ∙ sym (map-append (λ (u : Value). length u.bits) d.outputs (v ∷ []));
      bits = bits ∙ ap₂ (λ n bs. cond (nat_lt n 1024) (bs ++ v.bits) bs) long k.bits ∙ bits_if (nat_lt (length d.outputs) 1024) (take 1024 d.outputs) v
          ∙ ap all_bits (take_push 1024 d.outputs v);
    }

pub when_ok : {A E : Type 0} (r : Result A E) (P Q : Type 0) → OnOk r P → (P → Q) → OnOk r Q
when_ok (Ok a) P Q h more = more h
when_ok (Err e) P Q h more = tt

-- ---- faults of a line

fault_takes : (d : Draft) (line : List ℕ) (n : ℕ) (form : LineForm) (is : IsLine Numbers shallow form) (s new : DraftKept) (f : NumberFault)
    → Parses line (record { form = form; is = is }) → IsFirstOf f (bad_line (bounds_of d.of) line n form) → TakesLine d line n s (Err f) new
fault_takes d line n form is s new Memory parsed h = tt
fault_takes d line n form is s new (NotUtf8 at) parsed h = name_fault (record { form = form; is = is }) parsed h
fault_takes d line n form is s new (Syntax l at) parsed h = name_fault (record { form = form; is = is }) parsed h
fault_takes d line n form is s new (UnknownName l at) parsed h = name_fault (record { form = form; is = is }) parsed h
fault_takes d line n form is s new (BadConstant l at) parsed h = name_fault (record { form = form; is = is }) parsed h
fault_takes d line n form is s new (TooDeep l at) parsed h = name_fault (record { form = form; is = is }) parsed h
fault_takes d line n form is s new (TwiceNamed l) parsed h = name_fault (record { form = form; is = is }) parsed h
fault_takes d line n form is s new TooLarge parsed h = name_fault (record { form = form; is = is }) parsed h
fault_takes d line n form is s new (TooWide l at) parsed h = name_fault (record { form = form; is = is }) parsed h
fault_takes d line n form is s new (BadWidth l at) parsed h = name_fault (record { form = form; is = is }) parsed h

-- a fault comes first where it does in the first part, or in the second one behind none
first_so : (f : NumberFault) (o p : Option NumberFault) → ((g : NumberFault) → o ≡ Some g → p ≡ Some g) → IsFirstOf f o → IsFirstOf f p
first_so Memory o p so h = tt
first_so (NotUtf8 at) o p so h = so (NotUtf8 at) h
first_so (Syntax l at) o p so h = so (Syntax l at) h
first_so (UnknownName l at) o p so h = so (UnknownName l at) h
first_so (BadConstant l at) o p so h = so (BadConstant l at) h
first_so (TooDeep l at) o p so h = so (TooDeep l at) h
first_so (TwiceNamed l) o p so h = so (TwiceNamed l) h
first_so TooLarge o p so h = so TooLarge h
first_so (TooWide l at) o p so h = so (TooWide l at) h
first_so (BadWidth l at) o p so h = so (BadWidth l at) h

first_left : (f : NumberFault) (o p : Option NumberFault) → IsFirstOf f o → IsFirstOf f (option_or o p)
first_left f o p h = first_so f o (option_or o p) (λ g e. ap (λ x. option_or x p) e) h

first_right : (f : NumberFault) (o p : Option NumberFault) → o ≡ None → IsFirstOf f p → IsFirstOf f (option_or o p)
first_right f o p none h = subst (λ x. IsFirstOf f (option_or x p)) (sym none) h

some_first : (f : NumberFault) (o : Option NumberFault) → o ≡ Some f → IsFirstOf f o
some_first Memory o h = tt
some_first (NotUtf8 at) o h = h
some_first (Syntax l at) o h = h
some_first (UnknownName l at) o h = h
some_first (BadConstant l at) o h = h
some_first (TooDeep l at) o h = h
some_first (TwiceNamed l) o h = h
some_first TooLarge o h = h
some_first (TooWide l at) o h = h
some_first (BadWidth l at) o h = h

-- a name that was known before
again : (of : Names) (line : List ℕ) (n at : ℕ) (f : NumberFault) → is_some (of (name_at line at)) ≡ true → f ≡ TwiceNamed n → twice (bounds_of of) line n at ≡ Some f
again of line n at f known e = ap (λ b. cond b (Some (TwiceNamed n)) None) (known_if (of (name_at line at)) ∙ known) ∙ ap Some (sym e)

bind_first : (of : Names) (line : List ℕ) (n at : ℕ) (v : Value) (names : NamedNumbers) (f : NumberFault) → Binds {A = Unit {0}} of n (name_at line at) v (Err f) names → IsFirstOf f (twice (bounds_of of) line n at)
bind_first of line n at v names Memory h = tt
bind_first of line n at v names (NotUtf8 p) h = again of line n at (NotUtf8 p) h.0 h.1
bind_first of line n at v names (Syntax l p) h = again of line n at (Syntax l p) h.0 h.1
bind_first of line n at v names (UnknownName l p) h = again of line n at (UnknownName l p) h.0 h.1
bind_first of line n at v names (BadConstant l p) h = again of line n at (BadConstant l p) h.0 h.1
bind_first of line n at v names (TooDeep l p) h = again of line n at (TooDeep l p) h.0 h.1
bind_first of line n at v names (TwiceNamed l) h = again of line n at (TwiceNamed l) h.0 h.1
bind_first of line n at v names TooLarge h = again of line n at TooLarge h.0 h.1
bind_first of line n at v names (TooWide l p) h = again of line n at (TooWide l p) h.0 h.1
bind_first of line n at v names (BadWidth l p) h = again of line n at (BadWidth l p) h.0 h.1

-- ---- inputs

pub input_takes : (d : Draft) (line : List ℕ) (n x w : ℕ) (s new : DraftKept) (v : Value) (r : Result (Unit {0}) NumberFault) → Keeps s d → bad_width line n w ≡ None
    → v ≡ fitted (widest (number_at line w)) (input_bits d.wires (number_at line w)) → Binds d.of n (name_at line x) v r new.names → new.gates ≡ s.gates → new.wires ≡ d.wires + number_at line w
    → new.inputs.items ≡ d.inputs ++ (number_at line w ∷ []) → new.outputs ≡ s.outputs → new.bits ≡ s.bits → TakesForm d line n (wide_input_line x w) s r new
input_takes d line n x w s new v (Err f) k wide made b gates wires inputs outputs bits is parsed =
    fault_takes d line n (wide_input_line x w) is s new f parsed (first_right f (bad_width line n w) (twice (bounds_of d.of) line n x) wide (bind_first d.of line n x v new.names f b))
input_takes d line n x w s new v (Ok a) k wide made b gates wires inputs outputs bits is parsed = inr (record {
  statement = input (name_at line x) (number_at line w);
  draft = with_input d (name_at line x) (number_at line w);
  said = subst (λ (g : Kept). IsSaid d line n (input (name_at line x) (number_at line w)) s.gates (with_input d (name_at line x) (number_at line w)) g) (sym gates) (said_input d line n x w is s.gates parsed wide b.0);
  keeps = record {
    names = subst (λ (u : Value). AreNames new.names (bind d.of (name_at line x) (Some u))) made b.1;
    wires = wires;
    inputs = inputs;
    outputs = ap (λ v. v.items) outputs ∙ k.outputs;
    bits = ap (λ v. v.items) bits ∙ k.bits;
  };
})

-- a width that isn't one
pub width_takes : (d : Draft) (line : List ℕ) (n x w : ℕ) (s new : DraftKept) (f : NumberFault) → bad_width line n w ≡ Some f → TakesForm d line n (wide_input_line x w) s (Err f) new
width_takes d line n x w s new f e is parsed =
    fault_takes d line n (wide_input_line x w) is s new f parsed (first_left f (bad_width line n w) (twice (bounds_of d.of) line n x) (some_first f (bad_width line n w) e))

-- ---- expressions

found_term : (of : Names) (line : List ℕ) (n : ℕ) (e : Expr) (elements : List ExprElement) (old new : Kept) (c : Number) (found : Result Number NumberFault) → elements ≡ post e [] → found ≡ Ok c → Expresses of line n elements old found new → IsTerm of line n e old (seen c) new
found_term of line n e elements old new c found is ok h =
    expressed of line n e old new c (subst (λ xs. Expresses of line n xs old (Ok c) new) is (subst (λ (r : Result Number NumberFault). Expresses of line n elements old r new) ok h))

fault_first : (of : Names) (line : List ℕ) (n : ℕ) (e : Expr) (elements : List ExprElement) (old new : Kept) (f : NumberFault) (found : Result Number NumberFault) → elements ≡ post e [] → found ≡ Err f → Expresses of line n elements old found new → IsFirstOf f (bad (bounds_of of) line n e)
fault_first of line n e elements old new f found is err h =
    refused of line n e f (subst (λ xs. Expresses of line n xs old (Err f) new) is (subst (λ (r : Result Number NumberFault). Expresses of line n elements old r new) err h))

pub define_takes : (d : Draft) (line : List ℕ) (n x : ℕ) (e : Expr) (elements : List ExprElement) (s new : DraftKept) (c : Number) (found : Result Number NumberFault) (r : Result (Unit {0}) NumberFault) → Keeps s d → elements ≡ post e [] → found ≡ Ok c
    → Expresses d.of line n elements s.gates found new.gates → Binds d.of n (name_at line x) (seen c) r new.names → new.wires ≡ s.wires → new.inputs ≡ s.inputs → new.outputs ≡ s.outputs → new.bits ≡ s.bits → TakesForm d line n (let_line x e) s r new
define_takes d line n x e elements s new c found (Err f) k spelled ok h b wires inputs outputs bits is parsed =
    let t : IsTerm d.of line n e s.gates (seen c) new.gates = found_term d.of line n e elements s.gates new.gates c found spelled ok h in
    fault_takes d line n (let_line x e) is s new f parsed (first_right f (bad (bounds_of d.of) line n e) (twice (bounds_of d.of) line n x) t.good (bind_first d.of line n x (seen c) new.names f b))
define_takes d line n x e elements s new c found (Ok a) k spelled ok h b wires inputs outputs bits is parsed =
    let t : IsTerm d.of line n e s.gates (seen c) new.gates = found_term d.of line n e elements s.gates new.gates c found spelled ok h in
    inr (record {
      statement = define (name_at line x) (term line e);
      draft = with_name d (name_at line x) (seen c);
      said = said_define d line n x e is s.gates new.gates (seen c) parsed t b.0;
      keeps = record {
        names = b.1;
        wires = wires ∙ k.wires;
        inputs = ap (λ v. v.items) inputs ∙ k.inputs;
        outputs = ap (λ v. v.items) outputs ∙ k.outputs;
        bits = ap (λ v. v.items) bits ∙ k.bits;
      };
    })

pub define_fails : (d : Draft) (line : List ℕ) (n x : ℕ) (e : Expr) (elements : List ExprElement) (s new : DraftKept) (gates : Kept) (f : NumberFault) (found : Result Number NumberFault) → elements ≡ post e [] → found ≡ Err f
    → Expresses d.of line n elements s.gates found gates → TakesForm d line n (let_line x e) s (Err f) new
define_fails d line n x e elements s new gates f found spelled err h is parsed =
    fault_takes d line n (let_line x e) is s new f parsed (first_left f (bad (bounds_of d.of) line n e) (twice (bounds_of d.of) line n x) (fault_first d.of line n e elements s.gates gates f found spelled err h))

pub output_takes : (d : Draft) (line : List ℕ) (n : ℕ) (e : Expr) (elements : List ExprElement) (s new : DraftKept) (c : Number) (found : Result Number NumberFault) (a : Unit {0}) → elements ≡ post e [] → found ≡ Ok c
    → Expresses d.of line n elements s.gates found new.gates → Keeps new (with_output d (seen c)) → TakesForm d line n (output_line e) s (Ok a) new
output_takes d line n e elements s new c found a spelled ok h k is parsed = inr (record {
  statement = output (term line e);
  draft = with_output d (seen c);
  said = said_output d line n e is s.gates new.gates (seen c) parsed (found_term d.of line n e elements s.gates new.gates c found spelled ok h);
  keeps = k;
})

pub output_fails : (d : Draft) (line : List ℕ) (n : ℕ) (e : Expr) (elements : List ExprElement) (s new : DraftKept) (gates : Kept) (f : NumberFault) (found : Result Number NumberFault) → elements ≡ post e [] → found ≡ Err f
    → Expresses d.of line n elements s.gates found gates → TakesForm d line n (output_line e) s (Err f) new
output_fails d line n e elements s new gates f found spelled err h is parsed =
    fault_takes d line n (output_line e) is s new f parsed (fault_first d.of line n e elements s.gates gates f found spelled err h)

-- ---- what was read of a line

pub read_input : (d : Draft) (line : List ℕ) (n : ℕ) (form : LineForm) (head : Head) (x : ℕ) (elements : List ExprElement) (s new : DraftKept) (r : Result (Unit {0}) NumberFault) → head ≡ heads.Input x → record { head = head; elements = elements } ≡ read_of form → TakesForm d line n form s r new
read_input d line n (input_line y) head x elements s new r e is none parsed = cc
read_input d line n (wide_input_line y w) head x elements s new r e is none parsed = absurd (let no : heads.Input x ≡ heads.WideInput y w = sym e ∙ ap (λ (t : Read). t.head) is in cc)
read_input d line n (let_line y t) head x elements s new r e is none parsed = absurd (let no : heads.Input x ≡ heads.Let y = sym e ∙ ap (λ (t : Read). t.head) is in cc)
read_input d line n (output_line t) head x elements s new r e is none parsed = absurd (let no : heads.Input x ≡ heads.Output = sym e ∙ ap (λ (t : Read). t.head) is in cc)

pub read_wide : (d : Draft) (line : List ℕ) (n : ℕ) (form : LineForm) (head : Head) (x w : ℕ) (elements : List ExprElement) (s new : DraftKept) (r : Result (Unit {0}) NumberFault) → head ≡ heads.WideInput x w → record { head = head; elements = elements } ≡ read_of form
    → TakesForm d line n (wide_input_line x w) s r new → TakesForm d line n form s r new
read_wide d line n (input_line y) head x w elements s new r e is h = absurd (let no : heads.WideInput x w ≡ heads.Input y = sym e ∙ ap (λ (t : Read). t.head) is in cc)
read_wide d line n (wide_input_line y v) head x w elements s new r e is h =
    let same : heads.WideInput x w ≡ heads.WideInput y v = sym e ∙ ap (λ (t : Read). t.head) is in
    let first : x ≡ y = cc in
    let second : w ≡ v = cc in
    subst (λ k. TakesForm d line n (wide_input_line y k) s r new) second (subst (λ k. TakesForm d line n (wide_input_line k w) s r new) first h)
read_wide d line n (let_line y t) head x w elements s new r e is h = absurd (let no : heads.WideInput x w ≡ heads.Let y = sym e ∙ ap (λ (t : Read). t.head) is in cc)
read_wide d line n (output_line t) head x w elements s new r e is h = absurd (let no : heads.WideInput x w ≡ heads.Output = sym e ∙ ap (λ (t : Read). t.head) is in cc)

pub read_let : (d : Draft) (line : List ℕ) (n : ℕ) (form : LineForm) (head : Head) (x : ℕ) (elements : List ExprElement) (s new : DraftKept) (r : Result (Unit {0}) NumberFault) → head ≡ heads.Let x → record { head = head; elements = elements } ≡ read_of form
    → ((e : Expr) → elements ≡ post e [] → TakesForm d line n (let_line x e) s r new) → TakesForm d line n form s r new
read_let d line n (input_line y) head x elements s new r e is h = absurd (let no : heads.Let x ≡ heads.Input y = sym e ∙ ap (λ (t : Read). t.head) is in cc)
read_let d line n (wide_input_line y v) head x elements s new r e is h = absurd (let no : heads.Let x ≡ heads.WideInput y v = sym e ∙ ap (λ (t : Read). t.head) is in cc)
read_let d line n (let_line y t) head x elements s new r e is h =
    let same : heads.Let x ≡ heads.Let y = sym e ∙ ap (λ (t : Read). t.head) is in
    let first : x ≡ y = cc in
    subst (λ k. TakesForm d line n (let_line k t) s r new) first (h t (ap (λ (t : Read). t.elements) is))
read_let d line n (output_line t) head x elements s new r e is h = absurd (let no : heads.Let x ≡ heads.Output = sym e ∙ ap (λ (t : Read). t.head) is in cc)

pub read_output : (d : Draft) (line : List ℕ) (n : ℕ) (form : LineForm) (head : Head) (elements : List ExprElement) (s new : DraftKept) (r : Result (Unit {0}) NumberFault) → head ≡ heads.Output → record { head = head; elements = elements } ≡ read_of form
    → ((e : Expr) → elements ≡ post e [] → TakesForm d line n (output_line e) s r new) → TakesForm d line n form s r new
read_output d line n (input_line y) head elements s new r e is h = absurd (let no : heads.Output ≡ heads.Input y = sym e ∙ ap (λ (t : Read). t.head) is in cc)
read_output d line n (wide_input_line y v) head elements s new r e is h = absurd (let no : heads.Output ≡ heads.WideInput y v = sym e ∙ ap (λ (t : Read). t.head) is in cc)
read_output d line n (let_line y t) head elements s new r e is h = absurd (let no : heads.Output ≡ heads.Let y = sym e ∙ ap (λ (t : Read). t.head) is in cc)
read_output d line n (output_line t) head elements s new r e is h = h t (ap (λ (t : Read). t.elements) is)

-- ---- a line

-- what the grammar answers
abbrev pub IsParsed : List ℕ → State → Result (Option Head) LineFault → Type 0
IsParsed text s r = MatchResult r (λ head. IsRead Numbers text (read_kept s head)) (Refuses Numbers text)

pub line_some : (d : Draft) (line : List ℕ) (n : ℕ) (state : State) (elements : List ExprElement) (parsed : Result (Option Head) LineFault) (head : Head) (s new : DraftKept) (r : Result (Unit {0}) NumberFault) → parsed ≡ Ok (Some head) → elements ≡ reverse state.out → IsParsed line state parsed
    → ((form : LineForm) → record { head = head; elements = elements } ≡ read_of form → TakesForm d line n form s r new) → TakesLine d line n s r new
line_some d line n state elements parsed head s new r e out h more =
    let found = subst (IsParsed line state) e h in
    let l : Line Numbers shallow = found.0 in
    more l.form (ap (λ xs. record { head = head; elements = xs }) out ∙ found.2) l.is found.1

pub line_none : (d : Draft) (line : List ℕ) (n : ℕ) (state : State) (parsed : Result (Option Head) LineFault) (s : DraftKept) (a : Unit {0}) → parsed ≡ Ok None → IsParsed line state parsed → Keeps s d → TakesLine d line n s (Ok a) s
line_none d line n state parsed s a e h k = inl (subst (IsParsed line state) e h, k, refl)

stops : (d : Draft) (line : List ℕ) (n : ℕ) (f : LineFault) (s new : DraftKept) → Refuses Numbers line f → TakesLine d line n s (Err (of_line n f)) new
stops d line n parts.Memory s new h = tt
stops d line n (parts.Syntax at) s new h = token_fault (parts.Syntax at) refl h
stops d line n (parts.TooDeep at) s new h = token_fault (parts.TooDeep at) refl h

pub line_stops : (d : Draft) (line : List ℕ) (n : ℕ) (state : State) (parsed : Result (Option Head) LineFault) (f : LineFault) (told : NumberFault) (s new : DraftKept) → told ≡ of_line n f → parsed ≡ Err f → IsParsed line state parsed → TakesLine d line n s (Err told) new
line_stops d line n state parsed f told s new is e h =
    subst (λ (g : NumberFault). TakesLine d line n s (Err g) new) (sym is) (stops d line n f s new (subst (IsParsed line state) e h))

-- ---- a width

-- what is answered for a width
abbrev pub IsWidth : List ℕ → ℕ → ℕ → Result ℕ NumberFault → Type 0
IsWidth line n w r = MatchResult r (λ width. (width ≡ number_at line w) × (bad_width line n w ≡ None)) (λ fault. bad_width line n w ≡ Some fault)

pub width_found : (line : List ℕ) (n w : ℕ) (r : Result ℕ NumberFault) (width : ℕ) → r ≡ Ok width → IsWidth line n w r → (width ≡ number_at line w) × (bad_width line n w ≡ None)
width_found line n w r width e h = subst (IsWidth line n w) e h

pub width_faulty : (line : List ℕ) (n w : ℕ) (r : Result ℕ NumberFault) (f : NumberFault) → r ≡ Err f → IsWidth line n w r → bad_width line n w ≡ Some f
width_faulty line n w r f e h = subst (IsWidth line n w) e h
