-- Each text is one program or has one first fault.
use Rattle.std.proofs.Common.{◌≡◌, ℕ, ◌+◌, ◌<◌, ◌⊎◌, inl, inr, Bool, true, false, nat_lt, List, [], ◌∷◌, length, Option, Some, None, refl, sym, ◌∙◌, ap, ap₂, subst}
use Rattle.std.proofs.lemmas.Bool.{ltb-true, lt-ltb}
use Rattle.std.specs.Str.{IsUtf8}
use Rattle.std.specs.Str.Lossy.{utf8_valid_len}
use Rattle.line_grammar.specs.declared.dialect.Dialect.TheVariants.{Numbers}
use Rattle.line_grammar.specs.declared.fault.LineFault.{LineFault}
use Rattle.line_grammar.specs.Grammar.{Line}
use Rattle.line_grammar.specs.LineFaults.{shallow, IsLineFault}
use Rattle.line_grammar.specs.Machine.{Read}
use Rattle.line_grammar.specs.Postfix.{read_of}
use Rattle.line_grammar.specs.Laws.{IsRead, HasOneReading}
use Rattle.line_grammar.proofs.Scans.{one_reading}
use Rattle.number_circuit.specs.declared.fault.NumberFault.{NumberFault}
use Rattle.number_circuit.specs.declared.fault.NumberFault.TheVariants.{NotUtf8, TooLarge}
use Rattle.number_circuit.specs.Programs.{Statement, statement}
use Rattle.number_circuit.specs.Faults.{Bounds, IsBlank, Parses, Says, FaultOfLine, bad_line, of_line, knows, AreLines, IsFaultIn, none_known, lines}
use Rattle.number_circuit.specs.Faults.FaultOfLine.{token_fault, name_fault}
use Rattle.number_circuit.specs.Laws.{IsProgram, IsFault, HasOneAnswer}
use Rattle.number_circuit.specs.Laws.IsFault.{not_utf8, in_line, too_large}
use Rattle.number_circuit.proofs.Elements.{said, said_is, flawed, flawed_is}
use Rattle.circuit_file.proofs.FileLaws.{text_grounded, text_related}

module _ (known : Bounds) (line : List ℕ) (n : ℕ) where
  reading : HasOneReading Numbers line
  reading = one_reading Numbers line

  -- what line n is
  abbrev LineAnswer : Type 0
  LineAnswer = IsBlank line ⊎ (((s : Statement) × Says known line n s) ⊎ ((f : NumberFault) × FaultOfLine known line n f))

  parsed_answer : (form : Line Numbers shallow) → Parses line form → (o : Option NumberFault) → bad_line known line n form.form ≡ o → LineAnswer
  parsed_answer form h None e = inr (inl (statement line form.form, record { form = form; parsed = h; good = e; meant = refl }))
  parsed_answer form h (Some f) e = inr (inr (f, name_fault form h e))

  read_answer : ((found : Option Read) × IsRead Numbers line found) ⊎ ((f : LineFault) × IsLineFault Numbers line f) → LineAnswer
  read_answer (inl (None, h)) = inl h
  read_answer (inl (Some r, h)) = parsed_answer h.0 h.1 (bad_line known line n h.0.form) refl
  read_answer (inr h) = inr (inr (of_line n h.0, token_fault h.0 refl h.1))

  line_answer : LineAnswer
  line_answer = read_answer reading.some

  -- a line of the grammar, as it is read
  read_so : (form : Line Numbers shallow) → Parses line form → IsRead Numbers line (Some (read_of form.form))
  read_so form h = (form, h, refl)

  same_read : (a b : Line Numbers shallow) → Parses line a → Parses line b → read_of a.form ≡ read_of b.form
  same_read a b h k =
      let e : Some (read_of a.form) ≡ Some (read_of b.form) = reading.one_line (Some (read_of a.form)) (Some (read_of b.form)) (read_so a h) (read_so b k) in
      let same : read_of a.form ≡ read_of b.form = cc in
      same

  no_line : (form : Line Numbers shallow) → Parses line form → IsBlank line → ⊥
  no_line form h blank = let e : Some (read_of form.form) ≡ None = reading.one_line (Some (read_of form.form)) None (read_so form h) blank in cc

  same_bad : (a b : Line Numbers shallow) → Parses line a → Parses line b → bad_line known line n a.form ≡ bad_line known line n b.form
  same_bad a b h k = sym (flawed_is known line n a.form) ∙ ap (flawed known line n) (same_read a b h k) ∙ flawed_is known line n b.form

  one_said : (s t : Statement) → Says known line n s → Says known line n t → s ≡ t
  one_said s t a b = a.meant ∙ sym (said_is line a.form.form) ∙ ap (said line) (same_read a.form b.form a.parsed b.parsed) ∙ said_is line b.form.form ∙ sym b.meant

  one_line_fault : (f g : NumberFault) → FaultOfLine known line n f → FaultOfLine known line n g → f ≡ g
  one_line_fault f g (token_fault a e h) (token_fault b k i) = e ∙ ap (of_line n) (reading.one_fault a b h i) ∙ sym k
  one_line_fault f g (token_fault a e h) (name_fault form k i) = absurd (reading.not_both (Some (read_of form.form)) a (read_so form k) h)
  one_line_fault f g (name_fault form k i) (token_fault a e h) = absurd (reading.not_both (Some (read_of form.form)) a (read_so form k) h)
  one_line_fault f g (name_fault a h e) (name_fault b k i) =
      let both : Some f ≡ Some g = sym e ∙ same_bad a b h k ∙ i in
      let same : f ≡ g = cc in
      same

  not_said : (s : Statement) (f : NumberFault) → Says known line n s → FaultOfLine known line n f → ⊥
  not_said s f a (token_fault b e h) = reading.not_both (Some (read_of a.form.form)) b (read_so a.form a.parsed) h
  not_said s f a (name_fault b h e) = let no : None ≡ Some f = sym a.good ∙ same_bad a.form b a.parsed h ∙ e in cc

  pub not_blank_fault : (f : NumberFault) → IsBlank line → FaultOfLine known line n f → ⊥
  not_blank_fault f blank (token_fault b e h) = reading.not_both None b blank h
  not_blank_fault f blank (name_fault b h e) = no_line b h blank

  pub not_blank : (s : Statement) → IsBlank line → Says known line n s → ⊥
  not_blank s blank a = no_line a.form a.parsed blank

-- what the lines are, from line n on
abbrev Answer : Bounds → ℕ → List (List ℕ) → Type 0
Answer known n ls = ((p : List Statement) × AreLines known n ls p) ⊎ ((f : NumberFault) × IsFaultIn known n ls f)

after_blank : (known : Bounds) (n : ℕ) (l : List ℕ) (ls : List (List ℕ)) → IsBlank l → Answer known (n + 1) ls → Answer known n (l ∷ ls)
after_blank known n l ls blank (inl a) = inl (a.0, inl (blank, a.1))
after_blank known n l ls blank (inr a) = inr (a.0, inl (blank, a.1))

after_said : (known : Bounds) (n : ℕ) (l : List ℕ) (ls : List (List ℕ)) (s : Statement) → Says known l n s → Answer (knows known s) (n + 1) ls → Answer known n (l ∷ ls)
after_said known n l ls s says (inl a) = inl (s ∷ a.0, inr (s, a.0, refl, says, a.1))
after_said known n l ls s says (inr a) = inr (a.0, inr (inr (s, says, a.1)))

after_line : (known : Bounds) (n : ℕ) (l : List ℕ) (ls : List (List ℕ)) → ((k : Bounds) → Answer k (n + 1) ls) → LineAnswer known l n → Answer known n (l ∷ ls)
after_line known n l ls more (inl blank) = after_blank known n l ls blank (more known)
after_line known n l ls more (inr (inl s)) = after_said known n l ls s.0 s.1 (more (knows known s.0))
after_line known n l ls more (inr (inr f)) = inr (f.0, inr (inl f.1))

answer : (ls : List (List ℕ)) (n : ℕ) (known : Bounds) → Answer known n ls
answer [] n known = inl ([], refl)
answer (l ∷ ls) n known = after_line known n l ls (λ k. answer ls (n + 1) k) (line_answer known l n)

one_program : (known : Bounds) (n : ℕ) (ls : List (List ℕ)) (p r : List Statement) → AreLines known n ls p → AreLines known n ls r → p ≡ r
one_program known n [] p r a b = a ∙ sym b
one_program known n (l ∷ ls) p r (inl a) (inl b) = one_program known (n + 1) ls p r a.1 b.1
one_program known n (l ∷ ls) p r (inl a) (inr b) = absurd (not_blank known l n b.0 a.0 b.3)
one_program known n (l ∷ ls) p r (inr a) (inl b) = absurd (not_blank known l n a.0 b.0 a.3)
one_program known n (l ∷ ls) p r (inr a) (inr b) =
    let same : a.0 ≡ b.0 = one_said known l n a.0 b.0 a.3 b.3 in
    let rest : a.1 ≡ b.1 = one_program (knows known b.0) (n + 1) ls a.1 b.1 (subst (λ (s : Statement). AreLines (knows known s) (n + 1) ls a.1) same a.4) b.4 in
    a.2 ∙ ap₂ (λ s t. s ∷ t) same rest ∙ sym b.2

one_fault : (known : Bounds) (n : ℕ) (ls : List (List ℕ)) (f g : NumberFault) → IsFaultIn known n ls f → IsFaultIn known n ls g → f ≡ g
one_fault known n [] f g a b = absurd a
one_fault known n (l ∷ ls) f g (inl a) (inl b) = one_fault known (n + 1) ls f g a.1 b.1
one_fault known n (l ∷ ls) f g (inl a) (inr (inl b)) = absurd (not_blank_fault known l n g a.0 b)
one_fault known n (l ∷ ls) f g (inl a) (inr (inr b)) = absurd (not_blank known l n b.0 a.0 b.1)
one_fault known n (l ∷ ls) f g (inr (inl a)) (inl b) = absurd (not_blank_fault known l n f b.0 a)
one_fault known n (l ∷ ls) f g (inr (inl a)) (inr (inl b)) = one_line_fault known l n f g a b
one_fault known n (l ∷ ls) f g (inr (inl a)) (inr (inr b)) = absurd (not_said known l n b.0 f b.1 a)
one_fault known n (l ∷ ls) f g (inr (inr a)) (inl b) = absurd (not_blank known l n a.0 b.0 a.1)
one_fault known n (l ∷ ls) f g (inr (inr a)) (inr (inl b)) = absurd (not_said known l n a.0 g a.1 b)
one_fault known n (l ∷ ls) f g (inr (inr a)) (inr (inr b)) =
    one_fault (knows known b.0) (n + 1) ls f g (subst (λ (s : Statement). IsFaultIn (knows known s) (n + 1) ls f) (one_said known l n a.0 b.0 a.1 b.1) a.2) b.2

not_both : (known : Bounds) (n : ℕ) (ls : List (List ℕ)) (p : List Statement) (f : NumberFault) → AreLines known n ls p → IsFaultIn known n ls f → ⊥
not_both known n [] p f a b = b
not_both known n (l ∷ ls) p f (inl a) (inl b) = not_both known (n + 1) ls p f a.1 b.1
not_both known n (l ∷ ls) p f (inl a) (inr (inl b)) = not_blank_fault known l n f a.0 b
not_both known n (l ∷ ls) p f (inl a) (inr (inr b)) = not_blank known l n b.0 a.0 b.1
not_both known n (l ∷ ls) p f (inr a) (inl b) = not_blank known l n a.0 b.0 a.3
not_both known n (l ∷ ls) p f (inr a) (inr (inl b)) = not_said known l n a.0 f a.3 b
not_both known n (l ∷ ls) p f (inr a) (inr (inr b)) =
    not_both (knows known b.0) (n + 1) ls a.1 f (subst (λ (s : Statement). AreLines (knows known s) (n + 1) ls a.1) (one_said known l n a.0 b.0 a.3 b.1) a.4) b.2

-- ---- the whole text

module _ (is_large : List Statement → Bool) (text : List ℕ) where
  abbrev Whole : Type 0
  Whole = ((p : List Statement) × IsProgram is_large text p) ⊎ ((fault : NumberFault) × IsFault is_large text fault)

  sized : IsUtf8 text → (p : List Statement) → AreLines none_known 1 (lines text) p → (b : Bool) → is_large p ≡ b → Whole
  sized u p said true e = inr (TooLarge, too_large refl u p said e)
  sized u p said false e = inl (p, record { utf8 = u; said = said; small = e })

  of_lines : IsUtf8 text → Answer none_known 1 (lines text) → Whole
  of_lines u (inl a) = sized u a.0 a.1 (is_large a.0) refl
  of_lines u (inr a) = inr (a.0, in_line u a.1)

  of_text : (b : Bool) → nat_lt (utf8_valid_len text) (length text) ≡ b → Whole
  of_text true e = inr (NotUtf8 (utf8_valid_len text), not_utf8 refl (ltb-true _ _ e))
  of_text false e = of_lines (text_grounded text e) (answer (lines text) 1 none_known)

  broken : IsUtf8 text → utf8_valid_len text < length text → ⊥
  broken u l = let no : true ≡ false = sym (lt-ltb _ _ l) ∙ text_related text u in cc

  large_apart : (p r : List Statement) → AreLines none_known 1 (lines text) p → AreLines none_known 1 (lines text) r → is_large p ≡ false → is_large r ≡ true → ⊥
  large_apart p r a b e k = let no : false ≡ true = sym e ∙ ap is_large (one_program none_known 1 (lines text) p r a b) ∙ k in cc

  one_text_fault : (f g : NumberFault) → IsFault is_large text f → IsFault is_large text g → f ≡ g
  one_text_fault f g (not_utf8 e l) (not_utf8 k m) = e ∙ sym k
  one_text_fault f g (not_utf8 e l) (in_line u h) = absurd (broken u l)
  one_text_fault f g (not_utf8 e l) (too_large k u p said large) = absurd (broken u l)
  one_text_fault f g (in_line u h) (not_utf8 k m) = absurd (broken u m)
  one_text_fault f g (in_line u h) (in_line v i) = one_fault none_known 1 (lines text) f g h i
  one_text_fault f g (in_line u h) (too_large k v p said large) = absurd (not_both none_known 1 (lines text) p f said h)
  one_text_fault f g (too_large e u p said large) (not_utf8 k m) = absurd (broken u m)
  one_text_fault f g (too_large e u p said large) (in_line v i) = absurd (not_both none_known 1 (lines text) p g said i)
  one_text_fault f g (too_large e u p said large) (too_large k v r told more) = e ∙ sym k

  program_or_fault : (p : List Statement) (f : NumberFault) → IsProgram is_large text p → IsFault is_large text f → ⊥
  program_or_fault p f a (not_utf8 e l) = broken a.utf8 l
  program_or_fault p f a (in_line u h) = not_both none_known 1 (lines text) p f a.said h
  program_or_fault p f a (too_large e u r said large) = large_apart p r a.said said a.small large

  pub one_answer : HasOneAnswer is_large text
  one_answer = record {
    some = of_text (nat_lt (utf8_valid_len text) (length text)) refl;
    one_program = λ p r a b. one_program none_known 1 (lines text) p r a.said b.said;
    one_fault = one_text_fault;
    not_both = program_or_fault;
  }
