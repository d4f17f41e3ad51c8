-- The steps of reading a text.
use Rattle.std.proofs.Common.{◌≡◌, ℕ, zero, suc, ◌+◌, ◌<◌, arith, Bool, true, false, cond, nat_eq, nat_lt, List, [], length, inl, inr, Result, Ok, Err, refl, sym, subst}
use Rattle.std.proofs.lemmas.Bool.{eqb-true, ltb-true}
use Rattle.std.proofs.lemmas.List.{append-nil}
use Rattle.std.specs.Result.{MatchResult}
use Rattle.std.specs.Str.{IsUtf8}
use Rattle.std.specs.Str.Lossy.{utf8_valid_len}
use Rattle.circuit_model.specs.Netlists.{Netlist}
use Rattle.number_gates.specs.Steps.{Kept}
use Rattle.number_circuit.specs.declared.fault.NumberFault.{NumberFault}
use Rattle.number_circuit.specs.declared.fault.NumberFault.TheVariants.{NotUtf8, Syntax, UnknownName, BadConstant, TooDeep, TwiceNamed, TooLarge, TooWide, BadWidth, Memory}
use Rattle.number_circuit.specs.Programs.{Statement}
use Rattle.number_circuit.specs.Faults.{AreLines, none_known, lines}
use Rattle.number_circuit.specs.Laws.IsFault.{not_utf8, in_line, too_large}
use Rattle.number_compiler.specs.declared.draft.Draft.{Draft as DraftKept}
use Rattle.number_compiler.specs.Circuits.{Draft}
use Rattle.number_compiler.specs.Elements.{bounds_of}
use Rattle.number_compiler.specs.Keeps.{Keeps, TakesLine, IsDraftOf, Assembles}
use Rattle.number_compiler.specs.Laws.{IsCircuitOf, Refuses}
use Rattle.number_compiler.specs.Progress.{IsReadTo, GoesOn}
use Rattle.number_compiler.proofs.CutLines.{no_line}
use Rattle.number_compiler.proofs.ReadLines.{read_blank, read_said, read_fault}

-- the text isn't UTF-8
abbrev pub is_broken : List ℕ → Bool
is_broken bytes = nat_lt (utf8_valid_len bytes) (length bytes)

-- the answer of the check
abbrev pub checked : Bool → List ℕ → Result (Unit {0}) NumberFault
checked b bytes = cond b (Err (NotUtf8 (utf8_valid_len bytes))) (Ok tt)

pub check_passes : (bytes : List ℕ) (b : Bool) (u : Unit {0}) → Ok u ≡ checked b bytes → b ≡ false
check_passes bytes true u e = cc
check_passes bytes false u e = refl

check_by : (bytes : List ℕ) (f : NumberFault) (b : Bool) → is_broken bytes ≡ b → Err f ≡ checked b bytes → Refuses bytes f
check_by bytes f true broken e = subst (Refuses bytes) (let s : NotUtf8 (utf8_valid_len bytes) ≡ f = cc in s) (not_utf8 refl (ltb-true (utf8_valid_len bytes) (length bytes) broken))
check_by bytes f false broken e = cc

pub check_refuses : (bytes : List ℕ) (f : NumberFault) → Err f ≡ checked (is_broken bytes) bytes → Refuses bytes f
check_refuses bytes f e = check_by bytes f (is_broken bytes) refl e

pub some_bytes : (n : ℕ) → nat_eq n 0 ≡ false → 0 < n
some_bytes zero e = cc
some_bytes (suc n) e = omega arith

pub none_bytes : (n : ℕ) → nat_eq n 0 ≡ true → n ≡ 0
none_bytes n e = eqb-true n 0 e

module _ (bytes rest line after : List ℕ) (n : ℕ) (d : Draft) (s : DraftKept) (cut : GoesOn rest line after) (read : IsReadTo bytes n rest d s.gates) where
  -- a line more was read
  pub line_goes : (new : DraftKept) (r : Result (Unit {0}) NumberFault) (u : Unit {0}) → r ≡ Ok u → TakesLine d line n s r new → (e : Draft) × Keeps new e × IsReadTo bytes (n + 1) after e new.gates
  line_goes new (Err f) u e h = cc
  line_goes new (Ok v) u e (inl h) = (d, h.1, subst (λ (k : Kept). IsReadTo bytes (n + 1) after d k) (sym h.2) (read_blank bytes n rest line after d s.gates cut read h.0))
  line_goes new (Ok v) u e (inr a) = (a.draft, a.keeps, read_said bytes n rest line after d s.gates cut read a.statement a.draft new.gates a.said.says a.said.made a.said.known)

  faulty : (utf8 : IsUtf8 bytes) (new : DraftKept) (f : NumberFault) → TakesLine d line n s (Err f) new → Refuses bytes f
  faulty utf8 new Memory h = tt
  faulty utf8 new (NotUtf8 at) h = in_line utf8 (read_fault bytes n rest line after d s.gates cut read (NotUtf8 at) h)
  faulty utf8 new (Syntax l at) h = in_line utf8 (read_fault bytes n rest line after d s.gates cut read (Syntax l at) h)
  faulty utf8 new (UnknownName l at) h = in_line utf8 (read_fault bytes n rest line after d s.gates cut read (UnknownName l at) h)
  faulty utf8 new (BadConstant l at) h = in_line utf8 (read_fault bytes n rest line after d s.gates cut read (BadConstant l at) h)
  faulty utf8 new (TooDeep l at) h = in_line utf8 (read_fault bytes n rest line after d s.gates cut read (TooDeep l at) h)
  faulty utf8 new (TwiceNamed l) h = in_line utf8 (read_fault bytes n rest line after d s.gates cut read (TwiceNamed l) h)
  faulty utf8 new TooLarge h = in_line utf8 (read_fault bytes n rest line after d s.gates cut read TooLarge h)
  faulty utf8 new (TooWide l at) h = in_line utf8 (read_fault bytes n rest line after d s.gates cut read (TooWide l at) h)
  faulty utf8 new (BadWidth l at) h = in_line utf8 (read_fault bytes n rest line after d s.gates cut read (BadWidth l at) h)

  -- a line has a fault
  pub line_refuses : (utf8 : IsUtf8 bytes) (new : DraftKept) (r : Result (Unit {0}) NumberFault) (f : NumberFault) → r ≡ Err f → TakesLine d line n s r new → Refuses bytes f
  line_refuses utf8 new r f e h = faulty utf8 new f (subst (λ (x : Result (Unit {0}) NumberFault). TakesLine d line n s x new) e h)

-- all lines were read
pub all_read : (bytes rest : List ℕ) (n : ℕ) (d : Draft) (s : DraftKept) → IsReadTo bytes n rest d s.gates → Keeps s d → length rest ≡ 0 → (p : List Statement) × IsDraftOf s p × AreLines none_known 1 (lines bytes) p
all_read bytes rest n d s read k none = (
  read.program,
  record { draft = d; keeps = k; made = read.made },
  subst (AreLines none_known 1 (lines bytes)) (append-nil read.program) (read.says [] (no_line (bounds_of d.of) n rest none)),
)

-- the circuit of the program, or that it is too large
pub whole_answer : (bytes : List ℕ) (p : List Statement) → IsUtf8 bytes → AreLines none_known 1 (lines bytes) p → (r : Result Netlist NumberFault) → Assembles p r → MatchResult r (IsCircuitOf bytes) (Refuses bytes)
whole_answer bytes p utf8 said (Ok c) h = record { program = p; is = record { utf8 = utf8; said = said; small = h.0 }; made = h.1 }
whole_answer bytes p utf8 said (Err Memory) h = tt
whole_answer bytes p utf8 said (Err (NotUtf8 at)) h = too_large h.1 utf8 p said h.0
whole_answer bytes p utf8 said (Err (Syntax l at)) h = too_large h.1 utf8 p said h.0
whole_answer bytes p utf8 said (Err (UnknownName l at)) h = too_large h.1 utf8 p said h.0
whole_answer bytes p utf8 said (Err (BadConstant l at)) h = too_large h.1 utf8 p said h.0
whole_answer bytes p utf8 said (Err (TooDeep l at)) h = too_large h.1 utf8 p said h.0
whole_answer bytes p utf8 said (Err (TwiceNamed l)) h = too_large h.1 utf8 p said h.0
whole_answer bytes p utf8 said (Err TooLarge) h = too_large h.1 utf8 p said h.0
whole_answer bytes p utf8 said (Err (TooWide l at)) h = too_large h.1 utf8 p said h.0
whole_answer bytes p utf8 said (Err (BadWidth l at)) h = too_large h.1 utf8 p said h.0
