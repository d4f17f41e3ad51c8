-- The steps of compiling a text.
use Rattle.std.proofs.Common.{◌≡◌, ℕ, zero, suc, ◌+◌, ◌^◌, ◌<◌, ◌≤◌, arith, Bool, true, false, cond, nat_eq, nat_lt, List, length, Result, Ok, Err, refl, sym, ◌∙◌, ap, subst}
use Rattle.std.proofs.lemmas.Bool.{eqb-true}
use Rattle.std.specs.Result.{MatchResult}
use Rattle.std.specs.Str.Lossy.{utf8_valid_len}
use Rattle.expr_circuit.specs.declared.fault.ExprFault.{ExprFault}
use Rattle.expr_circuit.specs.declared.fault.ExprFault.TheVariants.{NotUtf8, Syntax, UnknownName, BadConstant, TooDeep, TwiceNamed, TooLarge, Memory}
use Rattle.expr_circuit.specs.Faults.{lines, none_known}
use Rattle.expr_circuit.specs.Circuits.{Draft, no_lines, draft_of, netlist, is_large}
use Rattle.expr_circuit.specs.Walks.{line_in, lines_in, lines_after, netlist_in, compiled_in}
use Rattle.list_laws.specs.Answers.{◌>>=◌}
use Rattle.expr_circuit.specs.Kept.{Fails, Gives, IsSound}
use Rattle.expr_circuit.specs.Keeps.{Keeps, Becomes}
use Rattle.expr_circuit.specs.declared.draft.Draft.{Draft as DraftKept}
use Rattle.expr_circuit.specs.Laws.{IsCircuitOf, Refuses, IsFault}
use Rattle.circuit_model.specs.Netlists.{Netlist, IsCircuit}
use Rattle.expr_circuit.specs.Programs.{Statement}
use Rattle.expr_circuit.proofs.GoodPrograms.{good_lines}
use Rattle.expr_circuit.proofs.Wires.{known_after}
use Rattle.expr_circuit.proofs.Netlists.{circuit_is, small_draft, draft_fits}
use Rattle.expr_circuit.proofs.LineWalks.{Done, done}
use Rattle.expr_circuit.proofs.CutLines.{no_line}
use Rattle.expr_circuit.proofs.GateSteps.{fails_on}
use Rattle.expr_circuit.proofs.OneAnswer.{Answered, answered, none_tells}

-- the text is UTF-8
abbrev pub is_broken : List ℕ → Bool
is_broken bytes = nat_lt (utf8_valid_len bytes) (length bytes)

pub check_passes : (b : Bool) (f : ExprFault) (x : Result (Unit {0}) ExprFault) → x ≡ cond b (Err f) (Ok tt) → x ≡ Ok tt → b ≡ false
check_passes true f x e ok = let k : Err f ≡ Ok tt = sym e ∙ ok in cc
check_passes false f x e ok = refl

-- the answer of the check
abbrev pub checked : Bool → List ℕ → Result (Unit {0}) ExprFault
checked b bytes = cond b (Err (NotUtf8 (utf8_valid_len bytes))) (Ok tt)

check_by : (bits : ℕ) (bytes : List ℕ) (f : ExprFault) (b : Bool) → Err f ≡ checked b bytes → Fails f (cond b (Err (NotUtf8 (utf8_valid_len bytes))) (lines_in (2 ^ bits) no_lines 1 (lines bytes) >>= netlist_in bits))
check_by bits bytes f true e = subst (λ (g : ExprFault). Fails {B = Netlist} g (Err (NotUtf8 (utf8_valid_len bytes)))) (let s : NotUtf8 (utf8_valid_len bytes) ≡ f = cc in s) refl
check_by bits bytes f false e = cc

pub check_fails : (bits : ℕ) (bytes : List ℕ) (f : ExprFault) → Err f ≡ checked (is_broken bytes) bytes → Fails f (compiled_in bits bytes)
unfolding compiled_in
check_fails bits bytes f e = check_by bits bytes f (is_broken bytes) e

over_lines : (bits : ℕ) (bytes : List ℕ) → is_broken bytes ≡ false → compiled_in bits bytes ≡ lines_in (2 ^ bits) no_lines 1 (lines bytes) >>= netlist_in bits
unfolding compiled_in
over_lines bits bytes e = ap (λ b. cond b (Err (NotUtf8 (utf8_valid_len bytes))) (lines_in (2 ^ bits) no_lines 1 (lines bytes) >>= netlist_in bits)) e

-- a line more was read
pub line_read : (q n : ℕ) (d next : Draft) (rest first after : List ℕ) (whole : Result Draft ExprFault) → whole ≡ lines_in q d n (lines rest) → lines_in q d n (lines rest) ≡ lines_after q n (line_in q d n first) (lines after) → line_in q d n first ≡ Ok next
    → whole ≡ lines_in q next (n + 1) (lines after)
line_read q n d next rest first after whole before cut e = before ∙ cut ∙ ap (λ r. lines_after q n r (lines after)) e

pub line_fails : (bits n : ℕ) (bytes : List ℕ) (d : Draft) (rest first after : List ℕ) (f : ExprFault) → is_broken bytes ≡ false → lines_in (2 ^ bits) no_lines 1 (lines bytes) ≡ lines_in (2 ^ bits) d n (lines rest)
    → lines_in (2 ^ bits) d n (lines rest) ≡ lines_after (2 ^ bits) n (line_in (2 ^ bits) d n first) (lines after) → Fails f (line_in (2 ^ bits) d n first) → Fails f (compiled_in bits bytes)
line_fails bits n bytes d rest first after f whole before cut h =
    fails_on f (line_in (2 ^ bits) d n first) (compiled_in bits bytes)
    (λ g e. over_lines bits bytes whole ∙ ap (λ r. r >>= netlist_in bits) (before ∙ cut ∙ ap (λ r. lines_after (2 ^ bits) n r (lines after)) e)) h

-- all lines were read
pub lines_read : (bits n : ℕ) (bytes : List ℕ) (d : Draft) (rest : List ℕ) → is_broken bytes ≡ false → lines_in (2 ^ bits) no_lines 1 (lines bytes) ≡ lines_in (2 ^ bits) d n (lines rest) → length rest ≡ 0 → compiled_in bits bytes ≡ netlist_in bits d
lines_read bits n bytes d rest whole before none = over_lines bits bytes whole ∙ ap (λ r. r >>= netlist_in bits) (before ∙ no_line (2 ^ bits) n d rest none)

-- what is answered stands in the text
pub answer_made : (bits : ℕ) (bytes : List ℕ) (found : Netlist) → compiled_in bits bytes ≡ Ok found → IsCircuitOf bits bytes found
answer_made bits bytes found e = subst (Answered bits bytes) e (answered bits bytes)

answer_refused : (bits : ℕ) (bytes : List ℕ) (f : ExprFault) → compiled_in bits bytes ≡ Err f → IsFault bits bytes f
answer_refused bits bytes f e = subst (Answered bits bytes) e (answered bits bytes)

pub answer_refuses : (bits : ℕ) (bytes : List ℕ) (f : ExprFault) → Fails f (compiled_in bits bytes) → Refuses bits bytes f
answer_refuses bits bytes Memory h = tt
answer_refuses bits bytes (NotUtf8 at) h = answer_refused bits bytes (NotUtf8 at) h
answer_refuses bits bytes (Syntax line at) h = answer_refused bits bytes (Syntax line at) h
answer_refuses bits bytes (UnknownName line at) h = answer_refused bits bytes (UnknownName line at) h
answer_refuses bits bytes (BadConstant line at) h = answer_refused bits bytes (BadConstant line at) h
answer_refuses bits bytes (TooDeep line at) h = answer_refused bits bytes (TooDeep line at) h
answer_refuses bits bytes (TwiceNamed line) h = answer_refused bits bytes (TwiceNamed line) h
answer_refuses bits bytes TooLarge h = answer_refused bits bytes TooLarge h

-- a line that was added
pub line_goes : {A : Type 0} (r : Result A ExprFault) (a : A) (new : DraftKept) (wanted : Result Draft ExprFault) → r ≡ Ok a → Becomes r new wanted → (e : Draft) × (wanted ≡ Ok e) × Keeps new e
line_goes (Ok b) a new wanted e h = h
line_goes (Err f) a new wanted e h = cc

pub line_faulty : {A : Type 0} (r : Result A ExprFault) (f : ExprFault) (new : DraftKept) (wanted : Result Draft ExprFault) → r ≡ Err f → Becomes r new wanted → Fails f wanted
line_faulty (Ok b) f new wanted e h = cc
line_faulty (Err g) f new wanted e h = subst (λ k. Fails k wanted) (let s : g ≡ f = cc in s) h

pub some_bytes : (n : ℕ) → nat_eq n 0 ≡ false → 0 < n
some_bytes zero e = cc
some_bytes (suc n) e = omega arith

pub none_bytes : (n : ℕ) → nat_eq n 0 ≡ true → n ≡ 0
none_bytes n e = eqb-true n 0 e

pub read_answer : (bits : ℕ) (bytes : List ℕ) (r : Result Netlist ExprFault) → Gives r (compiled_in bits bytes) → MatchResult r (IsCircuitOf bits bytes) (Refuses bits bytes)
read_answer bits bytes (Ok c) h = answer_made bits bytes c h
read_answer bits bytes (Err f) h = answer_refuses bits bytes f h

-- the circuit of what the lines say is a valid one
pub lines_sound : (bits : ℕ) (bytes : List ℕ) (d : Draft) → 0 < bits → bits ≤ 64 → lines_in (2 ^ bits) no_lines 1 (lines bytes) ≡ Ok d → IsSound bits d
unfolding draft_of
lines_sound bits bytes d some few e small =
    let found = subst (Done (2 ^ bits) none_known no_lines 1 (lines bytes)) e (done (2 ^ bits) 1 (lines bytes) none_known no_lines none_tells) in
    let p : List Statement = found.0 in
    let same : d ≡ draft_of p = found.2 in
    subst (λ (x : Draft). IsCircuit (netlist bits x)) (sym same)
    (circuit_is bits (known_after none_known p) (draft_of p) some few (small_draft bits (draft_of p) (subst (λ (x : Draft). is_large (netlist bits x) ≡ false) same small))
    (draft_fits (2 ^ bits) p (good_lines (2 ^ bits) none_known 1 (lines bytes) p found.1)))
