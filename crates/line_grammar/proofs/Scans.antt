-- The answer of the parser is what stands in the line.
use Rattle.std.proofs.Common.{◌≡◌, ℕ, ◌<◌, ◌⊎◌, inl, inr, Bool, true, false, cond, nat_lt, nat_le, List, [], ◌∷◌, ◌++◌, length, Option, Some, None, Result, Ok, Err, refl, sym, ◌∙◌, ap, append_assoc}
use Rattle.std.proofs.lemmas.List.{append-nil}
use Rattle.std.proofs.lemmas.Bool.{ltb-true, ltb-false, le-ltb, le-leb, lt-leb, leb-true}
use Rattle.text_tokens.specs.RunTokens.{Placed, bare, tokens}
use Rattle.text_tokens.specs.FirstFaults.{AreFine, StopsAt, EndsAt}
use Rattle.text_tokens.proofs.FirstFaults.{bare-append, viable_front, fine_last}
use Rattle.list_laws.specs.Answers.{◌>>=◌}
use Rattle.line_grammar.specs.declared.token.LineToken.{LineToken}
use Rattle.line_grammar.specs.declared.dialect.Dialect.{Dialect}
use Rattle.line_grammar.specs.declared.fault.LineFault.{LineFault}
use Rattle.line_grammar.specs.declared.fault.LineFault.TheVariants.{Syntax, TooDeep}
use Rattle.line_grammar.specs.declared.limits.TheConstants.{MOST_OPEN}
use Rattle.line_grammar.specs.Tokens.{language}
use Rattle.line_grammar.specs.Grammar.{Line, spell_line, IsViable}
use Rattle.line_grammar.specs.LineFaults.{shallow, IsBlank, IsFine, Parses, IsLineFault}
use Rattle.line_grammar.specs.LineFaults.IsLineFault.{syntax_fault, depth_fault, end_fault}
use Rattle.line_grammar.specs.Machine.{State, start, step, Read, finish}
use Rattle.line_grammar.specs.Postfix.{read_of}
use Rattle.line_grammar.specs.Scanned.{stepped, scan, or_end, is_first, line_end, parse_in}
use Rattle.line_grammar.specs.Laws.{IsRead, HasOneReading}
use Rattle.line_grammar.proofs.Runs.{run, allowed, step_to, run_none, run-append, run_line, finish_line, end_of, line_begun}
use Rattle.line_grammar.proofs.SoundParts.{run_viable, viable_run, finish_spelled, first_blank}

module _ (d : Dialect) where
  -- a run within the limit is a run
  loosen : (ts : List LineToken) (o : Option State) (s : State) → run d shallow o ts ≡ Some s → run d None o ts ≡ Some s
  loosen [] o s e = e
  loosen (t ∷ ts) None s e = let no : None ≡ Some s = sym (run_none d shallow ts) ∙ e in cc
  loosen (t ∷ ts) (Some x) s e = over (step d x t) (λ y. loosen ts (Some y) s) e
    where
      over_limit : (y : State) (b : Bool) → (run d shallow (Some y) ts ≡ Some s → run d None (Some y) ts ≡ Some s) → run d shallow (cond b (Some y) None) ts ≡ Some s → run d None (Some y) ts ≡ Some s
      over_limit y true more e = more e
      over_limit y false more e = let no : None ≡ Some s = sym (run_none d shallow ts) ∙ e in cc

      over : (o : Option State) → ((y : State) → run d shallow (Some y) ts ≡ Some s → run d None (Some y) ts ≡ Some s) → run d shallow (allowed d shallow o) ts ≡ Some s → run d None (allowed d None o) ts ≡ Some s
      over None more e = let no : None ≡ Some s = sym (run_none d shallow ts) ∙ e in cc
      over (Some y) more e = over_limit y (nat_le y.signs MOST_OPEN) (more y) e

  abbrev Goes : List (Placed LineToken) → State → Type 0
  Goes before s = run d shallow (Some start) (bare before) ≡ Some s

  are_fine : (ts : List LineToken) (s : State) → run d shallow (Some start) ts ≡ Some s → AreFine (IsFine d) ts
  are_fine ts s e k = viable_front {Form = Line d shallow} (λ line. spell_line line.form) ts k (run_viable d shallow ts s e)

  run_push : (limit : Option ℕ) (before : List (Placed LineToken)) (s : State) (t : Placed LineToken) → run d limit (Some start) (bare before) ≡ Some s → run d limit (Some start) (bare (before ++ (t ∷ []))) ≡ allowed d limit (step d s t.token)
  run_push limit before s t e = ap (run d limit (Some start)) (bare-append before (t ∷ [])) ∙ run-append d limit (Some start) (bare before) (t.token ∷ []) ∙ ap (λ o. step_to d limit o t.token) e

  module _ (text : List ℕ) where
    -- what a scan of a line has found
    abbrev Scanned : Result State LineFault → Type 0
    Scanned (Ok s) = run d shallow (Some start) (bare (tokens (language d) text)) ≡ Some s
    Scanned (Err f) = IsLineFault d text f

    stuck : (before after : List (Placed LineToken)) (t : Placed LineToken) (s : State) → tokens (language d) text ≡ before ++ (t ∷ after) → Goes before s → step d s t.token ≡ None → StopsAt (language d) (IsFine d) text t.at (λ ts. IsViable d None ts → ⊥)
    stuck before after t s cut e none = record {
      before = before;
      here = t;
      after = after;
      cut = cut;
      place = refl;
      fine = are_fine (bare before) s e;
      fault = λ v.
          let r = viable_run d None refl (bare (before ++ (t ∷ []))) v in
          let no : None ≡ Some r.0 = sym (ap (allowed d None) none) ∙ sym (run_push None before s t (loosen (bare before) (Some start) s e)) ∙ r.1 in
          cc;
    }

    deep : (before after : List (Placed LineToken)) (t : Placed LineToken) (s next : State) → tokens (language d) text ≡ before ++ (t ∷ after) → Goes before s → step d s t.token ≡ Some next → MOST_OPEN < next.signs
        → StopsAt (language d) (IsFine d) text t.at (λ ts. IsViable d None ts × (IsFine d ts → ⊥))
    deep before after t s next cut e goes low = record {
      before = before;
      here = t;
      after = after;
      cut = cut;
      place = refl;
      fine = are_fine (bare before) s e;
      fault = (
        run_viable d None (bare (before ++ (t ∷ []))) next (run_push None before s t (loosen (bare before) (Some start) s e) ∙ ap (allowed d None) goes),
        λ v.
            let r = viable_run d shallow refl (bare (before ++ (t ∷ []))) v in
            let no : None ≡ Some r.0 = sym (ap (allowed d shallow) goes ∙ ap (λ b. cond b (Some next) None) (lt-leb next.signs MOST_OPEN low)) ∙ sym (run_push shallow before s t e) ∙ r.1 in
            cc,
      );
    }

    abbrev Finds : List (Placed LineToken) → Type 0
    Finds ts = (before : List (Placed LineToken)) (s : State) → tokens (language d) text ≡ before ++ ts → Goes before s → Scanned (scan d s ts)

    found_deep : (before ts : List (Placed LineToken)) (t : Placed LineToken) (s next : State) → tokens (language d) text ≡ before ++ (t ∷ ts) → Goes before s → step d s t.token ≡ Some next → Finds ts
        → (b : Bool) → nat_lt MOST_OPEN next.signs ≡ b → Scanned (cond b (Err (TooDeep t.at)) (Ok next) >>= (λ m. scan d m ts))
    found_deep before ts t s next cut e goes ih true low = depth_fault t.at refl (deep before ts t s next cut e goes (ltb-true MOST_OPEN next.signs low))
    found_deep before ts t s next cut e goes ih false low =
        ih (before ++ (t ∷ [])) next (cut ∙ sym (append_assoc before (t ∷ []) ts))
        (run_push shallow before s t e ∙ ap (allowed d shallow) goes ∙ ap (λ b. cond b (Some next) None) (le-leb next.signs MOST_OPEN (ltb-false MOST_OPEN next.signs low)))

    found_step : (before ts : List (Placed LineToken)) (t : Placed LineToken) (s : State) → tokens (language d) text ≡ before ++ (t ∷ ts) → Goes before s → Finds ts → (o : Option State) → step d s t.token ≡ o → Scanned (stepped t.at o >>= (λ m. scan d m ts))
    found_step before ts t s cut e ih None none = syntax_fault t.at refl (stuck before ts t s cut e none)
    found_step before ts t s cut e ih (Some next) goes = found_deep before ts t s next cut e goes ih (nat_lt MOST_OPEN next.signs) refl

    finds : (ts : List (Placed LineToken)) → Finds ts
    finds [] before s cut e = ap (λ ts. run d shallow (Some start) (bare ts)) (cut ∙ append-nil before) ∙ e
    finds (t ∷ ts) before s cut e = found_step before ts t s cut e (finds ts) (step d s t.token) refl

    -- what is found of a line, and its end
    abbrev pub Parsed : Result (Option Read) LineFault → Type 0
    Parsed (Ok found) = IsRead d text found
    Parsed (Err f) = IsLineFault d text f

    blank_tokens : (ts : List (Placed LineToken)) → bare ts ≡ [] → ts ≡ []
    blank_tokens [] e = refl
    blank_tokens (t ∷ ts) e = cc

    some_end : (s : State) → run d shallow (Some start) (bare (tokens (language d) text)) ≡ Some s → is_first s.mode ≡ false → (o : Option Read) → finish s ≡ o → Parsed (or_end (length text) o)
    some_end s e other None none =
        end_fault (length text) refl
        (λ empty.
        let same : s ≡ start = (let k : Some s ≡ Some start = sym e ∙ ap (λ ts. run d shallow (Some start) (bare ts)) empty in cc) in
        let first : true ≡ false = ap (λ (x : State). is_first x.mode) (sym same) ∙ other in
        cc)
        (record {
          place = refl;
          fine = are_fine (bare (tokens (language d) text)) s e;
          none = λ line spelled.
              let same : s ≡ end_of line.form = (let k : Some s ≡ Some (end_of line.form) = sym e ∙ ap (run d shallow (Some start)) (sym spelled) ∙ run_line d shallow refl line.form line.is in cc) in
              let no : None ≡ Some (read_of line.form) = sym none ∙ ap finish same ∙ finish_line d shallow refl line.form line.is in
              cc;
        })
    some_end s e other (Some r) f = finish_spelled d shallow (bare (tokens (language d) text)) s r e f

    ends : (s : State) → run d shallow (Some start) (bare (tokens (language d) text)) ≡ Some s → (b : Bool) → is_first s.mode ≡ b → Parsed (cond b (Ok None) (or_end (length text) (finish s)))
    ends s e true first = blank_tokens (tokens (language d) text) (first_blank d shallow (bare (tokens (language d) text)) s e first)
    ends s e false other = some_end s e other (finish s) refl

    after_scan : (r : Result State LineFault) → Scanned r → Parsed (r >>= line_end (length text))
    after_scan (Ok s) h = ends s h (is_first s.mode) refl
    after_scan (Err f) h = h

    -- the answer of the parser is what stands in the line
    pub parsed : Parsed (parse_in d text)
    unfolding parse_in
    parsed = after_scan (scan d start (tokens (language d) text)) (finds (tokens (language d) text) [] start refl refl)

    -- ---- and what stands in the line is its answer

    clean : (ts : List (Placed LineToken)) (s last : State) → run d shallow (Some s) (bare ts) ≡ Some last → scan d s ts ≡ Ok last
    clean [] s last e = let same : s ≡ last = cc in ap Ok same
    clean (t ∷ ts) s last e = over (step d s t.token) (λ next. clean ts next last) e
      where
        over_limit : (next : State) (b : Bool) → nat_le next.signs MOST_OPEN ≡ b → (run d shallow (Some next) (bare ts) ≡ Some last → scan d next ts ≡ Ok last) → run d shallow (cond b (Some next) None) (bare ts) ≡ Some last → stepped t.at (Some next) >>= (λ m. scan d m ts) ≡ Ok last
        over_limit next true few more e = ap (λ b. cond b (Err (TooDeep t.at)) (Ok next) >>= (λ m. scan d m ts)) (le-ltb MOST_OPEN next.signs (leb-true next.signs MOST_OPEN few)) ∙ more e
        over_limit next false few more e = let no : None ≡ Some last = sym (run_none d shallow (bare ts)) ∙ e in cc

        over : (o : Option State) → ((next : State) → run d shallow (Some next) (bare ts) ≡ Some last → scan d next ts ≡ Ok last) → run d shallow (allowed d shallow o) (bare ts) ≡ Some last → stepped t.at o >>= (λ m. scan d m ts) ≡ Ok last
        over None more e = let no : None ≡ Some last = sym (run_none d shallow (bare ts)) ∙ e in cc
        over (Some next) more e = over_limit next (nat_le next.signs MOST_OPEN) refl (more next) e

    blank_found : IsBlank d text → parse_in d text ≡ Ok None
    unfolding parse_in
    blank_found e = ap (λ ts. scan d start ts >>= line_end (length text)) e

    line_found : (line : Line d shallow) → Parses d text line → parse_in d text ≡ Ok (Some (read_of line.form))
    unfolding parse_in
    line_found line e =
        ap (λ r. r >>= line_end (length text)) (clean (tokens (language d) text) start (end_of line.form) (ap (run d shallow (Some start)) (sym e) ∙ run_line d shallow refl line.form line.is))
        ∙ ap (λ b. cond b (Ok None) (or_end (length text) (finish (end_of line.form)))) (line_begun line.form)
        ∙ ap (or_end (length text)) (finish_line d shallow refl line.form line.is)

    pub read_found : (found : Option Read) → IsRead d text found → parse_in d text ≡ Ok found
    read_found None h = blank_found h
    read_found (Some found) h = line_found h.0 h.1 ∙ ap (λ r. Ok (Some r)) (sym h.2)

    then_scan : (r : Result State LineFault) (xs ys : List (Placed LineToken)) → ((s : State) → scan d s (xs ++ ys) ≡ scan d s xs >>= (λ m. scan d m ys))
        → r >>= (λ m. scan d m (xs ++ ys)) ≡ (r >>= (λ m. scan d m xs)) >>= (λ m. scan d m ys)
    then_scan (Ok s) xs ys h = h s
    then_scan (Err f) xs ys h = refl

    scan-append : (s : State) (xs ys : List (Placed LineToken)) → scan d s (xs ++ ys) ≡ scan d s xs >>= (λ m. scan d m ys)
    scan-append s [] ys = refl
    scan-append s (x ∷ xs) ys = then_scan (stepped x.at (step d s x.token)) xs ys (λ m. scan-append m xs ys)

    -- the scan of tokens of which none has a fault
    scan_fine : (ts : List (Placed LineToken)) → AreFine (IsFine d) (bare ts) → (s : State) × (run d shallow (Some start) (bare ts) ≡ Some s) × (scan d start ts ≡ Ok s)
    scan_fine ts fine =
        let r = viable_run d shallow refl (bare ts) (fine_last (IsFine d) (bare ts) fine) in
        (r.0, r.1, clean ts start r.0 r.1)

    scan_to : (at : ℕ) (P : List LineToken → Type 0) (h : StopsAt (language d) (IsFine d) text at P) (s : State) → scan d start h.before ≡ Ok s → scan d start (tokens (language d) text) ≡ stepped h.here.at (step d s h.here.token) >>= (λ m. scan d m h.after)
    scan_to at P h s e = ap (scan d start) h.cut ∙ scan-append start h.before (h.here ∷ h.after) ∙ ap (λ x. x >>= (λ m. scan d m (h.here ∷ h.after))) e

    no_step : (at : ℕ) (h : StopsAt (language d) (IsFine d) text at (λ ts. IsViable d None ts → ⊥)) (s : State) → Goes h.before s → (o : Option State) → step d s h.here.token ≡ o → o ≡ None
    no_step at h s e None k = refl
    no_step at h s e (Some next) k =
        absurd (h.fault (run_viable d None (bare (h.before ++ (h.here ∷ []))) next (run_push None h.before s h.here (loosen (bare h.before) (Some start) s e) ∙ ap (allowed d None) k)))

    stop_found : (at : ℕ) → StopsAt (language d) (IsFine d) text at (λ ts. IsViable d None ts → ⊥) → scan d start (tokens (language d) text) ≡ Err (Syntax at)
    stop_found at h =
        let r = scan_fine h.before h.fine in
        scan_to at _ h r.0 r.2 ∙ ap (λ o. stepped h.here.at o >>= (λ m. scan d m h.after)) (no_step at h r.0 r.1 (step d r.0 h.here.token) refl) ∙ ap (λ k. Err (Syntax k)) h.place

    too_many : (at : ℕ) (h : StopsAt (language d) (IsFine d) text at (λ ts. IsViable d None ts × (IsFine d ts → ⊥))) (s next : State) → Goes h.before s → step d s h.here.token ≡ Some next → (b : Bool) → nat_lt MOST_OPEN next.signs ≡ b → b ≡ true
    too_many at h s next e k true low = refl
    too_many at h s next e k false low =
        absurd (h.fault.1 (run_viable d shallow (bare (h.before ++ (h.here ∷ []))) next
        (run_push shallow h.before s h.here e ∙ ap (allowed d shallow) k ∙ ap (λ b. cond b (Some next) None) (le-leb next.signs MOST_OPEN (ltb-false MOST_OPEN next.signs low)))))

    some_step : (at : ℕ) (h : StopsAt (language d) (IsFine d) text at (λ ts. IsViable d None ts × (IsFine d ts → ⊥))) (s : State) → Goes h.before s → (o : Option State) → step d s h.here.token ≡ o → stepped h.here.at o >>= (λ m. scan d m h.after) ≡ Err (TooDeep h.here.at)
    some_step at h s e None k =
        let r = viable_run d None refl (bare (h.before ++ (h.here ∷ []))) h.fault.0 in
        let no : None ≡ Some r.0 = sym (ap (allowed d None) k) ∙ sym (run_push None h.before s h.here (loosen (bare h.before) (Some start) s e)) ∙ r.1 in
        cc
    some_step at h s e (Some next) k = ap (λ b. cond b (Err (TooDeep h.here.at)) (Ok next) >>= (λ m. scan d m h.after)) (too_many at h s next e k (nat_lt MOST_OPEN next.signs) refl)

    deep_found : (at : ℕ) → StopsAt (language d) (IsFine d) text at (λ ts. IsViable d None ts × (IsFine d ts → ⊥)) → scan d start (tokens (language d) text) ≡ Err (TooDeep at)
    deep_found at h =
        let r = scan_fine h.before h.fine in
        scan_to at _ h r.0 r.2 ∙ some_step at h r.0 r.1 (step d r.0 h.here.token) refl ∙ ap (λ k. Err (TooDeep k)) h.place

    no_finish : (s : State) → run d shallow (Some start) (bare (tokens (language d) text)) ≡ Some s → ((line : Line d shallow) → spell_line line.form ≡ bare (tokens (language d) text) → ⊥) → (o : Option Read) → finish s ≡ o → o ≡ None
    no_finish s e not None h = refl
    no_finish s e not (Some r) h = let g = finish_spelled d shallow (bare (tokens (language d) text)) s r e h in absurd (not g.0 g.1)

    begun : (s : State) → run d shallow (Some start) (bare (tokens (language d) text)) ≡ Some s → (IsBlank d text → ⊥) → (b : Bool) → is_first s.mode ≡ b → b ≡ false
    begun s e some true f = absurd (some (blank_tokens (tokens (language d) text) (first_blank d shallow (bare (tokens (language d) text)) s e f)))
    begun s e some false f = refl

    end_found : (at : ℕ) → (IsBlank d text → ⊥) → EndsAt (language d) (IsFine d) {Form = Line d shallow} (λ line. spell_line line.form) text at → parse_in d text ≡ Err (Syntax at)
    unfolding parse_in
    end_found at some h =
        let r = scan_fine (tokens (language d) text) h.fine in
        ap (λ x. x >>= line_end (length text)) r.2
        ∙ ap (λ b. cond b (Ok None) (or_end (length text) (finish r.0))) (begun r.0 r.1 some (is_first r.0.mode) refl)
        ∙ ap (or_end (length text)) (no_finish r.0 r.1 h.none (finish r.0) refl)
        ∙ ap (λ k. Err (Syntax k)) (sym h.place)

    pub fault_found : (f : LineFault) → IsLineFault d text f → parse_in d text ≡ Err f
    unfolding parse_in
    fault_found f (syntax_fault at e h) = ap (λ x. x >>= line_end (length text)) (stop_found at h) ∙ ap Err (sym e)
    fault_found f (depth_fault at e h) = ap (λ x. x >>= line_end (length text)) (deep_found at h) ∙ ap Err (sym e)
    fault_found f (end_fault at e some h) = end_found at some h ∙ ap Err (sym e)

    some_answer : (r : Result (Option Read) LineFault) → Parsed r → ((found : Option Read) × IsRead d text found) ⊎ ((fault : LineFault) × IsLineFault d text fault)
    some_answer (Ok found) h = inl (found, h)
    some_answer (Err f) h = inr (f, h)

    pub one_reading : HasOneReading d text
    one_reading = record {
      some = some_answer (parse_in d text) parsed;
      one_line = λ a b p q. let e = read_found a p in let k = read_found b q in let same : a ≡ b = cc in same;
      one_fault = λ f g p q. let e = fault_found f p in let k = fault_found g q in let same : f ≡ g = cc in same;
      not_both = λ a f p q. let e = read_found a p in let k = fault_found f q in let no : ⊥ = cc in no;
    }
