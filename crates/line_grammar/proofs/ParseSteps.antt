-- The steps of reading a line.
use Rattle.std.proofs.Common.{◌≡◌, ℕ, ◌<◌, Bool, true, false, cond, List, [], ◌∷◌, length, Option, Some, None, Ok, Err, refl, sym, ◌∙◌, ap}
use Rattle.std.proofs.lemmas.Bool.{lt-ltb}
use Rattle.text_tokens.specs.RunTokens.{Placed, tokens}
use Rattle.list_laws.specs.Answers.{◌>>=◌}
use Rattle.line_grammar.specs.declared.fault.LineFault.TheVariants.{Syntax, TooDeep}
use Rattle.line_grammar.specs.declared.token.LineToken.{LineToken}
use Rattle.line_grammar.specs.declared.dialect.Dialect.{Dialect}
use Rattle.line_grammar.specs.declared.limits.TheConstants.{MOST_OPEN}
use Rattle.line_grammar.specs.Tokens.{language}
use Rattle.line_grammar.specs.Machine.{State, start, step, Read, finish}
use Rattle.line_grammar.specs.Scanned.{stepped, scan, is_first, or_end, line_end, parse_in, Advances}

no_next : (o : Option State) (b : Bool) (new : State) → Advances o b new → b ≡ false → o ≡ None
no_next None b new a e = refl
no_next (Some s) b new a e = let t : b ≡ true = a.0 in cc

a_next : (o : Option State) (b : Bool) (new : State) → Advances o b new → b ≡ true → o ≡ Some new
a_next None b new a e = let f : b ≡ false = a in cc
a_next (Some s) b new a e = ap Some (sym a.1)

module _ (d : Dialect) (text : List ℕ) (s : State) (left : List (Placed LineToken)) where
  -- what is left of the tokens, where the parser has this state
  abbrev pub Reads : Type 0
  Reads = scan d start (tokens (language d) text) ≡ scan d s left

  pub stuck_there : (new : State) (t : Placed LineToken) (rest : List (Placed LineToken)) (b : Bool) → Reads → left ≡ t ∷ rest → Advances (step d s t.token) b new → b ≡ false → parse_in d text ≡ Err (Syntax t.at)
  unfolding parse_in
  stuck_there new t rest b scanned found a e =
      ap (λ r. r >>= line_end (length text)) (scanned ∙ ap (scan d s) found ∙ ap (λ o. stepped t.at o >>= (λ next. scan d next rest)) (no_next (step d s t.token) b new a e))

  pub deep_there : (new : State) (t : Placed LineToken) (rest : List (Placed LineToken)) (b : Bool) → Reads → left ≡ t ∷ rest → Advances (step d s t.token) b new → b ≡ true → MOST_OPEN < new.signs → parse_in d text ≡ Err (TooDeep t.at)
  unfolding parse_in
  deep_there new t rest b scanned found a e low =
      ap (λ r. r >>= line_end (length text)) (scanned ∙ ap (scan d s) found ∙ ap (λ o. stepped t.at o >>= (λ next. scan d next rest)) (a_next (step d s t.token) b new a e)
      ∙ ap (λ c. cond c (Err (TooDeep t.at)) (Ok new) >>= (λ next. scan d next rest)) (lt-ltb MOST_OPEN new.signs low))

  at_end : Reads → left ≡ [] → parse_in d text ≡ line_end (length text) s
  unfolding parse_in
  at_end scanned none = ap (λ r. r >>= line_end (length text)) (scanned ∙ ap (scan d s) none)

  pub blank_there : Reads → left ≡ [] → is_first s.mode ≡ true → parse_in d text ≡ Ok None
  blank_there scanned none first = at_end scanned none ∙ ap (λ b. cond b (Ok None) (or_end (length text) (finish s))) first

  pub ended_there : (o : Option Read) → Reads → left ≡ [] → is_first s.mode ≡ false → finish s ≡ o → parse_in d text ≡ or_end (length text) o
  ended_there o scanned none first e =
      at_end scanned none ∙ ap (λ b. cond b (Ok None) (or_end (length text) (finish s))) first ∙ ap (or_end (length text)) e
