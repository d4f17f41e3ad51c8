-- What is made of the elements of an expression is what is made of its term.
use Rattle.std.proofs.Common.{◌≡◌, ℕ, Bool, false, List, [], ◌∷◌, drop, refl, sym, ◌∙◌, ap}
use Rattle.line_grammar.specs.declared.element.ExprElement.{ExprElement}
use Rattle.line_grammar.specs.declared.element.ExprElement.TheVariants as elements
use Rattle.line_grammar.specs.Grammar.{Expr}
use Rattle.line_grammar.specs.Grammar.Expr.{number, named, grouped, paired, prefixed, infixed, chosen}
use Rattle.line_grammar.specs.Postfix.{post}
use Rattle.number_gates.specs.Steps.{Steps, ◌>>=◌, Kept, Ran, run, Runs}
use Rattle.number_gates.proofs.RunSteps.{run_then}
use Rattle.number_circuit.specs.Values.{is_number, most}
use Rattle.number_circuit.specs.Programs.{term}
use Rattle.number_compiler.specs.Terms.{Value, operator_steps, pair_steps, inverse_steps, choice_steps, steps_of}
use Rattle.number_compiler.specs.Circuits.{Names, value_of}
use Rattle.number_compiler.specs.Elements.{put, elements_steps}

module _ (of : Names) (line : List ℕ) where
  abbrev steps : Expr → Steps Value
  steps e = steps_of (value_of of) (term line e)

  -- the rest of the elements, once these steps have given a value, a number of the text or not
  abbrev after : Bool → List ExprElement → List Value → Ran Value → Ran (List Value)
  after by_number rest vs r = run (elements_steps of line by_number rest (r.result ∷ vs)) r.kept

  put_after : (n : ℕ) (ws vs : List Value) (c : Steps Value) (rest : List ExprElement) (k : Kept) → run ((c >>= put n ws) >>= elements_steps of line false rest) k ≡ run (elements_steps of line false rest ((run c k).result ∷ drop n ws)) (run c k).kept
  unfolding run
  put_after n ws vs c rest k =
      run_then (c >>= put n ws) (elements_steps of line false rest) k
      ∙ ap (λ (r : Ran (List Value)). run (elements_steps of line false rest r.result) r.kept) (run_then c (put n ws) k)

  pub walk_steps : (e : Expr) (rest : List ExprElement) (vs : List Value) (by_number : Bool) (k : Kept) → run (elements_steps of line by_number (post e rest) vs) k ≡ after (is_number (term line e)) rest vs (run (steps e) k)
  unfolding run
  walk_steps (number at) rest vs by_number k = refl
  walk_steps (named at) rest vs by_number k = refl
  walk_steps (grouped e) rest vs by_number k = walk_steps e rest vs by_number k
  walk_steps (prefixed x at e) rest vs by_number k =
      let r : Ran Value = run (steps e) k in
      walk_steps e (elements.Prefix x ∷ rest) vs by_number k
      ∙ put_after 1 (r.result ∷ vs) vs (inverse_steps r.result) rest r.kept
      ∙ ap (after false rest vs) (sym (run_then (steps e) inverse_steps k))
  walk_steps (infixed o at a b) rest vs by_number k =
      let r : Ran Value = run (steps a) k in
      let s : Ran Value = run (steps b) r.kept in
      let made : Value → Value → Steps Value = λ x y. operator_steps o (most o x.most y.most (is_number (term line b))) x y in
      walk_steps a (post b (elements.Infix o at ∷ rest)) vs by_number k
      ∙ walk_steps b (elements.Infix o at ∷ rest) (r.result ∷ vs) (is_number (term line a)) r.kept
      ∙ put_after 2 (s.result ∷ r.result ∷ vs) vs (made r.result s.result) rest s.kept
      ∙ ap (after false rest vs) (sym (run_then (steps a) (λ x. steps b >>= (λ y. made x y)) k ∙ run_then (steps b) (λ y. made r.result y) r.kept))
  walk_steps (paired p a b) rest vs by_number k =
      let r : Ran Value = run (steps a) k in
      let s : Ran Value = run (steps b) r.kept in
      walk_steps a (post b (elements.Pair p ∷ rest)) vs by_number k
      ∙ walk_steps b (elements.Pair p ∷ rest) (r.result ∷ vs) (is_number (term line a)) r.kept
      ∙ put_after 2 (s.result ∷ r.result ∷ vs) vs (pair_steps p r.result s.result) rest s.kept
      ∙ ap (after false rest vs) (sym (run_then (steps a) (λ x. steps b >>= (λ y. pair_steps p x y)) k ∙ run_then (steps b) (λ y. pair_steps p r.result y) r.kept))
  walk_steps (chosen c a b) rest vs by_number k =
      let q : Ran Value = run (steps c) k in
      let r : Ran Value = run (steps a) q.kept in
      let s : Ran Value = run (steps b) r.kept in
      walk_steps c (post a (post b (elements.Choose ∷ rest))) vs by_number k
      ∙ walk_steps a (post b (elements.Choose ∷ rest)) (q.result ∷ vs) (is_number (term line c)) q.kept
      ∙ walk_steps b (elements.Choose ∷ rest) (r.result ∷ q.result ∷ vs) (is_number (term line a)) r.kept
      ∙ put_after 3 (s.result ∷ r.result ∷ q.result ∷ vs) vs (choice_steps q.result r.result s.result) rest s.kept
      ∙ ap (after false rest vs) (sym (run_then (steps c) (λ o. steps a >>= (λ x. steps b >>= (λ y. choice_steps o x y))) k
      ∙ run_then (steps a) (λ x. steps b >>= (λ y. choice_steps q.result x y)) q.kept ∙ run_then (steps b) (λ y. choice_steps q.result r.result y) r.kept))

  -- the elements of an expression leave its value, and its gates
  pub walk_all : (e : Expr) (old new : Kept) (vs : List Value) → Runs (elements_steps of line false (post e []) []) old vs new → (v : Value) × (vs ≡ v ∷ []) × Runs (steps e) old v new
  unfolding run
  walk_all e old new vs h =
      let r : Ran Value = run (steps e) old in
      let same : record { result = r.result ∷ []; kept = r.kept } ≡ record { result = vs; kept = new } = sym (walk_steps e [] [] false old) ∙ h.is in
      (r.result, sym (ap (λ (x : Ran (List Value)). x.result) same), record { is = ap (λ k. record { result = r.result; kept = k }) (ap (λ (x : Ran (List Value)). x.kept) same) })
