-- The elements of an expression, step by step.
use Rattle.std.proofs.Common.{◌≡◌, ℕ, zero, suc, Bool, true, false, cond, ◌+◌, ◌<◌, ◌≤◌, arith, List, [], ◌∷◌, length, get_or, drop, Option, Some, None, Result, Ok, Err, max, refl, sym, ◌∙◌, ap, ap₂, subst}
use Rattle.std.specs.Prelude.{unwrap_or}
use Rattle.line_grammar.specs.declared.element.ExprElement.TheVariants as elements
use Rattle.line_grammar.specs.declared.element.ExprElement.{ExprElement}
use Rattle.line_grammar.specs.declared.operator.Infix.{Infix}
use Rattle.number_gates.specs.declared.wire.Bit.{Bit}
use Rattle.line_grammar.specs.declared.operator.Prefix.{Prefix}
use Rattle.line_grammar.specs.declared.operator.Pair.{Pair}
use Rattle.number_gates.specs.Steps.{Steps, done, ◌>>=◌, Kept, Ran, run, Runs}
use Rattle.number_gates.proofs.RunSteps.{runs_result, runs_then, runs_along, run_then}
use Rattle.number_circuit.specs.declared.fault.NumberFault.{NumberFault}
use Rattle.number_circuit.specs.declared.fault.NumberFault.TheVariants.{UnknownName, TooWide, BadConstant, NotUtf8, Syntax, TooDeep, TwiceNamed, TooLarge, BadWidth, Memory}
use Rattle.number_circuit.specs.Values.{most, extreme}
use Rattle.line_grammar.specs.Places.{name_at, number_at}
use Rattle.number_circuit.specs.Faults.{fits}
use Rattle.list_laws.specs.Answers as answers
use Rattle.number_circuit.specs.Walks.{top, named_bound, if_fits, says_number, element_in, elements_in}
use Rattle.number_compiler.specs.declared.number.Number.{Number}
use Rattle.number_compiler.specs.Terms.{Value, fitted, operated, operator_steps, chosen_of, pair_steps, inverse_steps, choice_steps, constant_value}
use Rattle.number_gates.specs.BitGates.{opposite}
use Rattle.number_gates.specs.Numbers.{some, less, choose}
use Rattle.number_compiler.specs.Circuits.{Names, value_of, no_value}
use Rattle.number_compiler.specs.Elements.{top_value, put, element_steps, elements_steps, most_known, bounds_of, mosts}
use Rattle.number_compiler.specs.Named.{seen_if}
use Rattle.number_compiler.specs.Seen.{seen}
use Rattle.number_compiler.specs.Moves.{Fails, Moves, Expresses}

pub seen_bound : (b : Bool) (n : Number) (o : Option Number) → seen_if (cond b (Some n) o) ≡ cond b (Some (seen n)) (seen_if o)
seen_bound true n o = refl
seen_bound false n o = refl

-- ---- bounds of values that wait

mosts_drop : (n : ℕ) (vs : List Value) → mosts (drop n vs) ≡ drop n (mosts vs)
mosts_drop zero vs = refl
mosts_drop (suc n) [] = refl
mosts_drop (suc n) (v ∷ vs) = mosts_drop n vs

top_most : (vs : List Value) → (top_value vs).most ≡ top (mosts vs)
top_most [] = refl
top_most (v ∷ vs) = refl

-- the bound of what an operator makes
last_most : {A : Type 0} (c : Steps A) (f : A → Value) (m : ℕ) (k new : Kept) (v : Value) → ((a : A) → (f a).most ≡ m) → Runs (c >>= (λ a. done (f a))) k v new → v.most ≡ m
unfolding run
last_most c f m k new v h r =
    sym (ap (λ (x : Ran Value). x.result.most) (sym (run_then c (λ a. done (f a)) k) ∙ r.is)) ∙ h (run c k).result

operator_most : (o : Infix) (m : ℕ) (a b v : Value) (k new : Kept) → Runs (operator_steps o m a b) k v new → v.most ≡ m
operator_most o m a b v k new r = last_most (operated o a.bits b.bits) (fitted m) m k new v (λ c. refl) r

inverse_most : (a v : Value) (k new : Kept) → Runs (inverse_steps a) k v new → v.most ≡ 1
unfolding run
inverse_most a v k new r =
    let s : Ran Bit = run (some a.bits) k in
    last_most (opposite s.result) (λ c. fitted 1 (c ∷ [])) 1 s.kept new v (λ c. refl) (record { is = sym (run_then (some a.bits) (λ o. opposite o >>= (λ c. done (fitted 1 (c ∷ [])))) k) ∙ r.is })

pair_most : (p : Pair) (a b v : Value) (k new : Kept) → Runs (pair_steps p a b) k v new → v.most ≡ extreme p a.most b.most
unfolding run
pair_most p a b v k new r =
    let s : Ran Bit = run (less a.bits b.bits) k in
    let m : ℕ = extreme p a.most b.most in
    last_most (chosen_of p s.result a.bits b.bits) (fitted m) m s.kept new v (λ c. refl) (record { is = sym (run_then (less a.bits b.bits) (λ o. chosen_of p o a.bits b.bits >>= (λ c. done (fitted m c))) k) ∙ r.is })

choice_most : (c a b v : Value) (k new : Kept) → Runs (choice_steps c a b) k v new → v.most ≡ max a.most b.most
unfolding run
choice_most c a b v k new r =
    let s : Ran Bit = run (some c.bits) k in
    let m : ℕ = max a.most b.most in
    last_most (choose s.result a.bits b.bits) (fitted m) m s.kept new v (λ d. refl) (record { is = sym (run_then (some c.bits) (λ o. choose o a.bits b.bits >>= (λ d. done (fitted m d))) k) ∙ r.is })

fit_bound : (b m : ℕ) (bs : List ℕ) (f : NumberFault) (t : Bool) → Some m ≡ cond t (Some b) None → cond t (Ok (b ∷ bs)) (Err f) ≡ Ok (b ∷ bs)
fit_bound b m bs f true e = refl
fit_bound b m bs f false e = cc

no_bound : (b : ℕ) (bs : List ℕ) (f : NumberFault) (t : Bool) → None ≡ cond t (Some b) None → cond t (Ok (b ∷ bs)) (Err f) ≡ Err f
no_bound b bs f true e = cc
no_bound b bs f false e = refl

-- ---- elements

pub name_moves : (of : Names) (line : List ℕ) (by_number : Bool) (n at : ℕ) (vs ws : List Value) (k : Kept) (v : Value) → of (name_at line at) ≡ Some v → ws ≡ v ∷ vs → Moves {A = Unit {0}} of line n by_number (elements.Name at) vs k (Ok tt) ws k
name_moves of line by_number n at vs ws k v e w = (
  ap (λ o. named_bound n at (mosts vs) (most_known o)) e ∙ ap (λ us. Ok (mosts us)) (sym w),
  runs_result (put 0 vs (value_of of (name_at line at))) k ws (ap (λ o. done (unwrap_or o no_value ∷ vs)) e ∙ ap done (sym w)),
)

pub name_unknown : (of : Names) (line : List ℕ) (by_number : Bool) (n at : ℕ) (vs : List Value) → of (name_at line at) ≡ None → element_in (bounds_of of) line n by_number (elements.Name at) (mosts vs) ≡ Err (UnknownName n at)
name_unknown of line by_number n at vs e = ap (λ o. named_bound n at (mosts vs) (most_known o)) e

-- what was pushed stands in the place of the operands
pushed_runs : (of : Names) (c : Steps Value) (n : ℕ) (vs rest ws : List Value) (v : Value) (old new : Kept) → Runs c old v new → ws ≡ v ∷ rest → rest ≡ drop n vs → Runs (c >>= put n vs) old ws new
pushed_runs of c n vs rest ws v old new r w e = runs_then (put n vs) r (runs_result (put n vs v) new ws (ap done (sym (w ∙ ap (λ us. v ∷ us) e))))

two_gone : (vs mid rest : List Value) → mid ≡ drop 1 vs → rest ≡ drop 1 mid → rest ≡ drop 2 vs
two_gone vs mid rest e f = f ∙ ap (drop 1) e ∙ again vs
  where
    again : (vs : List Value) → drop 1 (drop 1 vs) ≡ drop 2 vs
    again [] = refl
    again (v ∷ vs) = refl

-- the bound that an operator makes of the last two of values
infix_bound : (o : Infix) (by_number : Bool) (vs mid : List Value) (a b : Value) → b ≡ top_value vs → mid ≡ drop 1 vs → a ≡ top_value mid → most o a.most b.most by_number ≡ most o (top (drop 1 (mosts vs))) (top (mosts vs)) by_number
infix_bound o by_number vs mid a b eb em ea =
    ap₂ (λ x y. most o x y by_number) (ap (λ (x : Value). x.most) (ea ∙ ap top_value em) ∙ top_most (drop 1 vs) ∙ ap top (mosts_drop 1 vs)) (ap (λ (x : Value). x.most) eb ∙ top_most vs)

found_bound : (b m : ℕ) (t : Bool) → Some m ≡ cond t (Some b) None → m ≡ b
found_bound b m true e = cc
found_bound b m false e = cc

pub infix_moves : (of : Names) (line : List ℕ) (by_number : Bool) (n at : ℕ) (o : Infix) (vs mid rest ws : List Value) (a b v : Value) (m : ℕ) (old new : Kept)
    → b ≡ top_value vs → mid ≡ drop 1 vs → a ≡ top_value mid → rest ≡ drop 1 mid → Some m ≡ cond (fits (most o a.most b.most by_number)) (Some (most o a.most b.most by_number)) None → Runs (operator_steps o m a b) old v new → ws ≡ v ∷ rest
    → Moves {A = Unit {0}} of line n by_number (elements.Infix o at) vs old (Ok tt) ws new
infix_moves of line by_number n at o vs mid rest ws a b v m old new eb em ea er fit r w =
    let here : ℕ = most o a.most b.most by_number in
    let bound : here ≡ most o (top (drop 1 (mosts vs))) (top (mosts vs)) by_number = infix_bound o by_number vs mid a b eb em ea in
    let is : m ≡ here = found_bound here m (fits here) fit in
    let left : a ≡ top_value (drop 1 vs) = ea ∙ ap top_value em in
    let made : m ≡ most o (top_value (drop 1 vs)).most (top_value vs).most by_number = is ∙ ap₂ (λ (x y : Value). most o x.most y.most by_number) left eb in
    let gone : rest ≡ drop 2 vs = two_gone vs mid rest em er in (
      ap (λ k. if_fits k (drop 2 (mosts vs)) (TooWide n at)) (sym bound) ∙ fit_bound here m (drop 2 (mosts vs)) (TooWide n at) (fits here) fit
          ∙ ap₂ (λ k us. Ok (k ∷ us)) (sym (operator_most o m a b v old new r ∙ is)) (sym (mosts_drop 2 vs) ∙ ap mosts (sym gone)) ∙ ap (λ us. Ok (mosts us)) (sym w),
      pushed_runs of (operator_steps o (most o (top_value (drop 1 vs)).most (top_value vs).most by_number) (top_value (drop 1 vs)) (top_value vs)) 2 vs rest ws v old new
          (runs_along (ap (λ k. operator_steps o k a b) made ∙ ap₂ (operator_steps o (most o (top_value (drop 1 vs)).most (top_value vs).most by_number)) left eb) r) w gone,
    )

pub infix_wide : (of : Names) (line : List ℕ) (by_number : Bool) (n at : ℕ) (o : Infix) (vs mid : List Value) (a b : Value)
    → b ≡ top_value vs → mid ≡ drop 1 vs → a ≡ top_value mid → None ≡ cond (fits (most o a.most b.most by_number)) (Some (most o a.most b.most by_number)) None → element_in (bounds_of of) line n by_number (elements.Infix o at) (mosts vs) ≡ Err (TooWide n at)
infix_wide of line by_number n at o vs mid a b eb em ea fit =
    let here : ℕ = most o a.most b.most by_number in
    ap (λ k. if_fits k (drop 2 (mosts vs)) (TooWide n at)) (sym (infix_bound o by_number vs mid a b eb em ea)) ∙ no_bound here (drop 2 (mosts vs)) (TooWide n at) (fits here) fit

three_gone : (vs mid rest last : List Value) → mid ≡ drop 1 vs → rest ≡ drop 1 mid → last ≡ drop 1 rest → last ≡ drop 3 vs
three_gone vs mid rest last e f g = g ∙ ap (drop 1) (two_gone vs mid rest e f) ∙ again vs
  where
    again : (vs : List Value) → drop 1 (drop 2 vs) ≡ drop 3 vs
    again [] = refl
    again (v ∷ []) = refl
    again (v ∷ w ∷ vs) = refl

-- the value of an element that has no fault
put_moves : (of : Names) (line : List ℕ) (n k : ℕ) (vs rest ws : List Value) (v : Value) (m : ℕ) → v.most ≡ m → rest ≡ drop k vs → ws ≡ v ∷ rest → ◌≡◌ {A = Result (List ℕ) NumberFault} (Ok (m ∷ drop k (mosts vs))) (Ok (mosts ws))
put_moves of line n k vs rest ws v m e r w = ap₂ (λ j us. Ok (j ∷ us)) (sym e) (sym (mosts_drop k vs) ∙ ap mosts (sym r)) ∙ ap (λ us. Ok (mosts us)) (sym w)

pub prefix_moves : (of : Names) (line : List ℕ) (by_number : Bool) (n : ℕ) (x : Prefix) (vs rest ws : List Value) (a v : Value) (old new : Kept)
    → a ≡ top_value vs → rest ≡ drop 1 vs → Runs (inverse_steps a) old v new → ws ≡ v ∷ rest → Moves {A = Unit {0}} of line n by_number (elements.Prefix x) vs old (Ok tt) ws new
prefix_moves of line by_number n x vs rest ws a v old new ea er r w = (
  put_moves of line n 1 vs rest ws v 1 (inverse_most a v old new r) er w,
  pushed_runs of (inverse_steps (top_value vs)) 1 vs rest ws v old new (runs_along (ap inverse_steps ea) r) w er,
)

pub pair_moves : (of : Names) (line : List ℕ) (by_number : Bool) (n : ℕ) (p : Pair) (vs mid rest ws : List Value) (a b v : Value) (old new : Kept)
    → b ≡ top_value vs → mid ≡ drop 1 vs → a ≡ top_value mid → rest ≡ drop 1 mid → Runs (pair_steps p a b) old v new → ws ≡ v ∷ rest → Moves {A = Unit {0}} of line n by_number (elements.Pair p) vs old (Ok tt) ws new
pair_moves of line by_number n p vs mid rest ws a b v old new eb em ea er r w =
    let bound : extreme p a.most b.most ≡ extreme p (top (drop 1 (mosts vs))) (top (mosts vs)) = ap₂ (extreme p) (ap (λ (x : Value). x.most) (ea ∙ ap top_value em) ∙ top_most (drop 1 vs) ∙ ap top (mosts_drop 1 vs)) (ap (λ (x : Value). x.most) eb ∙ top_most vs) in
    let gone : rest ≡ drop 2 vs = two_gone vs mid rest em er in (
      put_moves of line n 2 vs rest ws v _ (pair_most p a b v old new r ∙ bound) gone w,
      pushed_runs of (pair_steps p (top_value (drop 1 vs)) (top_value vs)) 2 vs rest ws v old new (runs_along (ap₂ (pair_steps p) (ea ∙ ap top_value em) eb) r) w gone,
    )

pub choice_moves : (of : Names) (line : List ℕ) (by_number : Bool) (n : ℕ) (vs mid rest last ws : List Value) (c a b v : Value) (old new : Kept)
    → b ≡ top_value vs → mid ≡ drop 1 vs → a ≡ top_value mid → rest ≡ drop 1 mid → c ≡ top_value rest → last ≡ drop 1 rest → Runs (choice_steps c a b) old v new → ws ≡ v ∷ last → Moves {A = Unit {0}} of line n by_number elements.Choose vs old (Ok tt) ws new
choice_moves of line by_number n vs mid rest last ws c a b v old new eb em ea er ec el r w =
    let bound : max a.most b.most ≡ max (top (drop 1 (mosts vs))) (top (mosts vs)) = ap₂ max (ap (λ (x : Value). x.most) (ea ∙ ap top_value em) ∙ top_most (drop 1 vs) ∙ ap top (mosts_drop 1 vs)) (ap (λ (x : Value). x.most) eb ∙ top_most vs) in
    let gone : last ≡ drop 3 vs = three_gone vs mid rest last em er el in (
      put_moves of line n 3 vs last ws v _ (choice_most c a b v old new r ∙ bound) gone w,
      pushed_runs of (choice_steps (top_value (drop 2 vs)) (top_value (drop 1 vs)) (top_value vs)) 3 vs last ws v old new
          (runs_along (ap₂ (λ y z. choice_steps y z b) (ec ∙ ap top_value (two_gone vs mid rest em er)) (ea ∙ ap top_value em) ∙ ap (choice_steps (top_value (drop 2 vs)) (top_value (drop 1 vs))) eb) r) w gone,
    )

pub number_moves : (of : Names) (line : List ℕ) (by_number : Bool) (n at m : ℕ) (vs ws : List Value) (k : Kept) (v : Value) → Some m ≡ cond (fits (number_at line at)) (Some (number_at line at)) None → v ≡ constant_value m → ws ≡ v ∷ vs → Moves {A = Unit {0}} of line n by_number (elements.Number at) vs k (Ok tt) ws k
number_moves of line by_number n at m vs ws k v fit e w =
    let same : m ≡ number_at line at = found_bound (number_at line at) m (fits (number_at line at)) fit in (
      fit_bound (number_at line at) m (mosts vs) (BadConstant n at) (fits (number_at line at)) fit ∙ ap₂ (λ j us. Ok (j ∷ us)) (sym (ap (λ (x : Value). x.most) e ∙ same)) refl ∙ ap (λ us. Ok (mosts us)) (sym w),
      runs_result (put 0 vs (constant_value (number_at line at))) k ws (ap (λ u. done (u ∷ vs)) (sym (e ∙ ap constant_value same)) ∙ ap done (sym w)),
    )

pub number_bad : (of : Names) (line : List ℕ) (by_number : Bool) (n at : ℕ) (vs : List Value) → None ≡ cond (fits (number_at line at)) (Some (number_at line at)) None → element_in (bounds_of of) line n by_number (elements.Number at) (mosts vs) ≡ Err (BadConstant n at)
number_bad of line by_number n at vs fit = no_bound (number_at line at) (mosts vs) (BadConstant n at) (fits (number_at line at)) fit

-- ---- an expression

pub moves_same : {A : Type 0} (of : Names) (line : List ℕ) (by_number : Bool) (n : ℕ) (x y : ExprElement) (vs ws : List Value) (old new : Kept) (r : Result A NumberFault) → x ≡ y → Moves of line n by_number y vs old r ws new → Moves of line n by_number x vs old r ws new
moves_same of line by_number n x y vs ws old new r e h = subst (λ z. Moves of line n by_number z vs old r ws new) (sym e) h

-- a walk over elements goes on at element i, behind a number of the text or not, with these values and gates
abbrev pub GoesAt : Names → List ℕ → ℕ → List ExprElement → Kept → ℕ → Bool → List Value → Kept → Type 0
GoesAt of line n xs old i by_number vs now =
    (elements_in (bounds_of of) line n false xs [] ≡ elements_in (bounds_of of) line n by_number (drop i xs) (mosts vs))
    × (run (elements_steps of line false xs []) old ≡ run (elements_steps of line by_number (drop i xs) vs) now)

left_at : (xs : List ExprElement) (i : ℕ) (x : ExprElement) → i < length xs → drop i xs ≡ get_or xs i x ∷ drop (i + 1) xs
left_at [] i x l = absurd (omega arith)
left_at (y ∷ xs) zero x l = refl
left_at (y ∷ xs) (suc i) x l = left_at xs i x (omega arith) ∙ ap (λ k. get_or xs i x ∷ drop k (y ∷ xs)) (let k : suc (i + 1) ≡ suc i + 1 = omega arith in k)

left_none : (xs : List ExprElement) (i : ℕ) → length xs ≤ i → drop i xs ≡ []
left_none [] zero l = refl
left_none [] (suc i) l = refl
left_none (x ∷ xs) zero l = absurd (omega arith)
left_none (x ∷ xs) (suc i) l = left_none xs i (omega arith)

pub goes_start : (of : Names) (line : List ℕ) (n : ℕ) (xs : List ExprElement) (old : Kept) (vs : List Value) → vs ≡ [] → GoesAt of line n xs old 0 false vs old
goes_start of line n xs old vs e = (ap (λ us. elements_in (bounds_of of) line n false xs (mosts us)) (sym e), ap (λ us. run (elements_steps of line false xs us) old) (sym e))

run_next : (of : Names) (line : List ℕ) (by_number : Bool) (x : ExprElement) (xs : List ExprElement) (vs ws : List Value) (now new : Kept) → Runs (element_steps of line by_number x vs) now ws new
    → run (elements_steps of line by_number (x ∷ xs) vs) now ≡ run (elements_steps of line (says_number x) xs ws) new
unfolding run
run_next of line by_number x xs vs ws now new r =
    run_then (element_steps of line by_number x vs) (elements_steps of line (says_number x) xs) now ∙ ap (λ (t : Ran (List Value)). run (elements_steps of line (says_number x) xs t.result) t.kept) r.is

pub goes_next : (of : Names) (line : List ℕ) (n : ℕ) (xs : List ExprElement) (old : Kept) (i : ℕ) (x : ExprElement) (by_number next : Bool) (vs ws : List Value) (now new : Kept) (r : Result (Unit {0}) NumberFault) → i < length xs → GoesAt of line n xs old i by_number vs now → r ≡ Ok tt
    → Moves of line n by_number (get_or xs i x) vs now r ws new → next ≡ says_number (get_or xs i x) → GoesAt of line n xs old (i + 1) next ws new
goes_next of line n xs old i x by_number next vs ws now new (Err f) l g e h said = cc
goes_next of line n xs old i x by_number next vs ws now new (Ok u) l g e h said =
    let here : ExprElement = get_or xs i x in (
      g.0 ∙ ap (λ ys. elements_in (bounds_of of) line n by_number ys (mosts vs)) (left_at xs i x l)
          ∙ ap (λ (q : Result (List ℕ) NumberFault). answers.◌>>=◌ q (elements_in (bounds_of of) line n (says_number here) (drop (i + 1) xs))) h.0
          ∙ ap (λ b. elements_in (bounds_of of) line n b (drop (i + 1) xs) (mosts ws)) (sym said),
      g.1 ∙ ap (λ ys. run (elements_steps of line by_number ys vs) now) (left_at xs i x l) ∙ run_next of line by_number here (drop (i + 1) xs) vs ws now new h.1
          ∙ ap (λ b. run (elements_steps of line b (drop (i + 1) xs) ws) new) (sym said),
    )

-- a fault that goes on
pub fails_on : {A B : Type 0} (f : NumberFault) (x : Result A NumberFault) (y : Result B NumberFault) → ((g : NumberFault) → x ≡ Err g → y ≡ Err g) → Fails f x → Fails f y
fails_on Memory x y h e = tt
fails_on (NotUtf8 at) x y h e = h (NotUtf8 at) e
fails_on (Syntax line at) x y h e = h (Syntax line at) e
fails_on (UnknownName line at) x y h e = h (UnknownName line at) e
fails_on (BadConstant line at) x y h e = h (BadConstant line at) e
fails_on (TooDeep line at) x y h e = h (TooDeep line at) e
fails_on (TwiceNamed line) x y h e = h (TwiceNamed line) e
fails_on TooLarge x y h e = h TooLarge e
fails_on (TooWide line at) x y h e = h (TooWide line at) e
fails_on (BadWidth line at) x y h e = h (BadWidth line at) e

pub goes_stops : (of : Names) (line : List ℕ) (n : ℕ) (xs : List ExprElement) (old : Kept) (i : ℕ) (x : ExprElement) (by_number : Bool) (vs ws : List Value) (now new : Kept) (r : Result (Unit {0}) NumberFault) (f : NumberFault) → i < length xs → GoesAt of line n xs old i by_number vs now → r ≡ Err f
    → Moves of line n by_number (get_or xs i x) vs now r ws new → Fails f (elements_in (bounds_of of) line n false xs [])
goes_stops of line n xs old i x by_number vs ws now new (Ok u) f l g e h = cc
goes_stops of line n xs old i x by_number vs ws now new (Err k) f l g e h =
    subst (λ j. Fails j (elements_in (bounds_of of) line n false xs [])) (let s : k ≡ f = cc in s)
    (fails_on k (element_in (bounds_of of) line n by_number (get_or xs i x) (mosts vs)) (elements_in (bounds_of of) line n false xs [])
    (λ j q. g.0 ∙ ap (λ ys. elements_in (bounds_of of) line n by_number ys (mosts vs)) (left_at xs i x l)
    ∙ ap (λ (q : Result (List ℕ) NumberFault). answers.◌>>=◌ q (elements_in (bounds_of of) line n (says_number (get_or xs i x)) (drop (i + 1) xs))) q) h)

pub goes_ends : (of : Names) (line : List ℕ) (n : ℕ) (xs : List ExprElement) (old : Kept) (i : ℕ) (by_number : Bool) (vs : List Value) (now : Kept) (c : Number) → length xs ≤ i → GoesAt of line n xs old i by_number vs now → seen c ≡ top_value vs → Expresses of line n xs old (Ok c) now
unfolding run
goes_ends of line n xs old i by_number vs now c l g e = (
  vs,
  g.0 ∙ ap (λ ys. elements_in (bounds_of of) line n by_number ys (mosts vs)) (left_none xs i l),
  record { is = g.1 ∙ ap (λ ys. run (elements_steps of line by_number ys vs) now) (left_none xs i l) },
  e,
)
