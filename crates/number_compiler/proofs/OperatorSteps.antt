-- The gates of operators, step by step.
use Rattle.std.proofs.Common.{◌≡◌, ℕ, List, [], ◌∷◌, Result, Ok, IfOk, max, refl, sym, ◌∙◌, ap, ap₂, subst}
use Rattle.line_grammar.specs.declared.operator.Infix.{Infix}
use Rattle.line_grammar.specs.declared.operator.Pair.{Pair}
use Rattle.number_gates.specs.declared.wire.Bit.{Bit}
use Rattle.number_gates.specs.Steps.{Steps, done, ◌>>=◌, Kept, Runs}
use Rattle.number_gates.proofs.RunSteps.{runs_result, runs_then, runs_along}
use Rattle.number_gates.specs.BitGates.{opposite}
use Rattle.number_gates.specs.Numbers.{some, less, choose}
use Rattle.number_circuit.specs.Values.{extreme}
use Rattle.number_compiler.specs.Terms.{Value, fitted, truth_bits, operated, operator_steps, chosen_of, pair_steps, inverse_steps, choice_steps}

pub ok_found : {A E : Type 0} (r : Result A E) (a : A) (P : A → Type 0) → r ≡ Ok a → IfOk r P → P a
ok_found r a P e h = subst (λ x. IfOk x P) e h

-- the bit of a test is the result
pub truth_runs : (o x : Infix) (a b : List Bit) (steps : Steps Bit) (old new : Kept) (bit : Bit) (items : List Bit) → o ≡ x → operated x a b ≡ truth_bits steps → Runs steps old bit new → items ≡ bit ∷ [] → Runs (operated o a b) old items new
truth_runs o x a b steps old new bit items is e r same =
    runs_along (sym e ∙ ap (λ y. operated y a b) (sym is)) (runs_then (λ p. done (p ∷ [])) r (runs_result (done (bit ∷ [])) new items (ap done (sym same))))

-- other steps of the same operator
pub same_runs : (o x : Infix) (a b : List Bit) (steps : Steps (List Bit)) (old new : Kept) (items : List Bit) → o ≡ x → operated x a b ≡ steps → Runs steps old items new → Runs (operated o a b) old items new
same_runs o x a b steps old new items is e r = runs_along (sym e ∙ ap (λ y. operated y a b) (sym is)) r

-- a number of enough bits is the result
fits_runs : (m n : ℕ) (xs ys : List Bit) (c : Value) (k : Kept) → c ≡ fitted m xs → m ≡ n → xs ≡ ys → Runs (done (fitted n ys)) k c k
fits_runs m n xs ys c k is e f = runs_result (done (fitted n ys)) k c (ap done (sym (is ∙ ap₂ fitted e f)))

pub operator_runs : (o : Infix) (m : ℕ) (a b c : Value) (xs ys us vs : List Bit) (old new : Kept) → xs ≡ a.bits → ys ≡ b.bits → Runs (operated o xs ys) old us new → c ≡ fitted m vs → vs ≡ us → Runs (operator_steps o m a b) old c new
operator_runs o m a b c xs ys us vs old new ea eb r is e =
    runs_then (λ d. done (fitted m d)) (runs_along (ap₂ (operated o) ea eb) r) (fits_runs m m vs us c new is refl e)

pub pair_runs : (p x : Pair) (a b c : Value) (m : ℕ) (test : Bit) (xs ys us vs ws zs : List Bit) (old mid new : Kept) → p ≡ x → xs ≡ a.bits → ys ≡ b.bits → Runs (less xs ys) old test mid
    → choose test us vs ≡ chosen_of x test a.bits b.bits → Runs (choose test us vs) mid ws new → m ≡ extreme x a.most b.most → c ≡ fitted m zs → zs ≡ ws → Runs (pair_steps p a b) old c new
pair_runs p x a b c m test xs ys us vs ws zs old mid new ep ea eb r same s em is e =
    runs_along (ap (λ y. pair_steps y a b) (sym ep))
    (runs_then (λ o. chosen_of x o a.bits b.bits >>= (λ d. done (fitted (extreme x a.most b.most) d))) (runs_along (ap₂ less ea eb) r)
    (runs_then (λ d. done (fitted (extreme x a.most b.most) d)) (runs_along same s) (fits_runs m (extreme x a.most b.most) zs ws c new is em e)))

pub inverse_runs : (a c : Value) (test none : Bit) (xs ys zs : List Bit) (old mid new : Kept) → xs ≡ a.bits → Runs (some xs) old test mid → Runs (opposite test) mid none new → ys ≡ none ∷ [] → c ≡ fitted 1 zs → zs ≡ ys → Runs (inverse_steps a) old c new
inverse_runs a c test none xs ys zs old mid new ea r s ey is e =
    runs_then (λ o. opposite o >>= (λ n. done (fitted 1 (n ∷ [])))) (runs_along (ap some ea) r) (runs_then (λ n. done (fitted 1 (n ∷ []))) s (fits_runs 1 1 zs (none ∷ []) c new is refl (e ∙ ey)))

pub choice_runs : (w a b c : Value) (m : ℕ) (test : Bit) (xs us vs ws zs : List Bit) (old mid new : Kept) → xs ≡ w.bits → Runs (some xs) old test mid
    → us ≡ a.bits → vs ≡ b.bits → Runs (choose test us vs) mid ws new → m ≡ max a.most b.most → c ≡ fitted m zs → zs ≡ ws → Runs (choice_steps w a b) old c new
choice_runs w a b c m test xs us vs ws zs old mid new ew r ea eb s em is e =
    runs_then (λ o. choose o a.bits b.bits >>= (λ d. done (fitted (max a.most b.most) d))) (runs_along (ap some ew) r)
    (runs_then (λ d. done (fitted (max a.most b.most) d)) (runs_along (ap₂ (choose test) ea eb) s) (fits_runs m (max a.most b.most) zs ws c new is em e))
