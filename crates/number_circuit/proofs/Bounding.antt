-- No value is more than its bound.
use Rattle.std.proofs.Common.{◌≡◌, ℕ, ◌+◌, ◌-◌, ◌/◌, ◌%◌, ◌^◌, ◌<◌, ◌≤◌, Bool, true, false, cond, List, [], ◌∷◌, refl, sym, subst, arith}
use Rattle.std.specs.Prelude.{min, max, nat_eq, nat_lt, nat_le, not, ◌&&◌, ◌||◌}
use Rattle.std.specs.Str.{bytes_eq}
use Rattle.std.proofs.Math.Nat.{min-le_left, min-le_right, le-min, le-max_left, le-max_right, max-le, div-le_self, mod-le, mod-lt, mul-le-mul}
use Rattle.std.proofs.lemmas.Bool.{ltb-true, ne_eqb}
use Rattle.line_grammar.specs.declared.operator.Infix.{Infix}
use Rattle.line_grammar.specs.declared.operator.Infix.TheVariants.{Or, And, Equal, Unequal, Less, AtMost, Greater, AtLeast, Add, Subtract, Multiply, Divide, Remainder}
use Rattle.line_grammar.specs.declared.operator.Pair.{Pair}
use Rattle.line_grammar.specs.declared.operator.Pair.TheVariants.{Least, Most}
use Rattle.number_circuit.specs.Values.{Term, truth, holds, result, extreme, value, is_number, most, bound}
use Rattle.number_circuit.specs.Values.Term.{constant, variable, inverse, operation, pair, choice}
use Rattle.number_circuit.specs.Programs.{Statement, bind, widest, outputs_after, bounds_after, input_widths, HaveWidths, AreAtMost}
use Rattle.number_circuit.specs.Programs.Statement.{input, define, output}
use Rattle.number_circuit.specs.Laws.{IsWithinItsBounds}

truth_small : (b : Bool) → truth b ≤ 1
truth_small true = omega arith
truth_small false = omega arith

either : (b : Bool) (x y m : ℕ) → x ≤ m → y ≤ m → cond b x y ≤ m
either true x y m l k = l
either false x y m l k = k

rest_small : (a b m : ℕ) → a ≤ m → cond (nat_eq b 0) a (a % b) ≤ m
rest_small a b m l = either (nat_eq b 0) a (a % b) m l (omega (arith, l, mod-le a b))

-- the rest is less than the divisor
rest_below : (a b : ℕ) → 0 < b → cond (nat_eq b 0) a (a % b) ≤ b - 1
rest_below a b l =
    let less : a % b < b = mod-lt a l in
    let apart : nat_eq b 0 ≡ false = ne_eqb b 0 (λ e. omega (arith, e, l)) in
    subst (λ (t : Bool). cond t a (a % b) ≤ b - 1) (sym apart) (omega (arith, less))

rest_within : (a b m n : ℕ) → a ≤ m → (by_number : Bool) → (by_number ≡ true → b ≡ n) → cond (nat_eq b 0) a (a % b) ≤ most Remainder m n by_number
rest_within a b m n l false same = rest_small a b m l
rest_within a b m n l true same = subst (λ k. cond (nat_eq b 0) a (a % b) ≤ most Remainder m k true) (same refl) (go (nat_lt 0 b) refl)
  where
    go : (positive : Bool) → nat_lt 0 b ≡ positive → cond (nat_eq b 0) a (a % b) ≤ cond positive (min m (b - 1)) m
    go false e = rest_small a b m l
    go true e = le-min (rest_small a b m l) (rest_below a b (ltb-true 0 b e))

result_within : (o : Infix) (a b m n : ℕ) (by_number : Bool) → a ≤ m → b ≤ n → (by_number ≡ true → b ≡ n) → result o a b ≤ most o m n by_number
result_within Or a b m n by_number l k same = truth_small (holds a || holds b)
result_within And a b m n by_number l k same = truth_small (holds a && holds b)
result_within Equal a b m n by_number l k same = truth_small (nat_eq a b)
result_within Unequal a b m n by_number l k same = truth_small (not (nat_eq a b))
result_within Less a b m n by_number l k same = truth_small (nat_lt a b)
result_within AtMost a b m n by_number l k same = truth_small (nat_le a b)
result_within Greater a b m n by_number l k same = truth_small (nat_lt b a)
result_within AtLeast a b m n by_number l k same = truth_small (nat_le b a)
result_within Add a b m n by_number l k same = omega (arith, l, k)
result_within Subtract a b m n by_number l k same = omega (arith, l)
result_within Multiply a b m n by_number l k same = mul-le-mul l k
result_within Divide a b m n by_number l k same = either (nat_eq b 0) 0 (a / b) m (omega arith) (omega (arith, l, div-le_self a b))
result_within Remainder a b m n by_number l k same = rest_within a b m n l by_number same

extreme_within : (p : Pair) (a b m n : ℕ) → a ≤ m → b ≤ n → extreme p a b ≤ extreme p m n
extreme_within Least a b m n l k = le-min (omega (arith, l, min-le_left a b)) (omega (arith, k, min-le_right a b))
extreme_within Most a b m n l k = max-le (omega (arith, l, le-max_left m n)) (omega (arith, k, le-max_right m n))

-- the values of names are at most their bounds
abbrev pub AreWithin : (List ℕ → ℕ) → (List ℕ → ℕ) → Type 0
AreWithin v b = (x : List ℕ) → v x ≤ b x

-- a number of the text is its bound
number_is : (v b : List ℕ → ℕ) (t : Term) → is_number t ≡ true → value v t ≡ bound b t
number_is v b (constant n) e = refl
number_is v b (variable x) e = cc
number_is v b (inverse t) e = cc
number_is v b (operation o s t) e = cc
number_is v b (pair p s t) e = cc
number_is v b (choice c s t) e = cc

pub value_within : (v b : List ℕ → ℕ) → AreWithin v b → (t : Term) → value v t ≤ bound b t
value_within v b w (constant n) = omega arith
value_within v b w (variable x) = w x
value_within v b w (inverse t) = truth_small (not (holds (value v t)))
value_within v b w (operation o s t) = result_within o (value v s) (value v t) (bound b s) (bound b t) (is_number t) (value_within v b w s) (value_within v b w t) (number_is v b t)
value_within v b w (pair p s t) = extreme_within p (value v s) (value v t) (bound b s) (bound b t) (value_within v b w s) (value_within v b w t)
value_within v b w (choice c s t) =
    let first : value v s ≤ bound b s = value_within v b w s in
    let second : value v t ≤ bound b t = value_within v b w t in
    either (holds (value v c)) (value v s) (value v t) (max (bound b s) (bound b t)) (omega (arith, first, le-max_left (bound b s) (bound b t))) (omega (arith, second, le-max_right (bound b s) (bound b t)))

pub bind_within : (v b : List ℕ → ℕ) (x : List ℕ) (a c : ℕ) → AreWithin v b → a ≤ c → AreWithin (bind v x a) (bind b x c)
bind_within v b x a c w l y = both (bytes_eq x y)
  where
    both : (t : Bool) → cond t a (v y) ≤ cond t c (b y)
    both true = l
    both false = w y

outputs_within : (inputs : ℕ → ℕ) (p : List Statement) (i : ℕ) (v b : List ℕ → ℕ) → AreWithin v b → HaveWidths inputs i (input_widths p) → AreAtMost (outputs_after inputs i v p) (bounds_after b p)
outputs_within inputs [] i v b w h = tt
outputs_within inputs (input x k ∷ p) i v b w h =
    outputs_within inputs p (i + 1) (bind v x (inputs i)) (bind b x (widest k)) (bind_within v b x (inputs i) (widest k) w (let few : inputs i < 2 ^ k = h.0 in omega (arith, few))) h.1
outputs_within inputs (define x t ∷ p) i v b w h = outputs_within inputs p i (bind v x (value v t)) (bind b x (bound b t)) (bind_within v b x (value v t) (bound b t) w (value_within v b w t)) h
outputs_within inputs (output t ∷ p) i v b w h = (value_within v b w t, outputs_within inputs p i v b w h)

pub within_its_bounds : (p : List Statement) → IsWithinItsBounds p
within_its_bounds p inputs h = outputs_within inputs p 0 (λ x. 0) (λ x. 0) (λ x. omega arith) h
