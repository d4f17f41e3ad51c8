-- The gates of a term make its value.
use Rattle.std.proofs.Common.{◌≡◌, ℕ, zero, suc, ◌+◌, ◌*◌, ◌/◌, ◌%◌, ◌^◌, ◌<◌, ◌≤◌, Bool, true, false, not, ◌&&◌, ◌||◌, cond, nat_eq, nat_lt, nat_le, List, [], ◌∷◌, ◌++◌, length, min, max, refl, sym, ◌∙◌, ap, ap₂, arith, inl, inr}
use Rattle.std.proofs.Math.Nat.{mul-le-mul, div-zero, mod-zero}
use Rattle.std.proofs.lemmas.Nat.{pow_pos}
use Rattle.std.proofs.lemmas.Bool.{cases_lt, cases_eq, eq-eqb, ne_eqb, lt-ltb, le-ltb, le-leb, lt-leb}
use Rattle.line_grammar.specs.declared.operator.Infix.{Infix}
use Rattle.line_grammar.specs.declared.operator.Infix.TheVariants.{Or, And, Equal, Unequal, Less, AtMost, Greater, AtLeast, Add, Subtract, Multiply, Divide, Remainder}
use Rattle.line_grammar.specs.declared.operator.Pair.{Pair}
use Rattle.line_grammar.specs.declared.operator.Pair.TheVariants.{Least, Most}
use Rattle.binary_numbers.specs.Numbers.{worth, number}
use Rattle.binary_numbers.proofs.Carrying.{number_append}
use Rattle.number_gates.specs.declared.wire.Wire.{Wire}
use Rattle.number_gates.specs.declared.wire.Bit.{Bit}
use Rattle.number_gates.specs.Steps.{Steps, done, ◌>>=◌}
use Rattle.number_gates.specs.BitGates.{opposite, both}
use Rattle.number_gates.specs.Numbers.{choose, some, equal, less}
use Rattle.number_gates.specs.Quotients.{divided}
use Rattle.number_laws.specs.Values.{bit, bits, number_on, Computes}
use Rattle.number_laws.proofs.Making.{makes_then, makes_so, makes_done}
use Rattle.number_laws.proofs.BitValues.{opposite_makes, both_makes, bits_append}
use Rattle.number_laws.proofs.NumberValues.{equal_makes, less_makes, some_makes, choose_makes, sum_makes, difference_makes}
use Rattle.number_laws.proofs.ProductValues.{product_makes}
use Rattle.number_laws.proofs.QuotientValues.{divided_makes}
use Rattle.number_circuit.specs.Values.{Term, truth, holds, result, extreme, value, is_number, most, bound}
use Rattle.number_circuit.specs.Values.Term.{constant, variable, inverse, operation, pair, choice}
use Rattle.number_circuit.proofs.Bounding.{AreWithin, value_within}
use Rattle.number_compiler.specs.Widths.{bits_of}
use Rattle.number_compiler.specs.Terms.{Value, fitted, truth_bits, operated, operator_steps, chosen_of, pair_steps, inverse_steps, choice_steps, constant_value, steps_of}
use Rattle.number_compiler.proofs.WidthValues.{below_bits, known_long, known_number, cut_number, cut_long}

-- the value is m at most, has as many bits, and they stand for n
pub record IsValue (on : Wire → Bool) (m n : ℕ) (c : Value) : Type 0 where
  pub most : c.most ≡ m
  pub long : length c.bits ≡ bits_of m
  pub number : number_on on c.bits ≡ n

pub fitted_is : (on : Wire → Bool) (m k n : ℕ) (xs : List Bit) → k ≡ m → number_on on xs ≡ n → n ≤ m → IsValue on m n (fitted k xs)
fitted_is on m k n xs e h l =
    let few : number_on on xs < 2 ^ bits_of k = omega (arith, below_bits k, e, h, l) in
    record { most = e; long = cut_long (bits_of k) xs ∙ ap bits_of e; number = cut_number on (bits_of k) xs few ∙ h }

constant_is : (on : Wire → Bool) (n : ℕ) → IsValue on n n (constant_value n)
constant_is on n = record { most = refl; long = known_long (bits_of n) n; number = known_number on (bits_of n) n (below_bits n) }

-- ---- operators

one_bit : (on : Wire → Bool) (o : Bit) (b : Bool) → bit on o ≡ b → number_on on (o ∷ []) ≡ truth b
one_bit on o b e = ap (λ x. worth x + 2 * 0) e ∙ worth_truth b
  where
    worth_truth : (b : Bool) → worth b + 2 * 0 ≡ truth b
    worth_truth true = refl
    worth_truth false = refl

truth_makes : (on : Wire → Bool) (steps : Steps Bit) (b : Bool) → Computes on steps (λ o. bit on o ≡ b) → Computes on (truth_bits steps) (λ c. number_on on c ≡ truth b)
truth_makes on steps b h =
    makes_then (λ o. done (o ∷ [])) (λ c. number_on on c ≡ truth b) h (λ o e. makes_done (o ∷ []) (λ c. number_on on c ≡ truth b) (one_bit on o b e))

opposed : (on : Wire → Bool) (steps : Steps Bit) (b : Bool) → Computes on steps (λ o. bit on o ≡ b) → Computes on (steps >>= opposite) (λ o. bit on o ≡ not b)
opposed on steps b h =
    makes_then opposite (λ o. bit on o ≡ not b) h (λ o e. makes_so (λ c. bit on c ≡ not b) (opposite_makes on o) (λ c f. f ∙ ap not e))

both_hold : (on : Wire → Bool) (a b : List Bit) → Computes on (some a >>= (λ p. some b >>= (λ q. both p q))) (λ o. bit on o ≡ (holds (number_on on a) && holds (number_on on b)))
both_hold on a b =
    let Q : Bit → Type 0 = λ o. bit on o ≡ (holds (number_on on a) && holds (number_on on b)) in
    makes_then (λ p. some b >>= (λ q. both p q)) Q (some_makes on a)
    (λ p ep. makes_then (λ q. both p q) Q (some_makes on b)
    (λ q eq. makes_so Q (both_makes on p q) (λ o e. e ∙ ap₂ (λ x y. x && y) ep eq)))

some_holds : (n : ℕ) → 0 < n → holds n ≡ true
some_holds n l = ap not (ne_eqb n 0 (λ e. omega (arith, e, l)))

-- some bit of two lists is set where one of both numbers isn't 0
either_holds : (x y p : ℕ) → 0 < p → holds (x + p * y) ≡ (holds x || holds y)
either_holds zero zero p l = ap holds (let e : 0 + p * 0 ≡ 0 = omega arith in e)
either_holds (suc x) y p l = some_holds (suc x + p * y) (omega arith) ∙ ap (λ b. b || holds y) (sym (some_holds (suc x) (omega arith)))
either_holds zero (suc y) p l =
    let one : 1 ≤ suc y = omega arith in
    let more : 1 * 1 ≤ p * suc y = mul-le-mul l one in
    some_holds (0 + p * suc y) (omega (arith, more)) ∙ sym (some_holds (suc y) (omega arith))

some_of_both : (on : Wire → Bool) (a b : List Bit) → Computes on (some (a ++ b)) (λ o. bit on o ≡ (holds (number_on on a) || holds (number_on on b)))
some_of_both on a b =
    makes_so (λ o. bit on o ≡ (holds (number_on on a) || holds (number_on on b))) (some_makes on (a ++ b))
    (λ o e. e ∙ ap holds (ap number (bits_append on a b) ∙ number_append (bits on a) (bits on b))
    ∙ either_holds (number_on on a) (number_on on b) (2 ^ length (bits on a)) (pow_pos (length (bits on a))))

-- not less is at least
positive : (n : ℕ) → (n ≡ 0 → ⊥) → 0 < n
positive zero h = absurd (h refl)
positive (suc n) h = omega arith

not_less : (a b : ℕ) → not (nat_lt b a) ≡ nat_le a b
not_less a b = elim (cases_lt b a) [
  | inl small ↦ ap not (lt-ltb b a small) ∙ sym (lt-leb a b small)
  | inr large ↦ ap not (le-ltb b a large) ∙ sym (le-leb a b large)
]

quotient_is : (m by : ℕ) → m / by ≡ cond (nat_eq by 0) 0 (m / by)
quotient_is m by = elim (cases_eq by 0) [
  | inl none ↦ ap (λ n. m / n) none ∙ div-zero m ∙ ap (λ b. cond b 0 (m / by)) (sym (eq-eqb by 0 none))
  | inr more ↦ ap (λ b. cond b 0 (m / by)) (sym (ne_eqb by 0 more))
]

rest_is : (m by : ℕ) → m % by ≡ cond (nat_eq by 0) m (m % by)
rest_is m by = elim (cases_eq by 0) [
  | inl none ↦ ap (λ n. m % n) none ∙ mod-zero m ∙ ap (λ b. cond b m (m % by)) (sym (eq-eqb by 0 none))
  | inr more ↦ ap (λ b. cond b m (m % by)) (sym (ne_eqb by 0 more))
]

quotient_makes : (on : Wire → Bool) (a b : List Bit) → Computes on (divided a b >>= (λ t. done t.quotient)) (λ c. number_on on c ≡ result Divide (number_on on a) (number_on on b))
quotient_makes on a b =
    let Q : List Bit → Type 0 = λ c. number_on on c ≡ result Divide (number_on on a) (number_on on b) in
    makes_then (λ t. done t.quotient) Q (divided_makes on a b) (λ t i. makes_done t.quotient Q (i.quotient ∙ quotient_is (number_on on a) (number_on on b)))

rest_makes : (on : Wire → Bool) (a b : List Bit) → Computes on (divided a b >>= (λ t. done t.rest)) (λ c. number_on on c ≡ result Remainder (number_on on a) (number_on on b))
rest_makes on a b =
    let Q : List Bit → Type 0 = λ c. number_on on c ≡ result Remainder (number_on on a) (number_on on b) in
    makes_then (λ t. done t.rest) Q (divided_makes on a b) (λ t i. makes_done t.rest Q (i.rest ∙ rest_is (number_on on a) (number_on on b)))

at_most : (on : Wire → Bool) (a b : List Bit) → Computes on (truth_bits (less b a >>= opposite)) (λ c. number_on on c ≡ truth (nat_le (number_on on a) (number_on on b)))
at_most on a b =
    truth_makes on (less b a >>= opposite) (nat_le (number_on on a) (number_on on b))
    (makes_so (λ o. bit on o ≡ nat_le (number_on on a) (number_on on b)) (opposed on (less b a) (nat_lt (number_on on b) (number_on on a)) (less_makes on b a)) (λ o e. e ∙ not_less (number_on on a) (number_on on b)))

-- what an operator makes of numbers
pub operated_makes : (on : Wire → Bool) (o : Infix) (a b : List Bit) → Computes on (operated o a b) (λ c. number_on on c ≡ result o (number_on on a) (number_on on b))
operated_makes on Or a b = truth_makes on (some (a ++ b)) (holds (number_on on a) || holds (number_on on b)) (some_of_both on a b)
operated_makes on And a b = truth_makes on (some a >>= (λ p. some b >>= (λ q. both p q))) (holds (number_on on a) && holds (number_on on b)) (both_hold on a b)
operated_makes on Equal a b = truth_makes on (equal a b) (nat_eq (number_on on a) (number_on on b)) (equal_makes on a b)
operated_makes on Unequal a b = truth_makes on (equal a b >>= opposite) (not (nat_eq (number_on on a) (number_on on b))) (opposed on (equal a b) (nat_eq (number_on on a) (number_on on b)) (equal_makes on a b))
operated_makes on Less a b = truth_makes on (less a b) (nat_lt (number_on on a) (number_on on b)) (less_makes on a b)
operated_makes on AtMost a b = at_most on a b
operated_makes on Greater a b = truth_makes on (less b a) (nat_lt (number_on on b) (number_on on a)) (less_makes on b a)
operated_makes on AtLeast a b = at_most on b a
operated_makes on Add a b = sum_makes on a b
operated_makes on Subtract a b = difference_makes on a b
operated_makes on Multiply a b = product_makes on a b
operated_makes on Divide a b = quotient_makes on a b
operated_makes on Remainder a b = rest_makes on a b

-- ---- the other terms

least_is : (x y : ℕ) → cond (nat_lt x y) x y ≡ min x y
least_is x y = elim (cases_lt x y) [
  | inl small ↦ ap (λ b. cond b x y) (lt-ltb x y small) ∙ (let e : x ≡ min x y = omega (arith, small) in e)
  | inr large ↦ ap (λ b. cond b x y) (le-ltb x y large) ∙ (let e : y ≡ min x y = omega (arith, large) in e)
]

most_is : (x y : ℕ) → cond (nat_lt x y) y x ≡ max x y
most_is x y = elim (cases_lt x y) [
  | inl small ↦ ap (λ b. cond b y x) (lt-ltb x y small) ∙ (let e : y ≡ max x y = omega (arith, small) in e)
  | inr large ↦ ap (λ b. cond b y x) (le-ltb x y large) ∙ (let e : x ≡ max x y = omega (arith, large) in e)
]

chosen_makes : (on : Wire → Bool) (p : Pair) (o : Bit) (a b : List Bit) → bit on o ≡ nat_lt (number_on on a) (number_on on b) → Computes on (chosen_of p o a b) (λ c. number_on on c ≡ extreme p (number_on on a) (number_on on b))
chosen_makes on Least o a b e =
    makes_so (λ c. number_on on c ≡ min (number_on on a) (number_on on b)) (choose_makes on o a b)
    (λ c h. h ∙ ap (λ t. cond t (number_on on a) (number_on on b)) e ∙ least_is (number_on on a) (number_on on b))
chosen_makes on Most o a b e =
    makes_so (λ c. number_on on c ≡ max (number_on on a) (number_on on b)) (choose_makes on o b a)
    (λ c h. h ∙ ap (λ t. cond t (number_on on b) (number_on on a)) e ∙ most_is (number_on on a) (number_on on b))

module _ (on : Wire → Bool) where
  pub operator_makes : (o : Infix) (by_number : Bool) (a b : Value) (m n x y : ℕ) → IsValue on m x a → IsValue on n y b → result o x y ≤ most o m n by_number
      → Computes on (operator_steps o (most o a.most b.most by_number) a b) (IsValue on (most o m n by_number) (result o x y))
  operator_makes o by_number a b m n x y ia ib l =
      let bound : ℕ = most o m n by_number in
      let here : ℕ = most o a.most b.most by_number in
      makes_then (λ c. done (fitted here c)) (IsValue on bound (result o x y)) (operated_makes on o a.bits b.bits)
      (λ c e. makes_done (fitted here c) (IsValue on bound (result o x y))
      (fitted_is on bound here (result o x y) c (ap₂ (λ j k. most o j k by_number) ia.most ib.most) (e ∙ ap₂ (result o) ia.number ib.number) l))

  pub pair_makes : (p : Pair) (a b : Value) (m n x y : ℕ) → IsValue on m x a → IsValue on n y b → extreme p x y ≤ extreme p m n → Computes on (pair_steps p a b) (IsValue on (extreme p m n) (extreme p x y))
  pair_makes p a b m n x y ia ib l =
      makes_then (λ o. chosen_of p o a.bits b.bits >>= (λ c. done (fitted (extreme p a.most b.most) c))) (IsValue on (extreme p m n) (extreme p x y)) (less_makes on a.bits b.bits)
      (λ o eo. makes_then (λ c. done (fitted (extreme p a.most b.most) c)) (IsValue on (extreme p m n) (extreme p x y)) (chosen_makes on p o a.bits b.bits eo)
      (λ c e. makes_done (fitted (extreme p a.most b.most) c) (IsValue on (extreme p m n) (extreme p x y))
      (fitted_is on (extreme p m n) (extreme p a.most b.most) (extreme p x y) c (ap₂ (extreme p) ia.most ib.most) (e ∙ ap₂ (extreme p) ia.number ib.number) l)))

  truth_small : (b : Bool) → truth b ≤ 1
  truth_small true = omega arith
  truth_small false = omega arith

  pub inverse_makes : (a : Value) (m x : ℕ) → IsValue on m x a → Computes on (inverse_steps a) (IsValue on 1 (truth (not (holds x))))
  inverse_makes a m x ia =
      makes_then (λ o. opposite o >>= (λ c. done (fitted 1 (c ∷ [])))) (IsValue on 1 (truth (not (holds x)))) (some_makes on a.bits)
      (λ o eo. makes_then (λ c. done (fitted 1 (c ∷ []))) (IsValue on 1 (truth (not (holds x)))) (opposite_makes on o)
      (λ c e. makes_done (fitted 1 (c ∷ [])) (IsValue on 1 (truth (not (holds x))))
      (fitted_is on 1 1 (truth (not (holds x))) (c ∷ []) refl (one_bit on c (not (holds x)) (e ∙ ap not (eo ∙ ap holds ia.number))) (truth_small (not (holds x))))))

  pub choice_makes : (c a b : Value) (k m n z x y : ℕ) → IsValue on k z c → IsValue on m x a → IsValue on n y b → cond (holds z) x y ≤ max m n → Computes on (choice_steps c a b) (IsValue on (max m n) (cond (holds z) x y))
  choice_makes c a b k m n z x y ic ia ib l =
      makes_then (λ o. choose o a.bits b.bits >>= (λ d. done (fitted (max a.most b.most) d))) (IsValue on (max m n) (cond (holds z) x y)) (some_makes on c.bits)
      (λ o eo. makes_then (λ d. done (fitted (max a.most b.most) d)) (IsValue on (max m n) (cond (holds z) x y)) (choose_makes on o a.bits b.bits)
      (λ d e. makes_done (fitted (max a.most b.most) d) (IsValue on (max m n) (cond (holds z) x y))
      (fitted_is on (max m n) (max a.most b.most) (cond (holds z) x y) d (ap₂ max ia.most ib.most)
      (e ∙ ap (λ t. cond t (number_on on a.bits) (number_on on b.bits)) (eo ∙ ap holds ic.number) ∙ ap₂ (cond (holds z)) ia.number ib.number) l)))

  -- the values of names are on wires
  abbrev pub AreValues : (List ℕ → ℕ) → (List ℕ → ℕ) → (List ℕ → Value) → Type 0
  AreValues b v of = (x : List ℕ) → IsValue on (b x) (v x) (of x)

  -- the gates of a term make its value, and as many bits as its bound has
  pub term_makes : (b v : List ℕ → ℕ) (of : List ℕ → Value) → AreWithin v b → AreValues b v of → (t : Term) → Computes on (steps_of of t) (IsValue on (bound b t) (value v t))
  term_makes b v of w h (constant n) = makes_done (constant_value n) (IsValue on n n) (constant_is on n)
  term_makes b v of w h (variable x) = makes_done (of x) (IsValue on (b x) (v x)) (h x)
  term_makes b v of w h (inverse t) =
      makes_then inverse_steps (IsValue on 1 (value v (inverse t))) (term_makes b v of w h t) (λ a ia. inverse_makes a (bound b t) (value v t) ia)
  term_makes b v of w h (operation o s t) =
      let R : Value → Type 0 = IsValue on (bound b (operation o s t)) (value v (operation o s t)) in
      makes_then (λ a. steps_of of t >>= (λ c. operator_steps o (most o a.most c.most (is_number t)) a c)) R (term_makes b v of w h s)
      (λ a ia. makes_then (λ c. operator_steps o (most o a.most c.most (is_number t)) a c) R (term_makes b v of w h t)
      (λ c ic. operator_makes o (is_number t) a c (bound b s) (bound b t) (value v s) (value v t) ia ic (value_within v b w (operation o s t))))
  term_makes b v of w h (pair p s t) =
      let R : Value → Type 0 = IsValue on (bound b (pair p s t)) (value v (pair p s t)) in
      makes_then (λ a. steps_of of t >>= (λ c. pair_steps p a c)) R (term_makes b v of w h s)
      (λ a ia. makes_then (λ c. pair_steps p a c) R (term_makes b v of w h t)
      (λ c ic. pair_makes p a c (bound b s) (bound b t) (value v s) (value v t) ia ic (value_within v b w (pair p s t))))
  term_makes b v of w h (choice u s t) =
      let R : Value → Type 0 = IsValue on (bound b (choice u s t)) (value v (choice u s t)) in
      makes_then (λ o. steps_of of s >>= (λ a. steps_of of t >>= (λ c. choice_steps o a c))) R (term_makes b v of w h u)
      (λ o io. makes_then (λ a. steps_of of t >>= (λ c. choice_steps o a c)) R (term_makes b v of w h s)
      (λ a ia. makes_then (λ c. choice_steps o a c) R (term_makes b v of w h t)
      (λ c ic. choice_makes o a c (bound b u) (bound b s) (bound b t) (value v u) (value v s) (value v t) io ia ic (value_within v b w (choice u s t)))))
