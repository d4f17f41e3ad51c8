-- The values of quotients and rests.
use Rattle.std.proofs.Common.{◌≡◌, ℕ, zero, suc, ◌+◌, ◌-◌, ◌*◌, ◌^◌, ◌<◌, ◌≤◌, Bool, true, false, not, cond, nat_lt, nat_eq, List, [], ◌∷◌, length, map, take, get_or, min, max, refl, sym, ◌∙◌, ap, ap₂, subst, arith}
use Rattle.std.proofs.lemmas.Bool.{ltb-true, ltb-false, eq-eqb, ne_eqb}
use Rattle.std.proofs.lemmas.List.{length-take}
use Rattle.std.proofs.Math.Nat.{pow-suc}
use Rattle.binary_numbers.specs.Numbers.{worth, number}
use Rattle.binary_numbers.specs.Carries.{added}
use Rattle.binary_numbers.proofs.Carrying.{Overflows, carry_less, number_not, number_below}
use Rattle.binary_numbers.proofs.Scanning.{map_long, added_number, added_long, split_last}
use Rattle.binary_numbers.specs.Quotients.{IsQuotient}
use Rattle.binary_numbers.proofs.Dividing.{only_quotient}
use Rattle.binary_numbers.proofs.Multiplying.{take_number, row_number}
use Rattle.number_gates.specs.declared.wire.Wire.{Wire}
use Rattle.number_gates.specs.declared.wire.Bit.{Bit}
use Rattle.number_gates.specs.declared.wire.Bit.TheVariants.{Zero}
use Rattle.number_gates.specs.Steps.{done, ◌>>=◌}
use Rattle.number_gates.specs.BitGates.{opposite}
use Rattle.number_gates.specs.BitLists.{both_each, opposite_all, widened}
use Rattle.number_gates.specs.Numbers.{choose_same, some, sum_same}
use Rattle.number_gates.specs.Quotients.{Borrowed, subtract_same, Divided, divide_more, divide, divided}
use Rattle.number_laws.specs.Values.{bit, bits, number_on, Computes}
use Rattle.number_laws.proofs.Making.{makes_then, makes_so, makes_done}
use Rattle.number_laws.proofs.BitValues.{opposite_makes, both_each_makes, opposite_all_makes, bits_take, bits_long, bit_at}
use Rattle.number_laws.proofs.NumberValues.{same_bits, not_long, number_chosen, one_width, wide_number, some_makes, sum_same_makes, choose_same_makes}

-- the borrow tells which is larger, and the bits are those of the difference where it is 0
pub record IsBorrowed (on : Wire → Bool) (a b : List Bit) (t : Borrowed) : Type 0 where
  pub less : bit on t.less ≡ nat_lt (number_on on a) (number_on on b)
  pub bits_long : length t.bits ≡ length a
  pub number : nat_lt (number_on on a) (number_on on b) ≡ false → number_on on t.bits ≡ number_on on a - number_on on b

subtract_is : (on : Wire → Bool) (a b n s d : List Bit) → length a ≡ length b → bits on n ≡ map not (bits on a) → bits on s ≡ added (bits on n) (bits on b) → bits on d ≡ map not (bits on (take (length a) s))
    → IsBorrowed on a b (record { bits = d; less = get_or s (length s - 1) Zero })
subtract_is on a b n s d l en es ed =
    let same : length (bits on n) ≡ length (bits on b) = same_bits on n b (not_long on a n en ∙ l) in
    let long : length (bits on s) ≡ length a + 1 = ap length es ∙ added_long (bits on n) (bits on b) same ∙ ap (λ k. k + 1) (bits_long on n ∙ not_long on a n en) in
    let last : Bool = get_or (bits on s) (length a) false in
    let low : List Bool = take (length a) (bits on s) in
    let low_long : length low ≡ length a = length-take (length a) (bits on s) ∙ (let k : min (length a) (length (bits on s)) ≡ length a = omega (arith, long) in k) in
    let not_a : number (map not (bits on a)) + number (bits on a) + 1 ≡ 2 ^ length a = number_not (bits on a) ∙ ap (λ k. 2 ^ k) (bits_long on a) in
    let total : number low + 2 ^ length a * worth last ≡ number (map not (bits on a)) + number (bits on b) =
    split_last false (length a) (bits on s) long ∙ ap number es ∙ added_number (bits on n) (bits on b) same ∙ ap (λ us. number us + number (bits on b)) en in
    let small : number low < 2 ^ length a = subst (λ k. number low < 2 ^ k) low_long (number_below low) in
    let over : Overflows (length a) (0 + (number (map not (bits on a)) + number (bits on b))) last = record { low = number low; small = small; is = omega (arith, total) } in
    let below : number (bits on b) < 2 ^ length a = subst (λ k. number (bits on b) < 2 ^ k) (bits_long on b ∙ sym l) (number_below (bits on b)) in
    let tells : last ≡ nat_lt (number_on on a) (number_on on b) = carry_less (length a) (number_on on a) (number_on on b) (number (map not (bits on a))) last not_a over below in
    let d_is : bits on d ≡ map not low = ed ∙ ap (map not) (bits_take on (length a) s) in
    record {
      less = bit_at on (length s - 1) s Zero ∙ ap (λ k. get_or (bits on s) k false) (let k : length s - 1 ≡ length a = omega (arith, long, bits_long on s) in k) ∙ tells;
      bits_long = sym (bits_long on d) ∙ ap length d_is ∙ map_long not low ∙ low_long;
      number = λ e. ap number d_is ∙ go last low (tells ∙ e) low_long not_a total;
    }
  where
    go : (last : Bool) (low : List Bool) → last ≡ false → length low ≡ length a → number (map not (bits on a)) + number (bits on a) + 1 ≡ 2 ^ length a
        → number low + 2 ^ length a * worth last ≡ number (map not (bits on a)) + number (bits on b) → number (map not low) ≡ number_on on a - number_on on b
    go true low e long n t = cc
    go false low e long n t = omega (arith, n, t, subst (λ m. number (map not low) + number low + 1 ≡ 2 ^ m) long (number_not low))

subtract_makes : (on : Wire → Bool) (a b : List Bit) → length a ≡ length b → Computes on (subtract_same a b) (IsBorrowed on a b)
subtract_makes on a b l =
    makes_then (λ n. sum_same n b >>= (λ s. opposite_all (take (length a) s) >>= (λ d. done (record { bits = d; less = get_or s (length s - 1) Zero })))) (IsBorrowed on a b) (opposite_all_makes on a)
    (λ n en. makes_then (λ s. opposite_all (take (length a) s) >>= (λ d. done (record { bits = d; less = get_or s (length s - 1) Zero }))) (IsBorrowed on a b) (sum_same_makes on n b (not_long on a n en ∙ l))
    (λ s es. makes_then (λ d. done (record { bits = d; less = get_or s (length s - 1) Zero })) (IsBorrowed on a b) (opposite_all_makes on (take (length a) s))
    (λ d ed. makes_done (record { bits = d; less = get_or s (length s - 1) Zero }) (IsBorrowed on a b) (subtract_is on a b n s d l en es ed))))

-- a number m of n bits is that many times the divisor and a rest
pub record IsDivided (on : Wire → Bool) (m n by : ℕ) (t : Divided) : Type 0 where
  pub whole : m ≡ number_on on t.quotient * by + number_on on t.rest
  pub less : 0 < by → number_on on t.rest < by
  pub long : length t.quotient ≡ n

-- a step, in numbers
pub record IsStep (m by q rest : ℕ) : Type 0 where
  pub whole : m ≡ q * by + rest
  pub less : 0 < by → rest < by

step_less : (x q r by m : ℕ) → m ≡ q * by + r → x + 2 * r < by → IsStep (x + 2 * m) by (0 + 2 * q) (x + 2 * r)
step_less x q r by m e l = record { whole = ap (λ k. x + 2 * k) e ∙ (let k : x + 2 * (q * by + r) ≡ (0 + 2 * q) * by + (x + 2 * r) = omega arith in k); less = λ p. l }

step_more : (x q r by m : ℕ) → x ≤ 1 → m ≡ q * by + r → (0 < by → r < by) → by ≤ x + 2 * r → IsStep (x + 2 * m) by (1 + 2 * q) (x + 2 * r - by)
step_more x q r by m s e f l = record {
  whole = ap (λ k. x + 2 * k) e ∙ (let k : x + 2 * (q * by + r) ≡ (1 + 2 * q) * by + (x + 2 * r - by) = omega (arith, l) in k);
  less = λ p. (let k : r < by = f p in omega (arith, s, k));
}

worth_small : (x : Bool) → worth x ≤ 1
worth_small true = omega arith
worth_small false = omega arith

step_is : (x : Bool) (q r by m d : ℕ) (less : Bool) → less ≡ nat_lt (worth x + 2 * r) by → (nat_lt (worth x + 2 * r) by ≡ false → d ≡ worth x + 2 * r - by) → m ≡ q * by + r → (0 < by → r < by)
    → IsStep (worth x + 2 * m) by (worth (not less) + 2 * q) (cond less (worth x + 2 * r) d)
step_is x q r by m d true e h w f = step_less (worth x) q r by m w (ltb-true (worth x + 2 * r) by (sym e))
step_is x q r by m d false e h w f =
    subst (λ k. IsStep (worth x + 2 * m) by (1 + 2 * q) k) (sym (h (sym e))) (step_more (worth x) q r by m (worth_small x) w f (ltb-false (worth x + 2 * r) by (sym e)))

rest_small : (m n by q rest : ℕ) → m < 2 ^ n → m ≡ q * by + rest → rest < 2 ^ n
rest_small m n by q rest l e = let more : rest ≤ q * by + rest = omega arith in omega (arith, more, e, l)

divide_more_makes : (on : Wire → Bool) (x : Bit) (b : List Bit) (m n : ℕ) (t : Divided) → m < 2 ^ n → IsDivided on m n (number_on on b) t
    → Computes on (divide_more x b t) (IsDivided on (worth (bit on x) + 2 * m) (suc n) (number_on on b))
divide_more_makes on x b m n t small it =
    let w : ℕ = max (length (x ∷ t.rest)) (length b) in
    let r : List Bit = widened w (x ∷ t.rest) in
    let c : List Bit = widened w b in
    let by : ℕ = number_on on b in
    let r_is : number_on on r ≡ worth (bit on x) + 2 * number_on on t.rest = wide_number on w (x ∷ t.rest) in
    let c_is : number_on on c ≡ by = wide_number on w b in
    let Q : Divided → Type 0 = IsDivided on (worth (bit on x) + 2 * m) (suc n) by in
    makes_then (λ s. opposite s.less >>= (λ q. choose_same s.less r s.bits >>= (λ o. done (record { quotient = q ∷ t.quotient; rest = take (suc (length t.quotient)) o })))) Q (subtract_makes on r c (one_width (x ∷ t.rest) b))
    (λ s is. makes_then (λ q. choose_same s.less r s.bits >>= (λ o. done (record { quotient = q ∷ t.quotient; rest = take (suc (length t.quotient)) o }))) Q (opposite_makes on s.less)
    (λ q eq. makes_then (λ o. done (record { quotient = q ∷ t.quotient; rest = take (suc (length t.quotient)) o })) Q (choose_same_makes on s.less r s.bits (sym is.bits_long))
    (λ o eo.
    let tells : bit on s.less ≡ nat_lt (worth (bit on x) + 2 * number_on on t.rest) by = is.less ∙ ap₂ nat_lt r_is c_is in
    let step : IsStep (worth (bit on x) + 2 * m) by (worth (not (bit on s.less)) + 2 * number_on on t.quotient) (cond (bit on s.less) (worth (bit on x) + 2 * number_on on t.rest) (number_on on s.bits)) =
    step_is (bit on x) (number_on on t.quotient) (number_on on t.rest) by m (number_on on s.bits) (bit on s.less) tells
    (λ e. is.number (ap₂ nat_lt r_is c_is ∙ e) ∙ ap₂ (λ u v. u - v) r_is c_is) it.whole it.less in
    let chosen : number_on on o ≡ cond (bit on s.less) (worth (bit on x) + 2 * number_on on t.rest) (number_on on s.bits) =
    ap number eo ∙ number_chosen (bit on s.less) (bits on r) (bits on s.bits) ∙ ap (λ u. cond (bit on s.less) u (number_on on s.bits)) r_is in
    let above : worth (bit on x) + 2 * m < 2 ^ suc n = omega (arith, small, worth_small (bit on x), pow-suc 2 n) in
    let fits : number (bits on o) < 2 ^ suc (length t.quotient) =
    subst (λ k. number (bits on o) < 2 ^ suc k) (sym it.long) (subst (λ k. k < 2 ^ suc n) (sym chosen) (rest_small (worth (bit on x) + 2 * m) (suc n) by _ _ above step.whole)) in
    let kept : number_on on (take (suc (length t.quotient)) o) ≡ cond (bit on s.less) (worth (bit on x) + 2 * number_on on t.rest) (number_on on s.bits) =
    ap number (bits_take on (suc (length t.quotient)) o) ∙ take_number (suc (length t.quotient)) (bits on o) fits ∙ chosen in
    makes_done (record { quotient = q ∷ t.quotient; rest = take (suc (length t.quotient)) o }) Q (record {
      whole = step.whole ∙ ap₂ (λ u v. (worth u + 2 * number_on on t.quotient) * by + v) (sym eq) (sym kept);
      less = λ p. subst (λ k. k < by) (sym kept) (step.less p);
      long = ap suc it.long;
    }))))

divide_makes : (on : Wire → Bool) (a b : List Bit) → Computes on (divide a b) (IsDivided on (number_on on a) (length a) (number_on on b))
unfolding divide
divide_makes on [] b = makes_done (record { quotient = []; rest = [] }) (IsDivided on 0 0 (number_on on b)) (record { whole = omega arith; less = λ p. p; long = refl })
divide_makes on (x ∷ a) b =
    makes_then (λ t. divide_more x b t) (IsDivided on (number_on on (x ∷ a)) (length (x ∷ a)) (number_on on b)) (divide_makes on a b)
    (λ t it. divide_more_makes on x b (number_on on a) (length a) t (subst (λ k. number_on on a < 2 ^ k) (bits_long on a) (number_below (bits on a))) it)

masked : (by q : ℕ) (some : Bool) → some ≡ not (nat_eq by 0) → worth some * q * by ≡ q * by
masked by q true e = omega arith
masked zero q false e = omega arith
masked (suc by) q false e = absurd (let k : false ≡ true = e ∙ ap not (ne_eqb (suc by) 0 (λ z. omega arith)) in cc)

-- the quotient and the rest, as they come of the steps
record IsWhole (on : Wire → Bool) (m by : ℕ) (t : Divided) : Type 0 where
  whole : m ≡ number_on on t.quotient * by + number_on on t.rest
  less : 0 < by → number_on on t.rest < by
  none : by ≡ 0 → number_on on t.quotient ≡ 0

whole_makes : (on : Wire → Bool) (a b : List Bit) → Computes on (divided a b) (IsWhole on (number_on on a) (number_on on b))
whole_makes on a b =
    let Q : Divided → Type 0 = IsWhole on (number_on on a) (number_on on b) in
    makes_then (λ t. some b >>= (λ by_some. both_each by_some t.quotient >>= (λ q. done (record { quotient = q; rest = t.rest })))) Q (divide_makes on a b)
    (λ t it. makes_then (λ by_some. both_each by_some t.quotient >>= (λ q. done (record { quotient = q; rest = t.rest }))) Q (some_makes on b)
    (λ by_some es. makes_then (λ q. done (record { quotient = q; rest = t.rest })) Q (both_each_makes on by_some t.quotient)
    (λ q eq.
    let is : number_on on q ≡ worth (bit on by_some) * number_on on t.quotient = ap number eq ∙ row_number (bit on by_some) (bits on t.quotient) in
    makes_done (record { quotient = q; rest = t.rest }) Q (record {
      whole = it.whole ∙ ap (λ k. k + number_on on t.rest) (sym (ap (λ k. k * number_on on b) is ∙ masked (number_on on b) (number_on on t.quotient) (bit on by_some) es));
      less = it.less;
      none = λ e. is ∙ ap (λ k. worth k * number_on on t.quotient) (es ∙ ap not (eq-eqb (number_on on b) 0 e)) ∙ (let k : 0 * number_on on t.quotient ≡ 0 = omega arith in k);
    }))))

pub divided_makes : (on : Wire → Bool) (a b : List Bit) → Computes on (divided a b) (λ t. IsQuotient (number_on on a) (number_on on b) (number_on on t.quotient) (number_on on t.rest))
divided_makes on a b =
    makes_so (λ (t : Divided). IsQuotient (number_on on a) (number_on on b) (number_on on t.quotient) (number_on on t.rest)) (whole_makes on a b)
    (λ t it. only_quotient (number_on on a) (number_on on b) (number_on on t.quotient) (number_on on t.rest) it.whole it.less it.none)
