-- The values of products.
use Rattle.std.proofs.Common.{◌≡◌, ℕ, zero, suc, ◌+◌, ◌*◌, ◌/◌, ◌^◌, ◌<◌, ◌≤◌, inl, inr, Bool, false, ◌&&◌, List, [], ◌∷◌, ◌++◌, length, replicate, take, drop, get_or, refl, sym, ◌∙◌, ap, ap₂, subst, arith, length-append}
use Rattle.std.proofs.lemmas.Bool.{cases_lt}
use Rattle.std.proofs.lemmas.List.{length-take, length-drop, length-replicate}
use Rattle.binary_numbers.specs.Numbers.{worth, number, unequal, zipped}
use Rattle.binary_numbers.proofs.Scanning.{zipped_long, map_long, added_number}
use Rattle.binary_numbers.proofs.Multiplying.{sums, saves, save_number, take_number, shift_number, row_number, halves_number, product_below, spread_product}
use Rattle.number_gates.specs.declared.wire.Wire.{Wire}
use Rattle.number_gates.specs.declared.wire.Bit.{Bit}
use Rattle.number_gates.specs.declared.wire.Bit.TheVariants.{Zero}
use Rattle.number_gates.specs.declared.gates.Joint.TheVariants.{Both, Differ}
use Rattle.number_gates.specs.Steps.{done, ◌>>=◌}
use Rattle.number_gates.specs.BitLists.{join_all, widened}
use Rattle.number_gates.specs.Numbers.{sum_same}
use Rattle.number_gates.specs.Products.{Addends, save_same, save, shifted, first_row, saved, rows, product}
use Rattle.number_gates.proofs.ProductSteps.{rows_small, rows_more}
use Rattle.number_laws.specs.Values.{bit, bits, number_on, Computes}
use Rattle.number_laws.proofs.Making.{makes_then, makes_so, makes_done, makes_along}
use Rattle.number_laws.proofs.BitValues.{join_all_makes, both_each_makes, bits_take, bits_drop, bits_long, bits_append, bits_zeros}
use Rattle.number_laws.proofs.NumberValues.{same_bits, wide_number, wide_long, sum_same_makes}

-- two numbers of at most n bits whose sum is m
pub record AreAddends (on : Wire → Bool) (m n : ℕ) (t : Addends) : Type 0 where
  pub total : number_on on t.first + number_on on t.second ≡ m
  pub first_short : length t.first ≤ n
  pub second_short : length t.second ≤ n

save_is : (on : Wire → Bool) (n : ℕ) (x y z s c : List Bit) → length x ≡ n → length y ≡ n → length z ≡ n → number_on on x + number_on on y + number_on on z < 2 ^ n
    → bits on s ≡ sums (bits on x) (bits on y) (bits on z) → bits on c ≡ saves (bits on x) (bits on y) (bits on z)
    → AreAddends on (number_on on x + number_on on y + number_on on z) n (record { first = s; second = take n (Zero ∷ c) })
save_is on n x y z s c lx ly lz small es ec =
    let xy : length (bits on x) ≡ length (bits on y) = same_bits on x y (lx ∙ sym ly) in
    let yz : length (bits on y) ≡ length (bits on z) = same_bits on y z (ly ∙ sym lz) in
    let xz : length (bits on x) ≡ length (bits on z) = same_bits on x z (lx ∙ sym lz) in
    let whole : number (bits on s) + 2 * number (bits on c) ≡ number_on on x + number_on on y + number_on on z = ap₂ (λ u v. number u + 2 * number v) es ec ∙ save_number (bits on x) (bits on y) (bits on z) xy yz in
    let carried : number_on on (take n (Zero ∷ c)) ≡ 2 * number (bits on c) =
    ap number (bits_take on n (Zero ∷ c)) ∙ take_number n (false ∷ bits on c) (let k : 0 + 2 * number (bits on c) < 2 ^ n = omega (arith, whole, small) in k) ∙ (let k : 0 + 2 * number (bits on c) ≡ 2 * number (bits on c) = omega arith in k) in
    let long : length s ≡ n =
    sym (bits_long on s) ∙ ap length es ∙ zipped_long unequal (zipped unequal (bits on x) (bits on z)) (bits on y) (zipped_long unequal (bits on x) (bits on z) xz ∙ xy)
    ∙ zipped_long unequal (bits on x) (bits on z) xz ∙ bits_long on x ∙ lx in
    record {
      total = ap (λ k. number (bits on s) + k) carried ∙ whole;
      first_short = omega (arith, long);
      second_short = omega (arith, length-take n (Zero ∷ c));
    }

save_same_makes : (on : Wire → Bool) (n : ℕ) (x y z : List Bit) → length x ≡ n → length y ≡ n → length z ≡ n → number_on on x + number_on on y + number_on on z < 2 ^ n
    → Computes on (save_same n x y z) (AreAddends on (number_on on x + number_on on y + number_on on z) n)
save_same_makes on n x y z lx ly lz small =
    let Q : Addends → Type 0 = AreAddends on (number_on on x + number_on on y + number_on on z) n in
    makes_then (λ d. join_all Differ y z >>= (λ e. join_all Differ d y >>= (λ s. join_all Both d e >>= (λ t. join_all Differ t z >>= (λ c. done (record { first = s; second = take n (Zero ∷ c) })))))) Q (join_all_makes on Differ x z)
    (λ d ed. makes_then (λ e. join_all Differ d y >>= (λ s. join_all Both d e >>= (λ t. join_all Differ t z >>= (λ c. done (record { first = s; second = take n (Zero ∷ c) }))))) Q (join_all_makes on Differ y z)
    (λ e ee. makes_then (λ s. join_all Both d e >>= (λ t. join_all Differ t z >>= (λ c. done (record { first = s; second = take n (Zero ∷ c) })))) Q (join_all_makes on Differ d y)
    (λ s es. makes_then (λ t. join_all Differ t z >>= (λ c. done (record { first = s; second = take n (Zero ∷ c) }))) Q (join_all_makes on Both d e)
    (λ t et. makes_then (λ c. done (record { first = s; second = take n (Zero ∷ c) })) Q (join_all_makes on Differ t z)
    (λ c ec. makes_done (record { first = s; second = take n (Zero ∷ c) }) Q
    (save_is on n x y z s c lx ly lz small (es ∙ ap (λ us. zipped unequal us (bits on y)) ed) (ec ∙ ap (λ us. zipped unequal us (bits on z)) (et ∙ ap₂ (zipped (λ a b. a && b)) ed ee))))))))

save_makes : (on : Wire → Bool) (n : ℕ) (x y z : List Bit) → length x ≤ n → length y ≤ n → length z ≤ n → number_on on x + number_on on y + number_on on z < 2 ^ n
    → Computes on (save n x y z) (AreAddends on (number_on on x + number_on on y + number_on on z) n)
save_makes on n x y z lx ly lz small =
    let same : number_on on (widened n x) + number_on on (widened n y) + number_on on (widened n z) ≡ number_on on x + number_on on y + number_on on z =
    ap₂ (λ u v. u + v + number_on on (widened n z)) (wide_number on n x) (wide_number on n y) ∙ ap (λ u. number_on on x + number_on on y + u) (wide_number on n z) in
    makes_so (AreAddends on (number_on on x + number_on on y + number_on on z) n)
    (save_same_makes on n (widened n x) (widened n y) (widened n z) (wide_long n x lx) (wide_long n y ly) (wide_long n z lz) (subst (λ k. k < 2 ^ n) (sym same) small))
    (λ t h. subst (λ k. AreAddends on k n t) same h)

shifted_number : (on : Wire → Bool) (h : ℕ) (xs : List Bit) → number_on on (shifted h xs) ≡ 2 ^ h * number_on on xs
shifted_number on h xs = ap number (bits_append on (replicate h Zero) xs ∙ ap (λ us. us ++ bits on xs) (bits_zeros on h)) ∙ shift_number h (bits on xs)

shifted_long : (h : ℕ) (xs : List Bit) → length (shifted h xs) ≡ h + length xs
shifted_long h xs = length-append (replicate h Zero) xs ∙ ap (λ k. k + length xs) (length-replicate h Zero)

three_small : (a b p c d l m n : ℕ) → a + b ≡ l → c + d ≡ m → l + p * m < n → a + b + p * c < n
three_small a b p c d l m n e f s = let s2 : l + p * (c + d) < n = subst (λ k. l + p * k < n) (sym f) s in omega (arith, e, s2)

four_total : (a b p c d l m : ℕ) → a + b ≡ l → c + d ≡ m → a + b + p * c + p * d ≡ l + p * m
four_total a b p c d l m e f = (let k : a + b + p * c + p * d ≡ a + b + p * (c + d) = omega arith in k) ∙ ap₂ (λ u v. u + p * v) e f

saved_makes : (on : Wire → Bool) (n h l m j k : ℕ) (low high : Addends) → AreAddends on l j low → AreAddends on m k high → j ≤ n → h + k ≤ n → l + 2 ^ h * m < 2 ^ n
    → Computes on (saved n h low high) (AreAddends on (l + 2 ^ h * m) n)
saved_makes on n h l m j k low high il ih lj lk small =
    let third : number_on on (shifted h high.first) ≡ 2 ^ h * number_on on high.first = shifted_number on h high.first in
    let fourth : number_on on (shifted h high.second) ≡ 2 ^ h * number_on on high.second = shifted_number on h high.second in
    let less : number_on on low.first + number_on on low.second + number_on on (shifted h high.first) < 2 ^ n =
    subst (λ u. number_on on low.first + number_on on low.second + u < 2 ^ n) (sym third)
    (three_small (number_on on low.first) (number_on on low.second) (2 ^ h) (number_on on high.first) (number_on on high.second) l m (2 ^ n) il.total ih.total small) in
    let all : number_on on low.first + number_on on low.second + number_on on (shifted h high.first) + number_on on (shifted h high.second) ≡ l + 2 ^ h * m =
    ap₂ (λ u v. number_on on low.first + number_on on low.second + u + v) third fourth
    ∙ four_total (number_on on low.first) (number_on on low.second) (2 ^ h) (number_on on high.first) (number_on on high.second) l m il.total ih.total in
    makes_then (λ t. save n t.first t.second (shifted h high.second)) (AreAddends on (l + 2 ^ h * m) n)
    (save_makes on n low.first low.second (shifted h high.first) (omega (arith, il.first_short, lj)) (omega (arith, il.second_short, lj)) (omega (arith, shifted_long h high.first, ih.first_short, lk)) less)
    (λ t it.
    let whole : number_on on t.first + number_on on t.second + number_on on (shifted h high.second) ≡ l + 2 ^ h * m = ap (λ u. u + number_on on (shifted h high.second)) it.total ∙ all in
    makes_so (AreAddends on (l + 2 ^ h * m) n)
    (save_makes on n t.first t.second (shifted h high.second) it.first_short it.second_short (omega (arith, shifted_long h high.second, ih.second_short, lk)) (subst (λ u. u < 2 ^ n) (sym whole) small))
    (λ r ir. subst (λ u. AreAddends on u n r) whole ir))

-- the product of the first bit
first_makes : (on : Wire → Bool) (a b : List Bit) → length a < 2 → Computes on (first_row a b) (AreAddends on (number_on on a * number_on on b) (length a + length b))
first_makes on a b l =
    makes_then (λ r. done (record { first = r; second = [] })) (AreAddends on (number_on on a * number_on on b) (length a + length b)) (both_each_makes on (get_or a 0 Zero) b)
    (λ r er. makes_done (record { first = r; second = [] }) (AreAddends on (number_on on a * number_on on b) (length a + length b)) (record {
      total = (let k : number (bits on r) + 0 ≡ number (bits on r) = omega arith in k) ∙ ap number er ∙ row_number (bit on (get_or a 0 Zero)) (bits on b) ∙ ap (λ k. k * number_on on b) (one on a l);
      first_short = (let long : length r ≡ length b = sym (bits_long on r) ∙ ap length er ∙ map_long (λ x. bit on (get_or a 0 Zero) && x) (bits on b) ∙ bits_long on b in omega (arith, long));
      second_short = omega arith;
    }))
  where
    one : (on : Wire → Bool) (a : List Bit) → length a < 2 → worth (bit on (get_or a 0 Zero)) ≡ number_on on a
    one on [] l = refl
    one on (x ∷ []) l = omega arith
    one on (x ∷ (y ∷ a)) l = absurd (omega arith)

low_short : (n h : ℕ) (g : List Bit) → h ≡ length g / 2 → 2 ≤ length g → length g ≤ suc (suc n) → length (take h g) ≤ suc n
low_short n h g d s l = omega (arith, length-take h g, d)

high_short : (n h : ℕ) (g : List Bit) → h ≡ length g / 2 → 2 ≤ length g → length g ≤ suc (suc n) → length (drop h g) ≤ suc n
high_short n h g d s l = omega (arith, length-drop h g, d)

-- the product by halves
halves : (on : Wire → Bool) (h : ℕ) (a : List Bit) → h ≤ length a → number_on on (take h a) + 2 ^ h * number_on on (drop h a) ≡ number_on on a
halves on h a l =
    ap₂ (λ u v. number u + 2 ^ h * number v) (bits_take on h a) (bits_drop on h a)
    ∙ ap (λ k. number (take h (bits on a)) + 2 ^ k * number (drop h (bits on a))) (let k : h ≡ length (take h (bits on a)) = omega (arith, length-take h (bits on a), bits_long on a, l) in k)
    ∙ halves_number h (bits on a)

pub rows_makes : (on : Wire → Bool) (n : ℕ) (a b : List Bit) → length a ≤ suc n → Computes on (rows n a b) (AreAddends on (number_on on a * number_on on b) (length a + length b))
unfolding rows
rows_makes on zero a b l = first_makes on a b (omega arith)
rows_makes on (suc n) a b l = elim (cases_lt (length a) 2) [
  | inl small ↦ makes_along (sym (rows_small (suc n) a b small)) (first_makes on a b small)
  | inr large ↦
      let h : ℕ = length a / 2 in
      let Q : Addends → Type 0 = AreAddends on (number_on on a * number_on on b) (length a + length b) in
      let inside : h ≤ length a = omega arith in
      let whole : number_on on (take h a) * number_on on b + 2 ^ h * (number_on on (drop h a) * number_on on b) ≡ number_on on a * number_on on b =
      spread_product (number_on on (take h a)) (2 ^ h) (number_on on (drop h a)) (number_on on b) (number_on on a) (halves on h a inside) in
      let below : number_on on a * number_on on b < 2 ^ (length a + length b) =
      subst (λ k. number_on on a * number_on on b < 2 ^ k) (ap₂ (λ u v. u + v) (bits_long on a) (bits_long on b)) (product_below (bits on a) (bits on b)) in
      makes_along (sym (rows_more (suc n) n h a b large (omega arith) (omega arith) refl))
      (makes_then (λ low. rows n (drop h a) b >>= (λ high. saved (length a + length b) h low high)) Q (rows_makes on n (take h a) b (low_short n h a refl large l))
      (λ low il. makes_then (λ high. saved (length a + length b) h low high) Q (rows_makes on n (drop h a) b (high_short n h a refl large l))
      (λ high ih. makes_so Q
      (saved_makes on (length a + length b) h (number_on on (take h a) * number_on on b) (number_on on (drop h a) * number_on on b) (length (take h a) + length b) (length (drop h a) + length b) low high il ih
      (omega (arith, length-take h a)) (omega (arith, length-drop h a, inside)) (subst (λ k. k < 2 ^ (length a + length b)) (sym whole) below))
      (λ t it. subst (λ k. AreAddends on k (length a + length b) t) whole it))))
]

pub product_makes : (on : Wire → Bool) (a b : List Bit) → Computes on (product a b) (λ c. number_on on c ≡ number_on on a * number_on on b)
product_makes on a b =
    let n : ℕ = length a + length b in
    let Q : List Bit → Type 0 = λ c. number_on on c ≡ number_on on a * number_on on b in
    let below : number_on on a * number_on on b < 2 ^ n =
    subst (λ k. number_on on a * number_on on b < 2 ^ k) (ap₂ (λ u v. u + v) (bits_long on a) (bits_long on b)) (product_below (bits on a) (bits on b)) in
    makes_then (λ t. sum_same (widened n t.first) (widened n t.second) >>= (λ s. done (take n s))) Q (rows_makes on (length a) a b (omega arith))
    (λ t it.
    let wide : length (widened n t.first) ≡ length (widened n t.second) = wide_long n t.first it.first_short ∙ sym (wide_long n t.second it.second_short) in
    makes_then (λ s. done (take n s)) Q (sum_same_makes on (widened n t.first) (widened n t.second) wide)
    (λ s es.
    let total : number (bits on s) ≡ number_on on a * number_on on b =
    ap number es ∙ added_number (bits on (widened n t.first)) (bits on (widened n t.second)) (same_bits on (widened n t.first) (widened n t.second) wide)
    ∙ ap₂ (λ u v. u + v) (wide_number on n t.first) (wide_number on n t.second) ∙ it.total in
    makes_done (take n s) Q (ap number (bits_take on n s) ∙ take_number n (bits on s) (subst (λ k. k < 2 ^ n) (sym total) below) ∙ total)))
