-- What products cost.
use Rattle.std.proofs.Common.{inr, ◌≡◌, ℕ, zero, suc, ◌+◌, ◌-◌, ◌*◌, ◌/◌, ◌^◌, ◌≤◌, nat_lt, List, [], ◌∷◌, length, replicate, take, drop, get_or, refl, sym, ◌∙◌, ap, ap₂, subst, arith}
use Rattle.std.proofs.lemmas.Bool.{ltb-false}
use Rattle.std.proofs.Math.Nat.{pow-suc}
use Rattle.number_gates.specs.declared.wire.Wire.{Wire}
use Rattle.number_gates.specs.declared.wire.Bit.{Bit}
use Rattle.number_gates.specs.declared.wire.Bit.TheVariants.{Zero}
use Rattle.number_gates.specs.Steps.{◌>>=◌}
use Rattle.number_gates.specs.BitLists.{widened}
use Rattle.number_gates.specs.Products.{Addends, save_same, save, shifted, first_row, saved, rows, product}
use Rattle.number_laws.proofs.Costing.{Costs, costs_then, costs_so, costs_few, costs_done, costs_either}
use Rattle.number_laws.proofs.BitCosts.{AreBits, bits_take, bits_append, bits_same, bits_more, bits_none, bits_first, bits_wide, zero_bits, both_all_costs, differ_all_costs, both_each_costs, zero_each_costs}
use Rattle.number_laws.proofs.CarryCosts.{IsClosed, IsHalved, halved, bits_low, bits_high}
use Rattle.number_laws.proofs.NumberCosts.{sum_easy_costs}

-- products of the rows of m times n bits, where m is at most 2 ^ k
abbrev pub row_products : ℕ → ℕ → ℕ → ℕ
row_products m n k = 3 * m * n + 2 * m * k - 2 * n

rows_sum : (l h n k : ℕ) → row_products (suc l) n k + (row_products (suc h) n k + (suc l + suc h + n + (suc l + suc h + n))) ≤ row_products (suc l + suc h) n (suc k)
rows_sum l h n k = omega arith

first_row_sum : (m n k : ℕ) → n ≤ row_products (suc m) n k
first_row_sum m n k = omega arith

closed_same : (n : ℕ) → IsClosed (replicate n Zero)
closed_same zero = tt
closed_same (suc n) = refl

closed_wide : (n : ℕ) (xs : List Bit) → IsClosed xs → IsClosed (widened n xs)
closed_wide n [] z = closed_same (n - length {A = Bit} [])
closed_wide n (x ∷ xs) z = z

closed_front : (n : ℕ) (xs : List Bit) → IsClosed xs → IsClosed (take n xs)
closed_front zero xs z = tt
closed_front (suc n) [] z = tt
closed_front (suc n) (x ∷ xs) z = z

module _ (P : ℕ → Wire → Type 0) (up : (d e : ℕ) (w : Wire) → d ≤ e → P d w → P e w) where
  -- two numbers of at most n bits, of which the second begins with a bit that is 0
  record AreShort (d n : ℕ) (t : Addends) : Type 0 where
    first_long : ℕ
    second_long : ℕ
    first_short : first_long ≤ n
    second_short : second_long ≤ n
    first : AreBits P d first_long t.first
    second : AreBits P d second_long t.second
    closed : IsClosed t.second

  save_same_costs : (d n : ℕ) (x y z : List Bit) → AreBits P d n x → AreBits P d n y → AreBits P d n z → Costs P n (save_same n x y z) (AreShort (d + 1) n)
  save_same_costs d n x y z hx hy hz =
      costs_few (omega arith) (costs_then _ (differ_all_costs P up d n x z hx hz)
      (λ v hv. costs_then _ (differ_all_costs P up d n y z hy hz)
      (λ e he. costs_then _ (differ_all_costs P up d n v y hv hy)
      (λ s hs. costs_then _ (both_all_costs P up d n v e hv he)
      (λ t ht. costs_then _ (differ_all_costs P up (d + 1) n t z ht (bits_more P up d (d + 1) n z (omega arith) hz))
      (λ c hc. costs_done (record { first = s; second = take n (Zero ∷ c) }) (record {
        first_long = n;
        second_long = n;
        first_short = omega arith;
        second_short = omega arith;
        first = bits_more P up d (d + 1) n s (omega arith) hs;
        second = bits_take P up (d + 1) (suc n) n (Zero ∷ c) (omega arith) (bits_first P up (d + 1) n Zero c tt hc);
        closed = closed_front n (Zero ∷ c) refl;
      })))))))

  save_costs : (d n l m k : ℕ) (x y z : List Bit) → l ≤ n → m ≤ n → k ≤ n → AreBits P d l x → AreBits P d m y → AreBits P d k z → Costs P n (save n x y z) (AreShort (d + 1) n)
  save_costs d n l m k x y z sl sm sk hx hy hz =
      save_same_costs d n (widened n x) (widened n y) (widened n z) (bits_wide P up d l n x sl hx) (bits_wide P up d m n y sm hy) (bits_wide P up d k n z sk hz)

  bits_shifted : (d n h : ℕ) (xs : List Bit) → AreBits P d n xs → AreBits P d (h + n) (shifted h xs)
  bits_shifted d n h xs hx = bits_append P up d h n (replicate h Zero) xs (bits_same P up d h Zero tt) hx

  saved_costs : (d n h l m : ℕ) (low high : Addends) → AreShort d l low → AreShort d m high → l ≤ n → h + m ≤ n → Costs P (n + n) (saved n h low high) (AreShort (d + 2) n)
  saved_costs d n h l m low high hl hh sl sm =
      costs_then _ (save_costs d n hl.first_long hl.second_long (h + hh.first_long) low.first low.second (shifted h high.first) (omega (arith, hl.first_short, sl)) (omega (arith, hl.second_short, sl)) (omega (arith, hh.first_short, sm))
      hl.first hl.second (bits_shifted d hh.first_long h high.first hh.first))
      (λ t ht. costs_so (omega arith) (λ r hr. subst (λ x. AreShort x n r) (let e : d + 1 + 1 ≡ d + 2 = omega arith in e) hr)
      (save_costs (d + 1) n ht.first_long ht.second_long (h + hh.second_long) t.first t.second (shifted h high.second) ht.first_short ht.second_short (omega (arith, hh.second_short, sm))
      ht.first ht.second (bits_more P up d (d + 1) (h + hh.second_long) (shifted h high.second) (omega arith) (bits_shifted d hh.second_long h high.second hh.second))))

  short_first : (d e n m : ℕ) (r : List Bit) → d ≤ e → n ≤ m → AreBits P d n r → AreShort e m (record { first = r; second = [] })
  short_first d e n m r l s h = record {
    first_long = n;
    second_long = 0;
    first_short = s;
    second_short = omega arith;
    first = bits_more P up d e n r l h;
    second = bits_none P up e;
    closed = tt;
  }

  first_row_costs : (d k m n : ℕ) (a b : List Bit) → AreBits P d m a → AreBits P d n b → Costs P (row_products m n k) (first_row a b) (AreShort (d + 1 + 2 * k) (m + n))
  first_row_costs d k m n [] b ha hb =
      costs_few (omega arith) (costs_then _ (zero_each_costs P up (get_or [] 0 Zero) b refl)
      (λ r hr. costs_done (record { first = r; second = [] }) (short_first d (d + 1 + 2 * k) n (m + n) r (omega arith) (omega arith) (zero_bits P up d n r (hr.0 ∙ hb.long) hr.1))))
  first_row_costs d k m n (x ∷ a) b ha hb =
      costs_few (let s : n + 0 ≤ row_products m n k = subst (λ i. n + 0 ≤ row_products i n k) ha.long (omega (arith, first_row_sum (length a) n k)) in s)
      (costs_then _ (both_each_costs P up d n (get_or (x ∷ a) 0 Zero) b ha.within.0 hb)
      (λ r hr. costs_done (record { first = r; second = [] }) (short_first (d + 1) (d + 1 + 2 * k) n (m + n) r (omega arith) (omega arith) hr)))

  rows_step : (d f k m n w h : ℕ) (v : IsHalved m k) (a b : List Bit) → w ≡ m + n → h ≡ suc v.low
      → Costs P (row_products (suc v.low) n v.level) (rows f (take h a) b) (AreShort (d + 1 + 2 * v.level) (suc v.low + n))
      → Costs P (row_products (suc v.high) n v.level) (rows f (drop h a) b) (AreShort (d + 1 + 2 * v.level) (suc v.high + n))
      → Costs P (row_products m n k) (rows f (take h a) b >>= (λ low. rows f (drop h a) b >>= (λ high. saved w h low high))) (AreShort (d + 1 + 2 * k) (m + n))
  rows_step d f k m n w h v a b ew eh cl ch =
      let deeper : d + 1 + 2 * v.level + 2 ≡ d + 1 + 2 * k = omega (arith, v.deep) in
      let few : row_products (suc v.low) n v.level + (row_products (suc v.high) n v.level + (w + w)) ≤ row_products m n k =
      subst (λ x. row_products (suc v.low) n v.level + (row_products (suc v.high) n v.level + (x + x)) ≤ row_products m n k) (sym ew)
      (subst (λ x. row_products (suc v.low) n v.level + (row_products (suc v.high) n v.level + (m + n + (m + n))) ≤ row_products m n x) (sym v.deep)
      (subst (λ x. row_products (suc v.low) n v.level + (row_products (suc v.high) n v.level + (x + n + (x + n))) ≤ row_products x n (suc v.level)) v.whole (rows_sum v.low v.high n v.level))) in
      costs_few few (costs_then _ cl (λ low hl. costs_then _ ch (λ high hh.
      costs_so (omega arith) (λ r hr. subst (λ x. AreShort x (m + n) r) deeper (subst (λ x. AreShort (d + 1 + 2 * v.level + 2) x r) ew hr))
      (saved_costs (d + 1 + 2 * v.level) w h (suc v.low + n) (suc v.high + n) low high hl hh (omega (arith, v.whole, ew)) (omega (arith, v.whole, ew, eh))))))

  rows_costs : (d f k m n : ℕ) (a b : List Bit) → AreBits P d m a → AreBits P d n b → m ≤ 2 ^ k → Costs P (row_products m n k) (rows f a b) (AreShort (d + 1 + 2 * k) (m + n))
  unfolding rows
  rows_costs d zero k m n a b ha hb s = first_row_costs d k m n a b ha hb
  rows_costs d (suc f) k m n a b ha hb s =
      costs_either (nat_lt (length a) 2) _ _ (λ e. first_row_costs d k m n a b ha hb)
      (λ e.
      let v : IsHalved m k = halved m k (omega (arith, ltb-false (length a) 2 e, ha.long)) s in
      let h : ℕ = length a / 2 in
      let half : length a / 2 ≡ suc v.low = ap (λ x. x / 2) ha.long ∙ v.is in
      rows_step d f k m n (length a + length b) h v a b (ap₂ (λ x y. x + y) ha.long hb.long) half
      (rows_costs d f v.level (suc v.low) n (take h a) b (bits_low P up d m k h v a half ha) hb v.low_small)
      (rows_costs d f v.level (suc v.high) n (drop h a) b (bits_high P up d m k h v a half ha) hb v.high_small))

  pub product_costs : (d k m n : ℕ) (a b : List Bit) → AreBits P d m a → AreBits P d n b → m ≤ 2 ^ k → n ≤ 2 ^ k
      → Costs P (3 * m * n + 2 * m * k + (m + n) * (k + 2)) (product a b) (AreBits P (d + 3 * k + 2) (m + n))
  product_costs d k m n a b ha hb sa sb =
      let w : ℕ = length a + length b in
      let ew : w ≡ m + n = ap₂ (λ x y. x + y) ha.long hb.long in
      let e : ℕ = d + 1 + 2 * k in
      let small : w ≤ 2 ^ suc k = omega (arith, ew, sa, sb, pow-suc 2 k) in
      let few : row_products m n k + (w * (suc k + 1) + 0) ≤ 3 * m * n + 2 * m * k + (m + n) * (k + 2) =
      subst (λ x. row_products m n k + (x * (suc k + 1) + 0) ≤ 3 * m * n + 2 * m * k + (m + n) * (k + 2)) (sym ew) (omega arith) in
      costs_few few (costs_then _ (rows_costs d (length a) k m n a b ha hb sa)
      (λ t ht. costs_then _ (sum_easy_costs P up e (suc k) w (widened w t.first) (widened w t.second)
      (bits_wide P up e ht.first_long w t.first (omega (arith, ht.first_short, ew)) ht.first) (bits_wide P up e ht.second_long w t.second (omega (arith, ht.second_short, ew)) ht.second) (inr (closed_wide w t.second ht.closed)) small)
      (λ s hs. costs_done (take w s) (subst (λ x. AreBits P (d + 3 * k + 2) x (take w s)) ew
      (bits_more P up (e + suc k) (d + 3 * k + 2) w (take w s) (omega arith) (bits_take P up (e + suc k) (w + 1) w s (omega arith) hs))))))
