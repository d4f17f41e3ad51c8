-- What carries cost.
use Rattle.std.proofs.Common.{◌≡◌, ℕ, zero, suc, ◌+◌, ◌-◌, ◌*◌, ◌/◌, ◌^◌, ◌<◌, ◌≤◌, ◌⊎◌, inl, inr, nat_lt, List, [], ◌∷◌, ◌++◌, length, replicate, take, drop, get_or, refl, sym, ◌∙◌, ap, ap₂, subst, arith, length-append}
use Rattle.std.proofs.lemmas.Bool.{ltb-true, ltb-false}
use Rattle.std.proofs.lemmas.List.{length-take, length-drop, length-replicate}
use Rattle.std.proofs.Math.Nat.{pow-suc}
use Rattle.number_gates.specs.declared.wire.Wire.{Wire}
use Rattle.number_gates.specs.declared.wire.Bit.{Bit}
use Rattle.number_gates.specs.declared.wire.Bit.TheVariants.{Zero, One}
use Rattle.number_gates.specs.declared.carries.Carry.{Carry}
use Rattle.number_gates.specs.declared.gates.Joint.TheVariants.{Both}
use Rattle.number_gates.specs.Steps.{done, ◌>>=◌}
use Rattle.number_gates.specs.BitGates.{join}
use Rattle.number_gates.specs.BitLists.{join_all, closed}
use Rattle.number_gates.specs.Carries.{Carriers, chain, first_carry, over, total, over_all, scan, all}
use Rattle.number_laws.specs.Reading.{IsOpen}
use Rattle.number_laws.proofs.Costing.{Costs, costs_then, costs_few, costs_done, costs_either, costs_so}
use Rattle.number_laws.proofs.BitCosts.{AreBits, AreZero, zero_take, zero_drop, zero_append, zero_same, zero_at, open_more, bits_at, bits_take, bits_drop, bits_append, bits_more, both_costs, differ_costs, both_zero_costs, differ_zero_costs, both_all_costs, differ_all_costs, both_each_costs, zero_each_costs, bits_long, bits_none, bits_first}

-- ---- halves

-- half of a width of two bits or more, up to a power of two
pub record IsHalved (w k : ℕ) : Type 0 where
  pub low : ℕ
  pub high : ℕ
  pub level : ℕ
  pub is : w / 2 ≡ suc low
  pub whole : suc low + suc high ≡ w
  pub uneven : high ≤ suc low
  pub even : low ≤ high
  pub deep : k ≡ suc level
  pub low_small : suc low ≤ 2 ^ level
  pub high_small : suc high ≤ 2 ^ level

pub halved : (w k : ℕ) → 2 ≤ w → w ≤ 2 ^ k → IsHalved w k
halved w zero l s = absurd (omega arith)
halved w (suc k) l s = record {
  low = w / 2 - 1;
  high = w - w / 2 - 1;
  level = k;
  is = omega arith;
  whole = omega arith;
  uneven = omega arith;
  even = omega arith;
  deep = refl;
  low_small = omega (arith, s, pow-suc 2 k);
  high_small = omega (arith, s, pow-suc 2 k);
}

-- products of carries through all positions, of those up to each, and of those with none into the first
total_sum : (l h : ℕ) → 2 * suc l - 2 + (2 * suc h - 2 + 2) ≤ 2 * (suc l + suc h) - 2
total_sum l h = omega arith

scan_sum : (l h k : ℕ) → h ≤ suc l → suc l * (k + 1) - 1 + (suc h * (k + 1) - 1 + (suc h + suc h)) ≤ (suc l + suc h) * (suc k + 1) - 1
scan_sum l h k e = omega arith

closed_sum : (l h k : ℕ) → h ≤ suc l → suc l * k + (suc h * (k + 1) - 1 + suc h) ≤ (suc l + suc h) * suc k
closed_sum l h k e = omega arith

-- the first of these bits, if there is one, is 0
abbrev pub IsClosed : List Bit → Type 0
IsClosed [] = Unit {0}
IsClosed (x ∷ xs) = x ≡ Zero

pub closed_is : (xs : List Bit) → IsClosed (closed xs)
closed_is [] = tt
closed_is (x ∷ xs) = refl

closed_take : (h l : ℕ) (xs : List Bit) → h ≡ suc l → IsClosed xs → IsClosed (take h xs)
closed_take zero l xs e z = cc
closed_take (suc h) l [] e z = tt
closed_take (suc h) l (x ∷ xs) e z = z

closed_zero : (xs : List Bit) → length xs < 2 → IsClosed xs → AreZero xs
closed_zero [] l z = tt
closed_zero (x ∷ []) l z = (z, tt)
closed_zero (x ∷ (y ∷ xs)) l z = absurd (omega arith)

-- the first of these bits, if there is one, is known or on a wire of P d
abbrev pub IsFirst : (ℕ → Wire → Type 0) → ℕ → List Bit → Type 0
IsFirst P d [] = Unit {0}
IsFirst P d (x ∷ xs) = IsOpen (P d) x

first_take : (P : ℕ → Wire → Type 0) (d h l : ℕ) (xs : List Bit) → h ≡ suc l → IsFirst P d xs → IsFirst P d (take h xs)
first_take P d zero l xs e z = cc
first_take P d (suc h) l [] e z = tt
first_take P d (suc h) l (x ∷ xs) e z = z

first_alone : (P : ℕ → Wire → Type 0) (d w : ℕ) (xs : List Bit) → length xs < 2 → length xs ≡ w → IsFirst P d xs → AreBits P d w xs
first_alone P d w [] l e z = record { long = e; within = tt }
first_alone P d w (x ∷ []) l e z = record { long = e; within = (z, tt) }
first_alone P d w (x ∷ (y ∷ xs)) l e z = absurd (omega arith)

-- of two numbers: the first bits of both are less deep, or that of the second is 0, so that what they generate is not deeper than P d
abbrev pub AreEasy : (ℕ → Wire → Type 0) → ℕ → List Bit → List Bit → Type 0
AreEasy P d xs ys = ((c : ℕ) × (c + 1 ≤ d) × IsFirst P c xs × IsFirst P c ys) ⊎ IsClosed ys

module _ (P : ℕ → Wire → Type 0) (up : (d e : ℕ) (w : Wire) → d ≤ e → P d w → P e w) where
  abbrev pub IsCarry : ℕ → Carry → Type 0
  IsCarry d c = IsOpen (P d) c.generate × IsOpen (P d) c.propagate

  abbrev pub AreCarriers : ℕ → ℕ → Carriers → Type 0
  AreCarriers d n c = AreBits P (d + 1) n c.generate × AreBits P d n c.propagate

  -- what two bits generate at the first position
  easy_first : (d : ℕ) (x y : Bit) (xs ys : List Bit) → IsOpen (P d) x → IsOpen (P d) y → AreEasy P d (x ∷ xs) (y ∷ ys) → Costs P 1 (join Both x y) (IsOpen (P d))
  easy_first d x y xs ys hx hy (inl h) = costs_so (omega arith) (λ z hz. open_more P up (h.0 + 1) d z h.1 hz) (both_costs P up h.0 x y h.2 h.3)
  easy_first d x y xs ys hx hy (inr e) = costs_so (omega arith) (λ z hz. subst (IsOpen (P d)) (sym hz) tt) (both_zero_costs P up x y e)

  both_all_easy : (d n : ℕ) (xs ys : List Bit) → AreBits P d n xs → AreBits P d n ys → AreEasy P d xs ys → Costs P n (join_all Both xs ys) (λ c. AreBits P (d + 1) n c × IsFirst P d c)
  unfolding join_all
  both_all_easy d n [] ys h k z = costs_few (omega arith) (costs_done [] (bits_long P up (d + 1) 0 n [] h.long (bits_none P up (d + 1)), tt))
  both_all_easy d n (x ∷ xs) [] h k z = absurd (omega (arith, h.long, k.long))
  both_all_easy d n (x ∷ xs) (y ∷ ys) h k z =
      let m : ℕ = length xs in
      let long : suc m ≡ n = h.long in
      costs_few (omega (arith, long)) (costs_then _ (easy_first d x y xs ys h.within.0 k.within.0 z)
      (λ u hu. costs_then _ (both_all_costs P up d m xs ys (record { long = refl; within = h.within.1 }) (record { long = omega (arith, h.long, k.long); within = k.within.1 }))
      (λ us hs. costs_done (u ∷ us) (bits_long P up (d + 1) (suc m) n (u ∷ us) long (bits_first P up (d + 1) m u us (open_more P up d (d + 1) u (omega arith) hu) hs), hu))))

  pub chain_costs : (d n : ℕ) (a b : List Bit) → AreBits P d n a → AreBits P d n b → Costs P n (chain a b) (AreCarriers d n)
  chain_costs d n a b h k =
      costs_few (omega arith) (costs_then _ (both_all_costs P up d n a b h k) (λ g hg. costs_then _ (differ_all_costs P up d n a b h k) (λ p hp. costs_done (record { generate = g; propagate = p }) (hg, hp))))

  pub chain_easy : (d n : ℕ) (a b : List Bit) → AreBits P d n a → AreBits P d n b → AreEasy P d a b → Costs P n (chain a b) (λ c. AreCarriers d n c × IsFirst P d c.generate)
  chain_easy d n a b h k z =
      costs_few (omega arith) (costs_then _ (both_all_easy d n a b h k z) (λ g hg. costs_then _ (differ_all_costs P up d n a b h k) (λ p hp. costs_done (record { generate = g; propagate = p }) ((hg.0, hp), hg.1))))

  first_open : (d n : ℕ) (g p : List Bit) → AreBits P d n g → AreBits P d n p → IsCarry d (first_carry g p)
  first_open d n g p h k = (bits_at P up d n 0 g Zero h tt, bits_at P up d n 0 p One k tt)

  over_costs : (d : ℕ) (low high : Carry) → IsCarry d low → IsCarry d high → Costs P 2 (over low high) (IsCarry (d + 1))
  over_costs d low high h k =
      costs_few (omega arith) (costs_then _ (both_costs P up d high.propagate low.generate k.1 h.0)
      (λ passed hp. costs_then _ (differ_costs P up (d + 1) high.generate passed (open_more P up d (d + 1) high.generate (omega arith) k.0) hp)
      (λ g hg. costs_then _ (both_costs P up d high.propagate low.propagate k.1 h.1) (λ p hq. costs_done (record { generate = g; propagate = p }) (hg, hq)))))

  pub bits_low : (d w k h : ℕ) (v : IsHalved w k) (xs : List Bit) → h ≡ suc v.low → AreBits P d w xs → AreBits P d (suc v.low) (take h xs)
  bits_low d w k h v xs e hx = subst (λ m. AreBits P d m (take h xs)) e (bits_take P up d w h xs (omega (arith, e, v.whole)) hx)

  pub bits_high : (d w k h : ℕ) (v : IsHalved w k) (xs : List Bit) → h ≡ suc v.low → AreBits P d w xs → AreBits P d (suc v.high) (drop h xs)
  bits_high d w k h v xs e hx = bits_drop P up d w h (suc v.high) xs (omega (arith, e, v.whole)) hx

  first_costs : (d n k w : ℕ) (g p : List Bit) → AreBits P d w g → AreBits P d w p → Costs P n (done (first_carry g p)) (IsCarry (d + k))
  first_costs d n k w g p hg hp =
      costs_few (omega arith) (costs_done (first_carry g p) (first_open (d + k) w g p (bits_more P up d (d + k) w g (omega arith) hg) (bits_more P up d (d + k) w p (omega arith) hp)))

  total_step : (d n k w h : ℕ) (v : IsHalved w k) (g p : List Bit) → Costs P (2 * suc v.low - 2) (total n (take h g) (take h p)) (IsCarry (d + v.level))
      → Costs P (2 * suc v.high - 2) (total n (drop h g) (drop h p)) (IsCarry (d + v.level))
      → Costs P (2 * w - 2) (total n (take h g) (take h p) >>= (λ low. total n (drop h g) (drop h p) >>= (λ high. over low high))) (IsCarry (d + k))
  total_step d n k w h v g p cl ch =
      let deeper : d + v.level + 1 ≡ d + k = omega (arith, v.deep) in
      costs_few (subst (λ x. 2 * suc v.low - 2 + (2 * suc v.high - 2 + 2) ≤ 2 * x - 2) v.whole (total_sum v.low v.high))
      (costs_then _ cl (λ low hl. costs_then _ ch (λ high hh. subst (λ x. Costs P 2 (over low high) (IsCarry x)) deeper (over_costs (d + v.level) low high hl hh))))

  -- what all positions together make of a carry
  pub total_costs : (d n k w : ℕ) (g p : List Bit) → AreBits P d w g → AreBits P d w p → w ≤ 2 ^ k → Costs P (2 * w - 2) (total n g p) (IsCarry (d + k))
  unfolding total
  total_costs d zero k w g p hg hp s = first_costs d (2 * w - 2) k w g p hg hp
  total_costs d (suc n) k w g p hg hp s =
      costs_either (nat_lt (length g) 2) _ _ (λ e. first_costs d (2 * w - 2) k w g p hg hp)
      (λ e.
      let v : IsHalved w k = halved w k (omega (arith, ltb-false (length g) 2 e, hg.long)) s in
      let h : ℕ = length g / 2 in
      let half : length g / 2 ≡ suc v.low = ap (λ x. x / 2) hg.long ∙ v.is in
      total_step d n k w h v g p
      (total_costs d n v.level (suc v.low) (take h g) (take h p) (bits_low d w k h v g half hg) (bits_low d w k h v p half hp) v.low_small)
      (total_costs d n v.level (suc v.high) (drop h g) (drop h p) (bits_high d w k h v g half hg) (bits_high d w k h v p half hp) v.high_small))

  -- a carry that no position generates
  abbrev IsPassed : ℕ → Carry → Type 0
  IsPassed d c = (c.generate ≡ Zero) × IsOpen (P d) c.propagate

  passed_first : (d n k w : ℕ) (g p : List Bit) → AreZero g → AreBits P d w p → Costs P n (done (first_carry g p)) (IsPassed (d + k))
  passed_first d n k w g p z hp = costs_few (omega arith) (costs_done (first_carry g p) (first_zero g z, bits_at P up (d + k) w 0 p One (bits_more P up d (d + k) w p (omega arith) hp) tt))
    where
      first_zero : (xs : List Bit) → AreZero xs → get_or xs 0 Zero ≡ Zero
      first_zero [] z = refl
      first_zero (x ∷ xs) z = z.0

  over_passed : (d : ℕ) (low high : Carry) → IsPassed d low → IsPassed d high → Costs P 1 (over low high) (IsPassed (d + 1))
  over_passed d low high h k =
      costs_few (omega arith) (costs_then _ (both_zero_costs P up high.propagate low.generate h.0)
      (λ passed ep. costs_then _ (differ_zero_costs P up high.generate passed k.0 ep)
      (λ g eg. costs_then _ (both_costs P up d high.propagate low.propagate k.1 h.1) (λ p hq. costs_done (record { generate = g; propagate = p }) (eg, hq)))))

  passed_step : (d n k w h : ℕ) (v : IsHalved w k) (g p : List Bit) → Costs P (suc v.low - 1) (total n (take h g) (take h p)) (IsPassed (d + v.level))
      → Costs P (suc v.high - 1) (total n (drop h g) (drop h p)) (IsPassed (d + v.level))
      → Costs P (w - 1) (total n (take h g) (take h p) >>= (λ low. total n (drop h g) (drop h p) >>= (λ high. over low high))) (IsPassed (d + k))
  passed_step d n k w h v g p cl ch =
      let deeper : d + v.level + 1 ≡ d + k = omega (arith, v.deep) in
      costs_few (omega (arith, v.whole))
      (costs_then _ cl (λ low hl. costs_then _ ch (λ high hh. subst (λ x. Costs P 1 (over low high) (IsPassed x)) deeper (over_passed (d + v.level) low high hl hh))))

  passed_costs : (d n k w : ℕ) (g p : List Bit) → length g ≡ w → AreZero g → AreBits P d w p → w ≤ 2 ^ k → Costs P (w - 1) (total n g p) (IsPassed (d + k))
  unfolding total
  passed_costs d zero k w g p l z hp s = passed_first d (w - 1) k w g p z hp
  passed_costs d (suc n) k w g p l z hp s =
      costs_either (nat_lt (length g) 2) _ _ (λ e. passed_first d (w - 1) k w g p z hp)
      (λ e.
      let v : IsHalved w k = halved w k (omega (arith, ltb-false (length g) 2 e, l)) s in
      let h : ℕ = length g / 2 in
      let half : length g / 2 ≡ suc v.low = ap (λ x. x / 2) l ∙ v.is in
      passed_step d n k w h v g p
      (passed_costs d n v.level (suc v.low) (take h g) (take h p) (omega (arith, length-take h g, half, l, v.whole)) (zero_take h g z) (bits_low d w k h v p half hp) v.low_small)
      (passed_costs d n v.level (suc v.high) (drop h g) (drop h p) (omega (arith, length-drop h g, half, l, v.whole)) (zero_drop h g z) (bits_high d w k h v p half hp) v.high_small))

  -- whether all bits are 1
  pub all_costs : (d k w : ℕ) (xs : List Bit) → AreBits P d w xs → w ≤ 2 ^ k → Costs P (w - 1) (all xs) (IsOpen (P (d + k)))
  all_costs d k w xs h s =
      costs_few (omega arith) (costs_then _ (passed_costs d (length xs) k w (replicate (length xs) Zero) xs (length-replicate (length xs) Zero ∙ h.long) (zero_same (length xs)) h s)
      (λ t ht. costs_done t.propagate ht.1))

  -- ---- what the positions up to each one make of a carry

  over_all_costs : (d m n : ℕ) (low high : Carriers) → AreCarriers d m low → AreCarriers d n high → Costs P (n + n) (over_all low high) (AreCarriers (d + 1) (m + n))
  over_all_costs d m n low high hl hh =
      costs_few (omega arith) (costs_then _ (both_each_costs P up (d + 1) n (get_or low.generate (length low.generate - 1) Zero) high.propagate (bits_at P up (d + 1) m (length low.generate - 1) low.generate Zero hl.0 tt) (bits_more P up d (d + 1) n high.propagate (omega arith) hh.1))
      (λ passed hp. costs_then _ (differ_all_costs P up (d + 1 + 1) n high.generate passed (bits_more P up (d + 1) (d + 1 + 1) n high.generate (omega arith) hh.0) hp)
      (λ g hg. costs_then _ (both_each_costs P up d n (get_or low.propagate (length low.propagate - 1) One) high.propagate (bits_at P up d m (length low.propagate - 1) low.propagate One hl.1 tt) hh.1)
      (λ p hq. costs_done (record { generate = low.generate ++ g; propagate = low.propagate ++ p })
      (bits_append P up (d + 1 + 1) m n low.generate g (bits_more P up (d + 1) (d + 1 + 1) m low.generate (omega arith) hl.0) hg, bits_append P up (d + 1) m n low.propagate p (bits_more P up d (d + 1) m low.propagate (omega arith) hl.1) hq)))))

  carriers_more : (d e n : ℕ) (c : Carriers) → d ≤ e → AreCarriers d n c → AreCarriers e n c
  carriers_more d e n c l h = (bits_more P up (d + 1) (e + 1) n c.generate (omega arith) h.0, bits_more P up d e n c.propagate l h.1)

  scan_step : (d n k w h : ℕ) (v : IsHalved w k) (g p : List Bit) → Costs P (suc v.low * (v.level + 1) - 1) (scan n (take h g) (take h p)) (AreCarriers (d + v.level) (suc v.low))
      → Costs P (suc v.high * (v.level + 1) - 1) (scan n (drop h g) (drop h p)) (AreCarriers (d + v.level) (suc v.high))
      → Costs P (w * (k + 1) - 1) (scan n (take h g) (take h p) >>= (λ low. scan n (drop h g) (drop h p) >>= (λ high. over_all low high))) (AreCarriers (d + k) w)
  scan_step d n k w h v g p cl ch =
      let deeper : d + v.level + 1 ≡ d + k = omega (arith, v.deep) in
      let few : suc v.low * (v.level + 1) - 1 + (suc v.high * (v.level + 1) - 1 + (suc v.high + suc v.high)) ≤ w * (k + 1) - 1 =
      subst (λ x. suc v.low * (v.level + 1) - 1 + (suc v.high * (v.level + 1) - 1 + (suc v.high + suc v.high)) ≤ w * (x + 1) - 1) (sym v.deep)
      (subst (λ x. suc v.low * (v.level + 1) - 1 + (suc v.high * (v.level + 1) - 1 + (suc v.high + suc v.high)) ≤ x * (suc v.level + 1) - 1) v.whole (scan_sum v.low v.high v.level v.uneven)) in
      costs_few few (costs_then _ cl (λ low hl. costs_then _ ch (λ high hh.
      subst (λ x. Costs P (suc v.high + suc v.high) (over_all low high) (AreCarriers x w)) deeper
      (subst (λ x. Costs P (suc v.high + suc v.high) (over_all low high) (AreCarriers (d + v.level + 1) x)) v.whole (over_all_costs (d + v.level) (suc v.low) (suc v.high) low high hl hh)))))

  scan_costs : (d n k w : ℕ) (g p : List Bit) → AreBits P (d + 1) w g → AreBits P d w p → w ≤ 2 ^ k → Costs P (w * (k + 1) - 1) (scan n g p) (AreCarriers (d + k) w)
  unfolding scan
  scan_costs d zero k w g p hg hp s = costs_few (omega arith) (costs_done (record { generate = g; propagate = p }) (carriers_more d (d + k) w (record { generate = g; propagate = p }) (omega arith) (hg, hp)))
  scan_costs d (suc n) k w g p hg hp s =
      costs_either (nat_lt (length g) 2) _ _ (λ e. costs_few (omega arith) (costs_done (record { generate = g; propagate = p }) (carriers_more d (d + k) w (record { generate = g; propagate = p }) (omega arith) (hg, hp))))
      (λ e.
      let v : IsHalved w k = halved w k (omega (arith, ltb-false (length g) 2 e, hg.long)) s in
      let h : ℕ = length g / 2 in
      let half : length g / 2 ≡ suc v.low = ap (λ x. x / 2) hg.long ∙ v.is in
      scan_step d n k w h v g p
      (scan_costs d n v.level (suc v.low) (take h g) (take h p) (bits_low (d + 1) w k h v g half hg) (bits_low d w k h v p half hp) v.low_small)
      (scan_costs d n v.level (suc v.high) (drop h g) (drop h p) (bits_high (d + 1) w k h v g half hg) (bits_high d w k h v p half hp) v.high_small))

  -- ---- the same where no carry goes into the first position: none is passed on from there

  abbrev pub AreClosed : ℕ → ℕ → Carriers → Type 0
  AreClosed d n c = AreBits P d n c.generate × ((length c.propagate ≡ n) × AreZero c.propagate)

  over_closed : (d l n : ℕ) (low high : Carriers) → AreClosed d (suc l) low → AreCarriers d n high → Costs P n (over_all low high) (AreClosed (d + 1) (suc l + n))
  over_closed d l n low high hl hh =
      costs_few (omega arith) (costs_then _ (both_each_costs P up d n (get_or low.generate (length low.generate - 1) Zero) high.propagate (bits_at P up d (suc l) (length low.generate - 1) low.generate Zero hl.0 tt) hh.1)
      (λ passed hp. costs_then _ (differ_all_costs P up (d + 1) n high.generate passed hh.0 hp)
      (λ g hg. costs_then _ (zero_each_costs P up (get_or low.propagate (length low.propagate - 1) One) high.propagate (zero_at (length low.propagate - 1) low.propagate One hl.1.1 (omega (arith, hl.1.0))))
      (λ p hq. costs_done (record { generate = low.generate ++ g; propagate = low.propagate ++ p }) (
        bits_append P up (d + 1) (suc l) n low.generate g (bits_more P up d (d + 1) (suc l) low.generate (omega arith) hl.0) hg,
        (length-append low.propagate p ∙ ap₂ (λ a b. a + b) hl.1.0 (hq.0 ∙ hh.1.long), zero_append low.propagate p hl.1.1 hq.1),
      )))))

  closed_step : (d n k w h : ℕ) (v : IsHalved w k) (g p : List Bit) → Costs P (suc v.low * v.level) (scan n (take h g) (take h p)) (AreClosed (d + v.level) (suc v.low))
      → Costs P (suc v.high * (v.level + 1) - 1) (scan n (drop h g) (drop h p)) (AreCarriers (d + v.level) (suc v.high))
      → Costs P (w * k) (scan n (take h g) (take h p) >>= (λ low. scan n (drop h g) (drop h p) >>= (λ high. over_all low high))) (AreClosed (d + k) w)
  closed_step d n k w h v g p cl ch =
      let deeper : d + v.level + 1 ≡ d + k = omega (arith, v.deep) in
      let few : suc v.low * v.level + (suc v.high * (v.level + 1) - 1 + suc v.high) ≤ w * k =
      subst (λ x. suc v.low * v.level + (suc v.high * (v.level + 1) - 1 + suc v.high) ≤ w * x) (sym v.deep)
      (subst (λ x. suc v.low * v.level + (suc v.high * (v.level + 1) - 1 + suc v.high) ≤ x * suc v.level) v.whole (closed_sum v.low v.high v.level v.uneven)) in
      costs_few few (costs_then _ cl (λ low hl. costs_then _ ch (λ high hh.
      subst (λ x. Costs P (suc v.high) (over_all low high) (AreClosed x w)) deeper
      (subst (λ x. Costs P (suc v.high) (over_all low high) (AreClosed (d + v.level + 1) x)) v.whole (over_closed (d + v.level) v.low (suc v.high) low high hl hh)))))

  -- of the positions' generate bits the first one is less deep
  pub closed_costs : (d n k w : ℕ) (g p : List Bit) → AreBits P (d + 1) w g → IsFirst P d g → AreBits P d w p → IsClosed p → w ≤ suc n → w ≤ 2 ^ k → Costs P (w * k) (scan n g p) (AreClosed (d + k) w)
  unfolding scan
  closed_costs d zero k w g p hg f hp z n s =
      costs_few (omega arith) (costs_done (record { generate = g; propagate = p }) (bits_more P up d (d + k) w g (omega arith) (first_alone P d w g (omega (arith, hg.long, n)) hg.long f), (hp.long, closed_zero p (omega (arith, hp.long, n)) z)))
  closed_costs d (suc m) k w g p hg f hp z n s =
      costs_either (nat_lt (length g) 2) _ _
      (λ e. costs_few (omega arith) (costs_done (record { generate = g; propagate = p }) (bits_more P up d (d + k) w g (omega arith) (first_alone P d w g (ltb-true (length g) 2 e) hg.long f), (hp.long, closed_zero p (omega (arith, ltb-true (length g) 2 e, hg.long, hp.long)) z))))
      (λ e.
      let v : IsHalved w k = halved w k (omega (arith, ltb-false (length g) 2 e, hg.long)) s in
      let h : ℕ = length g / 2 in
      let half : length g / 2 ≡ suc v.low = ap (λ x. x / 2) hg.long ∙ v.is in
      closed_step d m k w h v g p
      (closed_costs d m v.level (suc v.low) (take h g) (take h p) (bits_low (d + 1) w k h v g half hg) (first_take P d h v.low g half f) (bits_low d w k h v p half hp) (closed_take h v.low p half z) (omega (arith, v.whole, n)) v.low_small)
      (scan_costs d m v.level (suc v.high) (drop h g) (drop h p) (bits_high (d + 1) w k h v g half hg) (bits_high d w k h v p half hp) v.high_small))
