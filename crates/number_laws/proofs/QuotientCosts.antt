-- What quotients and rests cost.
use Rattle.std.proofs.Common.{inl, replicate, ◌≡◌, ℕ, zero, suc, ◌+◌, ◌-◌, ◌*◌, ◌^◌, ◌≤◌, List, [], ◌∷◌, length, take, get_or, max, refl, ap, subst, arith}
use Rattle.number_gates.specs.declared.wire.Wire.{Wire}
use Rattle.number_gates.specs.declared.wire.Bit.{Bit}
use Rattle.number_gates.specs.declared.wire.Bit.TheVariants.{Zero}
use Rattle.number_gates.specs.Steps.{◌>>=◌}
use Rattle.number_gates.specs.BitLists.{join_all, both_each, opposite_all, widened}
use Rattle.number_gates.specs.Quotients.{Borrowed, subtract_same, Divided, divide_same, divide_more, divide, divided}
use Rattle.number_laws.specs.Reading.{IsOpen}
use Rattle.number_laws.proofs.Costing.{Costs, costs_then, costs_so, costs_few, costs_done}
use Rattle.number_laws.proofs.BitCosts.{AreBits, open_more, bits_at, bits_take, bits_more, bits_long, bits_none, bits_first, bits_wide, opposite_costs, both_each_costs, opposite_all_costs}
use Rattle.number_laws.proofs.CarryCosts.{IsFirst}
use Rattle.number_laws.proofs.NumberCosts.{choose_same_costs, some_costs, sum_easy_costs}

scaled : (v w c : ℕ) → v ≤ w → v * c ≤ w * c
scaled v w c l = subst (λ x. v * c ≤ x * c) (let e : v + (w - v) ≡ w = omega arith in e) (omega arith)

module _ (P : ℕ → Wire → Type 0) (up : (d e : ℕ) (w : Wire) → d ≤ e → P d w → P e w) where
  abbrev AreBorrowed : ℕ → ℕ → Borrowed → Type 0
  AreBorrowed d n t = AreBits P d n t.bits × IsOpen (P d) t.less

  abbrev pub AreDivided : ℕ → ℕ → Divided → Type 0
  AreDivided d n t = AreBits P d n t.quotient × AreBits P (d + 1) n t.rest

  opposite_first : (c d n : ℕ) (xs : List Bit) → c ≤ d → AreBits P d n xs → IsFirst P c xs → Costs P 0 (opposite_all xs) (λ r. AreBits P d n r × IsFirst P c r)
  unfolding join_all
  opposite_first c d n [] l h f = costs_done [] (bits_long P up d 0 n [] h.long (bits_none P up d), tt)
  opposite_first c d n (x ∷ xs) l h f =
      let m : ℕ = length xs in
      costs_few (omega arith) (costs_then _ (opposite_costs P up c x f)
      (λ z hz. costs_then _ (opposite_all_costs P up d m xs (record { long = refl; within = h.within.1 }))
      (λ zs hs. costs_done (z ∷ zs) (bits_long P up d (suc m) n (z ∷ zs) h.long (bits_first P up d m z zs (open_more P up c d z l hz) hs), hz))))

  first_wide : (c n w : ℕ) (xs : List Bit) → AreBits P c n xs → IsFirst P c (widened w xs)
  first_wide c n w [] h = go (w - length {A = Bit} [])
    where
      go : (n : ℕ) → IsFirst P c (replicate n Zero)
      go zero = tt
      go (suc n) = tt
  first_wide c n w (x ∷ xs) h = h.within.0

  -- of two numbers whose first bits are less deep
  subtract_same_costs : (c d k w : ℕ) (a b : List Bit) → c + 1 ≤ d → AreBits P d w a → AreBits P d w b → IsFirst P c a → IsFirst P c b → w ≤ 2 ^ k → Costs P (w * (k + 1)) (subtract_same a b) (AreBorrowed (d + k) w)
  subtract_same_costs c d k w a b l h j f g s =
      costs_few (omega arith) (costs_then _ (opposite_first c d w a (omega (arith, l)) h f)
      (λ n hn. costs_then _ (sum_easy_costs P up d k w n b hn.0 j (inl (c, l, hn.1, g)) s)
      (λ r hr. costs_then _ (opposite_all_costs P up (d + k) w (take (length a) r) (bits_long P up (d + k) (length a) w (take (length a) r) h.long (bits_take P up (d + k) (w + 1) (length a) r (omega (arith, h.long)) hr)))
      (λ e he. costs_done (record { bits = e; less = get_or r (length r - 1) Zero }) (he, bits_at P up (d + k) (w + 1) (length r - 1) r Zero hr tt)))))

  divide_same_costs : (c d k w i : ℕ) (q r b : List Bit) → c ≤ d → suc i ≤ w → AreBits P d i q → AreBits P (d + 1) w r → AreBits P (d + 1) w b → IsFirst P c r → IsFirst P c b → w ≤ 2 ^ k
      → Costs P (w * (k + 2)) (divide_same q r b) (AreDivided (d + (k + 1)) (suc i))
  divide_same_costs c d k w i q r b lc l hq hr hb fr fb s =
      let e : ℕ = d + 1 + k in
      let f : ℕ = d + (k + 1) in
      costs_few (omega arith) (costs_then _ (subtract_same_costs c (d + 1) k w r b (omega (arith, lc)) hr hb fr fb s)
      (λ t ht. costs_then _ (opposite_costs P up e t.less ht.1)
      (λ o ho. costs_then _ (choose_same_costs P up e w t.less r t.bits ht.1 (bits_more P up (d + 1) e w r (omega arith) hr) ht.0)
      (λ v hv. costs_done (record { quotient = o ∷ q; rest = take (suc (length q)) v }) (
        bits_first P up f i o q (open_more P up e f o (omega arith) ho) (bits_more P up d f i q (omega arith) hq),
        bits_long P up (f + 1) (suc (length q)) (suc i) (take (suc (length q)) v) (ap suc hq.long) (bits_more P up (e + 1) (f + 1) (suc (length q)) (take (suc (length q)) v) (omega arith) (bits_take P up (e + 1) w (suc (length q)) v (omega (arith, hq.long, l)) hv)),
      )))))

  divide_more_costs : (c d k w n i : ℕ) (x : Bit) (b : List Bit) (t : Divided) → c ≤ d → suc i ≤ w → n ≤ w → w ≤ 2 ^ k → IsOpen (P c) x → AreBits P c n b → AreDivided d i t → Costs P (w * (k + 2)) (divide_more x b t) (AreDivided (d + (k + 1)) (suc i))
  divide_more_costs c d k w n i x b t lc li ln s hx hb ht =
      let v : ℕ = max (length (x ∷ t.rest)) (length b) in
      let small : v ≤ w = omega (arith, ht.1.long, hb.long, li, ln) in
      costs_few (scaled v w (k + 2) small)
      (divide_same_costs c d k v i t.quotient (widened v (x ∷ t.rest)) (widened v b) lc (omega (arith, ht.1.long)) ht.0
      (bits_wide P up (d + 1) (suc i) v (x ∷ t.rest) (omega (arith, ht.1.long)) (bits_first P up (d + 1) i x t.rest (open_more P up c (d + 1) x (omega (arith, lc)) hx) ht.1))
      (bits_wide P up (d + 1) n v b (omega (arith, hb.long)) (bits_more P up c (d + 1) n b (omega (arith, lc)) hb)) hx (first_wide c n v b hb) (omega (arith, small, s)))

  divide_costs : (d k w n m : ℕ) (a b : List Bit) → m ≤ w → n ≤ w → w ≤ 2 ^ k → AreBits P d m a → AreBits P d n b → Costs P (m * (w * (k + 2))) (divide a b) (AreDivided (d + m * (k + 1)) m)
  unfolding divide
  divide_costs d k w n m [] b lm ln s ha hb =
      let e : ℕ = d + m * (k + 1) in
      costs_few (omega arith) (costs_done (record { quotient = []; rest = [] }) (bits_long P up e 0 m [] ha.long (bits_none P up e), bits_long P up (e + 1) 0 m [] ha.long (bits_none P up (e + 1))))
  divide_costs d k w n m (x ∷ a) b lm ln s ha hb =
      let i : ℕ = length a in
      let e : ℕ = d + i * (k + 1) in
      subst (λ y. Costs P (y * (w * (k + 2))) (divide a b >>= (λ t. divide_more x b t)) (AreDivided (d + y * (k + 1)) y)) ha.long
      (costs_so (let few : i * (w * (k + 2)) + w * (k + 2) ≤ suc i * (w * (k + 2)) = omega arith in few)
      (λ (t : Divided) h. subst (λ y. AreDivided y (suc i) t) (let deep : e + (k + 1) ≡ d + suc i * (k + 1) = omega arith in deep) h)
      (costs_then _ (divide_costs d k w n i a b (omega (arith, ha.long, lm)) ln s (record { long = refl; within = ha.within.1 }) hb)
      (λ t ht. divide_more_costs d e k w n i x b t (omega arith) (omega (arith, ha.long, lm)) ln s ha.within.0 hb ht)))

  masked_costs : (d k m : ℕ) (o : Bit) (q : List Bit) → IsOpen (P (d + k)) o → AreBits P (d + m * (k + 1)) m q → Costs P m (both_each o q) (AreBits P (d + m * (k + 1) + 1) m)
  unfolding join_all
  masked_costs d k zero o [] ho hq = costs_done [] (bits_none P up (d + 0 * (k + 1) + 1))
  masked_costs d k zero o (x ∷ q) ho hq = absurd (omega (arith, hq.long))
  masked_costs d k (suc m) o q ho hq = both_each_costs P up (d + suc m * (k + 1)) (suc m) o q (open_more P up (d + k) (d + suc m * (k + 1)) o (omega arith) ho) hq

  pub divided_costs : (d k w n m : ℕ) (a b : List Bit) → m ≤ w → n ≤ w → w ≤ 2 ^ k → AreBits P d m a → AreBits P d n b
      → Costs P (m * (w * (k + 2) + 1) + n) (divided a b) (λ t. AreBits P (d + m * (k + 1) + 1) m t.quotient × AreBits P (d + m * (k + 1) + 1) m t.rest)
  divided_costs d k w n m a b lm ln s ha hb =
      costs_few (let few : m * (w * (k + 2)) + (n - 1 + (m + 0)) ≤ m * (w * (k + 2) + 1) + n = omega arith in few)
      (costs_then _ (divide_costs d k w n m a b lm ln s ha hb)
      (λ t ht. costs_then _ (some_costs P up d k n b hb (omega (arith, ln, s)))
      (λ o ho. costs_then _ (masked_costs d k m o t.quotient ho ht.0)
      (λ q hq. costs_done (record { quotient = q; rest = t.rest }) (hq, ht.1)))))
