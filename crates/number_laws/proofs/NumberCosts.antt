-- What gates of numbers cost: of two numbers of at most w bits, where w is at most 2 ^ k.
use Rattle.std.proofs.Common.{inl, ◌≡◌, ℕ, suc, ◌+◌, ◌-◌, ◌*◌, ◌^◌, ◌≤◌, List, [], ◌∷◌, ◌++◌, length, take, get_or, max, refl, subst, arith}
use Rattle.number_gates.specs.declared.wire.Wire.{Wire}
use Rattle.number_gates.specs.declared.wire.Bit.{Bit}
use Rattle.number_gates.specs.declared.wire.Bit.TheVariants.{Zero}
use Rattle.number_gates.specs.Steps.{Steps}
use Rattle.number_gates.specs.BitLists.{widened, closed}
use Rattle.number_gates.specs.Numbers.{choose_same, choose, some, equal_same, equal, less_same, less, sum_same, sum, difference_same, difference}
use Rattle.number_laws.specs.Reading.{IsOpen, AreOpen}
use Rattle.number_laws.proofs.Costing.{Costs, costs_then, costs_so, costs_few, costs_done}
use Rattle.number_laws.proofs.BitCosts.{AreBits, open_more, bits_at, bits_take, bits_append, bits_more, bits_long, bits_one, bits_first, bits_wide, opposite_costs, differ_all_costs, both_each_costs, opposite_all_costs}
use Rattle.number_laws.proofs.CarryCosts.{IsFirst, AreEasy, closed_is, chain_costs, chain_easy, total_costs, all_costs, closed_costs}

closed_long : (xs : List Bit) → length (closed xs) ≡ length xs
closed_long [] = refl
closed_long (x ∷ xs) = refl

module _ (P : ℕ → Wire → Type 0) (up : (d e : ℕ) (w : Wire) → d ≤ e → P d w → P e w) where
  bits_closed : (d n : ℕ) (xs : List Bit) → AreBits P d n xs → AreBits P d n (closed xs)
  bits_closed d n [] h = h
  bits_closed d n (x ∷ xs) h = record { long = h.long; within = (tt, h.within.1) }

  pub choose_same_costs : (d w : ℕ) (which : Bit) (a b : List Bit) → IsOpen (P d) which → AreBits P d w a → AreBits P d w b → Costs P w (choose_same which a b) (AreBits P (d + 1) w)
  choose_same_costs d w which a b o h k =
      costs_few (omega arith) (costs_then _ (differ_all_costs P up d w a b h k)
      (λ e he. costs_then _ (both_each_costs P up d w which e o he)
      (λ taken ht. differ_all_costs P up (d + 1) w taken b ht (bits_more P up d (d + 1) w b (omega arith) k))))

  pub some_costs : (d k w : ℕ) (a : List Bit) → AreBits P d w a → w ≤ 2 ^ k → Costs P (w - 1) (some a) (IsOpen (P (d + k)))
  some_costs d k w a h s =
      costs_few (omega arith) (costs_then _ (opposite_all_costs P up d w a h) (λ n hn. costs_then _ (all_costs P up d k w n hn s) (λ none ho. opposite_costs P up (d + k) none ho)))

  equal_same_costs : (d k w : ℕ) (a b : List Bit) → AreBits P d w a → AreBits P d w b → w ≤ 2 ^ k → Costs P (w - 1) (equal_same a b) (IsOpen (P (d + k)))
  equal_same_costs d k w a b h j s =
      costs_few (omega arith) (costs_then _ (opposite_all_costs P up d w a h) (λ n hn. costs_then _ (differ_all_costs P up d w n b hn j) (λ same hs. all_costs P up d k w same hs s)))

  less_same_costs : (d k w : ℕ) (a b : List Bit) → AreBits P d w a → AreBits P d w b → w ≤ 2 ^ k → Costs P (3 * w - 2) (less_same a b) (IsOpen (P (d + k + 1)))
  less_same_costs d k w a b h j s =
      costs_few (omega arith) (costs_then _ (opposite_all_costs P up d w a h)
      (λ n hn. costs_then _ (chain_costs P up d w n b hn j)
      (λ c hc. costs_then _ (total_costs P up (d + 1) (length c.generate) k w c.generate (closed c.propagate) hc.0 (bits_closed (d + 1) w c.propagate (bits_more P up d (d + 1) w c.propagate (omega arith) hc.1)) s)
      (λ t ht. costs_done t.generate (open_more P up (d + 1 + k) (d + k + 1) t.generate (omega arith) ht.0)))))

  -- the first positions of two numbers of one depth, one deeper than that
  pub easy_below : (d w : ℕ) (a b : List Bit) → AreBits P d w a → AreBits P d w b → AreEasy P (d + 1) a b
  easy_below d w a b h j = inl (d, omega arith, go a h.within, go b j.within)
    where
      go : (xs : List Bit) → AreOpen (P d) xs → IsFirst P d xs
      go [] h = tt
      go (x ∷ xs) h = h.0

  -- where the first position generates nothing deeper than the numbers
  pub sum_easy_costs : (d k w : ℕ) (a b : List Bit) → AreBits P d w a → AreBits P d w b → AreEasy P d a b → w ≤ 2 ^ k → Costs P (w * (k + 1)) (sum_same a b) (AreBits P (d + k) (w + 1))
  sum_easy_costs d k w a b h j z s =
      costs_few (omega arith) (costs_then _ (chain_easy P up d w a b h j z)
      (λ c hc. costs_then _ (closed_costs P up d (length c.generate) k w c.generate (closed c.propagate) hc.0.0 hc.1 (bits_closed d w c.propagate hc.0.1) (closed_is c.propagate) (omega (arith, hc.0.0.long)) s)
      (λ r hr.
      differ_all_costs P up (d + k) (w + 1) (c.propagate ++ (Zero ∷ [])) (Zero ∷ r.generate)
      (bits_append P up (d + k) w 1 c.propagate (Zero ∷ []) (bits_more P up d (d + k) w c.propagate (omega arith) hc.0.1) (bits_one P up (d + k) Zero tt))
      (bits_long P up (d + k) (suc w) (w + 1) (Zero ∷ r.generate) (omega arith) (bits_first P up (d + k) w Zero r.generate tt hr.0)))))

  pub sum_same_costs : (d k w : ℕ) (a b : List Bit) → AreBits P d w a → AreBits P d w b → w ≤ 2 ^ k → Costs P (w * (k + 1)) (sum_same a b) (AreBits P (d + k + 1) (w + 1))
  sum_same_costs d k w a b h j s =
      costs_so (omega arith) (λ c hc. bits_more P up (d + 1 + k) (d + k + 1) (w + 1) c (omega arith) hc)
      (sum_easy_costs (d + 1) k w a b (bits_more P up d (d + 1) w a (omega arith) h) (bits_more P up d (d + 1) w b (omega arith) j) (easy_below d w a b h j) s)

  difference_same_costs : (d k w : ℕ) (a b : List Bit) → AreBits P d w a → AreBits P d w b → w ≤ 2 ^ k → Costs P (w * (k + 2)) (difference_same a b) (AreBits P (d + k + 2) w)
  difference_same_costs d k w a b h j s =
      costs_so (omega arith) (λ c hc. bits_more P up (d + k + 1 + 1) (d + k + 2) w c (omega arith) hc)
      (costs_then _ (opposite_all_costs P up d w a h)
      (λ n hn. costs_then _ (sum_same_costs d k w n b hn j s)
      (λ r hr. costs_then _ (opposite_all_costs P up (d + k + 1) w (take (length a) r) (bits_long P up (d + k + 1) (length a) w (take (length a) r) h.long (bits_take P up (d + k + 1) (w + 1) (length a) r (omega (arith, h.long)) hr)))
      (λ e he. costs_then _ (opposite_costs P up (d + k + 1) (get_or r (length r - 1) Zero) (bits_at P up (d + k + 1) (w + 1) (length r - 1) r Zero hr tt))
      (λ least hl. both_each_costs P up (d + k + 1) w least e hl he)))))

  -- ---- of any two widths

  pub choose_costs : (d m n w : ℕ) (which : Bit) (a b : List Bit) → w ≡ max m n → IsOpen (P d) which → AreBits P d m a → AreBits P d n b → Costs P w (choose which a b) (AreBits P (d + 1) w)
  choose_costs d m n w which a b e o h k =
      let v : ℕ = max (length a) (length b) in
      let is : v ≡ w = omega (arith, h.long, k.long, e) in
      subst (λ x. Costs P x (choose which a b) (AreBits P (d + 1) x)) is
      (choose_same_costs d v which (widened v a) (widened v b) o (bits_wide P up d m v a (omega (arith, h.long)) h) (bits_wide P up d n v b (omega (arith, k.long)) k))

  -- steps for two numbers of one width, for any two
  wide_costs : {A : Type 0} (steps : List Bit → List Bit → Steps A) (Q : ℕ → A → Type 0) (c : ℕ → ℕ) (d m n w k : ℕ)
      → ((v : ℕ) (x y : List Bit) → AreBits P d v x → AreBits P d v y → v ≤ 2 ^ k → Costs P (c v) (steps x y) (Q v))
      → (a b : List Bit) → w ≡ max m n → AreBits P d m a → AreBits P d n b → w ≤ 2 ^ k
      → Costs P (c w) (steps (widened (max (length a) (length b)) a) (widened (max (length a) (length b)) b)) (Q w)
  wide_costs steps Q c d m n w k same a b e h j s =
      let v : ℕ = max (length a) (length b) in
      let is : v ≡ w = omega (arith, h.long, j.long, e) in
      subst (λ x. Costs P (c x) (steps (widened v a) (widened v b)) (Q x)) is
      (same v (widened v a) (widened v b) (bits_wide P up d m v a (omega (arith, h.long)) h) (bits_wide P up d n v b (omega (arith, j.long)) j) (omega (arith, is, s)))

  pub equal_costs : (d m n w k : ℕ) (a b : List Bit) → w ≡ max m n → AreBits P d m a → AreBits P d n b → w ≤ 2 ^ k → Costs P (w - 1) (equal a b) (IsOpen (P (d + k)))
  equal_costs d m n w k a b e h j s = wide_costs equal_same (λ v. IsOpen (P (d + k))) (λ v. v - 1) d m n w k (equal_same_costs d k) a b e h j s

  pub less_costs : (d m n w k : ℕ) (a b : List Bit) → w ≡ max m n → AreBits P d m a → AreBits P d n b → w ≤ 2 ^ k → Costs P (3 * w - 2) (less a b) (IsOpen (P (d + k + 1)))
  less_costs d m n w k a b e h j s = wide_costs less_same (λ v. IsOpen (P (d + k + 1))) (λ v. 3 * v - 2) d m n w k (less_same_costs d k) a b e h j s

  pub sum_costs : (d m n w k : ℕ) (a b : List Bit) → w ≡ max m n → AreBits P d m a → AreBits P d n b → w ≤ 2 ^ k → Costs P (w * (k + 1)) (sum a b) (AreBits P (d + k + 1) (w + 1))
  sum_costs d m n w k a b e h j s = wide_costs sum_same (λ v. AreBits P (d + k + 1) (v + 1)) (λ v. v * (k + 1)) d m n w k (sum_same_costs d k) a b e h j s

  pub difference_costs : (d m n w k : ℕ) (a b : List Bit) → w ≡ max m n → AreBits P d m a → AreBits P d n b → w ≤ 2 ^ k → Costs P (w * (k + 2)) (difference a b) (AreBits P (d + k + 2) w)
  difference_costs d m n w k a b e h j s = wide_costs difference_same (λ v. AreBits P (d + k + 2) v) (λ v. v * (k + 2)) d m n w k (difference_same_costs d k) a b e h j s
