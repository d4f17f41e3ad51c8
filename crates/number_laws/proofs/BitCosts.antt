-- What gates of bits and of lists of bits cost.
use Rattle.std.proofs.Common.{◌≡◌, ℕ, zero, suc, ◌+◌, ◌-◌, ◌<◌, ◌≤◌, List, [], ◌∷◌, ◌++◌, length, replicate, take, drop, get_or, refl, sym, ◌∙◌, ap, ap₂, subst, arith, length-append}
use Rattle.std.proofs.lemmas.List.{length-take, length-drop, length-replicate}
use Rattle.number_gates.specs.declared.wire.Wire.{Wire}
use Rattle.number_gates.specs.declared.wire.Bit.{Bit}
use Rattle.number_gates.specs.declared.wire.Bit.TheVariants.{Zero, One, On}
use Rattle.number_gates.specs.declared.gates.Joint.TheVariants.{Both, Differ}
use Rattle.number_gates.specs.BitGates.{opposite, both, differ}
use Rattle.number_gates.specs.BitLists.{join_all, both_each, opposite_all, widened}
use Rattle.number_laws.specs.Reading.{IsOpen, AreOpen}
use Rattle.number_laws.proofs.Costing.{Spends, Costs, costs_then, costs_so, costs_few, costs_done}

-- n bits, known or on wires of P d
pub record AreBits (P : ℕ → Wire → Type 0) (d n : ℕ) (xs : List Bit) : Type 0 where
  pub long : length xs ≡ n
  pub within : AreOpen (P d) xs

-- known bits that are 0
abbrev pub AreZero : List Bit → Type 0
AreZero [] = Unit {0}
AreZero (x ∷ xs) = (x ≡ Zero) × AreZero xs

pub zero_take : (k : ℕ) (xs : List Bit) → AreZero xs → AreZero (take k xs)
zero_take zero xs h = tt
zero_take (suc k) [] h = tt
zero_take (suc k) (x ∷ xs) h = (h.0, zero_take k xs h.1)

pub zero_drop : (k : ℕ) (xs : List Bit) → AreZero xs → AreZero (drop k xs)
zero_drop zero xs h = h
zero_drop (suc k) [] h = tt
zero_drop (suc k) (x ∷ xs) h = zero_drop k xs h.1

pub zero_append : (xs ys : List Bit) → AreZero xs → AreZero ys → AreZero (xs ++ ys)
zero_append [] ys h k = k
zero_append (x ∷ xs) ys h k = (h.0, zero_append xs ys h.1 k)

pub zero_same : (n : ℕ) → AreZero (replicate n Zero)
zero_same zero = tt
zero_same (suc n) = (refl, zero_same n)

pub zero_at : (i : ℕ) (xs : List Bit) (d : Bit) → AreZero xs → i < length xs → get_or xs i d ≡ Zero
zero_at i [] d h l = absurd (omega arith)
zero_at zero (x ∷ xs) d h l = h.0
zero_at (suc i) (x ∷ xs) d h l = zero_at i xs d h.1 (omega arith)

module _ (P : ℕ → Wire → Type 0) (up : (d e : ℕ) (w : Wire) → d ≤ e → P d w → P e w) where
  -- ---- parts of lists

  pub open_more : (d e : ℕ) (x : Bit) → d ≤ e → IsOpen (P d) x → IsOpen (P e) x
  open_more d e Zero l h = tt
  open_more d e One l h = tt
  open_more d e (On w) l h = up d e w l h

  all_more : (d e : ℕ) (xs : List Bit) → d ≤ e → AreOpen (P d) xs → AreOpen (P e) xs
  all_more d e [] l h = tt
  all_more d e (x ∷ xs) l h = (open_more d e x l h.0, all_more d e xs l h.1)

  pub open_take : (d k : ℕ) (xs : List Bit) → AreOpen (P d) xs → AreOpen (P d) (take k xs)
  open_take d zero xs h = tt
  open_take d (suc k) [] h = tt
  open_take d (suc k) (x ∷ xs) h = (h.0, open_take d k xs h.1)

  pub open_drop : (d k : ℕ) (xs : List Bit) → AreOpen (P d) xs → AreOpen (P d) (drop k xs)
  open_drop d zero xs h = h
  open_drop d (suc k) [] h = tt
  open_drop d (suc k) (x ∷ xs) h = open_drop d k xs h.1

  pub open_append : (d : ℕ) (xs ys : List Bit) → AreOpen (P d) xs → AreOpen (P d) ys → AreOpen (P d) (xs ++ ys)
  open_append d [] ys h k = k
  open_append d (x ∷ xs) ys h k = (h.0, open_append d xs ys h.1 k)

  pub open_same : (d n : ℕ) (x : Bit) → IsOpen (P d) x → AreOpen (P d) (replicate n x)
  open_same d zero x h = tt
  open_same d (suc n) x h = (h, open_same d n x h)

  open_get : (d i : ℕ) (xs : List Bit) (x : Bit) → AreOpen (P d) xs → IsOpen (P d) x → IsOpen (P d) (get_or xs i x)
  open_get d i [] x h k = k
  open_get d zero (y ∷ xs) x h k = h.0
  open_get d (suc i) (y ∷ xs) x h k = open_get d i xs x h.1 k

  pub bits_at : (d n i : ℕ) (xs : List Bit) (x : Bit) → AreBits P d n xs → IsOpen (P d) x → IsOpen (P d) (get_or xs i x)
  bits_at d n i xs x h k = open_get d i xs x h.within k

  pub bits_take : (d n k : ℕ) (xs : List Bit) → k ≤ n → AreBits P d n xs → AreBits P d k (take k xs)
  bits_take d n k xs l h = record { long = omega (arith, length-take k xs, h.long, l); within = open_take d k xs h.within }

  pub bits_drop : (d n k m : ℕ) (xs : List Bit) → k + m ≡ n → AreBits P d n xs → AreBits P d m (drop k xs)
  bits_drop d n k m xs l h = record { long = omega (arith, length-drop k xs, h.long, l); within = open_drop d k xs h.within }

  pub bits_append : (d m n : ℕ) (xs ys : List Bit) → AreBits P d m xs → AreBits P d n ys → AreBits P d (m + n) (xs ++ ys)
  bits_append d m n xs ys h k = record { long = length-append xs ys ∙ ap₂ (λ a b. a + b) h.long k.long; within = open_append d xs ys h.within k.within }

  pub bits_same : (d n : ℕ) (x : Bit) → IsOpen (P d) x → AreBits P d n (replicate n x)
  bits_same d n x h = record { long = length-replicate n x; within = open_same d n x h }

  pub bits_more : (d e n : ℕ) (xs : List Bit) → d ≤ e → AreBits P d n xs → AreBits P e n xs
  bits_more d e n xs l h = record { long = h.long; within = all_more d e xs l h.within }

  pub bits_long : (d m n : ℕ) (xs : List Bit) → m ≡ n → AreBits P d m xs → AreBits P d n xs
  bits_long d m n xs e h = record { long = h.long ∙ e; within = h.within }

  pub bits_more_long : (d e m n : ℕ) (xs : List Bit) → d ≤ e → m ≡ n → AreBits P d m xs → AreBits P e n xs
  bits_more_long d e m n xs l s h = bits_long e m n xs s (bits_more d e m xs l h)

  pub bits_none : (d : ℕ) → AreBits P d 0 []
  bits_none d = record { long = refl; within = tt }

  pub bits_one : (d : ℕ) (x : Bit) → IsOpen (P d) x → AreBits P d 1 (x ∷ [])
  bits_one d x h = record { long = refl; within = (h, tt) }

  pub bits_first : (d n : ℕ) (x : Bit) (xs : List Bit) → IsOpen (P d) x → AreBits P d n xs → AreBits P d (suc n) (x ∷ xs)
  bits_first d n x xs h k = record { long = ap suc k.long; within = (h, k.within) }

  pub bits_wide : (d m n : ℕ) (xs : List Bit) → m ≤ n → AreBits P d m xs → AreBits P d n (widened n xs)
  bits_wide d m n xs l h = bits_long d (m + (n - length xs)) n (widened n xs) (omega (arith, h.long, l)) (bits_append d m (n - length xs) xs (replicate (n - length xs) Zero) h (bits_same d (n - length xs) Zero tt))

  -- ---- gates of bits

  opposite_spends : (d : ℕ) (a : Bit) → IsOpen (P d) a → Spends P (opposite a) 0 (IsOpen (P d))
  opposite_spends d Zero h = tt
  opposite_spends d One h = tt
  opposite_spends d (On a) h = record { depth = d; left = 0; reads = (h, refl, refl); few = omega arith; after = λ w p. up (d + 0) d w (omega arith) p }

  both_spends : (d : ℕ) (a b : Bit) → IsOpen (P d) a → IsOpen (P d) b → Spends P (both a b) 1 (IsOpen (P (d + 1)))
  both_spends d Zero b h k = tt
  both_spends d One b h k = open_more d (d + 1) b (omega arith) k
  both_spends d (On a) Zero h k = tt
  both_spends d (On a) One h k = up d (d + 1) a (omega arith) h
  both_spends d (On a) (On b) h k = record { depth = d; left = 0; reads = (h, k, refl); few = omega arith; after = λ w p. p }

  differ_spends : (d : ℕ) (a b : Bit) → IsOpen (P d) a → IsOpen (P d) b → Spends P (differ a b) 0 (IsOpen (P d))
  differ_spends d Zero b h k = k
  differ_spends d One b h k = opposite_spends d b k
  differ_spends d (On a) Zero h k = h
  differ_spends d (On a) One h k = opposite_spends d (On a) h
  differ_spends d (On a) (On b) h k = record { depth = d; left = 0; reads = (h, k, refl); few = omega arith; after = λ w p. up (d + 0) d w (omega arith) p }

  pub opposite_costs : (d : ℕ) (a : Bit) → IsOpen (P d) a → Costs P 0 (opposite a) (IsOpen (P d))
  opposite_costs d a h = record { spends = opposite_spends d a h }

  pub both_costs : (d : ℕ) (a b : Bit) → IsOpen (P d) a → IsOpen (P d) b → Costs P 1 (both a b) (IsOpen (P (d + 1)))
  both_costs d a b h k = record { spends = both_spends d a b h k }

  pub differ_costs : (d : ℕ) (a b : Bit) → IsOpen (P d) a → IsOpen (P d) b → Costs P 0 (differ a b) (IsOpen (P d))
  differ_costs d a b h k = record { spends = differ_spends d a b h k }

  -- what is 0 costs no product
  both_zero_spends : (a b : Bit) → b ≡ Zero → Spends P (both a b) 0 (λ c. c ≡ Zero)
  both_zero_spends Zero b e = refl
  both_zero_spends One b e = e
  both_zero_spends (On a) Zero e = refl
  both_zero_spends (On a) One e = cc
  both_zero_spends (On a) (On b) e = cc

  pub both_zero_costs : (a b : Bit) → b ≡ Zero → Costs P 0 (both a b) (λ c. c ≡ Zero)
  both_zero_costs a b e = record { spends = both_zero_spends a b e }

  pub differ_zero_costs : (a b : Bit) → a ≡ Zero → b ≡ Zero → Costs P 0 (differ a b) (λ c. c ≡ Zero)
  differ_zero_costs a b e f = subst (λ x. Costs P 0 (differ x b) (λ c. c ≡ Zero)) (sym e) (costs_done b f)

  -- ---- gates of lists of bits

  pub both_all_costs : (d n : ℕ) (xs ys : List Bit) → AreBits P d n xs → AreBits P d n ys → Costs P n (join_all Both xs ys) (AreBits P (d + 1) n)
  unfolding join_all
  both_all_costs d n xs ys h k = costs_so (omega (arith, h.long)) (λ c q. bits_long (d + 1) (length xs) n c h.long q) (go xs ys (h.long ∙ sym k.long) h.within k.within)
    where
      go : (xs ys : List Bit) → length xs ≡ length ys → AreOpen (P d) xs → AreOpen (P d) ys → Costs P (length xs) (join_all Both xs ys) (AreBits P (d + 1) (length xs))
      go [] ys l h k = costs_done [] (bits_none (d + 1))
      go (x ∷ xs) [] l h k = absurd (omega arith)
      go (x ∷ xs) (y ∷ ys) l h k =
          costs_few (omega arith) (costs_then _ (both_costs d x y h.0 k.0) (λ z hz. costs_then _ (go xs ys (omega arith) h.1 k.1) (λ zs hs. costs_done (z ∷ zs) (bits_first (d + 1) (length xs) z zs hz hs))))

  pub differ_all_costs : (d n : ℕ) (xs ys : List Bit) → AreBits P d n xs → AreBits P d n ys → Costs P 0 (join_all Differ xs ys) (AreBits P d n)
  unfolding join_all
  differ_all_costs d n xs ys h k = costs_so (omega arith) (λ c q. bits_long d (length xs) n c h.long q) (go xs ys (h.long ∙ sym k.long) h.within k.within)
    where
      go : (xs ys : List Bit) → length xs ≡ length ys → AreOpen (P d) xs → AreOpen (P d) ys → Costs P 0 (join_all Differ xs ys) (AreBits P d (length xs))
      go [] ys l h k = costs_done [] (bits_none d)
      go (x ∷ xs) [] l h k = absurd (omega arith)
      go (x ∷ xs) (y ∷ ys) l h k =
          costs_few (omega arith) (costs_then _ (differ_costs d x y h.0 k.0) (λ z hz. costs_then _ (go xs ys (omega arith) h.1 k.1) (λ zs hs. costs_done (z ∷ zs) (bits_first d (length xs) z zs hz hs))))

  pub both_each_costs : (d n : ℕ) (a : Bit) (xs : List Bit) → IsOpen (P d) a → AreBits P d n xs → Costs P n (both_each a xs) (AreBits P (d + 1) n)
  both_each_costs d n a xs h k = both_all_costs d n (replicate (length xs) a) xs (bits_long d (length xs) n (replicate (length xs) a) k.long (bits_same d (length xs) a h)) k

  pub opposite_all_costs : (d n : ℕ) (xs : List Bit) → AreBits P d n xs → Costs P 0 (opposite_all xs) (AreBits P d n)
  opposite_all_costs d n xs h = differ_all_costs d n (replicate (length xs) One) xs (bits_long d (length xs) n (replicate (length xs) One) h.long (bits_same d (length xs) One tt)) h

  -- a bit that is 0 beside each
  pub zero_each_costs : (a : Bit) (xs : List Bit) → a ≡ Zero → Costs P 0 (both_each a xs) (λ c. (length c ≡ length xs) × AreZero c)
  unfolding join_all
  zero_each_costs a xs e = subst (λ x. Costs P 0 (both_each x xs) (λ c. (length c ≡ length xs) × AreZero c)) (sym e) (go xs)
    where
      go : (xs : List Bit) → Costs P 0 (both_each Zero xs) (λ c. (length c ≡ length xs) × AreZero c)
      go [] = costs_done [] (refl, tt)
      go (x ∷ xs) = costs_few (omega arith) (costs_then _ (go xs) (λ zs hs. costs_done (Zero ∷ zs) (ap suc hs.0, (refl, hs.1))))

  pub zero_bits : (d n : ℕ) (xs : List Bit) → length xs ≡ n → AreZero xs → AreBits P d n xs
  zero_bits d n xs l h = record { long = l; within = go xs h }
    where
      go : (xs : List Bit) → AreZero xs → AreOpen (P d) xs
      go [] h = tt
      go (x ∷ xs) h = (subst (IsOpen (P d)) (sym h.0) tt, go xs h.1)
