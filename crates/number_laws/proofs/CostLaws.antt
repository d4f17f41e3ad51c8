-- What gates of numbers cost, how deep they are, which wires they read and how many bits they give, for two numbers.
use Rattle.std.proofs.Common.{◌≡◌, ℕ, zero, suc, ◌+◌, ◌-◌, ◌*◌, ◌≤◌, ◌^◌, List, [], ◌∷◌, length, max, refl, arith}
use Rattle.std.proofs.Math.Nat.{pow-suc}
use Rattle.number_gates.specs.declared.wire.Wire.{Wire}
use Rattle.number_gates.specs.declared.wire.Bit.{Bit}
use Rattle.number_gates.specs.declared.wire.Bit.TheVariants.{Zero, One, On}
use Rattle.number_gates.specs.BitGates.{opposite, both, differ}
use Rattle.number_gates.specs.Numbers.{choose, some, equal, less, sum, difference}
use Rattle.number_gates.specs.Products.{product}
use Rattle.number_gates.specs.Quotients.{divided}
use Rattle.number_laws.specs.Reading.{IsOpen, AreOpen}
use Rattle.number_laws.specs.Costs.{AtMost}
use Rattle.number_laws.specs.Depths.{AreWithin}
use Rattle.number_laws.specs.Laws.{IsKnown, AreFree, HaveLengths, AreReading, AreFew, AreShallow}
use Rattle.number_laws.proofs.Costing.{costs_so, costs_at_most, costs_gives, costs_reads, costs_deepens}
use Rattle.number_laws.proofs.BitCosts.{AreBits, bits_more, opposite_costs, differ_costs}
use Rattle.number_laws.proofs.NumberCosts.{choose_costs, some_costs, equal_costs, less_costs, sum_costs, difference_costs}
use Rattle.number_laws.proofs.ProductCosts.{product_costs}
use Rattle.number_laws.proofs.QuotientCosts.{divided_costs}

-- a width is at most that power of 2
pub below_power : (n : ℕ) → n ≤ 2 ^ n
below_power zero = omega arith
below_power (suc n) = omega (arith, go n, pow-suc 2 n)
  where
    go : (n : ℕ) → suc n ≤ 2 ^ n
    go zero = omega arith
    go (suc n) = omega (arith, go n, pow-suc 2 n)

bits_of : (P : ℕ → Wire → Type 0) (d : ℕ) (xs : List Bit) → AreOpen (P d) xs → AreBits P d (length xs) xs
bits_of P d xs h = record { long = refl; within = h }

-- ---- nothing is known of wires

any_open : (x : Bit) → IsOpen (λ w. Unit {0}) x
any_open Zero = tt
any_open One = tt
any_open (On w) = tt

any_bits : (xs : List Bit) → AreBits (λ d w. Unit {0}) 0 (length xs) xs
any_bits xs = record { long = refl; within = go xs }
  where
    go : (xs : List Bit) → AreOpen (λ w. Unit {0}) xs
    go [] = tt
    go (x ∷ xs) = (any_open x, go xs)

pub lengths_are : (a b : List Bit) → HaveLengths a b
lengths_are a b =
    let P : ℕ → Wire → Type 0 = λ d w. Unit {0} in
    let up : (d e : ℕ) (w : Wire) → d ≤ e → P d w → P e w = λ d e w l p. tt in
    let m : ℕ = length a in
    let n : ℕ = length b in
    let w : ℕ = max m n in
    let s : w ≤ 2 ^ w = below_power w in
    record {
      choose = λ which. costs_gives w (choose which a b) (costs_so (omega arith) (λ c (h : AreBits _ _ _ c). h.long) (choose_costs P up 0 m n w which a b refl (any_open which) (any_bits a) (any_bits b)));
      sum = costs_gives (w * (w + 1)) (sum a b) (costs_so (omega arith) (λ c (h : AreBits _ _ _ c). h.long) (sum_costs P up 0 m n w w a b refl (any_bits a) (any_bits b) s));
      difference = costs_gives (w * (w + 2)) (difference a b) (costs_so (omega arith) (λ c (h : AreBits _ _ _ c). h.long) (difference_costs P up 0 m n w w a b refl (any_bits a) (any_bits b) s));
      product = costs_gives (3 * m * n + 2 * m * w + (m + n) * (w + 2)) (product a b) (costs_so (omega arith) (λ c (h : AreBits _ _ _ c). h.long) (product_costs P up 0 w m n a b (any_bits a) (any_bits b) (omega (arith, s)) (omega (arith, s))));
      divided = costs_gives (m * (w * (w + 2) + 1) + n) (divided a b) (costs_so (omega arith) (λ c h. (h.0.long, h.1.long)) (divided_costs P up 0 w w n m a b (omega arith) (omega arith) s (any_bits a) (any_bits b)));
    }

pub few_are : (a b : List Bit) (w k : ℕ) → w ≡ max (length a) (length b) → w ≤ 2 ^ k → AreFew a b w k
few_are a b w k e s =
    let P : ℕ → Wire → Type 0 = λ d w. Unit {0} in
    let up : (d e : ℕ) (w : Wire) → d ≤ e → P d w → P e w = λ d e w l p. tt in
    let m : ℕ = length a in
    let n : ℕ = length b in
    record {
      equal = costs_at_most (w - 1) (equal a b) (equal_costs P up 0 m n w k a b e (any_bits a) (any_bits b) s);
      less = costs_at_most (3 * w - 2) (less a b) (less_costs P up 0 m n w k a b e (any_bits a) (any_bits b) s);
      some = costs_at_most (m - 1) (some a) (some_costs P up 0 k m a (any_bits a) (omega (arith, e, s)));
      choose = λ which. costs_at_most w (choose which a b) (choose_costs P up 0 m n w which a b e (any_open which) (any_bits a) (any_bits b));
      sum = costs_at_most (w * (k + 1)) (sum a b) (sum_costs P up 0 m n w k a b e (any_bits a) (any_bits b) s);
      difference = costs_at_most (w * (k + 2)) (difference a b) (difference_costs P up 0 m n w k a b e (any_bits a) (any_bits b) s);
      product = costs_at_most (3 * m * n + 2 * m * k + (m + n) * (k + 2)) (product a b) (product_costs P up 0 k m n a b (any_bits a) (any_bits b) (omega (arith, e, s)) (omega (arith, e, s)));
      divided = costs_at_most (m * (w * (k + 2) + 1) + n) (divided a b) (divided_costs P up 0 k w n m a b (omega (arith, e)) (omega (arith, e)) s (any_bits a) (any_bits b));
    }

first_free : (a b : Bit) → IsKnown a → AtMost 0 (both a b)
first_free Zero b h = record { few = tt }
first_free One b h = record { few = tt }
first_free (On w) b h = absurd h

second_free : (a b : Bit) → IsKnown b → AtMost 0 (both a b)
second_free Zero b h = record { few = tt }
second_free One b h = record { few = tt }
second_free (On w) Zero h = record { few = tt }
second_free (On w) One h = record { few = tt }
second_free (On w) (On v) h = absurd h

pub free_are : (a b : Bit) → AreFree a b
free_are a b =
    let P : ℕ → Wire → Type 0 = λ d w. Unit {0} in
    let up : (d e : ℕ) (w : Wire) → d ≤ e → P d w → P e w = λ d e w l p. tt in
    record {
      opposite = costs_at_most 0 (opposite a) (opposite_costs P up 0 a (any_open a));
      differ = costs_at_most 0 (differ a b) (differ_costs P up 0 a b (any_open a) (any_open b));
      first = first_free a b;
      second = second_free a b;
    }

-- ---- depths

pub shallow_are : (depth : Wire → ℕ) (a b : List Bit) (d w k : ℕ) → w ≡ max (length a) (length b) → w ≤ 2 ^ k → AreWithin depth d a → AreWithin depth d b → AreShallow depth a b d k
shallow_are depth a b d w k e s ha hb =
    let P : ℕ → Wire → Type 0 = λ d w. depth w ≤ d in
    let up : (d e : ℕ) (w : Wire) → d ≤ e → P d w → P e w = λ d e w l p. omega (arith, l, p) in
    let m : ℕ = length a in
    let n : ℕ = length b in
    let ka : AreBits P d m a = bits_of P d a ha in
    let kb : AreBits P d n b = bits_of P d b hb in
    record {
      equal = costs_deepens (w - 1) (equal a b) (equal_costs P up d m n w k a b e ka kb s);
      less = costs_deepens (3 * w - 2) (less a b) (less_costs P up d m n w k a b e ka kb s);
      some = costs_deepens (m - 1) (some a) (some_costs P up d k m a ka (omega (arith, e, s)));
      choose = λ which o. costs_deepens w (choose which a b) (costs_so (omega arith) (λ c (h : AreBits _ _ _ c). h.within) (choose_costs P up d m n w which a b e o ka kb));
      sum = costs_deepens (w * (k + 1)) (sum a b) (costs_so (omega arith) (λ c (h : AreBits _ _ _ c). h.within) (sum_costs P up d m n w k a b e ka kb s));
      difference = costs_deepens (w * (k + 2)) (difference a b) (costs_so (omega arith) (λ c (h : AreBits _ _ _ c). h.within) (difference_costs P up d m n w k a b e ka kb s));
      product = costs_deepens (3 * m * n + 2 * m * k + (m + n) * (k + 2)) (product a b) (costs_so (omega arith) (λ c (h : AreBits _ _ _ c). h.within) (product_costs P up d k m n a b ka kb (omega (arith, e, s)) (omega (arith, e, s))));
      divided = costs_deepens (m * (w * (k + 2) + 1) + n) (divided a b) (costs_so (omega arith) (λ c h. (h.0.within, h.1.within)) (divided_costs P up d k w n m a b (omega (arith, e)) (omega (arith, e)) s ka kb));
    }

-- ---- wires

pub reading_are : (P : Wire → Type 0) (a b : List Bit) → AreOpen P a → AreOpen P b → AreReading P a b
reading_are P a b ha hb =
    let F : ℕ → Wire → Type 0 = λ d. P in
    let up : (d e : ℕ) (w : Wire) → d ≤ e → F d w → F e w = λ d e w l p. p in
    let m : ℕ = length a in
    let n : ℕ = length b in
    let w : ℕ = max m n in
    let s : w ≤ 2 ^ w = below_power w in
    let ka : AreBits F 0 m a = bits_of F 0 a ha in
    let kb : AreBits F 0 n b = bits_of F 0 b hb in
    record {
      equal = costs_reads (w - 1) (equal a b) (equal_costs F up 0 m n w w a b refl ka kb s);
      less = costs_reads (3 * w - 2) (less a b) (less_costs F up 0 m n w w a b refl ka kb s);
      some = costs_reads (m - 1) (some a) (some_costs F up 0 w m a ka (omega (arith, s)));
      choose = λ which o. costs_reads w (choose which a b) (costs_so (omega arith) (λ c (h : AreBits _ _ _ c). h.within) (choose_costs F up 0 m n w which a b refl o ka kb));
      sum = costs_reads (w * (w + 1)) (sum a b) (costs_so (omega arith) (λ c (h : AreBits _ _ _ c). h.within) (sum_costs F up 0 m n w w a b refl ka kb s));
      difference = costs_reads (w * (w + 2)) (difference a b) (costs_so (omega arith) (λ c (h : AreBits _ _ _ c). h.within) (difference_costs F up 0 m n w w a b refl ka kb s));
      product = costs_reads (3 * m * n + 2 * m * w + (m + n) * (w + 2)) (product a b) (costs_so (omega arith) (λ c (h : AreBits _ _ _ c). h.within) (product_costs F up 0 w m n a b ka kb (omega (arith, s)) (omega (arith, s))));
      divided = costs_reads (m * (w * (w + 2) + 1) + n) (divided a b) (costs_so (omega arith) (λ c h. (h.0.within, h.1.within)) (divided_costs F up 0 w w n m a b (omega arith) (omega arith) s ka kb));
    }

pub within_more : (depth : Wire → ℕ) (d e : ℕ) (xs : List Bit) → d ≤ e → AreWithin depth d xs → AreWithin depth e xs
within_more depth d e xs l h =
    let up : (d e : ℕ) (w : Wire) → d ≤ e → depth w ≤ d → depth w ≤ e = λ d e w l p. omega (arith, l, p) in
    (bits_more (λ d w. depth w ≤ d) up d e (length xs) xs l (bits_of (λ d w. depth w ≤ d) d xs h)).within
