-- The number of a value's bits is the number that is written of its wires.
use Rattle.std.proofs.Common.{◌≡◌, ℕ, zero, suc, ◌+◌, ◌*◌, ◌^◌, ◌<◌, List, [], ◌∷◌, length, refl, ap, ◌∙◌, arith}
use Rattle.std.specs.Prelude.{slice_index}
use Rattle.std.specs.Int.{bit_at}
use Rattle.std.proofs.lemmas.Nat.Bits.{bit_at_lowest}
use Rattle.std.proofs.Math.Nat.{mod-eq_of_lt, pow-suc}
use Rattle.list_laws.specs.Lists.{total}
use Rattle.list_laws.proofs.Totals.{total_eq, total_mul}
use Rattle.number_circuit.specs.Laws.{number_from, numbers_from}
use Rattle.value_words.specs.Turned.{column}

pub total_first : (n : ℕ) (f : ℕ → ℕ) → total (suc n) f ≡ f 0 + total n (λ i. f (suc i))
total_first zero f = omega arith
total_first (suc n) f = omega (arith, total_first n f)

lowest : (b : ℕ) → b < 2 → bit_at b 0 ≡ b
lowest b l = bit_at_lowest b ∙ mod-eq_of_lt l

module _ (bits : ℕ → ℕ) (low : (w : ℕ) → bits w < 2) where
  pub number_column : (w k : ℕ) → number_from bits w k ≡ column k (λ i. bits (w + i)) 0
  number_column w zero = refl
  number_column w (suc k) =
      let first : bit_at (bits (w + 0)) 0 ≡ bits w = ap (λ v. bit_at (bits v) 0) (let e : w + 0 ≡ w = omega arith in e) ∙ lowest (bits w) (low w) in
      let term : (i : ℕ) → bit_at (bits (w + suc i)) 0 * 2 ^ suc i ≡ bit_at (bits (w + 1 + i)) 0 * 2 ^ i * 2 = (λ i.
      let at : bit_at (bits (w + suc i)) 0 ≡ bit_at (bits (w + 1 + i)) 0 = ap (λ v. bit_at (bits v) 0) (let e : w + suc i ≡ w + 1 + i = omega arith in e) in
      ap (λ b. b * 2 ^ suc i) at ∙ ap (λ p. bit_at (bits (w + 1 + i)) 0 * p) (pow-suc 2 i) ∙ product_again (bit_at (bits (w + 1 + i)) 0) (2 ^ i)) in
      let rest : total k (λ i. bit_at (bits (w + suc i)) 0 * 2 ^ suc i) ≡ column k (λ i. bits (w + 1 + i)) 0 * 2 =
      total_eq k _ _ (λ i l. term i) ∙ total_mul k (λ i. bit_at (bits (w + 1 + i)) 0 * 2 ^ i) 2 in
      let all = total_first k (λ i. bit_at (bits (w + i)) 0 * 2 ^ i) in
      let before = number_column (w + 1) k in
      omega (arith, first, rest, all, before)
    where
      product_again : (a b : ℕ) → a * (b * 2) ≡ a * b * 2
      product_again a b = omega arith

-- the number of a value begins behind the values before it
pub numbers_at : (bits : ℕ → ℕ) (w : ℕ) (widths : List ℕ) (v : ℕ) → v < length widths → slice_index (numbers_from bits w widths) v ≡ number_from bits (w + total v (slice_index widths)) (slice_index widths v)
numbers_at bits w [] v l = absurd (omega (arith, l))
numbers_at bits w (k ∷ widths) zero l = ap (λ at. number_from bits at k) (let e : w ≡ w + 0 = omega arith in e)
numbers_at bits w (k ∷ widths) (suc v) l =
    numbers_at bits (w + k) widths v (omega (arith, l))
    ∙ ap (λ at. number_from bits at (slice_index widths v)) (let e : w + k + total v (slice_index widths) ≡ w + total (suc v) (slice_index (k ∷ widths)) = omega (arith, total_first v (slice_index (k ∷ widths))) in e)

pub many_numbers : (bits : ℕ → ℕ) (w : ℕ) (widths : List ℕ) → length (numbers_from bits w widths) ≡ length widths
many_numbers bits w [] = refl
many_numbers bits w (k ∷ widths) = ap suc (many_numbers bits (w + k) widths)
