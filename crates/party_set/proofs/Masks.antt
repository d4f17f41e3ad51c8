-- What the operations on masks say of their parties.
use Rattle.std.proofs.Common.{◌≡◌, ℕ, ◌+◌, ◌-◌, ◌*◌, ◌%◌, ◌^◌, ◌<◌, ◌≤◌, inl, inr, Bool, true, false, not, ◌||◌, refl, sym, ◌∙◌, ap, arith, nat_eq, eq-eqb, w32}
use Rattle.std.specs.Prelude.{bit_or, max}
use Rattle.std.specs.Int.{bit_at, trailing_ones}
use Rattle.std.proofs.lemmas.Nat.Bits.{bit_at_or, bit_at_ones, bit_at-lt, bit_at_set_same, bit_at_set_other, bit_at-trailing_ones, same_from_bits_below}
use Rattle.std.proofs.lemmas.Nat.{or_lt, pow_pos}
use Rattle.std.proofs.lemmas.Bool.Decides.{eqb_tells}
use Rattle.std.proofs.Math.Pow.{pow-lt, pow_mono}
use Rattle.std.proofs.Math.Nat.{mod-eq_of_lt}
use Rattle.std.proofs.lemmas.Bool.{false_from_ne_true}
use Rattle.party_set.specs.Parties.{has_party, with_party, within, is_all, IsLeastOutside}
use Rattle.party_set.proofs.EveryNumber.{every_from, every_at}

or_true : (a : Bool) → (a || true) ≡ true
or_true true = refl
or_true false = refl

or_false : (a : Bool) → (a || false) ≡ a
or_false true = refl
or_false false = refl

-- `1 << n`
pub power_is : (n : ℕ) → n ≤ 12 → 1 * 2 ^ n % 2 ^ 32 ≡ 2 ^ n
power_is n l =
    let small : 2 ^ n ≤ 2 ^ 12 = pow_mono l in
    let whole : 1 * 2 ^ n % 2 ^ 32 ≡ 1 * 2 ^ n = mod-eq_of_lt (omega arith) in
    omega arith

pub bit_power : (n p : ℕ) → n ≤ 12 → p < n → 1 * 2 ^ p % 2 ^ 32 < 2 ^ n
bit_power n p l h =
    let power : 2 ^ p < 2 ^ n = pow-lt h in
    omega (arith, power_is p (omega arith))

one_of : (a b : ℕ) → a < 2 → b < 2 → nat_eq (max a b) 1 ≡ (nat_eq a 1 || nat_eq b 1)
one_of a b l h = grind (arith, eqb_tells a 1, eqb_tells b 1, eqb_tells (max a b) 1)

max_is : (a b : ℕ) → a < 2 → b < 2 → (not (nat_eq a 1) || nat_eq b 1) ≡ true → max a b ≡ b
max_is a b l h e = grind (arith, eqb_tells a 1, eqb_tells b 1)

absorbed : (a b : Bool) → (a || b) ≡ b → (not a || b) ≡ true
absorbed true b e = sym e
absorbed false b e = refl

pub has_union : (a b p : ℕ) → has_party (bit_or a b) p ≡ (has_party a p || has_party b p)
has_union a b p = ap (λ bit. nat_eq bit 1) (bit_at_or a b p) ∙ one_of (bit_at a p) (bit_at b p) (bit_at-lt a p) (bit_at-lt b p)

pub has_with : (a p q : ℕ) → p < 32 → has_party (bit_or a (1 * 2 ^ p % 2 ^ 32)) q ≡ (has_party a q || nat_eq q p)
has_with a p q l =
    elim (eqb_tells q p) [
      | inl same ↦
          (let is : has_party (bit_or a (1 * 2 ^ p % 2 ^ 32)) q ≡ true = ap (has_party (bit_or a (1 * 2 ^ p % 2 ^ 32))) same.1 ∙ eq-eqb _ 1 (bit_at_set_same w32 a p l) in
          let at : (has_party a q || nat_eq q p) ≡ true = ap (λ b. has_party a q || b) same.0 ∙ or_true (has_party a q) in
          is ∙ sym at)
      | inr other ↦
          (let is : has_party (bit_or a (1 * 2 ^ p % 2 ^ 32)) q ≡ has_party a q = ap (λ bit. nat_eq bit 1) (bit_at_set_other w32 a p l q other.1) in
          let at : (has_party a q || nat_eq q p) ≡ has_party a q = ap (λ b. has_party a q || b) other.0 ∙ or_false (has_party a q) in
          is ∙ sym at)
    ]

pub with_below : (n a p : ℕ) → a < 2 ^ n → p < n → with_party a p < 2 ^ n
with_below n a p la h = or_lt n a (2 ^ p) la (pow-lt {i = p} {j = n} h)

pub has_with_party : (a p q : ℕ) → p ≤ 12 → has_party (with_party a p) q ≡ (has_party a q || nat_eq q p)
has_with_party a p q l = ap (λ m. has_party (bit_or a m) q) (sym (power_is p l)) ∙ has_with a p q (omega (arith, l))

pub within_word : (n a b : ℕ) → a < 2 ^ n → b < 2 ^ n → nat_eq (bit_or a b) b ≡ within n a b
within_word n a b la lb =
    elim (eqb_tells (bit_or a b) b) [
      | inl same ↦ same.0 ∙ sym (every_from n _ (λ p _. absorbed (has_party a p) (has_party b p) (sym (has_union a b p) ∙ ap (λ m. has_party m p) same.1)))
      | inr other ↦ other.0 ∙ sym (false_from_ne_true (within n a b) (λ yes_all. other.1 (same_from_bits_below n (bit_or a b) b (or_lt n a b la lb) lb
          (λ p lp. bit_at_or a b p ∙ max_is (bit_at a p) (bit_at b p) (bit_at-lt a p) (bit_at-lt b p) (every_at n (λ q. not (has_party a q) || has_party b q) yes_all p lp)))))
    ]

one_is : (a : ℕ) → nat_eq a 1 ≡ true → a ≡ 1
one_is a e = grind (arith, eqb_tells a 1)

pub all_word : (n a : ℕ) → n ≤ 12 → a < 2 ^ n → nat_eq (a + 1) (1 * 2 ^ n % 2 ^ 32) ≡ is_all n a
all_word n a l la =
    let positive : 0 < 2 ^ n = pow_pos n in
    elim (eqb_tells (a + 1) (1 * 2 ^ n % 2 ^ 32)) [
      | inl same ↦
          (let full : a ≡ 2 ^ n - 1 = omega (arith, power_is n l, same.1) in
          same.0 ∙ sym (every_from n _ (λ p lp. eq-eqb _ 1 (ap (λ m. bit_at m p) full ∙ bit_at_ones n p lp))))
      | inr other ↦
          (let less : a ≡ 2 ^ n - 1 → ⊥ = λ full. other.1 (omega (arith, power_is n l, full)) in
          other.0 ∙ sym (false_from_ne_true (is_all n a) (λ yes_all. less (same_from_bits_below n a (2 ^ n - 1) la (omega arith)
          (λ p lp. one_is (bit_at a p) (every_at n (has_party a) yes_all p lp) ∙ sym (bit_at_ones n p lp))))))
    ]

small : (n a : ℕ) → n ≤ 12 → a < 2 ^ n → a + 1 < 2 ^ 32
small n a l la = let power : 2 ^ n ≤ 2 ^ 12 = pow_mono l in omega arith

pub least_is : (n a : ℕ) → n ≤ 12 → a < 2 ^ n → trailing_ones w32 a < n → IsLeastOutside n a (trailing_ones w32 a)
least_is n a l la h =
    let ones = bit_at-trailing_ones w32 a (small n a l la) in
    record {
      party = h;
      outside = ap (λ bit. nat_eq bit 1) ones.1;
      least = λ q lq. eq-eqb _ 1 (ones.2 q lq);
    }

pub no_least : (n a : ℕ) → n ≤ 12 → a < 2 ^ n → n ≤ trailing_ones w32 a → is_all n a ≡ true
no_least n a l la h =
    let ones = bit_at-trailing_ones w32 a (small n a l la) in
    every_from n _ (λ q lq. eq-eqb _ 1 (ones.2 q (omega arith)))
