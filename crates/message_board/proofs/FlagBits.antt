-- The flags of cells in their full words.
use Rattle.std.proofs.Common.{◌≡◌, ◌≢◌, ◌⊎◌, ℕ, zero, suc, ◌+◌, ◌*◌, ◌%◌, ◌^◌, ◌<◌, sym, refl, ap, ◌∙◌, inl, inr, ⊎_elim, arith, w64}
use Rattle.std.specs.Prelude.{bit_or}
use Rattle.std.specs.Int.{bit_at}
use Rattle.std.proofs.lemmas.Nat.Bits.{bit_at_set_same, bit_at_set_other, bit_at-lt, bit_at-zero}
use Rattle.std.proofs.lemmas.Bool.{cases_eq}
use Rattle.std.proofs.Math.Pow.{pow-lt}
use Rattle.std.proofs.Math.Nat.{mod-eq_of_lt}
use Rattle.message_board.specs.Words.{flag, flag_bit}

-- `1 << (k % 64)`
shifted : (k : ℕ) → 1 * 2 ^ (k % 64) % 2 ^ 64 ≡ flag_bit k
shifted k =
    let small : 2 ^ (k % 64) < 2 ^ 64 = pow-lt (let l : k % 64 < 64 = omega arith in l) in
    let whole : 1 * 2 ^ (k % 64) % 2 ^ 64 ≡ 1 * 2 ^ (k % 64) = mod-eq_of_lt (omega arith) in
    omega arith

-- a flag that was set is 1
pub flag_set : (n k : ℕ) → flag k (bit_or n (flag_bit k)) ≡ 1
flag_set n k = ap (λ m. flag k (bit_or n m)) (sym (shifted k)) ∙ bit_at_set_same w64 n (k % 64) (omega arith)

-- and each other flag of the word stays
pub flag_else : (n j k : ℕ) → j % 64 ≢ k % 64 → flag j (bit_or n (flag_bit k)) ≡ flag j n
flag_else n j k ne = ap (λ m. flag j (bit_or n m)) (sym (shifted k)) ∙ bit_at_set_other w64 n (k % 64) (omega arith) (j % 64) ne

-- the same full word behind as many cells stands at the same place
pub full_at : {a b p q : ℕ} → a ≡ b → p ≡ q → a + p + 1 ≡ b + q + 1
full_at e f = λ i. e i + f i + 1

pub flag_zero : (k : ℕ) → flag k 0 ≡ 0
flag_zero k = bit_at-zero (k % 64)

-- no other cell of the word has the same bit
pub flag_bit_at : (j k : ℕ) → flag_bit j ≡ flag_bit k → j % 64 ≡ k % 64
flag_bit_at j k e = ⊎_elim (λ same. same) (λ ne. absurd (let one = flag_set 0 j in let none = ap (λ b. flag j (bit_or 0 b)) e ∙ flag_else 0 j k ne ∙ flag_zero j in omega arith)) (cases_eq (j % 64) (k % 64))

pub flag_cases : (k n : ℕ) → (flag k n ≡ 0) ⊎ (flag k n ≡ 1)
flag_cases k n = one_of (bit_at n (k % 64)) (bit_at-lt n (k % 64))
  where
    one_of : (b : ℕ) → b < 2 → (b ≡ 0) ⊎ (b ≡ 1)
    one_of zero l = inl refl
    one_of (suc zero) l = inr refl
    one_of (suc (suc b)) l = absurd (omega arith)

pub flag_full : (k n : ℕ) → flag k n ≢ 0 → flag k n ≡ 1
flag_full k n ne = ⊎_elim (λ z. absurd (ne z)) (λ one. one) (flag_cases k n)
