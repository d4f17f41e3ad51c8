use Rattle.std.proofs.Common.{◌≡◌, ℕ, ◌+◌, ◌-◌, ◌%◌, ◌^◌, ◌<◌, ◌≤◌, ap, ◌∙◌, arith, bit_and, inl, inr}
use Rattle.std.proofs.lemmas.Nat.{and_mask, pow_below}
use Rattle.std.proofs.lemmas.Bool.{cases_lt}
use Rattle.std.proofs.Math.Pow.{mod-mod-pow}
use Rattle.mpc_ring.proofs.Ring.keep.Goals as goal

-- a power that is at most 2 ^ 64 has an exponent that is at most 64
few_bits : (bits largest : ℕ) → largest + 1 ≡ 2 ^ bits → largest < 2 ^ 64 → bits ≤ 64
few_bits bits largest is fits = elim (cases_lt 64 bits) [
  | inl more ↦ absurd (let high : 2 ^ 64 < 2 ^ bits = pow_below 64 bits more in omega (arith, high, is, fits))
  | inr few ↦ few
]

-- a mask on the low 64 bits keeps what it keeps of the number
masked : (bits largest low number : ℕ) → largest + 1 ≡ 2 ^ bits → largest < 2 ^ 64 → low ≡ number % 2 ^ 64 → bit_and low largest ≡ number % 2 ^ bits
masked bits largest low number is fits low_is =
    let few : bits ≤ 64 = few_bits bits largest is fits in
    let ones : largest ≡ 2 ^ bits - 1 = omega (arith, is) in
    let split : 64 ≡ (64 - bits) + bits = omega arith in
    ap (λ z. bit_and low z) ones ∙ and_mask low bits ∙ ap (λ z. z % 2 ^ bits) low_is
    ∙ ap (λ z. number % 2 ^ z % 2 ^ bits) split ∙ mod-mod-pow number (64 - bits) bits

pub returns-clause-is : goal.returns-clause-is
returns-clause-is c = λ number low_is. masked c.args.self c.largest.result c.args.low number c.largest.ensures.is c.largest.type_inv low_is

pub returns-clause-few : goal.returns-clause-few
returns-clause-few c = few_bits c.args.self c.largest.result c.largest.ensures.is c.largest.type_inv
