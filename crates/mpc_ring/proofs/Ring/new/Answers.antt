use Rattle.std.proofs.Common.{◌≡◌, ℕ, ◌+◌, ◌-◌, ◌*◌, ◌/◌, ◌^◌, ◌<◌, ◌≤◌, ap, sym, ◌∙◌, arith}
use Rattle.std.proofs.lemmas.Nat.{pow-add, pow_pos, shr_high}
use Rattle.mpc_ring.proofs.Ring.new.Goals as goal

-- all but one of m + 1 blocks of r numbers, and all but one number of the last
all_but_one : (m r n : ℕ) → 0 < r → (m + 1) * r ≡ n + 1 → m * r + (r - 1) ≡ n
all_but_one m r n some whole = omega (arith, some, whole)

-- the top bits of 64 ones
shifted : (bits rest : ℕ) → bits + rest ≡ 64 → 18446744073709551615 / 2 ^ rest + 1 ≡ 2 ^ bits
shifted bits rest e =
    let some : 0 < 2 ^ bits = pow_pos bits in
    let more : 0 < 2 ^ rest = pow_pos rest in
    let last : 2 ^ bits - 1 + 1 ≡ 2 ^ bits = omega (arith, some) in
    let all : (2 ^ bits - 1 + 1) * 2 ^ rest ≡ 18446744073709551616 = ap (λ z. z * 2 ^ rest) last ∙ sym (pow-add 2 bits rest) ∙ ap (λ z. 2 ^ z) e in
    let less : (2 ^ bits - 1) * 2 ^ rest + (2 ^ rest - 1) ≡ 18446744073709551615 = all_but_one (2 ^ bits - 1) (2 ^ rest) 18446744073709551615 more all in
    let inside : 2 ^ rest - 1 < 2 ^ rest = omega (arith, more) in
    let is : 18446744073709551615 / 2 ^ rest ≡ 2 ^ bits - 1 = ap (λ z. z / 2 ^ rest) (sym less) ∙ shr_high (2 ^ bits - 1) rest (2 ^ rest - 1) inside in
    omega (arith, is, some)

pub invariant_of-result : goal.invariant_of-result
invariant_of-result c =
    let bits = c.args.bits in
    let some : 0 < bits = omega arith in
    let few : bits ≤ 64 = omega arith in
    let whole : bits + (64 - bits) ≡ 64 = omega arith in
    (some, few, shifted bits (64 - bits) whole)
