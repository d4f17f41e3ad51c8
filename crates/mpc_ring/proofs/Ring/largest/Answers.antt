use Rattle.std.proofs.Common.{◌≡◌, ◌+◌, ◌-◌, ◌*◌, ◌^◌, ◌<◌, sym, ap, ◌∙◌, arith}
use Rattle.std.proofs.lemmas.Nat.{pow-add, pow_pos}
use Rattle.mpc_ring.proofs.Ring.largest.Goals as goal

pub returns-clause-some : goal.returns-clause-some
returns-clause-some c =
    let bits = c.self.inside.bits in
    let whole : bits - 1 + 1 ≡ bits = omega (arith, c.self.invariant.0) in
    let twice : 2 ^ (bits - 1) * 2 ≡ c.self.inside.largest + 1 =
    sym (pow-add 2 (bits - 1) 1) ∙ ap (λ z. 2 ^ z) whole ∙ sym c.self.invariant.2 in
    let some : 0 < 2 ^ (bits - 1) = pow_pos (bits - 1) in
    omega (arith, twice, some)
