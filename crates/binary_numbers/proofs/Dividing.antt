-- There is one quotient with its rest.
use Rattle.std.proofs.Common.{◌≡◌, ℕ, zero, suc, ◌+◌, ◌*◌, ◌/◌, ◌%◌, ◌<◌, refl, sym, ◌∙◌, ap, arith}
use Rattle.std.proofs.Math.Nat.{div-zero, mod-zero}
use Rattle.std.proofs.lemmas.Nat.{div-mul-add, mod-mul-add}
use Rattle.binary_numbers.specs.Quotients.{IsQuotient}

pub only_quotient : (m by q r : ℕ) → m ≡ q * by + r → (0 < by → r < by) → (by ≡ 0 → q ≡ 0) → IsQuotient m by q r
only_quotient m zero q r whole less none = record {
  quotient = none refl ∙ sym (div-zero m);
  rest = (let e : r ≡ q * 0 + r = omega arith in e) ∙ sym whole ∙ sym (mod-zero m);
}
only_quotient m (suc by) q r whole less none = record {
  quotient = sym (ap (λ x. x / suc by) whole ∙ div-mul-add q (suc by) r (less (omega arith)));
  rest = sym (ap (λ x. x % suc by) whole ∙ mod-mul-add q (suc by) r (less (omega arith)));
}
