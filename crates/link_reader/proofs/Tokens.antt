-- Tokens that are given one after another.
use Rattle.std.proofs.Common.{◌≡◌, ℕ, ◌+◌, ap, arith}
use Rattle.link_reader.specs.Wakers.{WakerModel, gives}

with_given : (w : WakerModel) (a b : ℕ) → a ≡ b → record w { given = a } ≡ record w { given = b }
with_given w a b e = ap (λ z. record w { given = z }) e

pub gives_none : (w : WakerModel) → w ≡ gives w 0
gives_none w = ap (λ z. record w { given = z }) (let e : w.given ≡ w.given + 0 = omega arith in e)

pub gives_more : (w : WakerModel) (n m : ℕ) → m ≡ n + 1 → gives (gives w n) 1 ≡ gives w m
gives_more w n m e = with_given w (w.given + n + 1) (w.given + m) (omega arith)
