-- One wire set, and the others.
use Rattle.std.proofs.Common.{◌≡◌, ℕ, ◌≢◌, nat_eq}
use Rattle.std.proofs.lemmas.Bool.{cond-true, cond-false, eq-eqb, ne_eqb}
use Rattle.circuit_model.specs.Circuits.{set_at}

pub set_here : {A : Type 0} (f : ℕ → A) (w v : ℕ) (a : A) → v ≡ w → set_at f w a v ≡ a
set_here f w v a e = cond-true (nat_eq v w) a (f v) (eq-eqb v w e)

pub set_there : {A : Type 0} (f : ℕ → A) (w v : ℕ) (a : A) → v ≢ w → set_at f w a v ≡ f v
set_there f w v a ne = cond-false (nat_eq v w) a (f v) (ne_eqb v w ne)
