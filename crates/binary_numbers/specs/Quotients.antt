-- Quotients and rests.
use Rattle.std.specs.Prelude.{◌≡◌, ℕ, ◌/◌, ◌%◌}

-- q and r are the quotient and the rest of m; by 0 they are 0 and m
pub record IsQuotient (m by q r : ℕ) : Type 0 where
  pub quotient : q ≡ m / by
  pub rest : r ≡ m % by
