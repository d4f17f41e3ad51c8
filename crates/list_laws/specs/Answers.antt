-- Answers one after another.
use Rattle.std.specs.Prelude.{Result, Ok, Err}

-- what the second answers for the value of the first, or the fault of the first
infixl 10 ◌>>=◌
abbrev pub ◌>>=◌ : {F A B : Type 0} → Result A F → (A → Result B F) → Result B F
(Ok a) >>= f = f a
(Err fault) >>= f = Err fault
