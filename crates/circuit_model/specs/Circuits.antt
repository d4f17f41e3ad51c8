-- Circuits, and the value of each wire.
use Rattle.std.specs.Prelude.{ℕ, zero, suc, ◌+◌, ◌*◌, ◌%◌, Bool, true, false, nat_eq, if◌then◌else◌}
use Rattle.mpc_ring.specs.Differences.{difference}
use Rattle.circuit_model.specs.declared.gate.Operation.{Operation}
use Rattle.circuit_model.specs.declared.gate.Operation.TheVariants.{Add, Sub, Neg, Mul, Xor, And, Inv, Eq, Eqw}
use Rattle.circuit_model.specs.declared.gate.Gate.{Gate}

-- the operation multiplies
abbrev pub is_product : Operation → Bool
is_product Mul = true
is_product And = true
is_product _ = false

-- what an operation with constant c makes of a and b
abbrev pub operate : ℕ → Operation → ℕ → ℕ → ℕ → ℕ
operate q Add c a b = (a + b) % q
operate q Sub c a b = difference q a b
operate q Neg c a b = difference q 0 a
operate q Mul c a b = a * b % q
operate q Xor c a b = (a + b) % q
operate q And c a b = a * b % q
operate q Inv c a b = (a + 1) % q
operate q Eq c a b = c % q
operate q Eqw c a b = a

-- f, but a at w
abbrev pub set_at : {A : Type 0} → (ℕ → A) → ℕ → A → ℕ → A
set_at f w a v = if nat_eq v w then a else f v

-- what each wire has after the first t gates, where gate g puts on its output what it makes of what the wires have
abbrev pub wires_after : {A : Type 0} → (Gate → (ℕ → A) → A) → (ℕ → Gate) → (ℕ → A) → ℕ → ℕ → A
wires_after make gates start zero = start
wires_after make gates start (suc t) =
    set_at (wires_after make gates start t) (gates t).output (make (gates t) (wires_after make gates start t))

-- the word that a gate makes of the words on the wires
abbrev pub word_made : ℕ → Gate → (ℕ → ℕ) → ℕ
word_made q g words = operate q g.operation g.constant (words g.first) (words g.second)

-- the value of each wire after the first t gates
abbrev pub values : ℕ → (ℕ → Gate) → (ℕ → ℕ) → ℕ → ℕ → ℕ
values q = wires_after (word_made q)
