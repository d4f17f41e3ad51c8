-- Steps read wires, one after the other.
use Rattle.std.proofs.Common.{Bool, true, false, cond}
use Rattle.number_gates.specs.declared.wire.Wire.{Wire}
use Rattle.number_gates.specs.Steps.{Steps, done, add, ◌>>=◌}
use Rattle.number_laws.specs.Reading.{Asks, Reads}

asks_then : {A B : Type 0} (P : Wire → Type 0) (c : Steps A) (next : A → Steps B) (Q : A → Type 0) (R : B → Type 0) → Asks P c Q → ((a : A) → Q a → Asks P (next a) R) → Asks P (c >>= next) R
asks_then P (done a) next Q R h more = more a h
asks_then P (add g rest) next Q R h more = (h.0, λ w p. asks_then P (rest w) next Q R (h.1 w p) more)

pub reads_then : {A B : Type 0} {P : Wire → Type 0} {c : Steps A} {Q : A → Type 0} {R : B → Type 0} (next : A → Steps B) → Reads P c Q → ((a : A) → Q a → Reads P (next a) R) → Reads P (c >>= next) R
reads_then {P = P} {c = c} {Q = Q} {R = R} next h more = record { asks = asks_then P c next Q R h.asks (λ a q. (more a q).asks) }

pub reads_done : {A : Type 0} {P : Wire → Type 0} (a : A) {Q : A → Type 0} → Q a → Reads P (done a) Q
reads_done a h = record { asks = h }

pub reads_either : {A : Type 0} {P : Wire → Type 0} {Q : A → Type 0} (b : Bool) (c d : Steps A) → Reads P c Q → Reads P d Q → Reads P (cond b c d) Q
reads_either true c d h k = h
reads_either false c d h k = k
