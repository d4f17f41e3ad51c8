-- What the first steps make is what the next ones go on with.
use Rattle.std.proofs.Common.{◌≡◌, subst}
use Rattle.number_gates.specs.declared.wire.Wire.{Wire}
use Rattle.number_gates.specs.declared.wire.DraftGate.{DraftGate}
use Rattle.number_gates.specs.Steps.{Steps, done, add, ◌>>=◌}
use Rattle.number_laws.specs.Making.{Comes, Makes}

comes_then : {A B : Type 0} (R : Wire → DraftGate → Type 0) (c : Steps A) (next : A → Steps B) (Q : A → Type 0) (S : B → Type 0) → Comes R c Q → ((a : A) → Q a → Comes R (next a) S) → Comes R (c >>= next) S
comes_then R (done a) next Q S h more = more a h
comes_then R (add g rest) next Q S h more = λ w e. comes_then R (rest w) next Q S (h w e) more

comes_so : {A : Type 0} (R : Wire → DraftGate → Type 0) (c : Steps A) (Q S : A → Type 0) → Comes R c Q → ((a : A) → Q a → S a) → Comes R c S
comes_so R (done a) Q S h more = more a h
comes_so R (add g rest) Q S h more = λ w e. comes_so R (rest w) Q S (h w e) more

pub makes_then : {A B : Type 0} {R : Wire → DraftGate → Type 0} {c : Steps A} {Q : A → Type 0} (next : A → Steps B) (S : B → Type 0) → Makes R c Q → ((a : A) → Q a → Makes R (next a) S) → Makes R (c >>= next) S
makes_then {R = R} {c = c} {Q = Q} next S h more = record { comes = comes_then R c next Q S h.comes (λ a q. (more a q).comes) }

pub makes_so : {A : Type 0} {R : Wire → DraftGate → Type 0} {c : Steps A} {Q : A → Type 0} (S : A → Type 0) → Makes R c Q → ((a : A) → Q a → S a) → Makes R c S
makes_so {R = R} {c = c} {Q = Q} S h more = record { comes = comes_so R c Q S h.comes more }

pub makes_done : {A : Type 0} {R : Wire → DraftGate → Type 0} (a : A) (Q : A → Type 0) → Q a → Makes R (done a) Q
makes_done a Q h = record { comes = h }

pub makes_along : {A : Type 0} {R : Wire → DraftGate → Type 0} {c d : Steps A} {Q : A → Type 0} → c ≡ d → Makes R c Q → Makes R d Q
makes_along {R = R} {Q = Q} e h = subst (λ s. Makes R s Q) e h
