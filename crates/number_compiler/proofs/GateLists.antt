-- The gates of a circuit, from those of a draft.
use Rattle.std.proofs.Common.{◌≡◌, ℕ, zero, suc, ◌+◌, ◌<◌, List, [], ◌∷◌, ◌++◌, length, map, take, get_or, refl, ◌∙◌, ap, arith}
use Rattle.circuit_model.specs.Netlists as netlists
use Rattle.number_gates.specs.declared.wire.DraftGate.{DraftGate}
use Rattle.number_gates.specs.declared.wire.Bit.{Bit}
use Rattle.number_gates.specs.declared.wire.Bit.TheVariants.{Zero}
use Rattle.number_laws.specs.Making.{no_gate}
use Rattle.number_compiler.specs.Circuits.{copy, gate_of, gates_from}

pub long_gates : (m g : ℕ) (ss : List DraftGate) → length (gates_from m g ss) ≡ length ss
long_gates m g [] = refl
long_gates m g (s ∷ ss) = ap suc (long_gates m (g + 1) ss)

pub take_gates : (m g t : ℕ) (ss : List DraftGate) → take t (gates_from m g ss) ≡ gates_from m g (take t ss)
take_gates m g zero ss = refl
take_gates m g (suc t) [] = refl
take_gates m g (suc t) (s ∷ ss) = ap (λ gs. gate_of m g s ∷ gs) (take_gates m (g + 1) t ss)

-- gate number t
pub gate_at : (m g t : ℕ) (ss : List DraftGate) → t < length ss → get_or (gates_from m g ss) t netlists.no_gate ≡ gate_of m (g + t) (get_or ss t no_gate)
gate_at m g t [] l = absurd (omega arith)
gate_at m g zero (s ∷ ss) l = ap (λ k. gate_of m k s) (let e : g ≡ g + 0 = omega arith in e)
gate_at m g (suc t) (s ∷ ss) l = gate_at m (g + 1) t ss (omega arith) ∙ ap (λ k. gate_of m k (get_or ss t no_gate)) (let e : g + 1 + t ≡ g + suc t = omega arith in e)

-- the gate of a copy
pub get_copy : (gates : List DraftGate) (bs : List Bit) (j : ℕ) → j < length bs → get_or (gates ++ map copy bs) (length gates + j) no_gate ≡ copy (get_or bs j Zero)
get_copy [] bs j l = ap (λ k. get_or (map copy bs) k no_gate) (let e : 0 + j ≡ j = omega arith in e) ∙ here bs j l
  where
    here : (bs : List Bit) (j : ℕ) → j < length bs → get_or (map copy bs) j no_gate ≡ copy (get_or bs j Zero)
    here [] j l = absurd (omega arith)
    here (b ∷ bs) zero l = refl
    here (b ∷ bs) (suc j) l = here bs j (omega arith)
get_copy (g ∷ gates) bs j l =
    ap (λ k. get_or (g ∷ (gates ++ map copy bs)) k no_gate) (let e : suc (length gates) + j ≡ suc (length gates + j) = omega arith in e) ∙ get_copy gates bs j l
