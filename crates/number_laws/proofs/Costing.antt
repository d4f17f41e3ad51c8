-- What steps cost, by one count and one family of wires: P d has the wires that may be read at depth d. A gate that reads
-- wires of P d sets one of P d or, where it multiplies, of P (d + 1). With P d those of depth d at most this bounds depths,
-- and with the same wires for each d it says which wires are read.
use Rattle.std.proofs.Common.{◌≡◌, ℕ, ◌+◌, ◌≤◌, Bool, true, false, cond, refl, arith}
use Rattle.circuit_model.specs.declared.gate.Operation.{Operation}
use Rattle.circuit_model.specs.declared.gate.Operation.TheVariants.{Add, Sub, Neg, Mul, Xor, And, Inv, Eq, Eqw}
use Rattle.number_gates.specs.declared.wire.Wire.{Wire}
use Rattle.number_gates.specs.declared.wire.DraftGate.{DraftGate}
use Rattle.number_gates.specs.Steps.{Steps, done, add, ◌>>=◌}
use Rattle.number_laws.specs.Making.{Comes, Makes}
use Rattle.number_laws.specs.Reading.{ReadsAs, GateReads, Asks, Reads}
use Rattle.number_laws.specs.Costs.{price, HasAtMost, AtMost}
use Rattle.number_laws.specs.Depths.{deepest, IsNoDeeper}

-- a gate of steps that have n products at most, and what is known of those after it
pub record Spent (P : ℕ → Wire → Type 0) (g : DraftGate) (n : ℕ) (After : ℕ → Wire → Type 0) : Type 0 where
  pub depth : ℕ
  pub left : ℕ
  pub reads : GateReads (P depth) g
  pub few : price g + left ≤ n
  pub after : (w : Wire) → P (depth + price g) w → After left w

abbrev pub Spends : {A : Type 0} → (ℕ → Wire → Type 0) → Steps A → ℕ → (A → Type 0) → Type 0
Spends P (done a) n Q = Q a
Spends P (add g rest) n Q = Spent P g n (λ m w. Spends P (rest w) m Q)

-- the steps have n products at most, and this holds of what comes of them
pub record Costs {A : Type 0} (P : ℕ → Wire → Type 0) (n : ℕ) (steps : Steps A) (Q : A → Type 0) : Type 0 where
  pub spends : Spends P steps n Q

spends_so : {A : Type 0} (P : ℕ → Wire → Type 0) (c : Steps A) (m n : ℕ) (Q R : A → Type 0) → m ≤ n → ((a : A) → Q a → R a) → Spends P c m Q → Spends P c n R
spends_so P (done a) m n Q R l more h = more a h
spends_so P (add g rest) m n Q R l more h = record {
  depth = h.depth;
  left = h.left;
  reads = h.reads;
  few = omega (arith, l, h.few);
  after = λ w p. spends_so P (rest w) h.left h.left Q R (omega arith) more (h.after w p);
}

spends_then : {A B : Type 0} (P : ℕ → Wire → Type 0) (c : Steps A) (next : A → Steps B) (m n : ℕ) (Q : A → Type 0) (R : B → Type 0) → Spends P c m Q → ((a : A) → Q a → Spends P (next a) n R) → Spends P (c >>= next) (m + n) R
spends_then P (done a) next m n Q R h more = spends_so P (next a) n (m + n) R R (omega arith) (λ b r. r) (more a h)
spends_then P (add g rest) next m n Q R h more = record {
  depth = h.depth;
  left = h.left + n;
  reads = h.reads;
  few = omega (arith, h.few);
  after = λ w p. spends_then P (rest w) next h.left n Q R (h.after w p) more;
}

pub costs_then : {A B : Type 0} {P : ℕ → Wire → Type 0} {c : Steps A} {m n : ℕ} {Q : A → Type 0} {R : B → Type 0} (next : A → Steps B) → Costs P m c Q → ((a : A) → Q a → Costs P n (next a) R) → Costs P (m + n) (c >>= next) R
costs_then {P = P} {c = c} {m = m} {n = n} {Q = Q} {R = R} next h more = record { spends = spends_then P c next m n Q R h.spends (λ a q. (more a q).spends) }

pub costs_so : {A : Type 0} {P : ℕ → Wire → Type 0} {c : Steps A} {m n : ℕ} {Q R : A → Type 0} → m ≤ n → ((a : A) → Q a → R a) → Costs P m c Q → Costs P n c R
costs_so {P = P} {c = c} {m = m} {n = n} {Q = Q} {R = R} l more h = record { spends = spends_so P c m n Q R l more h.spends }

pub costs_few : {A : Type 0} {P : ℕ → Wire → Type 0} {c : Steps A} {m n : ℕ} {Q : A → Type 0} → m ≤ n → Costs P m c Q → Costs P n c Q
costs_few l h = costs_so l (λ a q. q) h

pub costs_done : {A : Type 0} {P : ℕ → Wire → Type 0} (a : A) {Q : A → Type 0} → Q a → Costs P 0 (done a) Q
costs_done a h = record { spends = h }

pub costs_either : {A : Type 0} {P : ℕ → Wire → Type 0} {n : ℕ} {Q : A → Type 0} (b : Bool) (c d : Steps A) → (b ≡ true → Costs P n c Q) → (b ≡ false → Costs P n d Q) → Costs P n (cond b c d) Q
costs_either true c d h k = h refl
costs_either false c d h k = k refl

-- ---- what follows of costs

few_of : {A : Type 0} (P : ℕ → Wire → Type 0) (c : Steps A) (n : ℕ) (Q : A → Type 0) → ((d : ℕ) (w : Wire) → P d w) → Spends P c n Q → HasAtMost n c
few_of P (done a) n Q all h = tt
few_of P (add g rest) n Q all h = (h.left, h.few, λ w. few_of P (rest w) h.left Q all (h.after w (all (h.depth + price g) w)))

pub costs_at_most : {A : Type 0} (n : ℕ) (c : Steps A) {Q : A → Type 0} → Costs (λ d w. Unit {0}) n c Q → AtMost n c
costs_at_most n c {Q = Q} h = record { few = few_of (λ d w. Unit {0}) c n Q (λ d w. tt) h.spends }

gives_of : {A : Type 0} (c : Steps A) (n : ℕ) (Q : A → Type 0) → Spends (λ d w. Unit {0}) c n Q → Comes (λ w g. Unit {0}) c Q
gives_of (done a) n Q h = h
gives_of (add g rest) n Q h = λ w e. gives_of (rest w) h.left Q (h.after w tt)

pub costs_gives : {A : Type 0} (n : ℕ) (c : Steps A) {Q : A → Type 0} → Costs (λ d w. Unit {0}) n c Q → Makes (λ w g. Unit {0}) c Q
costs_gives n c {Q = Q} h = record { comes = gives_of c n Q h.spends }

reads_of : {A : Type 0} (P : Wire → Type 0) (c : Steps A) (n : ℕ) (Q : A → Type 0) → Spends (λ d. P) c n Q → Asks P c Q
reads_of P (done a) n Q h = h
reads_of P (add g rest) n Q h = (h.reads, λ w p. reads_of P (rest w) h.left Q (h.after w p))

pub costs_reads : {A : Type 0} {P : Wire → Type 0} (n : ℕ) (c : Steps A) {Q : A → Type 0} → Costs (λ d. P) n c Q → Reads P c Q
costs_reads {P = P} n c {Q = Q} h = record { asks = reads_of P c n Q h.spends }

-- a gate that reads wires of depth d at most
within_read : (depth : Wire → ℕ) (d : ℕ) (o : Operation) (a b : Wire) (c : ℕ) → ReadsAs (λ w. depth w ≤ d) o a b c → deepest depth o a b ≤ d
within_read depth d Xor a b c h = omega (arith, h.0, h.1)
within_read depth d And a b c h = omega (arith, h.0, h.1)
within_read depth d Inv a b c h = h.0
within_read depth d Eqw a b c h = h.0
within_read depth d Eq a b c h = omega arith
within_read depth d Add a b c h = absurd h
within_read depth d Sub a b c h = absurd h
within_read depth d Neg a b c h = absurd h
within_read depth d Mul a b c h = absurd h

deepens_of : {A : Type 0} (depth : Wire → ℕ) (c : Steps A) (n : ℕ) (Q : A → Type 0) → Spends (λ d w. depth w ≤ d) c n Q → Comes (IsNoDeeper depth) c Q
deepens_of depth (done a) n Q h = h
deepens_of depth (add g rest) n Q h = λ w l. deepens_of depth (rest w) h.left Q (h.after w (omega (arith, l, within_read depth h.depth g.operation g.first g.second g.constant h.reads)))

pub costs_deepens : {A : Type 0} {depth : Wire → ℕ} (n : ℕ) (c : Steps A) {Q : A → Type 0} → Costs (λ d w. depth w ≤ d) n c Q → Makes (IsNoDeeper depth) c Q
costs_deepens {depth = depth} n c {Q = Q} h = record { comes = deepens_of depth c n Q h.spends }
