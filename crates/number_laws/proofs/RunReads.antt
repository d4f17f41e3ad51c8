-- The gates that steps add read only wires before them.
use Rattle.std.proofs.Common.{◌≡◌, ℕ, suc, ◌+◌, ◌≤◌, List, [], ◌∷◌, ◌++◌, length, sym, subst, arith}
use Rattle.number_gates.specs.declared.wire.Wire.{Wire}
use Rattle.number_gates.specs.declared.wire.Wire.TheVariants as wires
use Rattle.number_gates.specs.declared.wire.DraftGate.{DraftGate}
use Rattle.number_gates.specs.Steps.{Steps, done, add, Kept, with_gate, Ran, run, Runs}
use Rattle.number_laws.specs.Reading.{GateReads, Asks, Reads, IsBelow, FitFrom}
use Rattle.number_laws.proofs.RunMakes.{with_one, one_longer}

pub below_more : (m g k : ℕ) (w : Wire) → g ≤ k → IsBelow m g w → IsBelow m k w
below_more m g k (wires.Input i) l h = h
below_more m g k (wires.Gate j) l h = omega (arith, l, h)

pub fit_append : (m g : ℕ) (xs ys : List DraftGate) → FitFrom m g xs → FitFrom m (g + length xs) ys → FitFrom m g (xs ++ ys)
fit_append m g [] ys h l = subst (λ k. FitFrom m k ys) (let e : g + 0 ≡ g = omega arith in e) l
fit_append m g (x ∷ xs) ys h l = (h.0, fit_append m (g + 1) xs ys h.1 (subst (λ k. FitFrom m k ys) (let e : g + suc (length xs) ≡ g + 1 + length xs = omega arith in e) l))

-- what is asked of steps at each place from which they may be run holds of the gates that they add, and of their result
pub run_fits : {A : Type 0} (m : ℕ) (c : Steps A) (k : Kept) (Q : ℕ → A → Type 0) → length k.drafted ≡ k.gates → (run c k).kept.gates ≤ 65536
    → ((j : ℕ) → k.gates ≤ j → Asks (IsBelow m j) c (Q j)) → FitFrom m 0 k.drafted → FitFrom m 0 (run c k).kept.drafted × Q (run c k).kept.gates (run c k).result
unfolding run
run_fits m (done a) k Q e l h f = (f, h k.gates (omega arith))
run_fits m (add g rest) k Q e l h f =
    let w : Wire = wires.Gate k.gates in
    let one : (with_gate k g).drafted ≡ k.drafted ++ (g ∷ []) = with_one (rest w) k g l in
    let long : length (with_gate k g).drafted ≡ k.gates + 1 = one_longer k g (with_gate k g).drafted one e in
    let here : GateReads (IsBelow m (0 + length k.drafted)) g = subst (λ n. GateReads (IsBelow m n) g) (let z : k.gates ≡ 0 + length k.drafted = omega (arith, e) in z) (h k.gates (omega arith)).0 in
    run_fits m (rest w) (with_gate k g) Q long l (λ j n. (h j (omega (arith, n))).1 w (omega (arith, n)))
    (subst (FitFrom m 0) (sym one) (fit_append m 0 k.drafted (g ∷ []) f (here, tt)))

-- the same of the function that adds the gates
pub kept_fits : {A : Type 0} (m : ℕ) (c : Steps A) (old : Kept) (result : A) (new : Kept) (Q : ℕ → A → Type 0) → ((j : ℕ) → old.gates ≤ j → Reads (IsBelow m j) c (Q j))
    → Runs c old result new → length old.drafted ≡ old.gates → new.gates ≤ 65536 → FitFrom m 0 old.drafted → FitFrom m 0 new.drafted × Q new.gates result
kept_fits m c old result new Q h r e l f =
    let few : (run c old).kept.gates ≤ 65536 = subst (λ (x : Ran _). x.kept.gates ≤ 65536) (sym r.is) l in
    subst (λ (x : Ran _). FitFrom m 0 x.kept.drafted × Q x.kept.gates x.result) r.is (run_fits m c old Q e few (λ j n. (h j n).asks) f)
