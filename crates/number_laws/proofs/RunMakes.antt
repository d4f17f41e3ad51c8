-- What steps make of the gates that are kept.
use Rattle.std.proofs.Common.{◌≡◌, ℕ, zero, suc, ◌+◌, ◌<◌, ◌≤◌, cond, List, [], ◌∷◌, ◌++◌, length, get_or, refl, sym, ◌∙◌, ap, subst, arith, length-append}
use Rattle.std.proofs.lemmas.Bool.{lt-ltb}
use Rattle.number_gates.specs.declared.wire.Wire.{Wire}
use Rattle.number_gates.specs.declared.wire.Wire.TheVariants as wires
use Rattle.number_gates.specs.declared.wire.DraftGate.{DraftGate}
use Rattle.number_gates.specs.Steps.{Steps, done, add, Kept, with_gate, Ran, run, Runs}
use Rattle.number_laws.specs.Making.{no_gate, AreSet, AreKept, Comes, Makes}

pub run_grows : {A : Type 0} (c : Steps A) (k : Kept) → k.gates ≤ (run c k).kept.gates
unfolding run
run_grows (done a) k = omega arith
run_grows (add g rest) k = omega (arith, run_grows (rest (wires.Gate k.gates)) (with_gate k g))

-- within the limit a gate more is kept
pub with_one : {A : Type 0} (c : Steps A) (k : Kept) (g : DraftGate) → (run c (with_gate k g)).kept.gates ≤ 65536 → (with_gate k g).drafted ≡ k.drafted ++ (g ∷ [])
with_one c k g l = ap (λ b. cond b (k.drafted ++ (g ∷ [])) k.drafted) (lt-ltb k.gates 65536 (let s : k.gates < 65536 = omega (arith, run_grows c (with_gate k g), l) in s))

-- and so the list is as long as their number
pub one_longer : (k : Kept) (g : DraftGate) (now : List DraftGate) → now ≡ k.drafted ++ (g ∷ []) → length k.drafted ≡ k.gates → length now ≡ k.gates + 1
one_longer k g now one e = ap length one ∙ length-append k.drafted (g ∷ []) ∙ ap (λ n. n + 1) e

get_front : (xs ys : List DraftGate) (t : ℕ) (d : DraftGate) → t < length xs → get_or (xs ++ ys) t d ≡ get_or xs t d
get_front [] ys t d l = absurd (omega arith)
get_front (x ∷ xs) ys zero d l = refl
get_front (x ∷ xs) ys (suc t) d l = get_front xs ys t d (omega arith)

get_last : (xs : List DraftGate) (g d : DraftGate) → get_or (xs ++ (g ∷ [])) (length xs) d ≡ g
get_last [] g d = refl
get_last (x ∷ xs) g d = get_last xs g d

pub set_front : (R : Wire → DraftGate → Type 0) (xs ys zs : List DraftGate) → zs ≡ xs ++ ys → AreSet R zs → AreSet R xs
set_front R xs ys zs e h = record {
  of_gate = λ t l. subst (R (wires.Gate t)) (ap (λ gs. get_or gs t no_gate) e ∙ get_front xs ys t no_gate l) (h.of_gate t (let k : t < length zs = omega (arith, ap length e, length-append xs ys, l) in k));
}

-- earlier gates' wires stand to them as they did
pub run_front : {A : Type 0} (R : Wire → DraftGate → Type 0) (c : Steps A) (k : Kept) → (run c k).kept.gates ≤ 65536 → AreSet R (run c k).kept.drafted → AreSet R k.drafted
unfolding run
run_front R (done a) k l h = h
run_front R (add g rest) k l h =
    set_front R k.drafted (g ∷ []) (with_gate k g).drafted (with_one (rest (wires.Gate k.gates)) k g l) (run_front R (rest (wires.Gate k.gates)) (with_gate k g) l h)

-- within the limit all gates are kept
pub run_whole : {A : Type 0} (c : Steps A) (k : Kept) → length k.drafted ≡ k.gates → (run c k).kept.gates ≤ 65536 → length (run c k).kept.drafted ≡ (run c k).kept.gates
unfolding run
run_whole (done a) k e l = e
run_whole (add g rest) k e l =
    let w : Wire = wires.Gate k.gates in
    run_whole (rest w) (with_gate k g) (one_longer k g (with_gate k g).drafted (with_one (rest w) k g l) e) l

-- the wire of the gate that was added last
last_set : (R : Wire → DraftGate → Type 0) (xs now : List DraftGate) (g : DraftGate) (n : ℕ) → now ≡ xs ++ (g ∷ []) → length xs ≡ n → AreSet R now → R (wires.Gate n) g
last_set R xs now g n one e h =
    let long : length now ≡ n + 1 = ap length one ∙ length-append xs (g ∷ []) ∙ ap (λ m. m + 1) e in
    subst (R (wires.Gate n)) (ap (λ gs. get_or gs n no_gate) one ∙ ap (λ m. get_or (xs ++ (g ∷ [])) m no_gate) (sym e) ∙ get_last xs g no_gate) (h.of_gate n (omega (arith, long)))

-- what holds of what comes of steps holds of their result
pub run_value : {A : Type 0} (R : Wire → DraftGate → Type 0) (c : Steps A) (Q : A → Type 0) (k : Kept) → length k.drafted ≡ k.gates → (run c k).kept.gates ≤ 65536 → AreSet R (run c k).kept.drafted → Comes R c Q → Q (run c k).result
unfolding run
run_value R (done a) Q k e l h q = q
run_value R (add g rest) Q k e l h q =
    let w : Wire = wires.Gate k.gates in
    let one : (with_gate k g).drafted ≡ k.drafted ++ (g ∷ []) = with_one (rest w) k g l in
    run_value R (rest w) Q (with_gate k g) (one_longer k g (with_gate k g).drafted one e) l h
    (q w (last_set R k.drafted (with_gate k g).drafted g k.gates one e (run_front R (rest w) (with_gate k g) l h)))

-- the same of the function that adds the gates
pub kept_value : {A : Type 0} (R : Wire → DraftGate → Type 0) (c : Steps A) (Q : A → Type 0) (old : Kept) (result : A) (new : Kept) → Makes R c Q → Runs c old result new → length old.drafted ≡ old.gates → new.gates ≤ 65536 → AreSet R new.drafted → AreKept R old result Q
kept_value R c Q old result new h r e l w =
    let few : (run c old).kept.gates ≤ 65536 = subst (λ (x : Ran _). x.kept.gates ≤ 65536) (sym r.is) l in
    let wired : AreSet R (run c old).kept.drafted = subst (λ (x : Ran _). AreSet R x.kept.drafted) (sym r.is) w in
    record { before = run_front R c old few wired; value = subst (λ (x : Ran _). Q x.result) r.is (run_value R c Q old e few wired h.comes) }

-- where nothing is known of wires, it holds of the result wherever the steps are run
given : {A : Type 0} (c : Steps A) (Q : A → Type 0) (k : Kept) → Comes (λ w g. Unit {0}) c Q → Q (run c k).result
unfolding run
given (done a) Q k h = h
given (add g rest) Q k h = given (rest (wires.Gate k.gates)) Q (with_gate k g) (h (wires.Gate k.gates) tt)

pub run_given : {A : Type 0} (c : Steps A) (Q : A → Type 0) (old : Kept) (result : A) (new : Kept) → Makes (λ w g. Unit {0}) c Q → Runs c old result new → Q result
run_given c Q old result new h r = subst (λ (x : Ran _). Q x.result) r.is (given c Q old h.comes)
