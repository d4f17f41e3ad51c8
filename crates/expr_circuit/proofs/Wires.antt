-- The circuit of a good program is one.
use Rattle.std.proofs.Common.{◌≡◌, ℕ, suc, ◌+◌, ◌<◌, ◌≤◌, Bool, true, false, cond, List, [], ◌∷◌, ◌++◌, length, Option, Some, None, refl, sym, ◌∙◌, subst, arith, length-append}
use Rattle.std.specs.Prelude.{is_some, unwrap_or}
use Rattle.std.specs.List.{AllByRecursion}
use Rattle.std.specs.Str.{bytes_eq}
use Rattle.circuit_model.specs.declared.gate.Operation.{Operation}
use Rattle.circuit_model.specs.declared.gate.Operation.TheVariants.{Add, Sub, Neg, Mul, Eq, Eqw}
use Rattle.expr_circuit.specs.declared.wire.Wire.{Wire}
use Rattle.expr_circuit.specs.declared.wire.Wire.TheVariants as wires
use Rattle.expr_circuit.specs.declared.wire.DraftGate.{DraftGate}
use Rattle.expr_circuit.specs.Programs.{Term, Statement, bind}
use Rattle.expr_circuit.specs.Programs.Term.{constant, variable, negative, sum, subtraction, product}
use Rattle.expr_circuit.specs.Programs.Statement.{input, define, output}
use Rattle.expr_circuit.specs.Faults.{knows}
use Rattle.expr_circuit.specs.Circuits.{Built, Draft, no_wire, add, build, after_statement, after_statements}
use Rattle.expr_circuit.proofs.GoodPrograms.{IsGood, IsGoodStatement, AreGood}

-- the wire is one of m inputs, or that of one of the first g gates
abbrev pub IsBelow : ℕ → ℕ → Wire → Type 0
IsBelow m g (wires.Input i) = i < m
IsBelow m g (wires.Gate k) = k < g

-- gate g reads wires that are set before
abbrev pub FitsAs : ℕ → ℕ → ℕ → Operation → Wire → Wire → ℕ → Type 0
FitsAs q m g Add a b c = IsBelow m g a × IsBelow m g b × (c ≡ 0)
FitsAs q m g Sub a b c = IsBelow m g a × IsBelow m g b × (c ≡ 0)
FitsAs q m g Mul a b c = IsBelow m g a × IsBelow m g b × (c ≡ 0)
FitsAs q m g Neg a b c = IsBelow m g a × (b ≡ no_wire) × (c ≡ 0)
FitsAs q m g Eqw a b c = IsBelow m g a × (b ≡ no_wire) × (c ≡ 0)
FitsAs q m g Eq a b c = (a ≡ no_wire) × (b ≡ no_wire) × (c < q)
FitsAs q m g _ a b c = ⊥

abbrev pub DraftGateFits : ℕ → ℕ → ℕ → DraftGate → Type 0
DraftGateFits q m g s = FitsAs q m g s.operation s.first s.second s.constant

-- gates from number g on
abbrev pub FitFrom : ℕ → ℕ → ℕ → List DraftGate → Type 0
FitFrom q m g [] = Unit {0}
FitFrom q m g (s ∷ ss) = DraftGateFits q m g s × FitFrom q m (g + 1) ss

pub fit_push : (q m g : ℕ) (ss : List DraftGate) (s : DraftGate) → FitFrom q m g ss → DraftGateFits q m (g + length ss) s → FitFrom q m g (ss ++ (s ∷ []))
fit_push q m g [] s h l = (subst (λ k. DraftGateFits q m k s) (let e : g + 0 ≡ g = omega arith in e) l, tt)
fit_push q m g (x ∷ ss) s h l = (h.0, fit_push q m (g + 1) ss s h.1 (subst (λ k. DraftGateFits q m k s) (let e : g + suc (length ss) ≡ g + 1 + length ss = omega arith in e) l))

below_more : (m g k : ℕ) (w : Wire) → g ≤ k → IsBelow m g w → IsBelow m k w
below_more m g k (wires.Input i) l h = h
below_more m g k (wires.Gate j) l h = omega arith

-- the wires of names are set
abbrev pub AreBelow : ℕ → ℕ → (List ℕ → Option Wire) → Type 0
AreBelow m g of = (x : List ℕ) (w : Wire) → of x ≡ Some w → IsBelow m g w

-- a name is known exactly where it has a wire
abbrev pub Tells : (List ℕ → Bool) → (List ℕ → Option Wire) → Type 0
Tells known of = (x : List ℕ) → known x ≡ is_some (of x)

pub record BuiltFits (q m : ℕ) (before : List DraftGate) (b : Built) : Type 0 where
  pub fits : FitFrom q m 0 b.gates
  pub below : IsBelow m (length b.gates) b.wire
  pub more : length before ≤ length b.gates

is_known : (o : Option Wire) (m g : ℕ) → is_some o ≡ true → ((w : Wire) → o ≡ Some w → IsBelow m g w) → IsBelow m g (unwrap_or o no_wire)
is_known None m g e h = cc
is_known (Some w) m g e h = h w refl

push_long : (ss : List DraftGate) (s : DraftGate) → length (ss ++ (s ∷ [])) ≡ length ss + 1
push_long ss s = length-append ss (s ∷ [])

add_fits : (q m : ℕ) (before gates : List DraftGate) (o : Operation) (a b : Wire) (c : ℕ) → length before ≤ length gates → FitFrom q m 0 gates → FitsAs q m (length gates) o a b c → BuiltFits q m before (add gates o a b c)
add_fits q m before gates o a b c l h f =
    let s : DraftGate = record { operation = o; first = a; second = b; constant = c } in
    record {
      fits = fit_push q m 0 gates s h (subst (λ k. DraftGateFits q m k s) (let e : length gates ≡ 0 + length gates = omega arith in e) f);
      below = omega (arith, push_long gates s);
      more = omega (arith, push_long gates s);
    }

pub build_fits : (q m : ℕ) (known : List ℕ → Bool) (of : List ℕ → Option Wire) (gates : List DraftGate) (t : Term) → Tells known of → AreBelow m (length gates) of → FitFrom q m 0 gates → IsGood q known t → BuiltFits q m gates (build of gates t)
build_fits q m known of gates (constant n) tells below fits good = add_fits q m gates gates Eq no_wire no_wire n (omega arith) fits (refl, refl, good)
build_fits q m known of gates (variable x) tells below fits good =
    record { fits = fits; below = is_known (of x) m (length gates) (sym (tells x) ∙ good) (below x); more = omega arith }
build_fits q m known of gates (negative t) tells below fits good =
    let b = build_fits q m known of gates t tells below fits good in
    add_fits q m gates (build of gates t).gates Neg (build of gates t).wire no_wire 0 b.more b.fits (b.below, refl, refl)
build_fits q m known of gates (sum s t) tells below fits good =
    let a = build_fits q m known of gates s tells below fits good.0 in
    let b = build_fits q m known of (build of gates s).gates t tells (λ x w e. below_more m (length gates) (length (build of gates s).gates) w a.more (below x w e)) a.fits good.1 in
    add_fits q m gates (build of (build of gates s).gates t).gates Add (build of gates s).wire (build of (build of gates s).gates t).wire 0
    (omega (arith, a.more, b.more)) b.fits (below_more m (length (build of gates s).gates) (length (build of (build of gates s).gates t).gates) (build of gates s).wire b.more a.below, b.below, refl)
build_fits q m known of gates (subtraction s t) tells below fits good =
    let a = build_fits q m known of gates s tells below fits good.0 in
    let b = build_fits q m known of (build of gates s).gates t tells (λ x w e. below_more m (length gates) (length (build of gates s).gates) w a.more (below x w e)) a.fits good.1 in
    add_fits q m gates (build of (build of gates s).gates t).gates Sub (build of gates s).wire (build of (build of gates s).gates t).wire 0
    (omega (arith, a.more, b.more)) b.fits (below_more m (length (build of gates s).gates) (length (build of (build of gates s).gates t).gates) (build of gates s).wire b.more a.below, b.below, refl)
build_fits q m known of gates (product s t) tells below fits good =
    let a = build_fits q m known of gates s tells below fits good.0 in
    let b = build_fits q m known of (build of gates s).gates t tells (λ x w e. below_more m (length gates) (length (build of gates s).gates) w a.more (below x w e)) a.fits good.1 in
    add_fits q m gates (build of (build of gates s).gates t).gates Mul (build of gates s).wire (build of (build of gates s).gates t).wire 0
    (omega (arith, a.more, b.more)) b.fits (below_more m (length (build of gates s).gates) (length (build of (build of gates s).gates t).gates) (build of gates s).wire b.more a.below, b.below, refl)

abbrev pub AllBelow : ℕ → ℕ → List Wire → Type 0
AllBelow m g ws = AllByRecursion (IsBelow m g) ws

-- what holds of a draft, where there will be m inputs
pub record DraftFits (q m : ℕ) (known : List ℕ → Bool) (d : Draft) : Type 0 where
  pub tells : Tells known d.of
  pub below : AreBelow m (length d.gates) d.of
  pub fits : FitFrom q m 0 d.gates
  pub outputs : AllBelow m (length d.gates) d.outputs

-- how many inputs statements name
abbrev pub inputs_named : List Statement → ℕ
inputs_named [] = 0
inputs_named (input x ∷ p) = inputs_named p + 1
inputs_named (define x t ∷ p) = inputs_named p
inputs_named (output t ∷ p) = inputs_named p

pub inputs_after : (d : Draft) (p : List Statement) → (after_statements d p).inputs ≡ d.inputs + inputs_named p
inputs_after d [] = omega arith
inputs_after d (input x ∷ p) = inputs_after (after_statement d (input x)) p ∙ (let e : d.inputs + 1 + inputs_named p ≡ d.inputs + (inputs_named p + 1) = omega arith in e)
inputs_after d (define x t ∷ p) = inputs_after (after_statement d (define x t)) p
inputs_after d (output t ∷ p) = inputs_after (after_statement d (output t)) p

pub bind_tells : (known : List ℕ → Bool) (of : List ℕ → Option Wire) (x : List ℕ) (w : Wire) → Tells known of → Tells (bind known x true) (bind of x (Some w))
bind_tells known of x w h y = go (bytes_eq x y)
  where
    go : (b : Bool) → cond b true (known y) ≡ is_some (cond b (Some w) (of y))
    go true = refl
    go false = h y

bind_below : (m g : ℕ) (of : List ℕ → Option Wire) (x : List ℕ) (w : Wire) → IsBelow m g w → AreBelow m g of → AreBelow m g (bind of x (Some w))
bind_below m g of x w here h y v = go (bytes_eq x y)
  where
    go : (b : Bool) → cond b (Some w) (of y) ≡ Some v → IsBelow m g v
    go true e = subst (IsBelow m g) (let s : w ≡ v = cc in s) here
    go false e = h y v e

all_below_more : (m g k : ℕ) (ws : List Wire) → g ≤ k → AllBelow m g ws → AllBelow m k ws
all_below_more m g k [] l h = tt
all_below_more m g k (w ∷ ws) l h = (below_more m g k w l h.0, all_below_more m g k ws l h.1)

all_below_push : (m g : ℕ) (ws : List Wire) (w : Wire) → AllBelow m g ws → IsBelow m g w → AllBelow m g (ws ++ (w ∷ []))
all_below_push m g [] w h l = (l, tt)
all_below_push m g (x ∷ ws) w h l = (h.0, all_below_push m g ws w h.1 l)

pub statement_fits : (q m : ℕ) (known : List ℕ → Bool) (d : Draft) (s : Statement) (p : List Statement) → d.inputs + inputs_named (s ∷ p) ≤ m → IsGoodStatement q known s → DraftFits q m known d → DraftFits q m (knows known s) (after_statement d s)
statement_fits q m known d (input x) p l good f = record {
  tells = bind_tells known d.of x (wires.Input d.inputs) f.tells;
  below = bind_below m (length d.gates) d.of x (wires.Input d.inputs) (omega arith) f.below;
  fits = f.fits;
  outputs = f.outputs;
}
statement_fits q m known d (define x t) p l good f =
    let b = build_fits q m known d.of d.gates t f.tells f.below f.fits good in
    record {
      tells = bind_tells known d.of x (build d.of d.gates t).wire f.tells;
      below = bind_below m (length (build d.of d.gates t).gates) d.of x (build d.of d.gates t).wire b.below (λ y w e. below_more m (length d.gates) (length (build d.of d.gates t).gates) w b.more (f.below y w e));
      fits = b.fits;
      outputs = all_below_more m (length d.gates) (length (build d.of d.gates t).gates) d.outputs b.more f.outputs;
    }
statement_fits q m known d (output t) p l good f =
    let b = build_fits q m known d.of d.gates t f.tells f.below f.fits good in
    record {
      tells = f.tells;
      below = λ y w e. below_more m (length d.gates) (length (build d.of d.gates t).gates) w b.more (f.below y w e);
      fits = b.fits;
      outputs = all_below_push m (length (build d.of d.gates t).gates) d.outputs (build d.of d.gates t).wire (all_below_more m (length d.gates) (length (build d.of d.gates t).gates) d.outputs b.more f.outputs) b.below;
    }

abbrev pub known_after : (List ℕ → Bool) → List Statement → List ℕ → Bool
known_after known [] = known
known_after known (s ∷ p) = known_after (knows known s) p

less_named : (m : ℕ) (d : Draft) (s : Statement) (p : List Statement) → d.inputs + inputs_named (s ∷ p) ≤ m → (after_statement d s).inputs + inputs_named p ≤ m
less_named m d (input x) p l = omega arith
less_named m d (define x t) p l = l
less_named m d (output t) p l = l

pub statements_fit : (q m : ℕ) (known : List ℕ → Bool) (d : Draft) (p : List Statement) → d.inputs + inputs_named p ≤ m → AreGood q known p → DraftFits q m known d → DraftFits q m (known_after known p) (after_statements d p)
statements_fit q m known d [] l good f = f
statements_fit q m known d (s ∷ p) l good f = statements_fit q m (knows known s) (after_statement d s) p (less_named m d s p l) good.1 (statement_fits q m known d s p l good.0 f)
