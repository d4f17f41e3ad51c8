-- The equations of a valid circuit have one solution, whatever gates make of what the wires have.
use Rattle.std.proofs.Common.{◌≡◌, ℕ, zero, suc, ◌+◌, ◌-◌, ◌^◌, ◌≤◌, ◌<◌, nat_eq, inl, inr, Bool, true, false, ◌||◌, List, [], ◌∷◌, length, take, refl, sym, ◌∙◌, ap, ap₂, subst, arith, nat_lt}
use Rattle.std.specs.Prelude.{◌==◌}
use Rattle.std.specs.List.{list_all, list_any}
use Rattle.std.proofs.Math.Seq.{take-suc, take-length}
use Rattle.std.proofs.lemmas.Bool.{cases_eq, both_ways, lt-ltb, ltb-true, cond-true, cond-false, eq-eqb, eqb-true, ne_eqb, and_parts, or_cases, or_left, or_parts}
use Rattle.list_laws.proofs.Tests.{or_true}
use Rattle.circuit_model.specs.declared.gate.Gate.{Gate}
use Rattle.circuit_model.specs.declared.gate.Operation.{Operation}
use Rattle.circuit_model.specs.declared.gate.Operation.TheVariants.{Add, Sub, Neg, Mul, Xor, And, Inv, Eq, Eqw}
use Rattle.circuit_model.specs.Circuits.{operate, wires_after, word_made}
use Rattle.circuit_model.specs.Netlists.{Netlist, IsCircuit, arity, inputs_read, gate, no_gate, is_set, read_by, sets, input_wires, before_gates, plain}
use Rattle.circuit_model.specs.Equations.{GoesByReads, IsSolution, Solves}
use Rattle.circuit_model.proofs.SetAt.{set_here, set_there}
use Rattle.circuit_model.proofs.SetWires.{set_next}

-- ---- which wires are set

-- the wires that are set before gate t
abbrev pub set_before : Netlist → ℕ → ℕ → Bool
set_before c t = is_set (input_wires c) (take t c.gates)

before_next : (c : Netlist) (t w : ℕ) → t < length c.gates → set_before c (suc t) w ≡ (set_before c t w || ((gate c t).output == w))
before_next c t w l = ap (λ gs. is_set (input_wires c) gs w) (take-suc c.gates t no_gate l) ∙ set_next (input_wires c) (take t c.gates) (gate c t) w

set_later : (c : Netlist) (t w : ℕ) → t < length c.gates → set_before c t w ≡ true → set_before c (suc t) w ≡ true
set_later c t w l e = before_next c t w l ∙ ap (λ b. b || ((gate c t).output == w)) e

own_set : (c : Netlist) (t : ℕ) → t < length c.gates → set_before c (suc t) (gate c t).output ≡ true
own_set c t l = before_next c t (gate c t).output l ∙ ap (λ b. set_before c t (gate c t).output || b) (eq-eqb (gate c t).output (gate c t).output refl) ∙ or_true (set_before c t (gate c t).output)

all_set : (c : Netlist) (w : ℕ) → set_before c (length c.gates) w ≡ sets c w
all_set c w = ap (λ gs. is_set (input_wires c) gs w) (take-length c.gates)

-- what passes for all of a list does for one of it
of_all : (p : ℕ → Bool) (vs : List ℕ) (w : ℕ) → list_all p vs ≡ true → list_any (nat_eq w) vs ≡ true → p w ≡ true
of_all p [] w e there = cc
of_all p (v ∷ vs) w e there = (let parts = and_parts (p v) (list_all p vs) e in elim (or_cases (nat_eq w v) (list_any (nat_eq w) vs) there) [
  | inl here ↦ ap p (eqb-true w v here) ∙ parts.0
  | inr rest ↦ of_all p vs w parts.1 rest
])

-- ---- one solution

module _ {A : Type 0} (make : Gate → (ℕ → A) → A) (none : A) (start inputs : ℕ → A) (c : Netlist) (v : IsCircuit c) where
  abbrev at_gate : ℕ → ℕ → A
  at_gate = wires_after make (gate c) start

  -- a gate leaves the wires that are set, and so do all later ones
  stays : (t w : ℕ) → t < length c.gates → set_before c t w ≡ true → at_gate (suc t) w ≡ at_gate t w
  stays t w l e = set_there (at_gate t) (gate c t).output w _ (λ same. both_ways (set_before c t w) (ap (set_before c t) same ∙ (v.fits t l).fresh) e)

  kept_to : (t n w : ℕ) → t + n ≤ length c.gates → set_before c t w ≡ true → at_gate (t + n) w ≡ at_gate t w
  kept_to t zero w l e = (let same : t + 0 ≡ t = omega arith in ap (λ k. at_gate k w) same)
  kept_to t (suc n) w l e =
      let less : t < length c.gates = omega (arith, l) in
      let next : t + suc n ≡ suc t + n = omega arith in
      ap (λ k. at_gate k w) next ∙ kept_to (suc t) n w (omega (arith, l)) (set_later c t w less e) ∙ stays t w less e

  abbrev pub found : ℕ → A
  found = at_gate (length c.gates)

  pub kept_last : (t w : ℕ) → t ≤ length c.gates → set_before c t w ≡ true → found w ≡ at_gate t w
  kept_last t w l e =
      let n = length c.gates in
      let all : n ≡ t + (n - t) = omega (arith, l) in
      ap (λ k. at_gate k w) all ∙ kept_to t (n - t) w (omega (arith, l)) e

  -- what a gate puts on its output stays there
  pub made_last : (t : ℕ) → t < length c.gates → found (gate c t).output ≡ make (gate c t) (at_gate t)
  made_last t l = kept_last (suc t) (gate c t).output (omega (arith, l)) (own_set c t l) ∙ set_here (at_gate t) (gate c t).output (gate c t).output _ refl

  -- a gate reads wires that keep what they have
  pub read_last : GoesByReads make → (t : ℕ) → t < length c.gates → make (gate c t) found ≡ make (gate c t) (at_gate t)
  read_last reads t l = reads (gate c t) found (at_gate t) (λ w there. kept_last t w (omega (arith, l)) (of_all (set_before c t) (read_by (gate c t)) w (v.fits t l).read there))

  -- before the first gate input wires have what is given, and all others `none`
  module _ (first : (w : ℕ) → w < input_wires c → start w ≡ inputs w) (rest : (w : ℕ) → nat_lt w (input_wires c) ≡ false → start w ≡ none) where
    unset_none : (t w : ℕ) → t ≤ length c.gates → set_before c t w ≡ false → at_gate t w ≡ none
    unset_none zero w l e = rest w (or_parts (nat_lt w (input_wires c)) false e).0
    unset_none (suc t) w l e =
        let parts = or_parts (set_before c t w) ((gate c t).output == w) (sym (before_next c t w (omega (arith, l))) ∙ e) in
        set_there (at_gate t) (gate c t).output w _ (λ same. both_ways ((gate c t).output == w) parts.1 (eq-eqb (gate c t).output w (sym same)))
        ∙ unset_none t w (omega (arith, l)) parts.0

    pub found_solves : GoesByReads make → IsSolution make none c inputs found
    found_solves reads = record {
      given = λ w l. kept_last 0 w (omega arith) (or_left (nat_lt w (input_wires c)) false (lt-ltb w (input_wires c) l)) ∙ first w l;
      gates = λ t l. made_last t l ∙ sym (read_last reads t l);
      unset = λ w e. unset_none (length c.gates) w (omega arith) (all_set c w ∙ e);
    }

    -- what solves the equations is that, on the wires that are set
    agree : GoesByReads make → (other : ℕ → A) → IsSolution make none c inputs other → (t w : ℕ) → t ≤ length c.gates → set_before c t w ≡ true → other w ≡ at_gate t w
    agree reads other s zero w l e = (let below : w < input_wires c = ltb-true w (input_wires c) (left (nat_lt w (input_wires c)) e) in s.given w below ∙ sym (first w below))
      where
        left : (b : Bool) → (b || false) ≡ true → b ≡ true
        left true e = refl
        left false e = cc
    agree reads other s (suc t) w l e =
        let less : t < length c.gates = omega (arith, l) in
        elim (cases_eq (gate c t).output w) [
          | inl same ↦ subst (λ (k : ℕ). other k ≡ at_gate (suc t) k) same
              (s.gates t less
              ∙ reads (gate c t) other (at_gate t) (λ k there. agree reads other s t k (omega (arith, less)) (of_all (set_before c t) (read_by (gate c t)) k (v.fits t less).read there))
              ∙ sym (set_here (at_gate t) (gate c t).output (gate c t).output _ refl))
          | inr apart ↦ (let before : set_before c t w ≡ true = earlier (set_before c t w) ((gate c t).output == w) (ne_eqb (gate c t).output w apart) (sym (before_next c t w less) ∙ e) in
              agree reads other s t w (omega (arith, less)) before ∙ sym (stays t w less before))
        ]
      where
        earlier : (a b : Bool) → b ≡ false → (a || b) ≡ true → a ≡ true
        earlier true b n e = refl
        earlier false b n e = absurd (both_ways b n e)

    pub found_alone : GoesByReads make → (other : ℕ → A) → IsSolution make none c inputs other → (w : ℕ) → other w ≡ found w
    found_alone reads other s w = go (sets c w) refl
      where
        go : (b : Bool) → sets c w ≡ b → other w ≡ found w
        go true e = agree reads other s (length c.gates) w (omega arith) (all_set c w ∙ e)
        go false e = s.unset w e ∙ sym (unset_none (length c.gates) w (omega arith) (all_set c w ∙ e))

-- ---- words

-- the word that a gate makes goes by the wires that it reads
pub word_by_reads : (q : ℕ) → GoesByReads (word_made q)
word_by_reads q g x y h = go g.operation g.constant g.first g.second h
  where
    here : (a : ℕ) (vs : List ℕ) → list_any (nat_eq a) (a ∷ vs) ≡ true
    here a vs = or_left (nat_eq a a) (list_any (nat_eq a) vs) (eq-eqb a a refl)

    next : (a b : ℕ) → list_any (nat_eq b) (a ∷ b ∷ []) ≡ true
    next a b = ap (λ t. nat_eq b a || t) (here b []) ∙ or_true (nat_eq b a)

    go : (o : Operation) (k a b : ℕ) → ((w : ℕ) → list_any (nat_eq w) (inputs_read o (take (arity o) (a ∷ b ∷ []))) ≡ true → x w ≡ y w) → operate q o k (x a) (x b) ≡ operate q o k (y a) (y b)
    go Add k a b h = ap₂ (operate q Add k) (h a (here a (b ∷ []))) (h b (next a b))
    go Sub k a b h = ap₂ (operate q Sub k) (h a (here a (b ∷ []))) (h b (next a b))
    go Mul k a b h = ap₂ (operate q Mul k) (h a (here a (b ∷ []))) (h b (next a b))
    go Xor k a b h = ap₂ (operate q Xor k) (h a (here a (b ∷ []))) (h b (next a b))
    go And k a b h = ap₂ (operate q And k) (h a (here a (b ∷ []))) (h b (next a b))
    go Neg k a b h = ap (λ z. operate q Neg k z 0) (h a (here a []))
    go Inv k a b h = ap (λ z. operate q Inv k z 0) (h a (here a []))
    go Eqw k a b h = h a (here a [])
    go Eq k a b h = refl

first_given : (c : Netlist) (inputs : ℕ → ℕ) (w : ℕ) → w < input_wires c → before_gates c inputs w ≡ inputs w
first_given c inputs w l = cond-true (nat_lt w (input_wires c)) (inputs w) 0 (lt-ltb w (input_wires c) l)

first_none : (c : Netlist) (inputs : ℕ → ℕ) (w : ℕ) → nat_lt w (input_wires c) ≡ false → before_gates c inputs w ≡ 0
first_none c inputs w e = cond-false (nat_lt w (input_wires c)) (inputs w) 0 e

pub values_solve : (c : Netlist) (inputs : ℕ → ℕ) → IsCircuit c → Solves c inputs (plain c inputs)
values_solve c inputs v =
    found_solves (word_made (2 ^ c.bits)) 0 (before_gates c inputs) inputs c v (first_given c inputs) (first_none c inputs) (word_by_reads (2 ^ c.bits))

pub values_alone : (c : Netlist) (inputs words : ℕ → ℕ) → IsCircuit c → Solves c inputs words → (w : ℕ) → words w ≡ plain c inputs w
values_alone c inputs words v s w =
    found_alone (word_made (2 ^ c.bits)) 0 (before_gates c inputs) inputs c v (first_given c inputs) (first_none c inputs) (word_by_reads (2 ^ c.bits)) words s w
