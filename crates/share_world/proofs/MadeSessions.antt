-- Sessions that are made of valid circuits.
use Rattle.std.proofs.Common.{◌≡◌, ℕ, suc, ◌^◌, ◌<◌, ◌≤◌, inl, inr, Bool, true, false, ◌&&◌, ◌||◌, List, [], ◌∷◌, length, get_or, take, nat_lt, if◌then◌else◌, refl, sym, ◌∙◌, ap, ap₂, arith}
use Rattle.std.specs.Prelude.{◌==◌}
use Rattle.std.specs.List.{list_all, list_any}
use Rattle.std.proofs.lemmas.List.{get_or-take, length-take-le}
use Rattle.std.proofs.lemmas.List.Folds.{list_any_at}
use Rattle.std.proofs.lemmas.Bool.{cases_Bool, cond-true, cond-false, both_ways, eqb-true, eq-eqb, lt-ltb, ltb-true, and_parts}
use Rattle.list_laws.proofs.Tests.{or_true}
use Rattle.party_set.specs.Parties.{Members}
use Rattle.circuit_model.specs.declared.gate.Gate.{Gate}
use Rattle.circuit_model.specs.declared.gate.Operation.{Operation}
use Rattle.circuit_model.specs.declared.gate.Operation.TheVariants.{Add, Sub, Neg, Mul, Xor, And, Inv, Eq, Eqw}
use Rattle.circuit_model.specs.Circuits.{values}
use Rattle.circuit_model.specs.Netlists.{Netlist, IsCircuit, arity, inputs_read, no_gate, is_set, input_wires, gate as gate_of}
use Rattle.session_slots.specs.declared.source.Source.{Source}
use Rattle.session_slots.specs.declared.source.Source.TheVariants.{Given, Earlier}
use Rattle.session_slots.specs.declared.values.Owner.{Owner}
use Rattle.session_slots.specs.declared.values.KeptWire.{KeptWire}
use Rattle.session_slots.specs.Sessions.{Session, gate, owners, source}
use Rattle.plan_model.specs.Plans.{session, CarriesEarlier}
use Rattle.job_session.specs.Parts.{session_of}
use Rattle.job_session.proofs.ValueCounts.{owners_long}
use Rattle.share_world.specs.Worlds.{World, source_value, first_values, values_before, plain, carried_wire}
use Rattle.share_world.specs.Solutions.{GatesInOrder, SetBefore, reads_first, reads_second}
use Rattle.share_world.specs.Made.{made_of, MadeHasValues}
use Rattle.share_world.proofs.CarriedWires.{ended_values}

first_passes : (o : Operation) (p : ℕ → Bool) (a b : ℕ) → list_all p (inputs_read o (take (arity o) (a ∷ b ∷ []))) ≡ true → reads_first o ≡ true → p a ≡ true
first_passes Add p a b e r = (and_parts (p a) (p b && true) e).0
first_passes Sub p a b e r = (and_parts (p a) (p b && true) e).0
first_passes Mul p a b e r = (and_parts (p a) (p b && true) e).0
first_passes Xor p a b e r = (and_parts (p a) (p b && true) e).0
first_passes And p a b e r = (and_parts (p a) (p b && true) e).0
first_passes Neg p a b e r = (and_parts (p a) true e).0
first_passes Inv p a b e r = (and_parts (p a) true e).0
first_passes Eqw p a b e r = (and_parts (p a) true e).0
first_passes Eq p a b e r = cc

second_passes : (o : Operation) (p : ℕ → Bool) (a b : ℕ) → list_all p (inputs_read o (take (arity o) (a ∷ b ∷ []))) ≡ true → reads_second o ≡ true → p b ≡ true
second_passes Add p a b e r = (and_parts (p b) true (and_parts (p a) (p b && true) e).1).0
second_passes Sub p a b e r = (and_parts (p b) true (and_parts (p a) (p b && true) e).1).0
second_passes Mul p a b e r = (and_parts (p b) true (and_parts (p a) (p b && true) e).1).0
second_passes Xor p a b e r = (and_parts (p b) true (and_parts (p a) (p b && true) e).1).0
second_passes And p a b e r = (and_parts (p b) true (and_parts (p a) (p b && true) e).1).0
second_passes Neg p a b e r = cc
second_passes Inv p a b e r = cc
second_passes Eqw p a b e r = cc
second_passes Eq p a b e r = cc

-- a gate of the list sets the wire
setter : (gs : List Gate) (v : ℕ) → list_any (λ (g : Gate). g.output == v) gs ≡ true → (u : ℕ) × (u < length gs) × ((get_or gs u no_gate).output ≡ v)
setter [] v e = cc
setter (g ∷ gs) v e = go (g.output == v) refl (λ f. setter gs v f)
  where
    go : (b : Bool) → (g.output == v) ≡ b → (list_any (λ (h : Gate). h.output == v) gs ≡ true → (u : ℕ) × (u < length gs) × ((get_or gs u no_gate).output ≡ v))
        → (u : ℕ) × (u < length (g ∷ gs)) × ((get_or (g ∷ gs) u no_gate).output ≡ v)
    go true is later = (0, omega arith, eqb-true g.output v is)
    go false is later =
        let rest = later (sym (ap (λ b. b || list_any (λ (h : Gate). h.output == v) gs) is) ∙ e) in
        (suc rest.0, omega (arith, rest.1), rest.2)

-- a wire is set before gate t by the one definition where it is by the other
set_is : (c : Netlist) (owned : List Owner) (readers : List Members) (t v : ℕ) → length owned ≡ length c.inputs → t ≤ length c.gates → is_set (input_wires c) (take t c.gates) v ≡ true
    → SetBefore (session_of c owned readers) t v
set_is c owned readers t v same le e = go (nat_lt v (input_wires c)) refl
  where
    go : (b : Bool) → nat_lt v (input_wires c) ≡ b → SetBefore (session_of c owned readers) t v
    go true is = inl (omega (arith, ltb-true v (input_wires c) is, owners_long c.inputs owned same))
    go false is =
        let found = setter (take t c.gates) v (sym (ap (λ b. b || list_any (λ (g : Gate). g.output == v) (take t c.gates)) is) ∙ e) in
        let before : found.0 < t = omega (arith, found.1, length-take-le t c.gates le) in
        inr (found.0, before, ap (λ (g : Gate). g.output) (sym (get_or-take t c.gates found.0 no_gate before)) ∙ found.2)

is_so : (c : Netlist) (owned : List Owner) (readers : List Members) (t v : ℕ) → length owned ≡ length c.inputs → t ≤ length c.gates → SetBefore (session_of c owned readers) t v
    → is_set (input_wires c) (take t c.gates) v ≡ true
is_so c owned readers t v same le (inl l) = ap (λ b. b || list_any (λ (g : Gate). g.output == v) (take t c.gates)) (lt-ltb v (input_wires c) (omega (arith, l, owners_long c.inputs owned same)))
is_so c owned readers t v same le (inr u) =
    let there : u.0 < length (take t c.gates) = omega (arith, u.1, length-take-le t c.gates le) in
    let sets : (get_or (take t c.gates) u.0 no_gate).output ≡ v = ap (λ (g : Gate). g.output) (get_or-take t c.gates u.0 no_gate u.1) ∙ u.2 in
    ap (λ b. nat_lt v (input_wires c) || b) (list_any_at (λ (g : Gate). g.output == v) (take t c.gates) u.0 no_gate there (eq-eqb _ v sets)) ∙ or_true (nat_lt v (input_wires c))

pub made_is_circuit : (c : Netlist) (owned : List Owner) (readers : List Members) (prepared ahead : Bool) (kept : List KeptWire) → IsCircuit c → length owned ≡ length c.inputs → GatesInOrder (made_of c owned readers prepared ahead kept)
made_is_circuit c owned readers prepared ahead kept v same = record {
  first = λ t l r. set_is c owned readers t (gate_of c t).first same (omega (arith, l)) (first_passes (gate_of c t).operation (is_set (input_wires c) (take t c.gates)) (gate_of c t).first (gate_of c t).second (v.fits t l).read r);
  second = λ t l r. set_is c owned readers t (gate_of c t).second same (omega (arith, l)) (second_passes (gate_of c t).operation (is_set (input_wires c) (take t c.gates)) (gate_of c t).first (gate_of c t).second (v.fits t l).read r);
  output = λ t l b. both_ways (is_set (input_wires c) (take t c.gates) (gate_of c t).output) (v.fits t l).fresh (is_so c owned readers t (gate_of c t).output same (omega (arith, l)) b);
}

-- the input wires have their inputs, or the plain values of what they carry
start_is : (w : World) (s u : ℕ) → CarriesEarlier w.plan → first_values w (values_before w s) s u ≡ first_values w (plain w) s u
start_is w s u carries = ap (λ n. if nat_lt u (length (owners (session w.plan s))) then n else 0) (value_is (source (session w.plan s) u) refl)
  where
    value_is : (from : Source) → source (session w.plan s) u ≡ from → source_value w (values_before w s) s u from ≡ source_value w (plain w) s u from
    value_is (Given p) is = refl
    value_is (Earlier r c i) is = ap (λ (f : ℕ → ℕ). f (carried_wire w.plan r c i)) (ended_values w s r (carries s u r c i is))

-- a value that is 0 past a bound
within_same : (n a u : ℕ) → (if nat_lt u n then a else 0) ≡ (if nat_lt u n then (if nat_lt u n then a else 0) else 0)
within_same n a u = elim (cases_Bool (nat_lt u n)) [
  | inl e ↦ cond-true (nat_lt u n) a 0 e ∙ sym (cond-true (nat_lt u n) _ 0 e ∙ cond-true (nat_lt u n) a 0 e)
  | inr e ↦ cond-false (nat_lt u n) a 0 e ∙ sym (cond-false (nat_lt u n) _ 0 e)
]

pub made_has_values : (w : World) (s : ℕ) → CarriesEarlier w.plan → MadeHasValues w s
made_has_values w s carries c owned readers prepared ahead kept is bits same v =
    let many : length (owners (session w.plan s)) ≡ input_wires c = ap (λ (q : Session). length (owners q)) is ∙ owners_long c.inputs owned same in
    let start : first_values w (values_before w s) s ≡ (λ u. if nat_lt u (input_wires c) then first_values w (plain w) s u else 0) =
    λ i. λ u. (start_is w s u carries ∙ within_same (length (owners (session w.plan s))) (source_value w (plain w) s u (source (session w.plan s) u)) u
    ∙ ap (λ n. if nat_lt u n then first_values w (plain w) s u else 0) many) i in
    ap₂ (λ (k : ℕ) (q : Session). values (2 ^ k) (gate q) (first_values w (values_before w s) s) (length q.gates) v) bits is
    ∙ ap (λ f. values (2 ^ c.bits) (gate_of c) f (length c.gates) v) start
