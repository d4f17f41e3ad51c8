-- A wire that a gate reads keeps its value from there on.
use Rattle.std.proofs.Common.{◌≡◌, ℕ, ◌^◌, ◌<◌, ◌⊎◌, true, false, nat_eq, List, [], ◌∷◌, length, refl, sym, ap₂, subst, arith}
use Rattle.std.specs.Prelude.{take}
use Rattle.std.specs.List.{Contains, list_any}
use Rattle.std.proofs.lemmas.Cmp.{nat_eq_equiv}
use Rattle.std.proofs.lemmas.Map.Views.{list_any-from_Contains}
use Rattle.std.proofs.lemmas.Bool.{both_ways, eqb-true, or_cases}
use mathlib.Core.Logic.{inl, inr}
use Rattle.mpc_ring.specs.Differences.{difference}
use Rattle.circuit_model.specs.declared.gate.Operation.{Operation}
use Rattle.circuit_model.specs.declared.gate.Operation.TheVariants.{Add, Sub, Neg, Mul, Xor, And, Inv, Eq, Eqw}
use Rattle.circuit_model.specs.Netlists.{arity, inputs_read, read_by}
use Rattle.circuit_model.proofs.SetAt.{set_there}
use Rattle.session_slots.specs.Sessions.{Session, gate}
use Rattle.plan_model.specs.Plans.{session}
use Rattle.plan_model.specs.Sound.{IsSound}
use Rattle.share_world.specs.Solutions.{SetBefore, GatesInOrder, reads_first, reads_second}
use Rattle.share_world.specs.Worlds.{World, value_before, plain}
use Rattle.share_world.proofs.Settled.{of_one, in_order, settled}
use Rattle.tape_map.specs.TapeMaps.{with_inputs}
use Rattle.tape_map.specs.Laws.{DeltaIsPlain}

-- the operation reads v as the first or as the second of what it takes
abbrev ReadAs : Operation → ℕ → ℕ → ℕ → Type 0
ReadAs op a b v = ((reads_first op ≡ true) × (v ≡ a)) ⊎ ((reads_second op ≡ true) × (v ≡ b))

of_two : (a b v : ℕ) → list_any (nat_eq v) (a ∷ b ∷ []) ≡ true → (v ≡ a) ⊎ (v ≡ b)
of_two a b v h = elim (or_cases (nat_eq v a) (list_any (nat_eq v) (b ∷ [])) h) [
  | inl e ↦ inl (eqb-true v a e)
  | inr e ↦ inr (of_one b v e)
]

both_read : (op : Operation) (a b v : ℕ) → reads_first op ≡ true → reads_second op ≡ true → list_any (nat_eq v) (a ∷ b ∷ []) ≡ true → ReadAs op a b v
both_read op a b v one other h = elim (of_two a b v h) [
  | inl e ↦ inl (one, e)
  | inr e ↦ inr (other, e)
]

-- what an operation reads is one of the wires that it takes
read_as : (op : Operation) (a b v : ℕ) → list_any (nat_eq v) (inputs_read op (take (arity op) (a ∷ b ∷ []))) ≡ true → ReadAs op a b v
read_as Add a b v h = both_read Add a b v refl refl h
read_as Sub a b v h = both_read Sub a b v refl refl h
read_as Mul a b v h = both_read Mul a b v refl refl h
read_as Xor a b v h = both_read Xor a b v refl refl h
read_as And a b v h = both_read And a b v refl refl h
read_as Neg a b v h = inl (refl, of_one a v h)
read_as Inv a b v h = inl (refl, of_one a v h)
read_as Eqw a b v h = inl (refl, of_one a v h)
read_as Eq a b v h = absurd (both_ways false refl h)

-- what gate t reads is set before it
read_set : (x : Session) → GatesInOrder x → (t v : ℕ) → t < length x.gates → Contains (read_by (gate x t)) v → SetBefore x t v
read_set x order t v lt read =
    let g = gate x t in
    elim (read_as g.operation g.first g.second v (list_any-from_Contains nat_eq_equiv v (read_by g) read)) [
      | inl h ↦ subst (SetBefore x t) (sym h.1) (order.first t lt h.0)
      | inr h ↦ subst (SetBefore x t) (sym h.1) (order.second t lt h.0)
    ]

at_end : (w : World) → IsSound w.plan → (s t v : ℕ) → s < length w.plan.sessions → t < length (session w.plan s).gates
    → Contains (read_by (gate (session w.plan s) t)) v → value_before w s t v ≡ plain w s v
at_end w sound s t v ls lt read =
    let x = session w.plan s in
    let order = in_order x (sound.sessions s ls).wired in
    sym (settled x order (value_before w s) (λ t v ne. set_there (value_before w s t) (gate x t).output v _ ne) t v (omega arith)
    (read_set x order t v lt read))

pub delta_is_plain : (w : World) (other : List (List (List ℕ))) → IsSound w.plan → DeltaIsPlain w other
delta_is_plain w other sound s t v ls lt read =
    ap₂ (difference (2 ^ w.plan.bits)) (at_end (with_inputs w other) sound s t v ls lt read) (at_end w sound s t v ls lt read)
