-- The gates of a session stand in order, and a wire that is set stays as it is.
use Rattle.std.proofs.Common.{◌≡◌, ◌≢◌, ℕ, zero, suc, ◌+◌, ◌-◌, ◌<◌, ◌≤◌, true, false, ◌||◌, nat_eq, [], ◌∷◌, length, refl, sym, ap, ◌∙◌, subst, arith, inl, inr}
use Rattle.std.specs.Prelude.{take}
use Rattle.std.specs.List.{list_any}
use Rattle.std.proofs.lemmas.Bool.{cases_Bool, cond-false, both_ways, eqb-true, eq-eqb}
use Rattle.circuit_model.specs.declared.gate.Operation.{Operation}
use Rattle.circuit_model.specs.declared.gate.Operation.TheVariants.{Add, Sub, Neg, Mul, Xor, And, Inv, Eq, Eqw}
use Rattle.circuit_model.specs.Circuits.{is_product}
use Rattle.circuit_model.specs.Netlists.{arity, inputs_read, read_by}
use Rattle.session_slots.specs.declared.side.Side.{Side}
use Rattle.session_slots.specs.declared.side.Side.TheVariants.{First, Second}
use Rattle.session_slots.specs.Sessions.{Session, Slot, owners, gate, is_prepared, operand, mask_wire, session_slots}
use Rattle.session_slots.specs.Sessions.Slot.{Input, At_gate, Output, Mask, Mask_product, Masked, Kept}
use Rattle.session_slots.specs.SoundSessions.{Inside, IsWired}
use Rattle.session_slots.specs.SlotNumbers.{first_of_gate, session_slot_number}
use Rattle.session_slots.specs.KeptWires.{slot_sets, sets_in, reads_in}
use Rattle.plan_model.specs.Plans.{Plan, session}
use Rattle.plan_model.specs.Sound.{IsSound}
use Rattle.list_laws.proofs.Tests.{or_true}
use Rattle.session_slots.proofs.SessionSlots.{slot_there, slot_kinds, number_within}
use Rattle.share_world.specs.Solutions.{SetBefore, GatesInOrder, IsOrdered, reads_first, reads_second}
use Rattle.share_world.proofs.SlotOrder.{input_first, masked_first, gate_first, earlier_gate}

-- ---- whether a wire is one of these

pub is_one : (u v : ℕ) → v ≡ u → list_any (nat_eq v) (u ∷ []) ≡ true
is_one u v e = ap (λ b. b || false) (eq-eqb v u e)

pub of_one : (u v : ℕ) → list_any (nat_eq v) (u ∷ []) ≡ true → v ≡ u
of_one u v h = elim (cases_Bool (nat_eq v u)) [
  | inl e ↦ eqb-true v u e
  | inr e ↦ absurd (both_ways (nat_eq v u || false) (ap (λ b. b || false) e) h)
]

pub is_first : (a b : ℕ) → list_any (nat_eq a) (a ∷ b ∷ []) ≡ true
is_first a b = ap (λ z. z || (nat_eq a b || false)) (eq-eqb a a refl)

pub is_second : (a b : ℕ) → list_any (nat_eq b) (a ∷ b ∷ []) ≡ true
is_second a b = ap (λ z. nat_eq b a || z) (is_one b b refl) ∙ or_true (nat_eq b a)

-- ---- what an operation reads

-- the wires that an operation reads are among those that it takes
pub first_read : (op : Operation) (a b : ℕ) → reads_first op ≡ true → list_any (nat_eq a) (inputs_read op (take (arity op) (a ∷ b ∷ []))) ≡ true
first_read Add a b r = is_first a b
first_read Sub a b r = is_first a b
first_read Mul a b r = is_first a b
first_read Xor a b r = is_first a b
first_read And a b r = is_first a b
first_read Neg a b r = is_one a a refl
first_read Inv a b r = is_one a a refl
first_read Eqw a b r = is_one a a refl
first_read Eq a b r = absurd (both_ways false refl r)

pub second_read : (op : Operation) (a b : ℕ) → reads_second op ≡ true → list_any (nat_eq b) (inputs_read op (take (arity op) (a ∷ b ∷ []))) ≡ true
second_read Add a b r = is_second a b
second_read Sub a b r = is_second a b
second_read Mul a b r = is_second a b
second_read Xor a b r = is_second a b
second_read And a b r = is_second a b
second_read Neg a b r = absurd (both_ways false refl r)
second_read Inv a b r = absurd (both_ways false refl r)
second_read Eqw a b r = absurd (both_ways false refl r)
second_read Eq a b r = absurd (both_ways false refl r)

-- ---- gates in order

module _ (x : Session) (wired : IsWired x) where
  -- a wire of the circuit is none of those behind them
  not_behind : (w u : ℕ) → w < x.wires → x.wires ≤ u → list_any (nat_eq w) (u ∷ []) ≡ true → ⊥
  not_behind w u l past h = (let e = of_one u w h in omega (arith, l, past, e))

  -- one that an earlier slot sets is set before the gate
  set_before : (t w j : ℕ) → w < x.wires → j < session_slots x → slot_sets x j w ≡ true → j < session_slot_number x (At_gate t) → SetBefore x t w
  set_before t w j lw lj = slot_kinds x (λ k z. list_any (nat_eq w) (sets_in x z) ≡ true → k < session_slot_number x (At_gate t) → SetBefore x t w) each j lj
    where
      each : (z : Slot) → Inside x z → list_any (nat_eq w) (sets_in x z) ≡ true → session_slot_number x z < session_slot_number x (At_gate t) → SetBefore x t w
      each (Input v) lv h l = inl (subst (λ z. z < length (owners x)) (sym (of_one v w h)) lv)
      each (At_gate u) lu h l = inr (u, earlier_gate x t u l, sym (of_one (gate x u).output w h))
      each (Output o) lo h l = absurd (both_ways false refl h)
      each (Mask u First) i h l = absurd (not_behind w _ lw (omega arith) h)
      each (Mask u Second) i h l = absurd (not_behind w _ lw (omega arith) h)
      each (Mask_product u) i h l = absurd (not_behind w _ lw (omega arith) h)
      each (Masked u side) i h l = absurd (both_ways false refl h)
      each (Kept j) lj h l = absurd (both_ways false refl h)

  -- a slot sets it that stands before those of the gate
  pub setter : (t w : ℕ) → t ≤ length x.gates → SetBefore x t w → (j : ℕ) × (j < first_of_gate x t) × (slot_sets x j w ≡ true)
  setter t w le (inl l) = (session_slot_number x (Input w), input_first x w t l, ap (λ z. list_any (nat_eq w) (sets_in x z)) (slot_there x (Input w) l) ∙ is_one w w refl)
  setter t w le (inr u) =
      let less : u.0 < t = u.1 in
      (session_slot_number x (At_gate u.0), gate_first x u.0 t less, ap (λ z. list_any (nat_eq w) (sets_in x z)) (slot_there x (At_gate u.0) (omega (arith, less, le))) ∙ is_one (gate x u.0).output w (sym u.2))

  -- a wire that a slot of the gate reads is set before the gate
  read_set : (t w : ℕ) (z : Slot) → w < x.wires → Inside x z → session_slot_number x z ≤ session_slot_number x (At_gate t) → list_any (nat_eq w) (reads_in x z) ≡ true → SetBefore x t w
  read_set t w z lw inside le h =
      let k = session_slot_number x z in
      let within : k < session_slots x = number_within x z inside in
      let before = wired.order.before k w within (ap (λ y. list_any (nat_eq w) (reads_in x y)) (slot_there x z inside) ∙ h) in
      let less : before.0 < k = before.1 in
      set_before t w before.0 lw (omega (arith, less, within)) before.2 (omega (arith, less, le))

  -- of a prepared product what is opened reads its wires
  operand_set : (t : ℕ) (side : Side) → t < length x.gates → operand (gate x t) side < x.wires → list_any (nat_eq (operand (gate x t) side)) (read_by (gate x t)) ≡ true → SetBefore x t (operand (gate x t) side)
  operand_set t side l lw h = elim (cases_Bool (is_prepared x t)) [
    | inl yes' ↦
        let before = masked_first x t side yes' in
        read_set t w (Masked t side) lw (l, yes') (omega (arith, before)) (is_first w (mask_wire x t side))
    | inr no' ↦ read_set t w (At_gate t) lw l (omega arith) (ap (list_any (nat_eq w)) (cond-false (is_prepared x t) _ _ no') ∙ h)
  ]
    where
      w : ℕ
      w = operand (gate x t) side

  -- each gate reads set wires, and sets one that isn't set
  pub in_order : GatesInOrder x
  in_order = record {
    first = λ t l r. operand_set t First l (wired.first t l) (first_read (gate x t).operation (gate x t).first (gate x t).second r);
    second = λ t l r. operand_set t Second l (wired.second t l) (second_read (gate x t).operation (gate x t).first (gate x t).second r);
    output = λ t l set.
        let w : ℕ = (gate x t).output in
        let k : ℕ = session_slot_number x (At_gate t) in
        let by = setter t w (omega arith) set in
        let less : by.0 < first_of_gate x t = by.1 in
        both_ways (slot_sets x k w) (wired.order.once by.0 k w (omega (arith, less)) (number_within x (At_gate t) l) by.2)
        (ap (λ z. list_any (nat_eq w) (sets_in x z)) (slot_there x (At_gate t) l) ∙ is_one w w refl);
  }

-- in a plan within the limits each session is so, and carries from earlier ones
pub plan_in_order : (plan : Plan) → IsSound plan → IsOrdered plan
plan_in_order plan sound = record { gates = λ s ls. in_order (session plan s) (sound.sessions s ls).wired; carried = sound.earlier }

-- a product reads both its wires
pub product_reads : (op : Operation) → is_product op ≡ true → (reads_first op ≡ true) × (reads_second op ≡ true)
product_reads Mul p = (refl, refl)
product_reads And p = (refl, refl)
product_reads Add p = absurd (both_ways false refl p)
product_reads Sub p = absurd (both_ways false refl p)
product_reads Neg p = absurd (both_ways false refl p)
product_reads Xor p = absurd (both_ways false refl p)
product_reads Inv p = absurd (both_ways false refl p)
product_reads Eq p = absurd (both_ways false refl p)
product_reads Eqw p = absurd (both_ways false refl p)

-- ---- what no later gate changes

set_within : (x : Session) (t n v : ℕ) → SetBefore x t v → SetBefore x (t + n) v
set_within x t n v (inl l) = inl l
set_within x t n v (inr u) = inr (u.0, omega (arith, u.1), u.2)

module _ {A : Type 0} (x : Session) (order : GatesInOrder x) (f : ℕ → ℕ → A) (keeps : (t v : ℕ) → v ≢ (gate x t).output → f (suc t) v ≡ f t v) where
  stays : (t n v : ℕ) → t + n ≤ length x.gates → SetBefore x t v → f (t + n) v ≡ f t v
  stays t zero v le b = let none : t + 0 ≡ t = omega arith in ap (λ z. f z v) none
  stays t (suc n) v le b =
      let more : t + suc n ≡ suc (t + n) = omega arith in
      let apart : v ≢ (gate x (t + n)).output = λ e. order.output (t + n) (omega arith) (subst (SetBefore x (t + n)) e (set_within x t n v b)) in
      ap (λ z. f z v) more ∙ keeps (t + n) v apart ∙ stays t n v (omega arith) b

  -- a wire that is set before gate t ends as it is then
  pub settled : (t v : ℕ) → t ≤ length x.gates → SetBefore x t v → f (length x.gates) v ≡ f t v
  settled t v le b =
      let rest : t + (length x.gates - t) ≡ length x.gates = omega arith in
      subst (λ z. f z v ≡ f t v) rest (stays t (length x.gates - t) v (omega arith) b)

  -- and so does a wire that a product reads
  pub product_settled : (t : ℕ) → t < length x.gates → is_product (gate x t).operation ≡ true
      → (f (length x.gates) (gate x t).first ≡ f t (gate x t).first) × (f (length x.gates) (gate x t).second ≡ f t (gate x t).second)
  product_settled t l product =
      let reads = product_reads (gate x t).operation product in
      (settled t (gate x t).first (omega arith) (order.first t l reads.0), settled t (gate x t).second (omega arith) (order.second t l reads.1))
