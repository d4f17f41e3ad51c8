-- The equations of all sessions have one solution.
use Rattle.std.proofs.Common.{◌≡◌, ℕ, zero, suc, ◌+◌, ◌%◌, ◌<◌, ◌≤◌, ◌≢◌, ◌⊎◌, true, false, not, nat_eq, nat_lt, if◌then◌else◌, length, refl, sym, ap, ap₂, ◌∙◌, subst, arith}
use Rattle.std.proofs.lemmas.Bool.{cases_eq, cases_lt, cases_Bool, cond-true, cond-false, eq-eqb, eqb-true, ne_eqb, lt-ltb, le-ltb, and_parts, and_from, not-true, not_from_false, both_ways}
use mathlib.Core.Logic.{inl, inr}
use Rattle.circuit_model.specs.declared.gate.Operation.{Operation}
use Rattle.circuit_model.specs.Circuits.{is_product}
use Rattle.circuit_model.specs.declared.gate.Operation.TheVariants.{Add, Sub, Neg, Mul, Xor, And, Inv, Eq, Eqw}
use Rattle.secret_sharing.specs.Schemes.{dealt, local, own_product, own_value, has_pair, gate_summands, summands}
use Rattle.secret_sharing.specs.Prepared.{masked, sum_of, prepared_summand}
use Rattle.session_slots.specs.declared.side.Side.TheVariants.{First, Second}
use Rattle.session_slots.specs.declared.source.Source.{Source}
use Rattle.session_slots.specs.declared.source.Source.TheVariants.{Given, Earlier}
use Rattle.session_slots.specs.Sessions.{owners, source, given_by, Session, Slot, gate, is_direct, is_prepared}
use Rattle.session_slots.specs.SoundSessions.{Inside}
use Rattle.plan_model.specs.Plans.{scheme, session, deals_in, CarriesEarlier}
use Rattle.session_slots.specs.Sessions.Slot.{Input, At_gate, Output, Mask, Mask_product, Masked, Kept}
use Rattle.share_world.specs.Worlds.{World, run_of, source_summands, summands_before, end_summands, source_value, values_before, value_before, carried_wire, tape_word, mask, mask_product, product_of, deal_of}
use Rattle.share_world.specs.Solutions.{reads_first, reads_second, SetBefore, GatesInOrder, IsOrdered, dealt_sum, SummandsSolve, AllSolve, AreSummands, OnlySolution, IsSolution, CarriedArePlain}
use Rattle.list_laws.specs.Lists.{total}
use Rattle.mpc_ring.specs.Differences.{difference}
use Rattle.list_laws.proofs.Totals.{total_eq}
use Rattle.share_world.proofs.CarriedWires.{carrier_there, carried_within, ended_summands, ended_values}
use Rattle.share_world.proofs.LocalWords.{own_alike, joined_same}
use Rattle.share_world.proofs.Settled.{product_reads, settled}

set_later : (s : Session) (t v : ℕ) → SetBefore s t v → SetBefore s (suc t) v
set_later s t v (inl l) = inl l
set_later s t v (inr u) = inr (u.0, omega arith, u.2)

set_now : (s : Session) (t v : ℕ) → SetBefore s (suc t) v → ((gate s t).output ≡ v) ⊎ SetBefore s t v
set_now s t v (inl l) = inr (inl l)
set_now s t v (inr u) = elim (cases_eq u.0 t) [
  | inl e ↦ inl (subst (λ z. (gate s z).output ≡ v) e u.2)
  | inr ne ↦ inr (inr (u.0, omega arith, u.2))
]

decide_set : (s : Session) (t v : ℕ) → SetBefore s t v ⊎ (SetBefore s t v → ⊥)
decide_set s zero v = elim (cases_lt v (length (owners s))) [
  | inl l ↦ inl (inl l)
  | inr past ↦ inr (λ z. none z past)
]
  where
    none : SetBefore s zero v → length (owners s) ≤ v → ⊥
    none (inl l) past = omega arith
    none (inr u) past = omega (arith, u.1)
decide_set s (suc t) v = elim (decide_set s t v) [
  | inl yes' ↦ inl (set_later s t v yes')
  | inr no' ↦ elim (cases_eq (gate s t).output v) [
    | inl e ↦ inl (inr (t, omega arith, e))
    | inr ne ↦ inr (λ z. elim (set_now s t v z) [ inl e ↦ ne e | inr b ↦ no' b ])
  ]
]

-- a linear operation reads what it is said to read
pub local_reads : (q : ℕ) (op : Operation) (c i a b a' b' : ℕ) → is_product op ≡ false → (reads_first op ≡ true → a ≡ a') → (reads_second op ≡ true → b ≡ b') → local q op c i a b ≡ local q op c i a' b'
local_reads q Add c i a b a' b' p f s = ap₂ (λ x y. local q Add c i x y) (f refl) (s refl)
local_reads q Sub c i a b a' b' p f s = ap₂ (λ x y. local q Sub c i x y) (f refl) (s refl)
local_reads q Xor c i a b a' b' p f s = ap₂ (λ x y. local q Xor c i x y) (f refl) (s refl)
local_reads q Neg c i a b a' b' p f s = ap (λ x. local q Neg c i x b) (f refl)
local_reads q Eqw c i a b a' b' p f s = f refl
local_reads q Inv c zero a b a' b' p f s = ap (λ x. (x + 1) % q) (f refl)
local_reads q Inv c (suc i) a b a' b' p f s = f refl
local_reads q Eq c zero a b a' b' p f s = refl
local_reads q Eq c (suc i) a b a' b' p f s = refl
local_reads q Mul c i a b a' b' p f s = absurd (both_ways true p refl)
local_reads q And c i a b a' b' p f s = absurd (both_ways true p refl)

-- a wire that isn't set has 0
unset_zero : (w : World) (s t v i : ℕ) → (SetBefore (session w.plan s) t v → ⊥) → summands (run_of w s) t v i ≡ 0
unset_zero w s zero v i no' = cond-false (nat_lt v (length (owners (session w.plan s)))) _ 0 (le-ltb v (length (owners (session w.plan s))) (elim (cases_lt v (length (owners (session w.plan s)))) [ inl l ↦ absurd (no' (inl l)) | inr past ↦ past ]))
unset_zero w s (suc t) v i no' =
    let g = gate (session w.plan s) t in
    ap (λ f. f i) (cond-false (nat_eq v g.output) _ (summands (run_of w s) t v) (ne_eqb v g.output (λ e. no' (inr (t, omega arith, sym e)))))
    ∙ unset_zero w s t v i (λ b. no' (set_later (session w.plan s) t v b))

-- who gives a wire is its source
giver_is : (p : ℕ) (from : Source) → given_by p from ≡ true → from ≡ Given p
giver_is p (Given q) e = ap (λ n. Given n) (eqb-true q p e)
giver_is p (Earlier r c at) e = absurd (both_ways false refl e)

-- the wires of the sessions before s have their summands
abbrev EarlierSolved : World → (ℕ → ℕ → ℕ → ℕ) → ℕ → Type 0
EarlierSolved w sh s = (r v i : ℕ) → r < s → i < length w.plan.groups → sh r v i ≡ end_summands w r v i

module _ (w : World) (s : ℕ) (c : GatesInOrder (session w.plan s)) (carries : CarriesEarlier w.plan) (sh : ℕ → ℕ → ℕ → ℕ) (dl : ℕ → ℕ → Slot → ℕ → ℕ)
    (h : SummandsSolve w s sh dl) (before : EarlierSolved w sh s) where
  abbrev x : Session
  x = session w.plan s

  -- the wires that are set before gate t have their summands
  abbrev Known : ℕ → Type 0
  Known t = (v i : ℕ) → SetBefore x t v → i < length w.plan.groups → sh s v i ≡ summands (run_of w s) t v i

  -- the wires that a product reads
  first_known : (t : ℕ) → t < length x.gates → is_product (gate x t).operation ≡ true → Known t → (i : ℕ) → i < length w.plan.groups → sh s (gate x t).first i ≡ summands (run_of w s) t (gate x t).first i
  first_known t l product known i li = known (gate x t).first i (c.first t l (product_reads (gate x t).operation product).0) li

  second_known : (t : ℕ) → t < length x.gates → is_product (gate x t).operation ≡ true → Known t → (i : ℕ) → i < length w.plan.groups → sh s (gate x t).second i ≡ summands (run_of w s) t (gate x t).second i
  second_known t l product known i li = known (gate x t).second i (c.second t l (product_reads (gate x t).operation product).1) li

  -- what is dealt of a product
  gate_deal : (t p i : ℕ) → t < length x.gates → is_direct x t ≡ true → Known t → dl s p (At_gate t) i ≡ deal_of w s p (At_gate t) i
  gate_deal t p i l direct known =
      let product = (and_parts (not x.prepared) _ direct).1 in
      h.product_deals t p i l direct ∙ ap (λ z. dealt (scheme w.plan) z (tape_word w s (At_gate t) p) i) (own_alike w.plan p _ _ _ _ (first_known t l product known) (second_known t l product known))

  deals_alike : (z : Slot) (f : ℕ → ℕ) (i : ℕ) → ((p : ℕ) → dl s p z i ≡ dealt (scheme w.plan) (f p) (tape_word w s z p) i)
      → dealt_sum w.plan (dl s) z i ≡ total w.plan.parties (λ p. if has_pair (scheme w.plan) p then dealt (scheme w.plan) (f p) (tape_word w s z p) i else 0) % (scheme w.plan).modulus
  deals_alike z f i e = ap (λ n. n % (scheme w.plan).modulus) (total_eq w.plan.parties _ _ (λ p lp. ap (λ n. if has_pair (scheme w.plan) p then n else 0) (e p)))

  abbrev ProductIs : ℕ → ℕ → Type 0
  ProductIs t i = sh s (gate x t).output i ≡ product_of w s t (summands (run_of w s) t (gate x t).first) (summands (run_of w s) t (gate x t).second) i

  prepared_is : (t i : ℕ) → t < length x.gates → x.prepared ≡ true → is_product (gate x t).operation ≡ true → Known t → ProductIs t i
  prepared_is t i l yes' product known =
      let r = run_of w s in
      let a = mask w s t First in
      let b = mask w s t Second in
      let q = (scheme w.plan).modulus in
      let prepared : is_prepared x t ≡ true = and_from x.prepared _ yes' product in
      h.prepared t i l prepared
      ∙ joined_same q i
      (excess_alike (sh s (gate x t).first) (summands r t (gate x t).first) a (first_known t l product known))
      (excess_alike (sh s (gate x t).second) (summands r t (gate x t).second) b (second_known t l product known))
      refl refl (deals_alike (Mask_product t) (λ p. own_product (scheme w.plan) p a b) i (λ p. h.mask_deals t p i l prepared))
      ∙ sym (ap (λ (f : ℕ → ℕ). f i) (cond-true x.prepared _ _ yes'))
    where
      excess_alike : (a a' b : ℕ → ℕ) → ((i : ℕ) → i < length w.plan.groups → a i ≡ a' i) → sum_of (scheme w.plan) (masked (scheme w.plan) a b) ≡ sum_of (scheme w.plan) (masked (scheme w.plan) a' b)
      excess_alike a a' b e = ap (λ n. n % (scheme w.plan).modulus) (total_eq (length w.plan.groups) _ _ (λ i li. ap (λ n. difference (scheme w.plan).modulus n (b i)) (e i li)))

  direct_is : (t i : ℕ) → t < length x.gates → x.prepared ≡ false → is_product (gate x t).operation ≡ true → Known t → ProductIs t i
  direct_is t i l no' product known =
      let direct : is_direct x t ≡ true = and_from _ _ (not_from_false x.prepared no') product in
      h.products t i l direct
      ∙ deals_alike (At_gate t) (own_value (run_of w s) t) i (λ p. gate_deal t p i l direct known)
      ∙ sym (ap (λ (f : ℕ → ℕ). f i) (cond-false x.prepared _ _ no'))

  gate_is : (t i : ℕ) → t < length x.gates → Known t → i < length w.plan.groups
      → sh s (gate x t).output i ≡ gate_summands (run_of w s) t (summands (run_of w s) t (gate x t).first) (summands (run_of w s) t (gate x t).second) i
  gate_is t i l known li =
      let g = gate x t in
      elim (cases_Bool (is_product g.operation)) [
        | inl product ↦ elim (cases_Bool x.prepared) [
          | inl yes' ↦ prepared_is t i l yes' product known ∙ sym (cond-true (is_product g.operation) _ _ product)
          | inr no' ↦ direct_is t i l no' product known ∙ sym (cond-true (is_product g.operation) _ _ product)
        ]
        | inr linear ↦ h.linear t i l linear
            ∙ local_reads (scheme w.plan).modulus g.operation g.constant i _ _ _ _ linear (λ e. known g.first i (c.first t l e) li) (λ e. known g.second i (c.second t l e) li)
            ∙ sym (cond-false (is_product g.operation) _ _ linear)
      ]

  source_is : (v i : ℕ) (from : Source) → v < length (owners x) → source x v ≡ from → i < length w.plan.groups → sh s v i ≡ source_summands w (summands_before w s) s v from i
  source_is v i (Given p) lv from li = h.given v p i lv from ∙ h.input_deals v p i lv from
  source_is v i (Earlier r k at) lv from li =
      let less = carries s v r k at from in
      h.carried v r k at i from ∙ before r (carried_wire w.plan r k at) i less li
      ∙ ap (λ (f : ℕ → ℕ → ℕ). f (carried_wire w.plan r k at) i) (sym (ended_summands w s r less))

  solved : (t : ℕ) → t ≤ length x.gates → Known t
  solved zero le v i (inl l) li = source_is v i (source x v) l refl li ∙ sym (cond-true (nat_lt v (length (owners x))) _ 0 (lt-ltb v (length (owners x)) l))
  solved zero le v i (inr u) li = absurd (omega (arith, u.1))
  solved (suc t) le v i set li =
      let g = gate x t in
      let r = run_of w s in
      let known : Known t = solved t (omega arith) in
      elim (set_now x t v set) [
        | inl e ↦ subst (λ z. sh s z i ≡ summands r (suc t) z i) e (gate_is t i (omega arith) known li ∙ sym (ap (λ f. f i) (cond-true (nat_eq g.output g.output) _ (summands r t g.output) (eq-eqb g.output g.output refl))))
        | inr b ↦
            let apart : v ≢ g.output = λ e. c.output t (omega arith) (subst (SetBefore x t) e b) in
            known v i b li ∙ sym (ap (λ f. f i) (cond-false (nat_eq v g.output) _ (summands r t v) (ne_eqb v g.output apart)))
      ]

  wires_are : (v i : ℕ) → i < length w.plan.groups → sh s v i ≡ end_summands w s v i
  wires_are v i li = elim (decide_set x (length x.gates) v) [
    | inl yes' ↦ solved (length x.gates) (omega arith) v i yes' li
    | inr no' ↦ h.unset v i no' ∙ sym (unset_zero w s (length x.gates) v i no')
  ]

  deals_are : (p : ℕ) (z : Slot) (i : ℕ) → Inside x z → deals_in w.plan s p z ≡ true → dl s p z i ≡ deal_of w s p z i
  deals_are p (Input v) i lv gives = h.input_deals v p i lv (giver_is p (source x v) gives)
  deals_are p (At_gate t) i lt deals = gate_deal t p i lt (and_parts (is_direct x t) _ deals).0 (solved t (omega arith))
  deals_are p (Mask_product t) i inside deals = h.mask_deals t p i inside.0 inside.1
  deals_are p (Output o) i lo none = absurd (both_ways false refl none)
  deals_are p (Mask t side) i inside none = absurd (both_ways false refl none)
  deals_are p (Masked t side) i inside none = absurd (both_ways false refl none)
  deals_are p (Kept j) i lj none = absurd (both_ways false refl none)

  are_summands : AreSummands w s sh dl
  are_summands = record { wires = wires_are; deals = deals_are }

-- session by session
module _ (w : World) (order : IsOrdered w.plan) (sh : ℕ → ℕ → ℕ → ℕ) (dl : ℕ → ℕ → Slot → ℕ → ℕ) (solve : AllSolve w sh dl) where
  earlier_are : (n : ℕ) → n ≤ length w.plan.sessions → EarlierSolved w sh n
  earlier_are zero le r v i lr li = absurd (omega (arith, lr))
  earlier_are (suc n) le r v i lr li = elim (cases_eq r n) [
    | inl e ↦ subst (λ z. sh z v i ≡ end_summands w z v i) (sym e) (wires_are w n (order.gates n (omega (arith, le))) order.carried sh dl (solve n (omega (arith, le))) (earlier_are n (omega (arith, le))) v i li)
    | inr ne ↦ earlier_are n (omega (arith, le)) r v i (omega (arith, lr, ne)) li
  ]

pub only_solution : (w : World) → OnlySolution w
only_solution w order sh dl solve s ls =
    are_summands w s (order.gates s ls) order.carried sh dl (solve s ls) (earlier_are w order sh dl solve s (omega (arith, ls)))

-- ---- the summands at the end solve the equations

-- a wire that is set keeps its summands
at_end : (w : World) (s : ℕ) → GatesInOrder (session w.plan s) → (t v : ℕ) → t ≤ length (session w.plan s).gates → SetBefore (session w.plan s) t v → end_summands w s v ≡ summands (run_of w s) t v
at_end w s c t v le b =
    settled (session w.plan s) c (summands (run_of w s)) (λ t v apart. cond-false (nat_eq v (gate (session w.plan s) t).output) _ (summands (run_of w s) t v) (ne_eqb v (gate (session w.plan s) t).output apart)) t v le b

solution : (w : World) (s : ℕ) → GatesInOrder (session w.plan s) → CarriesEarlier w.plan → SummandsSolve w s (end_summands w) (deal_of w)
solution w s c carries = record {
  input_deals = λ v p i l from. refl;
  product_deals = λ t p i l e. ap (λ z. dealt (scheme w.plan) z (tape_word w s (At_gate t) p) i)
      (let ends = ends_as t l (and_parts (not (session w.plan s).prepared) _ e).1 in ap₂ (own_product (scheme w.plan) p) ends.0 ends.1);
  mask_deals = λ t p i l e. refl;
  given = λ v p i l from. start v i (Given p) l from;
  carried = λ v r k at i from.
      start v i (Earlier r k at) (carried_within (session w.plan s) v r k at from) from
      ∙ ap (λ (f : ℕ → ℕ → ℕ). f (carried_wire w.plan r k at) i) (ended_summands w s r (carries s v r k at from));
  linear = λ t i l e.
      let g = gate (session w.plan s) t in
      output t i l ∙ cond-false (is_product g.operation) _ _ e
      ∙ local_reads (scheme w.plan).modulus g.operation g.constant i _ _ _ _ e
      (λ r. sym (ap (λ f. f i) (at_end w s c t g.first (omega arith) (c.first t l r)))) (λ r. sym (ap (λ f. f i) (at_end w s c t g.second (omega arith) (c.second t l r))));
  products = λ t i l e.
      let both = and_parts (not (session w.plan s).prepared) _ e in
      output t i l ∙ cond-true (is_product (gate (session w.plan s) t).operation) _ _ both.1
      ∙ ap (λ (f : ℕ → ℕ). f i) (cond-false (session w.plan s).prepared _ _ (not-true (session w.plan s).prepared both.0));
  prepared = λ t i l e.
      let both = and_parts (session w.plan s).prepared _ e in
      let ends = ends_as t l both.1 in
      output t i l ∙ cond-true (is_product (gate (session w.plan s) t).operation) _ _ both.1
      ∙ ap (λ (f : ℕ → ℕ). f i) (cond-true (session w.plan s).prepared _ _ both.0)
      ∙ ap₂ (λ a b. prepared_summand (scheme w.plan) (mask w s t First) (mask w s t Second) (mask_product w s t) a b i) ends.0 ends.1;
  unset = λ v i no'. unset_zero w s (length (session w.plan s).gates) v i no';
}
  where
    start : (v i : ℕ) (from : Source) → v < length (owners (session w.plan s)) → source (session w.plan s) v ≡ from → end_summands w s v i ≡ source_summands w (summands_before w s) s v from i
    start v i from l is =
        let many = length (owners (session w.plan s)) in
        ap (λ f. f i) (at_end w s c 0 v (omega arith) (inl l)) ∙ cond-true (nat_lt v many) _ 0 (lt-ltb v many l)
        ∙ ap (λ (z : Source). source_summands w (summands_before w s) s v z i) is

    output : (t i : ℕ) → t < length (session w.plan s).gates → end_summands w s (gate (session w.plan s) t).output i
        ≡ gate_summands (run_of w s) t (summands (run_of w s) t (gate (session w.plan s) t).first) (summands (run_of w s) t (gate (session w.plan s) t).second) i
    output t i l =
        let g = gate (session w.plan s) t in
        ap (λ f. f i) (at_end w s c (suc t) g.output (omega arith) (inr (t, omega arith, refl)))
        ∙ ap (λ f. f i) (cond-true (nat_eq g.output g.output) _ (summands (run_of w s) t g.output) (eq-eqb g.output g.output refl))

    -- the wires that a product reads stay to the end
    ends_as : (t : ℕ) → t < length (session w.plan s).gates → is_product (gate (session w.plan s) t).operation ≡ true
        → (summands (run_of w s) t (gate (session w.plan s) t).first ≡ end_summands w s (gate (session w.plan s) t).first)
        × (summands (run_of w s) t (gate (session w.plan s) t).second ≡ end_summands w s (gate (session w.plan s) t).second)
    ends_as t l e =
        let g = gate (session w.plan s) t in
        let reads = product_reads g.operation e in
        (sym (at_end w s c t g.first (omega arith) (c.first t l reads.0)), sym (at_end w s c t g.second (omega arith) (c.second t l reads.1)))

pub is_solution : (w : World) → IsSolution w
is_solution w order s ls = solution w s (order.gates s ls) order.carried

-- ---- values of carried wires

pub carried_are_plain : (w : World) → CarriedArePlain w
carried_are_plain w order s v r k at from =
    let x : Session = session w.plan s in
    let many = length (owners x) in
    let within : v < many = carried_within x v r k at from in
    settled x (order.gates s (carrier_there w.plan s v r k at from)) (value_before w s) (λ t u apart. cond-false (nat_eq u (gate x t).output) _ (value_before w s t u) (ne_eqb u (gate x t).output apart)) 0 v (omega arith) (inl within)
    ∙ cond-true (nat_lt v many) _ 0 (lt-ltb v many within)
    ∙ ap (λ (z : Source). source_value w (values_before w s) s v z) from
    ∙ ap (λ (f : ℕ → ℕ). f (carried_wire w.plan r k at)) (ended_values w s r (order.carried s v r k at from))
