-- What an instruction sets in the state of a party, and on what that hangs.
use Rattle.std.proofs.Common.{◌≡◌, ◌≢◌, ◌⊎◌, ℕ, ◌+◌, ◌*◌, ◌%◌, ◌<◌, ◌^◌, true, ◌||◌, nat_eq, if◌then◌else◌, [], ◌∷◌, length, refl, sym, ap, ap₂, ◌∙◌, subst}
use Rattle.std.specs.Prelude.{Some}
use Rattle.std.specs.List.{list_any}
use Rattle.std.proofs.lemmas.Bool.{cases_eq, cases_Bool, cond-true, cond-false, eq-eqb, ne_eqb}
use mathlib.Core.Logic.{inl, inr}
use Rattle.list_laws.proofs.Totals.{total_eq}
use Rattle.list_laws.proofs.Tests.{or_true}
use Rattle.mpc_ring.specs.Differences.{difference}
use Rattle.circuit_model.specs.Circuits.{set_at}
use Rattle.circuit_model.specs.Netlists.{read_by}
use Rattle.circuit_model.proofs.SetAt.{set_here, set_there}
use Rattle.circuit_model.specs.declared.gate.Gate.{Gate}
use Rattle.secret_sharing.specs.Schemes.{Scheme, IsScheme, dealt, has_pair, own_product}
use Rattle.secret_sharing.specs.Prepared.{joined_summand}
use Rattle.session_slots.specs.Sessions.{Session, Slot, gate, is_prepared, operand, output_wire, mask_wire, product_wire, product_in}
use Rattle.session_slots.specs.Sessions.Slot.{Input, At_gate, Output, Mask, Mask_product, Masked, Kept}
use Rattle.session_slots.specs.KeptWires.{is_read, reads_in, sets_in}
use Rattle.session_slots.specs.declared.side.Side.{Side}
use Rattle.session_slots.specs.declared.side.Side.TheVariants.{First, Second}
use Rattle.plan_model.specs.Plans.{IsPlan, Plan, is_holder, least_held, holder_of, scheme, session, slot}
use Rattle.plan_model.proofs.PlanSchemes.{scheme_is}
use Rattle.program_model.specs.declared.instruction.Instruction.{Instruction}
use Rattle.program_model.specs.declared.instruction.Instruction.TheVariants.{Draw, Deal, Post, Take, Linear, Own, Sum, Open, Join, Deliver, End}
use Rattle.program_model.specs.Proper.{IsMask, IsOutput, Proper}
use Rattle.program_model.specs.States.{State, after, dealt_in, drawn_in, excess_of, joined_in, opened, opened_in, output_in_slot, set_side, taking_slot, took_in}
use Rattle.program_laws.specs.WordsRead.{gate_at, Deals, Reads, ReadsSummand, SetsSummand, TakesInto}
use Rattle.program_laws.proofs.GateReads.{local_same}
use Rattle.program_laws.proofs.SetWords.{Finishes}
use Rattle.share_world.proofs.Settled.{is_first, is_one, is_second}
use Rattle.party_desk.specs.Desks.{wires_set}
use Rattle.row_steps.specs.Rows.{SameRow}

-- ---- sums of what a party holds

-- an own product hangs on the summands that the party holds
own_of_held : (s : Scheme) → IsScheme s → (p : ℕ) (x y a b : ℕ → ℕ) → ((i : ℕ) → i < s.shares → s.holds p i ≡ true → x i ≡ a i) → ((i : ℕ) → i < s.shares → s.holds p i ≡ true → y i ≡ b i) → own_product s p x y ≡ own_product s p a b
own_of_held s h p x y a b f g =
    ap (λ z. z % s.modulus) (total_eq s.shares _ _ (λ i li. total_eq s.shares _ _ (λ j lj. pair i j li lj)))
  where
    pair : (i j : ℕ) → i < s.shares → j < s.shares → (if nat_eq (s.duty i j) p then x i * y j else 0) ≡ (if nat_eq (s.duty i j) p then a i * b j else 0)
    pair i j li lj = elim (cases_eq (s.duty i j) p) [
      | inl e ↦ ap₂ (λ u v. if nat_eq (s.duty i j) p then u * v else 0) (f i li (subst (λ z. s.holds z i ≡ true) e (h.first i j li lj))) (g j lj (subst (λ z. s.holds z j ≡ true) e (h.second i j li lj)))
      | inr ne ↦ cond-false (nat_eq (s.duty i j) p) _ 0 (ne_eqb (s.duty i j) p ne) ∙ sym (cond-false (nat_eq (s.duty i j) p) _ 0 (ne_eqb (s.duty i j) p ne))
    ]

-- an opened value hangs on the summands that the party holds, and on those that it got
opened_of_held : (plan : Plan) (p : ℕ) (x y a b : ℕ → ℕ) → ((i : ℕ) → i < length plan.groups → is_holder plan p i ≡ true → x i ≡ a i) → SameRow (length plan.groups) y b → opened plan p x y ≡ opened plan p a b
opened_of_held plan p x y a b f g = ap (λ z. z % 2 ^ plan.bits) (total_eq (length plan.groups) _ _ (λ i li. part i li))
  where
    part : (i : ℕ) → i < length plan.groups → (if is_holder plan p i then x i else y i) ≡ (if is_holder plan p i then a i else b i)
    part i li = elim (cases_Bool (is_holder plan p i)) [
      | inl yes' ↦ cond-true (is_holder plan p i) _ _ yes' ∙ f i li yes' ∙ sym (cond-true (is_holder plan p i) _ _ yes')
      | inr no' ↦ cond-false (is_holder plan p i) _ _ no' ∙ g i li ∙ sym (cond-false (is_holder plan p i) _ _ no')
    ]

-- the word that was taken is the one that is got
abbrev pub IsWordOf : (ℕ → ℕ) → ℕ → Instruction → Type 0
IsWordOf got w (Take n i) = w ≡ got n
IsWordOf got w _ = Unit {0}

-- ---- three wires

one_of_three : (a b c : ℕ) → list_any (nat_eq a) (a ∷ b ∷ c ∷ []) ≡ true
one_of_three a b c = ap (λ z. z || list_any (nat_eq a) (b ∷ c ∷ [])) (eq-eqb a a refl)

two_of_three : (a b c : ℕ) → list_any (nat_eq b) (a ∷ b ∷ c ∷ []) ≡ true
two_of_three a b c = ap (λ z. nat_eq b a || z) (is_first b c) ∙ or_true (nat_eq b a)

three_of_three : (a b c : ℕ) → list_any (nat_eq c) (a ∷ b ∷ c ∷ []) ≡ true
three_of_three a b c = ap (λ z. nat_eq c a || z) (is_second b c) ∙ or_true (nat_eq c a)

-- ---- one wire of a table set, in two tables

set_both : (f g : ℕ → ℕ → ℕ) (u v i : ℕ) (a b : ℕ → ℕ) → v ≡ u → a i ≡ b i → set_at f u a v i ≡ set_at g u b v i
set_both f g u v i a b e same = ap (λ z. z i) (set_here f u v a e) ∙ same ∙ sym (ap (λ z. z i) (set_here g u v b e))

off : (f : ℕ → ℕ → ℕ) (u v i : ℕ) (a : ℕ → ℕ) → v ≢ u → set_at f u a v i ≡ f v i
off f u v i a ne = ap (λ z. z i) (set_there f u v a ne)

sides_same : (f g : Side → ℕ) (at' : Side) (v w : ℕ) → ((side : Side) → f side ≡ g side) → v ≡ w → (side : Side) → set_side f at' v side ≡ set_side g at' w side
sides_same f g First v w same e First = e
sides_same f g First v w same e Second = same Second
sides_same f g Second v w same e First = same First
sides_same f g Second v w same e Second = e

module _ (plan : Plan) (s p : ℕ) where
  abbrev x : Session
  x = session plan s

  abbrev m : ℕ
  m = length plan.groups

  -- ---- what an instruction sets

  -- after it the summand is as before, whatever the state was
  abbrev pub Stays : (State → State) → ℕ → ℕ → Type 0
  Stays does v i = (σ : State) → (does σ).rows v i ≡ σ.rows v i

  taken_wire : (z : Slot) (v : ℕ) → TakesInto x z v → sets_in x z ≡ v ∷ []
  taken_wire (Input u) v e = ap (λ w. w ∷ []) (sym e)
  taken_wire (Mask t side) v e = ap (λ w. w ∷ []) (sym e)
  taken_wire (At_gate t) v e = absurd e
  taken_wire (Output o) v e = absurd e
  taken_wire (Mask_product t) v e = absurd e
  taken_wire (Masked t side) v e = absurd e
  taken_wire (Kept place) v e = absurd e

  dealt_wire : (z : Slot) (v : ℕ) → Deals x z v → sets_in x z ≡ v ∷ []
  dealt_wire (Input u) v e = ap (λ w. w ∷ []) (sym e)
  dealt_wire (At_gate t) v e = ap (λ w. w ∷ []) (sym e)
  dealt_wire (Mask_product t) v e = ap (λ w. w ∷ []) (sym e)
  dealt_wire (Output o) v e = absurd e
  dealt_wire (Mask t side) v e = absurd e
  dealt_wire (Masked t side) v e = absurd e
  dealt_wire (Kept place) v e = absurd e

  -- a wire that an instruction sets is the one that it sets
  pub set_wire : (e : Instruction) (v i : ℕ) → SetsSummand plan p s e v i → wires_set plan s e ≡ v ∷ []
  set_wire (Draw k) v i h = taken_wire (slot plan s k) v h.0
  set_wire (Deal k d) v i h = dealt_wire (slot plan s k) v h
  set_wire (Take n j) v i h = taken_wire (taking_slot plan n) v h.0
  set_wire (Linear k) v i h = ap (λ w. w ∷ []) (sym h)
  set_wire (Sum k) v i h = ap (λ w. w ∷ []) (sym h)
  set_wire (Join k) v i h = ap (λ w. w ∷ []) (sym h)
  set_wire (Post n j) v i h = absurd h
  set_wire (Own k) v i h = absurd h
  set_wire (Open k) v i h = absurd h
  set_wire (Deliver k) v i h = absurd h
  set_wire End v i h = absurd h

  one_or_stays : (u v i : ℕ) (does : State → State) → ((σ : State) → v ≢ u → (does σ).rows v i ≡ σ.rows v i) → (v ≡ u) ⊎ Stays does v i
  one_or_stays u v i does off' = elim (cases_eq v u) [ inl e ↦ inl e | inr ne ↦ inr (λ σ. off' σ ne) ]

  module _ (words : ℕ → ℕ) (input : ℕ) where
    drawn_or_stays : (z : Slot) (v i : ℕ) → (TakesInto x z v × (holder_of plan i ≡ p)) ⊎ Stays (drawn_in plan p s words z) v i
    drawn_or_stays (Mask t side) v i =
        let u : ℕ = mask_wire x t side in
        let new : State → ℕ → ℕ = λ σ i. if nat_eq (holder_of plan i) p then words (least_held plan p i) else σ.rows u i in
        elim (cases_eq v u) [
          | inl e ↦ elim (cases_eq (holder_of plan i) p) [
            | inl own ↦ inl (e, own)
            | inr other ↦ inr (λ σ. ap (λ z. z i) (set_here σ.rows u v (new σ) e) ∙ cond-false (nat_eq (holder_of plan i) p) _ _ (ne_eqb (holder_of plan i) p other) ∙ ap (λ z. σ.rows z i) (sym e))
          ]
          | inr ne ↦ inr (λ σ. off σ.rows u v i (new σ) ne)
        ]
    drawn_or_stays (Input u) v i = inr (λ σ. refl)
    drawn_or_stays (At_gate t) v i = inr (λ σ. refl)
    drawn_or_stays (Output o) v i = inr (λ σ. refl)
    drawn_or_stays (Mask_product t) v i = inr (λ σ. refl)
    drawn_or_stays (Masked t side) v i = inr (λ σ. refl)
    drawn_or_stays (Kept place) v i = inr (λ σ. refl)

    dealt_or_stays : (z : Slot) (v i : ℕ) → Deals x z v ⊎ Stays (dealt_in plan s words input z) v i
    dealt_or_stays (Input u) v i = one_or_stays u v i (dealt_in plan s words input (Input u)) (λ σ ne. off σ.rows u v i _ ne)
    dealt_or_stays (At_gate t) v i = one_or_stays (gate x t).output v i (dealt_in plan s words input (At_gate t)) (λ σ ne. off σ.rows (gate x t).output v i _ ne)
    dealt_or_stays (Mask_product t) v i = one_or_stays (product_wire x t) v i (dealt_in plan s words input (Mask_product t)) (λ σ ne. off σ.rows (product_wire x t) v i _ ne)
    dealt_or_stays (Output o) v i = inr (λ σ. refl)
    dealt_or_stays (Mask t side) v i = inr (λ σ. refl)
    dealt_or_stays (Masked t side) v i = inr (λ σ. refl)
    dealt_or_stays (Kept place) v i = inr (λ σ. refl)

    put_or_stays : (u j w v i : ℕ) (does : State → State) → ((σ : State) → (does σ).rows ≡ set_at σ.rows u (set_at (σ.rows u) j w)) → ((v ≡ u) × (i ≡ j)) ⊎ Stays does v i
    put_or_stays u j w v i does is = elim (cases_eq v u) [
      | inl e ↦ elim (cases_eq i j) [
        | inl here ↦ inl (e, here)
        | inr ne ↦ inr (λ σ. ap (λ f. f v i) (is σ) ∙ ap (λ f. f i) (set_here σ.rows u v (set_at (σ.rows u) j w) e) ∙ set_there (σ.rows u) j i w ne ∙ ap (λ z. σ.rows z i) (sym e))
      ]
      | inr ne ↦ inr (λ σ. ap (λ f. f v i) (is σ) ∙ off σ.rows u v i _ ne)
    ]

    taken_or_stays : (z : Slot) (j w v i : ℕ) → (TakesInto x z v × (i ≡ j)) ⊎ Stays (took_in plan s z j w) v i
    taken_or_stays (Input u) j w v i = put_or_stays u j w v i (took_in plan s (Input u) j w) (λ σ. refl)
    taken_or_stays (Mask t side) j w v i = put_or_stays (mask_wire x t side) j w v i (took_in plan s (Mask t side) j w) (λ σ. refl)
    taken_or_stays (At_gate t) j w v i = inr (λ σ. refl)
    taken_or_stays (Output o) j w v i = inr (λ σ. refl)
    taken_or_stays (Mask_product t) j w v i = inr (λ σ. refl)
    taken_or_stays (Masked t side) j w v i = inr (λ σ. refl)
    taken_or_stays (Kept place) j w v i = inr (λ σ. refl)

    opened_stays : (z : Slot) (v i : ℕ) → Stays (opened_in plan p s z) v i
    opened_stays (Masked t side) v i σ = refl
    opened_stays (Input u) v i σ = refl
    opened_stays (At_gate t) v i σ = refl
    opened_stays (Output o) v i σ = refl
    opened_stays (Mask t side) v i σ = refl
    opened_stays (Mask_product t) v i σ = refl
    opened_stays (Kept place) v i σ = refl

    joined_or_stays : (k : ℕ) (z : Slot) → slot plan s k ≡ z → (v i : ℕ) → (v ≡ (gate_at plan s k).output) ⊎ Stays (joined_in plan s z) v i
    joined_or_stays k (At_gate t) e v i =
        one_or_stays (gate_at plan s k).output v i (joined_in plan s (At_gate t))
        (λ σ ne. off σ.rows (gate x t).output v i _ (λ same. ne (same ∙ ap (λ z. (product_in x z).output) (sym e))))
    joined_or_stays k (Input u) e v i = inr (λ σ. refl)
    joined_or_stays k (Output o) e v i = inr (λ σ. refl)
    joined_or_stays k (Mask t side) e v i = inr (λ σ. refl)
    joined_or_stays k (Mask_product t) e v i = inr (λ σ. refl)
    joined_or_stays k (Masked t side) e v i = inr (λ σ. refl)
    joined_or_stays k (Kept place) e v i = inr (λ σ. refl)

    -- an instruction sets a summand, or leaves it as it is
    pub set_or_stays : (got : ℕ → ℕ) (e : Instruction) (v i : ℕ) → SetsSummand plan p s e v i ⊎ Stays (after plan p s words input got e) v i
    set_or_stays got (Draw k) v i = drawn_or_stays (slot plan s k) v i
    set_or_stays got (Deal k d) v i = dealt_or_stays (slot plan s k) v i
    set_or_stays got (Take n j) v i = taken_or_stays (taking_slot plan n) j (got n) v i
    set_or_stays got (Linear k) v i = one_or_stays (gate_at plan s k).output v i (after plan p s words input got (Linear k)) (λ σ ne. off σ.rows (gate_at plan s k).output v i _ ne)
    set_or_stays got (Sum k) v i = one_or_stays (gate_at plan s k).output v i (after plan p s words input got (Sum k)) (λ σ ne. off σ.rows (gate_at plan s k).output v i _ ne)
    set_or_stays got (Join k) v i = joined_or_stays k (slot plan s k) refl v i
    set_or_stays got (Open k) v i = inr (opened_stays (slot plan s k) v i)
    set_or_stays got (Post n j) v i = inr (λ σ. refl)
    set_or_stays got (Own k) v i = inr (λ σ. refl)
    set_or_stays got (Deliver k) v i = inr (λ σ. refl)
    set_or_stays got End v i = inr (λ σ. refl)

-- ---- on what it hangs

module _ (plan : Plan) (s p : ℕ) where
  abbrev x' : Session
  x' = session plan s

  abbrev m' : ℕ
  m' = length plan.groups

  -- the same but for the summands
  pub record SameParts (ρ σ : State) : Type 0 where
    pub own : ρ.own ≡ σ.own
    pub sums : SameRow m' ρ.sums σ.sums
    pub excess : (side : Side) → ρ.excess side ≡ σ.excess side
    pub given : ρ.given ≡ σ.given
    pub outputs : (o : ℕ) → ρ.outputs o ≡ σ.outputs o

  -- the slot of the instruction reads what its gate does
  abbrev pub ReadsByGate : Instruction → Type 0
  ReadsByGate (Linear k) = (v : ℕ) → list_any (nat_eq v) (read_by (gate_at plan s k)) ≡ true → Reads plan s k v
  ReadsByGate (Own k) = Reads plan s k (gate_at plan s k).first × Reads plan s k (gate_at plan s k).second
  ReadsByGate (Join k) = (t : ℕ) × (slot plan s k ≡ At_gate t) × (is_prepared x' t ≡ true)
  ReadsByGate _ = Unit {0}

  -- two states, which are the same but for the summands
  module _ (later : ℕ → ℕ → Type 0) (ρ σ : State) (parts : SameParts ρ σ) where
    -- they are the same in what the instruction reads
    abbrev pub KnownAt : Instruction → Type 0
    KnownAt e = (v i : ℕ) → i < m' → ReadsSummand plan p s e v i → ρ.rows v i ≡ σ.rows v i

    -- what is read later of a wire that the instruction completes is held, and some slot reads the wire
    abbrev pub HeldLater : Instruction → Type 0
    HeldLater e = Finishes e → (v i : ℕ) → SetsSummand plan p s e v i → later v i → (is_holder plan p i ≡ true) × (is_read x' v ≡ true)

    -- after it they are the same in what it sets and is read later
    pub record SameAfter (e : Instruction) (ρ' σ' : State) : Type 0 where
      pub rows : (v i : ℕ) → i < m' → SetsSummand plan p s e v i → later v i → ρ'.rows v i ≡ σ'.rows v i
      pub same_parts : SameParts ρ' σ'

    with_sums : (f g : ℕ → ℕ) → SameRow m' f g → SameParts (record ρ { sums = f }) (record σ { sums = g })
    with_sums f g same = record { own = parts.own; sums = same; excess = parts.excess; given = parts.given; outputs = parts.outputs }

    module _ (words : ℕ → ℕ) (input : ℕ) (got : ℕ → ℕ) where
      draw_same : (k : ℕ) (z : Slot) → slot plan s k ≡ z → IsMask z → SameAfter (Draw k) (drawn_in plan p s words z ρ) (drawn_in plan p s words z σ)
      draw_same k (Mask t side) is mask = record {
        rows = λ v i li sets l.
            let u : ℕ = mask_wire x' t side in
            let own : holder_of plan i ≡ p = sets.1 in
            let word : ℕ = words (least_held plan p i) in
            set_both ρ.rows σ.rows u v i _ _ (subst (λ y. TakesInto x' y v) is sets.0)
            (cond-true (nat_eq (holder_of plan i) p) word _ (eq-eqb (holder_of plan i) p own) ∙ sym (cond-true (nat_eq (holder_of plan i) p) word _ (eq-eqb (holder_of plan i) p own)));
        same_parts = record { own = parts.own; sums = parts.sums; excess = parts.excess; given = parts.given; outputs = parts.outputs };
      }
      draw_same k (Input u) is mask = absurd mask
      draw_same k (At_gate t) is mask = absurd mask
      draw_same k (Output o) is mask = absurd mask
      draw_same k (Mask_product t) is mask = absurd mask
      draw_same k (Masked t side) is mask = absurd mask
      draw_same k (Kept place) is mask = absurd mask

      deal_same : (k d : ℕ) (z : Slot) → slot plan s k ≡ z → SameAfter (Deal k d) (dealt_in plan s words input z ρ) (dealt_in plan s words input z σ)
      deal_same k d (Input u) is = record {
        rows = λ v i li sets l. set_both ρ.rows σ.rows u v i _ _ (subst (λ y. Deals x' y v) is sets) refl;
        same_parts = record { own = parts.own; sums = parts.sums; excess = parts.excess; given = ap (λ z. z + 1) parts.given; outputs = parts.outputs };
      }
      deal_same k d (At_gate t) is = record {
        rows = λ v i li sets l. set_both ρ.rows σ.rows (gate x' t).output v i _ _ (subst (λ y. Deals x' y v) is sets) (ap (λ z. dealt (scheme plan) z words i) parts.own);
        same_parts = record { own = parts.own; sums = parts.sums; excess = parts.excess; given = parts.given; outputs = parts.outputs };
      }
      deal_same k d (Mask_product t) is = record {
        rows = λ v i li sets l. set_both ρ.rows σ.rows (product_wire x' t) v i _ _ (subst (λ y. Deals x' y v) is sets) (ap (λ z. dealt (scheme plan) z words i) parts.own);
        same_parts = record { own = parts.own; sums = parts.sums; excess = parts.excess; given = parts.given; outputs = parts.outputs };
      }
      deal_same k d (Output o) is = record { rows = λ v i li sets l. absurd (subst (λ y. Deals x' y v) is sets); same_parts = parts }
      deal_same k d (Mask t side) is = record { rows = λ v i li sets l. absurd (subst (λ y. Deals x' y v) is sets); same_parts = parts }
      deal_same k d (Masked t side) is = record { rows = λ v i li sets l. absurd (subst (λ y. Deals x' y v) is sets); same_parts = parts }
      deal_same k d (Kept place) is = record { rows = λ v i li sets l. absurd (subst (λ y. Deals x' y v) is sets); same_parts = parts }

      put_same : (u j w v i : ℕ) → v ≡ u → i ≡ j → set_at ρ.rows u (set_at (ρ.rows u) j w) v i ≡ set_at σ.rows u (set_at (σ.rows u) j w) v i
      put_same u j w v i e here = set_both ρ.rows σ.rows u v i _ _ e (set_here (ρ.rows u) j i w here ∙ sym (set_here (σ.rows u) j i w here))

      sums_put : (j w : ℕ) → SameRow m' (set_at ρ.sums j ((ρ.sums j + w) % 2 ^ plan.bits)) (set_at σ.sums j ((σ.sums j + w) % 2 ^ plan.bits))
      sums_put j w i li = elim (cases_eq i j) [
        | inl e ↦ set_here ρ.sums j i _ e ∙ ap (λ z. (z + w) % 2 ^ plan.bits) (subst (λ z. ρ.sums z ≡ σ.sums z) e (parts.sums i li)) ∙ sym (set_here σ.sums j i _ e)
        | inr ne ↦ set_there ρ.sums j i _ ne ∙ parts.sums i li ∙ sym (set_there σ.sums j i _ ne)
      ]

      take_same : (n j w : ℕ) (z : Slot) → taking_slot plan n ≡ z → SameAfter (Take n j) (took_in plan s z j w ρ) (took_in plan s z j w σ)
      take_same n j w (Input u) is = record {
        rows = λ v i li sets l. put_same u j w v i (subst (λ y. TakesInto x' y v) is sets.0) sets.1;
        same_parts = record { own = parts.own; sums = parts.sums; excess = parts.excess; given = parts.given; outputs = parts.outputs };
      }
      take_same n j w (Mask t side) is = record {
        rows = λ v i li sets l. put_same (mask_wire x' t side) j w v i (subst (λ y. TakesInto x' y v) is sets.0) sets.1;
        same_parts = record { own = parts.own; sums = parts.sums; excess = parts.excess; given = parts.given; outputs = parts.outputs };
      }
      take_same n j w (At_gate t) is = record { rows = λ v i li sets l. absurd (subst (λ y. TakesInto x' y v) is sets.0); same_parts = with_sums _ _ (sums_put j w) }
      take_same n j w (Output o) is = record { rows = λ v i li sets l. absurd (subst (λ y. TakesInto x' y v) is sets.0); same_parts = with_sums _ _ (sums_put j w) }
      take_same n j w (Mask_product t) is = record { rows = λ v i li sets l. absurd (subst (λ y. TakesInto x' y v) is sets.0); same_parts = with_sums _ _ (sums_put j w) }
      take_same n j w (Masked t side) is = record { rows = λ v i li sets l. absurd (subst (λ y. TakesInto x' y v) is sets.0); same_parts = with_sums _ _ (sums_put j w) }
      take_same n j w (Kept place) is = record { rows = λ v i li sets l. absurd (subst (λ y. TakesInto x' y v) is sets.0); same_parts = with_sums _ _ (sums_put j w) }

      linear_same : (k : ℕ) → ReadsByGate (Linear k) → KnownAt (Linear k) → HeldLater (Linear k) → SameAfter (Linear k) (after plan p s words input got (Linear k) ρ) (after plan p s words input got (Linear k) σ)
      linear_same k reads known held =
          let g : Gate = gate_at plan s k in
          record {
            rows = λ v i li sets l.
                let has : is_holder plan p i ≡ true = (held tt v i sets l).0 in
                set_both ρ.rows σ.rows g.output v i _ _ sets
                (local_same (2 ^ plan.bits) g i (ρ.rows g.first i) (ρ.rows g.second i) (σ.rows g.first i) (σ.rows g.second i)
                (λ a. known g.first i li (reads g.first a, has)) (λ a. known g.second i li (reads g.second a, has)));
            same_parts = record { own = parts.own; sums = parts.sums; excess = parts.excess; given = parts.given; outputs = parts.outputs };
          }

      sum_same : (k : ℕ) → KnownAt (Sum k) → HeldLater (Sum k) → SameAfter (Sum k) (after plan p s words input got (Sum k) ρ) (after plan p s words input got (Sum k) σ)
      sum_same k known held =
          let g : Gate = gate_at plan s k in
          record {
            rows = λ v i li sets l.
                let read = held tt v i sets l in
                let begun : (if has_pair (scheme plan) p then ρ.rows g.output i else 0) ≡ (if has_pair (scheme plan) p then σ.rows g.output i else 0) = elim (cases_Bool (has_pair (scheme plan) p)) [
                  | inl yes' ↦
                      cond-true (has_pair (scheme plan) p) _ _ yes' ∙ known g.output i li (refl, yes', subst (λ z. is_read x' z ≡ true) sets read.1, read.0)
                      ∙ sym (cond-true (has_pair (scheme plan) p) _ _ yes')
                  | inr no' ↦ cond-false (has_pair (scheme plan) p) _ _ no' ∙ sym (cond-false (has_pair (scheme plan) p) _ _ no')
                ] in
                set_both ρ.rows σ.rows g.output v i _ _ sets (ap₂ (λ a b. (a + b) % 2 ^ plan.bits) begun (parts.sums i li));
            same_parts = record { own = parts.own; sums = λ i li. refl; excess = parts.excess; given = parts.given; outputs = parts.outputs };
          }

      own_same : IsPlan plan → (k : ℕ) → ReadsByGate (Own k) → KnownAt (Own k) → SameAfter (Own k) (after plan p s words input got (Own k) ρ) (after plan p s words input got (Own k) σ)
      own_same is_plan k reads known =
          let g : Gate = gate_at plan s k in
          record {
            rows = λ v i li sets l. absurd sets;
            same_parts = record {
              own = own_of_held (scheme plan) (scheme_is plan is_plan) p (ρ.rows g.first) (ρ.rows g.second) (σ.rows g.first) (σ.rows g.second)
                  (λ i li has. known g.first i li (reads.0, has)) (λ i li has. known g.second i li (reads.1, has));
              sums = parts.sums;
              excess = parts.excess;
              given = parts.given;
              outputs = parts.outputs;
            };
          }

      open_same : (k : ℕ) (z : Slot) → slot plan s k ≡ z → KnownAt (Open k) → SameAfter (Open k) (opened_in plan p s z ρ) (opened_in plan p s z σ)
      open_same k (Masked t side) is known =
          let a : ℕ = operand (gate x' t) side in
          let b : ℕ = mask_wire x' t side in
          let reads : (v : ℕ) → list_any (nat_eq v) (a ∷ b ∷ []) ≡ true → Reads plan s k v = λ v h. ap (λ z. list_any (nat_eq v) (reads_in x' z)) is ∙ h in
          let opened_same : opened plan p (excess_of plan s t side ρ) ρ.sums ≡ opened plan p (excess_of plan s t side σ) σ.sums =
          opened_of_held plan p _ _ _ _
          (λ i li has. ap₂ (difference (2 ^ plan.bits)) (known a i li (reads a (is_first a b), has)) (known b i li (reads b (is_second a b), has))) parts.sums in
          record {
            rows = λ v i li sets l. absurd sets;
            same_parts = record {
              own = parts.own;
              sums = λ i li. refl;
              excess = sides_same ρ.excess σ.excess side _ _ parts.excess opened_same;
              given = parts.given;
              outputs = parts.outputs;
            };
          }
      open_same k (Input u) is known = record { rows = λ v i li sets l. absurd sets; same_parts = parts }
      open_same k (At_gate t) is known = record { rows = λ v i li sets l. absurd sets; same_parts = parts }
      open_same k (Output o) is known = record { rows = λ v i li sets l. absurd sets; same_parts = parts }
      open_same k (Mask t side) is known = record { rows = λ v i li sets l. absurd sets; same_parts = parts }
      open_same k (Mask_product t) is known = record { rows = λ v i li sets l. absurd sets; same_parts = parts }
      open_same k (Kept place) is known = record { rows = λ v i li sets l. absurd sets; same_parts = parts }

      -- the summands of a prepared product
      joined_same : (t i : ℕ) → ρ.rows (mask_wire x' t First) i ≡ σ.rows (mask_wire x' t First) i → ρ.rows (mask_wire x' t Second) i ≡ σ.rows (mask_wire x' t Second) i → ρ.rows (product_wire x' t) i ≡ σ.rows (product_wire x' t) i
          → joined_summand (2 ^ plan.bits) (ρ.excess First) (ρ.excess Second) (ρ.rows (mask_wire x' t First)) (ρ.rows (mask_wire x' t Second)) (ρ.rows (product_wire x' t)) i
          ≡ joined_summand (2 ^ plan.bits) (σ.excess First) (σ.excess Second) (σ.rows (mask_wire x' t First)) (σ.rows (mask_wire x' t Second)) (σ.rows (product_wire x' t)) i
      joined_same t i a b c j =
          let d : ρ.excess First ≡ σ.excess First = parts.excess First in
          let e : ρ.excess Second ≡ σ.excess Second = parts.excess Second in
          (c j + d j * b j + e j * a j + (if nat_eq i 0 then d j * e j else 0)) % 2 ^ plan.bits

      join_same : (k : ℕ) → ReadsByGate (Join k) → KnownAt (Join k) → HeldLater (Join k) → SameAfter (Join k) (after plan p s words input got (Join k) ρ) (after plan p s words input got (Join k) σ)
      join_same k (t, is, prepared) known held =
          let a : ℕ = mask_wire x' t First in
          let b : ℕ = mask_wire x' t Second in
          let c : ℕ = product_wire x' t in
          let reads : (v : ℕ) → list_any (nat_eq v) (a ∷ b ∷ c ∷ []) ≡ true → Reads plan s k v =
          λ v h. ap (λ z. list_any (nat_eq v) (reads_in x' z)) is ∙ ap (list_any (nat_eq v)) (cond-true (is_prepared x' t) (a ∷ b ∷ c ∷ []) _ prepared) ∙ h in
          subst (λ z. SameAfter (Join k) (joined_in plan s z ρ) (joined_in plan s z σ)) (sym is)
          (record {
            rows = λ v i li sets l.
                let has : is_holder plan p i ≡ true = (held tt v i sets l).0 in
                let out : v ≡ (gate x' t).output = sets ∙ ap (λ z. (product_in x' z).output) is in
                set_both ρ.rows σ.rows (gate x' t).output v i _ _ out
                (joined_same t i (known a i li (reads a (one_of_three a b c), has)) (known b i li (reads b (two_of_three a b c), has)) (known c i li (reads c (three_of_three a b c), has)));
            same_parts = record { own = parts.own; sums = parts.sums; excess = parts.excess; given = parts.given; outputs = parts.outputs };
          })

      deliver_same : (k : ℕ) (z : Slot) → slot plan s k ≡ z → IsOutput z → KnownAt (Deliver k) → SameAfter (Deliver k) (after plan p s words input got (Deliver k) ρ) (after plan p s words input got (Deliver k) σ)
      deliver_same k (Output o') is output known =
          let o : ℕ = output_in_slot (slot plan s k) in
          let v : ℕ = output_wire x' o in
          let here : v ≡ output_wire x' o' = ap (λ z. output_wire x' (output_in_slot z)) is in
          let reads : Reads plan s k v = ap (λ z. list_any (nat_eq v) (reads_in x' z)) is ∙ is_one (output_wire x' o') v here in
          let opened_same : opened plan p (ρ.rows v) ρ.sums ≡ opened plan p (σ.rows v) σ.sums = opened_of_held plan p _ _ _ _ (λ i li has. known v i li (reads, has)) parts.sums in
          record {
            rows = λ v i li sets l. absurd sets;
            same_parts = record {
              own = parts.own;
              sums = λ i li. refl;
              excess = parts.excess;
              given = parts.given;
              outputs = λ u. elim (cases_eq u o) [
                | inl e ↦ set_here ρ.outputs o u _ e ∙ ap Some opened_same ∙ sym (set_here σ.outputs o u _ e)
                | inr ne ↦ set_there ρ.outputs o u _ ne ∙ parts.outputs u ∙ sym (set_there σ.outputs o u _ ne)
              ];
            };
          }
      deliver_same k (Input u) is output known = absurd output
      deliver_same k (At_gate t) is output known = absurd output
      deliver_same k (Mask t side) is output known = absurd output
      deliver_same k (Mask_product t) is output known = absurd output
      deliver_same k (Masked t side) is output known = absurd output
      deliver_same k (Kept place) is output known = absurd output

      -- after an instruction they are the same in what it sets and is read later
      pub after_same : IsPlan plan → (e : Instruction) → Proper plan s e → ReadsByGate e → KnownAt e → HeldLater e → SameAfter e (after plan p s words input got e ρ) (after plan p s words input got e σ)
      after_same is_plan (Draw k) proper reads known held = draw_same k (slot plan s k) refl proper.kind
      after_same is_plan (Deal k d) proper reads known held = deal_same k d (slot plan s k) refl
      after_same is_plan (Post n j) proper reads known held = record { rows = λ v i li sets l. absurd sets; same_parts = parts }
      after_same is_plan (Take n j) proper reads known held = take_same n j (got n) (taking_slot plan n) refl
      after_same is_plan (Linear k) proper reads known held = linear_same k reads known held
      after_same is_plan (Own k) proper reads known held = own_same is_plan k reads known
      after_same is_plan (Sum k) proper reads known held = sum_same k known held
      after_same is_plan (Open k) proper reads known held = open_same k (slot plan s k) refl known
      after_same is_plan (Join k) proper reads known held = join_same k reads known held
      after_same is_plan (Deliver k) proper reads known held = deliver_same k (slot plan s k) refl proper.kind known
      after_same is_plan End proper reads known held = record { rows = λ v i li sets l. absurd sets; same_parts = parts }

-- where a take gives the word that is got
pub after_word : (plan : Plan) (p s : ℕ) (words : ℕ → ℕ) (input w : ℕ) (got : ℕ → ℕ) (e : Instruction) (σ : State) → IsWordOf got w e → after plan p s words input (λ n. w) e σ ≡ after plan p s words input got e σ
after_word plan p s words input w got (Take n j) σ is = ap (λ z. took_in plan s (taking_slot plan n) j z σ) is
after_word plan p s words input w got (Draw k) σ is = refl
after_word plan p s words input w got (Deal k d) σ is = refl
after_word plan p s words input w got (Post n j) σ is = refl
after_word plan p s words input w got (Linear k) σ is = refl
after_word plan p s words input w got (Own k) σ is = refl
after_word plan p s words input w got (Sum k) σ is = refl
after_word plan p s words input w got (Open k) σ is = refl
after_word plan p s words input w got (Join k) σ is = refl
after_word plan p s words input w got (Deliver k) σ is = refl
after_word plan p s words input w got End σ is = refl
