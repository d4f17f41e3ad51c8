-- What a party computes by itself from right words is right.
use Rattle.std.proofs.Common.{◌≡◌, ◌≢◌, ℕ, zero, suc, ◌+◌, ◌*◌, ◌%◌, ◌^◌, ◌<◌, ◌≤◌, true, false, nat_eq, nat_lt, if◌then◌else◌, length, sym, ap, ap₂, ◌∙◌, subst, arith, refl}
use Rattle.std.proofs.lemmas.Bool.{cases_eq, cases_lt, cases_Bool, cond-true, cond-false, and_from, not_from_false, eq-eqb, ne_eqb, lt-ltb, le-ltb}
use mathlib.Core.Logic.{inl, inr}
use Rattle.mpc_ring.specs.Differences.{difference}
use Rattle.mpc_ring.proofs.Remainders.{same_refl}
use Rattle.list_laws.proofs.Totals.{total_eq}
use Rattle.circuit_model.specs.Circuits.{is_product}
use Rattle.secret_sharing.specs.Schemes.{dealt, own_product, own_value, summands}
use Rattle.secret_sharing.specs.Prepared.{masked, sum_of, joined_summand}
use Rattle.secret_sharing.proofs.Agreement.{own_same, gate_agrees, gates_agree, product_agrees}
use Rattle.session_slots.specs.declared.side.Side.{Side}
use Rattle.session_slots.specs.declared.side.Side.TheVariants.{First, Second}
use Rattle.session_slots.specs.declared.source.Source.{Source}
use Rattle.session_slots.specs.declared.source.Source.TheVariants.{Given, Earlier}
use Rattle.session_slots.specs.Sessions.{Session, Slot, owners, source, gate, operand}
use Rattle.session_slots.specs.Sessions.Slot.{Input, At_gate, Mask, Mask_product, Masked, Kept}
use Rattle.session_slots.specs.Carries.{kept_place}
use Rattle.session_slots.specs.SoundSessions.{Inside}
use Rattle.session_slots.specs.SlotNumbers.{first_of_gate}
use Rattle.session_slots.proofs.SessionSlots.{slot_there, product_within}
use Rattle.plan_model.specs.declared.key.Key.{Key}
use Rattle.plan_model.specs.Plans.{Plan, scheme, session, is_holder, holder_of, slot_number, IsPlan, CarriesEarlier}
use Rattle.plan_model.proofs.PlanSchemes.{duty_is}
use Rattle.share_world.specs.Worlds.{World, run_of, end_summands, summands_before, source_summands, carried_wire, word, word_in, input_of, tape_word, mask, mask_product, product_of}
use Rattle.share_world.specs.Locals.{key_at, kept_key, local_deal, local_source, local_mask, local_opened, local_excess, local_mask_product, local_product, local_run, ReadsBefore}
use Rattle.share_world.specs.Laws.{HeldAreDealt}
use Rattle.share_world.proofs.CarriedWires.{ended_summands, kept_there}
use Rattle.share_world.proofs.SlotOrder.{mask_first, mask_product_first, input_first, masked_behind, masked_first, gate_first}
use Rattle.share_world.proofs.GoingMessages.{Goes}

-- a party's own product is of summands that it holds
pub holder_own : (plan : Plan) → IsPlan plan → (p : ℕ) (x y x' y' : ℕ → ℕ) → ((i : ℕ) → i < length plan.groups → is_holder plan p i ≡ true → x i ≡ x' i) → ((i : ℕ) → i < length plan.groups → is_holder plan p i ≡ true → y i ≡ y' i) → own_product (scheme plan) p x y ≡ own_product (scheme plan) p x' y'
holder_own plan h p x y x' y' ex ey = own_same (scheme plan) p x y x' y' (λ i j li lj e.
    let d = duty_is plan h.q2 i j li lj in
    same_refl _ _ _ (ap₂ (λ a b. a * b) (ex i li (subst (λ z. is_holder plan z i ≡ true) e d.1)) (ey j lj (subst (λ z. is_holder plan z j ≡ true) e d.2))))

-- and of the same summands it is the same
pub own_alike : (plan : Plan) (p : ℕ) (x y x' y' : ℕ → ℕ) → ((i : ℕ) → i < length plan.groups → x i ≡ x' i) → ((i : ℕ) → i < length plan.groups → y i ≡ y' i) → own_product (scheme plan) p x y ≡ own_product (scheme plan) p x' y'
own_alike plan p x y x' y' ex ey = own_same (scheme plan) p x y x' y' (λ i j li lj e. same_refl _ _ _ (ap₂ (λ a b. a * b) (ex i li) (ey j lj)))

-- so is a joined summand, of the same numbers
pub joined_same : (q i : ℕ) {d d' e e' a a' b b' c c' : ℕ} → d ≡ d' → e ≡ e' → a ≡ a' → b ≡ b' → c ≡ c' → joined_summand q d e (λ j. a) (λ j. b) (λ j. c) i ≡ joined_summand q d' e' (λ j. a') (λ j. b') (λ j. c') i
joined_same q i ed ee ea eb ec =
    ap₂ (λ y z. (y + z) % q) (ap₂ (λ y z. y + z) (ap₂ (λ y z. y + z) ec (ap₂ (λ y z. y * z) ed eb)) (ap₂ (λ y z. y * z) ee ea)) (ap₂ (λ y z. if nat_eq i 0 then y * z else 0) ed ee)

-- all that p gets in session s before slot k, and all that it kept for this session, is as the equations have it
pub record GotRight (w : World) (got : Key → ℕ) (p s k : ℕ) : Type 0 where
  pub slots : (z : Slot) (i q : ℕ) → Inside (session w.plan s) z → slot_number w.plan s z < k → i < length w.plan.groups → Goes w.plan s z i q p
      → got (key_at w.plan s z i q p) ≡ word w (key_at w.plan s z i q p)
  pub kept : (v r c at i : ℕ) → source (session w.plan s) v ≡ Earlier r c at → i < length w.plan.groups → is_holder w.plan p i ≡ true
      → got (kept_key w.plan r s v i p) ≡ word w (kept_key w.plan r s v i p)

-- the word of a message of a slot
pub word_at : (w : World) (s : ℕ) (z : Slot) (i q p : ℕ) → Inside (session w.plan s) z → word w (key_at w.plan s z i q p) ≡ word_in w (key_at w.plan s z i q p) z
word_at w s z i q p inside = ap (word_in w (key_at w.plan s z i q p)) (slot_there (session w.plan s) z inside)

module _ (w : World) (h : IsPlan w.plan) (got : Key → ℕ) (p s : ℕ) where
  abbrev x : Session
  x = session w.plan s

  -- before gate t the summands that p holds are those of the equations
  abbrev pub RunRight : ℕ → Type 0
  RunRight t = (v i : ℕ) → i < length w.plan.groups → is_holder w.plan p i ≡ true → summands (local_run w got p s) t v i ≡ summands (run_of w s) t v i

  got_in : (k : ℕ) (z : Slot) (i q : ℕ) → GotRight w got p s k → Inside x z → slot_number w.plan s z < k → i < length w.plan.groups → Goes w.plan s z i q p
      → got (key_at w.plan s z i q p) ≡ word_in w (key_at w.plan s z i q p) z
  got_in k z i q right inside less li goes = right.slots z i q inside less li goes ∙ word_at w s z i q p inside

  -- a deal of q, where p has the same to deal
  deal_right : (z : Slot) (q v v' i : ℕ) → (q ≡ p → v ≡ v') → (p ≢ q → got (key_at w.plan s z i q p) ≡ dealt (scheme w.plan) v' (tape_word w s z q) i) → local_deal w got p s z q v i ≡ dealt (scheme w.plan) v' (tape_word w s z q) i
  deal_right z q v v' i same is = elim (cases_eq q p) [
    | inl e ↦ cond-true (nat_eq q p) _ _ (eq-eqb q p e) ∙ ap₂ (λ a r. dealt (scheme w.plan) a (tape_word w s z r) i) (same e) (sym e)
    | inr ne ↦ cond-false (nat_eq q p) _ _ (ne_eqb q p ne) ∙ is (λ e. ne (sym e))
  ]

  source_right : (k v i : ℕ) (from : Source) → source x v ≡ from → v < length (owners x) → first_of_gate x 0 ≤ k → GotRight w got p s k → i < length w.plan.groups → is_holder w.plan p i ≡ true
      → local_source w got p s v from i ≡ source_summands w (summands_before w s) s v from i
  source_right k v i (Given q) from lv le right li has =
      deal_right (Input v) q _ (input_of w s v) i (λ e. refl) (λ ne. got_in k (Input v) i q right lv (omega (arith, input_first x v 0 lv, le)) li (from, (ne, has)))
  source_right k v i (Earlier r c at) from lv le right li has =
      let there = kept_there w.plan h.kept s v r c at from in
      right.kept v r c at i from li has
      ∙ word_at w r (Kept (kept_place w.plan.sessions s v)) i p p there.0
      ∙ ap (λ u. end_summands w r u i) there.1
      ∙ ap (λ (f : ℕ → ℕ → ℕ). f (carried_wire w.plan r c at) i) (sym (ended_summands w s r (h.earlier s v r c at from)))

  start_right : (k : ℕ) → first_of_gate x 0 ≤ k → GotRight w got p s k → RunRight 0
  start_right k le right v i li has =
      let many = length (owners x) in
      elim (cases_lt v many) [
        | inl lv ↦ cond-true (nat_lt v many) _ 0 (lt-ltb v many lv)
            ∙ source_right k v i (source x v) refl lv le right li has
            ∙ sym (cond-true (nat_lt v many) _ 0 (lt-ltb v many lv))
        | inr past ↦ cond-false (nat_lt v many) _ 0 (le-ltb v many past) ∙ sym (cond-false (nat_lt v many) _ 0 (le-ltb v many past))
      ]

  -- ---- prepared products

  pub own_mask : (t : ℕ) (side : Side) (i : ℕ) → holder_of w.plan i ≡ p → local_mask w got p s t side i ≡ mask w s t side i
  own_mask t side i e = cond-true (nat_eq (holder_of w.plan i) p) _ _ (eq-eqb (holder_of w.plan i) p e)

  pub mask_right : (k t : ℕ) (side : Side) (i : ℕ) → GotRight w got p s k → Inside x (Mask t side) → slot_number w.plan s (Mask t side) < k → i < length w.plan.groups → is_holder w.plan p i ≡ true → local_mask w got p s t side i ≡ mask w s t side i
  mask_right k t side i right inside less li has = elim (cases_eq (holder_of w.plan i) p) [
    | inl e ↦ own_mask t side i e
    | inr ne ↦ cond-false (nat_eq (holder_of w.plan i) p) _ _ (ne_eqb (holder_of w.plan i) p ne)
        ∙ got_in k (Mask t side) i (holder_of w.plan i) right inside less li (refl, ((λ e. ne (sym e)), has))
  ]

  -- what p deals of the masks' product
  pub own_masks_right : (k t : ℕ) → GotRight w got p s k → Inside x (Mask_product t) → slot_number w.plan s (Mask_product t) ≤ k
      → own_product (scheme w.plan) p (local_mask w got p s t First) (local_mask w got p s t Second) ≡ own_product (scheme w.plan) p (mask w s t First) (mask w s t Second)
  own_masks_right k t right inside le =
      holder_own w.plan h p _ _ _ _ (λ i li has. mask_right k t First i right inside (omega (arith, mask_first x t First inside, le)) li has)
      (λ i li has. mask_right k t Second i right inside (omega (arith, mask_first x t Second inside, le)) li has)

  mask_product_right : (k t i : ℕ) → GotRight w got p s k → Inside x (Mask_product t) → slot_number w.plan s (Mask_product t) < k → i < length w.plan.groups → is_holder w.plan p i ≡ true → local_mask_product w got p s t i ≡ mask_product w s t i
  mask_product_right k t i right inside less li has =
      let z = Mask_product t in
      let own = own_masks_right k t right inside (omega (arith, less)) in
      product_agrees (scheme w.plan) (λ q v. dealt (scheme w.plan) v (tape_word w s z q)) (local_deal w got p s z) _ _ _ _ i (λ q lq pair.
      deal_right z q _ (own_product (scheme w.plan) q (mask w s t First) (mask w s t Second)) i
      (λ e. subst (λ r. own_product (scheme w.plan) r (local_mask w got p s t First) (local_mask w got p s t Second) ≡ own_product (scheme w.plan) r (mask w s t First) (mask w s t Second)) (sym e) own)
      (λ ne. got_in k z i q right inside less li (lq, pair, (ne, has))))

  -- an opening, where p has the summands that it holds, and got the others
  pub opened_right : (z : Slot) (held all : ℕ → ℕ) → ((i : ℕ) → i < length w.plan.groups → is_holder w.plan p i ≡ true → held i ≡ all i)
      → ((i : ℕ) → i < length w.plan.groups → is_holder w.plan p i ≡ false → got (key_at w.plan s z i (holder_of w.plan i) p) ≡ all i) → local_opened w got p s z held ≡ sum_of (scheme w.plan) all
  opened_right z held all here there = ap (λ n. n % 2 ^ w.plan.bits) (total_eq (length w.plan.groups) _ all (λ i li. elim (cases_Bool (is_holder w.plan p i)) [
    | inl yes' ↦ cond-true (is_holder w.plan p i) _ _ yes' ∙ here i li yes'
    | inr no' ↦ cond-false (is_holder w.plan p i) _ _ no' ∙ there i li no'
  ]))

  -- summands of a masked wire
  pub masked_right : (k t : ℕ) (side : Side) (i : ℕ) → GotRight w got p s k → RunRight t → Inside x (Masked t side) → first_of_gate x t ≤ k → i < length w.plan.groups → is_holder w.plan p i ≡ true
      → masked (scheme w.plan) (summands (local_run w got p s) t (operand (gate x t) side)) (local_mask w got p s t side) i ≡ masked (scheme w.plan) (summands (run_of w s) t (operand (gate x t) side)) (mask w s t side) i
  masked_right k t side i right run inside le li has =
      ap₂ (λ a b. difference (2 ^ w.plan.bits) a b) (run (operand (gate x t) side) i li has)
      (mask_right k t side i right inside (omega (arith, mask_first x t side inside, mask_product_first x t t inside, le)) li has)

  pub excess_right : (k t : ℕ) (side : Side) → GotRight w got p s k → RunRight t → Inside x (Masked t side) → slot_number w.plan s (Masked t side) < k
      → local_excess w got p s t side (summands (local_run w got p s) t (operand (gate x t) side)) ≡ sum_of (scheme w.plan) (masked (scheme w.plan) (summands (run_of w s) t (operand (gate x t) side)) (mask w s t side))
  excess_right k t side right run inside less =
      opened_right (Masked t side) _ _
      (λ i li has. masked_right k t side i right run inside (omega (arith, masked_behind x t side, less)) li has)
      (λ i li lacks. got_in k (Masked t side) i (holder_of w.plan i) right inside less li (refl, lacks))

  -- ---- gates

  pub own_right : (t : ℕ) → RunRight t → own_value (local_run w got p s) t p ≡ own_value (run_of w s) t p
  own_right t run = holder_own w.plan h p _ _ _ _ (λ i li has. run (gate x t).first i li has) (λ i li has. run (gate x t).second i li has)

  -- what gate t makes of the wires that it reads
  abbrev ProductRight : ℕ → ℕ → Type 0
  ProductRight t i =
      local_product w got p s t (summands (local_run w got p s) t (gate x t).first) (summands (local_run w got p s) t (gate x t).second) i
      ≡ product_of w s t (summands (run_of w s) t (gate x t).first) (summands (run_of w s) t (gate x t).second) i

  prepared_right : (k t i : ℕ) → x.prepared ≡ true → GotRight w got p s k → RunRight t → Inside x (Mask_product t) → first_of_gate x (suc t) ≤ k → i < length w.plan.groups → is_holder w.plan p i ≡ true → ProductRight t i
  prepared_right k t i yes' right run inside le li has =
      let here = gate_first x t (suc t) (omega arith) in
      let before = mask_product_first x t (suc t) inside in
      ap (λ (f : ℕ → ℕ). f i) (cond-true x.prepared _ _ yes')
      ∙ joined_same (2 ^ w.plan.bits) i
      (excess_right k t First right run inside (omega (arith, masked_first x t First inside.1, here, le)))
      (excess_right k t Second right run inside (omega (arith, masked_first x t Second inside.1, here, le)))
      (mask_right k t First i right inside (omega (arith, mask_first x t First inside, before, le)) li has)
      (mask_right k t Second i right inside (omega (arith, mask_first x t Second inside, before, le)) li has)
      (mask_product_right k t i right inside (omega (arith, before, le)) li has)
      ∙ sym (ap (λ (f : ℕ → ℕ). f i) (cond-true x.prepared _ _ yes'))

  direct_right : (k t i : ℕ) → x.prepared ≡ false → is_product (gate x t).operation ≡ true → GotRight w got p s k → RunRight t → first_of_gate x (suc t) ≤ k → i < length w.plan.groups → is_holder w.plan p i ≡ true → ProductRight t i
  direct_right k t i no' product right run le li has =
      let z = At_gate t in
      let lt = product_within x t product in
      ap (λ (f : ℕ → ℕ). f i) (cond-false x.prepared _ _ no')
      ∙ product_agrees (scheme w.plan) (λ q v. dealt (scheme w.plan) v (tape_word w s z q)) (local_deal w got p s z) _ _ _ _ i (λ q lq pair.
      deal_right z q _ (own_value (run_of w s) t q) i
      (λ e. subst (λ r. own_value (local_run w got p s) t r ≡ own_value (run_of w s) t r) (sym e) (own_right t run))
      (λ ne. got_in k z i q right lt (omega (arith, gate_first x t (suc t) (omega arith), le)) li
      (lq, and_from _ _ (and_from _ _ (not_from_false _ no') product) pair, (ne, has))))
      ∙ sym (ap (λ (f : ℕ → ℕ). f i) (cond-false x.prepared _ _ no'))

  product_right : (k t i : ℕ) → is_product (gate x t).operation ≡ true → GotRight w got p s k → RunRight t → first_of_gate x (suc t) ≤ k → i < length w.plan.groups → is_holder w.plan p i ≡ true → ProductRight t i
  product_right k t i product right run le li has = elim (cases_Bool x.prepared) [
    | inl yes' ↦ prepared_right k t i yes' right run (product_within x t product, and_from x.prepared _ yes' product) le li has
    | inr no' ↦ direct_right k t i no' product right run le li has
  ]

  -- the wires before gate t are right where the slots before it are
  pub run_right : (k t : ℕ) → first_of_gate x t ≤ k → GotRight w got p s k → RunRight t
  run_right k zero le right = start_right k le right
  run_right k (suc t) le right =
      let run : RunRight t = run_right k t (omega (arith, gate_first x t (suc t) (omega arith), le)) right in
      λ v i li has.
      gate_agrees (run_of w s) (local_run w got p s).start (local_run w got p s).product (λ i. is_holder w.plan p i ≡ true) t run
      (λ product i li has. product_right k t i product right run le li has) v i li has

-- the words of the equations are right
pub all_right : (w : World) (p s k : ℕ) → GotRight w (word w) p s k
all_right w p s k = record { slots = λ z i q inside less li goes. refl; kept = λ v r c at i from li has. refl }

pub held_are_dealt : (w : World) → IsPlan w.plan → HeldAreDealt w
held_are_dealt w h p s t v i li has = run_right w h (word w) p s (first_of_gate (session w.plan s) t) t (omega arith) (all_right w p s (first_of_gate (session w.plan s) t)) v i li has

-- ---- what a run reads

module _ (w : World) (carries : CarriesEarlier w.plan) (p s n : ℕ) (got later : Key → ℕ) (le : n ≤ length (session w.plan s).gates)
    (past : (key : Key) → key.session < s → got key ≡ later key)
    (same : (key : Key) → key.session ≡ s → key.slot < first_of_gate (session w.plan s) n → got key ≡ later key) where
  abbrev y : Session
  y = session w.plan s

  -- the same value is dealt, or the same word was got
  deal_same : (z : Slot) (q v v' i : ℕ) → v ≡ v' → slot_number w.plan s z < first_of_gate y n → local_deal w got p s z q v i ≡ local_deal w later p s z q v' i
  deal_same z q v v' i e less = ap₂ (λ a b. if nat_eq q p then dealt (scheme w.plan) a (tape_word w s z p) i else b) e (same (key_at w.plan s z i q p) refl less)

  source_same : (v i : ℕ) (from : Source) → source y v ≡ from → v < length (owners y) → local_source w got p s v from i ≡ local_source w later p s v from i
  source_same v i (Given q) from lv = deal_same (Input v) q _ _ i refl (input_first y v n lv)
  source_same v i (Earlier r c at) from lv = past (kept_key w.plan r s v i p) (carries s v r c at from)

  start_same : (v i : ℕ) → (local_run w got p s).start v i ≡ (local_run w later p s).start v i
  start_same v i =
      let many = length (owners y) in
      elim (cases_lt v many) [
        | inl l ↦ ap (λ a. if nat_lt v many then a else 0) (source_same v i (source y v) refl l)
        | inr over ↦ cond-false (nat_lt v many) _ 0 (le-ltb v many over) ∙ sym (cond-false (nat_lt v many) _ 0 (le-ltb v many over))
      ]

  mask_same : (t : ℕ) (side : Side) (i : ℕ) → Inside y (Mask t side) → local_mask w got p s t side i ≡ local_mask w later p s t side i
  mask_same t side i inside =
      ap (λ z. if nat_eq (holder_of w.plan i) p then mask w s t side i else z)
      (same (key_at w.plan s (Mask t side) i (holder_of w.plan i) p) refl (omega (arith, mask_first y t side inside, mask_product_first y t n inside)))

  mask_product_same : (t i : ℕ) → Inside y (Mask_product t) → local_mask_product w got p s t i ≡ local_mask_product w later p s t i
  mask_product_same t i inside =
      product_agrees (scheme w.plan) (local_deal w later p s (Mask_product t)) (local_deal w got p s (Mask_product t)) _ _ _ _ i
      (λ q lq pair. deal_same (Mask_product t) q _ _ i (own_alike w.plan q _ _ _ _ (λ i li. mask_same t First i inside) (λ i li. mask_same t Second i inside)) (mask_product_first y t n inside))

  excess_same : (t : ℕ) (side : Side) (a a' : ℕ → ℕ) → t < n → Inside y (Masked t side) → ((i : ℕ) → i < length w.plan.groups → a i ≡ a' i) → local_excess w got p s t side a ≡ local_excess w later p s t side a'
  excess_same t side a a' l inside alike =
      ap (λ z. z % 2 ^ w.plan.bits) (total_eq (length w.plan.groups) _ _ (λ i li.
      ap₂ (λ a b. if is_holder w.plan p i then a else b) (ap₂ (λ a b. difference (2 ^ w.plan.bits) a b) (alike i li) (mask_same t side i inside))
      (same (key_at w.plan s (Masked t side) i (holder_of w.plan i) p) refl (omega (arith, masked_first y t side inside.1, gate_first y t n l)))))

  product_same : (t i : ℕ) (a b a' b' : ℕ → ℕ) → t < n → is_product (gate y t).operation ≡ true → ((i : ℕ) → i < length w.plan.groups → a i ≡ a' i) → ((i : ℕ) → i < length w.plan.groups → b i ≡ b' i)
      → local_product w got p s t a b i ≡ local_product w later p s t a' b' i
  product_same t i a b a' b' l product ea eb = elim (cases_Bool y.prepared) [
    | inl yes' ↦
        let inside : Inside y (Mask_product t) = (omega (arith, l, le), and_from y.prepared _ yes' product) in
        ap (λ (f : ℕ → ℕ). f i) (cond-true y.prepared _ _ yes')
        ∙ joined_same (2 ^ w.plan.bits) i (excess_same t First a a' l inside ea) (excess_same t Second b b' l inside eb) (mask_same t First i inside) (mask_same t Second i inside) (mask_product_same t i inside)
        ∙ sym (ap (λ (f : ℕ → ℕ). f i) (cond-true y.prepared _ _ yes'))
    | inr no' ↦
        ap (λ (f : ℕ → ℕ). f i) (cond-false y.prepared _ _ no')
        ∙ product_agrees (scheme w.plan) (local_deal w later p s (At_gate t)) (local_deal w got p s (At_gate t)) a' b' a b i
        (λ q lq pair. deal_same (At_gate t) q _ _ i (own_alike w.plan q a b a' b' ea eb) (gate_first y t n l))
        ∙ sym (ap (λ (f : ℕ → ℕ). f i) (cond-false y.prepared _ _ no'))
  ]

  run_same : (v i : ℕ) → i < length w.plan.groups → summands (local_run w got p s) n v i ≡ summands (local_run w later p s) n v i
  run_same v i li =
      gates_agree (local_run w later p s) (local_run w got p s).start (local_run w got p s).product (λ i. Unit {0}) (λ v i li u. start_same v i) n
      (λ t l ih product i li u. product_same t i _ _ _ _ l product (λ i li. ih (gate y t).first i li tt) (λ i li. ih (gate y t).second i li tt))
      v i li tt

pub reads_before : (w : World) → CarriesEarlier w.plan → ReadsBefore w
reads_before w carries p s n got later le past same v i li = run_same w carries p s n got later le past same v i li
