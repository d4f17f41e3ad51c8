-- In the second world all summands but the hidden one stay, and so does what is opened of the wires of prepared products.
use Rattle.std.proofs.Common.{◌≡◌, ℕ, zero, suc, ◌+◌, ◌-◌, ◌*◌, ◌%◌, ◌^◌, ◌<◌, ◌≤◌, ◌≢◌, ◌⊎◌, true, false, not, nat_eq, nat_lt, if◌then◌else◌, List, length, refl, sym, ap, ap₂, ◌∙◌, subst, arith}
use Rattle.std.proofs.lemmas.Bool.{cases_eq, cases_Bool, cond-true, cond-false, and_from, both_ways, eq-eqb, ne_eqb, ltb-true}
use Rattle.std.proofs.lemmas.Nat.{pow_pos}
use mathlib.Core.Logic.{inl, inr}
use Rattle.list_laws.specs.Lists.{total}
use Rattle.list_laws.proofs.Totals.{total_eq, total_one}
use Rattle.mpc_ring.specs.Differences.{difference}
use Rattle.mpc_ring.proofs.Remainders.{Same, same_refl, same_add, same_sym, same_trans, same_mul, same_mod, same_cancel}
use Rattle.circuit_model.specs.Circuits.{is_product}
use Rattle.secret_sharing.specs.Schemes.{IsScheme, AddUp, dealt, own_value, has_pair, summands}
use Rattle.secret_sharing.specs.Prepared.{sum_of, joined_summand}
use Rattle.secret_sharing.proofs.SummandSums.{sum_is_plain, adds_same, dealt_eq}
use Rattle.secret_sharing.proofs.Agreement.{own_same, runs_agree, product_agrees}
use Rattle.party_set.specs.Parties.{has_party}
use Rattle.session_slots.specs.declared.side.Side.{Side}
use Rattle.session_slots.specs.declared.side.Side.TheVariants.{First, Second}
use Rattle.session_slots.specs.declared.source.Source.{Source}
use Rattle.session_slots.specs.declared.source.Source.TheVariants.{Given, Earlier}
use Rattle.session_slots.specs.Sessions.{Slot, given_by, owners, source, gate, operand, is_direct}
use Rattle.session_slots.specs.Sessions.Slot.{Input, At_gate, Output, Mask, Mask_product, Masked, Kept}
use Rattle.session_slots.specs.SoundSessions.{Inside}
use Rattle.session_slots.proofs.SessionSlots.{slots_are_numbered, product_within}
use Rattle.plan_model.specs.Plans.{Plan, scheme, session, slot, is_holder, holder_of, least_held, deals_in, words_in}
use Rattle.plan_model.proofs.PlanSchemes.{scheme_is, least_holds, least_within}
use Rattle.plan_model.proofs.TapePlaces.{masks_have_words}
use Rattle.share_world.specs.Worlds.{World, carried_wire, end_summands, run_of, source_summands, first_summands, first_values, summands_before, values_before, value_before, tape_word, mask, mask_product, dealt_value, deal_of, masked_summand}
use Rattle.share_world.specs.Laws.{IsWorld}
use Rattle.share_world.proofs.CarriedWires.{ended_summands}
use Rattle.share_world.proofs.WireSums.{run_of_is, starts_add_up}
use Rattle.share_world.proofs.SmallWords.{is_plan, is_world, small_run}
use Rattle.tape_map.specs.TapeMaps.{member_gives, hidden, hidden_word, growth, with_inputs, with_tapes, delta, raised, moved_summands, moved_mask, moved_value, moved_words, second_world}
use Rattle.tape_map.specs.Laws.{SummandsMove, ValuesMove, MasksMove, ExcessStays}
use Rattle.tape_map.proofs.RaisedDeals.{SameBut, small_same, raised_here, raised_other, raised_small, raised_deal, member_own, hidden_differs, grown_alike, raised_same}
use Rattle.tape_map.proofs.SameValues.{value_stays}
use Rattle.tape_map.proofs.ChangedTapes.{CanMove, hidden_within, not_held, word_moves, second_whole}

-- ---- the sums, before any gate

sums : (w : World) → IsWorld w → (s t : ℕ) → AddUp (scheme w.plan) (summands (run_of w s) t) (value_before w s t)
sums w h s t = sum_is_plain (run_of w s) (run_of_is w s h.plan) (first_values w (values_before w s) s) (starts_add_up w s h) t

sums_same : (w : World) → IsWorld w → (s t v : ℕ)
    → Same (2 ^ w.plan.bits) (total (length w.plan.groups) (summands (run_of w s) t v)) (value_before w s t v)
sums_same w h s t = adds_same (scheme w.plan) (summands (run_of w s) t) (value_before w s t) (pow_pos w.plan.bits) (sums w h s t)

-- ---- a world beside this one, with other inputs and other tapes

abbrev pub beside : World → List (List (List ℕ)) → List (List ℕ) → World
beside w other tapes = with_tapes (with_inputs w other) tapes

sums_beside : (w : World) (other : List (List (List ℕ))) (tapes : List (List ℕ)) → IsWorld (beside w other tapes) → (s t v : ℕ)
    → Same (2 ^ w.plan.bits) (total (length w.plan.groups) (summands (run_of (beside w other tapes) s) t v)) (value_before (with_inputs w other) s t v)
sums_beside w other tapes h s t v =
    same_trans (sums_same (beside w other tapes) h s t v) (same_refl (2 ^ w.plan.bits) _ _ (value_stays (with_inputs w other) tapes s t v))

-- where all summands of a wire but the hidden one agree, the moved ones are those of the world beside
moved_same : (w : World) (other : List (List (List ℕ))) (tapes : List (List ℕ)) (group s t v : ℕ) → IsWorld w → IsWorld (beside w other tapes)
    → hidden w.plan group < length w.plan.groups
    → SameBut (scheme w.plan) (hidden w.plan group) (summands (run_of (beside w other tapes) s) t v) (summands (run_of w s) t v)
    → (i : ℕ) → i < length w.plan.groups
    → Same (2 ^ w.plan.bits) (moved_summands w other group s t v i) (summands (run_of (beside w other tapes) s) t v i)
moved_same w other tapes group s t v h h2 lg others =
    raised_same (2 ^ w.plan.bits) (length w.plan.groups) (hidden w.plan group) (value_before w s t v) (value_before (with_inputs w other) s t v)
    (summands (run_of w s) t v) (summands (run_of (beside w other tapes) s) t v) (pow_pos w.plan.bits) lg others
    (sums_same w h s t v) (sums_beside w other tapes h2 s t v)

-- and what p multiplies there is what it is to deal
pub own_moved : (w : World) (other : List (List (List ℕ))) (tapes : List (List ℕ)) (group s t p : ℕ) → IsWorld w → IsWorld (beside w other tapes)
    → hidden w.plan group < length w.plan.groups
    → ((v : ℕ) → SameBut (scheme w.plan) (hidden w.plan group) (summands (run_of (beside w other tapes) s) t v) (summands (run_of w s) t v))
    → own_value (run_of (beside w other tapes) s) t p ≡ moved_value w other group s p (At_gate t)
own_moved w other tapes group s t p h h2 lg others =
    let g = gate (session w.plan s) t in
    let same : (v i : ℕ) → i < length w.plan.groups
    → Same (2 ^ w.plan.bits) (moved_summands w other group s t v i) (summands (run_of (beside w other tapes) s) t v i) =
    λ v. moved_same w other tapes group s t v h h2 lg (others v) in
    own_same (scheme w.plan) p _ _ _ _ (λ i j li lj e. same_sym (same_mul (same g.first i li) (same g.second j lj)))

-- ---- the hidden word

-- in a slot in which p deals it draws a word for each summand but the last, and that of the hidden summand grows as what
-- it deals
record IsDeal (w : World) (other : List (List (List ℕ))) (group s p : ℕ) (z : Slot) : Type 0 where
  words : words_in w.plan s p z ≡ length w.plan.groups - 1
  hidden_place : hidden_word w.plan group p z ≡ hidden w.plan group
  grows : growth w other group s p z ≡ difference (2 ^ w.plan.bits) (moved_value w other group s p z) (dealt_value w s p z)

deal_is : (w : World) (other : List (List (List ℕ))) (group s p : ℕ) (z : Slot) → deals_in w.plan s p z ≡ true → IsDeal w other group s p z
deal_is w other group s p (Input v) e =
    record { words = cond-true (deals_in w.plan s p (Input v)) (length w.plan.groups - 1) 0 e; hidden_place = refl; grows = refl }
deal_is w other group s p (At_gate t) e =
    record { words = cond-true (deals_in w.plan s p (At_gate t)) (length w.plan.groups - 1) 0 e; hidden_place = refl; grows = refl }
deal_is w other group s p (Mask_product t) e =
    record { words = cond-true (deals_in w.plan s p (Mask_product t)) (length w.plan.groups - 1) 0 e; hidden_place = refl; grows = refl }
deal_is w other group s p (Output o) e = absurd (both_ways false refl e)
deal_is w other group s p (Mask t side) e = absurd (both_ways false refl e)
deal_is w other group s p (Masked t side) e = absurd (both_ways false refl e)
deal_is w other group s p (Kept j) e = absurd (both_ways false refl e)

-- in a mask the hidden word is that of the hidden summand
hidden_of_mask : (plan : Plan) (group t i : ℕ) (side : Side) → i ≡ hidden plan group
    → hidden_word plan group (holder_of plan i) (Mask t side) ≡ least_held plan (holder_of plan i) i
hidden_of_mask plan group t i side e =
    let p = holder_of plan i in
    let g = hidden plan group in
    ap (least_held plan p) (cond-true (nat_eq (holder_of plan g) p) g (length plan.groups) (eq-eqb (holder_of plan g) p (ap (holder_of plan) (sym e))) ∙ sym e)

-- and no other's
other_of_mask : (plan : Plan) (group s t i : ℕ) (side : Side) → i < length plan.groups → i ≢ hidden plan group
    → least_held plan (holder_of plan i) i ≢ hidden_word plan group (holder_of plan i) (Mask t side)
other_of_mask plan group s t i side li ne same =
    let p = holder_of plan i in
    let g = hidden plan group in
    elim (cases_eq (holder_of plan g) p) [
      | inl e ↦ (masks_have_words plan).apart i g (sym e) ne (same
          ∙ ap (least_held plan p) (cond-true (nat_eq (holder_of plan g) p) g (length plan.groups) (eq-eqb (holder_of plan g) p e))
          ∙ ap (λ r. least_held plan r g) (sym e))
      | inr apart ↦
          let past = same ∙ ap (least_held plan p) (cond-false (nat_eq (holder_of plan g) p) g (length plan.groups) (ne_eqb (holder_of plan g) p apart)) in
          omega (arith, past, (masks_have_words plan).within s t i side li)
    ]

-- ---- a joined product

joined_alike : (q d e : ℕ) (a b c a' b' c' : ℕ → ℕ) (i : ℕ) → a' i ≡ a i → b' i ≡ b i → c' i ≡ c i
    → joined_summand q d e a' b' c' i ≡ joined_summand q d e a b c i
joined_alike q d e a b c a' b' c' i first second product =
    ap₂ (λ x y. (x + y + (if nat_eq i 0 then d * e else 0)) % q) (ap₂ (λ x y. x + d * y) product second) (ap (λ y. e * y) first)

module _ (w : World) (other : List (List (List ℕ))) (group : ℕ) (h : CanMove w other group) where
  abbrev second : World
  second = second_world w other group

  abbrev g : ℕ
  g = hidden w.plan group

  abbrev m : ℕ
  m = length w.plan.groups

  abbrev q : ℕ
  q = 2 ^ w.plan.bits

  positive : 0 < 2 ^ w.plan.bits
  positive = pow_pos w.plan.bits

  sch_is : IsScheme (scheme w.plan)
  sch_is = scheme_is w.plan (is_plan w h.whole)

  lg : hidden w.plan group < length w.plan.groups
  lg = hidden_within w.plan group h.tolerated

  first_is : IsWorld w
  first_is = is_world w h.whole

  second_is : IsWorld (second_world w other group)
  second_is = is_world (second_world w other group) (second_whole w other group h.whole h.others)

  -- no member is the least holder of the hidden summand
  stranger : has_party group (holder_of w.plan g) ≡ false
  stranger =
      let p = holder_of w.plan g in
      elim (cases_Bool (has_party group p)) [
        | inl yes' ↦ absurd (both_ways (is_holder w.plan p g)
            (not_held w.plan group p lg (least_within w.plan (is_plan w h.whole) g lg) yes') (least_holds w.plan (is_plan w h.whole) g lg))
        | inr no' ↦ no'
      ]

  -- ---- masks

  -- a word of a mask that isn't the hidden summand's stays, and the hidden one's grows
  mask_word : (s t i : ℕ) (side : Side) → i < m
      → moved_words w other group s (Mask t side) (holder_of w.plan i) (least_held w.plan (holder_of w.plan i) i)
      ≡ moved_mask w other group s t side i
  mask_word s t i side li =
      let p = holder_of w.plan i in
      let k = least_held w.plan p i in
      let old = tape_word w s (Mask t side) p in
      let d = growth w other group s p (Mask t side) in
      let more = raised q (hidden_word w.plan group p (Mask t side)) d old in
      elim (cases_eq i g) [
        | inl e ↦ ap (λ f. f k) (cond-false (has_party group p) old more (subst (λ j. has_party group (holder_of w.plan j) ≡ false) (sym e) stranger))
            ∙ raised_here q (hidden_word w.plan group p (Mask t side)) d old k (sym (hidden_of_mask w.plan group t i side e))
            ∙ sym (raised_here q g d (mask w s t side) i e)
        | inr ne ↦ elim (cases_Bool (has_party group p)) [
          | inl yes' ↦ ap (λ f. f k) (cond-true (has_party group p) old more yes')
          | inr no' ↦ ap (λ f. f k) (cond-false (has_party group p) old more no')
              ∙ raised_other q (hidden_word w.plan group p (Mask t side)) d old k (other_of_mask w.plan group s t i side li ne)
        ]
            ∙ sym (raised_other q g d (mask w s t side) i ne)
      ]

  pub mask_moves : (s t i : ℕ) (side : Side) → s < length w.plan.sessions → Inside (session w.plan s) (Mask t side) → i < m
      → mask second s t side i ≡ moved_mask w other group s t side i
  mask_moves s t i side ls inside li =
      let p = holder_of w.plan i in
      word_moves w other group s (Mask t side) p (least_held w.plan p i) ls inside (least_within w.plan (is_plan w h.whole) i li)
      ((masks_have_words w.plan).within s t i side li)
      ∙ mask_word s t i side li

  pub mask_stays : (s t i : ℕ) (side : Side) → s < length w.plan.sessions → Inside (session w.plan s) (Mask t side) → i < m → i ≢ g
      → mask second s t side i ≡ mask w s t side i
  mask_stays s t i side ls inside li ne = mask_moves s t i side ls inside li ∙ raised_other q g _ (mask w s t side) i ne

  -- ---- a deal

  -- what a member deals stays, and what any other party deals is the moved value
  abbrev DealsRight : ℕ → ℕ → Slot → Type 0
  DealsRight s p z =
      (has_party group p ≡ true → dealt_value second s p z ≡ dealt_value w s p z)
      × (has_party group p ≡ false → dealt_value second s p z ≡ moved_value w other group s p z)

  -- summand i isn't the hidden one, or is dealt by a member
  abbrev pub Stays : ℕ → ℕ → Type 0
  Stays p i = (i ≢ hidden w.plan group) ⊎ (has_party group p ≡ true)

  deal_alike : (s p i : ℕ) (z : Slot) → s < length w.plan.sessions → Inside (session w.plan s) z → p < w.plan.parties → i < m → Stays p i
      → deals_in w.plan s p z ≡ true → DealsRight s p z → deal_of second s p z i ≡ deal_of w s p z i
  deal_alike s p i z ls inside lp li which deals right =
      let sch = scheme w.plan in
      let words = tape_word w s z p in
      let new = moved_value w other group s p z in
      let old = dealt_value w s p z in
      let deal = deal_is w other group s p z deals in
      let changed = raised q (hidden_word w.plan group p z) (growth w other group s p z) words in
      dealt_eq sch (dealt_value second s p z) _ _ i (λ j lj. word_moves w other group s z p j ls inside lp (omega (arith, deal.words, lj)))
      ∙ elim (cases_Bool (has_party group p)) [
        | inl yes' ↦ ap₂ (λ v f. dealt sch v f i) (right.0 yes') (cond-true (has_party group p) words changed yes')
        | inr no' ↦ ap₂ (λ v f. dealt sch v f i) (right.1 no') (cond-false (has_party group p) words changed no')
            ∙ ap₂ (λ k d. dealt sch new (raised q k d words) i) deal.hidden_place deal.grows
            ∙ raised_deal sch sch_is g old new words i lg li
            (elim which [ inl ne ↦ ne | inr yes' ↦ λ e. both_ways (has_party group p) no' yes' ])
      ]

  pub input_alike : (s v p i : ℕ) → s < length w.plan.sessions → v < length (owners (session w.plan s)) → source (session w.plan s) v ≡ Given p → i < m
      → Stays p i → deal_of second s p (Input v) i ≡ deal_of w s p (Input v) i
  input_alike s v p i ls lv from li which =
      deal_alike s p i (Input v) ls lv ((h.whole.sound.sessions s ls).owned v p lv from) li which
      (ap (given_by p) from ∙ eq-eqb p p refl) ((λ member. h.inputs s v lv (ap (member_gives group) from ∙ member)), (λ stranger. refl))

  -- the wires of the sessions before s end with the summands that they had, but for the hidden one
  abbrev EarlierAlike : ℕ → Type 0
  EarlierAlike s = (r v i : ℕ) → r < s → i < m → i ≢ g → end_summands second r v i ≡ end_summands w r v i

  source_alike : (s v i : ℕ) (from : Source) → EarlierAlike s → s < length w.plan.sessions → v < length (owners (session w.plan s)) → source (session w.plan s) v ≡ from
      → i < m → i ≢ g → source_summands second (summands_before second s) s v from i ≡ source_summands w (summands_before w s) s v from i
  source_alike s v i (Given p) before ls lv from li ne = input_alike s v p i ls lv from li (inl ne)
  source_alike s v i (Earlier r c at) before ls lv from li ne =
      let wire = carried_wire w.plan r c at in
      let less = h.whole.sound.earlier s v r c at from in
      ap (λ (f : ℕ → ℕ → ℕ). f wire i) (ended_summands second s r less) ∙ before r wire i less li ne
      ∙ ap (λ (f : ℕ → ℕ → ℕ). f wire i) (sym (ended_summands w s r less))

  starts_alike : (s v i : ℕ) → EarlierAlike s → s < length w.plan.sessions → i < m → i ≢ g
      → first_summands second (summands_before second s) s v i ≡ first_summands w (summands_before w s) s v i
  starts_alike s v i before ls li ne =
      let own = owners (session w.plan s) in
      elim (cases_Bool (nat_lt v (length own))) [
        | inl yes' ↦ cond-true (nat_lt v (length own)) _ 0 yes'
            ∙ source_alike s v i (source (session w.plan s) v) before ls (ltb-true v (length own) yes') refl li ne
            ∙ sym (cond-true (nat_lt v (length own)) _ 0 yes')
        | inr no' ↦ cond-false (nat_lt v (length own)) _ 0 no' ∙ sym (cond-false (nat_lt v (length own)) _ 0 no')
      ]

  -- ---- the induction over the sessions and their gates

  abbrev Others : ℕ → ℕ → Type 0
  Others s t = (v i : ℕ) → i < m → i ≢ g → summands (run_of second s) t v i ≡ summands (run_of w s) t v i

  gate_alike_from : (s t p i : ℕ) → Others s t → s < length w.plan.sessions → t < length (session w.plan s).gates → p < w.plan.parties
      → deals_in w.plan s p (At_gate t) ≡ true → i < m → Stays p i → deal_of second s p (At_gate t) i ≡ deal_of w s p (At_gate t) i
  gate_alike_from s t p i others ls lt lp deals li which =
      let x = gate (session w.plan s) t in
      deal_alike s p i (At_gate t) ls lt lp li which deals (
        (λ member. member_own (scheme w.plan) sch_is g p _ _ _ _ (not_held w.plan group p lg lp member) (others x.first) (others x.second)),
        (λ stranger. own_moved w other second.tapes group s t p first_is second_is lg others),
      )

  -- the product of both masks
  masks_product : (s t p : ℕ) → s < length w.plan.sessions → Inside (session w.plan s) (Mask_product t)
      → dealt_value second s p (Mask_product t) ≡ moved_value w other group s p (Mask_product t)
  masks_product s t p ls inside =
      own_same (scheme w.plan) p _ _ _ _
      (λ i j li lj e. same_refl q _ _ (ap₂ (λ a b. a * b) (mask_moves s t i First ls inside li) (mask_moves s t j Second ls inside lj)))

  pub masks_alike : (s t p i : ℕ) → s < length w.plan.sessions → Inside (session w.plan s) (Mask_product t) → p < w.plan.parties
      → deals_in w.plan s p (Mask_product t) ≡ true → i < m → Stays p i → deal_of second s p (Mask_product t) i ≡ deal_of w s p (Mask_product t) i
  masks_alike s t p i ls inside lp deals li which =
      deal_alike s p i (Mask_product t) ls inside lp li which deals (
        (λ member. member_own (scheme w.plan) sch_is g p _ _ _ _ (not_held w.plan group p lg lp member)
            (λ i li ne. mask_stays s t i First ls inside li ne) (λ i li ne. mask_stays s t i Second ls inside li ne)),
        (λ stranger. masks_product s t p ls inside),
      )

  -- ---- products

  -- what party p deals of a value in a slot
  abbrev deals : World → ℕ → Slot → ℕ → ℕ → ℕ → ℕ
  deals u s z p v = dealt (scheme w.plan) v (tape_word u s z p)

  mask_product_stays : (s t i : ℕ) → s < length w.plan.sessions → Inside (session w.plan s) (Mask_product t) → i < m → i ≢ g
      → mask_product second s t i ≡ mask_product w s t i
  mask_product_stays s t i ls inside li ne =
      product_agrees (scheme w.plan) (deals w s (Mask_product t)) (deals second s (Mask_product t)) _ _ _ _ i
      (λ p lp pair. masks_alike s t p i ls inside lp pair li (inl ne))

  -- what is opened of a wire: it grows as its mask does
  excess_alike : (s t i : ℕ) (side : Side) → Others s t → s < length w.plan.sessions → Inside (session w.plan s) (Masked t side) → i < m
      → masked_summand second s t side i ≡ masked_summand w s t side i
  excess_alike s t i side others ls inside li =
      let v = operand (gate (session w.plan s) t) side in
      let wire = summands (run_of w s) t v in
      let wire' = summands (run_of second s) t v in
      let a = mask w s t side in
      let a' = mask second s t side in
      let d = delta w other s t v in
      elim (cases_eq i g) [
        | inl e ↦
            let grown : Same q (a' g) (a g + d) =
            same_trans (same_refl q _ _ (mask_moves s t g side ls inside lg ∙ raised_here q g d a g refl)) (same_mod q (a g + d)) in
            subst (λ j. difference q (wire' j) (a' j) ≡ difference q (wire j) (a j)) (sym e)
            (grown_alike q d (wire g) (a g) (wire' g) (a' g) positive
            (hidden_differs q m g (value_before w s t v) (value_before (with_inputs w other) s t v) wire wire' positive lg (others v)
            (sums_same w first_is s t v) (sums_beside w other second.tapes second_is s t v)) grown)
        | inr ne ↦ ap₂ (difference q) (others v i li ne) (mask_stays s t i side ls inside li ne)
      ]

  -- what its summands add up to
  excess_sum : (s t : ℕ) (side : Side) → Others s t → s < length w.plan.sessions → Inside (session w.plan s) (Masked t side)
      → sum_of (scheme w.plan) (masked_summand second s t side) ≡ sum_of (scheme w.plan) (masked_summand w s t side)
  excess_sum s t side others ls inside =
      ap (λ z. z % q) (total_eq m (masked_summand second s t side) (masked_summand w s t side) (λ i li. excess_alike s t i side others ls inside li))

  -- the summands that gate t makes of its wires, as it is where these are prepared
  abbrev join_of : World → ℕ → ℕ → ℕ → ℕ → ℕ → ℕ
  join_of u s t d e = joined_summand q d e (mask u s t First) (mask u s t Second) (mask_product u s t)

  prepared_alike : (s t i : ℕ) → Others s t → s < length w.plan.sessions → Inside (session w.plan s) (Mask_product t) → i < m → i ≢ g
      → join_of second s t (sum_of (scheme w.plan) (masked_summand second s t First)) (sum_of (scheme w.plan) (masked_summand second s t Second)) i
      ≡ join_of w s t (sum_of (scheme w.plan) (masked_summand w s t First)) (sum_of (scheme w.plan) (masked_summand w s t Second)) i
  prepared_alike s t i others ls inside li ne =
      let sum : Side → ℕ = λ side. sum_of (scheme w.plan) (masked_summand w s t side) in
      ap₂ (λ d e. join_of second s t d e i) (excess_sum s t First others ls inside) (excess_sum s t Second others ls inside)
      ∙ joined_alike q (sum First) (sum Second) (mask w s t First) (mask w s t Second) (mask_product w s t)
      (mask second s t First) (mask second s t Second) (mask_product second s t) i
      (mask_stays s t i First ls inside li ne) (mask_stays s t i Second ls inside li ne) (mask_product_stays s t i ls inside li ne)

  product_alike : (s t i : ℕ) → Others s t → s < length w.plan.sessions → is_product (gate (session w.plan s) t).operation ≡ true
      → i < m → i ≢ g
      → (run_of second s).product t (summands (run_of second s) t (gate (session w.plan s) t).first)
      (summands (run_of second s) t (gate (session w.plan s) t).second) i
      ≡ (run_of w s).product t (summands (run_of w s) t (gate (session w.plan s) t).first)
      (summands (run_of w s) t (gate (session w.plan s) t).second) i
  product_alike s t i others ls product li ne =
      let x = session w.plan s in
      let lt : t < length x.gates = product_within x t product in
      elim (cases_Bool x.prepared) [
        | inl yes' ↦ ap (λ (f : ℕ → ℕ). f i) (cond-true x.prepared _ _ yes')
            ∙ prepared_alike s t i others ls (lt, and_from x.prepared (is_product (gate x t).operation) yes' product) li ne
            ∙ sym (ap (λ (f : ℕ → ℕ). f i) (cond-true x.prepared _ _ yes'))
        | inr no' ↦ ap (λ (f : ℕ → ℕ). f i) (cond-false x.prepared _ _ no')
            ∙ product_agrees (scheme w.plan) (deals w s (At_gate t)) (deals second s (At_gate t)) _ _ _ _ i
            (λ p lp pair. gate_alike_from s t p i others ls lt lp
            (and_from (is_direct x t) (has_pair (scheme w.plan) p)
            (and_from (not x.prepared) (is_product (gate x t).operation) (ap not no') product) pair) li (inl ne))
            ∙ sym (ap (λ (f : ℕ → ℕ). f i) (cond-false x.prepared _ _ no'))
      ]

  session_alike : (s : ℕ) → EarlierAlike s → s < length w.plan.sessions → (t : ℕ) → Others s t
  session_alike s before ls t v i li ne =
      runs_agree (run_of w s) (first_summands second (summands_before second s) s) (run_of second s).product (λ i. i ≢ g)
      (λ v i li ne. starts_alike s v i before ls li ne)
      (λ t others product i li ne. product_alike s t i others ls product li ne)
      t v i li ne

  earlier_alike : (n : ℕ) → n ≤ length w.plan.sessions → EarlierAlike n
  earlier_alike zero le r v i l li ne = absurd (omega (arith, l))
  earlier_alike (suc n) le r v i l li ne = elim (cases_eq r n) [
    | inl e ↦ subst (λ z. end_summands second z v i ≡ end_summands w z v i) (sym e)
        (session_alike n (earlier_alike n (omega (arith, le))) (omega (arith, le)) (length (session w.plan n).gates) v i li ne)
    | inr apart ↦ earlier_alike n (omega (arith, le)) r v i (omega (arith, l, apart)) li ne
  ]

  pub others_stay : (s t v i : ℕ) → s < length w.plan.sessions → i < m → i ≢ g → summands (run_of second s) t v i ≡ summands (run_of w s) t v i
  others_stay s t v i ls li ne = session_alike s (earlier_alike s (omega (arith, ls))) ls t v i li ne

  pub gate_alike : (s t p i : ℕ) → s < length w.plan.sessions → t < length (session w.plan s).gates → p < w.plan.parties
      → deals_in w.plan s p (At_gate t) ≡ true → i < m → Stays p i → deal_of second s p (At_gate t) i ≡ deal_of w s p (At_gate t) i
  gate_alike s t p i ls = gate_alike_from s t p i (λ v i li ne. others_stay s t v i ls li ne) ls

  pub masks_move : MasksMove w other group
  masks_move s t i side ls lt e li = mask_moves s t i side ls (lt, e) li

  pub excess_stays : ExcessStays w other group
  excess_stays s t i side ls lt e li = excess_alike s t i side (λ v i li ne. others_stay s t v i ls li ne) ls (lt, e) li

  -- ---- all summands, and what is dealt

  pub summands_move : SummandsMove w other group
  summands_move s t v i ls li =
      small_same q (small_run second (second_whole w other group h.whole h.others) s t v i)
      (raised_small q g (delta w other s t v) (summands (run_of w s) t v) i positive (small_run w h.whole s t v i))
      (same_sym (moved_same w other second.tapes group s t v first_is second_is lg (λ i li ne. others_stay s t v i ls li ne) i li))

  pub value_moves : (s p : ℕ) (z : Slot) → s < length w.plan.sessions → Inside (session w.plan s) z
      → dealt_value second s p z ≡ moved_value w other group s p z
  value_moves s p (Input v) ls inside = refl
  value_moves s p (At_gate t) ls inside =
      own_moved w other second.tapes group s t p first_is second_is lg (λ v i li ne. others_stay s t v i ls li ne)
  value_moves s p (Output o) ls inside = refl
  value_moves s p (Mask t side) ls inside = refl
  value_moves s p (Mask_product t) ls inside = masks_product s t p ls inside
  value_moves s p (Masked t side) ls inside = refl
  value_moves s p (Kept j) ls inside = refl

  pub values_move : ValuesMove w other group
  values_move s k p ls lk = value_moves s p (slot w.plan s k) ls ((slots_are_numbered (session w.plan s)).inside k lk)

  -- a wire that has one value in both worlds has the same summands, the hidden one too
  pub opens_alike : (s t v i : ℕ) → s < length w.plan.sessions → value_before (with_inputs w other) s t v ≡ value_before w s t v → i < m
      → summands (run_of second s) t v i ≡ summands (run_of w s) t v i
  opens_alike s t v i ls e li =
      let x = summands (run_of w s) t v in
      let y = summands (run_of second s) t v in
      let one : total m y + x g ≡ total m x + y g = total_one m g y x lg (λ i li ne. others_stay s t v i ls li ne) in
      let sum : Same q (total m y) (total m x) =
      same_trans (sums_beside w other second.tapes second_is s t v) (same_trans (same_refl q _ _ e) (same_sym (sums_same w first_is s t v))) in
      let here : Same q (y g) (x g) =
      same_cancel (total m x)
      (same_trans (same_refl q _ (total m y + x g) (omega (arith, one)))
      (same_trans (same_add sum (same_refl q (x g) _ refl)) (same_refl q _ _ (omega arith)))) in
      elim (cases_eq i g) [
        | inl at ↦ subst (λ z. y z ≡ x z) (sym at)
            (small_same q (small_run second (second_whole w other group h.whole h.others) s t v g) (small_run w h.whole s t v g) here)
        | inr ne ↦ others_stay s t v i ls li ne
      ]
