-- The summands of every wire of a world add up to its plain value, session by session.
use Rattle.std.proofs.Common.{◌≡◌, ℕ, zero, suc, ◌*◌, ◌%◌, ◌^◌, ◌<◌, Bool, nat_eq, nat_lt, length, refl, sym, ap, ◌∙◌}
use Rattle.std.proofs.lemmas.Bool.{cases_Bool, cond-true, cond-false}
use Rattle.std.proofs.lemmas.Nat.{pow_pos}
use Rattle.std.proofs.Math.Nat.{mod-eq_of_lt}
use mathlib.Core.Logic.{inl, inr}
use Rattle.secret_sharing.specs.Schemes.{IsRun, AddUp, dealt, summands}
use Rattle.secret_sharing.specs.Prepared.{sum_of}
use Rattle.session_slots.specs.declared.side.Side.TheVariants.{First, Second}
use Rattle.session_slots.specs.declared.source.Source.{Source}
use Rattle.session_slots.specs.declared.source.Source.TheVariants.{Given, Earlier}
use Rattle.session_slots.specs.Sessions.{owners, source, Slot}
use Rattle.session_slots.specs.Sessions.Slot.{Input, At_gate, Mask_product}
use Rattle.plan_model.specs.Plans.{scheme, session, IsPlan}
use Rattle.share_world.specs.Worlds.{World, run_of, source_input, source_summands, first_summands, source_value, first_values, summands_before, values_before, value_before, carried_wire, input_of, tape_word, mask, dealt_product, mask_product}
use Rattle.share_world.specs.Laws.{IsWorld, SumIsPlain}
use Rattle.mpc_ring.proofs.Remainders.{mods_of_same}
use Rattle.list_laws.specs.Lists.{total}
use Rattle.list_laws.proofs.Totals.{total_zero, total_eq}
use Rattle.secret_sharing.proofs.SummandSums.{dealt_sum, product_sum, sum_is_plain}
use Rattle.secret_sharing.proofs.PreparedSums.{prepared_sum}
use Rattle.plan_model.proofs.PlanSchemes.{scheme_is}

-- what is dealt in a slot adds up to the product
dealt_products : (w : World) (s : ℕ) (kind : Slot) → IsPlan w.plan → (x y : ℕ → ℕ)
    → sum_of (scheme w.plan) (dealt_product w s kind x y) ≡ total (length w.plan.groups) x * total (length w.plan.groups) y % 2 ^ w.plan.bits
dealt_products w s kind h x y =
    let words : ℕ → ℕ → ℕ = tape_word w s kind in
    mods_of_same (product_sum (scheme w.plan) (scheme_is w.plan h) (λ p v. dealt (scheme w.plan) v (words p)) (λ p v. mods_of_same (dealt_sum (scheme w.plan) (scheme_is w.plan h) v (words p))) x y)

pub run_of_is : (w : World) (s : ℕ) → IsPlan w.plan → IsRun (run_of w s)
run_of_is w s h = record {
  scheme = scheme_is w.plan h;
  products = λ t x y.
      let prepared : Bool = (session w.plan s).prepared in
      elim (cases_Bool prepared) [
        | inl yes' ↦ ap (sum_of (scheme w.plan)) (cond-true prepared _ _ yes')
            ∙ prepared_sum (scheme w.plan) (scheme_is w.plan h) (mask w s t First) (mask w s t Second) (mask_product w s t) x y (dealt_products w s (Mask_product t) h (mask w s t First) (mask w s t Second))
        | inr no' ↦ ap (sum_of (scheme w.plan)) (cond-false prepared _ _ no') ∙ dealt_products w s (At_gate t) h x y
      ];
}

module _ (w : World) (h : IsWorld w) where
  abbrev q : ℕ
  q = 2 ^ w.plan.bits

  abbrev m : ℕ
  m = length w.plan.groups

  -- these summands of earlier sessions add up to these values
  abbrev Adds : (ℕ → ℕ → ℕ → ℕ) → (ℕ → ℕ → ℕ) → Type 0
  Adds before plains = (r : ℕ) → AddUp (scheme w.plan) (before r) (plains r)

  small_input : (s v : ℕ) (from : Source) → source_input w s v from < q
  small_input s v (Given p) = h.inputs p s _
  small_input s v (Earlier r c i) = pow_pos w.plan.bits

  source_adds : (before : ℕ → ℕ → ℕ → ℕ) (plains : ℕ → ℕ → ℕ) → Adds before plains → (s v : ℕ) (from : Source)
      → total m (source_summands w before s v from) % q ≡ source_value w plains s v from
  source_adds before plains adds s v (Given p) =
      mods_of_same (dealt_sum (scheme w.plan) (scheme_is w.plan h.plan) (input_of w s v) (tape_word w s (Input v) p)) ∙ mod-eq_of_lt (small_input s v (source (session w.plan s) v))
  source_adds before plains adds s v (Earlier r c i) = adds r (carried_wire w.plan r c i)

  start_adds : (before : ℕ → ℕ → ℕ → ℕ) (plains : ℕ → ℕ → ℕ) → Adds before plains → (s : ℕ) → AddUp (scheme w.plan) (first_summands w before s) (first_values w plains s)
  start_adds before plains adds s v =
      let many = length (owners (session w.plan s)) in
      let from : Source = source (session w.plan s) v in
      let here = source_summands w before s v from in
      elim (cases_Bool (nat_lt v many)) [
        | inl yes' ↦ ap (λ z. z % q) (total_eq m _ here (λ i l. cond-true (nat_lt v many) (here i) 0 yes'))
            ∙ source_adds before plains adds s v from
            ∙ sym (cond-true (nat_lt v many) (source_value w plains s v from) 0 yes')
        | inr no' ↦ ap (λ z. z % q) (total_zero m _ (λ i l. cond-false (nat_lt v many) (here i) 0 no'))
            ∙ mod-eq_of_lt (pow_pos w.plan.bits)
            ∙ sym (cond-false (nat_lt v many) (source_value w plains s v from) 0 no')
      ]

  ends_add : (n : ℕ) → Adds (summands_before w n) (values_before w n)
  ends_add zero r v = ap (λ z. z % q) (total_zero m (λ i. 0) (λ i l. refl)) ∙ mod-eq_of_lt (pow_pos w.plan.bits)
  ends_add (suc n) r v =
      let count = length (session w.plan n).gates in
      let ends = sum_is_plain (run_of w n) (run_of_is w n h.plan) (first_values w (values_before w n) n) (start_adds (summands_before w n) (values_before w n) (ends_add n) n) count in
      elim (cases_Bool (nat_eq r n)) [
        | inl yes' ↦ ap (λ (f : ℕ → ℕ → ℕ). total m (f v) % q) (cond-true (nat_eq r n) (summands (run_of w n) count) (summands_before w n r) yes')
            ∙ ends v
            ∙ sym (ap (λ (f : ℕ → ℕ). f v) (cond-true (nat_eq r n) (value_before w n count) (values_before w n r) yes'))
        | inr no' ↦ ap (λ (f : ℕ → ℕ → ℕ). total m (f v) % q) (cond-false (nat_eq r n) (summands (run_of w n) count) (summands_before w n r) no')
            ∙ ends_add n r v
            ∙ sym (ap (λ (f : ℕ → ℕ). f v) (cond-false (nat_eq r n) (value_before w n count) (values_before w n r) no'))
      ]

-- the input wires of a session
pub starts_add_up : (w : World) (s : ℕ) → IsWorld w → AddUp (scheme w.plan) (first_summands w (summands_before w s) s) (first_values w (values_before w s) s)
starts_add_up w s h = start_adds w h (summands_before w s) (values_before w s) (ends_add w h s) s

pub world_sums : (w : World) → IsWorld w → SumIsPlain w
world_sums w h s = sum_is_plain (run_of w s) (run_of_is w s h.plan) (first_values w (values_before w s) s) (starts_add_up w s h) (length (session w.plan s).gates)
