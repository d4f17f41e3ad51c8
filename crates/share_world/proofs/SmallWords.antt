-- Summands and words are numbers of the ring.
use Rattle.std.proofs.Common.{ℕ, zero, suc, ◌+◌, ◌<◌, ◌^◌, nat_eq, nat_lt, length}
use Rattle.std.proofs.lemmas.Bool.{cond_both}
use Rattle.std.proofs.lemmas.Nat.{pow_pos}
use Rattle.std.proofs.Math.Nat.{mod-lt}
use Rattle.secret_sharing.specs.Schemes.{summands}
use Rattle.secret_sharing.specs.Prepared.{prepared_summand}
use Rattle.secret_sharing.proofs.SummandSums.{dealt_small, summands_below}
use Rattle.plan_model.specs.declared.key.Key.{Key}
use Rattle.session_slots.specs.declared.side.Side.TheVariants.{First, Second}
use Rattle.session_slots.specs.declared.source.Source.{Source}
use Rattle.session_slots.specs.declared.source.Source.TheVariants.{Given, Earlier}
use Rattle.session_slots.specs.Sessions.{Slot, owners, source}
use Rattle.session_slots.specs.Sessions.Slot.{Input, At_gate, Output, Mask, Mask_product, Masked, Kept}
use Rattle.plan_model.proofs.PlanSchemes.{plan_is}
use Rattle.plan_model.specs.Plans.{scheme, session, holder_of, slot, slot_number, place, IsPlan}
use Rattle.share_world.specs.Worlds.{World, run_after, run_of, end_summands, summands_before, source_summands, carried_wire, input_of, tape_word, first_summands, mask, mask_product, dealt_product, dealt_value, deal_of, word_in, word}
use Rattle.share_world.specs.Laws.{IsWorld, IsWhole}

module _ (w : World) (whole : IsWhole w) where
  pub positive : 0 < 2 ^ w.plan.bits
  positive = pow_pos w.plan.bits

  pub is_plan : IsPlan w.plan
  is_plan = plan_is w.plan whole.sound

  pub is_world : IsWorld w
  is_world = record { plan = is_plan; inputs = whole.inputs.below }

  pub small_words : (s p : ℕ) (z : Slot) (i : ℕ) → tape_word w s z p i < 2 ^ w.plan.bits
  small_words s p z i = whole.tapes.below p (place w.plan p s (slot_number w.plan s z) + i)

  pub small_deal : (s p : ℕ) (z : Slot) (i : ℕ) → deal_of w s p z i < 2 ^ w.plan.bits
  small_deal s p z i = dealt_small (scheme w.plan) (dealt_value w s p z) (tape_word w s z p) i positive (small_words s p z)

  -- these summands of earlier sessions are numbers of the ring
  abbrev Small : (ℕ → ℕ → ℕ → ℕ) → Type 0
  Small before = (r v i : ℕ) → before r v i < 2 ^ w.plan.bits

  small_source : (before : ℕ → ℕ → ℕ → ℕ) → Small before → (s v i : ℕ) (from : Source) → source_summands w before s v from i < 2 ^ w.plan.bits
  small_source before small s v i (Given p) = dealt_small (scheme w.plan) (input_of w s v) _ i positive (small_words s p (Input v))
  small_source before small s v i (Earlier r c at) = small r (carried_wire w.plan r c at) i

  small_start : (before : ℕ → ℕ → ℕ → ℕ) → Small before → (s v i : ℕ) → first_summands w before s v i < 2 ^ w.plan.bits
  small_start before small s v i =
      cond_both (nat_lt v (length (owners (session w.plan s)))) _ 0 (λ z. z < 2 ^ w.plan.bits)
      (λ e. small_source before small s v i (source (session w.plan s) v))
      (λ e. positive)

  small_after : (before : ℕ → ℕ → ℕ → ℕ) → Small before → (s t v i : ℕ) → summands (run_after w before s) t v i < 2 ^ w.plan.bits
  small_after before small s = summands_below (run_after w before s) positive (small_start before small s) (λ t x y i.
      cond_both (session w.plan s).prepared (prepared_summand (scheme w.plan) (mask w s t First) (mask w s t Second) (mask_product w s t) x y) (dealt_product w s (At_gate t) x y) (λ (f : ℕ → ℕ). f i < 2 ^ w.plan.bits) (λ e. mod-lt _ positive) (λ e. mod-lt _ positive))

  small_before : (n : ℕ) → Small (summands_before w n)
  small_before zero r v i = positive
  small_before (suc n) r v i =
      cond_both (nat_eq r n) (end_summands w n) (summands_before w n r) (λ (f : ℕ → ℕ → ℕ). f v i < 2 ^ w.plan.bits)
      (λ e. small_after (summands_before w n) (small_before n) n _ v i) (λ e. small_before n r v i)

  pub small_run : (s t v i : ℕ) → summands (run_of w s) t v i < 2 ^ w.plan.bits
  small_run s = small_after (summands_before w s) (small_before s) s

  small_in : (k : Key) (z : Slot) → word_in w k z < 2 ^ w.plan.bits
  small_in k (Input v) = small_deal k.session k.sender (Input v) k.share
  small_in k (At_gate t) = small_deal k.session k.sender (At_gate t) k.share
  small_in k (Output o) = small_run k.session _ _ k.share
  small_in k (Mask t side) = small_words k.session (holder_of w.plan k.share) (Mask t side) _
  small_in k (Mask_product t) = small_deal k.session k.sender (Mask_product t) k.share
  small_in k (Masked t side) = mod-lt _ positive
  small_in k (Kept j) = small_run k.session _ _ k.share

  pub small_word : (k : Key) → word w k < 2 ^ w.plan.bits
  small_word k = small_in k (slot w.plan k.session k.slot)
