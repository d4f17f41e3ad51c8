-- What is prepared stands before the inputs, and reads none.
use Rattle.std.proofs.Common.{◌≡◌, ℕ, ◌<◌, ◌≤◌, true, false, nat_eq, nat_lt, if◌then◌else◌, refl, sym, ap, ap₂, ◌∙◌, arith}
use Rattle.std.proofs.Math.Path.{fun_ext}
use Rattle.std.proofs.lemmas.Bool.{false≢true, le-ltb, lt-ltb}
use Rattle.secret_sharing.specs.Schemes.{dealt, own_product}
use Rattle.session_slots.specs.declared.side.Side.{Side}
use Rattle.session_slots.specs.declared.side.Side.TheVariants.{First, Second}
use Rattle.session_slots.specs.Sessions.{Session, Slot, session_slot, session_slots}
use Rattle.session_slots.specs.Sessions.Slot.{Input, At_gate, Output, Mask, Mask_product, Masked, Kept}
use Rattle.session_slots.specs.SlotNumbers.{first_input, session_slot_number}
use Rattle.session_slots.specs.SoundSessions.{Inside}
use Rattle.session_slots.proofs.SessionSlots.{masks_before_product, product_before_inputs, slot_count, slot_kinds, slots_are_numbered}
use Rattle.plan_model.specs.declared.key.Key.{Key}
use Rattle.plan_model.specs.InputWords.{InputLists}
use Rattle.plan_model.specs.Plans.{holder_of, scheme, session, slot}
use Rattle.share_world.specs.Locals.{key_at, local_mask, local_word_in}
use Rattle.share_world.specs.Worlds.{World, mask, tape_word, word_in}
use Rattle.posting_laws.specs.Preparation.{PreparationIsFirst, PreparedAlone, PreparedWordsStay, SameCameEarly, is_preparation}

-- by their numbers
mask_early : (s : Session) (t : ℕ) (side : Side) → Inside s (Mask t side) → session_slot_number s (Mask t side) < first_input s
mask_early s t First inside = (let masks = masks_before_product s t inside.0 inside.1 in let product = product_before_inputs s t inside.0 inside.1 in omega (arith, masks, product))
mask_early s t Second inside = (let masks = masks_before_product s t inside.0 inside.1 in let product = product_before_inputs s t inside.0 inside.1 in omega (arith, masks, product))

pub preparation_first : PreparationIsFirst
preparation_first s = slot_kinds s (λ k z. is_preparation z ≡ nat_lt k (first_input s)) each
  where
    early : (k : ℕ) → k < first_input s → true ≡ nat_lt k (first_input s)
    early k l = sym (lt-ltb k (first_input s) l)

    late : (k : ℕ) → first_input s ≤ k → false ≡ nat_lt k (first_input s)
    late k past = sym (le-ltb k (first_input s) past)

    each : (z : Slot) → Inside s z → is_preparation z ≡ nat_lt (session_slot_number s z) (first_input s)
    each (Mask t side) inside = early (session_slot_number s (Mask t side)) (mask_early s t side inside)
    each (Mask_product t) inside = early (session_slot_number s (Mask_product t)) (product_before_inputs s t inside.0 inside.1)
    each (Input v) inside = late (session_slot_number s (Input v)) (omega arith)
    each (At_gate t) inside = late (session_slot_number s (At_gate t)) (omega arith)
    each (Masked t First) inside = late (session_slot_number s (Masked t First)) (omega arith)
    each (Masked t Second) inside = late (session_slot_number s (Masked t Second)) (omega arith)
    each (Output o) inside = late (session_slot_number s (Output o)) (omega arith)
    each (Kept j) inside = late (session_slot_number s (Kept j)) (omega arith)

-- a slot before the inputs is there, and of the preparation
before_inputs : (s : Session) (k : ℕ) → k < first_input s → (k < session_slots s) × (is_preparation (session_slot s k) ≡ true)
before_inputs s k l =
    let there : k < session_slots s = omega (arith, l, slot_count s) in
    (there, preparation_first s k there ∙ lt-ltb k (first_input s) l)

pub prepared_words_stay : PreparedWordsStay
prepared_words_stay w inputs key early = same (slot w.plan key.session key.slot) (before_inputs (session w.plan key.session) key.slot early).1
  where
    same : (z : Slot) → is_preparation z ≡ true → word_in (record w { inputs = inputs }) key z ≡ word_in w key z
    same (Mask t side) e = refl
    same (Mask_product t) e = refl
    same (Input v) e = absurd (false≢true e)
    same (At_gate t) e = absurd (false≢true e)
    same (Masked t side) e = absurd (false≢true e)
    same (Output o) e = absurd (false≢true e)
    same (Kept j) e = absurd (false≢true e)

module _ (w : World) (inputs : InputLists) (p : ℕ) (got came : Key → ℕ) (key : Key) (same : SameCameEarly w.plan key.session got came) where
  abbrev other : World
  other = record w { inputs = inputs }

  abbrev s : ℕ
  s = key.session

  masks : (t : ℕ) (side : Side) → Inside (session w.plan s) (Mask t side) → local_mask other got p s t side ≡ local_mask w came p s t side
  masks t side inside = fun_ext (λ i.
      ap (λ n. if nat_eq (holder_of w.plan i) p then mask w s t side i else n)
      (same (key_at w.plan s (Mask t side) i (holder_of w.plan i) p) refl (mask_early (session w.plan s) t side inside)))

  alone : (z : Slot) → Inside (session w.plan s) z → is_preparation z ≡ true → local_word_in other got p key z ≡ local_word_in w came p key z
  alone (Mask t side) inside e = ap (λ (m : ℕ → ℕ). m key.share) (masks t side inside)
  alone (Mask_product t) inside e =
      ap₂ (λ (a b : ℕ → ℕ). dealt (scheme w.plan) (own_product (scheme w.plan) p a b) (tape_word w s (Mask_product t) p) key.share) (masks t First inside) (masks t Second inside)
  alone (Input v) inside e = absurd (false≢true e)
  alone (At_gate t) inside e = absurd (false≢true e)
  alone (Masked t side) inside e = absurd (false≢true e)
  alone (Output o) inside e = absurd (false≢true e)
  alone (Kept j) inside e = absurd (false≢true e)

pub prepared_alone : PreparedAlone
prepared_alone w inputs p got came key early same =
    let x = session w.plan key.session in
    let found = before_inputs x key.slot early in
    alone w inputs p got came key same (slot w.plan key.session key.slot) ((slots_are_numbered x).inside key.slot found.0) found.1
