-- How many messages, deals and tape words there are, by party.
use Rattle.std.proofs.Common.{◌≡◌, ℕ, zero, suc, ◌+◌, ◌-◌, ◌*◌, ◌<◌, ◌≤◌, Bool, true, false, not, nat_eq, if◌then◌else◌, List, [], ◌∷◌, length, refl, sym, ap, ap₂, ◌∙◌, arith, length-append}
use Rattle.std.specs.Int.{from_bool}
use Rattle.std.proofs.lemmas.Bool.{cases_eq, cond-true, cond-false, eq-eqb, ne_eqb}
use mathlib.Core.Logic.{inl, inr}
use Rattle.list_laws.specs.Lists.{total, joined, only_if}
use Rattle.list_laws.proofs.Totals.{total_eq, total_zero, total_add, total_mul_left, total_swap, total_pick, total_count}
use Rattle.list_laws.proofs.JoinedLists.{length_only_if, length-joined, joined_more}
use Rattle.secret_sharing.specs.Schemes.{has_pair}
use Rattle.party_set.specs.Parties.{has_party}
use Rattle.session_slots.specs.declared.source.Source.{Source}
use Rattle.session_slots.specs.declared.source.Source.TheVariants.{Given, Earlier}
use Rattle.session_slots.specs.Sessions.{Session, Slot, given_by, owners, readers, source}
use Rattle.plan_model.specs.Plans.{Plan, session, slot, slots, scheme, deals_in, is_holder, holder_of, opens_to, least_held, words_in, words_before, words}
use Rattle.plan_model.specs.declared.key.Key.{Key}
use Rattle.session_slots.specs.Sessions.Slot.{Input, At_gate, Output, Mask, Mask_product, Masked, Kept}
use Rattle.plan_model.specs.Messages.{messages, slot_messages, deal_message, deal_messages, input_messages, kept_message, kept_messages, open_messages, mask_messages, product_messages}
use Rattle.plan_model.specs.Numbers.{is_mask, deals, deals_before}
use Rattle.plan_model.specs.Firsts.{session_count}
use Rattle.session_slots.specs.Counts.{products, prepared_products, owned}
use Rattle.plan_model.specs.Tallies.{keeping_messages, openings, party_messages, masks_messages, tape_length}
use Rattle.session_slots.proofs.SessionSlots.{slot_kinds}
use Rattle.session_slots.specs.SoundSessions.{Inside}
use Rattle.plan_model.proofs.SlotMessages.{length-messages}
use Rattle.plan_model.proofs.SlotSums.{one, by_kind, masks_same, gates_same, products_dealt}

-- ---- deals, openings, masks and kept wires of a session

-- a slot is of a kept wire
abbrev is_kept : Slot → Bool
is_kept (Kept j) = true
is_kept _ = false

ones : (n : ℕ) → total n (λ i. 1) ≡ n
ones zero = refl
ones (suc n) = omega (arith, ones n)

module _ (plan : Plan) (s : ℕ) where
  abbrev x : Session
  x = session plan s

  none_kept : total (length x.kept) (λ j. 0) ≡ 0
  none_kept = total_zero (length x.kept) (λ j. 0) (λ j l. refl)

  dealt : (p : ℕ) → deals plan p s ≡ owned x p + (if has_pair (scheme plan) p then products x else 0)
  dealt p =
      let h = has_pair (scheme plan) p in
      let f : Slot → ℕ = λ z. one (deals_in plan s p z) in
      let inputs = total_count (given_by p) (owners x) (Given 0) in
      let none = total_zero (length (readers x)) (λ o. 0) (λ o l. refl) in
      by_kind x f ∙ omega (arith, inputs, products_dealt x f h (λ t. omega arith) (λ t. refl) (λ t. refl), none, none_kept)

  pub openings_are : (r : ℕ) → total (slots plan s) (λ k. one (opens_to plan s r (slot plan s k))) ≡ openings plan r s
  openings_are r =
      let f : Slot → ℕ = λ z. one (opens_to plan s r z) in
      let none = total_zero (length (owners x)) (λ v. 0) (λ v l. refl) in
      let outputs = total_count (λ mask. has_party mask r) (readers x) 0 in
      by_kind x f ∙ omega (arith, masks_same x f 0 (λ t. refl), gates_same x f 2 (λ t. refl) (λ t. refl), none, outputs, none_kept)

  pub masks_are : total (slots plan s) (λ k. one (is_mask (slot plan s k))) ≡ 2 * prepared_products x
  masks_are =
      let f : Slot → ℕ = λ z. one (is_mask z) in
      let inputs = total_zero (length (owners x)) (λ v. 0) (λ v l. refl) in
      let outputs = total_zero (length (readers x)) (λ o. 0) (λ o l. refl) in
      by_kind x f ∙ omega (arith, masks_same x f 2 (λ t. refl), gates_same x f 0 (λ t. refl) (λ t. refl), inputs, outputs, none_kept)

  pub kept_are : total (slots plan s) (λ k. one (is_kept (slot plan s k))) ≡ length x.kept
  kept_are =
      let f : Slot → ℕ = λ z. one (is_kept z) in
      let inputs = total_zero (length (owners x)) (λ v. 0) (λ v l. refl) in
      let outputs = total_zero (length (readers x)) (λ o. 0) (λ o l. refl) in
      by_kind x f ∙ omega (arith, masks_same x f 0 (λ t. refl), gates_same x f 0 (λ t. refl) (λ t. refl), inputs, outputs, ones (length x.kept))

pub deals_is : (plan : Plan) (p s : ℕ) → deals plan p s ≡ owned (session plan s) p + (if has_pair (scheme plan) p then products (session plan s) else 0)
deals_is plan p s = dealt plan s p

-- ---- tape words

module _ (plan : Plan) (p s : ℕ) where
  dealing : (b : Bool) → (if b then length plan.groups - 1 else 0) ≡ (length plan.groups - 1) * one b + least_held plan p (length plan.groups) * 0
  dealing true = omega arith
  dealing false = omega arith

  words_at : (z : Slot) → words_in plan s p z ≡ (length plan.groups - 1) * one (deals_in plan s p z) + least_held plan p (length plan.groups) * one (is_mask z)
  words_at (Mask t side) = omega arith
  words_at (Input v) = dealing (deals_in plan s p (Input v))
  words_at (At_gate t) = dealing (deals_in plan s p (At_gate t))
  words_at (Output o) = dealing false
  words_at (Mask_product t) = dealing (deals_in plan s p (Mask_product t))
  words_at (Masked t side) = dealing false
  words_at (Kept j) = dealing false

  -- for each deal before slot k one word less than there are summands, and for each mask one for each summand of which p is
  -- the least holder
  pub words_before_are : (k : ℕ) → words_before plan p s k ≡ (length plan.groups - 1) * deals_before plan p s k + least_held plan p (length plan.groups) * total k (λ j. one (is_mask (slot plan s j)))
  words_before_are k =
      let each = length plan.groups - 1 in
      let held = least_held plan p (length plan.groups) in
      total_eq k _ _ (λ j l. words_at (slot plan s j))
      ∙ total_add k (λ j. each * one (deals_in plan s p (slot plan s j))) (λ j. held * one (is_mask (slot plan s j)))
      ∙ ap₂ (λ a b. a + b) (total_mul_left k each (λ j. one (deals_in plan s p (slot plan s j)))) (total_mul_left k held (λ j. one (is_mask (slot plan s j))))

  pub words_are : words plan p s ≡ (length plan.groups - 1) * deals plan p s + least_held plan p (length plan.groups) * (2 * prepared_products (session plan s))
  words_are = words_before_are (slots plan s) ∙ ap (λ n. (length plan.groups - 1) * deals plan p s + least_held plan p (length plan.groups) * n) (masks_are plan s)

pub tape_length_is : (plan : Plan) (p : ℕ) → tape_length plan p
    ≡ (length plan.groups - 1) * total (length plan.sessions) (deals plan p) + least_held plan p (length plan.groups) * total (length plan.sessions) (λ s. 2 * prepared_products (session plan s))
tape_length_is plan p =
    let n = length plan.sessions in
    let each = length plan.groups - 1 in
    let held = least_held plan p (length plan.groups) in
    total_eq n _ _ (λ s l. words_are plan p s)
    ∙ total_add n (λ s. each * deals plan p s) (λ s. held * (2 * prepared_products (session plan s)))
    ∙ ap₂ (λ a b. a + b) (total_mul_left n each (deals plan p)) (total_mul_left n held (λ s. 2 * prepared_products (session plan s)))

-- ---- messages

pub length_one : {A : Type 0} (b : Bool) (x : A) → from_bool b ≡ length (only_if b (x ∷ []))
length_one true x = refl
length_one false x = refl

pub at_most_one : (b : Bool) → from_bool b ≤ 1
at_most_one true = omega arith
at_most_one false = omega arith

-- the step of a loop that counts
pub count_step : {A : Type 0} (n : ℕ) (f : ℕ → List A) (before added : ℕ) → before ≡ length (joined n f) → added ≡ length (f n) → before + added ≡ length (joined (n + 1) f)
count_step n f before added e here = ap₂ (λ a b. a + b) e here ∙ sym (length-append (joined n f) (f n)) ∙ ap length (sym (joined_more n f))

-- summand i of an opening to r
abbrev pub open_message : Plan → ℕ → ℕ → ℕ → ℕ → List Key
open_message plan s k r i = only_if (not (is_holder plan r i)) (record { session = s; slot = k; share = i; sender = holder_of plan i; receiver = r } ∷ [])

-- summand i of a deal by another sender for each summand: as many messages in each slot
rows_length : (plan : Plan) (s k : ℕ) (sender : ℕ → ℕ) → length (joined (length plan.groups) (λ i. joined plan.parties (deal_message plan s k (sender i) i)))
    ≡ length (joined (length plan.groups) (λ i. joined plan.parties (deal_message plan 0 0 (sender i) i)))
rows_length plan s k sender =
    let row : (i : ℕ) → length (joined plan.parties (deal_message plan s k (sender i) i)) ≡ length (joined plan.parties (deal_message plan 0 0 (sender i) i)) = λ i.
    length-joined plan.parties (deal_message plan s k (sender i) i)
    ∙ total_eq plan.parties _ _ (λ q l. length_only_if _ (_ ∷ []) ∙ sym (length_only_if _ (_ ∷ [])))
    ∙ sym (length-joined plan.parties (deal_message plan 0 0 (sender i) i)) in
    length-joined (length plan.groups) (λ i. joined plan.parties (deal_message plan s k (sender i) i))
    ∙ total_eq (length plan.groups) _ _ (λ i l. row i)
    ∙ sym (length-joined (length plan.groups) (λ i. joined plan.parties (deal_message plan 0 0 (sender i) i)))

deal_length : (plan : Plan) (s k p : ℕ) → length (deal_messages plan s k p) ≡ length (deal_messages plan 0 0 p)
deal_length plan s k p = rows_length plan s k (λ i. p)

kept_length : (plan : Plan) (s k : ℕ) → length (kept_messages plan s k) ≡ length (kept_messages plan 0 0)
kept_length plan s k =
    let row : (i : ℕ) → length (joined plan.parties (kept_message plan s k i)) ≡ length (joined plan.parties (kept_message plan 0 0 i)) = λ i.
    length-joined plan.parties (kept_message plan s k i)
    ∙ total_eq plan.parties _ _ (λ p l. length_only_if (is_holder plan p i) (_ ∷ []) ∙ sym (length_only_if (is_holder plan p i) (_ ∷ [])))
    ∙ sym (length-joined plan.parties (kept_message plan 0 0 i)) in
    length-joined (length plan.groups) (λ i. joined plan.parties (kept_message plan s k i))
    ∙ total_eq (length plan.groups) _ _ (λ i l. row i)
    ∙ sym (length-joined (length plan.groups) (λ i. joined plan.parties (kept_message plan 0 0 i)))

open_length : (plan : Plan) (s k r : ℕ) → length (open_messages plan s k r) ≡ length (open_messages plan 0 0 r)
open_length plan s k r =
    length-joined (length plan.groups) (open_message plan s k r)
    ∙ total_eq (length plan.groups) _ _ (λ i l. length_only_if (not (is_holder plan r i)) (_ ∷ []) ∙ sym (length_only_if (not (is_holder plan r i)) (_ ∷ [])))
    ∙ sym (length-joined (length plan.groups) (open_message plan 0 0 r))

pick_term : (f : ℕ → ℕ) (d p : ℕ) → (if nat_eq d p then f d else 0) ≡ f p * one (nat_eq d p)
pick_term f d p = elim (cases_eq d p) [
  | inl e ↦ cond-true (nat_eq d p) (f d) 0 (eq-eqb d p e) ∙ ap f e ∙ (let here : one (nat_eq d p) ≡ 1 = cond-true _ 1 0 (eq-eqb d p e) in omega (arith, ap (λ z. f p * z) here))
  | inr ne ↦ cond-false (nat_eq d p) (f d) 0 (ne_eqb d p ne) ∙ (let here : one (nat_eq d p) ≡ 0 = cond-false _ 1 0 (ne_eqb d p ne) in omega (arith, ap (λ z. f p * z) here))
]

module _ (plan : Plan) (s : ℕ) where
  abbrev deal_size : ℕ → ℕ
  deal_size p = length (deal_messages plan 0 0 p)

  abbrev open_size : ℕ → ℕ
  open_size r = length (open_messages plan 0 0 r)

  abbrev mask_size : ℕ
  mask_size = length (mask_messages plan 0 0)

  abbrev kept_size : ℕ
  kept_size = length (kept_messages plan 0 0)

  -- what party p deals and is opened in a slot
  abbrev share_of : Slot → ℕ → ℕ
  share_of z p = deal_size p * one (deals_in plan s p z) + open_size p * one (opens_to plan s p z)

  -- the messages of a slot, by what is done there
  abbrev size_of : Slot → ℕ
  size_of z = total plan.parties (share_of z) + mask_size * one (is_mask z) + kept_size * one (is_kept z)

  -- where nothing is masked or kept
  plain_size : (z : Slot) → is_mask z ≡ false → is_kept z ≡ false → total plan.parties (share_of z) ≡ size_of z
  plain_size z plain passing =
      let unmasked : one (is_mask z) ≡ 0 = ap one plain in
      let unkept : one (is_kept z) ≡ 0 = ap one passing in
      omega (arith, ap (λ n. mask_size * n) unmasked, ap (λ n. kept_size * n) unkept)

  -- where none opens
  dealt_size : (k : ℕ) (z : Slot) → ((p : ℕ) → opens_to plan s p z ≡ false) → is_mask z ≡ false → is_kept z ≡ false → length (product_messages plan s k z) ≡ size_of z
  dealt_size k z none plain passing =
      length-joined plan.parties (λ p. only_if (deals_in plan s p z) (deal_messages plan s k p))
      ∙ total_eq plan.parties (λ p. length (only_if (deals_in plan s p z) (deal_messages plan s k p))) (share_of z) (λ p l.
      length_only_if (deals_in plan s p z) (deal_messages plan s k p)
      ∙ ap (λ n. n * one (deals_in plan s p z)) (deal_length plan s k p)
      ∙ (let opened : one (opens_to plan s p z) ≡ 0 = ap one (none p) in omega (arith, ap (λ n. open_size p * n) opened)))
      ∙ plain_size z plain passing

  -- where none deals
  opened_size : (k : ℕ) (z : Slot) → ((p : ℕ) → deals_in plan s p z ≡ false) → is_mask z ≡ false → is_kept z ≡ false
      → length (joined plan.parties (λ r. only_if (opens_to plan s r z) (open_messages plan s k r))) ≡ size_of z
  opened_size k z none plain passing =
      length-joined plan.parties (λ r. only_if (opens_to plan s r z) (open_messages plan s k r))
      ∙ total_eq plan.parties (λ r. length (only_if (opens_to plan s r z) (open_messages plan s k r))) (share_of z) (λ r l.
      length_only_if (opens_to plan s r z) (open_messages plan s k r)
      ∙ ap (λ n. n * one (opens_to plan s r z)) (open_length plan s k r)
      ∙ (let dealt : one (deals_in plan s r z) ≡ 0 = ap one (none r) in omega (arith, ap (λ n. deal_size r * n) dealt)))
      ∙ plain_size z plain passing

  -- of an input that a party gives, or that is carried
  input_size : (k : ℕ) (from : Source) → ((p : ℕ) → from ≡ Given p → p < plan.parties)
      → length (input_messages plan s k from) ≡ total plan.parties (λ p. deal_size p * one (given_by p from) + open_size p * 0)
  input_size k (Given d) party =
      deal_length plan s k d
      ∙ sym (total_pick plan.parties d (deal_size d) (party d refl))
      ∙ total_eq plan.parties (λ p. if nat_eq d p then deal_size d else 0) (λ p. deal_size p * one (nat_eq d p) + open_size p * 0) (λ p l. pick_term deal_size d p ∙ omega arith)
  input_size k (Earlier r c i) party = sym (total_zero plan.parties (λ p. deal_size p * 0 + open_size p * 0) (λ p l. omega arith))

  size_is : ((v p : ℕ) → v < length (owners (session plan s)) → source (session plan s) v ≡ Given p → p < plan.parties) → (k : ℕ) (z : Slot) → Inside (session plan s) z → length (slot_messages plan s k z) ≡ size_of z
  size_is parties k (Input v) lv = input_size k (source (session plan s) v) (λ p e. parties v p lv e) ∙ plain_size (Input v) refl refl
  size_is parties k (At_gate t) lt = dealt_size k (At_gate t) (λ p. refl) refl refl
  size_is parties k (Output o) lo = opened_size k (Output o) (λ p. refl) refl refl
  size_is parties k (Mask t side) inside =
      let none = total_zero plan.parties (share_of (Mask t side)) (λ p l. omega arith) in
      rows_length plan s k (holder_of plan) ∙ omega (arith, none)
  size_is parties k (Mask_product t) inside = dealt_size k (Mask_product t) (λ p. refl) refl refl
  size_is parties k (Masked t side) inside = opened_size k (Masked t side) (λ p. refl) refl refl
  size_is parties k (Kept j) inside =
      let none = total_zero plan.parties (share_of (Kept j)) (λ p l. omega arith) in
      kept_length plan s k ∙ omega (arith, none)

  session_by_party : ((v p : ℕ) → v < length (owners (session plan s)) → source (session plan s) v ≡ Given p → p < plan.parties)
      → session_count plan s ≡ total plan.parties (λ p. deal_size p * deals plan p s + open_size p * openings plan p s)
      + mask_size * (2 * prepared_products (session plan s)) + kept_size * length (session plan s).kept
  session_by_party parties =
      let n = slots plan s in
      let by_party : total n (λ k. total plan.parties (share_of (slot plan s k))) ≡ total plan.parties (λ p. deal_size p * deals plan p s + open_size p * openings plan p s) =
      total_swap n plan.parties (λ k p. share_of (slot plan s k) p)
      ∙ total_eq plan.parties _ _ (λ p l.
      total_add n (λ k. deal_size p * one (deals_in plan s p (slot plan s k))) (λ k. open_size p * one (opens_to plan s p (slot plan s k)))
      ∙ ap₂ (λ a b. a + b) (total_mul_left n (deal_size p) (λ k. one (deals_in plan s p (slot plan s k))))
      (total_mul_left n (open_size p) (λ k. one (opens_to plan s p (slot plan s k))) ∙ ap (λ z. open_size p * z) (openings_are plan s p))) in
      total_eq n _ _ (λ k l. slot_kinds (session plan s) (λ m z. length (slot_messages plan s k z) ≡ size_of z) (λ z inside. size_is parties k z inside) k l)
      ∙ total_add n (λ k. total plan.parties (share_of (slot plan s k)) + mask_size * one (is_mask (slot plan s k))) (λ k. kept_size * one (is_kept (slot plan s k)))
      ∙ ap₂ (λ a b. a + b)
      (total_add n (λ k. total plan.parties (share_of (slot plan s k))) (λ k. mask_size * one (is_mask (slot plan s k)))
      ∙ ap₂ (λ a b. a + b) by_party (total_mul_left n mask_size (λ k. one (is_mask (slot plan s k))) ∙ ap (λ z. mask_size * z) (masks_are plan s)))
      (total_mul_left n kept_size (λ k. one (is_kept (slot plan s k))) ∙ ap (λ z. kept_size * z) (kept_are plan s))

pub messages_by_party : (plan : Plan) → ((s v p : ℕ) → s < length plan.sessions → v < length (owners (session plan s)) → source (session plan s) v ≡ Given p → p < plan.parties)
    → length (messages plan) ≡ total plan.parties (party_messages plan) + masks_messages plan + keeping_messages plan
messages_by_party plan parties =
    let n = length plan.sessions in
    let dealt : ℕ → ℕ = λ p. length (deal_messages plan 0 0 p) in
    let opened : ℕ → ℕ = λ p. length (open_messages plan 0 0 p) in
    let masks : ℕ → ℕ = λ s. length (mask_messages plan 0 0) * (2 * prepared_products (session plan s)) in
    let share : ℕ → ℕ → ℕ = λ s p. dealt p * deals plan p s + opened p * openings plan p s in
    length-messages plan
    ∙ total_eq n _ _ (λ s ls. session_by_party plan s (λ v p lv e. parties s v p ls lv e))
    ∙ total_add n (λ s. total plan.parties (share s) + masks s) (λ s. length (kept_messages plan 0 0) * length (session plan s).kept)
    ∙ ap₂ (λ a b. a + b)
    (total_add n (λ s. total plan.parties (share s)) masks
    ∙ ap₂ (λ a b. a + b)
    (total_swap n plan.parties share
    ∙ total_eq plan.parties _ _ (λ p l.
    total_add n (λ s. dealt p * deals plan p s) (λ s. opened p * openings plan p s)
    ∙ ap₂ (λ a b. a + b) (total_mul_left n (dealt p) (deals plan p)) (total_mul_left n (opened p) (openings plan p))))
    (total_mul_left n (length (mask_messages plan 0 0)) (λ s. 2 * prepared_products (session plan s))))
    (total_mul_left n (length (kept_messages plan 0 0)) (λ s. length (session plan s).kept))
