-- What a party computes by itself reads its own inputs and tape, and the words that came to it.
use Rattle.std.proofs.Common.{◌≡◌, ℕ, ◌+◌, ◌%◌, ◌^◌, Bool, true, false, nat_eq, nat_lt, if◌then◌else◌, List, [], length, refl, sym, ap, ◌∙◌, subst}
use Rattle.std.specs.Prelude.{slice_index, slice_index_or}
use Rattle.std.proofs.Math.Path.{fun_ext}
use Rattle.std.proofs.lemmas.Bool.{eqb-true}
use Rattle.list_laws.specs.Lists.{total}
use Rattle.secret_sharing.specs.Schemes.{Run, dealt, own_product, own_value, product_summand, summands}
use Rattle.secret_sharing.specs.Prepared.{joined_summand, masked}
use Rattle.session_slots.specs.declared.side.Side.{Side}
use Rattle.session_slots.specs.declared.side.Side.TheVariants.{First, Second}
use Rattle.session_slots.specs.declared.source.Source.{Source}
use Rattle.session_slots.specs.declared.source.Source.TheVariants.{Given, Earlier}
use Rattle.session_slots.specs.Sessions.{Slot, gate, kept_wire, operand, output_wire, owners, source}
use Rattle.session_slots.specs.Sessions.Slot.{Input, At_gate, Output, Mask, Mask_product, Masked, Kept}
use Rattle.session_slots.specs.SoundSessions.{Inside}
use Rattle.session_slots.proofs.SessionSlots.{slot_there}
use Rattle.plan_model.specs.declared.key.Key.{Key}
use Rattle.plan_model.specs.InputWords.{InputLists}
use Rattle.plan_model.specs.Messages.{messages}
use Rattle.plan_model.specs.Numbers.{no_key}
use Rattle.plan_model.specs.Plans.{given_before, is_holder, least_held, holder_of, place, scheme, session, slot_number}
use Rattle.plan_model.proofs.DistinctMessages.{every_place}
use Rattle.share_world.specs.Locals.{kept_key, key_at, local_deal, local_excess, local_mask, local_mask_product, local_opened, local_product, local_run, local_source, local_start, local_word, local_word_in}
use Rattle.share_world.specs.Worlds.{World, input_of, mask, source_input, tape_word}
use Rattle.share_world.proofs.GoingMessages.{Goes}
use Rattle.share_world.proofs.SentWords.{every_message}
use Rattle.posting_laws.specs.Locality.{ComputesSame, HasOwn, SameCame, WordsAreOwn}

-- a choice between equals, in either case
choose : {A : Type 0} (b : Bool) (x y u v : A) → (b ≡ true → x ≡ u) → (b ≡ false → y ≡ v) → (if b then x else y) ≡ (if b then u else v)
choose true x y u v h k = h refl
choose false x y u v h k = k refl

module _ (w : World) (p : ℕ) (inputs : InputLists) (tapes : List (List ℕ)) (got came : Key → ℕ) (own : HasOwn w p inputs tapes) (same : SameCame p got came) where
  abbrev other : World
  other = record w { inputs = inputs; tapes = tapes }

  drawn : (s : ℕ) (kind : Slot) → tape_word w s kind p ≡ tape_word other s kind p
  drawn s kind = ap {B = ℕ → ℕ} (λ (tape : List ℕ) (i : ℕ). slice_index tape (place w.plan p s (slot_number w.plan s kind) + i)) (sym own.tape)

  given_same : (s v : ℕ) → source (session w.plan s) v ≡ Given p → input_of w s v ≡ input_of other s v
  given_same s v is =
      ap (source_input w s v) is ∙ ap (λ (mine : List (List ℕ)). slice_index (slice_index_or mine s []) (given_before w.plan p s v)) (sym own.input)
      ∙ ap (source_input other s v) (sym is)

  mask_same : (s t : ℕ) (side : Side) (i : ℕ) → holder_of w.plan i ≡ p → mask w s t side i ≡ mask other s t side i
  mask_same s t side i is =
      ap (λ q. tape_word w s (Mask t side) q (least_held w.plan q i)) is ∙ ap (λ (word : ℕ → ℕ). word (least_held w.plan p i)) (drawn s (Mask t side))
      ∙ ap (λ q. tape_word other s (Mask t side) q (least_held w.plan q i)) (sym is)

  masks : (s t : ℕ) (side : Side) → local_mask w got p s t side ≡ local_mask other came p s t side
  masks s t side = fun_ext (λ i. choose (nat_eq (holder_of w.plan i) p) _ _ _ _
      (λ yes. mask_same s t side i (eqb-true (holder_of w.plan i) p yes)) (λ no. same (key_at w.plan s (Mask t side) i (holder_of w.plan i) p) refl))

  deal : (s : ℕ) (kind : Slot) (q a b i : ℕ) → (q ≡ p → a ≡ b) → local_deal w got p s kind q a i ≡ local_deal other came p s kind q b i
  deal s kind q a b i value = choose (nat_eq q p) _ _ _ _
      (λ yes. ap (λ n. dealt (scheme w.plan) n (tape_word w s kind p) i) (value (eqb-true q p yes)) ∙ ap (λ (word : ℕ → ℕ). dealt (scheme w.plan) b word i) (drawn s kind))
      (λ no. same (key_at w.plan s kind i q p) refl)

  deals : (s : ℕ) (kind : Slot) → local_deal w got p s kind ≡ local_deal other came p s kind
  deals s kind = fun_ext (λ q. fun_ext (λ a. fun_ext (λ i. deal s kind q a a i (λ is. refl))))

  opened : (s : ℕ) (kind : Slot) (held kept : ℕ → ℕ) → held ≡ kept → local_opened w got p s kind held ≡ local_opened other came p s kind kept
  opened s kind held kept are = ap (λ (f : ℕ → ℕ). total (length w.plan.groups) f % 2 ^ w.plan.bits) (fun_ext (λ i. choose (is_holder w.plan p i) _ _ _ _
      (λ has. ap (λ (f : ℕ → ℕ). f i) are) (λ lacks. same (key_at w.plan s kind i (holder_of w.plan i) p) refl)))

  excess : (s t : ℕ) (side : Side) (x : ℕ → ℕ) → local_excess w got p s t side x ≡ local_excess other came p s t side x
  excess s t side x = opened s (Masked t side) _ _ (ap (masked (scheme w.plan) x) (masks s t side))

  mask_products : (s t : ℕ) → local_mask_product w got p s t ≡ local_mask_product other came p s t
  mask_products s t =
      ap (λ (d : ℕ → ℕ → ℕ → ℕ). product_summand (scheme w.plan) d (local_mask w got p s t First) (local_mask w got p s t Second)) (deals s (Mask_product t))
      ∙ ap (λ (a : ℕ → ℕ). product_summand (scheme w.plan) (local_deal other came p s (Mask_product t)) a (local_mask w got p s t Second)) (masks s t First)
      ∙ ap (product_summand (scheme w.plan) (local_deal other came p s (Mask_product t)) (local_mask other came p s t First)) (masks s t Second)

  joined : (s t : ℕ) (x y : ℕ → ℕ)
      → joined_summand (scheme w.plan).modulus (local_excess w got p s t First x) (local_excess w got p s t Second y) (local_mask w got p s t First) (local_mask w got p s t Second) (local_mask_product w got p s t)
      ≡ joined_summand (scheme w.plan).modulus (local_excess other came p s t First x) (local_excess other came p s t Second y) (local_mask other came p s t First) (local_mask other came p s t Second) (local_mask_product other came p s t)
  joined s t x y =
      let q = (scheme w.plan).modulus in
      let e = local_excess w got p s t Second y in
      let a = local_mask w got p s t First in
      let b = local_mask w got p s t Second in
      let c = local_mask_product w got p s t in
      let d' = local_excess other came p s t First x in
      let e' = local_excess other came p s t Second y in
      let a' = local_mask other came p s t First in
      let b' = local_mask other came p s t Second in
      ap (λ d. joined_summand q d e a b c) (excess s t First x) ∙ ap (λ e. joined_summand q d' e a b c) (excess s t Second y)
      ∙ ap (λ (a : ℕ → ℕ). joined_summand q d' e' a b c) (masks s t First) ∙ ap (λ (b : ℕ → ℕ). joined_summand q d' e' a' b c) (masks s t Second)
      ∙ ap (joined_summand q d' e' a' b') (mask_products s t)

  product : (s t : ℕ) (x y : ℕ → ℕ) → local_product w got p s t x y ≡ local_product other came p s t x y
  product s t x y = choose (session w.plan s).prepared _ _ _ _ (λ yes. joined s t x y)
      (λ no. ap (λ (d : ℕ → ℕ → ℕ → ℕ). product_summand (scheme w.plan) d x y) (deals s (At_gate t)))

  from_source : (s v i : ℕ) (from : Source) → source (session w.plan s) v ≡ from → local_source w got p s v from i ≡ local_source other came p s v from i
  from_source s v i (Given q) is = deal s (Input v) q (input_of w s v) (input_of other s v) i (λ e. given_same s v (is ∙ ap (λ q. Given q) e))
  from_source s v i (Earlier r c at) is = same (kept_key w.plan r s v i p) refl

  start : (s v i : ℕ) → local_start w got p s v i ≡ local_start other came p s v i
  start s v i = choose (nat_lt v (length (owners (session w.plan s)))) _ _ _ _ (λ yes. from_source s v i (source (session w.plan s) v) refl) (λ no. refl)

  runs : (s : ℕ) → local_run w got p s ≡ local_run other came p s
  runs s =
      let from : (ℕ → ℕ → ℕ) → (ℕ → (ℕ → ℕ) → (ℕ → ℕ) → ℕ → ℕ) → Run = λ start product. record { scheme = scheme w.plan; gates = gate (session w.plan s); start = start; product = product } in
      ap (λ (f : ℕ → ℕ → ℕ). from f (local_product w got p s)) (fun_ext (λ v. fun_ext (start s v)))
      ∙ ap (from (local_start other came p s)) (fun_ext (λ t. fun_ext (λ x. fun_ext (λ y. product s t x y))))

  wires : (s n v : ℕ) → summands (local_run w got p s) n v ≡ summands (local_run other came p s) n v
  wires s n v = ap (λ (r : Run). summands r n v) (runs s)

  dealt_same : (s i a b : ℕ) (kind : Slot) → a ≡ b → dealt (scheme w.plan) a (tape_word w s kind p) i ≡ dealt (scheme w.plan) b (tape_word other s kind p) i
  dealt_same s i a b kind is = ap (λ n. dealt (scheme w.plan) n (tape_word w s kind p) i) is ∙ ap (λ (word : ℕ → ℕ). dealt (scheme w.plan) b word i) (drawn s kind)

  sent : (s : ℕ) (z : Slot) (i r : ℕ) → Goes w.plan s z i p r → local_word_in w got p (key_at w.plan s z i p r) z ≡ local_word_in other came p (key_at w.plan s z i p r) z
  sent s (Input v) i r goes = dealt_same s i _ _ (Input v) (given_same s v goes.0)
  sent s (At_gate t) i r goes = dealt_same s i _ _ (At_gate t) (ap (λ (run : Run). own_value run t p) (runs s))
  sent s (Mask_product t) i r goes = dealt_same s i _ _ (Mask_product t)
      (ap (λ (a : ℕ → ℕ). own_product (scheme w.plan) p a (local_mask w got p s t Second)) (masks s t First) ∙ ap (own_product (scheme w.plan) p (local_mask other came p s t First)) (masks s t Second))
  sent s (Output o) i r goes = ap (λ (x : ℕ → ℕ). x i) (wires s (length (session w.plan s).gates) (output_wire (session w.plan s) o))
  sent s (Mask t side) i r goes = ap (λ (x : ℕ → ℕ). x i) (masks s t side)
  sent s (Masked t side) i r goes =
      ap (λ (x : ℕ → ℕ). masked (scheme w.plan) x (local_mask w got p s t side) i) (wires s t (operand (gate (session w.plan s) t) side))
      ∙ ap (λ (m : ℕ → ℕ). masked (scheme w.plan) (summands (local_run other came p s) t (operand (gate (session w.plan s) t) side)) m i) (masks s t side)
  sent s (Kept j) i r goes = ap (λ (x : ℕ → ℕ). x i) (wires s (length (session w.plan s).gates) (kept_wire (session w.plan s) j))

  abbrev SendsSame : Key → Type 0
  SendsSame key = key.sender ≡ p → local_word w got p key ≡ local_word other came p key

  sends_same : (s : ℕ) (z : Slot) (i q r : ℕ) → Inside (session w.plan s) z → Goes w.plan s z i q r → SendsSame (key_at w.plan s z i q r)
  sends_same s z i q r inside goes is =
      let there = slot_there (session w.plan s) z inside in
      let mine : Goes w.plan s z i p r = subst (λ q. Goes w.plan s z i q r) is goes in
      subst (λ q. local_word w got p (key_at w.plan s z i q r) ≡ local_word other came p (key_at w.plan s z i q r)) (sym is)
      (ap (local_word_in w got p (key_at w.plan s z i p r)) there ∙ sent s z i r mine ∙ sym (ap (local_word_in other came p (key_at w.plan s z i p r)) there))

  computes_same : ComputesSame w other p got came
  computes_same = record {
    words = λ n l. every_place SendsSame (messages w.plan) n no_key (every_message SendsSame w.plan (λ s z i q r ls inside li lr goes. sends_same s z i q r inside goes)) l;
    outputs = λ s o. opened s (Output o) _ _ (wires s (length (session w.plan s).gates) (output_wire (session w.plan s) o));
  }

pub words_are_own : WordsAreOwn
words_are_own w p inputs tapes got came own same = computes_same w p inputs tapes got came own same
