-- The instructions of a half of a slot are the steps of its pattern.
use Rattle.std.proofs.Common.{◌≡◌, ℕ, suc, ◌+◌, ◌<◌, Bool, true, false, not, ◌&&◌, nat_eq, nat_lt, if◌then◌else◌, List, [], ◌∷◌, ◌++◌, map, length, refl, sym, ap, ap₂, ◌∙◌, subst, arith, append-nil}
use Rattle.std.specs.Prelude.{slice_index_or}
use Rattle.std.specs.List.{range_with_len, filter, enumerate_from}
use Rattle.std.proofs.lemmas.Bool.{cases_Bool, cond-true, cond-false}
use Rattle.std.proofs.lemmas.List.{map-append, get_or-map}
use mathlib.Core.Logic.{inl, inr}
use Rattle.list_laws.specs.Lists.{only_if}
use Rattle.circuit_model.specs.Circuits.{is_product}
use Rattle.secret_sharing.specs.Schemes.{has_pair}
use Rattle.plan_model.specs.declared.key.Key.{Key}
use Rattle.plan_model.specs.declared.pattern.Transfer.{Transfer}
use Rattle.plan_model.specs.declared.pattern.Pattern.{Pattern}
use Rattle.plan_model.specs.declared.pattern.Pattern.TheVariants.{Silent, Multiplied, Joined}
use Rattle.session_slots.specs.declared.source.Source.{Source}
use Rattle.session_slots.specs.declared.source.Source.TheVariants.{Given, Earlier}
use Rattle.session_slots.specs.Sessions.{Slot, gate, given_by, source}
use Rattle.plan_model.specs.Plans.{IsPlan, Plan, keeping_slot, scheme, session, slot, slots, opens_to, least_held}
use Rattle.session_slots.specs.Sessions.Slot.{Input, At_gate, Output, Mask, Mask_product, Masked, Kept}
use Rattle.plan_model.specs.Numbers.{message, no_key, deals_before}
use Rattle.plan_model.specs.Firsts.{first, numbers}
use Rattle.plan_model.specs.Patterns.{input_pattern, named, transfers, pattern, pattern_at}
use Rattle.plan_model.proofs.FewTransfers.{length-transfers}
use Rattle.plan_model.proofs.KeptPlaces.{kept_in}
use Rattle.plan_model.proofs.SlotMessages.{message_at}
use Rattle.plan_model.proofs.SlotPatterns.{map_only_if, slots_follow_patterns}
use Rattle.program_model.specs.declared.half.Half.{Half}
use Rattle.program_model.specs.declared.half.Half.TheVariants.{Head, Tail}
use Rattle.program_model.specs.declared.instruction.Instruction.{Instruction}
use Rattle.program_model.specs.declared.instruction.Instruction.TheVariants as instruction
use Rattle.party_program.specs.declared.step.Step.{Step}
use Rattle.party_program.specs.declared.step.Step.TheVariants.{Draw, Deal, Own, Deliver}
use Rattle.program_model.specs.Programs as programs
use Rattle.party_program.specs.PartySteps.{steps_before, steps_after, post_steps, take_steps, post_step, take_step, is_from, is_to, steps, taken_transfers, placed}

map_map : {A B C : Type 0} (f : B → C) (g : A → B) (xs : List A) → map f (map g xs) ≡ map (λ x. f (g x)) xs
map_map f g [] = refl
map_map f g (x ∷ xs) = ap (λ ys. f (g x) ∷ ys) (map_map f g xs)

-- what passes of a range of numbers is what passes of the transfers that stand at them
passing : (f : ℕ → Instruction) (test : ℕ → Bool) (g : ℕ × Transfer → Instruction) (check : ℕ × Transfer → Bool) (a j : ℕ) (ls : List Transfer)
    → ((i n m : ℕ) (d : Transfer) → i < length ls → n ≡ a + (j + i) → m ≡ j + i → (test n ≡ check (m, slice_index_or ls i d)) × (f n ≡ g (m, slice_index_or ls i d)))
    → map f (filter test (range_with_len (a + j) (length ls))) ≡ map g (filter check (enumerate_from j ls))
passing f test g check a j [] h = refl
passing f test g check a j (l ∷ ls) h =
    let here = h 0 (a + j) j l (omega arith) (omega arith) (omega arith) in
    let next : a + (j + 1) ≡ a + j + 1 = omega arith in
    let rest : map f (filter test (range_with_len (a + j + 1) (length ls))) ≡ map g (filter check (enumerate_from (j + 1) ls)) =
    subst (λ z. map f (filter test (range_with_len z (length ls))) ≡ map g (filter check (enumerate_from (j + 1) ls))) next
    (passing f test g check a (j + 1) ls (λ i n m d b e k. h (suc i) n m d (omega arith) (omega arith) (omega arith))) in
    elim (cases_Bool (check (j, l))) [
      | inl e ↦
          ap (map f) (cond-true (test (a + j)) ((a + j) ∷ filter test (range_with_len (a + j + 1) (length ls))) (filter test (range_with_len (a + j + 1) (length ls))) (here.0 ∙ e))
          ∙ ap₂ (λ x xs. x ∷ xs) here.1 rest
          ∙ ap (map g) (sym (cond-true (check (j, l)) ((j, l) ∷ filter check (enumerate_from (j + 1) ls)) (filter check (enumerate_from (j + 1) ls)) e))
      | inr e ↦
          ap (map f) (cond-false (test (a + j)) ((a + j) ∷ filter test (range_with_len (a + j + 1) (length ls))) (filter test (range_with_len (a + j + 1) (length ls))) (here.0 ∙ e))
          ∙ rest
          ∙ ap (map g) (sym (cond-false (check (j, l)) ((j, l) ∷ filter check (enumerate_from (j + 1) ls)) (filter check (enumerate_from (j + 1) ls)) e))
    ]

-- the pattern of a gate, by whether products are prepared and whether it is one
abbrev pub gate_pattern : Bool → Bool → Pattern
gate_pattern prepared product = if not prepared && product then Multiplied else if prepared && product then Joined else Silent

-- in slot k, where the first message that is posted or taken has this number
module _ (plan : Plan) (p s k number : ℕ) where
  abbrev place : Step → Instruction
  place = placed k number (deals_before plan p s k)

  dealt_product : only_if (has_pair (scheme plan) p) (instruction.Own k ∷ instruction.Deal k (deals_before plan p s k) ∷ []) ≡ map place (steps_before plan p Multiplied)
  dealt_product = sym (map_only_if place (has_pair (scheme plan) p) (Own ∷ Deal ∷ []))

  before_gate : (prepared product : Bool)
      → only_if ((not prepared && product) && has_pair (scheme plan) p) (instruction.Own k ∷ instruction.Deal k (deals_before plan p s k) ∷ []) ++ only_if (not product) (instruction.Linear k ∷ [])
      ≡ map place (steps_before plan p (gate_pattern prepared product))
  before_gate true true = refl
  before_gate true false = refl
  before_gate false true = append-nil (only_if (has_pair (scheme plan) p) (instruction.Own k ∷ instruction.Deal k (deals_before plan p s k) ∷ [])) ∙ dealt_product
  before_gate false false = refl

  opening_is : (z : Slot) → programs.opening plan p s k z ≡ map place (steps_before plan p (pattern plan s z))
  opening_is (Input v) = of_input (source (session plan s) v)
    where
      of_input : (from : Source) → only_if (given_by p from) (instruction.Deal k (deals_before plan p s k) ∷ []) ≡ map place (steps_before plan p (input_pattern from))
      of_input (Given q) = sym (map_only_if place (nat_eq q p) (Deal ∷ []))
      of_input (Earlier r c i) = refl
  opening_is (At_gate t) = before_gate (session plan s).prepared (is_product (gate (session plan s) t).operation)
  opening_is (Output o) = refl
  opening_is (Mask t side) = sym (map_only_if place (nat_lt 0 (least_held plan p (length plan.groups))) (Draw ∷ []))
  opening_is (Mask_product t) = dealt_product
  opening_is (Masked t side) = refl
  opening_is (Kept j) = refl

  after_gate : (prepared product : Bool) → only_if (not prepared && product) (instruction.Sum k ∷ []) ++ only_if (prepared && product) (instruction.Join k ∷ [])
      ≡ map place (steps_after p (gate_pattern prepared product))
  after_gate true true = refl
  after_gate true false = refl
  after_gate false true = refl
  after_gate false false = refl

  closing_is : (z : Slot) → programs.closing plan p s k z ≡ map place (steps_after p (pattern plan s z))
  closing_is (Input v) = of_input (source (session plan s) v)
    where
      of_input : (from : Source) → [] ≡ map place (steps_after p (input_pattern from))
      of_input (Given q) = refl
      of_input (Earlier r c i) = refl
  closing_is (At_gate t) = after_gate (session plan s).prepared (is_product (gate (session plan s) t).operation)
  closing_is (Output o) = sym (map_only_if place (opens_to plan s p (Output o)) (Deliver ∷ []))
  closing_is (Mask t side) = refl
  closing_is (Mask_product t) = refl
  closing_is (Masked t side) = refl
  closing_is (Kept j) = refl

-- the messages of slot m of session r, as they are posted or taken in slot k, where so many deals stand before
module _ (plan : Plan) (p r m k deals : ℕ) (lr : r < length plan.sessions) (lm : m < slots plan r) where
  abbrev named_there : Step → Instruction
  named_there = placed k (first plan r m) deals

  abbrev there : Pattern
  there = pattern_at plan r m

  -- the message of a transfer
  transfer_is : (i n : ℕ) (d : Transfer) → i < length (transfers plan there) → n ≡ first plan r m + i → message plan n ≡ named r m (slice_index_or (transfers plan there) i d)
  transfer_is i n d l e =
      ap (message plan) e
      ∙ message_at plan r m lr lm i (let long = length-transfers plan r m in omega arith)
      ∙ ap (λ xs. slice_index_or xs i no_key) (slots_follow_patterns plan r m (slot plan r m))
      ∙ get_or-map (named r m) (transfers plan there) i d no_key l

  numbers_are : (f : ℕ → Instruction) (test : ℕ → Bool) (g : ℕ × Transfer → Step) (check : ℕ × Transfer → Bool)
      → ((n j : ℕ) (x : Transfer) → n ≡ first plan r m + j → message plan n ≡ named r m x → (test n ≡ check (j, x)) × (f n ≡ named_there (g (j, x))))
      → map f (filter test (numbers plan r m)) ≡ map named_there (map g (filter check (enumerate_from 0 (transfers plan there))))
  numbers_are f test g check h =
      let none : first plan r m + 0 ≡ first plan r m = omega arith in
      ap (λ z. map f (filter test (range_with_len (first plan r m) z))) (length-transfers plan r m)
      ∙ ap (λ z. map f (filter test (range_with_len z (length (transfers plan there))))) (sym none)
      ∙ passing f test (λ e. named_there (g e)) check (first plan r m) 0 (transfers plan there) (λ i n j d l e o. h n j (slice_index_or (transfers plan there) i d) (omega arith) (transfer_is i n d l (omega arith)))
      ∙ sym (map_map named_there g (filter check (enumerate_from 0 (transfers plan there))))

  posts_there : map (programs.post plan) (filter (programs.from plan p) (numbers plan r m)) ≡ map named_there (post_steps plan p there)
  posts_there = numbers_are (programs.post plan) (programs.from plan p) post_step (is_from p) (λ n j x e is. (ap (λ (key : Key). nat_eq key.sender p) is, ap₂ instruction.Post e (ap (λ (key : Key). key.share) is)))

  takes_there : map (programs.take_of plan) (filter (programs.to plan p) (numbers plan r m)) ≡ map named_there (map take_step (filter (is_to p) (enumerate_from 0 (transfers plan there))))
  takes_there = numbers_are (programs.take_of plan) (programs.to plan p) take_step (is_to p) (λ n j x e is. (ap (λ (key : Key). nat_eq key.receiver p) is, ap₂ instruction.Take e (ap (λ (key : Key). key.share) is)))

module _ (plan : Plan) (p s k : ℕ) (is : IsPlan plan) (ls : s < length plan.sessions) (lk : k < slots plan s) where
  abbrev its : Pattern
  its = pattern_at plan s k

  abbrev deals : ℕ
  deals = deals_before plan p s k

  abbrev own : Step → Instruction
  own = placed k (first plan s k) deals

  -- the posts, for a slot that is of this
  posts_of : (z : Slot) → slot plan s k ≡ z → programs.posts plan p s k ≡ map own (post_steps plan p (pattern plan s z))
  posts_of z e = posts_there plan p s k k deals ls lk ∙ ap (λ z. map own (post_steps plan p (pattern plan s z))) e

  posts_are : (z : Slot) → slot plan s k ≡ z → programs.posts plan p s k ≡ map (placed k (programs.first_in plan s k z) deals) (post_steps plan p (pattern plan s z))
  posts_are (Input v) e = posts_of (Input v) e ∙ of_input (source (session plan s) v)
    where
      of_input : (from : Source) → map own (post_steps plan p (input_pattern from)) ≡ map (placed k (programs.first_of_input plan s k v from) deals) (post_steps plan p (input_pattern from))
      of_input (Given q) = refl
      of_input (Earlier r c i) = refl
  posts_are (At_gate t) e = posts_of (At_gate t) e
  posts_are (Output o) e = posts_of (Output o) e
  posts_are (Mask t side) e = posts_of (Mask t side) e
  posts_are (Mask_product t) e = posts_of (Mask_product t) e
  posts_are (Masked t side) e = posts_of (Masked t side) e
  posts_are (Kept j) e = posts_of (Kept j) e

  -- the takes of its own messages
  takes_of : (z : Slot) → slot plan s k ≡ z → map (programs.take_of plan) (filter (programs.to plan p) (numbers plan s k)) ≡ map own (map take_step (filter (is_to p) (enumerate_from 0 (transfers plan (pattern plan s z)))))
  takes_of z e = takes_there plan p s k k deals ls lk ∙ ap (λ z. map own (map take_step (filter (is_to p) (enumerate_from 0 (transfers plan (pattern plan s z)))))) e

  gate_taken : (prepared product : Bool) → transfers plan (gate_pattern prepared product) ≡ taken_transfers plan (gate_pattern prepared product)
  gate_taken true true = refl
  gate_taken true false = refl
  gate_taken false true = refl
  gate_taken false false = refl

  -- those of an input, which may be carried
  of_source : (v : ℕ) → slot plan s k ≡ Input v → (from : Source) → source (session plan s) v ≡ from
      → map (programs.take_of plan) (filter (programs.to plan p) (programs.input_taken plan s k v from)) ≡ map (placed k (programs.first_of_input plan s k v from) deals) (take_steps plan p (input_pattern from))
  of_source v e (Given q) same = takes_of (Input v) e ∙ ap (λ from. map own (map take_step (filter (is_to p) (enumerate_from 0 (transfers plan (input_pattern from)))))) same
  of_source v e (Earlier r c i) same =
      let at = kept_in plan is s v r c i same in
      let m = keeping_slot plan s v r in
      takes_there plan p r m k deals (omega (arith, at.earlier, at.session_there)) at.slot_there
      ∙ ap (λ z. map (placed k (first plan r m) deals) (map take_step (filter (is_to p) (enumerate_from 0 (transfers plan (pattern plan r z)))))) at.slot_is

  takes_are : (z : Slot) → slot plan s k ≡ z → map (programs.take_of plan) (filter (programs.to plan p) (programs.taken_in plan s k z)) ≡ map (placed k (programs.first_in plan s k z) deals) (take_steps plan p (pattern plan s z))
  takes_are (Input v) e = of_source v e (source (session plan s) v) refl
  takes_are (At_gate t) e = takes_of (At_gate t) e ∙ ap (λ rows. map own (map take_step (filter (is_to p) (enumerate_from 0 rows)))) (gate_taken (session plan s).prepared (is_product (gate (session plan s) t).operation))
  takes_are (Output o) e = takes_of (Output o) e
  takes_are (Mask t side) e = takes_of (Mask t side) e
  takes_are (Mask_product t) e = takes_of (Mask_product t) e
  takes_are (Masked t side) e = takes_of (Masked t side) e
  takes_are (Kept j) e = refl

  abbrev placed_here : Step → Instruction
  placed_here = placed k (programs.first_named plan s k) deals

  pub half_program_follows : (half : Half) → programs.half_program plan p s half k ≡ map placed_here (steps plan p half its)
  half_program_follows Head = ap₂ (λ x y. x ++ y) (opening_is plan p s k (programs.first_named plan s k) (slot plan s k)) (posts_are (slot plan s k) refl) ∙ sym (map-append placed_here (steps_before plan p its) (post_steps plan p its))
  half_program_follows Tail = ap₂ (λ x y. x ++ y) (takes_are (slot plan s k) refl) (closing_is plan p s k (programs.first_named plan s k) (slot plan s k)) ∙ sym (map-append placed_here (take_steps plan p its) (steps_after p its))
