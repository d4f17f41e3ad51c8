-- What stands in the halves of products: in a head posts come after the own product and its deal, and in a tail takes
-- before the sum.
use Rattle.std.proofs.Common.{◌≡◌, ◌≢◌, ℕ, zero, suc, ◌+◌, ◌<◌, ◌≤◌, true, nat_eq, nat_lt, List, [], ◌∷◌, ◌++◌, map, length, refl, sym, ap, ◌∙◌, subst, inl, inr, arith}
use Rattle.std.specs.Prelude.{slice_index_or}
use Rattle.std.specs.List.{AllByRecursion, filter, enumerate_from}
use Rattle.std.proofs.lemmas.Bool.{cases_lt}
use Rattle.list_laws.specs.Lists.{only_if}
use Rattle.list_laws.proofs.JoinedLists.{every_append, every_only_if}
use Rattle.secret_sharing.specs.Schemes.{has_pair}
use Rattle.plan_model.specs.declared.pattern.Transfer.{Transfer}
use Rattle.plan_model.specs.declared.pattern.Pattern.{Pattern}
use Rattle.plan_model.specs.declared.pattern.Pattern.TheVariants.{Silent, Dealt, Multiplied, Opened, HandedOut, OpenedToAll, Joined, Held, Received}
use Rattle.plan_model.specs.Plans.{IsPlan, Plan, least_held, scheme, slots}
use Rattle.plan_model.specs.Numbers.{deals_before}
use Rattle.plan_model.specs.Patterns.{transfers, pattern_at}
use Rattle.plan_model.proofs.DistinctMessages.{every_place}
use Rattle.program_model.specs.declared.half.Half.{Half}
use Rattle.program_model.specs.declared.half.Half.TheVariants.{Head, Tail}
use Rattle.party_program.specs.declared.place.Place.{Place}
use Rattle.program_model.specs.declared.instruction.Instruction.TheVariants as instruction
use Rattle.party_program.specs.declared.step.Step.{Step}
use Rattle.party_program.specs.declared.step.Step.TheVariants.{Draw, Deal, Own, Post, Take, Linear, Sum, Open, Join, Deliver}
use Rattle.program_model.specs.Programs.{first_named, half_program, program, at}
use Rattle.party_program.specs.PartySteps.{steps_before, post_steps, take_steps, post_step, take_step, is_from, is_to, steps, placed}
use Rattle.party_program.specs.ProgramPlaces.{InProduct, IsPlace}
use Rattle.party_program.proofs.ProgramPlaces.{count_at, ends_there, in_slot, instruction_is, length-half, step_is}
use Rattle.party_program.proofs.GateSlots.{product_count, product_there}

abbrev IsPost : Step → Type 0
IsPost (Post share place) = Unit {0}
IsPost _ = ⊥

abbrev IsTake : Step → Type 0
IsTake (Take share place) = Unit {0}
IsTake _ = ⊥

abbrev NotTake : Step → Type 0
NotTake (Take share place) = ⊥
NotTake _ = Unit {0}

every_map : (P : Step → Type 0) (f : ℕ × Transfer → Step) (ys : List (ℕ × Transfer)) → ((y : ℕ × Transfer) → P (f y)) → AllByRecursion P (map f ys)
every_map P f [] h = tt
every_map P f (y ∷ ys) h = (h y, every_map P f ys h)

-- P holds of all from the third on
from_two : (P : Step → Type 0) (a b : Step) (ps xs : List Step) (i : ℕ) (d : Step) → xs ≡ a ∷ b ∷ ps → AllByRecursion P ps → 2 ≤ i → i < length xs → P (slice_index_or xs i d)
from_two P a b ps xs zero d is h from l = absurd (omega (arith, from))
from_two P a b ps xs (suc zero) d is h from l = absurd (omega (arith, from))
from_two P a b ps xs (suc (suc j)) d is h from l =
    let long = ap (length {A = Step}) is in
    subst (λ zs. P (slice_index_or zs (suc (suc j)) d)) (sym is) (every_place P ps j d h (omega (arith, l, long)))

-- P holds of what comes before the last
before_last : (P : Step → Type 0) (xs : List Step) (x d : Step) (i : ℕ) → AllByRecursion P xs → i + 1 < length (xs ++ x ∷ []) → P (slice_index_or (xs ++ x ∷ []) i d)
before_last P [] x d i h l = absurd (omega (arith, l))
before_last P (y ∷ xs) x d zero h l = h.0
before_last P (y ∷ xs) x d (suc i) h l = before_last P xs x d i h.1 (omega (arith, l))

module _ (plan : Plan) (p : ℕ) where
  every_post : (P : Step → Type 0) → ((share place : ℕ) → P (Post share place)) → (pattern : Pattern) → AllByRecursion P (post_steps plan p pattern)
  every_post P h pattern = every_map P post_step (filter (is_from p) (enumerate_from 0 (transfers plan pattern))) (λ y. h y.1.share y.0)

  every_take : AllByRecursion IsTake (take_steps plan p Multiplied)
  every_take = every_map IsTake take_step (filter (is_to p) (enumerate_from 0 (transfers plan Multiplied))) (λ y. tt)

  head_post : has_pair (scheme plan) p ≡ true → (i : ℕ) (d : Step) → 2 ≤ i → i < length (steps plan p Head Multiplied) → IsPost (slice_index_or (steps plan p Head Multiplied) i d)
  head_post has i d =
      from_two IsPost Own Deal (post_steps plan p Multiplied) (steps plan p Head Multiplied) i d
      (ap (λ b. only_if b (Own ∷ Deal ∷ []) ++ post_steps plan p Multiplied) has) (every_post IsPost (λ a b. tt) Multiplied)

  tail_take : (i : ℕ) (d : Step) → i + 1 < length (steps plan p Tail Multiplied) → IsTake (slice_index_or (steps plan p Tail Multiplied) i d)
  tail_take i d l = before_last IsTake (take_steps plan p Multiplied) Sum d i every_take l

  none_before : (pattern : Pattern) → AllByRecursion NotTake (steps_before plan p pattern)
  none_before Silent = (tt, tt)
  none_before (Dealt q) = every_only_if NotTake (nat_eq q p) (Deal ∷ []) (λ e. (tt, tt))
  none_before Multiplied = every_only_if NotTake (has_pair (scheme plan) p) (Own ∷ Deal ∷ []) (λ e. (tt, (tt, tt)))
  none_before (Opened readers) = tt
  none_before HandedOut = every_only_if NotTake (nat_lt 0 (least_held plan p (length plan.groups))) (Draw ∷ []) (λ e. (tt, tt))
  none_before OpenedToAll = tt
  none_before Joined = tt
  none_before Held = tt
  none_before Received = tt

  head_not_take : (pattern : Pattern) (i : ℕ) (d : Step) → i < length (steps plan p Head pattern) → NotTake (slice_index_or (steps plan p Head pattern) i d)
  head_not_take pattern i d =
      every_place NotTake (steps plan p Head pattern) i d
      (every_append NotTake (steps_before plan p pattern) (post_steps plan p pattern) (none_before pattern) (every_post NotTake (λ a b. tt) pattern))

-- ---- the instructions of these steps

module _ (k first' deals : ℕ) where
  post_of : (x : Step) → IsPost x → (n i : ℕ) × (placed k first' deals x ≡ instruction.Post n i)
  post_of (Post share place) h = (first' + place, share, refl)
  post_of (Take share place) h = absurd h
  post_of Deal h = absurd h
  post_of Draw h = absurd h
  post_of Own h = absurd h
  post_of Linear h = absurd h
  post_of Sum h = absurd h
  post_of Open h = absurd h
  post_of Join h = absurd h
  post_of Deliver h = absurd h

  take_of : (x : Step) → IsTake x → (n i : ℕ) × (placed k first' deals x ≡ instruction.Take n i)
  take_of (Take share place) h = (first' + place, share, refl)
  take_of (Post share place) h = absurd h
  take_of Deal h = absurd h
  take_of Draw h = absurd h
  take_of Own h = absurd h
  take_of Linear h = absurd h
  take_of Sum h = absurd h
  take_of Open h = absurd h
  take_of Join h = absurd h
  take_of Deliver h = absurd h

  no_take_of : (x : Step) (n i : ℕ) → NotTake x → placed k first' deals x ≢ instruction.Take n i
  no_take_of (Post share place) n i h e = cc
  no_take_of (Take share place) n i h e = absurd h
  no_take_of Deal n i h e = cc
  no_take_of Draw n i h e = cc
  no_take_of Own n i h e = cc
  no_take_of Linear n i h e = cc
  no_take_of Sum n i h e = cc
  no_take_of Open n i h e = cc
  no_take_of Join n i h e = cc
  no_take_of Deliver n i h e = cc

-- a place in a half of a product
module _ (plan : Plan) (p s : ℕ) (valid : IsPlan plan) (ls : s < length plan.sessions) (half : Half) (place : Place) (in_product : InProduct half place) (q : ℕ) (here : IsPlace plan p s place q) where
  there : place.slot < slots plan s
  there = product_there plan p s valid ls half place in_product q here

  multiplied : pattern_at plan s place.slot ≡ Multiplied
  multiplied = sym (here.pattern there) ∙ in_product.1

  -- it has so many steps
  pub product_long : place.count ≡ length (steps plan p half Multiplied)
  product_long =
      product_count plan p s valid ls half place in_product q here ∙ length-half plan p s half place.slot valid ls there
      ∙ ap (λ pattern. length (steps plan p half pattern)) multiplied

  step_at : (i : ℕ) (d : Step) → i < place.count
      → slice_index_or (half_program plan p s half place.slot) i instruction.End ≡ placed place.slot (first_named plan s place.slot) (deals_before plan p s place.slot) (slice_index_or (steps plan p half Multiplied) i d)
  step_at i d less =
      let count = product_count plan p s valid ls half place in_product q here in
      let long = length-half plan p s half place.slot valid ls there in
      step_is plan p s half place.slot valid ls there i d (omega (arith, less, count, long))
      ∙ ap (λ pattern. placed place.slot (first_named plan s place.slot) (deals_before plan p s place.slot) (slice_index_or (steps plan p half pattern) i d)) multiplied

module _ (plan : Plan) (p s : ℕ) (valid : IsPlan plan) (ls : s < length plan.sessions) (place : Place) (q i : ℕ) (here : IsPlace plan p s place q) where
  -- after its deal come posts
  pub posts_there : InProduct Head place → has_pair (scheme plan) p ≡ true → 2 ≤ i → i < place.count
      → (n j : ℕ) × (slice_index_or (half_program plan p s Head place.slot) i instruction.End ≡ instruction.Post n j)
  posts_there in_product has from less =
      let long = product_long plan p s valid ls Head place in_product q here in
      let found = post_of place.slot (first_named plan s place.slot) (deals_before plan p s place.slot) (slice_index_or (steps plan p Head Multiplied) i Deal) (head_post plan p has i Deal from (omega (arith, less, long))) in
      (found.0, found.1, step_at plan p s valid ls Head place in_product q here i Deal less ∙ found.2)

  -- before its sum come takes
  pub takes_there : InProduct Tail place → i + 1 < place.count
      → (n j : ℕ) × (slice_index_or (half_program plan p s Tail place.slot) i instruction.End ≡ instruction.Take n j)
  takes_there in_product less =
      let long = product_long plan p s valid ls Tail place in_product q here in
      let found = take_of place.slot (first_named plan s place.slot) (deals_before plan p s place.slot) (slice_index_or (steps plan p Tail Multiplied) i Deal) (tail_take plan p i Deal (omega (arith, less, long))) in
      (found.0, found.1, step_at plan p s valid ls Tail place in_product q here i Deal (omega (arith, less)) ∙ found.2)

-- a head takes nothing
pub no_take_there : (plan : Plan) (p s : ℕ) → IsPlan plan → s < length plan.sessions → (place : Place) (q n i : ℕ) → IsPlace plan p s place q → place.half ≡ Head → at (program plan p s) q ≢ instruction.Take n i
no_take_there plan p s valid ls place q n i here head is = elim (cases_lt place.done place.count) [
  | inr past ↦ let both : instruction.Take n i ≡ instruction.End = sym is ∙ ends_there plan p s place q here past in cc
  | inl left ↦
      let there' = in_slot plan p s place q here left in
      let count : place.count ≡ length (half_program plan p s place.half place.slot) = here.count ∙ count_at plan p s place.half place.slot there' in
      let long = length-half plan p s place.half place.slot valid ls there' in
      let short : place.done < length (steps plan p place.half (pattern_at plan s place.slot)) = omega (arith, left, count, long) in
      no_take_of place.slot (first_named plan s place.slot) (deals_before plan p s place.slot) _ n i
      (subst (λ z. NotTake (slice_index_or (steps plan p z (pattern_at plan s place.slot)) place.done Deal)) (sym head)
      (head_not_take plan p (pattern_at plan s place.slot) place.done Deal (subst (λ z. place.done < length (steps plan p z (pattern_at plan s place.slot))) head short)))
      (sym (instruction_is plan p s place q here left ∙ step_is plan p s place.half place.slot valid ls there' place.done Deal short) ∙ is)
]
