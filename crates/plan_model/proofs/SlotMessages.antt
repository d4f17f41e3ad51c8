-- The messages of a slot, by number and by key.
use Rattle.std.proofs.Common.{◌≡◌, ℕ, ◌+◌, ◌<◌, ◌≤◌, Bool, true, List, [], ◌∷◌, map, length, refl, sym, ap, ◌∙◌, subst, arith}
use Rattle.std.specs.Prelude.{slice_index_or}
use Rattle.std.specs.List.{AllByRecursion, filter}
use Rattle.std.proofs.lemmas.Bool.{cases_eq, cases_Bool, cond-true, cond-false}
use Rattle.std.proofs.lemmas.List.{ext_get_or}
use Rattle.std.proofs.lemmas.List.FromFn.{length-map-range_with_len, get_or-map-range_with_len}
use mathlib.Core.Logic.{inl, inr}
use Rattle.list_laws.specs.Lists.{total, joined}
use Rattle.plan_model.specs.Plans.{Plan, slot, slots}
use Rattle.plan_model.specs.declared.key.Key.{Key}
use Rattle.plan_model.specs.Messages.{slot_messages, messages}
use Rattle.plan_model.specs.Numbers.{message, no_key}
use Rattle.list_laws.proofs.JoinedLists.{length-joined, joined_place, total_within, every_range, every_both}
use Rattle.list_laws.proofs.Totals.{total_eq}
use Rattle.plan_model.specs.Firsts.{count, session_count, first, numbers}

module _ (plan : Plan) (s k : ℕ) (ls : s < length plan.sessions) (lk : k < slots plan s) where
  abbrev part : ℕ → List Key
  part j = slot_messages plan s j (slot plan s j)

  abbrev whole : ℕ → List Key
  whole r = joined (slots plan r) (λ j. slot_messages plan r j (slot plan r j))

  outer : total s (λ r. length (whole r)) ≡ total s (session_count plan)
  outer = total_eq s _ _ (λ r l. length-joined (slots plan r) (λ j. slot_messages plan r j (slot plan r j)))

  pub message_at : (i : ℕ) → i < count plan s k → message plan (first plan s k + i) ≡ slice_index_or (part k) i no_key
  message_at i li =
      let here : length (whole s) ≡ session_count plan s = length-joined (slots plan s) part in
      let within : total k (count plan s) + count plan s k ≤ session_count plan s = total_within (slots plan s) k (count plan s) lk in
      let at : first plan s k + i ≡ total s (λ r. length (whole r)) + (total k (count plan s) + i) = omega (arith, outer) in
      ap (message plan) at
      ∙ joined_place no_key (length plan.sessions) s whole (total k (count plan s) + i) ls (omega (arith, here, within, li))
      ∙ joined_place no_key (slots plan s) k part i lk li

  pub number_within : (i : ℕ) → i < count plan s k → first plan s k + i < length (messages plan)
  number_within i li =
      let here : length (whole s) ≡ session_count plan s = length-joined (slots plan s) part in
      let within : total k (count plan s) + count plan s k ≤ session_count plan s = total_within (slots plan s) k (count plan s) lk in
      let all : total s (λ r. length (whole r)) + length (whole s) ≤ total (length plan.sessions) (λ r. length (whole r)) = total_within (length plan.sessions) s (λ r. length (whole r)) ls in
      omega (arith, outer, here, within, all, length-joined (length plan.sessions) whole)

  pub keys_are : map (message plan) (numbers plan s k) ≡ part k
  keys_are = ext_get_or no_key _ (part k) (length-map-range_with_len (message plan) (first plan s k) (count plan s k)) (λ i l.
      let li : i < count plan s k = omega (arith, l, length-map-range_with_len (message plan) (first plan s k) (count plan s k)) in
      get_or-map-range_with_len (message plan) (first plan s k) (count plan s k) i (first plan s k + i) no_key li refl ∙ message_at i li)

  every_key : (F : Key → Type 0) (ns : List ℕ) → AllByRecursion F (map (message plan) ns) → AllByRecursion (λ n. F (message plan n)) ns
  every_key F [] h = tt
  every_key F (n ∷ ns) h = (h.0, every_key F ns h.1)

  -- what holds of each key of the slot, with its number
  pub each_number : (F : Key → Type 0) → AllByRecursion F (part k) → AllByRecursion (λ n. (n < length (messages plan)) × F (message plan n)) (numbers plan s k)
  each_number F h = every_both (λ n. n < length (messages plan)) (λ n. F (message plan n)) _ (numbers plan s k) (λ n within holds. (within, holds)) (every_range (λ n. n < length (messages plan)) (first plan s k) (count plan s k) number_within) (every_key F (numbers plan s k) (subst (AllByRecursion F) (sym keys_are) h))

pub every_filter : (F G : ℕ → Type 0) (test : ℕ → Bool) (ns : List ℕ) → AllByRecursion F ns → ((n : ℕ) → F n → test n ≡ true → G n) → AllByRecursion G (filter test ns)
every_filter F G test [] h g = tt
every_filter F G test (n ∷ ns) h g = elim (cases_Bool (test n)) [
  | inl e ↦ subst (AllByRecursion G) (sym (cond-true (test n) (n ∷ filter test ns) (filter test ns) e)) (g n h.0 e, every_filter F G test ns h.1 g)
  | inr e ↦ subst (AllByRecursion G) (sym (cond-false (test n) (n ∷ filter test ns) (filter test ns) e)) (every_filter F G test ns h.1 g)
]

pub length-messages : (plan : Plan) → length (messages plan) ≡ total (length plan.sessions) (session_count plan)
length-messages plan =
    let whole : ℕ → List Key = λ r. joined (slots plan r) (λ j. slot_messages plan r j (slot plan r j)) in
    length-joined (length plan.sessions) whole ∙ total_eq (length plan.sessions) _ _ (λ r l. length-joined (slots plan r) (λ j. slot_messages plan r j (slot plan r j)))

pub first_within : (plan : Plan) (s k : ℕ) → s < length plan.sessions → k ≤ slots plan s → first plan s k ≤ length (messages plan)
first_within plan s k ls lk =
    let all = length-messages plan in
    let a : total s (session_count plan) + session_count plan s ≤ total (length plan.sessions) (session_count plan) = total_within (length plan.sessions) s (session_count plan) ls in
    let b : total k (count plan s) ≤ session_count plan s = total_upto (slots plan s) k (count plan s) lk in
    omega arith
  where
    total_upto : (n k : ℕ) (f : ℕ → ℕ) → k ≤ n → total k f ≤ total n f
    total_upto n k f l = elim (cases_eq k n) [
      | inl e ↦ subst (λ z. total k f ≤ total z f) e (omega arith)
      | inr ne ↦ let a = total_within n k f (omega arith) in omega arith
    ]
