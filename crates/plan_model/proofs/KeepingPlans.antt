-- A plan whose sessions keep what later ones carry has as many messages and tape words as the plan tells.
use Rattle.std.proofs.Common.{◌≡◌, ℕ, ◌+◌, ◌-◌, ◌*◌, ◌<◌, if◌then◌else◌, List, length, refl, sym, ap, ap₂, ◌∙◌, arith}
use Rattle.list_laws.specs.Lists.{total}
use Rattle.list_laws.proofs.Totals.{total_eq}
use Rattle.secret_sharing.specs.Schemes.{has_pair}
use Rattle.session_slots.specs.declared.values.KeptWire.{KeptWire}
use Rattle.session_slots.specs.Sessions.{Session}
use Rattle.session_slots.specs.Counts.{owned, outputs_read, prepared_products, products}
use Rattle.session_slots.specs.Carries.{kept_from, AllFit, carried_count}
use Rattle.plan_model.specs.Plans.{Plan, least_held, scheme, session, words, keeping_plan}
use Rattle.plan_model.specs.Messages.{deal_messages, kept_messages, mask_messages, messages, open_messages}
use Rattle.plan_model.specs.Numbers.{deals}
use Rattle.plan_model.specs.Sound.{IsOutline}
use Rattle.plan_model.specs.Tallies.{keeping_messages, masks_messages, openings, party_messages, tape_length}
use Rattle.plan_model.proofs.TallyLaws.{deals_is, messages_by_party, words_are}
use Rattle.session_slots.proofs.KeptSessions.{keeping_at, length_keeping, kept_in_all, owners_same, source_same}

module _ (plan : Plan) where
  abbrev keeper : Plan
  keeper = keeping_plan plan

  -- what is counted of a session without looking at what it keeps
  count_same : (f : Session → ℕ) → ((x : Session) (kept : List KeptWire) → f (record x { kept = kept }) ≡ f x) → (s : ℕ) → s < length plan.sessions → f (session keeper s) ≡ f (session plan s)
  count_same f h s l = ap f (keeping_at plan.sessions s l) ∙ h (session plan s) (kept_from s plan.sessions)

  sum_same : (f g : ℕ → ℕ) → ((s : ℕ) → s < length plan.sessions → f s ≡ g s) → total (length keeper.sessions) f ≡ total (length plan.sessions) g
  sum_same f g h = ap (λ n. total n f) (length_keeping plan.sessions) ∙ total_eq (length plan.sessions) f g h

  deals_same : (p s : ℕ) → s < length plan.sessions → deals keeper p s ≡ deals plan p s
  deals_same p s l =
      deals_is keeper p s
      ∙ count_same (λ x. owned x p + (if has_pair (scheme plan) p then products x else 0)) (λ x kept. refl) s l
      ∙ sym (deals_is plan p s)

  prepared_same : (s : ℕ) → s < length plan.sessions → prepared_products (session keeper s) ≡ prepared_products (session plan s)
  prepared_same s l = count_same prepared_products (λ x kept. refl) s l

  pub tape_length_same : (p : ℕ) → tape_length keeper p ≡ tape_length plan p
  tape_length_same p =
      sum_same (words keeper p) (words plan p) (λ s l.
      words_are keeper p s
      ∙ ap₂ (λ a b. (length plan.groups - 1) * a + least_held plan p (length plan.groups) * (2 * b)) (deals_same p s l) (prepared_same s l)
      ∙ sym (words_are plan p s))

  party_messages_same : (p : ℕ) → party_messages keeper p ≡ party_messages plan p
  party_messages_same p =
      ap₂ (λ a b. length (deal_messages plan 0 0 p) * a + length (open_messages plan 0 0 p) * b)
      (sum_same (deals keeper p) (deals plan p) (deals_same p))
      (sum_same (openings keeper p) (openings plan p) (λ s l. count_same (λ x. outputs_read x p + 2 * prepared_products x) (λ x kept. refl) s l))

  masks_messages_same : masks_messages keeper ≡ masks_messages plan
  masks_messages_same =
      ap (λ a. length (mask_messages plan 0 0) * a) (sum_same (λ s. 2 * prepared_products (session keeper s)) (λ s. 2 * prepared_products (session plan s)) (λ s l. ap (λ n. 2 * n) (prepared_same s l)))

  pub keeping_messages_are : AllFit plan.sessions → keeping_messages keeper ≡ length (kept_messages plan 0 0) * total (length plan.sessions) (λ s. carried_count (session plan s))
  keeping_messages_are fit =
      ap (λ n. length (kept_messages plan 0 0) * n)
      (sum_same (λ s. length (session keeper s).kept) (λ s. length (kept_from s plan.sessions)) (λ s l. ap (λ (x : Session). length x.kept) (keeping_at plan.sessions s l)) ∙ kept_in_all plan.sessions fit)

  pub keeper_messages : IsOutline plan → length (messages keeper) ≡ total plan.parties (party_messages plan) + masks_messages plan + keeping_messages keeper
  keeper_messages outline =
      messages_by_party keeper (λ s v p ls lv e. (outline.sessions s (omega (arith, ls, length_keeping plan.sessions))).owned v p (omega (arith, lv, owners_same plan.sessions s)) (sym (source_same plan.sessions s v) ∙ e))
      ∙ ap₂ (λ a b. a + b + keeping_messages keeper) (total_eq plan.parties (party_messages keeper) (party_messages plan) (λ p l. party_messages_same p)) masks_messages_same
