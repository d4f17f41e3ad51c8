-- Ranks rise along the transfers of a pattern.
use Rattle.std.proofs.Common.{◌≡◌, ℕ, zero, suc, ◌+◌, ◌*◌, ◌<◌, ◌≤◌, Bool, true, false, not, ◌&&◌, nat_eq, List, [], ◌∷◌, ◌++◌, map, length, subst, ap, arith}
use Rattle.std.specs.Prelude.{slice_index_or}
use Rattle.std.proofs.lemmas.List.{length-map}
use Rattle.list_laws.specs.Lists.{joined, only_if}
use Rattle.secret_sharing.specs.Schemes.{has_pair}
use Rattle.party_set.specs.Parties.{has_party}
use Rattle.plan_model.specs.declared.pattern.Transfer.{Transfer}
use Rattle.plan_model.specs.declared.pattern.TransferOrder.{TransferOrder}
use Rattle.plan_model.specs.declared.pattern.TransferOrder.TheVariants.{BySender, BySummand, ByReceiver}
use Rattle.plan_model.specs.declared.pattern.Pattern.{Pattern}
use Rattle.plan_model.specs.declared.pattern.Pattern.TheVariants.{Silent, Dealt, Multiplied, Opened, HandedOut, OpenedToAll, Joined, Held, Received}
use Rattle.plan_model.specs.Plans.{Plan, scheme, is_holder, holder_of}
use Rattle.plan_model.specs.Numbers.{rank, IsRising}
use Rattle.plan_model.specs.Patterns.{named, deal_transfer, deal_transfers, held_transfer, open_transfers, transfers, order_of}
use Rattle.plan_model.proofs.RankSearch.{no_transfer, named_at}
use Rattle.plan_model.proofs.SlotPatterns.{open_transfer}

-- f rises along the list, from lo on and to below hi
abbrev Rise : {A : Type 0} → (A → ℕ) → ℕ → ℕ → List A → Type 0
Rise f lo hi [] = lo ≤ hi
Rise f lo hi (x ∷ xs) = (lo ≤ f x) × Rise f (f x + 1) hi xs

rise_lower : {A : Type 0} (f : A → ℕ) (lo low hi : ℕ) (xs : List A) → low ≤ lo → Rise f lo hi xs → Rise f low hi xs
rise_lower f lo low hi [] l h = omega arith
rise_lower f lo low hi (x ∷ xs) l h = let here = h.0 in (omega arith, h.1)

rise_append : {A : Type 0} (f : A → ℕ) (lo mid hi : ℕ) (xs ys : List A) → Rise f lo mid xs → Rise f mid hi ys → Rise f lo hi (xs ++ ys)
rise_append f lo mid hi [] ys h g = rise_lower f mid lo hi ys h g
rise_append f lo mid hi (x ∷ xs) ys h g = (h.0, rise_append f (f x + 1) mid hi xs ys h.1 g)

-- part k lies in the k-th of the stretches of length w
rise_joined : {A : Type 0} (f : A → ℕ) (base w n : ℕ) (part : ℕ → List A) → ((k : ℕ) → k < n → Rise f (base + k * w) (base + k * w + w) (part k)) → Rise f base (base + n * w) (joined n part)
rise_joined f base w zero part h = omega arith
rise_joined f base w (suc n) part h =
    let more : base + n * w + w ≡ base + suc n * w = omega arith in
    subst (λ z. Rise f base z (joined (suc n) part)) more (rise_append f base (base + n * w) (base + n * w + w) (joined n part) (part n) (rise_joined f base w n part (λ k l. h k (omega arith))) (h n (omega arith)))

rise_wider : {A : Type 0} (f : A → ℕ) (lo hi high : ℕ) (xs : List A) → hi ≤ high → Rise f lo hi xs → Rise f lo high xs
rise_wider f lo hi high [] l h = omega arith
rise_wider f lo hi high (x ∷ xs) l h = (h.0, rise_wider f (f x + 1) hi high xs l h.1)

rise_one : {A : Type 0} (f : A → ℕ) (lo hi : ℕ) (b : Bool) (x : A) → lo ≤ f x → f x < hi → Rise f lo hi (only_if b (x ∷ []))
rise_one f lo hi true x l h = (l, omega arith)
rise_one f lo hi false x l h = omega arith

rise_only_if : {A : Type 0} (f : A → ℕ) (lo hi : ℕ) (b : Bool) (xs : List A) → lo ≤ hi → Rise f lo hi xs → Rise f lo hi (only_if b xs)
rise_only_if f lo hi true xs l h = h
rise_only_if f lo hi false xs l h = l

rise_after : {A : Type 0} (f : A → ℕ) (lo hi : ℕ) (xs : List A) (j : ℕ) (d : A) → Rise f lo hi xs → j < length xs → lo ≤ f (slice_index_or xs j d)
rise_after f lo hi [] j d h l = absurd (omega arith)
rise_after f lo hi (x ∷ xs) zero d h l = h.0
rise_after f lo hi (x ∷ xs) (suc j) d h l = let rest = rise_after f (f x + 1) hi xs j d h.1 (omega arith) in let here = h.0 in omega arith

rise_at : {A : Type 0} (f : A → ℕ) (lo hi : ℕ) (xs : List A) (i j : ℕ) (d : A) → Rise f lo hi xs → i < j → j < length xs → f (slice_index_or xs i d) < f (slice_index_or xs j d)
rise_at f lo hi [] i j d h l b = absurd (omega arith)
rise_at f lo hi (x ∷ xs) zero zero d h l b = absurd (omega arith)
rise_at f lo hi (x ∷ xs) zero (suc j) d h l b = let rest = rise_after f (f x + 1) hi xs j d h.1 (omega arith) in omega arith
rise_at f lo hi (x ∷ xs) (suc i) zero d h l b = absurd (omega arith)
rise_at f lo hi (x ∷ xs) (suc i) (suc j) d h l b = rise_at f (f x + 1) hi xs i j d h.1 (omega arith) (omega arith)

module _ (plan : Plan) (s k : ℕ) (parties : plan.parties ≤ 12) (shares : length plan.groups ≤ 64) where
  -- the rank of a transfer's message
  abbrev rank_of : TransferOrder → Transfer → ℕ
  rank_of order transfer = rank order (named s k transfer)

  -- one summand of a deal, where the rank rises with the receiver
  row_rises : (order : TransferOrder) (p i base : ℕ) → ((q : ℕ) → rank_of order (record { share = i; sender = p; receiver = q }) ≡ base + q)
      → Rise (rank_of order) base (base + 12) (joined plan.parties (deal_transfer plan p i))
  row_rises order p i base at =
      rise_wider (rank_of order) base (base + plan.parties * 1) (base + 12) (joined plan.parties (deal_transfer plan p i)) (omega arith)
      (rise_joined (rank_of order) base 1 plan.parties (deal_transfer plan p i) (λ q lq. rise_one (rank_of order) (base + q * 1) (base + q * 1 + 1) (not (nat_eq q p) && is_holder plan q i) _ (omega (arith, at q)) (omega (arith, at q))))

  deal_rises : (p : ℕ) → Rise (rank_of BySender) (p * 768) (p * 768 + 768) (deal_transfers plan p)
  deal_rises p =
      rise_wider (rank_of BySender) (p * 768) (p * 768 + length plan.groups * 12) (p * 768 + 768) (deal_transfers plan p) (omega arith)
      (rise_joined (rank_of BySender) (p * 768) 12 (length plan.groups) (λ i. joined plan.parties (deal_transfer plan p i)) (λ i li. row_rises BySender p i (p * 768 + i * 12) (λ q. omega arith)))

  open_rises : (r : ℕ) → Rise (rank_of ByReceiver) (r * 64) (r * 64 + 64) (open_transfers plan r)
  open_rises r =
      rise_wider (rank_of ByReceiver) (r * 64) (r * 64 + length plan.groups * 1) (r * 64 + 64) (open_transfers plan r) (omega arith)
      (rise_joined (rank_of ByReceiver) (r * 64) 1 (length plan.groups) (open_transfer plan r) (λ i li. rise_one (rank_of ByReceiver) (r * 64 + i * 1) (r * 64 + i * 1 + 1) (not (is_holder plan r i)) _ (omega arith) (omega arith)))

  opens_at : (r : ℕ) → Rise (rank_of ByReceiver) (0 + r * 64) (0 + r * 64 + 64) (open_transfers plan r)
  opens_at r = let none : r * 64 ≡ 0 + r * 64 = omega arith in subst (λ z. Rise (rank_of ByReceiver) z (z + 64) (open_transfers plan r)) none (open_rises r)

  -- one summand of a kept wire
  holders_rise : (i : ℕ) → Rise (rank_of BySummand) (0 + i * 12) (0 + i * 12 + 12) (joined plan.parties (held_transfer plan i))
  holders_rise i =
      let base = 0 + i * 12 in
      rise_wider (rank_of BySummand) base (base + plan.parties * 1) (base + 12) (joined plan.parties (held_transfer plan i)) (omega arith)
      (rise_joined (rank_of BySummand) base 1 plan.parties (held_transfer plan i) (λ p lp. rise_one (rank_of BySummand) (base + p * 1) (base + p * 1 + 1) (is_holder plan p i) _ (omega arith) (omega arith)))

  pattern_rises : (pattern : Pattern) → (lo : ℕ) × (hi : ℕ) × Rise (rank_of (order_of pattern)) lo hi (transfers plan pattern)
  pattern_rises Silent = (0, 0, omega arith)
  pattern_rises (Dealt p) = (p * 768, p * 768 + 768, deal_rises p)
  pattern_rises Multiplied = (
    0,
    0 + plan.parties * 768,
    rise_joined (rank_of BySender) 0 768 plan.parties _ (λ p lp. rise_only_if (rank_of BySender) (0 + p * 768) (0 + p * 768 + 768) (has_pair (scheme plan) p) (deal_transfers plan p) (omega arith) (let none : p * 768 ≡ 0 + p * 768 = omega arith in subst (λ z. Rise (rank_of BySender) z (z + 768) (deal_transfers plan p)) none (deal_rises p))),
  )
  pattern_rises (Opened readers) = (
    0,
    0 + plan.parties * 64,
    rise_joined (rank_of ByReceiver) 0 64 plan.parties _ (λ r lr. rise_only_if (rank_of ByReceiver) (0 + r * 64) (0 + r * 64 + 64) (has_party readers r) (open_transfers plan r) (omega arith) (opens_at r)),
  )
  pattern_rises HandedOut = (
    0,
    0 + length plan.groups * 12,
    rise_joined (rank_of BySummand) 0 12 (length plan.groups) _ (λ i li. row_rises BySummand (holder_of plan i) i (0 + i * 12) (λ q. omega arith)),
  )
  pattern_rises OpenedToAll = (0, 0 + plan.parties * 64, rise_joined (rank_of ByReceiver) 0 64 plan.parties (open_transfers plan) (λ r lr. opens_at r))
  pattern_rises Joined = (0, 0, omega arith)
  pattern_rises Held = (0, 0 + length plan.groups * 12, rise_joined (rank_of BySummand) 0 12 (length plan.groups) (λ i. joined plan.parties (held_transfer plan i)) (λ i li. holders_rise i))
  pattern_rises Received = (0, 0, omega arith)

  -- in the order of the pattern
  pub transfers_rise : (pattern : Pattern) → IsRising (rank (order_of pattern)) (map (named s k) (transfers plan pattern))
  transfers_rise pattern i j l b =
      let all = pattern_rises pattern in
      let long = length-map (transfers plan pattern) (named s k) in
      let rises = rise_at (rank_of (order_of pattern)) all.0 all.1 (transfers plan pattern) i j no_transfer all.2 l (omega arith) in
      omega (arith, rises, ap (rank (order_of pattern)) (named_at s k (transfers plan pattern) i (omega arith)), ap (rank (order_of pattern)) (named_at s k (transfers plan pattern) j (omega arith)))
