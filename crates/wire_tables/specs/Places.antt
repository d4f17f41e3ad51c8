-- Where the words that the parties draw next begin on their tapes.
use Rattle.std.specs.Prelude.{◌≡◌, ℕ, ◌+◌, ◌-◌, ◌^◌, ◌<◌, ◌≤◌, List, [], length, slice_index, slice_index_or}
use Rattle.secret_sharing.specs.Schemes.{dealt}
use Rattle.plan_model.specs.Plans.{Plan, scheme, place, holder_of, least_held}
use Rattle.share_world.specs.Worlds.{World}

-- each party's next words begin where those of slot k of session s do
pub record ArePlaces (plan : Plan) (s k : ℕ) (places : List ℕ) : Type 0 where
  pub parties : length places ≡ plan.parties
  pub are : (p : ℕ) → p < plan.parties → slice_index places p ≡ place plan p s k

-- what party p deals of this value, with the words at its place
abbrev pub dealt_at : World → List ℕ → ℕ → ℕ → ℕ → ℕ
dealt_at w places p value =
    dealt (scheme w.plan) value (λ i. slice_index (slice_index_or w.tapes p []) (slice_index places p + i))

-- party p has the words of its next deal
pub record HasDealWords (w : World) (places : List ℕ) (p : ℕ) : Type 0 where
  pub tape : p < length w.tapes
  pub place : p < length places
  pub enough : slice_index places p + (length w.plan.groups - 1) ≤ length (slice_index_or w.tapes p [])
  pub below : (i : ℕ) → slice_index (slice_index_or w.tapes p []) i < 2 ^ w.plan.bits

-- summand i of a mask: a word of its least holder, which has one for each summand of which it is that
abbrev pub mask_at : World → List ℕ → ℕ → ℕ
mask_at w places i =
    let p = holder_of w.plan i in
    slice_index (slice_index_or w.tapes p []) (slice_index places p + least_held w.plan p i)

-- the least holders have the words of the next mask
pub record HasMaskWords (w : World) (places : List ℕ) : Type 0 where
  pub parties : length places ≡ length w.tapes
  pub holders : (i : ℕ) → i < length w.plan.groups → holder_of w.plan i < length w.tapes
  pub enough : (p : ℕ) → p < length w.tapes
      → slice_index places p + least_held w.plan p (length w.plan.groups) ≤ length (slice_index_or w.tapes p [])
