-- What a verdict says of the words of a world.
use Rattle.std.specs.Prelude.{◌≡◌, ℕ, ◌-◌, ◌^◌, ◌<◌, true, List, map, length, Ok}
use Rattle.party_names.specs.Names.{AreNames}
use Rattle.plan_model.specs.Plans.{Plan}
use Rattle.plan_model.specs.Messages.{messages}
use Rattle.share_world.specs.Laws.{IsWhole}
use Rattle.plan_model.specs.Numbers.{message}
use Rattle.share_world.specs.Worlds.{World, touches, word, view}
use Rattle.view_check.specs.Views.{verdict}
use Rattle.view_text.specs.ViewText.{view_text}
use Rattle.party_set.specs.Parties.{party_mask}

-- the mask of the group of all parties
abbrev pub all_parties : Plan → ℕ
all_parties plan = 2 ^ plan.parties - 1

-- the view of each group, as it is written, is accepted
abbrev pub WrittenViewsAreAccepted : Type 0
WrittenViewsAreAccepted =
    (w : World) (names : List (List ℕ)) (group : ℕ) → IsWhole w → AreNames names → length names ≡ w.plan.parties
    → group < 2 ^ w.plan.parties
    → verdict names (view w) (view_text names group (view w group)) ≡ Ok (length (view w group))

-- the group of all sees each message, with its word: a yes on it says that every word is right
abbrev pub AllSeeAll : Type 0
AllSeeAll =
    (w : World) → IsWhole w → view w (all_parties w.plan) ≡ map (λ key. (key, word w key)) (messages w.plan)

-- each message is in the view of its sender alone, and of its receiver alone: where each party's own view is right,
-- every word is
abbrev pub OwnViewsHaveAll : Type 0
OwnViewsHaveAll =
    (w : World) (n : ℕ) → IsWhole w → n < length (messages w.plan)
    → (touches (party_mask (message w.plan n).sender) (message w.plan n) ≡ true)
    × (touches (party_mask (message w.plan n).receiver) (message w.plan n) ≡ true)
