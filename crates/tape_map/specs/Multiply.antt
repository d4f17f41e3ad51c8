-- The change of tapes in the worked job of one product.
use Rattle.std.specs.Prelude.{◌≡◌, ◌≢◌, List, ℕ, [], ◌∷◌}
use Rattle.plan_model.specs.Multiply.{multiply_plan}
use Rattle.share_world.specs.Worlds.{plain, view}
use Rattle.share_world.specs.Multiply.{multiply_world}
use Rattle.tape_map.specs.TapeMaps.{hidden, with_inputs, with_tapes, changed_tapes, second_world}
use Rattle.tape_map.specs.Laws.{CanHide}
use Rattle.plan_model.specs.InputWords.{InputLists}

-- the inputs of a and b; c gives none
abbrev pub given_by : ℕ → ℕ → InputLists
given_by a b = ((a ∷ []) ∷ []) ∷ ((b ∷ []) ∷ []) ∷ ([] ∷ []) ∷ []

-- nobody is part of each group: the first one's summand is hidden
abbrev pub HiddenFromNobody : Type 0
HiddenFromNobody = hidden (multiply_plan 8) 0 ≡ 0

-- from a, who gives 5 and reads nothing, it can be hidden that b gives 9 in place of 7
abbrev pub CanHideFromA : Type 0
CanHideFromA = CanHide multiply_world (given_by 5 9) 1

-- summand 0 is hidden, and the first word of each deal of b and c moves
abbrev pub HiddenFromA : Type 0
HiddenFromA =
    changed_tapes multiply_world (given_by 5 9) 1
    ≡ (10 ∷ 20 ∷ 1 ∷ 2 ∷ []) ∷ (32 ∷ 40 ∷ 229 ∷ 4 ∷ []) ∷ (45 ∷ 6 ∷ []) ∷ []

-- the product is 45 then
abbrev pub SecondPlain : Type 0
SecondPlain = plain (second_world multiply_world (given_by 5 9) 1) 0 2 ≡ 45

-- from c, who gives nothing and reads 35, it can be hidden that the inputs are 35 and 1
abbrev pub CanHideFromC : Type 0
CanHideFromC = CanHide multiply_world (given_by 35 1) 4

-- the last summand is hidden, which no word is
abbrev pub HiddenFromC : Type 0
HiddenFromC = changed_tapes multiply_world (given_by 35 1) 4 ≡ multiply_world.tapes

-- a and c aren't tolerated together: whatever the tapes, they see that b gives 9 in place of 7
abbrev pub SeenByBoth : Type 0
SeenByBoth =
    (tapes : List (List ℕ))
    → view (with_tapes (with_inputs multiply_world (given_by 5 9)) tapes) 5 ≢ view multiply_world 5
