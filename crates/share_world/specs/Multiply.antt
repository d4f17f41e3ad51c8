-- The worked job of one product: 5 times 7, in the ring of 8 bits.
use Rattle.std.specs.Prelude.{◌≡◌, [], ◌∷◌, map}
use Rattle.plan_model.specs.Messages.{messages}
use Rattle.plan_model.specs.Multiply.{multiply_plan}
use Rattle.share_world.specs.Worlds.{World, word, plain}
use Rattle.share_world.specs.Laws.{IsWhole}

-- a gives 5, b gives 7, and each party has a tape
abbrev pub multiply_world : World
multiply_world = record {
  plan = multiply_plan 8;
  inputs = ((5 ∷ []) ∷ []) ∷ ((7 ∷ []) ∷ []) ∷ ([] ∷ []) ∷ [];
  tapes = (10 ∷ 20 ∷ 1 ∷ 2 ∷ []) ∷ (30 ∷ 40 ∷ 3 ∷ 4 ∷ []) ∷ (5 ∷ 6 ∷ []) ∷ [];
}

-- the words of its 21 messages, in the order of their numbers
abbrev pub MultiplyWords : Type 0
MultiplyWords =
    map (word multiply_world) (messages (multiply_plan 8))
    ≡ 10 ∷ 10 ∷ 20 ∷ 231 ∷ 30 ∷ 40 ∷ 40 ∷ 193 ∷ 1 ∷ 1 ∷ 2 ∷ 112 ∷ 3 ∷ 4 ∷ 4 ∷ 193 ∷ 5 ∷ 6 ∷ 221 ∷ 221 ∷ 14 ∷ []

-- the product is 35
abbrev pub MultiplyPlain : Type 0
MultiplyPlain = plain multiply_world 0 2 ≡ 35

-- the world is whole
abbrev pub MultiplyWhole : Type 0
MultiplyWhole = IsWhole multiply_world
