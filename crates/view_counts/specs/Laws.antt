-- The laws of counting.
use Rattle.std.specs.Prelude.{◌≡◌, ◌≢◌, ℕ, ◌^◌, ◌<◌, Bool, true, if◌then◌else◌, List, [], length, slice_index_or}
use Rattle.std.specs.Bool.{Decides}
use Rattle.std.specs.List.{AllPairs, Contains}
use Rattle.list_laws.specs.Lists.{total}
use Rattle.party_set.specs.Parties.{has_party}
use Rattle.maximal_groups.specs.Families.{LiesWithin}
use Rattle.plan_model.specs.declared.key.Key.{Key}
use Rattle.plan_model.specs.InputWords.{AreInputs, InputLists}
use Rattle.plan_model.specs.Plans.{Plan, structure}
use Rattle.plan_model.specs.Tallies.{tape_length}
use Rattle.share_world.specs.Worlds.{World}
use Rattle.share_world.specs.Laws.{IsWhole, AreTapes}
use Rattle.tape_map.specs.TapeMaps.{with_inputs, with_tapes, tape_of}
use Rattle.tape_map.specs.Laws.{Agree}
use Rattle.view_counts.specs.Counts.{choices, ways, is_view}
use Rattle.view_counts.specs.Simulators.{known, simulated_ways}

-- ---- other inputs

-- with the other inputs the group's view passes each test for as many choices of the others' tapes
abbrev pub IsPrivate : World → InputLists → ℕ → Type 0
IsPrivate w other group =
    (test : List (Key × ℕ) → Bool) → ways (with_inputs w other) group test ≡ ways w group test

-- so each view comes for as many
abbrev pub ViewsAreEven : World → InputLists → ℕ → Type 0
ViewsAreEven w other group =
    (v : List (Key × ℕ)) → ways (with_inputs w other) group (is_view v) ≡ ways w group (is_view v)

-- the test for a view is passed by that view alone
abbrev pub TestIsEqual : Type 0
TestIsEqual = (v x : List (Key × ℕ)) → Decides (is_view v x) (v ≡ x)

-- ---- a simulator

-- what the group sees passes each test for as many choices of the others' tapes as what the
-- simulator makes of what it knows
abbrev pub IsSimulated : World → ℕ → Type 0
IsSimulated w group =
    (test : List (Key × ℕ) → Bool)
    → simulated_ways w.plan group (known w group) test ≡ ways w group test

-- a whole world and another of its plan, with these inputs and tapes, where the group is tolerated
pub record CanCompare (w : World) (other : InputLists) (tapes : List (List ℕ)) (group : ℕ)
    : Type 0 where
  pub whole : IsWhole w
  pub inputs : AreInputs w.plan other
  pub are : AreTapes w.plan tapes
  pub tolerated : LiesWithin (structure w.plan) group

-- so where the group knows the same of both, it can't tell them apart
abbrev pub KnownDecides : World → InputLists → List (List ℕ) → ℕ → Type 0
KnownDecides w other tapes group =
    known (with_tapes (with_inputs w other) tapes) group ≡ known w group
    → (test : List (Key × ℕ) → Bool)
    → ways (with_tapes (with_inputs w other) tapes) group test ≡ ways w group test

-- ---- the choices

-- tapes of the plan, of which the members' are the world's
pub record IsChoice (w : World) (group : ℕ) (tapes : List (List ℕ)) : Type 0 where
  pub are : AreTapes w.plan tapes
  pub members : (p : ℕ) → p < w.plan.parties → has_party group p ≡ true
      → slice_index_or tapes p [] ≡ tape_of w p

-- each choice is so
abbrev pub ChoicesAreTapes : World → ℕ → Type 0
ChoicesAreTapes w group =
    (tapes : List (List ℕ)) → Contains (choices w.plan group w.tapes) tapes → IsChoice w group tapes

-- all that is so is a choice
abbrev pub TapesAreChoices : World → ℕ → Type 0
TapesAreChoices w group =
    (tapes : List (List ℕ)) → IsChoice w group tapes → Contains (choices w.plan group w.tapes) tapes

-- there are as many as there are ways to fill all words that the others draw
abbrev pub ChoicesAreMany : Plan → ℕ → List (List ℕ) → Type 0
ChoicesAreMany plan group own =
    length (choices plan group own)
    ≡ (2 ^ plan.bits)
    ^ total plan.parties (λ p. if has_party group p then 0 else tape_length plan p)

-- no two choices are the same
abbrev pub ChoicesDiffer : World → ℕ → Type 0
ChoicesDiffer w group = AllPairs (λ a b. a ≢ b) (choices w.plan group w.tapes)

-- ---- what a group knows

-- another world of the plan in which the group's members give what they gave, read what they read and have the tapes
-- that they had
pub record IsSameFor (w : World) (other : InputLists) (tapes : List (List ℕ)) (group : ℕ) : Type 0 where
  pub whole : IsWhole w
  pub inputs : AreInputs w.plan other
  pub choice : IsChoice w group tapes
  pub agree : Agree w other group

-- the group knows nothing else: of such a world it knows the same
abbrev pub KnowsNoMore : Type 0
KnowsNoMore =
    (w : World) (other : InputLists) (tapes : List (List ℕ)) (group : ℕ)
    → IsSameFor w other tapes group → known (with_tapes (with_inputs w other) tapes) group ≡ known w group

-- and it knows all of that: where it knows the same, the world is such
abbrev pub KnowsNoLess : Type 0
KnowsNoLess =
    (w : World) (other : InputLists) (tapes : List (List ℕ)) (group : ℕ)
    → IsWhole w → AreInputs w.plan other → AreTapes w.plan tapes
    → known (with_tapes (with_inputs w other) tapes) group ≡ known w group
    → IsSameFor w other tapes group
