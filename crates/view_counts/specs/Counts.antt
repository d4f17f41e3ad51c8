-- All tapes that the parties outside a group may draw, and for how many of them the group's view
-- passes a test.
use Rattle.std.specs.Prelude.{ℕ, ◌^◌, ◌&&◌, Bool, nat_eq, if◌then◌else◌, List, [], ◌∷◌, map, count_by, slice_index_or, replicate}
use Rattle.std.specs.Cmp.Lexicographic.{pointwise}
use Rattle.std.specs.List.{flat_map}
use Rattle.list_laws.specs.Lists.{listed}
use Rattle.party_set.specs.Parties.{has_party}
use Rattle.plan_model.specs.declared.key.Key.{Key}
use Rattle.plan_model.specs.Numbers.{same_key}
use Rattle.plan_model.specs.Plans.{Plan}
use Rattle.plan_model.specs.Tallies.{tape_length}
use Rattle.share_world.specs.Worlds.{World, view}
use Rattle.tape_map.specs.TapeMaps.{with_tapes}

-- all lists that take one item of each of these lists, in their order
abbrev pub picks : {A : Type 0} → List (List A) → List (List A)
picks [] = [] ∷ []
picks (xs ∷ rest) = flat_map (λ x. map (λ ys. x ∷ ys) (picks rest)) xs

-- all lists of n words below q
abbrev pub all_words : ℕ → ℕ → List (List ℕ)
all_words q n = picks (replicate n (listed q (λ x. x)))

-- the tapes that party p may have: a member of the group has its own, and any other party each list
-- of as many words of the ring as it draws
abbrev pub tapes_for : Plan → ℕ → List (List ℕ) → ℕ → List (List ℕ)
tapes_for plan group own p =
    if has_party group p then slice_index_or own p [] ∷ []
    else all_words (2 ^ plan.bits) (tape_length plan p)

-- all choices of tapes for all parties
abbrev pub choices : Plan → ℕ → List (List ℕ) → List (List (List ℕ))
choices plan group own = picks (listed plan.parties (tapes_for plan group own))

-- for how many choices of the others' tapes the group's view passes the test
abbrev pub ways : World → ℕ → (List (Key × ℕ) → Bool) → ℕ
ways w group test =
    count_by (λ tapes. test (view (with_tapes w tapes) group)) (choices w.plan group w.tapes)

-- the same message with the same word
abbrev pub same_seen : (Key × ℕ) → (Key × ℕ) → Bool
same_seen x y = same_key x.0 y.0 && nat_eq x.1 y.1

-- the test that the view v alone passes
abbrev pub is_view : List (Key × ℕ) → List (Key × ℕ) → Bool
is_view = pointwise same_seen
