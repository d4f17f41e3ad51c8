-- Small samples, worked by hand.
use Rattle.std.specs.Prelude.{◌≡◌, ℕ, ◌+◌, ◌-◌, ◌^◌, List, [], ◌∷◌, length}
use Rattle.list_laws.specs.Lists.{listed}
use Rattle.session_slots.specs.Counts.{products}
use Rattle.session_slots.specs.KeptWires.{live}
use Rattle.plan_model.specs.Plans.{words}
use Rattle.plan_model.specs.Messages.{messages}
use Rattle.share_world.specs.Worlds.{plain}
use Rattle.sample_maker.specs.Samples.{sample_plan, sample_session, sample_world}

-- the words that the gates of sample n set in the clear, whatever the pieces of tape
abbrev pub gate_words : ℕ → List (List ℕ) → List ℕ
gate_words n pieces = listed n (λ j. plain (sample_world n pieces) 0 (4 + j))

-- sample n has `multiplied` products and `sent` messages, its parties draw `drawn` words each, at most `kept` wires are
-- kept at once, and these are the words that its gates set
pub record IsWorked (n multiplied sent : ℕ) (drawn : List ℕ) (kept : ℕ) (found : List ℕ) : Type 0 where
  pub multiplies : products (sample_session n) ≡ multiplied
  pub sends : length (messages (sample_plan n)) ≡ sent
  pub draws : listed 3 (λ p. words (sample_plan n) p 0) ≡ drawn
  pub keeps : live (sample_session n) ≡ kept
  pub finds : (pieces : List (List ℕ)) → gate_words n pieces ≡ found

-- one sum: 2 + 4 is 6
abbrev pub OneIsWorked : Type 0
OneIsWorked = IsWorked 1 0 19 (4 ∷ 4 ∷ 0 ∷ []) 2 (6 ∷ [])

-- five gates, of which the last sets the output: 30, -15, -10, -150, -140
abbrev pub FiveIsWorked : Type 0
FiveIsWorked =
    IsWorked 5 1 31 (6 ∷ 6 ∷ 2 ∷ []) 3 (30 ∷ (2 ^ 32 - 15) ∷ (2 ^ 32 - 10) ∷ (2 ^ 32 - 150) ∷ 4294967156 ∷ [])
