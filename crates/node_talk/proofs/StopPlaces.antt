-- Where a run stops is determined by what came.
use Rattle.std.proofs.Common.{◌≡◌, ℕ, ◌<◌, length, sym, ◌∙◌, arith, ⊎_elim}
use Rattle.std.proofs.lemmas.Bool.{cases_eq, cases_lt}
use Rattle.std.proofs.lemmas.List.{get_or_past}
use mathlib.Core.Logic.{inl, inr}
use Rattle.program_model.specs.declared.instruction.Instruction.TheVariants.{Take, End}
use Rattle.program_model.specs.Programs.{at}
use Rattle.node_talk.specs.Talks.{Node, acts}
use Rattle.node_talk.specs.Runs.{HasCome, TakesWhatCame, StopsAfter, StopsAtOnePlace}

module _ (n : Node) (came : ℕ → ℕ) where
  abbrev AtOther : ℕ → Type 0
  AtOther k = (m : ℕ) × (i : ℕ) × (at (acts n) k ≡ Take m i) × ¬ HasCome n came m

  -- a place where it stops is no earlier than another
  no_earlier : (j k : ℕ) → j < k → TakesWhatCame n came k → StopsAfter n came j → StopsAfter n came k → ⊥
  no_earlier j k less takes stops stops' = ⊎_elim at_end (λ (t : AtOther j). t.3 (takes j t.0 t.1 less t.2)) stops
    where
      at_end : j ≡ length (acts n) → ⊥
      at_end end = ⊎_elim
          (λ (same : k ≡ length (acts n)). absurd (omega arith))
          (λ (t : AtOther k). absurd (let f : End ≡ Take t.0 t.1 = sym (get_or_past (acts n) k End (omega arith)) ∙ t.2 in cc))
          stops'

pub stops_at_one_place : (n : Node) → StopsAtOnePlace n
stops_at_one_place n came j k takes stops takes' stops' = elim (cases_eq j k) [
  | inl same ↦ same
  | inr ne ↦ elim (cases_lt j k) [
    | inl less ↦ absurd (no_earlier n came j k less takes' stops stops')
    | inr past ↦ absurd (no_earlier n came k j (omega arith) takes stops' stops)
  ]
]
