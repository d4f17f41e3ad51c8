-- What a party's file gives, and that it fits the plan.
use Rattle.std.specs.Prelude.{◌≡◌, ℕ, ◌<◌, ◌^◌, [], length, slice_index, slice_index_or, All}
use Rattle.plan_model.specs.Plans.{Plan, words, input_count}
use Rattle.plan_model.specs.InputWords.{session_words}
use Rattle.party_file.specs.Table.{PartyForm}
use Rattle.party_file.specs.declared.data.PartyData.{PartyData}

abbrev pub form_of : PartyData → PartyForm
form_of found = record { inputs = session_words found.inputs.items; tapes = found.tapes.items }

-- for each session there is a word of the ring for each input wire that the party gives, and a tape of as many words of
-- the ring as it draws
pub record FitsPlan (plan : Plan) (p : ℕ) (form : PartyForm) : Type 0 where
  pub sessions : length form.inputs ≡ length plan.sessions
  pub counts : (s : ℕ) → s < length plan.sessions
      → length (slice_index_or form.inputs s []) ≡ input_count plan p s
  pub below : (s k : ℕ) → slice_index (slice_index_or form.inputs s []) k < 2 ^ plan.bits
  pub tapes : length form.tapes ≡ length plan.sessions
  pub lengths : (s : ℕ) → s < length plan.sessions → length (slice_index_or form.tapes s []) ≡ words plan p s
  pub drawn : (s : ℕ) → All (λ word. word < 2 ^ plan.bits) (slice_index_or form.tapes s [])
