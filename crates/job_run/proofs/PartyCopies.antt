-- What parties give, party by party, and the words of pieces one after another.
use Rattle.std.proofs.Common.{◌≡◌, ℕ, ◌+◌, ◌<◌, ◌≤◌, List, [], ◌∷◌, ◌++◌, length, take, map, get_or, refl, ap, ◌∙◌}
use Rattle.std.specs.List.{concat}
use Rattle.std.proofs.lemmas.List.{append-nil, take_all, take_more}
use Rattle.std.proofs.lemmas.List.Folds.{concat-append}
use Rattle.plan_model.specs.InputWords.{session_words}
use Rattle.party_file.specs.Table.{PartyForm}
use Rattle.party_file.specs.Forms.{form_of}
use Rattle.party_file.specs.declared.data.PartyData.{PartyData}

-- the inputs and the tapes of all parties, by their forms
all_inputs : (parties : List PartyData) → map (λ (party : PartyData). session_words party.inputs.items) parties ≡ map (λ (party : PartyForm). party.inputs) (map form_of parties)
all_inputs [] = refl
all_inputs (x ∷ xs) = ap (λ ys. session_words x.inputs.items ∷ ys) (all_inputs xs)

all_tapes : (parties : List PartyData) → map (λ (party : PartyData). concat party.tapes.items) parties ≡ map (λ (party : PartyForm). concat party.tapes) (map form_of parties)
all_tapes [] = refl
all_tapes (x ∷ xs) = ap (λ ys. concat x.tapes.items ∷ ys) (all_tapes xs)

-- after the last party
pub inputs_end : (parties : List PartyData) (n : ℕ) (inputs : List (List (List ℕ))) → length parties ≤ n → inputs ≡ map (λ (party : PartyData). session_words party.inputs.items) (take n parties)
    → inputs ≡ map (λ (party : PartyForm). party.inputs) (map form_of parties)
inputs_end parties n inputs past so_far = so_far ∙ ap (map (λ (party : PartyData). session_words party.inputs.items)) (take_all n parties past) ∙ all_inputs parties

pub tapes_end : (parties : List PartyData) (n : ℕ) (tapes : List (List ℕ)) → length parties ≤ n → tapes ≡ map (λ (party : PartyData). concat party.tapes.items) (take n parties)
    → tapes ≡ map (λ (party : PartyForm). concat party.tapes) (map form_of parties)
tapes_end parties n tapes past so_far = so_far ∙ ap (map (λ (party : PartyData). concat party.tapes.items)) (take_all n parties past) ∙ all_tapes parties

-- one piece more
pub concat_more : (pieces : List (List ℕ)) (i : ℕ) (d : List ℕ) → i < length pieces → concat (take (i + 1) pieces) ≡ concat (take i pieces) ++ get_or pieces i d
concat_more pieces i d l =
    ap concat (take_more pieces i d l)
    ∙ concat-append (take i pieces) (get_or pieces i d ∷ [])
    ∙ ap (λ z. concat (take i pieces) ++ z) (append-nil (get_or pieces i d))
