-- What the line of a refusal tells of a fault of a party's file.
use Rattle.std.specs.Prelude.{ℕ, List, [], ◌∷◌, ◌++◌, codes}
use Rattle.fault_table.specs.Tables.{Keys, Entry, fault, in_session, at_place, found_for, Signed, Text, Name}
use Rattle.party_file.specs.declared.field.PartyField.{PartyField}
use Rattle.party_file.specs.declared.field.PartyField.TheVariants as field
use Rattle.party_file.specs.declared.fault.WordCause.{WordCause}
use Rattle.party_file.specs.declared.fault.WordCause.TheVariants as cause
use Rattle.party_file.specs.declared.fault.PartyFault.{PartyFault}
use Rattle.party_file.specs.declared.fault.PartyFault.TheVariants.{NotToml, Version, Missing, Unknown, WrongKind, CountDiffers, BadWords, WordOutOfRing, TapeAndSeed, BadSeed, TapeShort, Memory}

-- the name of a field
abbrev pub field_text : PartyField → List ℕ
field_text field.Version = codes "version"
field_text field.Inputs = codes "inputs"
field_text field.Tape = codes "tape"
field_text field.Seed = codes "seed"

-- the name of a cause
abbrev pub cause_text : WordCause → List ℕ
cause_text cause.NotNumber = codes "NotNumber"
cause_text cause.TooLarge = codes "TooLarge"

-- the field that is missing, or of another kind
abbrev pub of_field : PartyField → Keys
of_field f = (codes "field", Text (field_text f)) ∷ []

abbrev pub told_party_fault : PartyFault → Entry
told_party_fault NotToml = fault 1 (codes "NotToml") []
told_party_fault (Version found) = fault 2 (codes "Version") ((codes "found", Signed found) ∷ [])
told_party_fault (Missing f) = fault 3 (codes "Missing") (of_field f)
told_party_fault (Unknown name) = fault 4 (codes "Unknown") ((codes "name", Name name) ∷ [])
told_party_fault (WrongKind f) = fault 5 (codes "WrongKind") (of_field f)
told_party_fault (CountDiffers session wanted found) =
    fault 6 (codes "CountDiffers") (in_session session ++ found_for wanted found)
told_party_fault (BadWords session at cause) =
    fault 7 (codes "BadWords") (in_session session ++ (at_place at ++ (codes "cause", Text (cause_text cause)) ∷ []))
told_party_fault (WordOutOfRing session at) = fault 8 (codes "WordOutOfRing") (in_session session ++ at_place at)
told_party_fault TapeAndSeed = fault 9 (codes "TapeAndSeed") []
told_party_fault BadSeed = fault 10 (codes "BadSeed") []
told_party_fault (TapeShort wanted found) = fault 11 (codes "TapeShort") (found_for wanted found)
told_party_fault Memory = fault 0 (codes "Memory") []
