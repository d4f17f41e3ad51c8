-- What the line of a refusal tells of a fault of a job's file.
use Rattle.std.specs.Prelude.{ℕ, List, [], ◌∷◌, ◌++◌, codes, Some}
use Rattle.fault_table.specs.Tables.{Keys, Entry, fault, in_session, at_place, Number, Signed, Text, Name}
use Rattle.party_names.specs.declared.names.NamesFault.{NamesFault}
use Rattle.party_names.specs.declared.names.NamesFault.TheVariants.{BadName, TwiceNamed, PartyCount, Memory as NoMemory}
use Rattle.job_file.specs.Names.{field_text}
use Rattle.job_file.specs.declared.field.JobField.{JobField}
use Rattle.job_file.specs.declared.fault.JobFault.{JobFault}
use Rattle.job_file.specs.declared.fault.JobFault.TheVariants.{NotToml, Version, Missing, Unknown, WrongKind, BadRing, Names, SessionCount, BadFileName, BadLayout, BadProducts, BadOrder, BadOwner, BadCarry, BadReader, BadHost, BadPort, BadFrames, BadViews, BadTolerated, TooManyTolerated, Memory}

-- the part that refuses: the file's own text, or the parties' names
abbrev pub fault_part : JobFault → List ℕ
fault_part (Names f) = codes "names"
fault_part _ = codes "job"

-- the field that is missing, or of another kind
abbrev pub of_field : JobField → Keys
of_field f = (codes "field", Text (field_text f)) ∷ []

-- an output value, or a list of names
abbrev pub of_value : ℕ → Keys
of_value value = (codes "value", Number value) ∷ []

abbrev pub of_count : ℕ → Keys
of_count count = (codes "count", Number count) ∷ []

abbrev pub told_names_fault : NamesFault → Entry
told_names_fault (BadName at) = fault 1 (codes "BadName") (at_place at)
told_names_fault (TwiceNamed at) = fault 2 (codes "TwiceNamed") (at_place at)
told_names_fault (PartyCount count) = fault 3 (codes "PartyCount") (of_count count)
told_names_fault NoMemory = fault 0 (codes "Memory") []

abbrev pub told_job_fault : JobFault → Entry
told_job_fault NotToml = fault 1 (codes "NotToml") []
told_job_fault (Version found) = fault 2 (codes "Version") ((codes "found", Signed found) ∷ [])
told_job_fault (Missing session f) = fault 3 (codes "Missing") (in_session session ++ of_field f)
told_job_fault (Unknown session name) = fault 4 (codes "Unknown") (in_session session ++ (codes "name", Name name) ∷ [])
told_job_fault (WrongKind session f) = fault 5 (codes "WrongKind") (in_session session ++ of_field f)
told_job_fault (BadRing bits) = fault 6 (codes "BadRing") ((codes "bits", Signed bits) ∷ [])
told_job_fault (BadOwner session at) = fault 7 (codes "BadOwner") (in_session (Some session) ++ at_place at)
told_job_fault (BadReader session value at) =
    fault 8 (codes "BadReader") (in_session (Some session) ++ (of_value value ++ at_place at))
told_job_fault (BadFileName session) = fault 10 (codes "BadFileName") (in_session (Some session))
told_job_fault (BadLayout session) = fault 11 (codes "BadLayout") (in_session (Some session))
told_job_fault (SessionCount count) = fault 12 (codes "SessionCount") (of_count count)
told_job_fault (BadHost at) = fault 13 (codes "BadHost") (at_place at)
told_job_fault (BadPort port) = fault 14 (codes "BadPort") ((codes "port", Signed port) ∷ [])
told_job_fault (BadTolerated value at) = fault 15 (codes "BadTolerated") (of_value value ++ at_place at)
told_job_fault (TooManyTolerated count) = fault 16 (codes "TooManyTolerated") (of_count count)
told_job_fault (BadProducts session) = fault 17 (codes "BadProducts") (in_session (Some session))
told_job_fault (BadCarry session at) = fault 18 (codes "BadCarry") (in_session (Some session) ++ at_place at)
told_job_fault BadFrames = fault 19 (codes "BadFrames") []
told_job_fault BadViews = fault 20 (codes "BadViews") []
told_job_fault (BadOrder session) = fault 22 (codes "BadOrder") (in_session (Some session))
told_job_fault (Names f) = told_names_fault f
told_job_fault Memory = fault 0 (codes "Memory") []
