-- What the line of a refusal tells of a fault.
use Rattle.std.specs.Prelude.{ℕ, ℤ, List, [], ◌∷◌, ◌++◌, Option, Some, None, codes}
use Rattle.fault_table.specs.declared.key.EntryKey.{EntryKey}
use Rattle.fault_table.specs.declared.key.KeyValue.{KeyValue as Given}
use Rattle.fault_table.specs.declared.key.KeyValue.TheVariants as given

-- what a key tells: a number, a text, a name that a file gave, or the name of the party of this number
pub data KeyValue : Type 0 where
  Number : (n : ℕ) → KeyValue
  Signed : (z : ℤ) → KeyValue
  Text : (text : List ℕ) → KeyValue
  Name : (name : List ℕ) → KeyValue
  Party : (p : ℕ) → KeyValue

-- keys, and what they tell
abbrev pub Keys : Type 0
Keys = List (List ℕ × KeyValue)

-- the number of a fault in its part, or 0 for want of memory; its name; its keys in the order in which they are written
pub record Entry : Type 0 where
  pub number : ℕ
  pub name : List ℕ
  pub keys : Keys

abbrev pub fault : ℕ → List ℕ → Keys → Entry
fault number name keys = record { number = number; name = name; keys = keys }

-- ---- keys that many faults have

-- the line of a text
abbrev pub on_line : ℕ → Keys
on_line line = (codes "line", Number line) ∷ []

-- a place in a text or in a list
abbrev pub at_place : ℕ → Keys
at_place at = (codes "at", Number at) ∷ []

-- the session, if the fault stands in one
abbrev pub in_session : Option ℕ → Keys
in_session None = []
in_session (Some session) = (codes "session", Number session) ∷ []

-- what is wanted, and what there is
abbrev pub found_for : ℕ → ℕ → Keys
found_for wanted found = (codes "wanted", Number wanted) ∷ (codes "found", Number found) ∷ []

-- ---- more keys

abbrev pub with_keys : Entry → Keys → Entry
with_keys entry keys = fault entry.number entry.name (entry.keys ++ keys)

abbrev pub with_key : Entry → List ℕ → KeyValue → Entry
with_key entry key value = with_keys entry ((key, value) ∷ [])

-- with the party in front
abbrev pub of_party : ℕ → Entry → Entry
of_party p entry = fault entry.number entry.name ((codes "party", Party p) ∷ entry.keys)

-- ---- what the code's keys tell

abbrev pub told_value : Given → KeyValue
told_value (given.Number n) = Number n
told_value (given.Signed z) = Signed z
told_value (given.Text text) = Text text.now
told_value (given.Name name) = Name name.now
told_value (given.Party p) = Party p

abbrev pub told_key : EntryKey → List ℕ × KeyValue
told_key k = (k.key.now, told_value k.value)
