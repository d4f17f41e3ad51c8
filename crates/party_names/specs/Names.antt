-- Names of parties: what a name is, and the first fault of a list of names.
use Rattle.std.specs.Prelude.{◌≡◌, ◌≢◌, ℕ, zero, suc, ◌<◌, ◌≤◌, nat_eq, nat_lt, nat_le, Bool, true, not, ◌&&◌, ◌||◌, if◌then◌else◌, Option, Some, None, List, [], length, take, position, slice_index, slice_index_or, codes}
use Rattle.std.specs.Char.{is_ascii_alphabetic, is_ascii_alphanumeric}
use Rattle.std.specs.List.{list_all, list_any}
use Rattle.std.specs.Str.{bytes_eq}
use Rattle.party_names.specs.declared.names.NamesFault.{NamesFault}
use Rattle.party_names.specs.declared.names.NamesFault.TheVariants.{BadName, TwiceNamed, PartyCount}
use Rattle.party_names.specs.declared.names.TheConstants.{LONGEST_NAME}
use Rattle.party_set.specs.declared.limits.TheConstants.{MOST_PARTIES}

-- a letter, a digit or `_`
abbrev pub is_name_byte : ℕ → Bool
is_name_byte c = is_ascii_alphanumeric c || nat_eq c 95

-- 1 to 16 letters, digits and `_`, of which the first is a letter; the word `of` is no name
abbrev pub is_name : List ℕ → Bool
is_name name =
    nat_lt 0 (length name) && (nat_le (length name) LONGEST_NAME && (is_ascii_alphabetic (slice_index name 0)
    && (list_all is_name_byte name && not (bytes_eq name (codes "of")))))

abbrev pub name_at : List (List ℕ) → ℕ → List ℕ
name_at names i = slice_index_or names i []

-- the fault of a name at place i after these names: it is no name, or stands among them
abbrev pub name_fault : List (List ℕ) → List ℕ → ℕ → Option NamesFault
name_fault before name i =
    if not (is_name name) then Some (BadName i)
    else if list_any (λ other. bytes_eq other name) before then Some (TwiceNamed i)
    else None

-- the first of two that is there
abbrev pub first_of : Option NamesFault → Option NamesFault → Option NamesFault
first_of (Some fault) other = Some fault
first_of None other = other

-- the fault of the first of n names that has one
abbrev pub first_name_fault : List (List ℕ) → ℕ → Option NamesFault
first_name_fault names zero = None
first_name_fault names (suc n) = first_of (first_name_fault names n) (name_fault (take n names) (name_at names n) n)

-- the one fault of a list of names, if it has any: its length, or the first name that has one
abbrev pub names_fault : List (List ℕ) → Option NamesFault
names_fault names =
    if nat_eq (length names) 0 || nat_lt MOST_PARTIES (length names) then Some (PartyCount (length names))
    else first_name_fault names (length names)

-- the number of the party of this name, if there is one
abbrev pub party_named : List (List ℕ) → List ℕ → Option ℕ
party_named names name = position (λ other. bytes_eq other name) names

-- 1 to 12 different names
pub record AreNames (texts : List (List ℕ)) : Type 0 where
  pub some : 1 ≤ length texts
  pub few : length texts ≤ MOST_PARTIES
  pub names : (i : ℕ) → i < length texts → is_name (name_at texts i) ≡ true
  pub different : (i j : ℕ) → i < j → j < length texts → name_at texts i ≢ name_at texts j
