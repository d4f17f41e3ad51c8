-- What a verdict on a text says.
use Rattle.std.specs.Prelude.{◌≡◌, ◌≢◌, ◌↔◌, ◌⊎◌, ℕ, ◌+◌, ◌^◌, ◌<◌, true, List, [], length, take, slice_index_or, Some, Ok, Err}
use Rattle.std.specs.List.{AllByRecursion}
use Rattle.party_names.specs.Names.{AreNames}
use Rattle.plan_model.specs.declared.key.Key.{Key}
use Rattle.view_check.specs.declared.fault.CheckFault.{CheckFault}
use Rattle.view_check.specs.declared.fault.CheckFault.TheVariants.{WrongWord}
use Rattle.view_check.specs.Lines.{lines_of}
use Rattle.view_check.specs.Heads.{head_line, head_mask}
use Rattle.view_check.specs.WrittenLines.{word_in}
use Rattle.view_check.specs.MessageLines.{is_key}
use Rattle.view_check.specs.Views.{verdict}
use Rattle.view_text.specs.ViewText.{view_text}

-- a message between parties of these names, and its word, of which each number is below 2^64
pub record IsTold (names : List (List ℕ)) (message : Key × ℕ) : Type 0 where
  pub session : message.0.session < 2 ^ 64
  pub slot : message.0.slot < 2 ^ 64
  pub share : message.0.share < 2 ^ 64
  pub sender : message.0.sender < length names
  pub receiver : message.0.receiver < length names
  pub word : message.1 < 2 ^ 64

-- all that groups of the parties see can be told
abbrev pub AreTold : List (List ℕ) → (ℕ → List (Key × ℕ)) → Type 0
AreTold names see = (group : ℕ) → group < 2 ^ length names → AllByRecursion (IsTold names) (see group)

-- the first line of a view names one group, and is how that group is written
abbrev pub HeadsAreRead : Type 0
HeadsAreRead =
    (names : List (List ℕ)) (line : List ℕ) (group : ℕ) → AreNames names
    → (head_mask names line ≡ Some group) ↔ ((group < 2 ^ length names) × (line ≡ head_line names group))

-- a text has the lines of the view of a group
pub record IsView (names : List (List ℕ)) (see : ℕ → List (Key × ℕ)) (text : List ℕ) (count : ℕ) : Type 0 where
  pub group : ℕ
  pub parties : group < 2 ^ length names
  pub lines : lines_of text ≡ lines_of (view_text names group (see group))
  pub counted : count ≡ length (see group)

-- a yes says just that the text has the lines of the view of a group, and counts its messages
abbrev pub YesIsView : Type 0
YesIsView =
    (names : List (List ℕ)) (see : ℕ → List (Key × ℕ)) (text : List ℕ) (count : ℕ) → AreNames names → AreTold names see
    → (verdict names see text ≡ Ok count) ↔ IsView names see text count

-- each text is the view of a group, with one count, or it has a fault, and no text is both
abbrev pub HasOneAnswer : Type 0
HasOneAnswer =
    (names : List (List ℕ)) (see : ℕ → List (Key × ℕ)) (text : List ℕ) → AreNames names → AreTold names see
    → (((count : ℕ) × IsView names see text count) ⊎ ((fault : CheckFault) × (verdict names see text ≡ Err fault)))
    × ((count other : ℕ) → IsView names see text count → IsView names see text other → count ≡ other)
    × ((count : ℕ) (fault : CheckFault) → IsView names see text count → verdict names see text ≡ Err fault → ⊥)

-- line n of a text is that of a message of the group but for its word, and the lines before it are right
pub record IsWrongWord (names : List (List ℕ)) (see : ℕ → List (Key × ℕ)) (text : List ℕ) (n wanted found : ℕ)
    : Type 0 where
  pub group : ℕ
  pub parties : group < 2 ^ length names
  pub at : ℕ
  pub there : at < length (see group)
  pub number : n ≡ at + 2
  pub key : Key
  pub message : (d : Key × ℕ) → slice_index_or (see group) at d ≡ (key, wanted)
  pub before : take (at + 1) (lines_of text) ≡ take (at + 1) (lines_of (view_text names group (see group)))
  pub names_key : is_key names (slice_index_or (lines_of text) (at + 1) []) key ≡ true
  pub has : word_in (slice_index_or (lines_of text) (at + 1) []) ≡ found
  pub other : found ≢ wanted

-- where a word is wrong, the wanted one is that of the line's message, and all lines before are right
abbrev pub WrongWordsAreOthers : Type 0
WrongWordsAreOthers =
    (names : List (List ℕ)) (see : ℕ → List (Key × ℕ)) (text : List ℕ) (n wanted found : ℕ)
    → AreNames names → AreTold names see
    → verdict names see text ≡ Err (WrongWord n wanted found) → IsWrongWord names see text n wanted found
