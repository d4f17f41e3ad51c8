-- How a walk through what was given ends.
use Rattle.std.specs.Prelude.{◌≡◌, ℕ, ◌⊎◌, List, Option, None, Some, Result, Ok, Err}

-- accepted, with what was read; stopped at a file that is missing, by its name; or refused, with a status and a line
pub data Verdict (A : Type 0) : Type 0 where
  accepted : A → Verdict A
  missing : List ℕ → Verdict A
  refused : ℕ → List ℕ → Verdict A

-- a walk that ends with this verdict
abbrev pub Ends : {A : Type 0} → Verdict A → Verdict A → Type 0
Ends verdict end = end ≡ verdict

-- one walk, and after it another that is given what the first accepted
unfoldable pub Then :
    {A B : Type 0} → (Verdict A → Type 0) → (A → Verdict B → Type 0) → Verdict B → Type 0
Then {A} first next (accepted b) = (a : A) × first (accepted a) × next a (accepted b)
Then {A} first next (missing name) =
    first (missing name)
    ⊎ ((a : A) × first (accepted a) × next a (missing name))
Then {A} first next (refused status line) =
    first (refused status line)
    ⊎ ((a : A) × first (accepted a) × next a (refused status line))

-- a value, or with its line a fault that is refused with status 3
abbrev pub verdict_of : {A F : Type 0} → (F → List ℕ) → Result A F → Verdict A
verdict_of line (Ok a) = accepted a
verdict_of line (Err fault) = refused 3 (line fault)

-- a value, unless there is a fault, which is refused with its line and status 3
abbrev pub unless : {A F : Type 0} → Option F → (F → List ℕ) → A → Verdict A
unless None line a = accepted a
unless (Some fault) line a = refused 3 (line fault)

-- the walk ends with one verdict at most
abbrev pub EndsOnce : {A : Type 0} → (Verdict A → Type 0) → Type 0
EndsOnce {A} walk = (v w : Verdict A) → walk v → walk w → v ≡ w
