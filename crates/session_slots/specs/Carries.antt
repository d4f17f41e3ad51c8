-- What the sessions of a list carry from earlier ones of them, and what these keep for them.
use Rattle.std.specs.Prelude.{◌≡◌, ℕ, ◌+◌, ◌<◌, ◌≤◌, true, if◌then◌else◌, All, IsSomeAnd, List, [], ◌∷◌, length, take, slice_get, slice_index_or}
use Rattle.list_laws.specs.Lists.{joined, listed, only_if, total}
use Rattle.session_slots.specs.declared.source.Source.{Source}
use Rattle.session_slots.specs.declared.source.Source.TheVariants.{Given, Earlier}
use Rattle.session_slots.specs.declared.values.InputValue.{InputValue}
use Rattle.session_slots.specs.declared.values.KeptWire.{KeptWire}
use Rattle.session_slots.specs.declared.values.OutputValue.{OutputValue}
use Rattle.session_slots.specs.declared.values.Owner.TheVariants.{Carried}
use Rattle.session_slots.specs.Sessions.{Session, carried_output, carries, first_output, is_carried, no_kept, owners, readers, session_at, source}

-- input wire v of session s carries this output wire of session r, if it carries one of that session
abbrev pub kept_for : List Session → ℕ → ℕ → ℕ → List KeptWire
kept_for sessions r s v =
    let from = source (session_at sessions s) v in
    only_if
    (carries r from)
    (record { session = s; wire = v; output = carried_output (session_at sessions r) from } ∷ [])

-- what the sessions of this list carry from session r, by session, then input wire
abbrev pub kept_from : ℕ → List Session → List KeptWire
kept_from r sessions =
    joined (length sessions) (λ s. joined (length (owners (session_at sessions s))) (kept_for sessions r s))

-- how many of the first n input wires of x are carried from session r
abbrev pub carried_before : ℕ → Session → ℕ → ℕ
carried_before r x n = total n (λ v. if carries r (source x v) then 1 else 0)

-- the session from which a wire is carried
abbrev pub carrier : Source → ℕ
carrier (Given p) = 0
carrier (Earlier r c i) = r

-- how many wires that session keeps before the one that input wire v of session s carries
abbrev pub kept_place : List Session → ℕ → ℕ → ℕ
kept_place sessions s v =
    let r = carrier (source (session_at sessions s) v) in
    total s (λ u. carried_before r (session_at sessions u) (length (owners (session_at sessions u))))
    + carried_before r (session_at sessions s) v

-- this wire is kept by session r at place j: an input wire of one of the sessions carries it
pub record IsKeptAt (sessions : List Session) (r j : ℕ) (kept : KeptWire) : Type 0 where
  pub session : kept.session < length sessions
  pub wire : kept.wire < length (owners (session_at sessions kept.session))
  pub carried : carries r (source (session_at sessions kept.session) kept.wire) ≡ true
  pub output :
      kept.output ≡ carried_output (session_at sessions r) (source (session_at sessions kept.session) kept.wire)
  pub place : kept_place sessions kept.session kept.wire ≡ j

-- each carried wire stands at its place among those that its session keeps, each place is one wire's, and no more wires
-- are kept than there are input wires
pub record KeptHavePlaces (sessions : List Session) : Type 0 where
  pub there : (s v r c i : ℕ) → s < length sessions → source (session_at sessions s) v ≡ Earlier r c i
      → (kept_place sessions s v < length (kept_from r sessions))
      × (slice_index_or (kept_from r sessions) (kept_place sessions s v) no_kept
      ≡ record { session = s; wire = v; output = carried_output (session_at sessions r) (Earlier r c i) })
  pub each : (r j : ℕ) → j < length (kept_from r sessions)
      → IsKeptAt sessions r j (slice_index_or (kept_from r sessions) j no_kept)
  pub few : (r : ℕ)
      → length (kept_from r sessions) ≤ total (length sessions) (λ s. length (owners (session_at sessions s)))

-- ---- values that fit

-- output value c of session r, which is one of these, has this width
pub record IsCarriedFrom (earlier : List Session) (r c width : ℕ) : Type 0 where
  pub session : r < length earlier
  pub value : IsSomeAnd (slice_get (session_at earlier r).outputs c)
      (λ (value : OutputValue). value.width ≡ width)

-- each carried input value is one of the output values of an earlier session, of the same width
abbrev pub CarriesFit : List Session → Session → Type 0
CarriesFit earlier s =
    All (λ (value : InputValue). (r c : ℕ) → value.owner ≡ Carried r c → IsCarriedFrom earlier r c value.width) s.inputs

-- each carried input wire carries an output wire of an earlier session
pub record CarriesOutputs (earlier : List Session) (s : Session) : Type 0 where
  pub session : (v r c i : ℕ) → source s v ≡ Earlier r c i → r < length earlier
  pub output : (v r c i : ℕ) → source s v ≡ Earlier r c i
      → carried_output (session_at earlier r) (source s v)
      < length (readers (session_at earlier r))

-- the carried values of each session fit the sessions before it
abbrev pub AllFit : List Session → Type 0
AllFit sessions = (s : ℕ) → s < length sessions → CarriesFit (take s sessions) (session_at sessions s)

-- the same sessions, each of which keeps what those of the list carry from it
abbrev pub keeping : List Session → List Session
keeping sessions = listed (length sessions) (λ s. record (session_at sessions s) { kept = kept_from s sessions })

-- the first output wire of each output value of a session, counted from the first of all
abbrev pub first_outputs : Session → List ℕ
first_outputs s = listed (length s.outputs) (first_output s)

-- how many input wires a session carries from others
abbrev pub carried_count : Session → ℕ
carried_count s = total (length (owners s)) (λ v. if is_carried (source s v) then 1 else 0)
