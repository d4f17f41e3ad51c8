-- A run with its readers, and what it leaves.
use Rattle.std.specs.Prelude.{◌≡◌, ◌⊎◌, ℕ, suc, ◌+◌, ◌≤◌, nat_lt, if◌then◌else◌, is_err, IsTrue, List, [], ◌∷◌, length, map, take, slice_get, slice_index_or, Option, None, Some, Result, Ok, Err}
use Rattle.std.specs.List.{list_all}
use Rattle.atomic_table.specs.Seated.{TableId}
use Rattle.message_board.specs.Plain.{CellContents, plain_cell}
use Rattle.inbox_board.specs.Seats.{mark_of}
use Rattle.inbox_board.specs.Folds.{GotWhatWasPushed}
use Rattle.party_desk.specs.declared.desk.Desk.{Desk}
use Rattle.outer_io.specs.Count.{Rose}
use Rattle.outer_io.specs.Inlet.{InletReading, shut_inlet}
use Rattle.outer_io.specs.Jobs.{SpawnerReading}
use Rattle.outer_io.specs.Links.{are_flushed}
use Rattle.outer_io.specs.Outlet.{OutletReading, shut_outlet}
use Rattle.node_talk.specs.declared.fault.NodeFault.{NodeFault}
use Rattle.node_talk.specs.declared.fault.NodeFault.TheVariants.{Link, NoThread}
use Rattle.node_talk.specs.Runs.{Results}
use Rattle.node_talk.specs.Talks.{Node, IsPeer}
use Rattle.link_reader.specs.Wakers.{WakerModel}
use Rattle.link_reader.specs.Expected.{TalkModel}
use Rattle.link_reader.specs.Heard.{KeepsCalm}
use Rattle.link_reader.specs.ReadWords.{ReadsWords}
use Rattle.link_reader.specs.NodeReaders.{incoming}
use Rattle.node_run.specs.Mail.{Mail, IsMail, BoxModel, NothingWaits, no_box}
use Rattle.node_run.specs.Progress.{Begin, IsOf, Going, InOrder, Halted}

-- a reader but for its inlet: what it expects, the inbox that it fills, and what it wakes its party with
pub record ReaderPartsModel : Type 0 where
  pub talk : TalkModel
  pub id : TableId
  pub waker : WakerModel

-- what a run leaves: the peer to which a send failed, the one whose reader wasn't started, and the first reader's fault
pub record RemainsModel : Type 0 where
  pub outlets : List OutletReading
  pub words : CellContents
  pub boxes : List BoxModel
  pub desks : List Desk
  pub failed : Option ℕ
  pub refused : Option ℕ
  pub fault : Option NodeFault

-- the fault that is told: that of a send that failed, of a start that was refused, or the first of a reader
abbrev pub fault_told : Option ℕ → Option ℕ → Option NodeFault → Option NodeFault
fault_told (Some q) refused fault = Some (Link q)
fault_told None (Some q) fault = Some (NoThread q)
fault_told None None fault = fault

-- the answer of a run that told this fault, or else has these results
abbrev pub answer : Option NodeFault → Results → Result Results NodeFault
answer None r = Ok r
answer (Some fault) r = Err fault

-- the peer of party p that stands at this place
abbrev pub party_at : ℕ → ℕ → ℕ
party_at p place = if nat_lt place p then place else suc place

-- the parts of the reader of the peer at a place
pub record IsFor (n : Node) (start : Begin) (place : ℕ) (parts : ReaderPartsModel) : Type 0 where
  pub talk : parts.talk ≡ incoming n (party_at n.me place)
  pub id : parts.id ≡ slice_index_or start.ids place no_box.id

-- all readers from this place on are still to be started, and nothing is done
pub record MayRun (n : Node) (start : Begin) (place : ℕ) (readers : List ReaderPartsModel) (desks : List Desk)
    (now : Mail) : Type 0 where
  pub order : InOrder n 0 start desks now
  pub empty : (m : ℕ) → plain_cell now.words.cells m ≡ None
  pub out : NothingWaits now
  pub ids : length start.ids + 1 ≡ n.world.plan.parties
  pub count : place + length readers ≡ length start.ids
  pub parts : (k : ℕ) (d : ReaderPartsModel) → slice_get readers k ≡ Some d → IsFor n start (place + k) d

-- how a reader ended: what it read, and that what the party found in its inbox is what was pushed and left there
pub record PeerEnd (n : Node) (now : Mail) (place : ℕ) (before after : InletReading)
    (result : Result (Unit {0}) NodeFault) : Type 0 where
  pub words : List ℕ
  pub reads : ReadsWords (incoming n (party_at n.me place)) words before after result
  pub got : GotWhatWasPushed words (mark_of (is_err result)) (slice_index_or now.boxes place no_box).view

-- the fault of this reader, else that of the later ones
abbrev pub first_of : Result (Unit {0}) NodeFault → Option NodeFault → Option NodeFault
first_of (Ok _) later = later
first_of (Err fault) later = Some fault

-- the fault that is kept where a reader ended so, before the later ones
abbrev pub after_outcome : Option (Result (Unit {0}) NodeFault) → Option NodeFault → Option NodeFault
after_outcome None later = later
after_outcome (Some result) later = first_of result later

-- all readers from this place on ended, and this is the first fault of one
abbrev pub AllEnd : Node → Mail → ℕ → List InletReading → List InletReading → Option NodeFault → Type 0
AllEnd n now place [] [] fault = fault ≡ None
AllEnd n now place (before ∷ befores) (after ∷ afters) fault =
    (result : Result (Unit {0}) NodeFault) × PeerEnd n now place before after result
    × ((later : Option NodeFault) × AllEnd n now (suc place) befores afters later × (fault ≡ first_of result later))
AllEnd n now place _ _ fault = ⊥

-- no steady inlet failed
abbrev pub AllKeepCalm : List InletReading → List InletReading → Type 0
AllKeepCalm [] [] = Unit {0}
AllKeepCalm (before ∷ befores) (after ∷ afters) = KeepsCalm before after × AllKeepCalm befores afters
AllKeepCalm _ _ = ⊥

-- a reader read these words up to its end
abbrev pub ReadBy : TalkModel → InletReading → InletReading → Type 0
ReadBy talk before after =
    (words : List ℕ) × (result : Result (Unit {0}) NodeFault) × ReadsWords talk words before after result

-- The readers from this place on were started, and ended, up to that of q. That was handed back, and did nothing but to
-- close its inlet, or all its work. The later inlets were closed, and nothing was read of them.
abbrev pub EndsAtRefusal : Node → ℕ → ℕ → List InletReading → List InletReading → Type 0
EndsAtRefusal n q place (before ∷ befores) (after ∷ afters) =
    ((party_at n.me place ≡ q) × ((after ≡ shut_inlet before) ⊎ ReadBy (incoming n q) before after)
    × (afters ≡ map shut_inlet befores))
    ⊎ (ReadBy (incoming n (party_at n.me place)) before after × EndsAtRefusal n q (suc place) befores afters)
EndsAtRefusal n q place _ _ = ⊥

-- the count of refusals never falls, and a steady spawner stays steady and refuses nothing
pub record SpawnerStays (before after : SpawnerReading) : Type 0 where
  pub refusals_grow : before.refusals ≤ after.refusals
  pub steady : IsTrue before.steady → IsTrue after.steady × (after.refusals ≡ before.refusals)

-- all readers were started, and the sessions ran to their end or stopped; or a start was refused, and nothing was done
abbrev pub EndsAs : Node → Begin → ℕ → List InletReading → List InletReading → ℕ → ℕ → RemainsModel → Mail
    → Option ℕ → Type 0
EndsAs n start place before after refusals refusals' r now None =
    (InOrder n (length n.world.plan.sessions) start r.desks now ⊎ Halted n start now)
    × AllEnd n now place before after r.fault × (refusals' ≡ refusals)
EndsAs n start place before after refusals refusals' r now (Some q) =
    IsPeer n q × Going n 0 start now × ((m : ℕ) → plain_cell now.words.cells m ≡ None) × Rose refusals refusals'
    × EndsAtRefusal n q place before after

pub record Remained (n : Node) (start : Begin) (place : ℕ) (before after : List InletReading)
    (spawner spawner' : SpawnerReading) (r : RemainsModel) : Type 0 where
  pub now : Mail
  pub mail : IsMail now
  pub own : IsOf n start now
  pub outlets : r.outlets ≡ map shut_outlet now.outlets
  pub words : r.words ≡ now.words
  pub failed : r.failed ≡ now.failed
  -- where no send failed, nothing waits at an outlet
  pub out : r.failed ≡ None → IsTrue (are_flushed r.outlets)
  pub boxes : r.boxes ≡ take place now.boxes
  pub count : length after ≡ length before
  pub inlets : AllKeepCalm before after
  pub closed : IsTrue (list_all (λ (i : InletReading). i.closed) after)
  pub spawner_stays : SpawnerStays spawner spawner'
  pub ends : EndsAs n start place before after spawner.refusals spawner'.refusals r now r.refused
