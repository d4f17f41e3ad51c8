-- What a party runs with, and what is kept ready for its run.
use Rattle.std.specs.Prelude.{◌≡◌, ℕ, ◌-◌, ◌<◌, List, [], length, map, slice_get, slice_index_or, None, Some}
use Rattle.std.specs.Global.{Vec}
use Rattle.std.specs.List.{concat}
use Rattle.atomic_table.specs.Seated.{TableId}
use Rattle.inbox_board.specs.Rule.{newcomer}
use Rattle.message_board.specs.Plain.{CellContents, plain_cell}
use Rattle.frame_code.specs.declared.framing.FrameForm.{FrameForm}
use Rattle.plan_model.specs.Plans.{Plan}
use Rattle.plan_model.specs.Sound.{IsSound}
use Rattle.plan_model.specs.Messages.{messages}
use Rattle.plan_model.specs.InputWords.{session_words}
use Rattle.party_file.specs.Table.{PartyForm}
use Rattle.party_file.specs.Forms.{FitsPlan}
use Rattle.party_desk.specs.declared.desk.Desk.{Desk}
use Rattle.party_desk.specs.Desks.{IsNew}
use Rattle.node_talk.specs.Talks.{Node, messages_between}
use Rattle.link_reader.specs.Expected.{HasPlaces}
use Rattle.node_run.specs.Mail.{BoxModel, no_box}
use Rattle.node_run.specs.Remains.{ReaderPartsModel, party_at}

-- the plan, which party, its inputs and the pieces of its tape by session, and the job's digest and form of frames
pub record NodePart : Type 0 where
  pub plan : Plan
  pub me : ℕ
  pub given : PartyForm
  pub digest : List ℕ
  pub form : FrameForm

-- these inputs and these pieces of tape, by session
abbrev pub given_words : List (Vec ℕ) → List (List ℕ) → PartyForm
given_words inputs tapes = record { inputs = session_words inputs; tapes = tapes }

-- the inputs that desks have, and the words that are left of their tapes
abbrev pub given_to : List Desk → PartyForm
given_to desks = record {
  inputs = map (λ (d : Desk). d.memory.inputs.items) desks;
  tapes = map (λ (d : Desk). d.memory.tape) desks;
}

-- a party of a world in which it has this part
pub record IsNodeOf (part : NodePart) (n : Node) : Type 0 where
  pub plan : n.world.plan ≡ part.plan
  pub me : n.me ≡ part.me
  pub inputs : slice_index_or n.world.inputs part.me [] ≡ part.given.inputs
  pub tape : slice_index_or n.world.tapes part.me [] ≡ concat part.given.tapes
  pub digest : n.digest ≡ part.digest
  pub form : n.form ≡ part.form

-- a plan within the limits, a party of it, what it gives fits the plan, and a digest of 32 bytes
pub record IsNodePart (part : NodePart) : Type 0 where
  pub sound : IsSound part.plan
  pub party : part.me < part.plan.parties
  pub fits : FitsPlan part.plan part.me part.given
  pub digest : length part.digest ≡ 32

-- what is kept ready: desks, cells, inboxes, where each message stands in its sender's inbox, readers, and which parker
-- the party parks on
pub record Kept : Type 0 where
  pub desks : List Desk
  pub words : CellContents
  pub boxes : List BoxModel
  pub places : List ℕ
  pub readers : List ReaderPartsModel
  pub parker : TableId

-- a new desk for each session, with its inputs and its piece of tape
pub record AreOpened (plan : Plan) (me : ℕ) (given : PartyForm) (desks : List Desk) : Type 0 where
  pub count : length desks ≡ length plan.sessions
  pub each : (s : ℕ) (d : Desk) → slice_get desks s ≡ Some d
      → IsNew plan me s (slice_index_or given.inputs s []) (slice_index_or given.tapes s []) d

-- an empty cell for each message, for words of the ring
pub record AreEmptyCells (plan : Plan) (words : CellContents) : Type 0 where
  pub count : length words.cells ≡ length (messages plan)
  pub empty : (m : ℕ) → plain_cell words.cells m ≡ None
  pub bits : words.bits ≡ plan.bits

-- an empty inbox with a place for each message from q, and the reader that fills it and wakes the party, which gave no
-- token yet
pub record IsPeerReady (plan : Plan) (me : ℕ) (parker : TableId) (digest : List ℕ) (form : FrameForm) (q : ℕ)
    (box : BoxModel) (reader : ReaderPartsModel) : Type 0 where
  pub places : box.places ≡ length (messages_between plan q me)
  pub view : box.view ≡ newcomer 0
  pub talk : reader.talk
      ≡ record {
        peer = q;
        me = me;
        digest = digest;
        bits = plan.bits;
        keys = messages_between plan q me;
        form = form;
      }
  pub id : reader.id ≡ box.id
  pub waker : reader.waker ≡ record { id = parker; given = 0 }

-- these for each of the first peers, as many as are counted
pub record ArePeersReady (plan : Plan) (me : ℕ) (parker : TableId) (digest : List ℕ) (form : FrameForm) (count : ℕ)
    (boxes : List BoxModel) (readers : List ReaderPartsModel) : Type 0 where
  pub box_count : length boxes ≡ count
  pub reader_count : length readers ≡ count
  pub each : (place : ℕ) (reader : ReaderPartsModel) → slice_get readers place ≡ Some reader
      → IsPeerReady plan me parker digest form (party_at me place) (slice_index_or boxes place no_box) reader

-- all is ready for the run of this part, and nothing is done yet
pub record IsNodeReady (part : NodePart) (kept : Kept) : Type 0 where
  pub fits : IsNodePart part
  pub desks : AreOpened part.plan part.me part.given kept.desks
  pub words : AreEmptyCells part.plan kept.words
  pub peers : ArePeersReady part.plan part.me kept.parker part.digest part.form (part.plan.parties - 1)
      kept.boxes kept.readers
  pub places : (n : Node) → n.world.plan ≡ part.plan → n.me ≡ part.me → HasPlaces n kept.places
