-- Desks and peers that are made ready one by one.
use Rattle.std.proofs.Common.{◌≡◌, ℕ, ◌+◌, ◌<◌, List, [], ◌∷◌, ◌++◌, length, map, drop, replicate, refl, sym, ap, ap₂, ◌∙◌, subst, arith, length-append}
use Rattle.std.specs.Prelude.{Option, None, Some, slice_get, slice_index_or}
use Rattle.std.proofs.lemmas.Bool.{cases_lt}
use Rattle.std.proofs.lemmas.List.{get_or-append-add, get_or-replicate, ext_get_or, length-map, length-replicate}
use Rattle.std.proofs.lemmas.Option.{slice_get-get_or, slice_get_past}
use Rattle.std.proofs.Math.ListN.{get_or-append}
use mathlib.Core.Logic.{inl, inr}
use Rattle.list_laws.proofs.PushedLists.{got_push}
use Rattle.atomic_table.specs.Seated.{TableId}
use Rattle.message_board.specs.Plain.{word_in_cell, plain_cell}
use Rattle.frame_code.specs.declared.framing.FrameForm.{FrameForm}
use Rattle.plan_model.specs.Plans.{Plan}
use Rattle.party_file.specs.Table.{PartyForm}
use Rattle.party_desk.specs.declared.desk.Desk.{Desk}
use Rattle.party_desk.specs.Desks.{IsNew}
use Rattle.program_model.specs.States.{Given, state}
use Rattle.desk_laws.proofs.Elements.{element_there, stands_at}
use Rattle.node_run.specs.Mail.{BoxModel, no_box}
use Rattle.node_run.specs.Remains.{ReaderPartsModel, party_at}
use Rattle.node_run.specs.Ready.{given_to, AreOpened, IsPeerReady, ArePeersReady}
use Rattle.node_run.proofs.CellChanges.{read_here}

-- ---- desks

-- each of these desks is new, in the session of its place
abbrev pub AreNew : Plan → ℕ → PartyForm → List Desk → Type 0
AreNew plan me given desks =
    (s : ℕ) (d : Desk) → slice_get desks s ≡ Some d
    → IsNew plan me s (slice_index_or given.inputs s []) (slice_index_or given.tapes s []) d

pub no_desks : (plan : Plan) (me : ℕ) (given : PartyForm) → AreNew plan me given []
no_desks plan me given s d e = absurd (cc)

pub one_more_desk : (plan : Plan) (me : ℕ) (given : PartyForm) (desks : List Desk) (desk : Desk) → AreNew plan me given desks
    → IsNew plan me (length desks) (slice_index_or given.inputs (length desks) []) (slice_index_or given.tapes (length desks) []) desk
    → AreNew plan me given (desks ++ desk ∷ [])
one_more_desk plan me given desks desk before new s d e = elim (got_push desks desk d s e) [
  | inl old ↦ before s d old
  | inr last ↦
      subst (λ k. IsNew plan me k (slice_index_or given.inputs k []) (slice_index_or given.tapes k []) d) (sym last.0)
      (subst (IsNew plan me (length desks) (slice_index_or given.inputs (length desks) []) (slice_index_or given.tapes (length desks) [])) last.1 new)
]

-- what a new desk has
module _ (plan : Plan) (me s : ℕ) (inputs tape : List ℕ) (d : Desk) (new : IsNew plan me s inputs tape d) where
  new_inputs : d.memory.inputs.items ≡ inputs
  new_inputs = (new.desk (λ m. 0)).inputs

  new_tape : d.memory.tape ≡ tape
  new_tape =
      let given : Given = record { plan = plan; party = me; session = s; inputs = inputs; tape = tape; got = λ m. 0 } in
      (new.desk (λ m. 0)).tape ∙ ap (λ q. drop (state given q).drawn tape) new.position

-- the desks that were opened have what was given
pub opened_given : (plan : Plan) (me : ℕ) (given : PartyForm) (desks : List Desk) → length given.inputs ≡ length plan.sessions → length given.tapes ≡ length plan.sessions
    → AreOpened plan me given desks → given_to desks ≡ given
opened_given plan me given desks sessions tapes opened = ap₂ (λ xs ts. record { inputs = xs; tapes = ts }) inputs_are tapes_are
  where
    inputs_are : map (λ (d : Desk). d.memory.inputs.items) desks ≡ given.inputs
    inputs_are =
        let long : length (map (λ (d : Desk). d.memory.inputs.items) desks) ≡ length desks = length-map desks (λ (d : Desk). d.memory.inputs.items) in
        ext_get_or [] _ _ (long ∙ opened.count ∙ sym sessions) (λ s ls.
        let d = element_there desks s (omega (arith, ls, long)) in
        read_here (λ (d : Desk). d.memory.inputs.items) desks s d.0 [] (omega (arith, ls, long))
        ∙ ap (λ (d : Desk). d.memory.inputs.items) d.2
        ∙ new_inputs plan me s (slice_index_or given.inputs s []) (slice_index_or given.tapes s []) d.0 (opened.each s d.0 d.1))

    tapes_are : map (λ (d : Desk). d.memory.tape) desks ≡ given.tapes
    tapes_are =
        let long : length (map (λ (d : Desk). d.memory.tape) desks) ≡ length desks = length-map desks (λ (d : Desk). d.memory.tape) in
        ext_get_or [] _ _ (long ∙ opened.count ∙ sym tapes) (λ s ls.
        let d = element_there desks s (omega (arith, ls, long)) in
        read_here (λ (d : Desk). d.memory.tape) desks s d.0 [] (omega (arith, ls, long))
        ∙ ap (λ (d : Desk). d.memory.tape) d.2
        ∙ new_tape plan me s (slice_index_or given.inputs s []) (slice_index_or given.tapes s []) d.0 (opened.each s d.0 d.1))

-- ---- cells

pub empty_cells : (n m : ℕ) → plain_cell (replicate n None) m ≡ None
empty_cells n m = elim (cases_lt m n) [
  | inl l ↦ ap word_in_cell (slice_get-get_or (replicate n None) m None (omega (arith, l, length-replicate {A = Option ℕ} n None)) ∙ ap Some (get_or-replicate n m None None l))
  | inr past ↦ ap word_in_cell (slice_get_past (replicate n None) m (omega (arith, past, length-replicate {A = Option ℕ} n None)))
]

-- ---- peers

pub no_peers : (plan : Plan) (me : ℕ) (parker : TableId) (digest : List ℕ) (form : FrameForm) → ArePeersReady plan me parker digest form 0 [] []
no_peers plan me parker digest form = record { box_count = refl; reader_count = refl; each = λ place r e. absurd (cc) }

pub one_more_peer : (plan : Plan) (me : ℕ) (parker : TableId) (digest : List ℕ) (form : FrameForm) (k : ℕ) (boxes : List BoxModel) (readers : List ReaderPartsModel) (box : BoxModel) (reader : ReaderPartsModel)
    → ArePeersReady plan me parker digest form k boxes readers → IsPeerReady plan me parker digest form (party_at me k) box reader → ArePeersReady plan me parker digest form (k + 1) (boxes ++ box ∷ []) (readers ++ reader ∷ [])
one_more_peer plan me parker digest form k boxes readers box reader before new = record {
  box_count = length-append boxes (box ∷ []) ∙ ap (λ z. z + 1) before.box_count;
  reader_count = length-append readers (reader ∷ []) ∙ ap (λ z. z + 1) before.reader_count;
  each = λ place r e. elim (got_push readers reader r place e) [
    | inl old ↦
        let within = (stands_at readers place r r old).0 in
        let less : place < length boxes = omega (arith, within, before.box_count, before.reader_count) in
        subst (λ b. IsPeerReady plan me parker digest form (party_at me place) b r) (sym (get_or-append boxes (box ∷ []) no_box place less)) (before.each place r old)
    | inr last ↦
        let same : k ≡ place = omega (arith, last.0, before.reader_count) in
        let here : place ≡ length boxes + 0 = omega (arith, last.0, before.box_count, before.reader_count) in
        let box_is : slice_index_or (boxes ++ box ∷ []) place no_box ≡ box = ap (λ z. slice_index_or (boxes ++ box ∷ []) z no_box) here ∙ get_or-append-add boxes (box ∷ []) 0 no_box in
        subst (λ b. IsPeerReady plan me parker digest form (party_at me place) b r) (sym box_is) (subst (λ x. IsPeerReady plan me parker digest form (party_at me place) box x) last.1 (subst (λ z. IsPeerReady plan me parker digest form (party_at me z) box reader) same new))
  ];
}
