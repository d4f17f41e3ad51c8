use Rattle.std.proofs.Common.{length, sym, ap, ap₂, ◌∙◌, subst}
use Rattle.std.specs.Prelude.{None}
use Rattle.std.proofs.lemmas.List.{length-replicate}
use Rattle.plan_model.specs.Plans.{Plan}
use Rattle.message_board.specs.Plain.{CellContents, plain_cell}
use Rattle.party_file.specs.Table.{PartyForm}
use Rattle.node_run.specs.Ready.{NodePart, Kept, IsNodeReady, given_words}
use Rattle.node_run.proofs.ReadyKept.{opened_given, empty_cells}
use Rattle.node_run.proofs.ready.NodeReady.make.Goals as goal

pub returns : goal.returns
returns c =
    let given = given_words c.args.inputs.now c.args.tapes.items in
    ap₂ (λ (plan : Plan) (given : PartyForm). record { plan = plan; me = c.args.me; given = given; digest = c.args.digest.now; form = c.args.form }) c.of.ensures
    (opened_given c.args.plan.now c.args.me given c.in_ok-desks.desks.items c.requires.fits.sessions c.requires.fits.tapes c.in_ok-desks.ensures)

pub invariant_of-result : goal.invariant_of-result
invariant_of-result c =
    let part : NodePart = record {
      plan = c.args.plan.now;
      me = c.args.me;
      given = given_words c.args.inputs.now c.args.tapes.items;
      digest = c.args.digest.now;
      form = c.args.form;
    } in
    let kept : Kept = record {
      desks = c.in_ok-desks.desks.items;
      words = c.in_ok-words.words;
      boxes = c.in_ok-boxes.boxes.items;
      places = c.in_ok-places.places.items;
      readers = c.in_ok-boxes.readers.items;
      parker = c.in_ok-parker.parker;
    } in
    let ready : IsNodeReady part kept = record {
      fits = record { sound = c.ring.ensures.sound; party = c.requires.party; fits = c.requires.fits; digest = c.told-digest };
      desks = c.in_ok-desks.ensures;
      words = record {
        count = ap (λ (w : CellContents). length w.cells) c.in_ok-words.ensures ∙ length-replicate c.messages.result None ∙ c.messages.ensures;
        empty = λ m. ap (λ (w : CellContents). plain_cell w.cells m) c.in_ok-words.ensures ∙ empty_cells c.messages.result m;
        bits = ap (λ (w : CellContents). w.bits) c.in_ok-words.ensures ∙ c.ring.ensures.is;
      };
      peers = c.in_ok-boxes.ensures;
      places = c.in_ok-places.ensures;
    } in
    subst (λ (part : NodePart). IsNodeReady part kept) (sym (returns c)) ready
