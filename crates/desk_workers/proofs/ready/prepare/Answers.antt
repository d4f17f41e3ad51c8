use Rattle.std.proofs.Common.{rules, ◌≡◌, ◌<◌, ◌≤◌, length, vec_len, vec_capacity, ap, sym, subst, ◌∙◌, arith}
use Rattle.std.proofs.lemmas.List.{length-map}
use Rattle.std.specs.Prelude.{slice_get}
use Rattle.message_board.specs.Seats.{slots_of}
use Rattle.message_board.specs.Pairs.{total_over}
use Rattle.party_desk.specs.declared.desk.Desk.{Desk}
use Rattle.party_desk.specs.Desks.{IsDesk}
use Rattle.program_laws.specs.Lawful.{given_to}
use Rattle.desk_laws.specs.Pieces.{world_of_pieces}
use Rattle.desk_laws.proofs.OpenedDesks.{whole_is, new_desks}
use Rattle.desk_workers.specs.Promises.{world_in}
use Rattle.desk_workers.proofs.Boxes.{desk_in, desk_at}
use Rattle.desk_workers.proofs.Counts.{all_instructions}
use Rattle.desk_workers.proofs.PostedPairs.{nothing_posted}
use Rattle.desk_workers.proofs.ready.prepare.Goals as goal

pub returns-in_err-opened-clause-whole : goal.returns-in_err-opened-clause-whole
returns-in_err-opened-clause-whole c = whole_is c.args.plan.now c.parties-parties.ensures.sound c.args.inputs.now c.requires.inputs c.args.pieces.items c.requires.pieces

pub returns-in_err-items-clause-whole : goal.returns-in_err-items-clause-whole
returns-in_err-items-clause-whole c = whole_is c.args.plan.now c.parties-parties.ensures.sound c.args.inputs.now c.requires.inputs c.args.pieces.items c.requires.pieces

pub returns-in_err-desks-clause-whole : goal.returns-in_err-desks-clause-whole
returns-in_err-desks-clause-whole c = whole_is c.args.plan.now c.parties-parties.ensures.sound c.args.inputs.now c.requires.inputs c.args.pieces.items c.requires.pieces

pub returns-in_err-last-clause-whole : goal.returns-in_err-last-clause-whole
returns-in_err-last-clause-whole c = whole_is c.args.plan.now c.parties-parties.ensures.sound c.args.inputs.now c.requires.inputs c.args.pieces.items c.requires.pieces

pub returns-in-Ok-clause-whole : goal.returns-in-Ok-clause-whole
returns-in-Ok-clause-whole c = whole_is c.args.plan.now c.parties-parties.ensures.sound c.args.inputs.now c.requires.inputs c.args.pieces.items c.requires.pieces

pub returns-in-Err-clause-whole : goal.returns-in-Err-clause-whole
returns-in-Err-clause-whole c = whole_is c.args.plan.now c.parties-parties.ensures.sound c.args.inputs.now c.requires.inputs c.args.pieces.items c.requires.pieces

pub make-requires-clause-items : goal.make-requires-clause-items
make-requires-clause-items c i x at =
    let opened = c.in_ok-opened.ensures in
    let is = c.of-promised.ensures in
    let are = new_desks c.args.plan.now c.parties-parties.ensures.sound c.args.inputs.now c.requires.inputs c.args.pieces.items c.requires.pieces c.in_ok-opened.opened.items opened.0 opened.1 in
    let there = ap (λ l. slice_get l i) (sym c.in_ok-items.ensures) ∙ desk_at c.in_ok-items.items.items i x at in
    let start : x.value.position ≡ 0 = (opened.1 i x.value there).position in (
      subst (λ v. IsDesk (given_to v i) x.value) (sym is) (are.desks i x.value there),
      nothing_posted (world_in c.of-promised.result) x.value start,
    )

pub returns-in-Ok-clause-ready : goal.returns-in-Ok-clause-ready
returns-in-Ok-clause-ready c =
    let opened = c.in_ok-opened.ensures in
    let made = c.in-Ok.ensures in
    let are = new_desks c.args.plan.now c.parties-parties.ensures.sound c.args.inputs.now c.requires.inputs c.args.pieces.items c.requires.pieces c.in_ok-opened.opened.items opened.0 opened.1 in
    let boxes : vec_len c.in_ok-items.items ≡ length c.in_ok-items.items.items = search rules in
    let many : vec_len c.in_ok-items.items ≡ length c.in_ok-opened.opened.items = boxes ∙ sym (length-map c.in_ok-items.items.items desk_in) ∙ ap length c.in_ok-items.ensures in
    let seats : length c.in-Ok.made.1.items ≡ c.args.workers = search rules in
    let slots : slots_of c.in-Ok.made.0.id ≡ vec_len c.in_ok-items.items = made.rack.1 in
    let room : c.len.result ≤ vec_capacity c.in_ok-desks.desks = c.in_ok-desks.ensures.capacity in
    let asked : c.len.result ≡ vec_len c.in_ok-items.items = c.len.ensures in
    let last : 1 ≤ vec_capacity c.in_ok-last.last = c.in_ok-last.ensures.capacity in
    let some : 0 < c.args.workers = c.requires.workers.0 in
    record {
      world = ap (λ a. world_in a.world) made.rack.0 ∙ c.of-promised.ensures;
      whole = whole_is c.args.plan.now c.parties-parties.ensures.sound c.args.inputs.now c.requires.inputs c.args.pieces.items c.requires.pieces;
      parties = c.parties-parties.ensures.is;
      slots = slots ∙ many ∙ are.many;
      some = omega arith;
      all = seats ∙ sym (ap (λ a. a.seats) made.rack.0);
      new = made.seats;
      instructions = c.instructions_in-instructions.ensures ∙ ap (λ l. total_over (λ (d : Desk). d.instructions) l) c.as_slice.ensures.value ∙ all_instructions (world_of_pieces c.args.plan.now c.args.inputs.now c.args.pieces.items) c.in_ok-opened.opened.items are;
      no_desk = c.in_ok-desks.ensures.items;
      room = omega arith;
      no_seat = c.in_ok-last.ensures.items;
      last = omega arith;
    }
