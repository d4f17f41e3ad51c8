use Rattle.std.proofs.Common.{rules, ◌≡◌, ℕ, ◌+◌, ◌*◌, ◌/◌, List, ◌++◌, replicate, length, length-append, Option, ap, sym, ◌∙◌, subst, arith}
use Rattle.std.specs.Vec.{vec_len}
use Rattle.std.proofs.lemmas.List.{length-replicate}
use Rattle.std.proofs.Math.Nat.{mul-div_cancel_left}
use Rattle.atomic_table.specs.Table.{opening}
use Rattle.message_board.specs.declared.steps.About.{About}
use Rattle.message_board.specs.Words.{apart, cell_words, held, spaced}
use Rattle.message_board.specs.Rule.{IsBoard, newcomer}
use Rattle.message_board.proofs.SeatLists.{begins, held_all, spaced_length}
use Rattle.message_board.proofs.board.Board.with_slots.Goals as goal

pub open-requires-clause-rule : goal.open-requires-clause-rule
open-requires-clause-rule g c =
    let about : About g.row.W.Denot = record { world = c.args.words; seats = c.args.seats } in
    let n : c.len.result ≡ length c.args.items.items = search rules in
    let start = c.in-Ok.ensures.start ∙ ap (λ k. replicate (cell_words c.args.messages + 1) 0 ++ replicate (apart * k) 1) n in
    subst (λ l. IsBoard g.W.Promise.list g.T.SlotItem.good g.T.SlotItem.posted about (opening l c.fill-slots.result.items (newcomer about c.args.seats))) (sym start)
    (subst (λ l. IsBoard g.W.Promise.list g.T.SlotItem.good g.T.SlotItem.posted about (opening (replicate (cell_words c.args.messages + 1) 0 ++ replicate (apart * length c.args.items.items) 1) l (newcomer about c.args.seats))) (sym c.fill-slots.ensures.slots)
    (begins g.W.Promise.list g.T.SlotItem.good g.T.SlotItem.posted about c.args.messages c.args.items.items c.requires.messages c.requires.items))

pub returns-in-Err-clause-back : goal.returns-in-Err-clause-back
returns-in-Err-clause-back g c = c.give_back.ensures ∙ ap held (c.in-Err.ensures.back ∙ c.fill-slots.ensures.slots) ∙ held_all c.args.items.items

-- how many places the items take, and how many slots those are
places : {T : Type 0} (items : List T) (slots : List (Option T)) → slots ≡ spaced items → length slots ≡ apart * length items
places items slots is = ap length is ∙ spaced_length items

counted : {T : Type 0} (items : List T) (slots : List (Option T)) → slots ≡ spaced items → length slots / apart ≡ length items
counted items slots is = ap (λ n. n / apart) (places items slots is) ∙ mul-div_cancel_left (length items) (omega arith)

pub open-requires-clause-few : goal.open-requires-clause-few
open-requires-clause-few g c =
    let n : vec_len c.args.items ≡ length c.args.items.items = search rules in
    let m : vec_len c.fill-slots.result ≡ length c.fill-slots.result.items = search rules in
    let count : vec_len c.fill-slots.result / apart ≡ length c.args.items.items = ap (λ k. k / apart) m ∙ counted c.args.items.items c.fill-slots.result.items c.fill-slots.ensures.slots in
    (omega (arith, c.requires.messages), omega (arith, c.requires.few))

pub open-requires-clause-places : goal.open-requires-clause-places
open-requires-clause-places g c =
    let m : vec_len c.fill-slots.result ≡ length c.fill-slots.result.items = search rules in
    let all = places c.args.items.items c.fill-slots.result.items c.fill-slots.ensures.slots in
    let count : vec_len c.fill-slots.result / apart ≡ length c.args.items.items = ap (λ k. k / apart) m ∙ counted c.args.items.items c.fill-slots.result.items c.fill-slots.ensures.slots in
    omega arith

pub open-requires-clause-words : goal.open-requires-clause-words
open-requires-clause-words g c =
    let n : c.len.result ≡ length c.args.items.items = search rules in
    let m : vec_len c.fill-slots.result ≡ length c.fill-slots.result.items = search rules in
    let s : vec_len c.in-Ok.field-0.start ≡ length c.in-Ok.field-0.start.items = search rules in
    let all = places c.args.items.items c.fill-slots.result.items c.fill-slots.ensures.slots in
    let empty : List ℕ = replicate (cell_words c.args.messages + 1) 0 in
    let home : List ℕ = replicate (apart * c.len.result) 1 in
    let start : length c.in-Ok.field-0.start.items ≡ length empty + length home = ap length c.in-Ok.ensures.start ∙ length-append empty home in
    let e : length empty ≡ cell_words c.args.messages + 1 = length-replicate (cell_words c.args.messages + 1) 0 in
    let h : length home ≡ apart * c.len.result = length-replicate (apart * c.len.result) 1 in
    omega (arith, c.requires.messages)

pub give_back-requires : goal.give_back-requires
give_back-requires g c =
    let n : vec_len c.args.items ≡ length c.args.items.items = search rules in
    let back = ap (λ s. length (held s)) (c.in-Err.ensures.back ∙ c.fill-slots.ensures.slots) ∙ ap length (held_all c.args.items.items) in
    (c.fill-slots.ensures.items, (let a = c.fill-slots.ensures.capacity in omega arith))

pub returns-in-Ok-open-clause-board : goal.returns-in-Ok-open-clause-board
returns-in-Ok-open-clause-board g c =
    let n : vec_len c.args.items ≡ length c.args.items.items = search rules in
    let m : vec_len c.fill-slots.result ≡ length c.fill-slots.result.items = search rules in
    (c.in-Ok-open.ensures.board.0, c.in-Ok-open.ensures.board.1 ∙ ap (λ k. k / apart) m ∙ counted c.args.items.items c.fill-slots.result.items c.fill-slots.ensures.slots ∙ sym n)
