use Rattle.std.proofs.Common.{◌≡◌, ℕ, ◌^◌, ◌<◌, List, length, take, drop, sym, ap, ◌∙◌, subst, arith}
use Rattle.std.specs.Prelude.{slice_index}
use Rattle.std.specs.Global.{Vec}
use Rattle.std.proofs.lemmas.List.{length-map}
use Rattle.list_laws.specs.Lists.{joined}
use Rattle.plan_model.specs.Plans.{words, place}
use Rattle.plan_model.specs.InputWords.{session_words}
use Rattle.wire_tables.proofs.ListedRows.{row_read}
use Rattle.tape_map.proofs.ChangedPieces.{small_all}
use Rattle.desk_laws.specs.Pieces.{ArePieces}
use Rattle.job_run.specs.Pairs.{tapes_in}
use Rattle.job_run.proofs.CutTapes.{cut_piece, cut_row, piece_more, are_pieces, tapes_same}
use Rattle.job_run.proofs.cuts.cut_pieces.Goals as goal

pub piece_of-requires-clause-words : goal.piece_of-requires-clause-words
piece_of-requires-clause-words c =
    let p = c.loop-p.p in
    let there : p < length c.args.tapes.now = omega (arith, length-map c.args.tapes.now (λ (t : Vec ℕ). t.items), c.requires.parties) in
    let tape = c.as_slice.ensures.value ∙ row_read c.args.tapes.now p c.index-tapes-p.result there c.index-tapes-p.is in
    small_all (2 ^ c.args.plan.now.bits) c.as_slice.result.now (λ i. subst (λ xs. slice_index xs i < 2 ^ c.args.plan.now.bits) (sym tape) (c.requires.below p i))

pub loop-p-preserved : goal.loop-p-preserved
loop-p-preserved c =
    let plan = c.args.plan.now in
    let p = c.loop-p.p in
    let s = c.loop-s.s in
    let tapes : List (List ℕ) = session_words c.args.tapes.now in
    let there : p < length c.args.tapes.now = omega (arith, length-map c.args.tapes.now (λ (t : Vec ℕ). t.items), c.requires.parties) in
    let tape = c.as_slice.ensures.value ∙ row_read c.args.tapes.now p c.index-tapes-p.result there c.index-tapes-p.is in
    let piece : c.in_ok-piece_of.field-0 ≡ cut_piece plan tapes s p = c.in_ok-piece_of.ensures ∙ ap (λ tape. take (words plan p s) (drop (place plan p s 0) tape)) tape in
    piece_more plan tapes s p c.loop-p.pieces.items c.push.new.self.items c.in_ok-piece_of.field-0 c.loop-p.invariant piece c.in_ok-push.ensures.items

pub returns-clause-are : goal.returns-clause-are
returns-clause-are c =
    let plan = c.args.plan.now in
    let tapes : List (List ℕ) = session_words c.args.tapes.now in
    let ended : c.loop-s.s ≡ length plan.sessions = omega (arith, c.loop-s-test.false, c.sessions-s-end.ensures, c.loop-s.auto.s-end) in
    let all = c.loop-s.invariant ∙ ap (λ n. joined n (cut_row plan tapes)) ended in
    subst (ArePieces plan) (sym all) (are_pieces plan tapes c.requires)

pub returns-clause-same : goal.returns-clause-same
returns-clause-same c =
    let plan = c.args.plan.now in
    let tapes : List (List ℕ) = session_words c.args.tapes.now in
    let ended : c.loop-s.s ≡ length plan.sessions = omega (arith, c.loop-s-test.false, c.sessions-s-end.ensures, c.loop-s.auto.s-end) in
    let all = c.loop-s.invariant ∙ ap (λ n. joined n (cut_row plan tapes)) ended in
    ap (tapes_in plan) all ∙ tapes_same plan tapes c.requires
