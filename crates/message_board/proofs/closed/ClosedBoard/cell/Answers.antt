use Rattle.std.proofs.Common.{rules, ◌+◌, ◌<◌, ◌≡◌, ℕ, List, Option, length, slice_index, ap, sym, refl, subst, ◌∙◌, arith}
use Rattle.message_board.specs.Words.{word_as, flag, full_word, cells_of}
use Rattle.message_board.specs.Plain.{plain_cell}
use Rattle.message_board.proofs.FlagBits.{full_at}
use Rattle.message_board.proofs.SeatLists.{cells_at, cells_length, read}
use Rattle.std.specs.Mem.Slots.{slots_items, slots_len}
use Rattle.message_board.proofs.closed.ClosedBoard.cell.Goals as goal

pub word-full-requires : goal.word-full-requires
word-full-requires g c =
    let ws : List ℕ = slots_items c.self.inside.closed.words in
    let inside : c.args.number < length (cells_of c.self.inside.messages ws) = subst (λ (l : List (Option ℕ)). c.args.number < length l) (sym c.self.view_is) c.requires in
    let n : c.args.number < c.self.inside.messages = (let l = cells_length c.self.inside.messages ws c.self.invariant.2 in omega arith) in
    let len : slots_len c.self.inside.closed.words ≡ length ws = search rules in
    let m = c.self.invariant.2 in
    (omega arith, c.self.invariant.0)

pub word-requires : goal.word-requires
word-requires g c =
    let ws : List ℕ = slots_items c.self.inside.closed.words in
    let inside : c.args.number < length (cells_of c.self.inside.messages ws) = subst (λ (l : List (Option ℕ)). c.args.number < length l) (sym c.self.view_is) c.requires in
    let n : c.args.number < c.self.inside.messages = (let l = cells_length c.self.inside.messages ws c.self.invariant.2 in omega arith) in
    let len : slots_len c.self.inside.closed.words ≡ length ws = search rules in
    let m = c.self.invariant.2 in
    (omega arith, c.self.invariant.0)

pub returns : goal.returns
returns g c =
    let ws : List ℕ = slots_items c.self.inside.closed.words in
    let k = c.args.number in
    let full = read ws (c.self.inside.messages + c.full_word_of.result + 1) c.word-full.result c.word-full.ensures in
    let value = read ws (k + 1) c.word.result c.word.ensures in
    let inside : k < length (cells_of c.self.inside.messages ws) = subst (λ (l : List (Option ℕ)). k < length l) (sym c.self.view_is) c.requires in
    let n : k < c.self.inside.messages = (let l = cells_length c.self.inside.messages ws c.self.invariant.2 in omega arith) in
    let mark : c.flag_of.result ≡ flag k (slice_index ws (c.self.inside.messages + full_word k + 1)) = c.flag_of.ensures ∙ ap (flag k) (sym full.1) ∙ ap (λ p. flag k (slice_index ws p)) (full_at refl c.full_word_of.ensures) in
    c.word_of.ensures ∙ (λ i. word_as (mark i) (sym value.1 i)) ∙ sym (cells_at c.self.inside.messages ws k n c.self.invariant.2) ∙ ap (λ l. plain_cell l k) c.self.view_is
