use Rattle.std.proofs.Common.{◌≡◌, ℕ, suc, ◌+◌, ◌*◌, ◌<◌, ◌≤◌, ◌^◌, nat_eq, if◌then◌else◌, List, length, drop, sym, ap, ap₂, ◌∙◌, subst, arith, set}
use Rattle.std.specs.Prelude.{slice_index}
use Rattle.std.proofs.lemmas.List.{get_or-drop, drop-drop, length-drop}
use Rattle.std.proofs.lemmas.List.Elements.{All-set}
use Rattle.list_laws.proofs.JoinedLists.{total_within}
use Rattle.party_set.specs.Parties.{Structure}
use Rattle.share_layout.specs.Layouts.{least_holder}
use Rattle.row_steps.specs.Rows.{row, SameRows, filled_to, least_held}
use Rattle.row_steps.proofs.RowWrites.{fill_step, fill_unread}
use Rattle.row_steps.proofs.rows.draw_row.Goals as goal

-- the words that are still to be drawn are there
enough : (s : Structure) (p i : ℕ) (tape left : List ℕ) → i < length s.groups → least_held s p (length s.groups) ≤ length tape → left ≡ drop (least_held s p i) tape
    → (if nat_eq (least_holder s i) p then 1 else 0) ≤ length left
enough s p i tape left less many is =
    let within = total_within (length s.groups) i (λ j. if nat_eq (least_holder s j) p then 1 else 0) less in
    let long = ap (length {A = ℕ}) is ∙ length-drop (least_held s p i) tape in
    omega (arith, within, many, long)

-- what is drawn so far
drawn_next : (s : Structure) (p i : ℕ) → least_held s p (i + 1) ≡ least_held s p i + (if nat_eq (least_holder s i) p then 1 else 0)
drawn_next s p i = let next : i + 1 ≡ suc i = omega arith in ap (least_held s p) next

pub drawn_or-requires-clause-some : goal.drawn_or-requires-clause-some
drawn_or-requires-clause-some c =
    let layout = c.args.layout.now in
    let i = c.loop-i.i in
    subst (λ z. (if nat_eq z c.args.p then 1 else 0) ≤ length c.loop-i.tape) (sym c.least_holder.ensures.is)
    (enough layout c.args.p i c.args.tape.now c.loop-i.tape (omega (arith, c.loop-i-test.true, c.shares-shares.ensures.is)) c.requires.many c.loop-i.invariant.tape)

pub drawn_or-requires-clause-other : goal.drawn_or-requires-clause-other
drawn_or-requires-clause-other c =
    let m = c.shares-shares.ensures.is in
    let at = ap (λ z. c.args.number * z) m in
    c.loop-i.invariant.small (c.args.number * c.shares-shares.result + c.loop-i.i) 0 (omega (arith, at, m, c.requires.row, c.loop-i-test.true, c.loop-i.auto.table))

pub loop-i-preserved : goal.loop-i-preserved
loop-i-preserved c =
    let layout = c.args.layout.now in
    let p = c.args.p in
    let i = c.loop-i.i in
    let number = c.args.number in
    let m : ℕ = length layout.groups in
    let h = c.loop-i.invariant in
    let f = row m c.args.table.now in
    let x = c.drawn_or.result in
    let new : ℕ → ℕ = λ i. if nat_eq (least_holder layout i) p then slice_index c.args.tape.now (least_held layout p i) else f number i in
    let shares : c.shares-shares.result ≡ m = c.shares-shares.ensures.is in
    let less : i < m = omega (arith, c.loop-i-test.true, shares) in
    let at = ap (λ z. number * z) shares in
    let inside : number * m + i < length c.loop-i.table = omega (arith, less, c.requires.row, c.loop-i.auto.table) in
    let holder : c.least_holder.result ≡ least_holder layout i = c.least_holder.ensures.is in
    let none : least_held layout p i + 0 ≡ least_held layout p i = omega arith in
    let word : slice_index c.loop-i.tape 0 ≡ slice_index c.args.tape.now (least_held layout p i) =
    ap (λ xs. slice_index xs 0) h.tape ∙ get_or-drop (least_held layout p i) c.args.tape.now 0 0 ∙ ap (slice_index c.args.tape.now) none in
    let before : slice_index c.loop-i.table (number * c.shares-shares.result + i) ≡ f number i =
    ap (λ n. slice_index c.loop-i.table (number * n + i)) shares ∙ h.rows number i less ∙ fill_unread f number new i number in
    let is : x ≡ new i =
    c.drawn_or.ensures.is ∙ ap (λ z. if nat_eq z p then slice_index c.loop-i.tape 0 else slice_index c.loop-i.table (number * c.shares-shares.result + i)) holder
    ∙ ap₂ (λ a b. if nat_eq (least_holder layout i) p then a else b) word before in
    record {
      small = All-set (λ y. y < 2 ^ c.args.ring) c.loop-i.table (number * c.shares-shares.result + i) x c.drawn_or.ensures.below h.small;
      words = c.drawn_or.ensures.words;
      tape = c.drawn_or.ensures.tape ∙ ap (λ z. drop (if nat_eq z p then 1 else 0) c.loop-i.tape) holder ∙ ap (drop (if nat_eq (least_holder layout i) p then 1 else 0)) h.tape
          ∙ drop-drop (if nat_eq (least_holder layout i) p then 1 else 0) (least_held layout p i) c.args.tape.now ∙ ap (λ n. drop n c.args.tape.now) (sym (drawn_next layout p i));
      rows = subst (λ n. SameRows m (row m (set c.loop-i.table (number * n + i) x)) (filled_to f number new (i + 1))) (sym shares)
          (fill_step m c.loop-i.table f number new i x h.rows less inside is);
    }
