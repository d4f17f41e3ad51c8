-- Rows that are given to wires and taken back.
use Rattle.std.proofs.Common.{◌≡◌, ◌≢◌, ℕ, zero, suc, ◌+◌, ◌<◌, ◌≤◌, Bool, true, false, cond, not, ◌&&◌, ◌||◌, List, [], ◌∷◌, ◌++◌, length, set, inl, inr, Some, None, refl, sym, ◌∙◌, ap, subst, arith, length-set, get_or-set_same, get_or-set_other, length-append}
use Rattle.std.specs.Prelude.{nat_eq, nat_lt, slice_index, count_by, Option, if◌then◌else◌}
use Rattle.std.proofs.lemmas.Bool.{cases_order, cases_eq, cases_Bool, and_from, eq-eqb, ne_eqb, lt-ltb, le-ltb, ltb-true, both_ways, and_parts}
use Rattle.std.proofs.lemmas.List.Sums.{sum_by-append}
use Rattle.list_laws.specs.Lists.{total}
use Rattle.list_laws.proofs.Tests.{or_true, or_false}
use Rattle.list_laws.proofs.Totals.{total_one, total_eq}
use Rattle.job_session.specs.declared.row_scan.RowScan.{RowScan}
use Rattle.job_session.specs.RowScans.{AreHeld, GivesRow, TakesBack, ends}
use Rattle.session_slots.specs.Wirings.{is_named}

-- ---- how often a row is held, and how many wires hold one

abbrev one_if : Bool → ℕ
one_if b = if b then 1 else 0

abbrev holds_row : (ℕ → Bool) → List ℕ → ℕ → ℕ → ℕ
holds_row holds rows row w = one_if (holds w && nat_eq row (slice_index rows w))

abbrev holds_some : (ℕ → Bool) → ℕ → ℕ
holds_some holds w = one_if (holds w)

-- a list with an item more has it once more
count_more : (row r : ℕ) (xs : List ℕ) → count_by (nat_eq row) (xs ++ r ∷ []) ≡ count_by (nat_eq row) xs + one_if (nat_eq row r)
count_more row r xs = omega (arith, sum_by-append (λ x. cond (nat_eq row x) 1 0) xs (r ∷ []))

-- rows that were made, but the first
abbrev is_made : ℕ → ℕ → Bool
is_made made row = nat_lt 0 row && nat_lt row made

-- one more row was made
below_next : (row made : ℕ) → 0 < made → one_if (is_made made row) + one_if (nat_eq row made) ≡ one_if (is_made (made + 1) row)
below_next row made some = elim (cases_order row made) [
  | inl same ↦ rw (le-ltb row made (omega (arith, same)), eq-eqb row made same, lt-ltb row (made + 1) (omega (arith, same)), lt-ltb 0 row (omega (arith, same, some))) (omega arith)
  | inr (inl less) ↦ rw (lt-ltb row made less, ne_eqb row made (λ e. absurd (omega (arith, e, less))), lt-ltb row (made + 1) (omega (arith, less))) (omega arith)
  | inr (inr more) ↦ rw (le-ltb row made (omega (arith, more)), ne_eqb row made (λ e. absurd (omega (arith, e, more))), le-ltb row (made + 1) (omega (arith, more))) (omega arith)
]

-- ---- a wire more, and a wire less

and_bit : (b : Bool) (t : Bool) → b ≡ false → one_if (b && t) ≡ 0
and_bit b t e = subst (λ (z : Bool). one_if (z && t) ≡ 0) (sym e) refl

and_only : (b : Bool) (t : Bool) → b ≡ true → one_if (b && t) ≡ one_if t
and_only b t e = subst (λ (z : Bool). one_if (z && t) ≡ one_if t) (sym e) refl

unnamed : (w wire : ℕ) → w ≢ wire → (b : Bool) → (b || nat_eq w wire) ≡ b
unnamed w wire ne b = ap (λ z. b || z) (ne_eqb w wire ne) ∙ or_false b

named : (wire : ℕ) (b : Bool) → (b || nat_eq wire wire) ≡ true
named wire b = ap (λ z. b || z) (eq-eqb wire wire refl) ∙ or_true b

row_given : (holds : ℕ → Bool) (rows : List ℕ) (wire r row : ℕ) → wire < length rows → holds wire ≡ false
    → total (length (set rows wire r)) (holds_row (λ w. holds w || nat_eq w wire) (set rows wire r) row) ≡ total (length rows) (holds_row holds rows row) + one_if (nat_eq row r)
row_given holds rows wire r row l free =
    let f = holds_row (λ w. holds w || nat_eq w wire) (set rows wire r) row in
    let g = holds_row holds rows row in
    let others : (i : ℕ) → i < length rows → i ≢ wire → f i ≡ g i = λ i li ne.
    ap (λ (v : ℕ). one_if ((holds i || nat_eq i wire) && nat_eq row v)) (get_or-set_other rows wire i r 0 ne)
    ∙ ap (λ b. one_if (b && nat_eq row (slice_index rows i))) (unnamed i wire ne (holds i)) in
    let one = total_one (length rows) wire f g l others in
    let old : g wire ≡ 0 = and_bit (holds wire) (nat_eq row (slice_index rows wire)) free in
    let new : f wire ≡ one_if (nat_eq row r) = and_only (holds wire || nat_eq wire wire) (nat_eq row (slice_index (set rows wire r) wire)) (named wire (holds wire))
    ∙ ap (λ (v : ℕ). one_if (nat_eq row v)) (get_or-set_same rows wire r 0 l) in
    let long : total (length (set rows wire r)) f ≡ total (length rows) f = ap (λ n. total n f) (length-set rows wire r) in
    omega (arith, one, old, new, long)

some_given : (holds : ℕ → Bool) (rows : List ℕ) (wire r : ℕ) → wire < length rows → holds wire ≡ false
    → total (length (set rows wire r)) (holds_some (λ w. holds w || nat_eq w wire)) ≡ total (length rows) (holds_some holds) + 1
some_given holds rows wire r l free =
    let f = holds_some (λ w. holds w || nat_eq w wire) in
    let g = holds_some holds in
    let one = total_one (length rows) wire f g l (λ i li ne. ap one_if (unnamed i wire ne (holds i))) in
    let old : g wire ≡ 0 = ap one_if free in
    let new : f wire ≡ 1 = ap one_if (named wire (holds wire)) in
    let long : total (length (set rows wire r)) f ≡ total (length rows) f = ap (λ n. total n f) (length-set rows wire r) in
    omega (arith, one, old, new, long)

kept_other : (b t : Bool) → t ≡ false → (b && not t) ≡ b
kept_other b t e = subst (λ (z : Bool). (b && not z) ≡ b) (sym e) (and_true b)
  where
    and_true : (b : Bool) → (b && true) ≡ b
    and_true true = refl
    and_true false = refl

ended : (b t : Bool) → t ≡ true → (b && not t) ≡ false
ended b t e = subst (λ (z : Bool). (b && not z) ≡ false) (sym e) (and_none b)
  where
    and_none : (b : Bool) → (b && false) ≡ false
    and_none true = refl
    and_none false = refl

-- without the wire that passes
row_back : (holds gone : ℕ → Bool) (rows : List ℕ) (wire row : ℕ) → wire < length rows → holds wire ≡ true → gone wire ≡ true → ((w : ℕ) → w ≢ wire → gone w ≡ false)
    → total (length rows) (holds_row (λ w. holds w && not (gone w)) rows row) + one_if (nat_eq row (slice_index rows wire)) ≡ total (length rows) (holds_row holds rows row)
row_back holds gone rows wire row l held here others =
    let f = holds_row (λ w. holds w && not (gone w)) rows row in
    let g = holds_row holds rows row in
    let one = total_one (length rows) wire f g l (λ i li ne. ap (λ b. one_if (b && nat_eq row (slice_index rows i))) (kept_other (holds i) (gone i) (others i ne))) in
    let old : g wire ≡ one_if (nat_eq row (slice_index rows wire)) = and_only (holds wire) (nat_eq row (slice_index rows wire)) held in
    let new : f wire ≡ 0 = and_bit (holds wire && not (gone wire)) (nat_eq row (slice_index rows wire)) (ended (holds wire) (gone wire) here) in
    omega (arith, one, old, new)

some_back : (holds gone : ℕ → Bool) (n wire : ℕ) → wire < n → holds wire ≡ true → gone wire ≡ true → ((w : ℕ) → w ≢ wire → gone w ≡ false)
    → total n (holds_some (λ w. holds w && not (gone w))) + 1 ≡ total n (holds_some holds)
some_back holds gone n wire l held here others =
    let f = holds_some (λ w. holds w && not (gone w)) in
    let g = holds_some holds in
    let one = total_one n wire f g l (λ i li ne. ap one_if (kept_other (holds i) (gone i) (others i ne))) in
    let old : g wire ≡ 1 = ap one_if held in
    let new : f wire ≡ 0 = ap one_if (ended (holds wire) (gone wire) here) in
    omega (arith, one, old, new)

-- nothing ends
held_same : (holds gone : ℕ → Bool) (scan : RowScan) → ((w : ℕ) → gone w ≡ false) → AreHeld holds scan → AreHeld (λ w. holds w && not (gone w)) scan
held_same holds gone scan none held = record {
  once = λ row. ap (λ n. n + count_by (nat_eq row) scan.free.items)
      (total_eq (length scan.rows.items) _ _ (λ w l. ap (λ b. one_if (b && nat_eq row (slice_index scan.rows.items w))) (kept_other (holds w) (gone w) (none w)))) ∙ held.once row;
  all = ap (λ n. n + length scan.free.items + 1)
      (total_eq (length scan.rows.items) _ _ (λ w l. ap one_if (kept_other (holds w) (gone w) (none w)))) ∙ held.all;
}

-- ---- giving and taking back

-- no wire
pub gives_none : (scan : RowScan) → GivesRow None scan scan
gives_none scan = record {
  wires = refl;
  others = λ w e. refl;
  made = inl refl;
  held = λ holds held free. record {
    once = λ row. ap (λ n. n + count_by (nat_eq row) scan.free.items)
        (total_eq (length scan.rows.items) _ _ (λ w l. ap (λ b. one_if (b && nat_eq row (slice_index scan.rows.items w))) (or_false (holds w)))) ∙ held.once row;
    all = ap (λ n. n + length scan.free.items + 1) (total_eq (length scan.rows.items) _ _ (λ w l. ap one_if (or_false (holds w)))) ∙ held.all;
  };
}

other_row : (rows : List ℕ) (wire r w : ℕ) → nat_eq w wire ≡ false → slice_index (set rows wire r) w ≡ slice_index rows w
other_row rows wire r w e = get_or-set_other rows wire w r 0 (λ same. absurd (both_ways (nat_eq w wire) e (eq-eqb w wire same)))

-- a free row
pub gives_free : (wire r : ℕ) (old new : RowScan) → wire < length old.rows.items → new.rows.items ≡ set old.rows.items wire r
    → old.free.items ≡ new.free.items ++ r ∷ [] → new.made ≡ old.made → GivesRow (Some wire) old new
gives_free wire r old new l rows free made = record {
  wires = ap length rows ∙ length-set old.rows.items wire r;
  others = λ w e. ap (λ xs. slice_index xs w) rows ∙ other_row old.rows.items wire r w e;
  made = inl made;
  held = λ holds held unheld. record {
    once = λ row.
        let given = row_given holds old.rows.items wire r row l (unheld wire (eq-eqb wire wire refl)) in
        let same : total (length new.rows.items) (holds_row (λ w. holds w || nat_eq w wire) new.rows.items row) ≡ total (length (set old.rows.items wire r)) (holds_row (λ w. holds w || nat_eq w wire) (set old.rows.items wire r) row) =
        ap (λ xs. total (length xs) (holds_row (λ w. holds w || nat_eq w wire) xs row)) rows in
        let less : count_by (nat_eq row) old.free.items ≡ count_by (nat_eq row) new.free.items + one_if (nat_eq row r) = ap (count_by (nat_eq row)) free ∙ count_more row r new.free.items in
        let within : one_if (is_made new.made row) ≡ one_if (is_made old.made row) = ap (λ n. one_if (is_made n row)) made in
        omega (arith, given, same, less, within, held.once row);
    all =
        let given = some_given holds old.rows.items wire r l (unheld wire (eq-eqb wire wire refl)) in
        let same : total (length new.rows.items) (holds_some (λ w. holds w || nat_eq w wire)) ≡ total (length (set old.rows.items wire r)) (holds_some (λ w. holds w || nat_eq w wire)) =
        ap (λ xs. total (length xs) (holds_some (λ w. holds w || nat_eq w wire))) rows in
        let less : length old.free.items ≡ length new.free.items + 1 = ap length free ∙ length-append new.free.items (r ∷ []) in
        omega (arith, given, same, less, made, held.all);
  };
}

-- a new row
pub gives_new : (wire : ℕ) (old new : RowScan) → wire < length old.rows.items → new.rows.items ≡ set old.rows.items wire old.made
    → old.free.items ≡ [] → new.free.items ≡ [] → new.made ≡ old.made + 1 → GivesRow (Some wire) old new
gives_new wire old new l rows none still made = record {
  wires = ap length rows ∙ length-set old.rows.items wire old.made;
  others = λ w e. ap (λ xs. slice_index xs w) rows ∙ other_row old.rows.items wire old.made w e;
  made = inr (still, made);
  held = λ holds held unheld. record {
    once = λ row.
        let given = row_given holds old.rows.items wire old.made row l (unheld wire (eq-eqb wire wire refl)) in
        let same : total (length new.rows.items) (holds_row (λ w. holds w || nat_eq w wire) new.rows.items row) ≡ total (length (set old.rows.items wire old.made)) (holds_row (λ w. holds w || nat_eq w wire) (set old.rows.items wire old.made) row) =
        ap (λ xs. total (length xs) (holds_row (λ w. holds w || nat_eq w wire) xs row)) rows in
        let empty : count_by (nat_eq row) old.free.items ≡ 0 = ap (count_by (nat_eq row)) none in
        let still_empty : count_by (nat_eq row) new.free.items ≡ 0 = ap (count_by (nat_eq row)) still in
        let within : one_if (is_made new.made row) ≡ one_if (is_made (old.made + 1) row) = ap (λ n. one_if (is_made n row)) made in
        omega (arith, given, same, empty, still_empty, within, below_next row old.made (omega (arith, held.all)), held.once row);
    all =
        let given = some_given holds old.rows.items wire old.made l (unheld wire (eq-eqb wire wire refl)) in
        let same : total (length new.rows.items) (holds_some (λ w. holds w || nat_eq w wire)) ≡ total (length (set old.rows.items wire old.made)) (holds_some (λ w. holds w || nat_eq w wire)) =
        ap (λ xs. total (length xs) (holds_some (λ w. holds w || nat_eq w wire))) rows in
        omega (arith, given, same, made, ap length none, ap length still, held.all);
  };
}

-- the wire does not end here
pub takes_none : (wire at : ℕ) (last : List ℕ) (scan : RowScan) → slice_index last wire ≢ at → TakesBack (Some wire) at last scan scan
takes_none wire at last scan ne = record {
  rows = refl;
  made = refl;
  held = λ holds held named. held_same holds (ends (Some wire) at last) scan (none_ends wire at last ne) held;
}
  where
    none_ends : (wire at : ℕ) (last : List ℕ) → slice_index last wire ≢ at → (w : ℕ) → ends (Some wire) at last w ≡ false
    none_ends wire at last ne w = elim (cases_eq w wire) [
      | inl same ↦ subst (λ (v : ℕ). (nat_eq v wire && nat_eq (slice_index last v) at) ≡ false) (sym same) (ap (λ b. nat_eq wire wire && b) (ne_eqb (slice_index last wire) at ne) ∙ ap (λ b. b && false) (eq-eqb wire wire refl))
      | inr other ↦ ap (λ b. b && nat_eq (slice_index last w) at) (ne_eqb w wire other)
    ]

pub takes_no_wire : (at : ℕ) (last : List ℕ) (scan : RowScan) → TakesBack None at last scan scan
takes_no_wire at last scan = record { rows = refl; made = refl; held = λ holds held named. held_same holds (λ w. false) scan (λ w. refl) held }

pub takes_back : (wire at : ℕ) (last : List ℕ) (old new : RowScan) → wire < length old.rows.items → slice_index last wire ≡ at → new.rows.items ≡ old.rows.items
    → new.free.items ≡ old.free.items ++ slice_index old.rows.items wire ∷ [] → new.made ≡ old.made → TakesBack (Some wire) at last old new
takes_back wire at last old new l here rows free made =
    let gone = ends (Some wire) at last in
    let this : gone wire ≡ true = and_from (nat_eq wire wire) (nat_eq (slice_index last wire) at) (eq-eqb wire wire refl) (eq-eqb (slice_index last wire) at here) in
    let others : (w : ℕ) → w ≢ wire → gone w ≡ false = λ w ne. ap (λ b. b && nat_eq (slice_index last w) at) (ne_eqb w wire ne) in
    record {
      rows = rows;
      made = made;
      held = λ holds held ended. record {
        once = λ row.
            let back = row_back holds gone old.rows.items wire row l (ended wire this) this others in
            let same : total (length new.rows.items) (holds_row (λ w. holds w && not (gone w)) new.rows.items row) ≡ total (length old.rows.items) (holds_row (λ w. holds w && not (gone w)) old.rows.items row) =
            ap (λ xs. total (length xs) (holds_row (λ w. holds w && not (gone w)) xs row)) rows in
            let more : count_by (nat_eq row) new.free.items ≡ count_by (nat_eq row) old.free.items + one_if (nat_eq row (slice_index old.rows.items wire)) =
            ap (count_by (nat_eq row)) free ∙ count_more row (slice_index old.rows.items wire) old.free.items in
            let within : one_if (is_made new.made row) ≡ one_if (is_made old.made row) = ap (λ n. one_if (is_made n row)) made in
            omega (arith, back, same, more, within, held.once row);
        all =
            let back = some_back holds gone (length old.rows.items) wire l (ended wire this) this others in
            let same : total (length new.rows.items) (holds_some (λ w. holds w && not (gone w))) ≡ total (length old.rows.items) (holds_some (λ w. holds w && not (gone w))) =
            ap (λ xs. total (length xs) (holds_some (λ w. holds w && not (gone w)))) rows in
            let more : length new.free.items ≡ length old.free.items + 1 = ap length free ∙ length-append old.free.items (slice_index old.rows.items wire ∷ []) in
            omega (arith, back, same, more, made, held.all);
      };
    }

-- ---- what held rows are

total_at : (n k : ℕ) (f : ℕ → ℕ) → k < n → f k ≤ total n f
total_at zero k f l = absurd (omega (arith, l))
total_at (suc n) k f l = elim (cases_eq k n) [
  | inl same ↦ subst (λ (v : ℕ). f v ≤ total n f + f n) (sym same) (omega arith)
  | inr other ↦ omega (arith, total_at n k f (omega (arith, l, other)))
]

total_two : (n j k : ℕ) (f : ℕ → ℕ) → j < k → k < n → f j + f k ≤ total n f
total_two zero j k f less l = absurd (omega (arith, l))
total_two (suc n) j k f less l = elim (cases_eq k n) [
  | inl same ↦ subst (λ (v : ℕ). f j + f v ≤ total n f + f n) (sym same) (omega (arith, total_at n j f (omega (arith, less, same))))
  | inr other ↦ omega (arith, total_two n j k f less (omega (arith, l, other)))
]

one_most : (b : Bool) → one_if b ≤ 1
one_most true = omega arith
one_most false = omega arith

-- a wire that holds a row holds one that was made, and not the first
pub held_made : (holds : ℕ → Bool) (scan : RowScan) (w : ℕ) → AreHeld holds scan → w < length scan.rows.items → holds w ≡ true → (0 < slice_index scan.rows.items w) × (slice_index scan.rows.items w < scan.made)
held_made holds scan w held l here =
    let row = slice_index scan.rows.items w in
    let mine : holds_row holds scan.rows.items row w ≡ 1 = and_only (holds w) (nat_eq row row) here ∙ ap one_if (eq-eqb row row refl) in
    let sum = total_at (length scan.rows.items) w (holds_row holds scan.rows.items row) l in
    elim (cases_Bool (is_made scan.made row)) [
      | inl is ↦ let parts = and_parts (nat_lt 0 row) (nat_lt row scan.made) is in (ltb-true 0 row parts.0, ltb-true row scan.made parts.1)
      | inr above ↦ absurd (omega (arith, mine, sum, held.once row, ap one_if above))
    ]

-- two wires that hold rows hold different ones
pub held_apart : (holds : ℕ → Bool) (scan : RowScan) (v w : ℕ) → AreHeld holds scan → v < length scan.rows.items → w < length scan.rows.items → holds v ≡ true → holds w ≡ true → v ≢ w
    → slice_index scan.rows.items v ≢ slice_index scan.rows.items w
held_apart holds scan v w held lv lw here there ne same =
    let row = slice_index scan.rows.items v in
    let f = holds_row holds scan.rows.items row in
    let one : f v ≡ 1 = and_only (holds v) (nat_eq row row) here ∙ ap one_if (eq-eqb row row refl) in
    let two : f w ≡ 1 = and_only (holds w) (nat_eq row (slice_index scan.rows.items w)) there ∙ ap one_if (eq-eqb row (slice_index scan.rows.items w) same) in
    let most = one_most (is_made scan.made row) in
    elim (cases_order v w) [
      | inl e ↦ absurd (ne e)
      | inr (inl less) ↦ absurd (omega (arith, one, two, most, held.once row, total_two (length scan.rows.items) v w f less lw))
      | inr (inr more) ↦ absurd (omega (arith, one, two, most, held.once row, total_two (length scan.rows.items) w v f more lv))
    ]

-- ---- the same, of a wire that may be none

pub gives_no_wire : (o : Option ℕ) (scan : RowScan) → o ≡ None → GivesRow o scan scan
gives_no_wire o scan e = subst (λ (z : Option ℕ). GivesRow z scan scan) (sym e) (gives_none scan)

pub named_some : (o : Option ℕ) (wire : ℕ) → o ≡ Some wire → is_named o wire ≡ true
named_some o wire e = subst (λ (z : Option ℕ). is_named z wire ≡ true) (sym e) (eq-eqb wire wire refl)

pub gives_free_to : (o : Option ℕ) (wire r : ℕ) (old new : RowScan) → o ≡ Some wire → wire < length old.rows.items → new.rows.items ≡ set old.rows.items wire r
    → old.free.items ≡ new.free.items ++ r ∷ [] → new.made ≡ old.made → GivesRow o old new
gives_free_to o wire r old new e l rows free made = subst (λ (z : Option ℕ). GivesRow z old new) (sym e) (gives_free wire r old new l rows free made)

pub gives_new_to : (o : Option ℕ) (wire : ℕ) (old new : RowScan) → o ≡ Some wire → wire < length old.rows.items → new.rows.items ≡ set old.rows.items wire old.made
    → old.free.items ≡ [] → new.free.items ≡ [] → new.made ≡ old.made + 1 → GivesRow o old new
gives_new_to o wire old new e l rows none still made = subst (λ (z : Option ℕ). GivesRow z old new) (sym e) (gives_new wire old new l rows none still made)

pub takes_back_from : (o : Option ℕ) (wire at : ℕ) (last : List ℕ) (old new : RowScan) → o ≡ Some wire → wire < length old.rows.items → slice_index last wire ≡ at → new.rows.items ≡ old.rows.items
    → new.free.items ≡ old.free.items ++ slice_index old.rows.items wire ∷ [] → new.made ≡ old.made → TakesBack o at last old new
takes_back_from o wire at last old new e l here rows free made = subst (λ (z : Option ℕ). TakesBack z at last old new) (sym e) (takes_back wire at last old new l here rows free made)

pub takes_none_from : (o : Option ℕ) (wire at : ℕ) (last : List ℕ) (scan : RowScan) → o ≡ Some wire → slice_index last wire ≢ at → TakesBack o at last scan scan
takes_none_from o wire at last scan e ne = subst (λ (z : Option ℕ). TakesBack z at last scan scan) (sym e) (takes_none wire at last scan ne)
