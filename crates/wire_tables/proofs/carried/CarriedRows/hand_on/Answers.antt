use Rattle.std.proofs.Common.{◌≡◌, ℕ, ◌+◌, ◌<◌, nat_eq, if◌then◌else◌, List, [], length, set, sym, ap, ◌∙◌, subst, arith, length-set}
use Rattle.std.specs.Prelude.{slice_index_or}
use Rattle.std.specs.Global.{Vec}
use Rattle.std.proofs.lemmas.List.{get_or-map, length-map, map-set}
use Rattle.session_slots.specs.declared.values.KeptWire.{KeptWire}
use Rattle.session_slots.specs.Sessions.{Session, kept_wire, no_kept, output_wire}
use Rattle.plan_model.specs.InputWords.{input_words, session_words}
use Rattle.plan_model.specs.Plans.{session}
use Rattle.wire_tables.specs.WireTables.{row_at}
use Rattle.wire_tables.proofs.HandedOn.{SoFar, none_yet, one_more, all_handed_on, is_kept_at}
use Rattle.wire_tables.proofs.ListedRows.{item_set, row_read}
use Rattle.wire_tables.proofs.carried.CarriedRows.hand_on.Goals as goal

pub loop-kept-init : goal.loop-kept-init
loop-kept-init c =
    let item : ℕ → List ℕ = λ v. slice_index_or (session_words c.args.rows.now) v [] in
    record {
      sessions = sym (length-map c.self.inside.rows.items (λ (rows : Vec (Vec ℕ)). session_words rows.items)) ∙ ap (length {A = List (List ℕ)}) c.self.view_is ∙ c.requires.sessions;
      handed_on = λ keeps. subst (λ rs. SoFar c.args.plan.now keeps c.args.s item (row_at c.args.self.now) 0 (row_at rs)) (sym c.self.view_is) (none_yet c.args.plan.now keeps c.args.s item (row_at c.args.self.now));
    }

pub index_mut-requires : goal.index_mut-requires
index_mut-requires c =
    let plan = c.args.plan.now in
    let kept_is : c.kept-kept-items.result.now ≡ (session plan c.args.s).kept = c.kept-kept-items.ensures ∙ ap (λ (y : Session). y.kept) c.part-part.ensures in
    let j = c.loop-kept.kept-index in
    let there : j < length (session plan c.args.s).kept = subst (λ xs. j < length xs) kept_is (omega (arith, c.loop-kept-test.true, c.loop-kept.auto.kept-index-end)) in
    omega (arith, (is_kept_at plan c.recall.ensures.kept c.args.s j there).session, c.loop-kept.invariant.sessions, ap (λ xs. (slice_index_or xs j no_kept).session) kept_is)

pub loop-kept-preserved : goal.loop-kept-preserved
loop-kept-preserved c =
    let plan = c.args.plan.now in
    let s = c.args.s in
    let x : Session = session plan s in
    let j = c.loop-kept.kept-index in
    let item : ℕ → List ℕ = λ v. slice_index_or (session_words c.args.rows.now) v [] in
    let kept_is : c.kept-kept-items.result.now ≡ x.kept = c.kept-kept-items.ensures ∙ ap (λ (y : Session). y.kept) c.part-part.ensures in
    let there : j < length x.kept = subst (λ xs. j < length xs) kept_is (omega (arith, c.loop-kept-test.true, c.loop-kept.auto.kept-index-end)) in
    let wired = (c.recall.ensures.sessions s c.requires.session).wired in
    let kept : KeptWire = slice_index_or c.kept-kept-items.result.now j no_kept in
    let same : kept ≡ slice_index_or x.kept j no_kept = ap (λ xs. slice_index_or xs j no_kept) kept_is in
    let lists : List (List (List ℕ)) = input_words c.loop-kept.self-inside.rows.items in
    let new : List (List ℕ) = session_words c.put_row.new.rows.items in
    let of_rows : Vec (Vec ℕ) → List (List ℕ) = λ rows. session_words rows.items in
    let many = length-map c.loop-kept.self-inside.rows.items of_rows in
    let within : kept.session < length c.loop-kept.self-inside.rows.items =
    omega (arith, (is_kept_at plan c.recall.ensures.kept s j there).session, c.loop-kept.invariant.sessions, ap (λ (k : KeptWire). k.session) same) in
    let old_is : session_words c.index_mut.result.now.items ≡ slice_index_or lists kept.session [] =
    ap of_rows c.index_mut.ensures.value ∙ sym (get_or-map of_rows c.loop-kept.self-inside.rows.items kept.session c.index_mut.result.now [] within) in
    let cells = item_set [] c.in_ok-row.row.items lists new kept.session kept.wire (omega (arith, within, many)) (λ v.
    c.in_ok-put_row.ensures v ∙ ap (λ xs. if nat_eq v kept.wire then c.in_ok-row.row.items else slice_index_or xs v []) old_is) in
    let wire : c.output_wire-wire.result ≡ kept_wire x j = c.output_wire-wire.ensures ∙ ap (λ (y : Session). output_wire y kept.output) c.part-part.ensures ∙ ap (λ (k : KeptWire). output_wire x k.output) same in
    let named : c.output_wire-wire.result < length c.args.rows.now = omega (arith, wire, wired.kept.outputs j no_kept there, wired.output_wires, c.requires.rows) in
    let row_is : c.in_ok-row.row.items ≡ item (kept_wire x j) =
    c.in_ok-row.ensures.items ∙ c.deref.ensures.value ∙ row_read c.args.rows.now c.output_wire-wire.result c.index-rows-wire.result named c.index-rows-wire.is ∙ ap item wire in
    let set_is : input_words (set c.loop-kept.self-inside.rows.items kept.session c.put_row.new.rows) ≡ set lists kept.session new = map-set of_rows c.loop-kept.self-inside.rows.items kept.session c.put_row.new.rows in
    record {
      sessions = length-set c.loop-kept.self-inside.rows.items kept.session c.put_row.new.rows ∙ c.loop-kept.invariant.sessions;
      handed_on = λ keeps. subst (λ rs. SoFar plan keeps s item (row_at c.args.self.now) (j + 1) (row_at rs)) (sym set_is)
          (one_more plan keeps s item (row_at c.args.self.now) j (row_at lists) (row_at (set lists kept.session new)) there (c.loop-kept.invariant.handed_on keeps)
          (subst (λ (k : KeptWire). row_at (set lists kept.session new) k.session k.wire ≡ item (kept_wire x j)) same (cells.0 ∙ row_is))
          (λ u v apart. cells.1 u v (λ su sv. apart (su ∙ ap (λ (k : KeptWire). k.session) same) (sv ∙ ap (λ (k : KeptWire). k.wire) same))));
    }

pub returns-clause-sessions : goal.returns-clause-sessions
returns-clause-sessions c = length-map c.loop-kept.self-inside.rows.items (λ (rows : Vec (Vec ℕ)). session_words rows.items) ∙ c.loop-kept.invariant.sessions

pub returns-clause-handed_on : goal.returns-clause-handed_on
returns-clause-handed_on c =
    let plan = c.args.plan.now in
    let kept_is : c.kept-kept-items.result.now ≡ (session plan c.args.s).kept = c.kept-kept-items.ensures ∙ ap (λ (y : Session). y.kept) c.part-part.ensures in
    let keeps = c.recall.ensures.kept in
    all_handed_on plan keeps c.args.s (λ v. slice_index_or (session_words c.args.rows.now) v []) (row_at c.args.self.now) c.loop-kept.kept-index (row_at (input_words c.loop-kept.self-inside.rows.items)) (omega (arith, ap (length {A = KeptWire}) kept_is, c.loop-kept-test.false, c.loop-kept.auto.kept-index-end)) (c.loop-kept.invariant.handed_on keeps)
