use Rattle.std.proofs.Common.{◌≡◌, ℕ, ◌+◌, ◌<◌, nat_eq, if◌then◌else◌, List, [], length, set, sym, ap, ◌∙◌, subst, arith, inl, inr, length-set, get_or-set_other, get_or-set_same}
use Rattle.std.specs.Prelude.{slice_index, slice_index_or}
use Rattle.std.specs.Global.{Vec}
use Rattle.std.specs.Vec.{with_item}
use Rattle.std.proofs.lemmas.Bool.{cases_eq}
use Rattle.std.proofs.lemmas.Grind.{get_or_default_zero}
use Rattle.std.proofs.lemmas.List.{length-map, map-set}
use Rattle.session_slots.specs.declared.values.KeptWire.{KeptWire}
use Rattle.session_slots.specs.Sessions.{Session, kept_wire, no_kept, output_wire, owners}
use Rattle.plan_model.specs.InputWords.{session_words}
use Rattle.plan_model.specs.Plans.{Plan, session}
use Rattle.plan_model.specs.Sound.{IsSound}
use Rattle.wire_tables.specs.WireTables.{value_at}
use Rattle.wire_tables.proofs.HandedOn.{SoFar, one_more, all_handed_on, is_kept_at, kept_later}
use Rattle.wire_tables.proofs.ListedRows.{item_set, set_is, row_read}
use Rattle.wire_tables.proofs.values.hand_on.Goals as goal

-- the wire that is kept at place j, as it was read
module _ (plan : Plan) (sound : IsSound plan) (s j : ℕ) (kepts : List KeptWire) (is : kepts ≡ (session plan s).kept) (l : j < length kepts) where
  abbrev kept : KeptWire
  kept = slice_index_or kepts j no_kept

  there : j < length (session plan s).kept
  there = subst (λ xs. j < length xs) is l

  same : kept ≡ slice_index_or (session plan s).kept j no_kept
  same = ap (λ xs. slice_index_or xs j no_kept) is

  in_session : kept.session < length plan.sessions
  in_session = omega (arith, (is_kept_at plan sound.kept s j there).session, ap (λ (k : KeptWire). k.session) same)

  later : s < kept.session
  later = omega (arith, kept_later plan sound.kept s sound.earlier j there, ap (λ (k : KeptWire). k.session) same)

  within : kept.wire < length (owners (session plan kept.session))
  within = subst (λ (k : KeptWire). k.wire < length (owners (session plan k.session))) (sym same) (is_kept_at plan sound.kept s j there).wire

pub bounds-lists-kept : goal.bounds-lists-kept
bounds-lists-kept c =
    let plan = c.args.plan.now in
    let kept_is : c.kept-kept-items.result.now ≡ (session plan c.args.s).kept = c.kept-kept-items.ensures ∙ ap (λ (y : Session). y.kept) c.part-part.ensures in
    let j = c.loop-kept.kept-index in
    let in_list : j < length c.kept-kept-items.result.now = omega (arith, c.loop-kept-test.true, c.loop-kept.auto.kept-index-end) in
    omega (arith, in_session plan c.recall.ensures c.args.s j c.kept-kept-items.result.now kept_is in_list, c.loop-kept.invariant.sessions)

pub index_mut-requires : goal.index_mut-requires
index_mut-requires c =
    let plan = c.args.plan.now in
    let kept_is : c.kept-kept-items.result.now ≡ (session plan c.args.s).kept = c.kept-kept-items.ensures ∙ ap (λ (y : Session). y.kept) c.part-part.ensures in
    let j = c.loop-kept.kept-index in
    let in_list : j < length c.kept-kept-items.result.now = omega (arith, c.loop-kept-test.true, c.loop-kept.auto.kept-index-end) in
    let in_plan = in_session plan c.recall.ensures c.args.s j c.kept-kept-items.result.now kept_is in_list in
    let kept : KeptWire = slice_index_or c.kept-kept-items.result.now j no_kept in
    let old : Vec ℕ = slice_index_or c.loop-kept.lists kept.session c.index-lists-kept.result in
    let read : old.items ≡ slice_index_or (session_words c.loop-kept.lists) kept.session [] =
    ap (λ (v : Vec ℕ). v.items) (sym c.index-lists-kept.is) ∙ row_read c.loop-kept.lists kept.session c.index-lists-kept.result (omega (arith, in_plan, c.loop-kept.invariant.sessions)) c.index-lists-kept.is in
    omega (
      arith,
      ap (length {A = ℕ}) read,
      c.loop-kept.invariant.lengths kept.session,
      c.requires.inputs kept.session (later plan c.recall.ensures c.args.s j c.kept-kept-items.result.now kept_is in_list) in_plan,
      within plan c.recall.ensures c.args.s j c.kept-kept-items.result.now kept_is in_list,
    )

pub loop-kept-preserved : goal.loop-kept-preserved
loop-kept-preserved c =
    let plan = c.args.plan.now in
    let s = c.args.s in
    let x : Session = session plan s in
    let sound = c.recall.ensures in
    let kept_is : c.kept-kept-items.result.now ≡ x.kept = c.kept-kept-items.ensures ∙ ap (λ (y : Session). y.kept) c.part-part.ensures in
    let j = c.loop-kept.kept-index in
    let in_list : j < length c.kept-kept-items.result.now = omega (arith, c.loop-kept-test.true, c.loop-kept.auto.kept-index-end) in
    let kept : KeptWire = slice_index_or c.kept-kept-items.result.now j no_kept in
    let u0 : ℕ = kept.session in
    let in_plan = in_session plan sound s j c.kept-kept-items.result.now kept_is in_list in
    let behind = later plan sound s j c.kept-kept-items.result.now kept_is in_list in
    let in_wires = within plan sound s j c.kept-kept-items.result.now kept_is in_list in
    let is_same = same plan sound s j c.kept-kept-items.result.now kept_is in_list in
    let is_there = there plan sound s j c.kept-kept-items.result.now kept_is in_list in
    let wired = (sound.sessions s c.requires.session).wired in
    let lists : List (List ℕ) = session_words c.loop-kept.lists in
    let old_lists : List (List ℕ) = session_words c.args.lists.now in
    let value = c.index-value.result.now in
    let old : Vec ℕ = slice_index_or c.loop-kept.lists u0 c.index-lists-kept.result in
    let new_list : Vec ℕ = with_item old kept.wire value in
    let many = length-map c.loop-kept.lists (λ (list : Vec ℕ). list.items) in
    let in_lists : u0 < length c.loop-kept.lists = omega (arith, in_plan, c.loop-kept.invariant.sessions) in
    let read : old.items ≡ slice_index_or lists u0 [] =
    ap (λ (v : Vec ℕ). v.items) (sym c.index-lists-kept.is) ∙ row_read c.loop-kept.lists u0 c.index-lists-kept.result in_lists c.index-lists-kept.is in
    let in_old : kept.wire < length old.items = omega (arith, ap (length {A = ℕ}) read, c.loop-kept.invariant.lengths u0, c.requires.inputs u0 behind in_plan, in_wires) in
    let set_is' : session_words (set c.loop-kept.lists u0 new_list) ≡ set lists u0 new_list.items = map-set (λ (list : Vec ℕ). list.items) c.loop-kept.lists u0 new_list in
    let cells = item_set 0 value lists new_list.items u0 kept.wire (omega (arith, in_lists, many)) (λ v.
    set_is old.items kept.wire value 0 in_old v ∙ ap (λ xs. if nat_eq v kept.wire then value else slice_index xs v) read) in
    let wire : c.output_wire.result ≡ kept_wire x j = c.output_wire.ensures ∙ ap (λ (y : Session). output_wire y kept.output) c.part-part.ensures ∙ ap (λ (k : KeptWire). output_wire x k.output) is_same in
    let in_s : s < length c.loop-kept.lists = omega (arith, c.requires.session, c.loop-kept.invariant.sessions) in
    let own_read : c.index-lists-s.result.items ≡ slice_index_or old_lists s [] = row_read c.loop-kept.lists s c.index-lists-s.result in_s c.index-lists-s.is ∙ c.loop-kept.invariant.own in
    let named : c.output_wire.result < length c.index-lists-s.result.items = omega (arith, ap (length {A = ℕ}) own_read, c.requires.wires, wire, wired.kept.outputs j no_kept is_there, wired.output_wires) in
    let value_is : value ≡ value_at old_lists s (kept_wire x j) =
    c.index-value.ensures ∙ ap (λ (l : Vec ℕ). slice_index_or l.items c.output_wire.result value) (sym c.index-lists-s.is)
    ∙ get_or_default_zero c.index-lists-s.result.items c.output_wire.result value named ∙ ap (λ xs. slice_index xs c.output_wire.result) own_read ∙ ap (value_at old_lists s) wire in
    record {
      sessions = length-set c.loop-kept.lists u0 new_list ∙ c.loop-kept.invariant.sessions;
      lengths = λ u. ap (λ xs. length (slice_index_or xs u [])) set_is' ∙ elim (cases_eq u u0) [
        | inl e ↦
            ap (λ n. length (slice_index_or (set lists u0 new_list.items) n [])) e ∙ ap length (get_or-set_same lists u0 new_list.items [] (omega (arith, in_lists, many)))
            ∙ length-set old.items kept.wire value ∙ ap (length {A = ℕ}) read ∙ ap (λ n. length (slice_index_or lists n [])) (sym e) ∙ c.loop-kept.invariant.lengths u
        | inr ne ↦ ap length (get_or-set_other lists u0 u new_list.items [] ne) ∙ c.loop-kept.invariant.lengths u
      ];
      own = ap (λ xs. slice_index_or xs s []) set_is' ∙ get_or-set_other lists u0 s new_list.items [] (λ e. omega (arith, e, behind)) ∙ c.loop-kept.invariant.own;
      handed_on = λ keeps. subst (λ ls. SoFar plan keeps s (value_at old_lists s) (value_at old_lists) (j + 1) (value_at ls)) (sym set_is')
          (one_more plan keeps s (value_at old_lists s) (value_at old_lists) j (value_at lists) (value_at (set lists u0 new_list.items)) is_there (c.loop-kept.invariant.handed_on keeps)
          (subst (λ (k : KeptWire). value_at (set lists u0 new_list.items) k.session k.wire ≡ value_at old_lists s (kept_wire x j)) is_same (cells.0 ∙ value_is))
          (λ u v apart. cells.1 u v (λ su sv. apart (su ∙ ap (λ (k : KeptWire). k.session) is_same) (sv ∙ ap (λ (k : KeptWire). k.wire) is_same))));
    }

pub returns-clause-handed_on : goal.returns-clause-handed_on
returns-clause-handed_on c =
    let plan = c.args.plan.now in
    let kept_is : c.kept-kept-items.result.now ≡ (session plan c.args.s).kept = c.kept-kept-items.ensures ∙ ap (λ (y : Session). y.kept) c.part-part.ensures in
    let keeps = c.recall.ensures.kept in
    let old : ℕ → ℕ → ℕ = value_at (session_words c.args.lists.now) in
    all_handed_on plan keeps c.args.s (old c.args.s) old c.loop-kept.kept-index (value_at (session_words c.loop-kept.lists)) (omega (arith, ap (length {A = KeptWire}) kept_is, c.loop-kept-test.false, c.loop-kept.auto.kept-index-end)) (c.loop-kept.invariant.handed_on keeps)
