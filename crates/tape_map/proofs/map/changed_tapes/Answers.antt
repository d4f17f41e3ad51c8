use Rattle.std.proofs.Common.{◌≡◌, ℕ, ◌<◌, ◌++◌, List, [], length, refl, sym, ap, ap₂, ◌∙◌, subst, arith}
use Rattle.std.specs.Prelude.{slice_index_or}
use Rattle.std.specs.Global.{Vec}
use Rattle.std.proofs.lemmas.List.{get_or-replicate, length-map, length-replicate, with_items_is}
use Rattle.list_laws.specs.Lists.{joined}
use Rattle.list_laws.proofs.JoinedLists.{joined_more, length-listed, listed_at}
use Rattle.plan_model.specs.InputWords.{session_words}
use Rattle.plan_model.specs.Plans.{place, session}
use Rattle.share_world.specs.Worlds.{World}
use Rattle.wire_tables.specs.WireTables.{value_list, value_lists, world_of}
use Rattle.wire_tables.proofs.ListedRows.{listed_of, row_read}
use Rattle.tape_map.specs.Changes.{AreNumbers, grown_piece}
use Rattle.tape_map.specs.TapeMaps.{piece_map, tape_map, with_inputs}
use Rattle.tape_map.proofs.ChangedPieces.{hides, lists_fit, next_place, piece_grown, table_fits}
use Rattle.tape_map.proofs.map.changed_tapes.Goals as goal

-- the list of session s, as it was read
list_read : (w : World) (lists : List (Vec ℕ)) (s : ℕ) (words : List ℕ) → session_words lists ≡ value_lists w → s < length w.plan.sessions
    → words ≡ slice_index_or (session_words lists) s [] → words ≡ value_list w s
list_read w lists s words are ls read =
    read ∙ ap (λ xs. slice_index_or xs s []) are ∙ listed_at (length w.plan.sessions) (value_list w) s [] ls

pub loop-s-init : goal.loop-s-init
loop-s-init c =
    let w : World = world_of c.args.world.now in
    let many : length c.in_ok-changed.changed.items ≡ c.parties.result =
    sym (length-map c.in_ok-changed.changed.items (λ (t : Vec ℕ). t.items)) ∙ ap length c.in_ok-changed.ensures ∙ length-replicate c.parties.result [] in
    let none : (p : ℕ) → p < c.args.world.now.plan.now.parties → slice_index_or (session_words c.in_ok-changed.changed.items) p [] ≡ [] = λ p lp.
    ap (λ xs. slice_index_or xs p []) c.in_ok-changed.ensures ∙ get_or-replicate c.parties.result p [] [] (omega (arith, lp, c.parties.ensures.is)) in
    record {
      parties = many ∙ c.parties.ensures.is;
      lengths = λ p lp. ap length (none p lp);
      pieces = λ other are p lp. none p lp;
      carried = c.in_ok-carried.ensures w refl;
    }

pub bounds-first-s : goal.bounds-first-s
bounds-first-s c =
    let w : World = world_of c.args.world.now in
    omega (arith, c.loop-s-test.true, c.sessions-s-end.ensures, ap length c.requires.first, length-listed (length w.plan.sessions) (value_list w), length-map c.args.first.now (λ (list : Vec ℕ). list.items))

pub bounds-second-s : goal.bounds-second-s
bounds-second-s c =
    omega (arith, c.loop-s-test.true, c.sessions-s-end.ensures, c.requires.second.sessions, length-map c.args.second.now (λ (list : Vec ℕ). list.items))

pub wire_growths-requires-clause-first : goal.wire_growths-requires-clause-first
wire_growths-requires-clause-first c =
    let w : World = world_of c.args.world.now in
    let s = c.loop-s.s in
    let there : s < length c.args.first.now = omega (arith, c.loop-s-test.true, c.sessions-s-end.ensures, ap length c.requires.first, length-listed (length w.plan.sessions) (value_list w), length-map c.args.first.now (λ (list : Vec ℕ). list.items)) in
    subst (AreNumbers w.plan (session w.plan s).wires) (sym (c.deref.ensures.value ∙ row_read c.args.first.now s c.index-first-s.result there c.index-first-s.is))
    ((lists_fit w (session_words c.args.first.now) c.requires.whole.sound c.requires.whole.inputs c.requires.first).numbers s (omega (arith, c.loop-s-test.true, c.sessions-s-end.ensures)))

pub wire_growths-requires-clause-second : goal.wire_growths-requires-clause-second
wire_growths-requires-clause-second c =
    let s = c.loop-s.s in
    let there : s < length c.args.second.now = omega (arith, c.loop-s-test.true, c.sessions-s-end.ensures, c.requires.second.sessions, length-map c.args.second.now (λ (list : Vec ℕ). list.items)) in
    subst (AreNumbers c.args.world.now.plan.now (session c.args.world.now.plan.now s).wires) (sym (c.deref-in-loop-s.ensures.value ∙ row_read c.args.second.now s c.index-second-s.result there c.index-second-s.is))
    (c.requires.second.numbers s (omega (arith, c.loop-s-test.true, c.sessions-s-end.ensures)))

pub push_pieces-requires-clause-fits : goal.push_pieces-requires-clause-fits
push_pieces-requires-clause-fits c =
    let w : World = world_of c.args.world.now in
    let ls : c.loop-s.s < length c.args.world.now.plan.now.sessions = omega (arith, c.loop-s-test.true, c.sessions-s-end.ensures) in
    let fit = subst (AreNumbers w.plan (session w.plan c.loop-s.s).wires) (sym c.deref-in-loop-s-2.ensures.value) c.in_ok-growths.ensures.fit in
    table_fits w c.loop-s.s c.args.share c.deref-in-loop-s-2.result.now c.in_ok-change.change c.requires.whole ls fit c.in_ok-change.ensures.made

pub push_pieces-requires-clause-before : goal.push_pieces-requires-clause-before
push_pieces-requires-clause-before c p lp =
    ap (λ xs. length (slice_index_or (session_words xs) p [])) c.deref_mut.ensures.value
    ∙ c.loop-s.invariant.lengths p lp
    ∙ ap (λ s. place c.args.world.now.plan.now p s 0) (sym c.in_ok-change.ensures.made.at)

pub loop-s-preserved : goal.loop-s-preserved
loop-s-preserved c =
    let plan = c.args.world.now.plan.now in
    let w : World = world_of c.args.world.now in
    let mask = c.args.group.mask in
    let s = c.loop-s.s in
    let ls : s < length plan.sessions = omega (arith, c.loop-s-test.true, c.sessions-s-end.ensures) in
    let in_first : s < length c.args.first.now = omega (arith, ls, ap length c.requires.first, length-listed (length w.plan.sessions) (value_list w), length-map c.args.first.now (λ (list : Vec ℕ). list.items)) in
    let in_second : s < length c.args.second.now = omega (arith, ls, c.requires.second.sessions, length-map c.args.second.now (λ (list : Vec ℕ). list.items)) in
    let change = c.in_ok-change.change in
    let new = c.push_pieces.new.changed in
    let items = with_items_is c.loop-s.changed new (omega (arith, c.push_pieces.auto.changed, c.deref_mut.ensures.len)) in
    let piece : ℕ → List ℕ = λ p. grown_piece plan mask change (slice_index_or w.tapes p []) p in
    let pushed : (p : ℕ) → p < plan.parties → slice_index_or (session_words new) p [] ≡ slice_index_or (session_words c.loop-s.changed.items) p [] ++ piece p = λ p lp.
    c.in_ok-push_pieces.ensures.pieces p lp
    ∙ ap (λ xs. slice_index_or (session_words xs) p [] ++ piece p) c.deref_mut.ensures.value in
    record {
      parties = ap length items ∙ c.push_pieces.ensures.parties;
      lengths = λ p lp.
          ap (λ xs. length (slice_index_or (session_words xs) p [])) items ∙ ap length (pushed p lp)
          ∙ next_place plan mask change (slice_index_or (session_words c.loop-s.changed.items) p []) (slice_index_or w.tapes p []) p s c.in_ok-change.ensures.made.at (c.loop-s.invariant.lengths p lp);
      pieces = λ other are p lp.
          let first = list_read w c.args.first.now s _ c.requires.first ls (c.deref.ensures.value ∙ row_read c.args.first.now s c.index-first-s.result in_first c.index-first-s.is) in
          let second = list_read (with_inputs w other) c.args.second.now s _ are ls (c.deref-in-loop-s.ensures.value ∙ row_read c.args.second.now s c.index-second-s.result in_second c.index-second-s.is) in
          let is = hides w other mask s c.args.share _ _ _ change c.requires.hidden (c.deref-in-loop-s-2.ensures.value ∙ c.in_ok-growths.ensures.is) first second c.in_ok-change.ensures.made in
          ap (λ xs. slice_index_or (session_words xs) p []) items ∙ pushed p lp
          ∙ ap₂ (λ a b. a ++ b) (c.loop-s.invariant.pieces other are p lp) (piece_grown w other mask s c.requires.whole ls change is p)
          ∙ sym (joined_more s (piece_map w other mask p));
      carried = c.in_ok-change.ensures.carried;
    }

pub returns : goal.returns
returns c other are =
    let plan = c.args.world.now.plan.now in
    let w : World = world_of c.args.world.now in
    let ended : c.loop-s.s ≡ length plan.sessions = omega (arith, c.loop-s-test.false, c.sessions-s-end.ensures, c.loop-s.auto.s-end) in
    listed_of [] plan.parties (tape_map w other c.args.group.mask) (session_words c.loop-s.changed.items) (length-map c.loop-s.changed.items (λ (t : Vec ℕ). t.items) ∙ c.loop-s.invariant.parties)
    (λ p lp. c.loop-s.invariant.pieces other are p lp ∙ ap (λ n. joined n (piece_map w other c.args.group.mask p)) ended)
