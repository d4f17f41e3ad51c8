use Rattle.std.proofs.Common.{◌≡◌, ◌≢◌, ℕ, ◌^◌, ◌<◌, ◌++◌, List, [], length, set, sym, ap, ap₂, ◌∙◌, subst, arith, inl, inr, get_or-set_other, get_or-set_same, length-set}
use Rattle.std.specs.Prelude.{slice_index, slice_index_or}
use Rattle.std.specs.Global.{Vec}
use Rattle.std.proofs.lemmas.Bool.{cases_eq}
use Rattle.std.proofs.lemmas.List.{map-set, length-map}
use Rattle.list_laws.proofs.JoinedLists.{total_within}
use Rattle.plan_model.specs.InputWords.{session_words}
use Rattle.plan_model.specs.Plans.{words}
use Rattle.wire_tables.proofs.ListedRows.{words_of, row_read}
use Rattle.tape_map.specs.Changes.{grown_piece}
use Rattle.tape_map.proofs.ChangedPieces.{small_all}
use Rattle.tape_map.proofs.map.push_pieces.Goals as goal

pub push_piece-requires-clause-tape : goal.push_piece-requires-clause-tape
push_piece-requires-clause-tape c =
    let plan = c.args.plan.now in
    let p = c.loop-p.p in
    let s = c.args.change.now.session in
    let lp : p < plan.parties = omega arith in
    let there : p < length c.args.tapes.now = omega (arith, length-map c.args.tapes.now (λ (t : Vec ℕ). t.items), c.requires.tapes.parties) in
    let tape = c.deref.ensures.value ∙ row_read c.args.tapes.now p c.index-tapes-p.result there c.index-tapes-p.is in
    let long = ap length tape ∙ c.requires.tapes.lengths p lp in
    let within = total_within (length plan.sessions) s (words plan p) c.requires.fits.there in
    omega arith

pub push_piece-requires-clause-words : goal.push_piece-requires-clause-words
push_piece-requires-clause-words c =
    let plan = c.args.plan.now in
    let p = c.loop-p.p in
    let there : p < length c.args.tapes.now = omega (arith, length-map c.args.tapes.now (λ (t : Vec ℕ). t.items), c.requires.tapes.parties) in
    let tape = c.deref.ensures.value ∙ row_read c.args.tapes.now p c.index-tapes-p.result there c.index-tapes-p.is in
    small_all (2 ^ plan.bits) c.deref.result.now (λ i. subst (λ xs. slice_index xs i < 2 ^ plan.bits) (sym tape) (c.requires.tapes.below p i))

pub loop-p-preserved : goal.loop-p-preserved
loop-p-preserved c =
    let plan = c.args.plan.now in
    let p = c.loop-p.p in
    let changed = c.loop-p.changed in
    let new = c.push_piece.new.changed in
    let lp : p < plan.parties = omega arith in
    let there : p < length c.args.tapes.now = omega (arith, length-map c.args.tapes.now (λ (t : Vec ℕ). t.items), c.requires.tapes.parties) in
    let here : p < length changed = omega (arith, c.loop-p.invariant.parties) in
    let listed_here : p < length (session_words changed) = omega (arith, length-map changed (λ (t : Vec ℕ). t.items)) in
    let tape = c.deref.ensures.value ∙ row_read c.args.tapes.now p c.index-tapes-p.result there c.index-tapes-p.is in
    let old = sym (words_of changed p c.index-changed-p.result here) ∙ c.loop-p.invariant.left p (omega arith) in
    let words_set : session_words (set changed p new) ≡ set (session_words changed) p new.items = map-set (λ (t : Vec ℕ). t.items) changed p new in
    let piece : ℕ → List ℕ = λ q. slice_index_or (session_words c.args.changed.now) q [] ++ grown_piece plan c.args.group.mask c.args.change.now (slice_index_or (session_words c.args.tapes.now) q []) q in
    let pushed : new.items ≡ piece p = c.in_ok-push_piece.ensures ∙ ap₂ (λ a t. a ++ grown_piece plan c.args.group.mask c.args.change.now t p) old tape in
    let other : (q : ℕ) → q ≢ p → slice_index_or (session_words (set changed p new)) q [] ≡ slice_index_or (session_words changed) q [] = λ q ne.
    ap (λ xs. slice_index_or xs q []) words_set ∙ get_or-set_other (session_words changed) p q new.items [] ne in
    record {
      parties = length-set changed p new ∙ c.loop-p.invariant.parties;
      pushed = λ q lq. elim (cases_eq q p) [
        | inl e ↦
            subst (λ q. slice_index_or (session_words (set changed p new)) q [] ≡ piece q) (sym e)
            (ap (λ xs. slice_index_or xs p []) words_set ∙ get_or-set_same (session_words changed) p new.items [] listed_here ∙ pushed)
        | inr ne ↦ other q ne ∙ c.loop-p.invariant.pushed q (omega arith)
      ];
      left = λ q lq. let ne : q ≢ p = omega arith in other q ne ∙ c.loop-p.invariant.left q (omega arith);
    }
