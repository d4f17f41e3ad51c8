use Rattle.std.proofs.Common.{◌≡◌, ◌+◌, ◌<◌, ◌^◌, ℕ, [], ◌∷◌, length, drop, sym, ap, ◌∙◌, subst, arith, length-append}
use Rattle.std.specs.Global.{Vec}
use Rattle.std.specs.Prelude.{slice_index, slice_index_or}
use Rattle.std.proofs.lemmas.List.{drop_more, get_or_default, length-drop, length-map}
use Rattle.plan_model.specs.InputWords.{session_words}
use Rattle.party_desk.specs.Desks.{IsNew}
use Rattle.node_run.specs.Ready.{given_words}
use Rattle.node_run.proofs.CellChanges.{read_here}
use Rattle.node_run.proofs.ReadyKept.{AreNew, one_more_desk}
use Rattle.node_run.proofs.ready.open_desks.Goals as goal

pub open-requires-clause-inputs : goal.open-requires-clause-inputs
open-requires-clause-inputs c = λ i d l.
    let h = c.loop-tape.invariant in
    let fits = c.requires.fits in
    let tapes = c.args.tapes.items in
    let inputs = c.args.inputs.now in
    let s : ℕ = c.len-session.result in
    let k : ℕ = length c.loop-tape.desks.items in
    let same : s ≡ k = omega (arith, c.len-session.ensures) in
    let long : length (drop k tapes) ≡ length c.next.new.self.rest.items + 1 = ap length (sym h.rest ∙ c.in-Some.ensures.steps.0) ∙ omega arith in
    let within : s < length inputs = omega (arith, same, long, length-drop k tapes, fits.tapes, fits.sessions, length-map inputs (λ (v : Vec ℕ). v.items)) in
    let words_are : c.as_slice-words.result.now ≡ slice_index_or (session_words inputs) s [] =
    c.as_slice-words.ensures.value ∙ ap (λ (v : Vec ℕ). v.items) c.index-inputs-session.is ∙ sym (read_here (λ (v : Vec ℕ). v.items) inputs s c.index-inputs-session.result [] within) in
    subst (λ w. w < 2 ^ c.args.plan.now.bits) (sym (get_or_default c.as_slice-words.result.now i d 0 l ∙ ap (λ xs. slice_index xs i) words_are)) (fits.below s i)

pub loop-tape-preserved : goal.loop-tape-preserved
loop-tape-preserved c =
    let h = c.loop-tape.invariant in
    let fits = c.requires.fits in
    let plan = c.args.plan.now in
    let me = c.args.me in
    let tapes = c.args.tapes.items in
    let inputs = c.args.inputs.now in
    let desks = c.loop-tape.desks.items in
    let desk = c.in-Ok.desk in
    let s : ℕ = c.len-session.result in
    let k : ℕ = length desks in
    let same : s ≡ k = omega (arith, c.len-session.ensures) in
    let first = sym h.rest ∙ c.in-Some.ensures.steps.0 in
    let long : length (drop k tapes) ≡ length c.next.new.self.rest.items + 1 = ap length first ∙ omega arith in
    let less : k < length tapes = omega (arith, long, length-drop k tapes) in
    let both : c.in-Some.tape ∷ c.next.new.self.rest.items ≡ slice_index_or tapes k [] ∷ drop (k + 1) tapes = sym first ∙ drop_more tapes k [] less in
    let tape_is : c.in-Some.tape ≡ slice_index_or tapes k [] = cc in
    let rest_is : c.next.new.self.rest.items ≡ drop (k + 1) tapes = cc in
    let within : s < length inputs = omega (arith, same, less, fits.tapes, fits.sessions, length-map inputs (λ (v : Vec ℕ). v.items)) in
    let words_are : c.as_slice-words.result.now ≡ slice_index_or (session_words inputs) k [] =
    c.as_slice-words.ensures.value ∙ ap (λ (v : Vec ℕ). v.items) c.index-inputs-session.is
    ∙ sym (read_here (λ (v : Vec ℕ). v.items) inputs s c.index-inputs-session.result [] within)
    ∙ ap (λ j. slice_index_or (session_words inputs) j []) same in
    let new : IsNew plan me k (slice_index_or (session_words inputs) k []) (slice_index_or tapes k []) desk =
    subst (λ t. IsNew plan me k (slice_index_or (session_words inputs) k []) t desk) tape_is
    (subst (λ xs. IsNew plan me k xs c.in-Some.tape desk) words_are
    (subst (λ j. IsNew plan me j c.as_slice-words.result.now c.in-Some.tape desk) same c.in-Ok.ensures)) in
    let items = c.in_ok-push-in-Ok.ensures.items in
    let size : length c.push.new.self.items ≡ k + 1 = ap length items ∙ length-append desks (desk ∷ []) in
    record {
      rest = rest_is ∙ ap (λ j. drop j tapes) (sym size);
      within = omega (arith, size, less);
      desks = subst (AreNew plan me (given_words inputs tapes)) (sym items) (one_more_desk plan me (given_words inputs tapes) desks desk h.desks new);
    }
