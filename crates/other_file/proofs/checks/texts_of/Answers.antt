use Rattle.std.proofs.Common.{ℕ, List, [], ◌∷◌, ◌++◌, sym, ap, ◌∙◌, map, take}
use Rattle.std.specs.Borrow.{Bor}
use Rattle.std.proofs.lemmas.List.{map-append, take_more}
use Rattle.std.proofs.lemmas.Option.{get_or_from_slice_get, slice_get_within}
use Rattle.other_file.proofs.checks.texts_of.Goals as goal

pub loop-party-preserved : goal.loop-party-preserved
loop-party-preserved c =
    let now = λ (name : Bor (List ℕ)). name.now in
    let names = c.args.names.now in
    let p = c.loop-party.party in
    let name = c.name.result.now in
    ap (map now) c.in_ok-push.ensures.items
    ∙ map-append now c.loop-party.texts.items (c.name.result ∷ [])
    ∙ ap (λ (xs : List (List ℕ)). xs ++ name ∷ []) c.loop-party.invariant
    ∙ sym (take_more names p [] (slice_get_within names p name c.name.ensures) ∙ ap (λ (x : List ℕ). take p names ++ x ∷ []) (get_or_from_slice_get names p name [] c.name.ensures))
