use Rattle.std.proofs.Common.{rules, ◌≡◌, [], ◌∷◌, ◌++◌, length, map, sym, ap, ◌∙◌}
use Rattle.std.proofs.lemmas.List.{nil_from_length, append-nil}
use Rattle.desk_workers.proofs.Boxes.{desk_in, boxes_more}
use Rattle.desk_workers.proofs.ready.in_boxes.Goals as goal

pub loop-desk-preserved : goal.loop-desk-preserved
loop-desk-preserved c =
    let bs = c.loop-desk.boxes.items in
    let box = c.in_ok-new.field-0 in
    let rest = c.next.new.self.rest.items in
    ap (λ l. map desk_in l ++ rest) c.in_ok-push.ensures.items
    ∙ boxes_more bs box rest
    ∙ ap (λ d. map desk_in bs ++ (d ∷ rest)) c.in_ok-new.ensures.ok
    ∙ ap (λ l. map desk_in bs ++ l) (sym c.in-Some.ensures.steps.0)
    ∙ c.loop-desk.invariant

pub returns : goal.returns
returns c =
    let bs = c.loop-desk.boxes.items in
    let rest = c.loop-desk.desk-iterator.rest in
    let long : length rest.items ≡ rest.len = search rules in
    let none : rest.items ≡ [] = nil_from_length rest.items (long ∙ c.in-None.ensures.steps.0) in
    sym (ap (λ l. map desk_in bs ++ l) none ∙ append-nil (map desk_in bs)) ∙ c.loop-desk.invariant
