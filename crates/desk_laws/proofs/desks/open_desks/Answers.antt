use Rattle.std.proofs.Common.{◌≡◌, ℕ, ◌+◌, ◌/◌, ◌%◌, ◌<◌, List, [], ◌∷◌, ◌++◌, length, drop, get_or, sym, ap, ◌∙◌, subst, arith, length-append}
use Rattle.std.proofs.lemmas.Bool.{cases_lt}
use Rattle.std.proofs.lemmas.List.{drop_more, length-drop, get_or-append-add}
use Rattle.std.proofs.Math.ListN.{get_or-append}
use mathlib.Core.Logic.{inl, inr}
use Rattle.plan_model.specs.Plans.{words}
use Rattle.plan_model.specs.InputWords.{given}
use Rattle.party_desk.specs.declared.desk.Desk.{Desk}
use Rattle.party_desk.specs.Desks.{IsNew}
use Rattle.desk_laws.proofs.Elements.{by_place, by_element}
use Rattle.desk_laws.proofs.OpenedDesks.{long_piece}
use Rattle.desk_laws.proofs.desks.open_desks.Goals as goal

head_of : {A : Type 0} (x y : A) (xs ys : List A) → x ∷ xs ≡ y ∷ ys → x ≡ y
head_of x y xs ys e = cc

tail_of : {A : Type 0} (x y : A) (xs ys : List A) → x ∷ xs ≡ y ∷ ys → xs ≡ ys
tail_of x y xs ys e = cc

pub open_desk-requires-clause-long : goal.open_desk-requires-clause-long
open_desk-requires-clause-long c =
    let h = c.loop-piece.invariant in
    let k = c.loop-piece.k in
    let xs = c.args.pieces.items in
    let z = c.in-Some.ensures.steps in
    let long : length (drop k xs) ≡ length c.next.new.self.rest.items + 1 = ap length (sym h.rest ∙ z.0) ∙ omega arith in
    let less : k < length xs = omega (arith, length-drop k xs, long) in
    let piece : c.in-Some.piece ≡ get_or xs k [] = head_of _ _ _ _ (sym z.0 ∙ h.rest ∙ drop_more xs k [] less) in
    ap length piece ∙ long_piece c.args.plan.now c.parties-parties.ensures.sound xs c.requires.pieces k less ∙ ap (λ m. words c.args.plan.now (k % m) (k / m)) (sym c.parties-parties.ensures.is)

pub loop-piece-preserved : goal.loop-piece-preserved
loop-piece-preserved c =
    let h = c.loop-piece.invariant in
    let k = c.loop-piece.k in
    let n = c.args.plan.now.parties in
    let xs = c.args.pieces.items in
    let ds = c.loop-piece.desks.items in
    let z = c.in-Some.ensures.steps in
    let u = c.in_ok-push.ensures.items in
    let new = c.in_ok-desk.desk in
    let is_new_at : ℕ → Desk → Type 0 = λ j d. IsNew c.args.plan.now (j % n) (j / n) (given c.args.inputs.now (j % n) (j / n)) (get_or xs j []) d in
    let long : length (drop k xs) ≡ length c.next.new.self.rest.items + 1 = ap length (sym h.rest ∙ z.0) ∙ omega arith in
    let less : k < length xs = omega (arith, length-drop k xs, long) in
    let both : c.in-Some.piece ∷ c.next.new.self.rest.items ≡ get_or xs k [] ∷ drop (k + 1) xs = sym z.0 ∙ h.rest ∙ drop_more xs k [] less in
    let piece : c.in-Some.piece ≡ get_or xs k [] = head_of _ _ _ _ both in
    let size : length (ds ++ new ∷ []) ≡ k + 1 = length-append ds (new ∷ []) ∙ (let a = h.count in omega arith) in
    let last : (d : Desk) → get_or (ds ++ new ∷ []) k d ≡ new = λ d. let here : k ≡ length ds + 0 = (let a = h.count in omega arith) in ap (λ i. get_or (ds ++ new ∷ []) i d) here ∙ get_or-append-add ds (new ∷ []) 0 d in
    let is_new : IsNew c.args.plan.now (k % n) (k / n) (given c.args.inputs.now (k % n) (k / n)) (get_or xs k []) new =
    subst (λ t. IsNew c.args.plan.now (k % n) (k / n) (given c.args.inputs.now (k % n) (k / n)) t new) piece
    (subst (λ m. IsNew c.args.plan.now (k % m) (k / m) (given c.args.inputs.now (k % m) (k / m)) c.in-Some.piece new) c.parties-parties.ensures.is c.in_ok-desk.ensures) in
    record {
      count = sym (ap length u ∙ size);
      rest = tail_of _ _ _ _ both;
      within = omega arith;
      desks = by_element is_new_at _ (λ j d lj.
          subst (λ ys. is_new_at j (get_or ys j d)) (sym u)
          (let inside : j < k + 1 = (let a = ap length u in omega (arith, a, size, lj)) in elim (cases_lt j k) [
            | inl before ↦
                let in-ds : j < length ds = (let a = h.count in omega arith) in
                subst (is_new_at j) (sym (get_or-append ds (new ∷ []) d j in-ds)) (by_place is_new_at ds h.desks j d in-ds)
            | inr past ↦
                let same : k ≡ j = omega arith in
                subst (λ i. is_new_at i (get_or (ds ++ new ∷ []) i d)) same (subst (is_new_at k) (sym (last d)) is_new)
          ]));
    }
