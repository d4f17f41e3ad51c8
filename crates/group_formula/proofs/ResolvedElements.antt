-- The second pass, element by element.
use Rattle.std.proofs.Common.{◌≡◌, ℕ, suc, ◌+◌, ◌≤◌, ◌<◌, List, [], ◌∷◌, ◌++◌, length, take, drop, map, get_or, Option, Some, None, Ok, Err, refl, sym, ◌∙◌, ap, ap₂, arith, append-nil}
use Rattle.std.proofs.Math.ListN.{set}
use Rattle.std.proofs.Math.Seq.{take-suc-set}
use Rattle.std.proofs.lemmas.List.{take_more, take_all, drop_all, drop-drop, drop-set-lt, get_or-drop, set-get_or, map-append}
use Rattle.group_formula.specs.declared.element.FormulaElement.{FormulaElement}
use Rattle.group_formula.specs.declared.fault.FormulaFault.{FormulaFault}
use Rattle.group_formula.specs.Formulas.{Reading}
use Rattle.group_formula.specs.Resolved.{earlier, bad_element, resolved_element, unless, meaning, least}
use Rattle.group_formula.proofs.FirstElementFault.{least_append, least_one, earlier_none}

least_more : (r : Reading) (ns : List FormulaElement) (i : ℕ) (d : FormulaElement) → i < length ns → least r (take (i + 1) ns) ≡ earlier (least r (take i ns)) (bad_element r (get_or ns i d))
least_more r ns i d l = ap (least r) (take_more ns i d l) ∙ least_append r (take i ns) (get_or ns i d ∷ []) ∙ ap (earlier (least r (take i ns))) (least_one r (get_or ns i d))

-- after i elements
pub record Resolving (r : Reading) (old new : List FormulaElement) (i : ℕ) (found : Option FormulaFault) : Type 0 where
  pub first : found ≡ least r (take i old)
  pub rest : drop i new ≡ drop i old
  pub done : found ≡ None → take i new ≡ map (resolved_element r) (take i old)

pub begins : (r : Reading) (ns : List FormulaElement) → Resolving r ns ns 0 None
unfolding least
begins r ns = record { first = refl; rest = refl; done = λ _. refl }

take_set : (ns : List FormulaElement) (i : ℕ) (m : FormulaElement) → i < length ns → take (i + 1) (set ns i m) ≡ take i ns ++ (m ∷ [])
take_set ns i m l = ap (λ k. take k (set ns i m)) (let n : i + 1 ≡ suc i = omega arith in n) ∙ take-suc-set ns i m l

same_here : (old new : List FormulaElement) (i : ℕ) (d : FormulaElement) → drop i new ≡ drop i old → get_or new i d ≡ get_or old i d
same_here old new i d e =
    let z : i + 0 ≡ i = omega arith in
    sym (get_or-drop i new 0 d ∙ ap (λ k. get_or new k d) z) ∙ ap (λ ns. get_or ns 0 d) e ∙ get_or-drop i old 0 d ∙ ap (λ k. get_or old k d) z

drop_next : (old new : List FormulaElement) (i : ℕ) → drop i new ≡ drop i old → drop (i + 1) new ≡ drop (i + 1) old
drop_next old new i e = sym (drop-drop 1 i new) ∙ ap (drop 1) e ∙ drop-drop 1 i old

meant : (bad : Option FormulaFault) (n m : FormulaElement) → unless bad n ≡ Ok m → (bad ≡ None) × (n ≡ m)
meant None n m e = (refl, cc)
meant (Some f) n m e = cc

refused : (bad : Option FormulaFault) (n : FormulaElement) (f : FormulaFault) → unless bad n ≡ Err f → bad ≡ Some f
refused None n f e = cc
refused (Some g) n f e = let same : g ≡ f = cc in ap Some same

pub next_ok : (r : Reading) (old new next : List FormulaElement) (i : ℕ) (found more : Option FormulaFault) (d m : FormulaElement) → Resolving r old new i found → i < length old → length new ≡ length old
    → meaning r (get_or new i d) ≡ Ok m → next ≡ set new i m → more ≡ found → Resolving r old next (i + 1) more
next_ok r old new next i found more d m h l long e is same =
    let here : get_or new i d ≡ get_or old i d = same_here old new i d h.rest in
    let told : (bad_element r (get_or new i d) ≡ None) × (resolved_element r (get_or new i d) ≡ m) = meant (bad_element r (get_or new i d)) (resolved_element r (get_or new i d)) m e in
    record {
      first = same ∙ h.first ∙ sym (least_more r old i d l ∙ ap (earlier (least r (take i old))) (ap (bad_element r) (sym here) ∙ told.0) ∙ earlier_none (least r (take i old)));
      rest = ap (drop (i + 1)) is ∙ drop-set-lt (i + 1) new i m (omega arith) ∙ drop_next old new i h.rest;
      done = λ none.
          ap (take (i + 1)) is ∙ take_set new i m (omega (arith, l, long)) ∙ ap₂ (λ ns n. ns ++ (n ∷ [])) (h.done (sym same ∙ none)) (sym told.1 ∙ ap (resolved_element r) here)
          ∙ sym (ap (map (resolved_element r)) (take_more old i d l) ∙ map-append (resolved_element r) (take i old) (get_or old i d ∷ []));
    }

pub next_err : (r : Reading) (old new next : List FormulaElement) (i : ℕ) (found more : Option FormulaFault) (d : FormulaElement) (fault first : FormulaFault) → Resolving r old new i found → i < length old
    → meaning r (get_or new i d) ≡ Err fault → next ≡ set new i (get_or new i d) → Some first ≡ earlier found (Some fault) → more ≡ Some first → Resolving r old next (i + 1) more
next_err r old new next i found more d fault first h l e is which same =
    let here : get_or new i d ≡ get_or old i d = same_here old new i d h.rest in
    let told : bad_element r (get_or new i d) ≡ Some fault = refused (bad_element r (get_or new i d)) (resolved_element r (get_or new i d)) fault e in
    record {
      first = same ∙ which ∙ ap₂ earlier h.first (sym told ∙ ap (bad_element r) here) ∙ sym (least_more r old i d l);
      rest = ap (drop (i + 1)) (is ∙ set-get_or new i d) ∙ drop_next old new i h.rest;
      done = λ none. let bad : Some first ≡ None = sym same ∙ none in cc;
    }

-- all elements were looked at
pub all_first : (r : Reading) (old new : List FormulaElement) (i : ℕ) (found : Option FormulaFault) → Resolving r old new i found → length old ≤ i → found ≡ least r old
all_first r old new i found h l = h.first ∙ ap (least r) (take_all i old l)

pub all_resolved : (r : Reading) (old new : List FormulaElement) (i : ℕ) (found : Option FormulaFault) → Resolving r old new i found → length old ≤ i → length new ≡ length old → found ≡ None → new ≡ map (resolved_element r) old
all_resolved r old new i found h l long none = sym (take_all i new (omega arith)) ∙ h.done none ∙ ap (map (resolved_element r)) (take_all i old l)

-- a list that was lent as a whole
pub lent : (n : ℕ) (new old : List FormulaElement) → n ≡ length old → length new ≡ length old → take n (new ++ drop (length new) old) ≡ new
lent n new old e f =
    ap (take n) (ap (λ xs. new ++ xs) (drop_all (length new) old (omega (arith, f))) ∙ append-nil new) ∙ take_all n new (omega (arith, e, f))
