-- The formula that the second pass makes.
use Rattle.std.proofs.Common.{◌≡◌, ℕ, ◌+◌, ◌≤◌, ◌<◌, Bool, true, false, cond, ◌&&◌, nat_le, List, [], ◌∷◌, ◌++◌, length, map, Option, Some, None, refl, sym, ◌∙◌, ap, ap₂, subst, arith, length-append}
use Rattle.std.specs.Prelude.{count_by, is_some, unwrap_or}
use Rattle.std.specs.Str.{bytes_eq}
use Rattle.std.proofs.lemmas.Bool.{leb-true}
use Rattle.std.proofs.lemmas.List.{map-append}
use Rattle.std.proofs.lemmas.List.Sums.{sum_by-append}
use Rattle.std.proofs.lemmas.List.Quantifiers.{position-Some}
use Rattle.group_formula.specs.declared.token.FormulaToken.{FormulaToken}
use Rattle.group_formula.specs.declared.token.FormulaToken.TheVariants as tokens
use Rattle.group_formula.specs.declared.element.FormulaElement.{FormulaElement}
use Rattle.group_formula.specs.declared.element.FormulaElement.TheVariants.{And, Or, AtLeast}
use Rattle.group_formula.specs.declared.fault.FormulaFault.{FormulaFault}
use Rattle.group_formula.specs.declared.fault.FormulaFault.TheVariants.{UnknownName, BadCount}
use Rattle.text_tokens.specs.Tokens.{is_blank}
use Rattle.text_tokens.specs.RunTokens.{bare, tokens}
use Rattle.text_tokens.proofs.FirstFaults.{fine_last}
use Rattle.group_formula.specs.Tokens.{formula_language, is_element}
use Rattle.group_formula.specs.Trees.{Tree, Trees, tree_count, IsSoundTree, AreSound}
use Rattle.group_formula.specs.Postfix.{postfix, postfix_all, tree_of}
use Rattle.group_formula.specs.Trees.Tree.{leaf, both, either, at_least}
use Rattle.group_formula.specs.Trees.Trees.{one_tree, more_trees}
use Rattle.group_formula.specs.Grammar.{Expr, Term, Factor, Parts, spell, spell_term, spell_factor, spell_parts, shape, shape_term, shape_factor, shape_parts}
use Rattle.group_formula.specs.Grammar.Expr.{one_term, or_term}
use Rattle.group_formula.specs.Grammar.Term.{one_factor, and_factor}
use Rattle.group_formula.specs.Grammar.Factor.{named, grouped, counted}
use Rattle.group_formula.specs.Grammar.Parts.{one_part, more_parts}
use Rattle.group_formula.proofs.WrittenTrees.{tree_of-postfix}
use Rattle.group_formula.specs.Faults.{IsFine}
use Rattle.group_formula.specs.Parsed.{IsParsed}
use Rattle.group_formula.specs.Formulas.{Reading, reading, name_in_text, resolved, all_resolved, or_else, bad_count, bad, some_bad}
use Rattle.group_formula.specs.Resolved.{resolved_element, least}
use Rattle.group_formula.proofs.FaultlessTokens.{one_if}
use Rattle.group_formula.proofs.FirstElementFault.{Rises, rises, tells_expr}

-- the fault that stands first among the elements
pub least_is : (text : List ℕ) (names : List (List ℕ)) (elements : List FormulaElement) (p : IsParsed text elements) → least (reading text names) elements ≡ bad (reading text names) (shape p.expr)
least_is text names elements p =
    let up : Rises 0 (spell p.expr) (length text) = subst (λ ts. Rises 0 ts (length text)) (sym p.parsed.spelled) (rises 0 is_blank text (length text) (omega arith)) in
    ap (least (reading text names)) p.written ∙ (tells_expr (reading text names) p.expr 0 (length text) up).0

count-resolved : (r : Reading) (ts : Trees) → tree_count (all_resolved r ts) ≡ tree_count ts
count-resolved r (one_tree t) = refl
count-resolved r (more_trees ts t) = ap (λ n. n + 1) (count-resolved r ts)

map_last : (r : Reading) (xs : List FormulaElement) (n : FormulaElement) (ys : List FormulaElement) → map (resolved_element r) xs ≡ ys → map (resolved_element r) (xs ++ (n ∷ [])) ≡ ys ++ (resolved_element r n ∷ [])
map_last r xs n ys e = map-append (resolved_element r) xs (n ∷ []) ∙ ap (λ zs. zs ++ (resolved_element r n ∷ [])) e

map_two : (r : Reading) (xs ys us vs : List FormulaElement) → map (resolved_element r) xs ≡ us → map (resolved_element r) ys ≡ vs → map (resolved_element r) (xs ++ ys) ≡ us ++ vs
map_two r xs ys us vs e f = map-append (resolved_element r) xs ys ∙ ap₂ (λ a b. a ++ b) e f

mutual
  pub map-postfix : (r : Reading) (t : Tree) → map (resolved_element r) (postfix t) ≡ postfix (resolved r t)
  map-postfix r (leaf p) = refl
  map-postfix r (both a b) = map_last r (postfix a ++ postfix b) And _ (map_two r (postfix a) (postfix b) _ _ (map-postfix r a) (map-postfix r b))
  map-postfix r (either a b) = map_last r (postfix a ++ postfix b) Or _ (map_two r (postfix a) (postfix b) _ _ (map-postfix r a) (map-postfix r b))
  map-postfix r (at_least n ts) =
      map_last r (postfix_all ts) (AtLeast n (tree_count ts)) _ (map-postfix_all r ts) ∙ ap (λ k. postfix_all (all_resolved r ts) ++ (AtLeast (r.number n) k ∷ [])) (sym (count-resolved r ts))

  pub map-postfix_all : (r : Reading) (ts : Trees) → map (resolved_element r) (postfix_all ts) ≡ postfix_all (all_resolved r ts)
  map-postfix_all r (one_tree t) = map-postfix r t
  map-postfix_all r (more_trees ts t) = map_two r (postfix_all ts) (postfix t) _ _ (map-postfix_all r ts) (map-postfix r t)

neither : (x y : Option FormulaFault) → or_else x y ≡ None → (x ≡ None) × (y ≡ None)
neither None y e = (refl, e)
neither (Some f) y e = cc

known : (o : Option ℕ) (f : FormulaFault) (n : ℕ) → cond (is_some o) None (Some f) ≡ None → ((p : ℕ) → o ≡ Some p → p < n) → unwrap_or o 0 < n
known None f n e h = cc
known (Some p) f n e h = h p refl

in_range : (c k : ℕ) (f : FormulaFault) → cond (nat_le 1 c && nat_le c k) None (Some f) ≡ None → (1 ≤ c) × (c ≤ k)
in_range c k f e = go (nat_le 1 c) (nat_le c k) refl refl e
  where
    go : (a b : Bool) → nat_le 1 c ≡ a → nat_le c k ≡ b → cond (a && b) None (Some f) ≡ None → (1 ≤ c) × (c ≤ k)
    go true true x y e = (leb-true 1 c x, leb-true c k y)
    go true false x y e = cc
    go false b x y e = cc

mutual
  -- where no name and no number is bad
  pub sound : (r : Reading) (n : ℕ) → ((at p : ℕ) → r.party at ≡ Some p → p < n) → (t : Tree) → bad r t ≡ None → IsSoundTree n (resolved r t)
  sound r n h (leaf at) e = known (r.party at) (UnknownName at) n e (h at)
  sound r n h (both a b) e = let f = neither (bad r a) (bad r b) e in (sound r n h a f.0, sound r n h b f.1)
  sound r n h (either a b) e = let f = neither (bad r a) (bad r b) e in (sound r n h a f.0, sound r n h b f.1)
  sound r n h (at_least at ts) e =
      let f = neither (bad_count r at (tree_count ts)) (some_bad r ts) e in
      let g = in_range (r.number at) (tree_count ts) (BadCount at) f.0 in
      (g.0, omega (arith, g.1, count-resolved r ts), all_sound r n h ts f.1)

  pub all_sound : (r : Reading) (n : ℕ) → ((at p : ℕ) → r.party at ≡ Some p → p < n) → (ts : Trees) → some_bad r ts ≡ None → AreSound n (all_resolved r ts)
  all_sound r n h (one_tree t) e = sound r n h t e
  all_sound r n h (more_trees ts t) e = let f = neither (some_bad r ts) (bad r t) e in (all_sound r n h ts f.0, sound r n h t f.1)

pub parties_below : (text : List ℕ) (names : List (List ℕ)) (at p : ℕ) → (reading text names).party at ≡ Some p → p < length names
parties_below text names at p e = (position-Some (λ name. bytes_eq name (name_in_text text at)) names p [] e).0

count_two : (xs ys : List FormulaToken) → count_by is_element (xs ++ ys) ≡ count_by is_element xs + count_by is_element ys
count_two xs ys = sum_by-append (λ t. one_if (is_element t)) xs ys

-- an element behind two formulas, where a symbol stands between them
two_counted : (front back : List FormulaElement) (element : FormulaElement) (xs ys : List FormulaToken) (symbol : FormulaToken) → length front ≡ count_by is_element xs → length back ≡ count_by is_element ys → count_by is_element (symbol ∷ []) ≡ 1
    → length ((front ++ back) ++ (element ∷ [])) ≡ count_by is_element (xs ++ (symbol ∷ ys))
two_counted front back element xs ys symbol e f one =
    omega (arith, e, f, one, length-append (front ++ back) (element ∷ []), length-append front back, count_two xs (symbol ∷ ys), count_two (symbol ∷ []) ys)

mutual
  counted_expr : (e : Expr) → length (postfix (shape e)) ≡ count_by is_element (spell e)
  counted_expr (one_term t) = counted_term t
  counted_expr (or_term e t) = two_counted (postfix (shape e)) (postfix (shape_term t)) Or (spell e) (spell_term t) tokens.Bar (counted_expr e) (counted_term t) refl

  counted_term : (t : Term) → length (postfix (shape_term t)) ≡ count_by is_element (spell_term t)
  counted_term (one_factor f) = counted_factor f
  counted_term (and_factor t f) = two_counted (postfix (shape_term t)) (postfix (shape_factor f)) And (spell_term t) (spell_factor f) tokens.Ampersand (counted_term t) (counted_factor f) refl

  counted_factor : (f : Factor) → length (postfix (shape_factor f)) ≡ count_by is_element (spell_factor f)
  counted_factor (named at) = omega arith
  counted_factor (grouped e) = omega (arith, counted_expr e, count_two (tokens.Open ∷ []) (spell e ++ (tokens.Close ∷ [])), count_two (spell e) (tokens.Close ∷ []))
  counted_factor (counted at ps) =
      omega (
        arith,
        counted_parts ps,
        length-append (postfix_all (shape_parts ps)) (AtLeast at (tree_count (shape_parts ps)) ∷ []),
        count_two (tokens.Number at ∷ tokens.Of ∷ tokens.Open ∷ []) (spell_parts ps ++ (tokens.Close ∷ [])),
        count_two (spell_parts ps) (tokens.Close ∷ []),
      )

  counted_parts : (ps : Parts) → length (postfix_all (shape_parts ps)) ≡ count_by is_element (spell_parts ps)
  counted_parts (one_part e) = counted_expr e
  counted_parts (more_parts ps e) =
      omega (
        arith,
        counted_parts ps,
        counted_expr e,
        length-append (postfix_all (shape_parts ps)) (postfix (shape e)),
        count_two (spell_parts ps) (tokens.Comma ∷ spell e),
        count_two (tokens.Comma ∷ []) (spell e),
      )

pub few_elements : (text : List ℕ) (elements : List FormulaElement) → IsParsed text elements → length elements ≤ 256
few_elements text elements p =
    let whole : IsFine (bare (tokens formula_language text)) = fine_last IsFine (bare (tokens formula_language text)) p.parsed.fine in
    omega (arith, ap length p.written, counted_expr p.expr, ap (count_by is_element) p.parsed.spelled, whole.small)

-- the elements of the formula
pub written : (text : List ℕ) (names : List (List ℕ)) (elements new : List FormulaElement) (p : IsParsed text elements) → new ≡ map (resolved_element (reading text names)) elements → new ≡ postfix (resolved (reading text names) (shape p.expr))
written text names elements new p e = e ∙ ap (map (resolved_element (reading text names))) p.written ∙ map-postfix (reading text names) (shape p.expr)

pub tree_is : (text : List ℕ) (names : List (List ℕ)) (elements new : List FormulaElement) (p : IsParsed text elements) → new ≡ map (resolved_element (reading text names)) elements → tree_of new ≡ resolved (reading text names) (shape p.expr)
tree_is text names elements new p e = ap tree_of (written text names elements new p e) ∙ tree_of-postfix (resolved (reading text names) (shape p.expr))

pub writes_back : (text : List ℕ) (names : List (List ℕ)) (elements new : List FormulaElement) (p : IsParsed text elements) → new ≡ map (resolved_element (reading text names)) elements → postfix (tree_of new) ≡ new
writes_back text names elements new p e = ap postfix (tree_is text names elements new p e) ∙ sym (written text names elements new p e)

pub is_sound : (text : List ℕ) (names : List (List ℕ)) (elements new : List FormulaElement) (p : IsParsed text elements) → new ≡ map (resolved_element (reading text names)) elements → None ≡ least (reading text names) elements → IsSoundTree (length names) (tree_of new)
is_sound text names elements new p e none =
    subst (IsSoundTree (length names)) (sym (tree_is text names elements new p e))
    (sound (reading text names) (length names) (parties_below text names) (shape p.expr) (sym (none ∙ least_is text names elements p)))
