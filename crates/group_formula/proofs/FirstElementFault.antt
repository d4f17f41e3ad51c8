-- The fault among the elements that stands first is the first of the text.
use Rattle.std.proofs.Common.{◌≡◌, ℕ, ◌+◌, ◌≤◌, ◌<◌, ◌⊎◌, inl, inr, Bool, true, false, ◌&&◌, cond, List, [], ◌∷◌, ◌++◌, length, Option, Some, None, refl, sym, ◌∙◌, ap, ap₂, arith, nat_le, nat_lt, nat_eq}
use Rattle.std.specs.Prelude.{is_some, codes}
use Rattle.std.specs.List.{take_while}
use Rattle.std.specs.Str.{bytes_eq}
use Rattle.std.specs.Char.{is_ascii_alphabetic, is_ascii_digit}
use Rattle.std.proofs.lemmas.Bool.{lt-ltb, le-ltb, ltb-true, ltb-false}
use Rattle.group_formula.specs.declared.token.FormulaToken.{FormulaToken}
use Rattle.group_formula.specs.declared.token.FormulaToken.TheVariants as tokens
use Rattle.group_formula.specs.declared.element.FormulaElement.{FormulaElement}
use Rattle.group_formula.specs.declared.element.FormulaElement.TheVariants.{Name, And, Or, AtLeast}
use Rattle.group_formula.specs.declared.fault.FormulaFault.{FormulaFault}
use Rattle.group_formula.specs.declared.fault.FormulaFault.TheVariants.{UnknownName, BadCount}
use Rattle.text_tokens.specs.Tokens.{is_blank}
use Rattle.text_tokens.specs.RunTokens.{bare, is_word_byte, run_begun, token_at, tokens_from}
use Rattle.group_formula.specs.Tokens.{formula_language, symbol, word_token}
use Rattle.group_formula.specs.Trees.{tree_count}
use Rattle.group_formula.specs.Postfix.{postfix, postfix_all}
use Rattle.group_formula.specs.Grammar.{Expr, Term, Factor, Parts, spell, spell_term, spell_factor, spell_parts, shape, shape_term, shape_factor, shape_parts}
use Rattle.group_formula.specs.Grammar.Expr.{one_term, or_term}
use Rattle.group_formula.specs.Grammar.Term.{one_factor, and_factor}
use Rattle.group_formula.specs.Grammar.Factor.{named, grouped, counted}
use Rattle.group_formula.specs.Grammar.Parts.{one_part, more_parts}
use Rattle.group_formula.specs.Formulas.{Reading, or_else, bad_name, bad_count, bad, some_bad}
use Rattle.group_formula.specs.Resolved.{fault_place, earlier, bad_element, least}

-- the places of the names and numbers rise
abbrev pub Rises : ℕ → List FormulaToken → ℕ → Type 0
Rises lo [] hi = lo ≤ hi
Rises lo (tokens.Name p ∷ ts) hi = (lo ≤ p) × Rises (p + 1) ts hi
Rises lo (tokens.Number n ∷ ts) hi = (lo ≤ n) × Rises (n + 1) ts hi
Rises lo (_ ∷ ts) hi = Rises lo ts hi

pub earlier_none : (x : Option FormulaFault) → earlier x None ≡ x
earlier_none None = refl
earlier_none (Some x) = refl

less : (m n : ℕ) → ((nat_lt m n ≡ true) × (m < n)) ⊎ ((nat_lt m n ≡ false) × (n ≤ m))
less m n = go (nat_lt m n) refl
  where
    go : (t : Bool) → nat_lt m n ≡ t → ((nat_lt m n ≡ true) × (m < n)) ⊎ ((nat_lt m n ≡ false) × (n ≤ m))
    go true e = inl (e, ltb-true m n e)
    go false e = inr (e, ltb-false m n e)

earlier_assoc : (x y z : Option FormulaFault) → earlier (earlier x y) z ≡ earlier x (earlier y z)
earlier_assoc None y z = refl
earlier_assoc (Some x) None z = refl
earlier_assoc (Some x) (Some y) None = earlier_none (earlier (Some x) (Some y))
earlier_assoc (Some x) (Some y) (Some z) = elim (less (fault_place x) (fault_place y)) [
  | inl a ↦ elim (less (fault_place y) (fault_place z)) [
    | inl b ↦ (let c : nat_lt (fault_place x) (fault_place z) ≡ true = lt-ltb (fault_place x) (fault_place z) (omega (arith, a.1, b.1)) in simp (a.0, b.0, c))
    | inr b ↦ simp (a.0, b.0)
  ]
  | inr a ↦ elim (less (fault_place y) (fault_place z)) [
    | inl b ↦ simp (a.0, b.0)
    | inr b ↦ (let c : nat_lt (fault_place x) (fault_place z) ≡ false = le-ltb (fault_place x) (fault_place z) (omega (arith, a.1, b.1)) in simp (a.0, b.0, c))
  ]
]

pub least_append : (r : Reading) (xs ys : List FormulaElement) → least r (xs ++ ys) ≡ earlier (least r xs) (least r ys)
unfolding least
least_append r [] ys = refl
least_append r (x ∷ xs) ys = ap (earlier (bad_element r x)) (least_append r xs ys) ∙ sym (earlier_assoc (bad_element r x) (least r xs) (least r ys))

pub least_one : (r : Reading) (n : FormulaElement) → least r (n ∷ []) ≡ bad_element r n
unfolding least
least_one r n = earlier_none (bad_element r n)

-- a bad place from lo on and below hi
abbrev pub Between : ℕ → Option FormulaFault → ℕ → Type 0
Between lo None hi = Unit {0}
Between lo (Some x) hi = (lo ≤ fault_place x) × (fault_place x < hi)

in_order : (lo m hi : ℕ) (x y : Option FormulaFault) → Between lo x m → Between m y hi → earlier x y ≡ or_else x y
in_order lo m hi None y p q = refl
in_order lo m hi (Some x) None p q = refl
in_order lo m hi (Some x) (Some y) p q = ap (λ b. cond b (Some x) (Some y)) (lt-ltb (fault_place x) (fault_place y) (omega (arith, p, q)))

out_of_order : (lo m hi : ℕ) (x y : Option FormulaFault) → Between lo x m → Between m y hi → earlier y x ≡ or_else x y
out_of_order lo m hi None y p q = earlier_none y
out_of_order lo m hi (Some x) None p q = refl
out_of_order lo m hi (Some x) (Some y) p q = ap (λ b. cond b (Some y) (Some x)) (le-ltb (fault_place y) (fault_place x) (omega (arith, p, q)))

wider : (lo m hi : ℕ) (x y : Option FormulaFault) → lo ≤ m → m ≤ hi → Between lo x m → Between m y hi → Between lo (or_else x y) hi
wider lo m hi None None a b p q = tt
wider lo m hi None (Some y) a b p q = (omega (arith, a, q), q.1)
wider lo m hi (Some x) y a b p q = (p.0, omega (arith, b, p))

name_between : (r : Reading) (p : ℕ) → Between p (bad_name r p) (p + 1)
name_between r p = go (is_some (r.party p))
  where
    go : (b : Bool) → Between p (cond b None (Some (UnknownName p))) (p + 1)
    go true = tt
    go false = (omega arith, omega arith)

count_between : (r : Reading) (n k : ℕ) → Between n (bad_count r n k) (n + 1)
count_between r n k = go (nat_le 1 (r.number n) && nat_le (r.number n) k)
  where
    go : (b : Bool) → Between n (cond b None (Some (BadCount n))) (n + 1)
    go true = tt
    go false = (omega arith, omega arith)

lower : (lo m hi : ℕ) (x : Option FormulaFault) → lo ≤ m → Between m x hi → Between lo x hi
lower lo m hi None a p = tt
lower lo m hi (Some x) a p = (omega (arith, a, p), p.1)

raise : (lo m hi : ℕ) (x : Option FormulaFault) → m ≤ hi → Between lo x m → Between lo x hi
raise lo m hi None a p = tt
raise lo m hi (Some x) a p = (p.0, omega (arith, a, p))

rises_le : (lo : ℕ) (ts : List FormulaToken) (hi : ℕ) → Rises lo ts hi → lo ≤ hi
rises_le lo [] hi r = r
rises_le lo (tokens.Name p ∷ ts) hi r = omega (arith, r.0, rises_le (p + 1) ts hi r.1)
rises_le lo (tokens.Number n ∷ ts) hi r = omega (arith, r.0, rises_le (n + 1) ts hi r.1)
rises_le lo (tokens.Of ∷ ts) hi r = rises_le lo ts hi r
rises_le lo (tokens.Bar ∷ ts) hi r = rises_le lo ts hi r
rises_le lo (tokens.Ampersand ∷ ts) hi r = rises_le lo ts hi r
rises_le lo (tokens.Open ∷ ts) hi r = rises_le lo ts hi r
rises_le lo (tokens.Close ∷ ts) hi r = rises_le lo ts hi r
rises_le lo (tokens.Comma ∷ ts) hi r = rises_le lo ts hi r
rises_le lo (tokens.Unknown ∷ ts) hi r = rises_le lo ts hi r

rises_split : (lo : ℕ) (xs ys : List FormulaToken) (hi : ℕ) → Rises lo (xs ++ ys) hi → (m : ℕ) × Rises lo xs m × Rises m ys hi
rises_split lo [] ys hi r = (lo, omega arith, r)
rises_split lo (tokens.Name p ∷ ts) ys hi r = let h = rises_split (p + 1) ts ys hi r.1 in (h.0, (r.0, h.1), h.2)
rises_split lo (tokens.Number n ∷ ts) ys hi r = let h = rises_split (n + 1) ts ys hi r.1 in (h.0, (r.0, h.1), h.2)
rises_split lo (tokens.Of ∷ ts) ys hi r = rises_split lo ts ys hi r
rises_split lo (tokens.Bar ∷ ts) ys hi r = rises_split lo ts ys hi r
rises_split lo (tokens.Ampersand ∷ ts) ys hi r = rises_split lo ts ys hi r
rises_split lo (tokens.Open ∷ ts) ys hi r = rises_split lo ts ys hi r
rises_split lo (tokens.Close ∷ ts) ys hi r = rises_split lo ts ys hi r
rises_split lo (tokens.Comma ∷ ts) ys hi r = rises_split lo ts ys hi r
rises_split lo (tokens.Unknown ∷ ts) ys hi r = rises_split lo ts ys hi r

-- the least is the first, and lies between
abbrev pub Tells : Option FormulaFault → Option FormulaFault → ℕ → ℕ → Type 0
Tells found first lo hi = (found ≡ first) × Between lo first hi

joined_tells : (r : Reading) (xs ys : List FormulaElement) (n : FormulaElement) (a b : Option FormulaFault) (lo m hi : ℕ) → bad_element r n ≡ None → lo ≤ m → m ≤ hi → Tells (least r xs) a lo m → Tells (least r ys) b m hi → Tells (least r ((xs ++ ys) ++ (n ∷ []))) (or_else a b) lo hi
joined_tells r xs ys n a b lo m hi e p q (ea, ba) (eb, bb) = (
  least_append r (xs ++ ys) (n ∷ []) ∙ ap (earlier (least r (xs ++ ys))) (least_one r n ∙ e) ∙ earlier_none (least r (xs ++ ys)) ∙ least_append r xs ys ∙ ap₂ earlier ea eb ∙ in_order lo m hi a b ba bb,
  wider lo m hi a b p q ba bb,
)

mutual
  pub tells_expr : (r : Reading) (e : Expr) (lo hi : ℕ) → Rises lo (spell e) hi → Tells (least r (postfix (shape e))) (bad r (shape e)) lo hi
  tells_expr r (one_term t) lo hi up = tells_term r t lo hi up
  tells_expr r (or_term e t) lo hi up =
      let s = rises_split lo (spell e) (tokens.Bar ∷ spell_term t) hi up in
      joined_tells r (postfix (shape e)) (postfix (shape_term t)) Or (bad r (shape e)) (bad r (shape_term t)) lo s.0 hi refl (rises_le lo (spell e) s.0 s.1) (rises_le s.0 (spell_term t) hi s.2) (tells_expr r e lo s.0 s.1) (tells_term r t s.0 hi s.2)

  pub tells_term : (r : Reading) (t : Term) (lo hi : ℕ) → Rises lo (spell_term t) hi → Tells (least r (postfix (shape_term t))) (bad r (shape_term t)) lo hi
  tells_term r (one_factor f) lo hi up = tells_factor r f lo hi up
  tells_term r (and_factor t f) lo hi up =
      let s = rises_split lo (spell_term t) (tokens.Ampersand ∷ spell_factor f) hi up in
      joined_tells r (postfix (shape_term t)) (postfix (shape_factor f)) And (bad r (shape_term t)) (bad r (shape_factor f)) lo s.0 hi refl (rises_le lo (spell_term t) s.0 s.1) (rises_le s.0 (spell_factor f) hi s.2) (tells_term r t lo s.0 s.1) (tells_factor r f s.0 hi s.2)

  pub tells_factor : (r : Reading) (f : Factor) (lo hi : ℕ) → Rises lo (spell_factor f) hi → Tells (least r (postfix (shape_factor f))) (bad r (shape_factor f)) lo hi
  tells_factor r (named p) lo hi up = (least_one r (Name p), raise lo (p + 1) hi (bad_name r p) up.1 (lower lo p (p + 1) (bad_name r p) up.0 (name_between r p)))
  tells_factor r (grouped e) lo hi up =
      let s = rises_split lo (spell e) (tokens.Close ∷ []) hi up in
      let h = tells_expr r e lo s.0 s.1 in
      (h.0, raise lo s.0 hi (bad r (shape e)) s.2 h.1)
  tells_factor r (counted n ps) lo hi up =
      let s = rises_split (n + 1) (spell_parts ps) (tokens.Close ∷ []) hi up.1 in
      let h = tells_parts r ps (n + 1) s.0 s.1 in
      let after : n + 1 ≤ s.0 = rises_le (n + 1) (spell_parts ps) s.0 s.1 in
      let own : Between lo (bad_count r n (tree_count (shape_parts ps))) (n + 1) = lower lo n (n + 1) (bad_count r n (tree_count (shape_parts ps))) up.0 (count_between r n (tree_count (shape_parts ps))) in (
        least_append r (postfix_all (shape_parts ps)) (AtLeast n (tree_count (shape_parts ps)) ∷ []) ∙ ap₂ earlier h.0 (least_one r (AtLeast n (tree_count (shape_parts ps))))
            ∙ out_of_order lo (n + 1) s.0 (bad_count r n (tree_count (shape_parts ps))) (some_bad r (shape_parts ps)) own h.1,
        wider lo (n + 1) hi (bad_count r n (tree_count (shape_parts ps))) (some_bad r (shape_parts ps)) (omega (arith, up.0)) (omega (arith, after, s.2)) own (raise (n + 1) s.0 hi (some_bad r (shape_parts ps)) s.2 h.1),
      )

  pub tells_parts : (r : Reading) (ps : Parts) (lo hi : ℕ) → Rises lo (spell_parts ps) hi → Tells (least r (postfix_all (shape_parts ps))) (some_bad r (shape_parts ps)) lo hi
  tells_parts r (one_part e) lo hi up = tells_expr r e lo hi up
  tells_parts r (more_parts ps e) lo hi up =
      let s = rises_split lo (spell_parts ps) (tokens.Comma ∷ spell e) hi up in
      let a = tells_parts r ps lo s.0 s.1 in
      let b = tells_expr r e s.0 hi s.2 in (
        least_append r (postfix_all (shape_parts ps)) (postfix (shape e)) ∙ ap₂ earlier a.0 b.0 ∙ in_order lo s.0 hi (some_bad r (shape_parts ps)) (bad r (shape e)) a.1 b.1,
        wider lo s.0 hi (some_bad r (shape_parts ps)) (bad r (shape e)) (rises_le lo (spell_parts ps) s.0 s.1) (rises_le s.0 (spell e) hi s.2) a.1 b.1,
      )

-- a name and a number stand at their places
abbrev pub StandsAt : FormulaToken → ℕ → Type 0
StandsAt (tokens.Name p) at = p ≡ at
StandsAt (tokens.Number p) at = p ≡ at
StandsAt _ at = Unit {0}

rises_from : (lo m : ℕ) (ts : List FormulaToken) (hi : ℕ) → lo ≤ m → Rises m ts hi → Rises lo ts hi
rises_from lo m [] hi l up = omega (arith, l, up)
rises_from lo m (tokens.Name p ∷ ts) hi l up = (omega (arith, l, up.0), up.1)
rises_from lo m (tokens.Number p ∷ ts) hi l up = (omega (arith, l, up.0), up.1)
rises_from lo m (tokens.Of ∷ ts) hi l up = rises_from lo m ts hi l up
rises_from lo m (tokens.Bar ∷ ts) hi l up = rises_from lo m ts hi l up
rises_from lo m (tokens.Ampersand ∷ ts) hi l up = rises_from lo m ts hi l up
rises_from lo m (tokens.Open ∷ ts) hi l up = rises_from lo m ts hi l up
rises_from lo m (tokens.Close ∷ ts) hi l up = rises_from lo m ts hi l up
rises_from lo m (tokens.Comma ∷ ts) hi l up = rises_from lo m ts hi l up
rises_from lo m (tokens.Unknown ∷ ts) hi l up = rises_from lo m ts hi l up

rises_more : (at : ℕ) (t : FormulaToken) (ts : List FormulaToken) (hi : ℕ) → StandsAt t at → Rises (at + 1) ts hi → Rises at (t ∷ ts) hi
rises_more at (tokens.Name p) ts hi e up = (omega (arith, e), rises_from (p + 1) (at + 1) ts hi (omega (arith, e)) up)
rises_more at (tokens.Number p) ts hi e up = (omega (arith, e), rises_from (p + 1) (at + 1) ts hi (omega (arith, e)) up)
rises_more at tokens.Of ts hi e up = rises_from at (at + 1) ts hi (omega arith) up
rises_more at tokens.Bar ts hi e up = rises_from at (at + 1) ts hi (omega arith) up
rises_more at tokens.Ampersand ts hi e up = rises_from at (at + 1) ts hi (omega arith) up
rises_more at tokens.Open ts hi e up = rises_from at (at + 1) ts hi (omega arith) up
rises_more at tokens.Close ts hi e up = rises_from at (at + 1) ts hi (omega arith) up
rises_more at tokens.Comma ts hi e up = rises_from at (at + 1) ts hi (omega arith) up
rises_more at tokens.Unknown ts hi e up = rises_from at (at + 1) ts hi (omega arith) up

choose : (b : Bool) (t u : FormulaToken) (at : ℕ) → StandsAt t at → StandsAt u at → StandsAt (cond b t u) at
choose true t u at p q = p
choose false t u at p q = q

symbol_stands : (c at : ℕ) → StandsAt (symbol c) at
symbol_stands c at =
    choose (nat_eq c 124) tokens.Bar _ at tt (choose (nat_eq c 38) tokens.Ampersand _ at tt (choose (nat_eq c 40) tokens.Open _ at tt (choose (nat_eq c 41) tokens.Close _ at tt
    (choose (nat_eq c 44) tokens.Comma tokens.Unknown at tt tt))))

token_stands : (at c : ℕ) (cs : List ℕ) → StandsAt (token_at formula_language at (c ∷ cs)) at
token_stands at c cs =
    choose (is_ascii_alphabetic c) (word_token at (take_while is_word_byte (c ∷ cs))) _ at (choose (bytes_eq (take_while is_word_byte (c ∷ cs)) (codes "of")) tokens.Of (tokens.Name at) at tt refl)
    (choose (is_ascii_digit c) (tokens.Number at) (symbol c) at refl (symbol_stands c at))

rises_at : (at : ℕ) (r : ℕ → Bool) (c : ℕ) (cs : List ℕ) (hi : ℕ) (goes blank : Bool) → ((run : ℕ → Bool) → Rises (at + 1) (bare (tokens_from formula_language (at + 1) run cs)) hi)
    → Rises at (bare (cond goes (tokens_from formula_language (at + 1) r cs) (cond blank (tokens_from formula_language (at + 1) is_blank cs) (record { at = at; token = token_at formula_language at (c ∷ cs) } ∷ tokens_from formula_language (at + 1) (run_begun formula_language c) cs)))) hi
rises_at at r c cs hi true blank h = rises_from at (at + 1) (bare (tokens_from formula_language (at + 1) r cs)) hi (omega arith) (h r)
rises_at at r c cs hi false true h = rises_from at (at + 1) (bare (tokens_from formula_language (at + 1) is_blank cs)) hi (omega arith) (h is_blank)
rises_at at r c cs hi false false h = rises_more at (token_at formula_language at (c ∷ cs)) (bare (tokens_from formula_language (at + 1) (run_begun formula_language c) cs)) hi (token_stands at c cs) (h (run_begun formula_language c))

pub rises : (at : ℕ) (r : ℕ → Bool) (cs : List ℕ) (hi : ℕ) → at + length cs ≤ hi → Rises at (bare (tokens_from formula_language at r cs)) hi
rises at r [] hi l = omega arith
rises at r (c ∷ cs) hi l = rises_at at r c cs hi (r c) (is_blank c) (λ run. rises (at + 1) run cs hi (omega arith))
