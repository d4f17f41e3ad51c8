-- Which wires are set, and circuits with a gate more.
use Rattle.std.proofs.Common.{◌≡◌, ℕ, zero, suc, ◌+◌, ◌≤◌, ◌<◌, ◌⊎◌, inl, inr, Bool, true, false, ◌&&◌, ◌||◌, cond, List, [], ◌∷◌, ◌++◌, length, get_or, set, Option, Some, None, refl, sym, ◌∙◌, ap, subst, arith, nat_lt, get_or-set_other, get_or-set_same, take}
use Rattle.std.proofs.Math.ListN.{get_or-append, get_or-eq_default}
use Rattle.std.proofs.Math.Seq.{take-append_seam, get_or-append_seam}
use Rattle.std.proofs.lemmas.List.{take-append-le, length_push}
use Rattle.std.proofs.lemmas.List.Folds.{list_any-append}
use Rattle.std.specs.Prelude.{slice_index_or, ◌==◌}
use Rattle.std.specs.List.{find, range_with_len, list_any}
use Rattle.std.proofs.lemmas.Bool.Decides.{eqb_tells}
use Rattle.std.proofs.lemmas.Bool.{lt-ltb, le-ltb, ltb-true, ltb-false}
use Rattle.list_laws.proofs.Tests.{or_true, or_false}
use Rattle.circuit_model.specs.declared.gate.Gate.{Gate}
use Rattle.circuit_model.specs.Netlists.{Netlist, no_gate, is_set, GateFits, AllGatesFit}
use Rattle.circuit_model.specs.DraftSteps.{add_gate}

pub funext : {A B : Type 0} (f g : A → B) → ((x : A) → f x ≡ g x) → f ≡ g
funext f g h = λ i x. h x i

or_both : (a b c : Bool) → (a || (b || c)) ≡ ((a || b) || c)
or_both true b c = refl
or_both false b c = refl

pub lt_or_not : (a b : ℕ) → (a < b) ⊎ (b ≤ a)
lt_or_not a b = from_test (nat_lt a b) refl
  where
    from_test : (t : Bool) → nat_lt a b ≡ t → (a < b) ⊎ (b ≤ a)
    from_test true e = inl (ltb-true a b e)
    from_test false e = inr (ltb-false a b e)

-- a gate more sets its wire
pub set_next : (inputs : ℕ) (gs : List Gate) (g : Gate) (w : ℕ) → is_set inputs (gs ++ (g ∷ [])) w ≡ (is_set inputs gs w || (g.output == w))
set_next inputs gs g w =
    ap (λ b. nat_lt w inputs || b) (list_any-append (λ (h : Gate). h.output == w) gs (g ∷ []) ∙ ap (λ b. list_any (λ (h : Gate). h.output == w) gs || b) (or_false (g.output == w)))
    ∙ or_both (nat_lt w inputs) (list_any (λ (h : Gate). h.output == w) gs) (g.output == w)

pub told_next : (inputs : ℕ) (gs : List Gate) (g : Gate) (xs : List Bool) → g.output < length xs
    → ((w : ℕ) → slice_index_or xs w false ≡ is_set inputs gs w) → (w : ℕ) → slice_index_or (set xs g.output true) w false ≡ is_set inputs (gs ++ (g ∷ [])) w
told_next inputs gs g xs below h w = elim (eqb_tells g.output w) [
  | inl same ↦ ap (λ k. get_or (set xs g.output true) k false) (sym same.1)
      ∙ get_or-set_same xs g.output true false below
      ∙ sym (set_next inputs gs g w ∙ ap (λ b. is_set inputs gs w || b) same.0 ∙ or_true (is_set inputs gs w))
  | inr other ↦ get_or-set_other xs g.output w true false (λ e. other.1 (sym e)) ∙ h w
      ∙ sym (set_next inputs gs g w ∙ ap (λ b. is_set inputs gs w || b) other.0 ∙ or_false (is_set inputs gs w))
]

-- the first wires are set before the first gate
pub told_pushed : (xs : List Bool) (n inputs : ℕ) → length xs ≡ n → ((w : ℕ) → slice_index_or xs w false ≡ (nat_lt w n && nat_lt w inputs))
    → (w : ℕ) → slice_index_or (xs ++ (nat_lt n inputs ∷ [])) w false ≡ (nat_lt w (n + 1) && nat_lt w inputs)
told_pushed xs n inputs long h w = elim (lt_or_not w n) [
  | inl less ↦ get_or-append xs (nat_lt n inputs ∷ []) false w (omega arith) ∙ h w
      ∙ ap (λ b. b && nat_lt w inputs) (lt-ltb w n less ∙ sym (lt-ltb w (n + 1) (omega arith)))
  | inr more ↦ elim (eqb_tells w n) [
    | inl same ↦ ap (λ k. get_or (xs ++ (nat_lt n inputs ∷ [])) k false) (same.1 ∙ sym long) ∙ get_or-append_seam xs (nat_lt n inputs) [] false
        ∙ sym (ap (λ b. b && nat_lt w inputs) (lt-ltb w (n + 1) (omega (arith, same.1))) ∙ ap (λ k. nat_lt k inputs) same.1)
    | inr other ↦ get_or-eq_default (xs ++ (nat_lt n inputs ∷ [])) false (omega (arith, more, other.1, length_push xs (nat_lt n inputs)))
        ∙ sym (ap (λ b. b && nat_lt w inputs) (le-ltb w (n + 1) (omega (arith, more, other.1))))
  ]
]

pub told_first : (xs : List Bool) (wires inputs : ℕ) → inputs ≤ wires → ((w : ℕ) → slice_index_or xs w false ≡ (nat_lt w wires && nat_lt w inputs))
    → (w : ℕ) → slice_index_or xs w false ≡ is_set inputs [] w
told_first xs wires inputs l h w = h w ∙ elim (lt_or_not w inputs) [
  | inl less ↦ ap (λ b. b && nat_lt w inputs) (lt-ltb w wires (omega (arith, l, less))) ∙ sym (or_false (nat_lt w inputs))
  | inr more ↦ and_false (nat_lt w wires) (nat_lt w inputs) (le-ltb w inputs more) ∙ sym (or_false (nat_lt w inputs) ∙ le-ltb w inputs more)
]
  where
    and_false : (a b : Bool) → b ≡ false → (a && b) ≡ false
    and_false true b e = e
    and_false false b e = refl

-- ---- a gate more

again : (c : Netlist) (before : List Gate) (g h : Gate) → GateFits c before g → GateFits (add_gate c h) before g
again c before g h f = record { plain = f.plain; constant = f.constant; below = f.below; output = f.output; read = f.read; fresh = f.fresh }

pub all_fit_next : (c : Netlist) (g : Gate) → AllGatesFit c → GateFits c c.gates g → AllGatesFit (add_gate c g)
all_fit_next c g v f t l = elim (eqb_tells t (length c.gates)) [
  | inl same ↦ subst (λ (k : ℕ). GateFits (add_gate c g) (take k (c.gates ++ (g ∷ []))) (get_or (c.gates ++ (g ∷ [])) k no_gate)) (sym same.1)
      (rw (take-append_seam c.gates (g ∷ []), get_or-append_seam c.gates g [] no_gate) (again c c.gates g g f))
  | inr other ↦ (let less : t < length c.gates = omega (arith, other.1, l, length_push c.gates g) in
      let early : take t (c.gates ++ (g ∷ [])) ≡ take t c.gates = take-append-le t c.gates (g ∷ []) (omega arith) in
      let at : get_or (c.gates ++ (g ∷ [])) t no_gate ≡ get_or c.gates t no_gate = get_or-append c.gates (g ∷ []) no_gate t less in
      rw (early, at) (again c (take t c.gates) (get_or c.gates t no_gate) g (v t less)))
]

-- ---- the first wire that isn't set

pub find_next : (p : ℕ → Bool) (a n m : ℕ) → n ≡ suc m → p a ≡ false → find p (range_with_len a n) ≡ find p (range_with_len (a + 1) m)
find_next p a n m e fails = ap (λ k. find p (range_with_len a k)) e ∙ ap (λ b. cond b (Some a) (find p (range_with_len (a + 1) m))) fails

pub find_here : (p : ℕ → Bool) (a n m : ℕ) → n ≡ suc m → p a ≡ true → find p (range_with_len a n) ≡ Some a
find_here p a n m e passes = ap (λ k. find p (range_with_len a k)) e ∙ ap (λ b. cond b (Some a) (find p (range_with_len (a + 1) m))) passes

pub find_end : (p : ℕ → Bool) (a n : ℕ) → n ≡ 0 → find p (range_with_len a n) ≡ None
find_end p a n e = ap (λ k. find p (range_with_len a k)) e

-- none is found: none passes
pub none_found : (p : ℕ → Bool) (a n w : ℕ) → find p (range_with_len a n) ≡ None → a ≤ w → w < a + n → p w ≡ false
none_found p a zero w e l h = absurd (omega (arith, l, h))
none_found p a (suc n) w e l h = elim (eqb_tells w a) [
  | inl same ↦ ap p same.1 ∙ (first (p a) (find p (range_with_len (a + 1) n)) e).0
  | inr other ↦ none_found p (a + 1) n w (first (p a) (find p (range_with_len (a + 1) n)) e).1 (omega (arith, l, other.1)) (omega (arith, h))
]
  where
    first : (b : Bool) (r : Option ℕ) → cond b (Some a) r ≡ None → (b ≡ false) × (r ≡ None)
    first true r e = cc
    first false r e = (refl, e)
