-- The steps of building a circuit.
use Rattle.std.proofs.Common.{◌≡◌, ℕ, zero, suc, ◌+◌, ◌<◌, ◌≤◌, inl, inr, Bool, true, false, ◌||◌, cond, nat_lt, List, [], ◌∷◌, ◌++◌, length, map, take, drop, get_or, replicate, Option, Some, None, Result, Ok, Err, refl, sym, ◌∙◌, ap, ap₂, subst, arith, length-append}
use Rattle.std.proofs.lemmas.List.{take-append-le, length-map}
use Rattle.std.proofs.lemmas.Bool.{lt-ltb, le-ltb}
use Rattle.list_laws.proofs.Tests.{or_true}
use Rattle.circuit_model.proofs.SetWires.{lt_or_not}
use Rattle.expr_circuit.specs.declared.fault.ExprFault.{ExprFault}
use Rattle.expr_circuit.specs.declared.fault.ExprFault.TheVariants.{NotUtf8, Syntax, UnknownName, BadConstant, TooDeep, TwiceNamed, TooLarge, Memory}
use Rattle.line_grammar.specs.declared.element.ExprElement.{ExprElement}
use Rattle.line_grammar.specs.declared.element.ExprElement.TheVariants.{Number}
use Rattle.circuit_model.specs.declared.gate.Operation.TheVariants.{Eq}
use Rattle.line_grammar.specs.Places.{number_at}
use Rattle.expr_circuit.specs.declared.wire.Wire.{Wire}
use Rattle.expr_circuit.specs.declared.wire.DraftGate.{DraftGate}
use Rattle.expr_circuit.specs.Circuits.{Built, Draft, no_wire, add, copy, all_gates, assembled, netlist, is_large}
use Rattle.expr_circuit.specs.Walks.{Walk, put, top, element_in, elements_in, expression_in, netlist_in}
use Rattle.list_laws.specs.Answers.{◌>>=◌}
use Rattle.expr_circuit.specs.Kept.{Kept, kept, Fails, Builds, Wires, Moves}
use Rattle.expr_circuit.proofs.Netlists.{long_gates, long_ones}

take_past : {A : Type 0} (k : ℕ) (xs : List A) → length xs ≤ k → take k xs ≡ xs
take_past zero [] l = refl
take_past zero (x ∷ xs) l = absurd (omega arith)
take_past (suc k) [] l = refl
take_past (suc k) (x ∷ xs) l = ap (λ ys. x ∷ ys) (take_past k xs (omega arith))

-- what is kept of one more
take_push : {A : Type 0} (k : ℕ) (xs : List A) (x : A) → cond (nat_lt (length xs) k) (take k xs ++ (x ∷ [])) (take k xs) ≡ take k (xs ++ (x ∷ []))
take_push k xs x = elim (lt_or_not (length xs) k) [
  | inl less ↦ ap (λ b. cond b (take k xs ++ (x ∷ [])) (take k xs)) (lt-ltb (length xs) k less) ∙ ap (λ ys. ys ++ (x ∷ [])) (take_past k xs (omega arith))
      ∙ sym (take_past k (xs ++ (x ∷ [])) (omega (arith, less, length-append xs (x ∷ []))))
  | inr more ↦ ap (λ b. cond b (take k xs ++ (x ∷ [])) (take k xs)) (le-ltb (length xs) k more) ∙ sym (take-append-le k xs (x ∷ []) more)
]

-- a gate more is kept
pub gate_kept : (d : Draft) (s : DraftGate) → record (kept d) { drafted = cond (nat_lt (length d.gates) 65536) (take 65536 d.gates ++ (s ∷ [])) (take 65536 d.gates); gates = length d.gates + 1 } ≡ kept (record d { gates = d.gates ++ (s ∷ []) })
gate_kept d s = ap₂ (λ xs n. record (kept d) { drafted = xs; gates = n }) (take_push 65536 d.gates s) (sym (length-append d.gates (s ∷ [])))

-- an output more is kept
pub output_kept : (d : Draft) (w : Wire) → record (kept d) { outputs = cond (nat_lt (length d.outputs) 1024) (take 1024 d.outputs ++ (w ∷ [])) (take 1024 d.outputs); results = length d.outputs + 1 } ≡ kept (record d { outputs = d.outputs ++ (w ∷ []) })
output_kept d w = ap₂ (λ xs n. record (kept d) { outputs = xs; results = n }) (take_push 1024 d.outputs w) (sym (length-append d.outputs (w ∷ [])))

large_is : (bits : ℕ) (d : Draft) → is_large (netlist bits d)
    ≡ ((nat_lt 65536 (length d.gates + length d.outputs) || nat_lt 131072 (d.inputs + (length d.gates + length d.outputs))) || (nat_lt 1024 d.inputs || nat_lt 1024 (length d.outputs)))
unfolding netlist
large_is bits d =
    let total : length (all_gates d) ≡ length d.gates + length d.outputs = length-append d.gates (map copy d.outputs) ∙ ap (λ k. length d.gates + k) (length-map d.outputs copy) in
    ap₂ (λ a b. (nat_lt 65536 a || nat_lt 131072 (d.inputs + b)) || (nat_lt 1024 (length {A = ℕ} (replicate d.inputs 1)) || nat_lt 1024 (length {A = ℕ} (replicate (length d.outputs) 1)))) (long_gates d.inputs 0 (all_gates d) ∙ total) total
    ∙ ap₂ (λ i r. (nat_lt 65536 (length d.gates + length d.outputs) || nat_lt 131072 (d.inputs + (length d.gates + length d.outputs))) || (nat_lt 1024 i || nat_lt 1024 r)) (long_ones d.inputs) (long_ones (length d.outputs))

large_answer : (bits : ℕ) (d : Draft) → is_large (netlist bits d) ≡ true → netlist_in bits d ≡ Err TooLarge
large_answer bits d e = ap (λ b. cond b (Err TooLarge) (Ok (netlist bits d))) e

or_first : (a b c : Bool) → a ≡ true → ((a || b) || c) ≡ true
or_first a b c e = ap (λ x. (x || b) || c) e

or_last : (a b c : Bool) → b ≡ true → (a || (c || b)) ≡ true
or_last a b c e = ap (λ x. a || (c || x)) e ∙ ap (λ x. a || x) (or_true c) ∙ or_true a

or_middle : (a b c : Bool) → b ≡ true → (a || (b || c)) ≡ true
or_middle a b c e = ap (λ x. a || (x || c)) e ∙ or_true a

-- the answer where a limit is passed
pub inputs_large : (bits : ℕ) (d : Draft) → 1024 < d.inputs → netlist_in bits d ≡ Err TooLarge
inputs_large bits d l = large_answer bits d (large_is bits d ∙ or_middle (nat_lt 65536 (length d.gates + length d.outputs) || nat_lt 131072 (d.inputs + (length d.gates + length d.outputs))) (nat_lt 1024 d.inputs) (nat_lt 1024 (length d.outputs)) (lt-ltb 1024 d.inputs l))

pub results_large : (bits : ℕ) (d : Draft) → 1024 < length d.outputs → netlist_in bits d ≡ Err TooLarge
results_large bits d l = large_answer bits d (large_is bits d ∙ or_last (nat_lt 65536 (length d.gates + length d.outputs) || nat_lt 131072 (d.inputs + (length d.gates + length d.outputs))) (nat_lt 1024 (length d.outputs)) (nat_lt 1024 d.inputs) (lt-ltb 1024 (length d.outputs) l))

pub gates_large : (bits : ℕ) (d : Draft) → 65536 < length d.gates + length d.outputs → netlist_in bits d ≡ Err TooLarge
gates_large bits d l = large_answer bits d (large_is bits d ∙ or_first (nat_lt 65536 (length d.gates + length d.outputs)) (nat_lt 131072 (d.inputs + (length d.gates + length d.outputs))) (nat_lt 1024 d.inputs || nat_lt 1024 (length d.outputs)) (lt-ltb 65536 (length d.gates + length d.outputs) l))

none_of : (a b x y : Bool) → a ≡ false → b ≡ false → x ≡ false → y ≡ false → ((a || b) || (x || y)) ≡ false
none_of a b x y ea eb ex ey = ap₂ (λ u v. (u || v) || (x || y)) ea eb ∙ ap₂ (λ u v. u || v) ex ey

-- none is
pub small_is : (bits : ℕ) (d : Draft) → d.inputs ≤ 1024 → length d.outputs ≤ 1024 → length d.gates + length d.outputs ≤ 65536 → is_large (netlist bits d) ≡ false
small_is bits d i r t =
    large_is bits d ∙ none_of (nat_lt 65536 (length d.gates + length d.outputs)) (nat_lt 131072 (d.inputs + (length d.gates + length d.outputs))) (nat_lt 1024 d.inputs) (nat_lt 1024 (length d.outputs))
    (le-ltb 65536 (length d.gates + length d.outputs) t) (le-ltb 131072 (d.inputs + (length d.gates + length d.outputs)) (omega arith)) (le-ltb 1024 d.inputs i) (le-ltb 1024 (length d.outputs) r)

-- the answer where none is
pub small_answer : (bits : ℕ) (d : Draft) → is_large (netlist bits d) ≡ false → netlist_in bits d ≡ Ok (netlist bits d)
small_answer bits d small = ap (λ b. cond b (Err TooLarge) (Ok (netlist bits d))) small

-- what is kept is all, within the limits
pub all_drafted : (d : Draft) → length d.gates ≤ 65536 → (kept d).drafted ≡ d.gates
all_drafted d l = take_past 65536 d.gates l

pub all_outputs : (d : Draft) → length d.outputs ≤ 1024 → (kept d).outputs ≡ d.outputs
all_outputs d l = take_past 1024 d.outputs l

-- the circuit of what is kept, within the limits
pub assembled_is : (bits : ℕ) (d : Draft) (old : Kept) (drafted : List DraftGate) (outputs : ℕ) → old ≡ kept d → old.inputs ≤ 1024 → old.results ≤ 1024 → old.gates + old.results ≤ 65536 → drafted ≡ old.drafted ++ map copy old.outputs → outputs ≡ length old.outputs
    → (is_large (netlist bits d) ≡ false) × (assembled bits old.inputs drafted outputs ≡ netlist bits d)
unfolding netlist
assembled_is bits d old drafted outputs is i r t es eo =
    let inputs : old.inputs ≡ d.inputs = ap (λ (k : Kept). k.inputs) is in
    let results : old.results ≡ length d.outputs = ap (λ (k : Kept). k.results) is in
    let gates : old.gates ≡ length d.gates = ap (λ (k : Kept). k.gates) is in
    let wires : old.outputs ≡ d.outputs = ap (λ (k : Kept). k.outputs) is ∙ all_outputs d (omega (arith, results, r)) in
    let all : drafted ≡ all_gates d = es ∙ ap₂ (λ xs ws. xs ++ map copy ws) (ap (λ (k : Kept). k.drafted) is ∙ all_drafted d (omega (arith, gates, t))) wires in (
      small_is bits d (omega (arith, inputs, i)) (omega (arith, results, r)) (omega (arith, gates, results, t)),
      ap₂ (λ n ss. assembled bits n ss outputs) inputs all ∙ ap (assembled bits d.inputs (all_gates d)) (eo ∙ ap length wires),
    )

pub gate_added : (d : Draft) (s : DraftGate) (old mid new : Kept) → old ≡ kept d → mid ≡ record old { drafted = cond (nat_lt old.gates 65536) (old.drafted ++ (s ∷ [])) old.drafted } → new ≡ record mid { gates = mid.gates + 1 }
    → new ≡ kept (record d { gates = d.gates ++ (s ∷ []) })
gate_added d s old mid new is m n =
    n ∙ ap (λ (x : Kept). record x { gates = x.gates + 1 }) m
    ∙ ap (λ (o : Kept). record o { drafted = cond (nat_lt o.gates 65536) (o.drafted ++ (s ∷ [])) o.drafted; gates = o.gates + 1 }) is ∙ gate_kept d s

pub output_added : (d : Draft) (w : Wire) (old mid new : Kept) → old ≡ kept d → mid ≡ record old { outputs = cond (nat_lt old.results 1024) (old.outputs ++ (w ∷ [])) old.outputs } → new ≡ record mid { results = mid.results + 1 }
    → new ≡ kept (record d { outputs = d.outputs ++ (w ∷ []) })
output_added d w old mid new is m n =
    n ∙ ap (λ (x : Kept). record x { results = x.results + 1 }) m
    ∙ ap (λ (o : Kept). record o { outputs = cond (nat_lt o.results 1024) (o.outputs ++ (w ∷ [])) o.outputs; results = o.results + 1 }) is ∙ output_kept d w

-- a fault that goes on
pub fails_on : {A B : Type 0} (f : ExprFault) (x : Result A ExprFault) (y : Result B ExprFault) → ((g : ExprFault) → x ≡ Err g → y ≡ Err g) → Fails f x → Fails f y
fails_on Memory x y h e = tt
fails_on (NotUtf8 at) x y h e = h (NotUtf8 at) e
fails_on (Syntax line at) x y h e = h (Syntax line at) e
fails_on (UnknownName line at) x y h e = h (UnknownName line at) e
fails_on (BadConstant line at) x y h e = h (BadConstant line at) e
fails_on (TooDeep line at) x y h e = h (TooDeep line at) e
fails_on (TwiceNamed line) x y h e = h (TwiceNamed line) e
fails_on TooLarge x y h e = h TooLarge e

pub fails_then : {A B : Type 0} (f : ExprFault) (x : Result A ExprFault) (k : A → Result B ExprFault) → Fails f x → Fails f (x >>= k)
fails_then f x k = fails_on f x (x >>= k) (λ g e. ap (λ r. r >>= k) e)

pub fails_same : {A : Type 0} (f : ExprFault) (x y : Result A ExprFault) → y ≡ x → Fails f x → Fails f y
fails_same f x y same = fails_on f x y (λ g e. same ∙ e)

pub memory_fails : {A : Type 0} (f : ExprFault) (x : Result A ExprFault) → f ≡ Memory → Fails f x
memory_fails f x e = subst (λ (g : ExprFault). Fails g x) (sym e) tt

-- the element at a place is next
elements_left : (elements : List ExprElement) (i : ℕ) (element : ExprElement) → i < length elements → element ≡ get_or elements i element → drop i elements ≡ element ∷ drop (i + 1) elements
elements_left [] i element l e = absurd (omega arith)
elements_left (x ∷ elements) zero element l e = ap (λ y. y ∷ elements) (sym e)
elements_left (x ∷ elements) (suc i) element l e = elements_left elements i element (omega arith) e ∙ ap (λ k. element ∷ drop k (x ∷ elements)) (let k : suc (i + 1) ≡ suc i + 1 = omega arith in k)

pub element_done : (q : ℕ) (of : List ℕ → Option Wire) (n : ℕ) (line : List ℕ) (elements : List ExprElement) (i : ℕ) (element : ExprElement) (w next : Walk) (whole : Result Walk ExprFault) → i < length elements → element ≡ get_or elements i element
    → whole ≡ elements_in q of n line (drop i elements) w → element_in q of n line element w ≡ Ok next → whole ≡ elements_in q of n line (drop (i + 1) elements) next
element_done q of n line elements i element w next whole l e before goes =
    before ∙ ap (λ ns. elements_in q of n line ns w) (elements_left elements i element l e) ∙ ap (λ r. r >>= elements_in q of n line (drop (i + 1) elements)) goes

pub element_fails : (q : ℕ) (d : Draft) (n : ℕ) (line : List ℕ) (elements : List ExprElement) (i : ℕ) (element : ExprElement) (w : Walk) (f : ExprFault) → i < length elements → element ≡ get_or elements i element
    → elements_in q d.of n line elements (record { gates = d.gates; wires = [] }) ≡ elements_in q d.of n line (drop i elements) w → Fails f (element_in q d.of n line element w) → Fails f (expression_in q d n line elements)
unfolding expression_in
element_fails q d n line elements i element w f l e before h =
    fails_on f (element_in q d.of n line element w) (expression_in q d n line elements)
    (λ g x. ap (λ r. r >>= (λ w. Ok (record { gates = w.gates; wire = top w.wires })))
    (before ∙ ap (λ ns. elements_in q d.of n line ns w) (elements_left elements i element l e) ∙ ap (λ r. r >>= elements_in q d.of n line (drop (i + 1) elements)) x)) h

drop_past : (elements : List ExprElement) (i : ℕ) → length elements ≤ i → drop i elements ≡ []
drop_past [] zero l = refl
drop_past [] (suc i) l = refl
drop_past (x ∷ elements) zero l = absurd (omega arith)
drop_past (x ∷ elements) (suc i) l = drop_past elements i (omega arith)

pub elements_done : (q : ℕ) (d : Draft) (n : ℕ) (line : List ℕ) (elements : List ExprElement) (i : ℕ) (w : Walk) → length elements ≤ i → elements_in q d.of n line elements (record { gates = d.gates; wires = [] }) ≡ elements_in q d.of n line (drop i elements) w
    → expression_in q d n line elements ≡ Ok (record { gates = w.gates; wire = top w.wires })
unfolding expression_in
elements_done q d n line elements i w l before = ap (λ r. r >>= (λ w. Ok (record { gates = w.gates; wire = top w.wires }))) (before ∙ ap (λ ns. elements_in q d.of n line ns w) (drop_past elements i l))

-- a gate that was added is the element's
pub built_wires : (d : Draft) (b : Built) (r : Result Wire ExprFault) (new : Kept) (wires rest : List Wire) (wanted : Result Walk ExprFault) → wires ≡ rest → wanted ≡ Ok (put b rest) → Builds d b r new → Wires d r new wires wanted
built_wires d b (Ok w) new wires rest wanted same e h =
    (b.gates, e ∙ ap₂ (λ x ws. Ok (record { gates = b.gates; wires = x ∷ ws })) (sym h.0) (sym same), h.1)
built_wires d b (Err f) new wires rest wanted same e h = memory_fails f wanted h

number_wanted : (w : Walk) (n at v k : ℕ) (b : Bool) → cond b (Some v) None ≡ Some k → cond b (Ok (put (add w.gates Eq no_wire no_wire v) w.wires)) (Err (BadConstant n at)) ≡ Ok (put (add w.gates Eq no_wire no_wire k) w.wires)
number_wanted w n at v k true e = ap (λ x. Ok (put (add w.gates Eq no_wire no_wire x) w.wires)) (let s : v ≡ k = cc in s)
number_wanted w n at v k false e = cc

pub number_element : (q : ℕ) (of : List ℕ → Option Wire) (n : ℕ) (line : List ℕ) (at k : ℕ) (element : ExprElement) (w : Walk) (found : Option ℕ) → element ≡ Number at → found ≡ cond (nat_lt (number_at line at) q) (Some (number_at line at)) None → found ≡ Some k
    → element_in q of n line element w ≡ Ok (put (add w.gates Eq no_wire no_wire k) w.wires)
number_element q of n line at k element w found is f e =
    ap (λ x. element_in q of n line x w) is ∙ number_wanted w n at (number_at line at) k (nat_lt (number_at line at) q) (sym f ∙ e)

-- a wire that was pushed stands before those that wait
pub wires_moved : (d : Draft) (wire : Wire) (new : Kept) (wires after : List Wire) (wanted : Result Walk ExprFault) → Wires d (Ok wire) new wires wanted → after ≡ wire ∷ wires → Moves {A = Unit {0}} d (Ok tt) new after wanted
wires_moved d wire new wires after wanted h e = (record { gates = h.0; wires = wire ∷ wires }, h.1, h.2, e)

left_at : (elements : List ExprElement) (i : ℕ) (x : ExprElement) → i < length elements → drop i elements ≡ get_or elements i x ∷ drop (i + 1) elements
left_at [] i x l = absurd (omega arith)
left_at (y ∷ elements) zero x l = refl
left_at (y ∷ elements) (suc i) x l = left_at elements i x (omega arith) ∙ ap (λ k. get_or elements i x ∷ drop k (y ∷ elements)) (let k : suc (i + 1) ≡ suc i + 1 = omega arith in k)

-- a walk that goes on at element i
abbrev pub Walks : ℕ → Draft → ℕ → List ℕ → List ExprElement → ℕ → Walk → Type 0
Walks q d n line elements i w = elements_in q d.of n line elements (record { gates = d.gates; wires = [] }) ≡ elements_in q d.of n line (drop i elements) w

pub element_moves : (q : ℕ) (d : Draft) (n : ℕ) (line : List ℕ) (elements : List ExprElement) (i : ℕ) (x : ExprElement) (w : Walk) (new : Kept) (wires after : List Wire) (r : Result (Unit {0}) ExprFault) → i < length elements → Walks q d n line elements i w → wires ≡ w.wires → r ≡ Ok tt
    → Moves (record d { gates = w.gates }) r new after (element_in q d.of n line (get_or elements i x) (record { gates = w.gates; wires = wires }))
    → (v : Walk) × Walks q d n line elements (i + 1) v × (new ≡ kept (record d { gates = v.gates })) × (after ≡ v.wires)
element_moves q d n line elements i x w new wires after (Err f) l before same e h = cc
element_moves q d n line elements i x w new wires after (Ok u) l before same e h = (
  h.0,
  before ∙ ap (λ ns. elements_in q d.of n line ns w) (left_at elements i x l)
      ∙ ap (λ r. r >>= elements_in q d.of n line (drop (i + 1) elements)) (ap (λ ws. element_in q d.of n line (get_or elements i x) (record { gates = w.gates; wires = ws })) (sym same) ∙ h.1),
  h.2,
  h.3,
)

pub element_stops : (q : ℕ) (d : Draft) (n : ℕ) (line : List ℕ) (elements : List ExprElement) (i : ℕ) (x : ExprElement) (w : Walk) (new : Kept) (wires after : List Wire) (r : Result (Unit {0}) ExprFault) (f : ExprFault) → i < length elements → Walks q d n line elements i w → wires ≡ w.wires → r ≡ Err f
    → Moves (record d { gates = w.gates }) r new after (element_in q d.of n line (get_or elements i x) (record { gates = w.gates; wires = wires }))
    → Fails f (expression_in q d n line elements)
unfolding expression_in
element_stops q d n line elements i x w new wires after (Ok u) f l before same e h = cc
element_stops q d n line elements i x w new wires after (Err g) f l before same e h =
    subst (λ k. Fails k (expression_in q d n line elements)) (let s : g ≡ f = cc in s)
    (fails_on g (element_in q d.of n line (get_or elements i x) (record { gates = w.gates; wires = wires })) (expression_in q d n line elements)
    (λ k y. ap (λ r. r >>= (λ w. Ok (record { gates = w.gates; wire = top w.wires })))
    (before ∙ ap (λ ns. elements_in q d.of n line ns w) (left_at elements i x l)
    ∙ ap (λ r. r >>= elements_in q d.of n line (drop (i + 1) elements)) (ap (λ ws. element_in q d.of n line (get_or elements i x) (record { gates = w.gates; wires = ws })) (sym same) ∙ y))) h)
