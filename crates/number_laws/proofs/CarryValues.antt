-- The values of carries.
use Rattle.std.proofs.Common.{◌≡◌, ℕ, zero, suc, ◌+◌, ◌-◌, ◌/◌, ◌<◌, ◌≤◌, inl, inr, Bool, true, false, ◌&&◌, List, [], ◌∷◌, ◌++◌, length, map, replicate, take, drop, get_or, min, refl, sym, ◌∙◌, ap, ap₂, arith, length-append}
use Rattle.std.proofs.lemmas.Bool.{cases_lt}
use Rattle.std.proofs.lemmas.List.{length-take, length-drop, length-replicate}
use Rattle.binary_numbers.specs.Numbers.{unequal, zipped}
use Rattle.binary_numbers.specs.Carries.{next, carry_out, carries, every}
use Rattle.binary_numbers.proofs.Carrying.{next_next, carry_split, carries_split}
use Rattle.binary_numbers.proofs.Scanning.{last_or, last_at, last_carries, last_zipped, zipped_append, zipped_long, map_long, zipped_over, through}
use Rattle.number_gates.specs.declared.wire.Wire.{Wire}
use Rattle.number_gates.specs.declared.wire.Bit.{Bit}
use Rattle.number_gates.specs.declared.wire.Bit.TheVariants.{Zero, One}
use Rattle.number_gates.specs.declared.carries.Carry.{Carry}
use Rattle.number_gates.specs.declared.gates.Joint.TheVariants.{Differ}
use Rattle.number_gates.specs.Steps.{done, ◌>>=◌}
use Rattle.number_gates.specs.BitGates.{both, differ}
use Rattle.number_gates.specs.BitLists.{join_all, both_each}
use Rattle.number_gates.specs.Carries.{Carriers, first_carry, over, total, over_all, scan, all}
use Rattle.number_gates.proofs.CarrySteps.{total_small, total_more, scan_small, scan_more}
use Rattle.number_laws.specs.Values.{bit, bits, Computes}
use Rattle.number_laws.proofs.Making.{makes_then, makes_so, makes_done, makes_along}
use Rattle.number_laws.proofs.BitValues.{both_makes, differ_makes, join_all_makes, both_each_makes, bits_take, bits_drop, bits_long, bits_append, bits_zeros, bit_at}

-- what is known of a carry over low and high positions
abbrev pub IsOver : (Wire → Bool) → Carry → Carry → Carry → Type 0
IsOver on low high t = (c : Bool) → next c (bit on t.generate) (bit on t.propagate) ≡ next (next c (bit on low.generate) (bit on low.propagate)) (bit on high.generate) (bit on high.propagate)

over_makes : (on : Wire → Bool) (low high : Carry) → Computes on (over low high) (IsOver on low high)
over_makes on low high =
    makes_then (λ passed. differ high.generate passed >>= (λ g. both high.propagate low.propagate >>= (λ p. done (record { generate = g; propagate = p })))) (IsOver on low high)
    (both_makes on high.propagate low.generate)
    (λ passed ep. makes_then (λ g. both high.propagate low.propagate >>= (λ p. done (record { generate = g; propagate = p }))) (IsOver on low high)
    (differ_makes on high.generate passed)
    (λ g eg. makes_then (λ p. done (record { generate = g; propagate = p })) (IsOver on low high)
    (both_makes on high.propagate low.propagate)
    (λ p e. makes_done (record { generate = g; propagate = p }) (IsOver on low high)
    (λ c. ap₂ (next c) (eg ∙ ap (unequal (bit on high.generate)) ep) e ∙ next_next c (bit on low.generate) (bit on low.propagate) (bit on high.generate) (bit on high.propagate)))))

-- what all positions together make of a carry
abbrev pub IsTotal : (Wire → Bool) → List Bit → List Bit → Carry → Type 0
IsTotal on g p t = (c : Bool) → next c (bit on t.generate) (bit on t.propagate) ≡ carry_out c (bits on g) (bits on p)

first_total : (on : Wire → Bool) (g p : List Bit) → length g ≡ length p → length g < 2 → IsTotal on g p (first_carry g p)
first_total on [] [] e l = λ c. refl
first_total on [] (y ∷ p) e l = absurd (omega arith)
first_total on (x ∷ []) [] e l = absurd (omega arith)
first_total on (x ∷ []) (y ∷ []) e l = λ c. refl
first_total on (x ∷ []) (y ∷ (z ∷ p)) e l = absurd (omega arith)
first_total on (x ∷ (w ∷ g)) p e l = absurd (omega arith)

halves : (on : Wire → Bool) (h : ℕ) (c : Bool) (g p : List Bit)
    → carry_out (carry_out c (bits on (take h g)) (bits on (take h p))) (bits on (drop h g)) (bits on (drop h p)) ≡ carry_out c (bits on g) (bits on p)
halves on h c g p =
    ap₂ (λ u v. carry_out (carry_out c u v) (bits on (drop h g)) (bits on (drop h p))) (bits_take on h g) (bits_take on h p)
    ∙ ap₂ (λ u v. carry_out (carry_out c (take h (bits on g)) (take h (bits on p))) u v) (bits_drop on h g) (bits_drop on h p)
    ∙ carry_split h c (bits on g) (bits on p)

low_same : (h : ℕ) (g p : List Bit) → length g ≡ length p → length (take h g) ≡ length (take h p)
low_same h g p e = length-take h g ∙ ap (min h) e ∙ sym (length-take h p)

high_same : (h : ℕ) (g p : List Bit) → length g ≡ length p → length (drop h g) ≡ length (drop h p)
high_same h g p e = length-drop h g ∙ ap (λ k. k - h) e ∙ sym (length-drop h p)

low_short : (n h : ℕ) (g : List Bit) → h ≡ length g / 2 → 2 ≤ length g → length g ≤ suc (suc n) → length (take h g) ≤ suc n
low_short n h g d s l = omega (arith, length-take h g, d)

high_short : (n h : ℕ) (g : List Bit) → h ≡ length g / 2 → 2 ≤ length g → length g ≤ suc (suc n) → length (drop h g) ≤ suc n
high_short n h g d s l = omega (arith, length-drop h g, d)

pub total_makes : (on : Wire → Bool) (n : ℕ) (g p : List Bit) → length g ≡ length p → length g ≤ suc n → Computes on (total n g p) (IsTotal on g p)
unfolding total
total_makes on zero g p e l = makes_done (first_carry g p) (IsTotal on g p) (first_total on g p e (omega arith))
total_makes on (suc n) g p e l = elim (cases_lt (length g) 2) [
  | inl small ↦ makes_along (sym (total_small (suc n) g p small)) (makes_done (first_carry g p) (IsTotal on g p) (first_total on g p e small))
  | inr large ↦
      let h : ℕ = length g / 2 in
      makes_along (sym (total_more (suc n) n h g p large (omega arith) (omega arith) refl))
      (makes_then (λ low. total n (drop h g) (drop h p) >>= (λ high. over low high)) (IsTotal on g p)
      (total_makes on n (take h g) (take h p) (low_same h g p e) (low_short n h g refl large l))
      (λ low il. makes_then (λ high. over low high) (IsTotal on g p)
      (total_makes on n (drop h g) (drop h p) (high_same h g p e) (high_short n h g refl large l))
      (λ high ih. makes_so (IsTotal on g p) (over_makes on low high)
      (λ t it c. it c ∙ ih (next c (bit on low.generate) (bit on low.propagate))
      ∙ ap (λ d. carry_out d (bits on (drop h g)) (bits on (drop h p))) (il c) ∙ halves on h c g p))))
]

-- whether all bits are set
pub all_makes : (on : Wire → Bool) (xs : List Bit) → Computes on (all xs) (λ b. bit on b ≡ every (bits on xs))
all_makes on xs =
    let zeros : List Bit = replicate (length xs) Zero in
    makes_then (λ t. done t.propagate) (λ b. bit on b ≡ every (bits on xs))
    (total_makes on (length xs) zeros xs (length-replicate (length xs) Zero) (omega (arith, length-replicate {A = Bit} (length xs) Zero)))
    (λ t it. makes_done t.propagate (λ b. bit on b ≡ every (bits on xs)) (pass (bit on t.generate) (bit on t.propagate) (every (bits on xs)) (gone t it false) (gone t it true)))
  where
    gone : (t : Carry) → ((c : Bool) → next c (bit on t.generate) (bit on t.propagate) ≡ carry_out c (bits on (replicate (length xs) Zero)) (bits on xs)) → (c : Bool) → next c (bit on t.generate) (bit on t.propagate) ≡ (every (bits on xs) && c)
    gone t it c = it c ∙ ap (λ us. carry_out c us (bits on xs)) (bits_zeros on (length xs) ∙ ap (λ k. replicate k false) (sym (bits_long on xs))) ∙ through c (bits on xs)

    pass : (g p e : Bool) → next false g p ≡ (e && false) → next true g p ≡ (e && true) → p ≡ e
    pass true true true a b = cc
    pass true true false a b = cc
    pass true false true a b = cc
    pass true false false a b = cc
    pass false true true a b = refl
    pass false true false a b = cc
    pass false false true a b = cc
    pass false false false a b = refl

-- what the positions up to each one make of a carry
pub record IsScan (on : Wire → Bool) (g p : List Bit) (s : Carriers) : Type 0 where
  pub carried : (c : Bool) → zipped (next c) (bits on s.generate) (bits on s.propagate) ≡ carries c (bits on g) (bits on p)
  pub generate_long : length s.generate ≡ length g
  pub propagate_long : length s.propagate ≡ length p

-- the same of low and high positions
pub record IsOverAll (on : Wire → Bool) (low high s : Carriers) : Type 0 where
  pub carried : (c : Bool) → zipped (next c) (bits on s.generate) (bits on s.propagate)
      ≡ zipped (next c) (bits on low.generate) (bits on low.propagate)
      ++ zipped (next (next c (last_or false (bits on low.generate)) (last_or true (bits on low.propagate)))) (bits on high.generate) (bits on high.propagate)
  pub generate_long : length s.generate ≡ length low.generate + length high.generate
  pub propagate_long : length s.propagate ≡ length low.propagate + length high.propagate

last_bit : (on : Wire → Bool) (xs : List Bit) (d : Bit) → bit on (get_or xs (length xs - 1) d) ≡ last_or (bit on d) (bits on xs)
last_bit on [] d = refl
last_bit on (x ∷ xs) d =
    ap (λ k. bit on (get_or (x ∷ xs) k d)) (let k : length (x ∷ xs) - 1 ≡ length xs = omega arith in k)
    ∙ bit_at on (length xs) (x ∷ xs) d ∙ ap (λ k. get_or (bits on (x ∷ xs)) k (bit on d)) (sym (bits_long on xs)) ∙ last_at (bit on d) (bit on x) (bits on xs)

over_all_is : (on : Wire → Bool) (low high : Carriers) (passed g p : List Bit) → length low.generate ≡ length low.propagate → length high.generate ≡ length high.propagate
    → bits on passed ≡ map (λ x. bit on (get_or low.generate (length low.generate - 1) Zero) && x) (bits on high.propagate)
    → bits on g ≡ zipped unequal (bits on high.generate) (bits on passed)
    → bits on p ≡ map (λ x. bit on (get_or low.propagate (length low.propagate - 1) One) && x) (bits on high.propagate)
    → IsOverAll on low high (record { generate = low.generate ++ g; propagate = low.propagate ++ p })
over_all_is on low high passed g p ll lh ep eg eq =
    let lg : Bool = last_or false (bits on low.generate) in
    let lp : Bool = last_or true (bits on low.propagate) in
    let hg : List Bool = bits on high.generate in
    let hp : List Bool = bits on high.propagate in
    let g_is : bits on g ≡ zipped unequal hg (map (λ x. lg && x) hp) = eg ∙ ap (zipped unequal hg) (ep ∙ ap (λ b. map (λ x. b && x) hp) (last_bit on low.generate Zero)) in
    let p_is : bits on p ≡ map (λ x. lp && x) hp = eq ∙ ap (λ b. map (λ x. b && x) hp) (last_bit on low.propagate One) in
    let same : length hg ≡ length hp = bits_long on high.generate ∙ lh ∙ sym (bits_long on high.propagate) in
    let mapped : length (map (λ x. lg && x) hp) ≡ length hp = map_long (λ x. lg && x) hp in
    let g_long : length g ≡ length high.generate = sym (bits_long on g) ∙ ap length g_is ∙ zipped_long unequal hg (map (λ x. lg && x) hp) (same ∙ sym mapped) ∙ bits_long on high.generate in
    let p_long : length p ≡ length high.propagate = sym (bits_long on p) ∙ ap length p_is ∙ map_long (λ x. lp && x) hp ∙ bits_long on high.propagate in
    record {
      carried = λ c.
          ap₂ (zipped (next c)) (bits_append on low.generate g ∙ ap (λ us. bits on low.generate ++ us) g_is) (bits_append on low.propagate p ∙ ap (λ us. bits on low.propagate ++ us) p_is)
          ∙ zipped_append (next c) (bits on low.generate) (bits on low.propagate) (zipped unequal hg (map (λ x. lg && x) hp)) (map (λ x. lp && x) hp) (bits_long on low.generate ∙ ll ∙ sym (bits_long on low.propagate))
          ∙ ap (λ us. zipped (next c) (bits on low.generate) (bits on low.propagate) ++ us) (zipped_over c lg lp hg hp);
      generate_long = length-append low.generate g ∙ ap (λ k. length low.generate + k) g_long;
      propagate_long = length-append low.propagate p ∙ ap (λ k. length low.propagate + k) p_long;
    }

over_all_makes : (on : Wire → Bool) (low high : Carriers) → length low.generate ≡ length low.propagate → length high.generate ≡ length high.propagate → Computes on (over_all low high) (IsOverAll on low high)
over_all_makes on low high ll lh =
    makes_then (λ passed. join_all Differ high.generate passed >>= (λ g. both_each (get_or low.propagate (length low.propagate - 1) One) high.propagate
    >>= (λ p. done (record { generate = low.generate ++ g; propagate = low.propagate ++ p })))) (IsOverAll on low high)
    (both_each_makes on (get_or low.generate (length low.generate - 1) Zero) high.propagate)
    (λ passed ep. makes_then (λ g. both_each (get_or low.propagate (length low.propagate - 1) One) high.propagate
    >>= (λ p. done (record { generate = low.generate ++ g; propagate = low.propagate ++ p }))) (IsOverAll on low high)
    (join_all_makes on Differ high.generate passed)
    (λ g eg. makes_then (λ p. done (record { generate = low.generate ++ g; propagate = low.propagate ++ p })) (IsOverAll on low high)
    (both_each_makes on (get_or low.propagate (length low.propagate - 1) One) high.propagate)
    (λ p eq. makes_done (record { generate = low.generate ++ g; propagate = low.propagate ++ p }) (IsOverAll on low high) (over_all_is on low high passed g p ll lh ep eg eq))))

-- the carry out of the low positions
low_carry : (on : Wire → Bool) (g p : List Bit) (low : Carriers) (c : Bool) → IsScan on g p low → length g ≡ length p
    → next c (last_or false (bits on low.generate)) (last_or true (bits on low.propagate)) ≡ carry_out c (bits on g) (bits on p)
low_carry on g p low c il e =
    sym (last_zipped (next c) false true (bits on low.generate) (bits on low.propagate) (bits_long on low.generate ∙ il.generate_long ∙ e ∙ sym (bits_long on low.propagate ∙ il.propagate_long)))
    ∙ ap (last_or c) (il.carried c) ∙ last_carries c (bits on g) (bits on p)

scan_halves : (on : Wire → Bool) (h : ℕ) (c : Bool) (g p : List Bit)
    → carries c (bits on (take h g)) (bits on (take h p)) ++ carries (carry_out c (bits on (take h g)) (bits on (take h p))) (bits on (drop h g)) (bits on (drop h p)) ≡ carries c (bits on g) (bits on p)
scan_halves on h c g p =
    ap₂ (λ u v. carries c u v ++ carries (carry_out c u v) (bits on (drop h g)) (bits on (drop h p))) (bits_take on h g) (bits_take on h p)
    ∙ ap₂ (λ u v. carries c (take h (bits on g)) (take h (bits on p)) ++ carries (carry_out c (take h (bits on g)) (take h (bits on p))) u v) (bits_drop on h g) (bits_drop on h p)
    ∙ carries_split h c (bits on g) (bits on p)

first_scan : (on : Wire → Bool) (g p : List Bit) → length g ≡ length p → length g < 2 → IsScan on g p (record { generate = g; propagate = p })
first_scan on g p e l = record { carried = go g p e l; generate_long = refl; propagate_long = refl }
  where
    go : (g p : List Bit) → length g ≡ length p → length g < 2 → (c : Bool) → zipped (next c) (bits on g) (bits on p) ≡ carries c (bits on g) (bits on p)
    go [] p e l c = refl
    go (x ∷ []) [] e l c = refl
    go (x ∷ []) (y ∷ p) e l c = refl
    go (x ∷ (w ∷ g)) p e l c = absurd (omega arith)

both_long : (h : ℕ) (g : List Bit) (m : ℕ) → m ≡ length (take h g) + length (drop h g) → m ≡ length g
both_long h g m e = omega (arith, e, length-take h g, length-drop h g)

pub scan_makes : (on : Wire → Bool) (n : ℕ) (g p : List Bit) → length g ≡ length p → length g ≤ suc n → Computes on (scan n g p) (IsScan on g p)
unfolding scan
scan_makes on zero g p e l = makes_done (record { generate = g; propagate = p }) (IsScan on g p) (first_scan on g p e (omega arith))
scan_makes on (suc n) g p e l = elim (cases_lt (length g) 2) [
  | inl small ↦ makes_along (sym (scan_small (suc n) g p small)) (makes_done (record { generate = g; propagate = p }) (IsScan on g p) (first_scan on g p e small))
  | inr large ↦
      let h : ℕ = length g / 2 in
      makes_along (sym (scan_more (suc n) n h g p large (omega arith) (omega arith) refl))
      (makes_then (λ low. scan n (drop h g) (drop h p) >>= (λ high. over_all low high)) (IsScan on g p)
      (scan_makes on n (take h g) (take h p) (low_same h g p e) (low_short n h g refl large l))
      (λ low il. makes_then (λ high. over_all low high) (IsScan on g p)
      (scan_makes on n (drop h g) (drop h p) (high_same h g p e) (high_short n h g refl large l))
      (λ high ih. makes_so (IsScan on g p)
      (over_all_makes on low high (il.generate_long ∙ low_same h g p e ∙ sym il.propagate_long) (ih.generate_long ∙ high_same h g p e ∙ sym ih.propagate_long))
      (λ s it. scanned on h g p e low high s il ih it))))
]
  where
    scanned : (on : Wire → Bool) (h : ℕ) (g p : List Bit) → length g ≡ length p → (low high s : Carriers) → IsScan on (take h g) (take h p) low → IsScan on (drop h g) (drop h p) high → IsOverAll on low high s → IsScan on g p s
    scanned on h g p e low high s il ih it = record {
      carried = λ c. it.carried c
          ∙ ap₂ (λ u d. u ++ zipped (next d) (bits on high.generate) (bits on high.propagate)) (il.carried c) (low_carry on (take h g) (take h p) low c il (low_same h g p e))
          ∙ ap (λ u. carries c (bits on (take h g)) (bits on (take h p)) ++ u) (ih.carried (carry_out c (bits on (take h g)) (bits on (take h p))))
          ∙ scan_halves on h c g p;
      generate_long = both_long h g (length s.generate) (it.generate_long ∙ ap₂ (λ a b. a + b) il.generate_long ih.generate_long);
      propagate_long = both_long h p (length s.propagate) (it.propagate_long ∙ ap₂ (λ a b. a + b) il.propagate_long ih.propagate_long);
    }
