-- Where the wires of an input value stand, among all input wires and among those that its party gives.
use Rattle.std.proofs.Common.{◌≡◌, ℕ, zero, suc, ◌+◌, ◌-◌, ◌<◌, ◌≤◌, Bool, true, false, cond, List, [], ◌∷◌, ◌++◌, length, take, refl, ap, ap₂, ◌∙◌, arith, length-append}
use Rattle.std.specs.Prelude.{slice_index, slice_index_or}
use Rattle.std.specs.List.{filter}
use Rattle.std.proofs.Math.ListN.{get_or-append}
use Rattle.std.proofs.Math.Seq.{get_or-append_right}
use Rattle.list_laws.specs.Lists.{total, listed}
use Rattle.list_laws.proofs.JoinedLists.{length-listed, listed_at}
use Rattle.list_laws.proofs.Totals.{total_eq}
use Rattle.session_slots.specs.declared.source.Source.{Source}
use Rattle.session_slots.specs.declared.source.Source.TheVariants.{Given}
use Rattle.session_slots.specs.declared.values.InputValue.{InputValue}
use Rattle.session_slots.specs.declared.values.Owner.{Owner}
use Rattle.session_slots.specs.declared.values.Owner.TheVariants.{Party, Carried}
use Rattle.session_slots.specs.Sessions.{given_by, owners_of, source_from}
use Rattle.party_file.specs.Table.{gives_value}
use Rattle.walk_laws.specs.Numbers.{given_among, no_value, widths_of}
use Rattle.walk_laws.proofs.NumberColumns.{total_first}

-- a sum in two parts
total_parts : (a n : ℕ) (f : ℕ → ℕ) → total (a + n) f ≡ total a f + total n (λ i. f (a + i))
total_parts a zero f = (let e : a + 0 ≡ a = omega arith in ap (λ k. total k f) e ∙ (let k : total a f ≡ total a f + 0 = omega arith in k))
total_parts a (suc n) f =
    let e : a + suc n ≡ suc (a + n) = omega arith in
    let one : total (suc (a + n)) f ≡ total (a + n) f + f (a + n) = refl in
    let two = total_parts a n f in
    ap (λ k. total k f) e ∙ omega (arith, two)

-- wire j of value i is wire j behind those of the values before it
pub wire_of_value : (vs : List InputValue) (i j : ℕ) → i < length vs → j < slice_index (widths_of vs) i
    → slice_index_or (owners_of vs) (total i (slice_index (widths_of vs)) + j) (Given 0) ≡ source_from (slice_index_or vs i no_value).owner j
wire_of_value [] i j l m = absurd (omega (arith, l))
wire_of_value (v ∷ vs) zero j l m =
    let here : List Source = listed v.width (source_from v.owner) in
    let long : length here ≡ v.width = length-listed v.width (source_from v.owner) in
    ap (λ n. slice_index_or (here ++ owners_of vs) n (Given 0)) (let e : 0 + j ≡ j = omega arith in e)
    ∙ get_or-append here (owners_of vs) (Given 0) j (omega (arith, m, long)) ∙ listed_at v.width (source_from v.owner) j (Given 0) m
wire_of_value (v ∷ vs) (suc i) j l m =
    let here : List Source = listed v.width (source_from v.owner) in
    let long : length here ≡ v.width = length-listed v.width (source_from v.owner) in
    let at : ℕ = total (suc i) (slice_index (widths_of (v ∷ vs))) + j in
    let first : at ≡ v.width + (total i (slice_index (widths_of vs)) + j) = omega (arith, total_first i (slice_index (widths_of (v ∷ vs)))) in
    get_or-append_right here (owners_of vs) at (Given 0) (omega (arith, first, long))
    ∙ ap (λ n. slice_index_or (owners_of vs) n (Given 0)) (let e : at - length here ≡ total i (slice_index (widths_of vs)) + j = omega (arith, first, long) in e)
    ∙ wire_of_value vs i j (omega (arith, l)) m

pub wire_within : (vs : List InputValue) (i j : ℕ) → i < length vs → j < slice_index (widths_of vs) i → total i (slice_index (widths_of vs)) + j < length (owners_of vs)
wire_within [] i j l m = absurd (omega (arith, l))
wire_within (v ∷ vs) zero j l m = omega (arith, m, length-append (listed v.width (source_from v.owner)) (owners_of vs), length-listed v.width (source_from v.owner))
wire_within (v ∷ vs) (suc i) j l m =
    omega (arith, wire_within vs i j (omega (arith, l)) m, total_first i (slice_index (widths_of (v ∷ vs))), length-append (listed v.width (source_from v.owner)) (owners_of vs), length-listed v.width (source_from v.owner))

module _ (p : ℕ) where
  -- 1 for a wire that the party gives
  abbrev gives : List InputValue → ℕ → ℕ
  gives vs u = cond (given_by p (slice_index_or (owners_of vs) u (Given 0))) 1 0

  -- the widths of the values that it gives
  abbrev pub its_widths : List InputValue → List ℕ
  its_widths vs = widths_of (filter (gives_value p) vs)

  one_giver : (owner : Owner) (i : ℕ) → given_by p (source_from owner i) ≡ given_by p (source_from owner 0)
  one_giver (Party q) i = refl
  one_giver (Carried r c) i = refl

  -- of the first wires of a value all are given or none
  first_wires : (v : InputValue) (vs : List InputValue) (n : ℕ) → n ≤ v.width → total n (gives (v ∷ vs)) ≡ cond (gives_value p v) n 0
  first_wires v vs n l = total_eq n (gives (v ∷ vs)) (λ u. cond (gives_value p v) 1 0) (λ u m. ap (λ b. cond {A = ℕ} b 1 0) (at u (omega (arith, l, m)))) ∙ all_same (gives_value p v) n
    where
      at : (u : ℕ) → u < v.width → given_by p (slice_index_or (owners_of (v ∷ vs)) u (Given 0)) ≡ gives_value p v
      at u m =
          let here : List Source = listed v.width (source_from v.owner) in
          ap (given_by p) (get_or-append here (owners_of vs) (Given 0) u (omega (arith, m, length-listed v.width (source_from v.owner))) ∙ listed_at v.width (source_from v.owner) u (Given 0) m) ∙ one_giver v.owner u

      all_same : (b : Bool) (n : ℕ) → total n (λ u. cond {A = ℕ} b 1 0) ≡ cond b n 0
      all_same true zero = refl
      all_same false zero = refl
      all_same true (suc n) = omega (arith, all_same true n)
      all_same false (suc n) = omega (arith, all_same false n)

  -- behind a value's wires
  later_wires : (v : InputValue) (vs : List InputValue) (n : ℕ) → total (v.width + n) (gives (v ∷ vs)) ≡ cond (gives_value p v) v.width 0 + total n (gives vs)
  later_wires v vs n =
      let here : List Source = listed v.width (source_from v.owner) in
      let long : length here ≡ v.width = length-listed v.width (source_from v.owner) in
      let rest : total n (λ u. gives (v ∷ vs) (v.width + u)) ≡ total n (gives vs) =
      total_eq n (λ u. gives (v ∷ vs) (v.width + u)) (gives vs) (λ u m. ap (λ from. cond {A = ℕ} (given_by p from) 1 0)
      (get_or-append_right here (owners_of vs) (v.width + u) (Given 0) (omega (arith, long)) ∙ ap (λ k. slice_index_or (owners_of vs) k (Given 0)) (let e : v.width + u - length here ≡ u = omega (arith, long) in e))) in
      total_parts v.width n (gives (v ∷ vs)) ∙ ap₂ (λ x y. x + y) (first_wires v vs v.width (omega arith)) rest

  -- so many of the wires before wire j of value i the party gives, where the value is its own
  pub given_place : (vs : List InputValue) (i j : ℕ) → i < length vs → gives_value p (slice_index_or vs i no_value) ≡ true → j ≤ slice_index (widths_of vs) i
      → total (total i (slice_index (widths_of vs)) + j) (gives vs) ≡ total (given_among p vs i) (slice_index (its_widths vs)) + j
  given_place [] i j l own m = absurd (omega (arith, l))
  given_place (v ∷ vs) zero j l own m = (let e : 0 + j ≡ j = omega arith in ap (λ n. total n (gives (v ∷ vs))) e ∙ first_wires v vs j m ∙ ap (λ b. cond b j 0) own ∙ (let k : j ≡ 0 + j = omega arith in k))
  given_place (v ∷ vs) (suc i) j l own m =
      let rest : ℕ = total i (slice_index (widths_of vs)) + j in
      let at : total (suc i) (slice_index (widths_of (v ∷ vs))) + j ≡ v.width + rest = omega (arith, total_first i (slice_index (widths_of (v ∷ vs)))) in
      let later = given_place vs i j (omega (arith, l)) own m in
      ap (λ n. total n (gives (v ∷ vs))) at ∙ later_wires v vs rest ∙ ap (λ n. cond (gives_value p v) v.width 0 + n) later ∙ go (gives_value p v)
    where
      go : (b : Bool) → cond b v.width 0 + (total (given_among p vs i) (slice_index (its_widths vs)) + j)
          ≡ total (length (cond b (v ∷ filter (gives_value p) (take i vs)) (filter (gives_value p) (take i vs)))) (slice_index (widths_of (cond b (v ∷ filter (gives_value p) vs) (filter (gives_value p) vs)))) + j
      go true = omega (arith, total_first (given_among p vs i) (slice_index (v.width ∷ its_widths vs)))
      go false = omega arith

  -- and that value is the next that it gives
  pub given_width : (vs : List InputValue) (i : ℕ) → i < length vs → gives_value p (slice_index_or vs i no_value) ≡ true → slice_index (its_widths vs) (given_among p vs i) ≡ slice_index (widths_of vs) i
  given_width [] i l own = absurd (omega (arith, l))
  given_width (v ∷ vs) zero l own = ap (λ b. slice_index (widths_of (cond b (v ∷ filter (gives_value p) vs) (filter (gives_value p) vs))) 0) own
  given_width (v ∷ vs) (suc i) l own = go (gives_value p v) ∙ given_width vs i (omega (arith, l)) own
    where
      go : (b : Bool) → slice_index (widths_of (cond b (v ∷ filter (gives_value p) vs) (filter (gives_value p) vs))) (length (cond b (v ∷ filter (gives_value p) (take i vs)) (filter (gives_value p) (take i vs)))) ≡ slice_index (its_widths vs) (given_among p vs i)
      go true = refl
      go false = refl

  -- so many values it gives
  pub given_within : (vs : List InputValue) (i : ℕ) → i < length vs → gives_value p (slice_index_or vs i no_value) ≡ true → given_among p vs i < length (its_widths vs)
  given_within [] i l own = absurd (omega (arith, l))
  given_within (v ∷ vs) zero l own = at (gives_value p v) own
    where
      at : (b : Bool) → b ≡ true → 0 < length (widths_of (cond b (v ∷ filter (gives_value p) vs) (filter (gives_value p) vs)))
      at true e = omega arith
      at false e = cc
  given_within (v ∷ vs) (suc i) l own = go (given_within vs i (omega (arith, l)) own) (gives_value p v)
    where
      go : given_among p vs i < length (its_widths vs) → (b : Bool) → length (cond b (v ∷ filter (gives_value p) (take i vs)) (filter (gives_value p) (take i vs))) < length (widths_of (cond b (v ∷ filter (gives_value p) vs) (filter (gives_value p) vs)))
      go later true = omega (arith, later)
      go later false = later
