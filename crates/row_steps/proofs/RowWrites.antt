-- Writes into a row of a table.
use Rattle.std.proofs.Common.{◌≡◌, ℕ, ◌+◌, ◌-◌, ◌*◌, ◌<◌, ◌≤◌, ◌≢◌, nat_eq, nat_lt, if◌then◌else◌, List, length, sym, ap, ap₂, ◌∙◌, subst, arith, take, drop, ◌++◌, get_or-set_other, get_or-set_same, get_or, length-set, set}
use Rattle.std.proofs.lemmas.Bool.{cases_eq, cases_lt, cond-true, cond-false, eq-eqb, ne_eqb, lt-ltb, le-ltb}
use Rattle.std.specs.Prelude.{slice_index}
use Rattle.std.proofs.lemmas.List.{get_or_append_left, get_or-append_right, get_or-drop, get_or-take, length-take-le}
use Rattle.std.proofs.Math.Nat.{mul-le-mul_right}
use mathlib.Core.Logic.{inl, inr}
use Rattle.circuit_model.specs.Circuits.{set_at}
use Rattle.circuit_model.proofs.SetAt.{set_here, set_there}
use Rattle.row_steps.specs.Rows.{row, SameRow, SameRows, filled_to}

-- places of different rows differ
apart : (m u v i j : ℕ) → i < m → j < m → u < v → u * m + j ≢ v * m + i
apart m u v i j li lj l e =
    let more : (u + 1) * m ≤ v * m = mul-le-mul_right m (omega arith) in
    omega (arith, more, e)

pub row_set : (m : ℕ) (table : List ℕ) (v i x : ℕ) → i < m → v * m + i < length table → (u j : ℕ) → j < m
    → row m (set table (v * m + i) x) u j ≡ (if nat_eq u v then (if nat_eq j i then x else row m table u j) else row m table u j)
row_set m table v i x li inside u j lj = elim (cases_eq u v) [
  | inl e ↦ elim (cases_eq j i) [
    | inl f ↦
        subst (λ z. get_or (set table (v * m + i) x) z 0 ≡ x) (ap₂ (λ a b. a * m + b) (sym e) (sym f)) (get_or-set_same table (v * m + i) x 0 inside)
        ∙ sym (cond-true (nat_eq u v) _ _ (eq-eqb u v e) ∙ cond-true (nat_eq j i) x _ (eq-eqb j i f))
    | inr nf ↦
        let ne : u * m + j ≢ v * m + i = (λ z. nf (let w : u * m ≡ v * m = ap (λ a. a * m) e in omega arith)) in
        get_or-set_other table (v * m + i) (u * m + j) x 0 ne
        ∙ sym (cond-true (nat_eq u v) _ _ (eq-eqb u v e) ∙ cond-false (nat_eq j i) x _ (ne_eqb j i nf))
  ]
  | inr ne' ↦
      let ne : u * m + j ≢ v * m + i = elim (cases_lt u v) [
        | inl l ↦ apart m u v i j li lj l
        | inr past ↦ (λ z. apart m v u j i lj li (omega arith) (sym z))
      ] in
      get_or-set_other table (v * m + i) (u * m + j) x 0 ne ∙ sym (cond-false (nat_eq u v) _ _ (ne_eqb u v ne'))
]

pub fill_start : (m : ℕ) (f : ℕ → ℕ → ℕ) (v : ℕ) (new : ℕ → ℕ) → SameRows m f (filled_to f v new 0)
fill_start m f v new u j lj = elim (cases_eq u v) [
  | inl e ↦ ap (λ z. f z j) e ∙ sym (ap (λ g. g j) (set_here f v u (λ j. if nat_lt j 0 then new j else f v j) e) ∙ cond-false (nat_lt j 0) _ _ (le-ltb j 0 (omega arith)))
  | inr ne ↦ sym (ap (λ g. g j) (set_there f v u (λ j. if nat_lt j 0 then new j else f v j) ne))
]

pub fill_unread : (f : ℕ → ℕ → ℕ) (v : ℕ) (new : ℕ → ℕ) (i u : ℕ) → filled_to f v new i u i ≡ f u i
fill_unread f v new i u = elim (cases_eq u v) [
  | inl e ↦ ap (λ g. g i) (set_here f v u (λ j. if nat_lt j i then new j else f v j) e) ∙ cond-false (nat_lt i i) _ _ (le-ltb i i (omega arith)) ∙ ap (λ z. f z i) (sym e)
  | inr ne ↦ ap (λ g. g i) (set_there f v u (λ j. if nat_lt j i then new j else f v j) ne)
]

pub fill_end : (m : ℕ) (f : ℕ → ℕ → ℕ) (v : ℕ) (new : ℕ → ℕ) → SameRows m (filled_to f v new m) (set_at f v new)
fill_end m f v new u j lj = elim (cases_eq u v) [
  | inl e ↦ ap (λ g. g j) (set_here f v u (λ j. if nat_lt j m then new j else f v j) e) ∙ cond-true (nat_lt j m) _ _ (lt-ltb j m lj) ∙ sym (ap (λ g. g j) (set_here f v u new e))
  | inr ne ↦ ap (λ g. g j) (set_there f v u (λ j. if nat_lt j m then new j else f v j) ne) ∙ sym (ap (λ g. g j) (set_there f v u new ne))
]

pub fill_step : (m : ℕ) (table : List ℕ) (f : ℕ → ℕ → ℕ) (v : ℕ) (new : ℕ → ℕ) (i x : ℕ) → SameRows m (row m table) (filled_to f v new i) → i < m → v * m + i < length table → x ≡ new i
    → SameRows m (row m (set table (v * m + i) x)) (filled_to f v new (i + 1))
fill_step m table f v new i x same li inside e u j lj = row_set m table v i x li inside u j lj ∙ elim (cases_eq u v) [
  | inl eq ↦ cond-true (nat_eq u v) _ _ (eq-eqb u v eq)
      ∙ elim (cases_eq j i) [
        | inl ej ↦ cond-true (nat_eq j i) _ _ (eq-eqb j i ej) ∙ e ∙ ap new (sym ej)
            ∙ sym (ap (λ g. g j) (set_here f v u (λ j. if nat_lt j (i + 1) then new j else f v j) eq) ∙ cond-true (nat_lt j (i + 1)) _ _ (lt-ltb j (i + 1) (omega arith)))
        | inr nj ↦ cond-false (nat_eq j i) x _ (ne_eqb j i nj) ∙ same u j lj
            ∙ ap (λ g. g j) (set_here f v u (λ j. if nat_lt j i then new j else f v j) eq)
            ∙ elim (cases_lt j i) [
              | inl l ↦ cond-true (nat_lt j i) _ _ (lt-ltb j i l) ∙ sym (cond-true (nat_lt j (i + 1)) (new j) (f v j) (lt-ltb j (i + 1) (omega arith)))
              | inr past ↦ cond-false (nat_lt j i) _ _ (le-ltb j i past) ∙ sym (cond-false (nat_lt j (i + 1)) (new j) (f v j) (le-ltb j (i + 1) (omega arith)))
            ]
            ∙ sym (ap (λ g. g j) (set_here f v u (λ j. if nat_lt j (i + 1) then new j else f v j) eq))
      ]
  | inr ne ↦ cond-false (nat_eq u v) _ _ (ne_eqb u v ne) ∙ same u j lj
      ∙ ap (λ g. g j) (set_there f v u (λ j. if nat_lt j i then new j else f v j) ne)
      ∙ sym (ap (λ g. g j) (set_there f v u (λ j. if nat_lt j (i + 1) then new j else f v j) ne))
]

pub row_put : (m : ℕ) (table : List ℕ) (v i x : ℕ) → i < m → v * m + i < length table → SameRows m (row m (set table (v * m + i) x)) (set_at (row m table) v (set_at (row m table v) i x))
row_put m table v i x li inside u j lj = row_set m table v i x li inside u j lj ∙ elim (cases_eq u v) [
  | inl e ↦ cond-true (nat_eq u v) _ _ (eq-eqb u v e) ∙ ap (λ z. if nat_eq j i then x else row m table z j) e ∙ sym (ap (λ g. g j) (set_here (row m table) v u (set_at (row m table v) i x) e))
  | inr ne ↦ cond-false (nat_eq u v) _ _ (ne_eqb u v ne) ∙ sym (ap (λ g. g j) (set_there (row m table) v u (set_at (row m table v) i x) ne))
]

-- a write of a whole row
pub row_range : (m : ℕ) (table ys : List ℕ) (v k : ℕ) → k ≡ m → length ys ≡ m → (v + 1) * m ≤ length table
    → SameRows m (row m (take (v * m) table ++ (ys ++ drop k (drop (v * m) table)))) (set_at (row m table) v (slice_index ys))
row_range m table ys v k all long inside u j lj =
    let a : ℕ = v * m in
    let rest : List ℕ = drop k (drop a table) in
    let whole : List ℕ = take a table ++ (ys ++ rest) in
    let front : length (take a table) ≡ a = length-take-le a table (omega (arith, inside)) in
    elim (cases_eq u v) [
      | inl e ↦
          let here : u * m ≡ a = ap (λ z. z * m) e in
          let off : u * m + j - a ≡ j = omega (arith, here) in
          get_or-append_right (take a table) (ys ++ rest) a (u * m + j) 0 front (omega (arith, here))
          ∙ ap (λ n. get_or (ys ++ rest) n 0) off
          ∙ get_or_append_left ys rest 0 j (omega (arith, long, lj))
          ∙ sym (ap (λ g. g j) (set_here (row m table) v u (slice_index ys) e))
      | inr ne ↦ elim (cases_lt u v) [
        | inl less ↦
            let more : (u + 1) * m ≤ v * m = mul-le-mul_right m (omega (arith, less)) in
            let before : u * m + j < a = omega (arith, more, lj) in
            get_or_append_left (take a table) (ys ++ rest) 0 (u * m + j) (omega (arith, front, before))
            ∙ get_or-take a table (u * m + j) 0 before
            ∙ sym (ap (λ g. g j) (set_there (row m table) v u (slice_index ys) ne))
        | inr past ↦
            let more : (v + 1) * m ≤ u * m = mul-le-mul_right m (omega (arith, past, ne)) in
            let behind : a + m ≤ u * m + j = omega (arith, more) in
            let off : k + (u * m + j - a - m) ≡ u * m + j - a = omega (arith, behind, all) in
            let back : a + (u * m + j - a) ≡ u * m + j = omega (arith, behind) in
            get_or-append_right (take a table) (ys ++ rest) a (u * m + j) 0 front (omega (arith, behind))
            ∙ get_or-append_right ys rest m (u * m + j - a) 0 long (omega (arith, behind))
            ∙ get_or-drop k (drop a table) (u * m + j - a - m) 0
            ∙ ap (λ n. get_or (drop a table) n 0) off
            ∙ get_or-drop a table (u * m + j - a) 0
            ∙ ap (λ n. get_or table n 0) back
            ∙ sym (ap (λ g. g j) (set_there (row m table) v u (slice_index ys) ne))
      ]
    ]

-- three entries, written one after another, are the row
pub three_filled : (table : List ℕ) (v : ℕ) (new : ℕ → ℕ) (x y z : ℕ) → (v + 1) * 3 ≤ length table → x ≡ new 0 → y ≡ new 1 → z ≡ new 2
    → SameRows 3 (row 3 (set (set (set table (v * 3) x) (v * 3 + 1) y) (v * 3 + 2) z)) (set_at (row 3 table) v new)
three_filled table v new x y z there first second third =
    let m : ℕ = 3 in
    let before = row m table in
    let start : v * m + 0 ≡ v * m = omega arith in
    let long = length-set table (v * m) x in
    let still_long = length-set (set table (v * m) x) (v * m + 1) y in
    let one = subst (λ n. SameRows m (row m (set table n x)) (filled_to before v new 1)) start (fill_step m table before v new 0 x (fill_start m before v new) (omega arith) (omega (arith, there)) first) in
    let two = fill_step m _ before v new 1 y one (omega arith) (omega (arith, there, long)) second in
    let all = fill_step m _ before v new 2 z two (omega arith) (omega (arith, there, long, still_long)) third in
    λ u i l. all u i l ∙ fill_end m before v new u i l

-- the same rows stay so, where the same summands go into one of them
pub set_same : (m : ℕ) (f g : ℕ → ℕ → ℕ) (v : ℕ) (x y : ℕ → ℕ) → SameRows m f g → SameRow m x y → SameRows m (set_at f v x) (set_at g v y)
set_same m f g v x y same row u i li = elim (cases_eq u v) [
  | inl e ↦ ap (λ z. z i) (set_here f v u x e) ∙ row i li ∙ sym (ap (λ z. z i) (set_here g v u y e))
  | inr ne ↦ ap (λ z. z i) (set_there f v u x ne) ∙ same u i li ∙ sym (ap (λ z. z i) (set_there g v u y ne))
]
