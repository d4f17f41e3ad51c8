-- Lists by their places, and rows of a table.
use Rattle.std.proofs.Common.{◌≡◌, ℕ, ◌-◌, ◌<◌, nat_eq, if◌then◌else◌, List, [], ◌∷◌, ◌++◌, length, set, refl, sym, ap, ◌∙◌, arith, inl, inr, get_or-set_other, get_or-set_same}
use Rattle.std.specs.Prelude.{slice_index_or}
use Rattle.std.specs.Global.{Vec}
use Rattle.std.proofs.Math.ListN.{get_or-append}
use Rattle.std.proofs.Math.Seq.{get_or-append_right}
use Rattle.std.proofs.lemmas.Bool.{cases_eq, cases_lt, cond-true, cond-false, eq-eqb, ne_eqb}
use Rattle.std.proofs.lemmas.List.{ext_get_or, get_or-map, get_or_past, map-append, map-set, length-map}
use Rattle.list_laws.specs.Lists.{listed}
use Rattle.list_laws.proofs.JoinedLists.{length-listed, listed_at}
use Rattle.plan_model.specs.InputWords.{session_words}

-- a list of n elements of which each is that of its place
pub listed_of : {A : Type 0} (d : A) (n : ℕ) (f : ℕ → A) (xs : List A) → length xs ≡ n → ((i : ℕ) → i < n → slice_index_or xs i d ≡ f i) → xs ≡ listed n f
listed_of d n f xs long h =
    ext_get_or d xs (listed n f) (long ∙ sym (length-listed n f)) (λ i l. let less : i < n = omega arith in h i less ∙ sym (listed_at n f i d less))

-- the words of one of the vectors
pub words_of : (rows : List (Vec ℕ)) (v : ℕ) (d : Vec ℕ) → v < length rows → slice_index_or (session_words rows) v [] ≡ (slice_index_or rows v d).items
words_of rows v d l = get_or-map (λ (row : Vec ℕ). row.items) rows v d [] l

-- the row that was read of a table
pub row_read : (rows : List (Vec ℕ)) (v : ℕ) (row : Vec ℕ) → v < length rows → row ≡ slice_index_or rows v row → row.items ≡ slice_index_or (session_words rows) v []
row_read rows v row l e = ap (λ (x : Vec ℕ). x.items) e ∙ sym (words_of rows v row l)

-- ---- one item of a list

-- an item that is set, and all others as they were
pub set_is : {A : Type 0} (xs : List A) (place : ℕ) (x d : A) → place < length xs → (v : ℕ) → slice_index_or (set xs place x) v d ≡ (if nat_eq v place then x else slice_index_or xs v d)
set_is xs place x d l v = elim (cases_eq v place) [
  | inl e ↦ ap (λ n. slice_index_or (set xs place x) n d) e ∙ get_or-set_same xs place x d l ∙ sym (cond-true (nat_eq v place) x _ (eq-eqb v place e))
  | inr ne ↦ get_or-set_other xs place v x d ne ∙ sym (cond-false (nat_eq v place) x _ (ne_eqb v place ne))
]

-- the words of a row that is set
pub row_set : (rows : List (Vec ℕ)) (place : ℕ) (row : Vec ℕ) → place < length rows → (v : ℕ)
    → slice_index_or (session_words (set rows place row)) v [] ≡ (if nat_eq v place then row.items else slice_index_or (session_words rows) v [])
row_set rows place row l v =
    ap (λ rs. slice_index_or rs v []) (map-set (λ (r : Vec ℕ). r.items) rows place row)
    ∙ set_is (session_words rows) place row.items [] (omega (arith, l, length-map rows (λ (r : Vec ℕ). r.items))) v

-- item v0 of list u0 is set, and all others of all lists are as they were
pub item_set : {A : Type 0} (d x : A) (lists : List (List A)) (new : List A) (u0 v0 : ℕ) → u0 < length lists
    → ((v : ℕ) → slice_index_or new v d ≡ (if nat_eq v v0 then x else slice_index_or (slice_index_or lists u0 []) v d))
    → (slice_index_or (slice_index_or (set lists u0 new) u0 []) v0 d ≡ x)
    × ((u v : ℕ) → (u ≡ u0 → v ≡ v0 → ⊥) → slice_index_or (slice_index_or (set lists u0 new) u []) v d ≡ slice_index_or (slice_index_or lists u []) v d)
item_set d x lists new u0 v0 l is = (
  ap (λ xs. slice_index_or xs v0 d) here ∙ is v0 ∙ cond-true (nat_eq v0 v0) x _ (eq-eqb v0 v0 refl),
  λ u v apart. elim (cases_eq u u0) [
    | inl e ↦
        ap (λ n. slice_index_or (slice_index_or (set lists u0 new) n []) v d) e ∙ ap (λ xs. slice_index_or xs v d) here
        ∙ is v ∙ cond-false (nat_eq v v0) x _ (ne_eqb v v0 (apart e)) ∙ ap (λ n. slice_index_or (slice_index_or lists n []) v d) (sym e)
    | inr ne ↦ ap (λ xs. slice_index_or xs v d) (get_or-set_other lists u0 u new [] ne)
  ],
)
  where
    here : slice_index_or (set lists u0 new) u0 [] ≡ new
    here = get_or-set_same lists u0 new [] l

abbrev no_words : List (List ℕ)
no_words = [] ∷ []

-- a row without words behind the others
pub row_behind : (rows : List (Vec ℕ)) (row : Vec ℕ) → row.items ≡ [] → (v : ℕ) → slice_index_or (session_words (rows ++ row ∷ [])) v [] ≡ slice_index_or (session_words rows) v []
row_behind rows row none v =
    let n = length (session_words rows) in
    ap (λ xs. slice_index_or xs v []) (map-append (λ (r : Vec ℕ). r.items) rows (row ∷ []))
    ∙ elim (cases_lt v n) [
      | inl l ↦ get_or-append (session_words rows) (row.items ∷ []) [] v l
      | inr past ↦
          get_or-append_right (session_words rows) (row.items ∷ []) v [] past
          ∙ ap (λ r. slice_index_or (r ∷ []) (v - n) []) none ∙ empty (v - n) ∙ sym (get_or_past (session_words rows) v [] past)
    ]
  where
    empty : (i : ℕ) → slice_index_or no_words i [] ≡ []
    empty i = elim (cases_eq i 0) [
      | inl e ↦ ap (λ n. slice_index_or no_words n []) e
      | inr ne ↦ get_or_past no_words i [] (omega (arith, ne))
    ]
