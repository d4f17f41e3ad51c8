-- Lists of starts as they grow, and rows of tables.
use Rattle.std.proofs.Common.{◌≡◌, ℕ, ◌+◌, ◌<◌, List, [], ◌∷◌, ◌++◌, sym, ap, ap₂, ◌∙◌}
use Rattle.std.specs.Prelude.{slice_index_or}
use Rattle.list_laws.specs.Lists.{listed}
use Rattle.list_laws.proofs.JoinedLists.{joined_more, listed_at}

-- a list of the values of a function, one longer
pub listed_push : {A : Type 0} (n : ℕ) (f : ℕ → A) (xs : List A) (x : A) → xs ≡ listed n f → x ≡ f n → xs ++ x ∷ [] ≡ listed (n + 1) f
listed_push n f xs x e here = ap₂ (λ ys y. ys ++ y ∷ []) e here ∙ sym (joined_more n (λ i. f i ∷ []))

-- a row of a table
pub row_is : (table : List (List ℕ)) (n : ℕ) (f : ℕ → List ℕ) (i : ℕ) (row : List ℕ) → table ≡ listed n f → i < n → row ≡ slice_index_or table i row → row ≡ f i
row_is table n f i row e l here = here ∙ ap (λ t. slice_index_or t i row) e ∙ listed_at n f i row l
