-- Plain cells, before and after a post.
use Rattle.std.proofs.Common.{◌≡◌, ◌⊎◌, ℕ, zero, suc, ◌<◌, ◌≢◌, List, [], ◌∷◌, length, set, refl, sym, ap, ◌∙◌, arith, inl, inr, ⊎_elim}
use Rattle.std.specs.Prelude.{Option, Some, None, slice_get}
use Rattle.std.proofs.Math.ListN.{length-set}
use Rattle.std.proofs.lemmas.Bool.{cases_eq}
use Rattle.message_board.specs.Plain.{word_in_cell, filled, plain_cell, plain_put}

there : (c : List (Option ℕ)) (n : ℕ) → n < length c → slice_get c n ≡ None → ⊥
there [] n l e = omega arith
there (a ∷ c) zero l e = cc
there (a ∷ c) (suc n) l e = there c n (omega arith) e

pub cell_set_same : (c : List (Option ℕ)) (n x : ℕ) → n < length c → plain_cell (set c n (Some x)) n ≡ Some x
cell_set_same [] n x l = absurd (omega arith)
cell_set_same (a ∷ c) zero x l = refl
cell_set_same (a ∷ c) (suc n) x l = cell_set_same c n x (omega arith)

pub cell_set_other : (c : List (Option ℕ)) (n m x : ℕ) → m ≢ n → plain_cell (set c n (Some x)) m ≡ plain_cell c m
cell_set_other [] n m x ne = refl
cell_set_other (a ∷ c) zero zero x ne = absurd (ne refl)
cell_set_other (a ∷ c) zero (suc m) x ne = refl
cell_set_other (a ∷ c) (suc n) zero x ne = refl
cell_set_other (a ∷ c) (suc n) (suc m) x ne = cell_set_other c n m x (λ e. ne (ap suc e))

-- a post fills an empty cell, or leaves all
pub put_is : (c : List (Option ℕ)) (n x : ℕ) → n < length c → ((plain_cell c n ≡ None) × (plain_put c n x ≡ set c n (Some x))) ⊎ ((y : ℕ) × (plain_cell c n ≡ Some y) × (plain_put c n x ≡ c))
put_is c n x l = go (slice_get c n) refl
  where
    go : (o : Option (Option ℕ)) → slice_get c n ≡ o → ((plain_cell c n ≡ None) × (plain_put c n x ≡ set c n (Some x))) ⊎ ((y : ℕ) × (plain_cell c n ≡ Some y) × (plain_put c n x ≡ c))
    go (Some None) e = inl (ap word_in_cell e, ap (filled c n x) e)
    go (Some (Some y)) e = inr (y, ap word_in_cell e, ap (filled c n x) e)
    go None e = absurd (there c n l e)

pub put_length : (c : List (Option ℕ)) (n x : ℕ) → n < length c → length (plain_put c n x) ≡ length c
put_length c n x l = ⊎_elim
    (λ (a : (plain_cell c n ≡ None) × (plain_put c n x ≡ set c n (Some x))). ap length a.1 ∙ length-set c n (Some x))
    (λ (b : (y : ℕ) × (plain_cell c n ≡ Some y) × (plain_put c n x ≡ c)). ap length b.2)
    (put_is c n x l)

-- what a post keeps of full cells
pub put_keeps : (c : List (Option ℕ)) (n x m v : ℕ) → n < length c → plain_cell c m ≡ Some v → plain_cell (plain_put c n x) m ≡ Some v
put_keeps c n x m v l full = ⊎_elim
    (λ (a : (plain_cell c n ≡ None) × (plain_put c n x ≡ set c n (Some x))).
    ap (λ z. plain_cell z m) a.1 ∙ cell_set_other c n m x (λ e. no_word m n v e full a.0) ∙ full)
    (λ (b : (y : ℕ) × (plain_cell c n ≡ Some y) × (plain_put c n x ≡ c)). ap (λ z. plain_cell z m) b.2 ∙ full)
    (put_is c n x l)
  where
    no_word : (m n v : ℕ) → m ≡ n → plain_cell c m ≡ Some v → plain_cell c n ≡ None → ⊥
    no_word m n v e a b = let f : Some v ≡ None = sym a ∙ ap (plain_cell c) e ∙ b in cc

-- every word after a post was there before, or is the new one
pub put_new : (c : List (Option ℕ)) (n x m v : ℕ) → n < length c → plain_cell (plain_put c n x) m ≡ Some v → (plain_cell c m ≡ Some v) ⊎ ((m ≡ n) × (v ≡ x))
put_new c n x m v l full = ⊎_elim
    (λ (a : (plain_cell c n ≡ None) × (plain_put c n x ≡ set c n (Some x))). elim (cases_eq m n) [
      | inl e ↦ inr (e, (let f : Some v ≡ Some x = sym full ∙ ap (λ z. plain_cell z m) a.1 ∙ ap (plain_cell (set c n (Some x))) e ∙ cell_set_same c n x l in cc))
      | inr ne ↦ inl (sym (ap (λ z. plain_cell z m) a.1 ∙ cell_set_other c n m x ne) ∙ full)
    ])
    (λ (b : (y : ℕ) × (plain_cell c n ≡ Some y) × (plain_put c n x ≡ c)). inl (sym (ap (λ z. plain_cell z m) b.2) ∙ full))
    (put_is c n x l)

-- the cell of a post is full, of a word that the cell may have
pub put_full : (c : List (Option ℕ)) (n x : ℕ) → n < length c → ((v : ℕ) → plain_cell c n ≡ Some v → v ≡ x) → plain_cell (plain_put c n x) n ≡ Some x
put_full c n x l old = ⊎_elim
    (λ (a : (plain_cell c n ≡ None) × (plain_put c n x ≡ set c n (Some x))). ap (λ z. plain_cell z n) a.1 ∙ cell_set_same c n x l)
    (λ (b : (y : ℕ) × (plain_cell c n ≡ Some y) × (plain_put c n x ≡ c)). ap (λ z. plain_cell z n) b.2 ∙ b.1 ∙ ap Some (old b.0 b.1))
    (put_is c n x l)
