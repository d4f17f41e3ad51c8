-- What the steps tell, as the calls answer it.
use Rattle.std.proofs.Common.{◌≡◌, ◌⊎◌, ℕ, ◌+◌, ◌*◌, ◌≢◌, List, [], ◌∷◌, length, ne_eqb, Option, Some, None, sym, refl, ap, ◌∙◌, subst, inl, inr, arith}
use Rattle.std.specs.Prelude.{IfSome, if◌then◌else◌}
use Rattle.atomic_table.specs.Table.{Me}
use Rattle.message_board.specs.declared.steps.About.{About}
use Rattle.message_board.specs.declared.steps.View.{View}
use Rattle.message_board.specs.declared.cells.Posted.{Posted}
use Rattle.message_board.specs.declared.cells.Posted.TheVariants.{Done, Occupied}
use Rattle.message_board.specs.Pairs.{Has}
use Rattle.message_board.specs.Rule.{posts, stores, unstores, looks, takes_out, settled}
use Rattle.message_board.specs.Words.{apart, posted_as, word_as}

posted_full : (n w : ℕ) → n ≡ 1 → posted_as n w ≡ Occupied w
posted_full n w e = ap (λ b. if b then Done else Occupied w) (ne_eqb n 0 (λ z. omega arith))

pub word_full : (n w : ℕ) → n ≡ 1 → word_as n w ≡ Some w
word_full n w e = ap (λ b. if b then None else Some w) (ne_eqb n 0 (λ z. omega arith))

module _ {W : Type 0} where
  pub record PostTells (v : View W) (k w : ℕ) (u : View W) (r : Posted) : Type 0 where
    pub view : settled u ≡ posts (settled v) k w r
    pub found : (r ≡ Done) ⊎ (r ≡ Occupied w)
    pub same : (u.about ≡ v.about) × (u.seats ≡ v.seats) × (u.out ≡ v.out)

  posts_same : (v : View W) (k w : ℕ) (r : Posted) → ((posts v k w r).about ≡ v.about) × ((posts v k w r).seats ≡ v.seats) × ((posts v k w r).out ≡ v.out)
  posts_same v k w Done = (refl, refl, refl)
  posts_same v k w (Occupied x) = (refl, refl, refl)

  post_tells_at : (v u : View W) (k w n : ℕ) (r : Posted) → r ≡ posted_as n w → ((n ≡ 0) × (u ≡ unstores (posts (stores v k) k w Done))) ⊎ ((n ≡ 1) × (u ≡ unstores (posts (stores v k) k w (Occupied w)))) → PostTells v k w u r
  post_tells_at v u k w n r is (inl t) = let d : r ≡ Done = is ∙ ap (λ m. posted_as m w) t.0 in record { view = ap settled t.1 ∙ ap (posts (settled v) k w) (sym d); found = inl d; same = subst (λ (x : View W). (x.about ≡ v.about) × (x.seats ≡ v.seats) × (x.out ≡ v.out)) (sym t.1) (posts_same v k w Done) }
  post_tells_at v u k w n r is (inr t) = let d : r ≡ Occupied w = is ∙ posted_full n w t.0 in record { view = ap settled t.1 ∙ ap (posts (settled v) k w) (sym d); found = inr d; same = subst (λ (x : View W). (x.about ≡ v.about) × (x.seats ≡ v.seats) × (x.out ≡ v.out)) (sym t.1) (posts_same v k w (Occupied w)) }

  pub post_tells : (v v' u : View W) (k w n : ℕ) (r : Posted) → v' ≡ stores v k → r ≡ posted_as n w → ((n ≡ 0) × (u ≡ unstores (posts v' k w Done))) ⊎ ((n ≡ 1) × (u ≡ unstores (posts v' k w (Occupied w)))) → PostTells v k w u r
  post_tells v v' u k w n r e is told = post_tells_at v u k w n r is (subst (λ x. ((n ≡ 0) × (u ≡ unstores (posts x k w Done))) ⊎ ((n ≡ 1) × (u ≡ unstores (posts x k w (Occupied w))))) e told)

pub if_map : (o : Option ℕ) {P Q : ℕ → Type 0} → ((w : ℕ) → P w → Q w) → IfSome o P → IfSome o Q
if_map None f h = tt
if_map (Some w) f h = f w h

module _ {W T : Type 0} (list : W → List ℕ) (good : W → T → ℕ → Type 0) (posted : W → T → List (ℕ × ℕ)) (about : About W) where
  abbrev OutTold : Me (Option T) (View W) → ℕ → ℕ → Me (Option T) (View W) → Type 0
  OutTold me i n me' =
      ((n ≡ 1) × ((x : T) × good about.world x i × (me'.0 ≡ takes_out me.0 i (posted about.world x)) × (me'.1 ≡ (apart * i, Some x) ∷ me.1)))
      ⊎ ((n ≡ 0) × (me'.0 ≡ looks me.0 (length (list about.world) + i) n) × (me'.1 ≡ me.1) × (me.0.seats ≡ about.seats → Has me.0.out i))

  pub none_told : (me me' : Me (Option T) (View W)) (i n : ℕ) → OutTold me i n me' → n ≡ 0 → (me'.0 ≡ looks me.0 (length (list about.world) + i) 0) × (me'.1 ≡ me.1) × (me.0.seats ≡ about.seats → Has me.0.out i)
  none_told me me' i n (inl t) z = absurd (let a = t.0 in omega arith)
  none_told me me' i n (inr t) z = (t.1 ∙ ap (looks me.0 (length (list about.world) + i)) z, t.2, t.3)

  pub some_told : (me me' : Me (Option T) (View W)) (i n : ℕ) → OutTold me i n me' → n ≢ 0 → (x : T) × good about.world x i × (me'.0 ≡ takes_out me.0 i (posted about.world x)) × (me'.1 ≡ (apart * i, Some x) ∷ me.1)
  some_told me me' i n (inl t) z = t.1
  some_told me me' i n (inr t) z = absurd (z t.0)

pub same_head : {X : Type 0} (i : ℕ) (a b : X) (us bs : List (ℕ × X)) → (i, a) ∷ us ≡ (i, b) ∷ bs → a ≡ b
same_head {X} i a b us bs e = ap (λ l. head_or l a) e
  where
    head_or : List (ℕ × X) → X → X
    head_or [] d = d
    head_or (x ∷ xs) d = x.1
