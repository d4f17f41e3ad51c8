-- The words of a world's messages, and the pairs that a desk posted.
use Rattle.std.proofs.Common.{◌≡◌, ℕ, zero, suc, ◌<◌, List, [], ◌∷◌, length, map, take, Some, refl, sym, ap, ◌∙◌, subst, inl, inr, arith}
use Rattle.std.specs.Prelude.{slice_get, slice_index, slice_index_or}
use Rattle.message_board.specs.Pairs.{Knows, Grows}
use Rattle.plan_model.specs.declared.key.Key.{Key}
use Rattle.plan_model.specs.Messages.{messages}
use Rattle.plan_model.specs.Numbers.{message, no_key}
use Rattle.share_world.specs.Worlds.{World, word}
use Rattle.program_model.specs.declared.instruction.Instruction.{Instruction}
use Rattle.program_model.specs.declared.instruction.Instruction.TheVariants.{Draw, Deal, Post, Take, Linear, Own, Sum, Open, Join, Deliver, End}
use Rattle.program_model.specs.Programs.{at, program}
use Rattle.party_desk.specs.declared.desk.Desk.{Desk}
use Rattle.party_desk.specs.Desks.{IsDesk}
use Rattle.program_laws.specs.Lawful.{given_to}
use Rattle.desk_workers.specs.Promises.{words_of, posted_pairs, posted_by}
use Rattle.desk_workers.specs.Pools.{StandsInWorld}

-- ---- words

length_words : (f : Key → ℕ) (ks : List Key) → length (map f ks) ≡ length ks
length_words f [] = refl
length_words f (k ∷ ks) = ap suc (length_words f ks)

pub many_words : (w : World) → length (words_of w) ≡ length (messages w.plan)
many_words w = length_words (word w) (messages w.plan)

get_at : (f : Key → ℕ) (ks : List Key) (n : ℕ) → n < length ks → slice_get (map f ks) n ≡ Some (f (slice_index_or ks n no_key))
get_at f [] n l = absurd (omega arith)
get_at f (k ∷ ks) zero l = refl
get_at f (k ∷ ks) (suc n) l = get_at f ks n (omega arith)

index_at : (f : Key → ℕ) (ks : List Key) (n : ℕ) → n < length ks → slice_index (map f ks) n ≡ f (slice_index_or ks n no_key)
index_at f [] n l = absurd (omega arith)
index_at f (k ∷ ks) zero l = refl
index_at f (k ∷ ks) (suc n) l = index_at f ks n (omega arith)

get_inside : (f : Key → ℕ) (ks : List Key) (n v : ℕ) → slice_get (map f ks) n ≡ Some v → n < length ks
get_inside f [] n v e = absurd (cc)
get_inside f (k ∷ ks) zero v e = omega arith
get_inside f (k ∷ ks) (suc n) v e = let r = get_inside f ks n v e in omega arith

module _ (w : World) where
  pub word_at : (n : ℕ) → n < length (messages w.plan) → slice_get (words_of w) n ≡ Some (word w (message w.plan n))
  word_at n l = get_at (word w) (messages w.plan) n l

  pub word_index : (n : ℕ) → n < length (messages w.plan) → slice_index (words_of w) n ≡ word w (message w.plan n)
  word_index n l = index_at (word w) (messages w.plan) n l

  pub word_is : (n v : ℕ) → slice_get (words_of w) n ≡ Some v → (n < length (messages w.plan)) × (v ≡ word w (message w.plan n))
  word_is n v e =
      let inside = get_inside (word w) (messages w.plan) n v e in
      (inside, (let both : Some v ≡ Some (word w (message w.plan n)) = sym e ∙ word_at n inside in cc))

  -- ---- pairs

  -- each pair is that of a post
  pub pairs_are : (has : ℕ → ℕ → Type 0) (p : ℕ) (es : List Instruction) → ((q n i : ℕ) → q < p → at es q ≡ Post n i → has n (word w (message w.plan n))) → (k v : ℕ) → Knows (posted_pairs w (take p es)) k v → has k v
  pairs_are has zero es h k v known = absurd known
  pairs_are has (suc p) [] h k v known = absurd known
  pairs_are has (suc p) (Post n i ∷ es) h k v (inl same) = subst (λ m. has m v) same.0 (subst (has n) same.1 (h 0 n i (omega arith) refl))
  pairs_are has (suc p) (Post n i ∷ es) h k v (inr known) = pairs_are has p es (λ q m j l e. h (suc q) m j (omega arith) e) k v known
  pairs_are has (suc p) (Draw a ∷ es) h k v known = pairs_are has p es (λ q m j l e. h (suc q) m j (omega arith) e) k v known
  pairs_are has (suc p) (Deal a b ∷ es) h k v known = pairs_are has p es (λ q m j l e. h (suc q) m j (omega arith) e) k v known
  pairs_are has (suc p) (Take a b ∷ es) h k v known = pairs_are has p es (λ q m j l e. h (suc q) m j (omega arith) e) k v known
  pairs_are has (suc p) (Linear a ∷ es) h k v known = pairs_are has p es (λ q m j l e. h (suc q) m j (omega arith) e) k v known
  pairs_are has (suc p) (Own a ∷ es) h k v known = pairs_are has p es (λ q m j l e. h (suc q) m j (omega arith) e) k v known
  pairs_are has (suc p) (Sum a ∷ es) h k v known = pairs_are has p es (λ q m j l e. h (suc q) m j (omega arith) e) k v known
  pairs_are has (suc p) (Open a ∷ es) h k v known = pairs_are has p es (λ q m j l e. h (suc q) m j (omega arith) e) k v known
  pairs_are has (suc p) (Join a ∷ es) h k v known = pairs_are has p es (λ q m j l e. h (suc q) m j (omega arith) e) k v known
  pairs_are has (suc p) (Deliver a ∷ es) h k v known = pairs_are has p es (λ q m j l e. h (suc q) m j (omega arith) e) k v known
  pairs_are has (suc p) (End ∷ es) h k v known = pairs_are has p es (λ q m j l e. h (suc q) m j (omega arith) e) k v known

  behind : (e : Instruction) (es : List Instruction) (k v : ℕ) → Knows (posted_pairs w es) k v → Knows (posted_pairs w (e ∷ es)) k v
  behind (Post n i) es k v known = inr known
  behind (Draw a) es k v known = known
  behind (Deal a b) es k v known = known
  behind (Take a b) es k v known = known
  behind (Linear a) es k v known = known
  behind (Own a) es k v known = known
  behind (Sum a) es k v known = known
  behind (Open a) es k v known = known
  behind (Join a) es k v known = known
  behind (Deliver a) es k v known = known
  behind End es k v known = known

  here : (e : Instruction) (es : List Instruction) (n i : ℕ) → e ≡ Post n i → Knows (posted_pairs w (e ∷ es)) n (word w (message w.plan n))
  here e es n i same = subst (λ z. Knows (posted_pairs w (z ∷ es)) n (word w (message w.plan n))) (sym same) (inl (refl, refl))

  -- each post is there
  pub post_there : (p : ℕ) (es : List Instruction) (q n i : ℕ) → q < p → at es q ≡ Post n i → Knows (posted_pairs w (take p es)) n (word w (message w.plan n))
  post_there zero es q n i l e = absurd (omega arith)
  post_there (suc p) [] q n i l e = absurd (let no : End ≡ Post n i = e in cc)
  post_there (suc p) (x ∷ es) zero n i l e = here x (take p es) n i e
  post_there (suc p) (x ∷ es) (suc q) n i l e = behind x (take p es) n (word w (message w.plan n)) (post_there p es q n i (omega arith) e)

  module _ (k : ℕ) (d : Desk) where
    -- who knows the posts knows the pairs, and the other way round
    pub covers : (seen : List (ℕ × ℕ)) → StandsInWorld w seen k d → Grows (posted_by w d) seen
    covers seen h n v known = pairs_are (Knows seen) d.position (program w.plan d.party d.session) (λ q m i l e. h.posted q m i l ((λ z. at (program w.plan (sym h.desk.party z) (sym h.desk.session z)) q) ∙ e)) n v known

    pub stands : (seen : List (ℕ × ℕ)) → IsDesk (given_to w k) d → Grows (posted_by w d) seen → StandsInWorld w seen k d
    stands seen h grows = record {
      desk = h;
      posted = λ q n i l e. grows n (word w (message w.plan n)) (post_there d.position (program w.plan d.party d.session) q n i l ((λ z. at (program w.plan (h.party z) (h.session z)) q) ∙ e));
    }

  pub stands_more : (xs ys : List (ℕ × ℕ)) (k : ℕ) (d : Desk) → Grows xs ys → StandsInWorld w xs k d → StandsInWorld w ys k d
  stands_more xs ys k d more h = record { desk = h.desk; posted = λ q n i l e. more n (word w (message w.plan n)) (h.posted q n i l e) }

  -- a desk at its start posted nothing
  pub nothing_posted : (d : Desk) → d.position ≡ 0 → posted_by w d ≡ []
  nothing_posted d start = ap (λ q. posted_pairs w (take q (program w.plan d.party d.session))) start
