-- Lists of seats, and how many seats they stand for.
use Rattle.std.proofs.Common.{◌≡◌, ℕ, zero, suc, ◌+◌, ◌<◌, List, [], ◌∷◌, ◌++◌, length, get_or, refl, sym, ap, ◌∙◌, arith}
use Rattle.message_board.specs.Pairs.{total_over}
use Rattle.message_board.specs.Seats.{BoardModel, Sitting, IsFreeSeatOf, AreSeatsOf, AreNewSeats}
use Rattle.desk_laws.proofs.Elements.{stands_at}
use Rattle.desk_workers.specs.declared.promised.Promised.{Promised}
use Rattle.desk_workers.specs.Pools.{AllFree, SameSeatCounts, seats_in}

pub free_of_new : (b : BoardModel Promised) (ss : List (Sitting Promised)) → AreNewSeats b ss → AllFree b ss
free_of_new b [] h i d less = absurd (omega arith)
free_of_new b (s ∷ ss) h zero d less = (h.0.0, ap (λ v. v.out) h.0.1)
free_of_new b (s ∷ ss) h (suc i) d less = free_of_new b ss h.1 i d (omega arith)

pub seats_in_new : (b : BoardModel Promised) (ss : List (Sitting Promised)) → AreNewSeats b ss → total_over seats_in ss ≡ length ss
seats_in_new b [] h = refl
seats_in_new b (s ∷ ss) h = let p : s.view.seats ≡ 1 = ap (λ v. v.seats) h.0.1 in let r = seats_in_new b ss h.1 in omega arith

pub seats_of_free : (b : BoardModel Promised) (ss : List (Sitting Promised)) → AllFree b ss → AreSeatsOf b ss
seats_of_free b [] h = tt
seats_of_free b (s ∷ ss) h = (h 0 s (omega arith), seats_of_free b ss (λ i d less. h (suc i) d (omega arith)))

pub same_total : (ss ts : List (Sitting Promised)) → length ts ≡ length ss → SameSeatCounts ss ts → total_over seats_in ts ≡ total_over seats_in ss
same_total [] [] e h = refl
same_total [] (t ∷ ts) e h = absurd (omega arith)
same_total (s ∷ ss) [] e h = absurd (omega arith)
same_total (s ∷ ss) (t ∷ ts) e h = let a : t.view.seats ≡ s.view.seats = h 0 s t refl refl in let r = same_total ss ts (omega arith) (λ i x y is now. h (suc i) x y is now) in omega arith

pub same_counts : (ss ts : List (Sitting Promised)) → ((i : ℕ) (d : Sitting Promised) → i < length ss → (get_or ts i d).view.seats ≡ (get_or ss i d).view.seats) → SameSeatCounts ss ts
same_counts ss ts h i s t is now =
    let before = stands_at ss i s s is in
    ap (λ x. x.view.seats) (sym (stands_at ts i t s now).1) ∙ h i s before.0 ∙ ap (λ x. x.view.seats) before.1

pub last_free : (b : BoardModel Promised) (ss : List (Sitting Promised)) (s : Sitting Promised) → AreSeatsOf b (ss ++ s ∷ []) → AreSeatsOf b ss × IsFreeSeatOf b s
last_free b [] s h = (tt, h.0)
last_free b (x ∷ xs) s h = let r = last_free b xs s h.1 in ((h.0, r.0), r.1)

pub total_last : (ss : List (Sitting Promised)) (s : Sitting Promised) → total_over seats_in (ss ++ s ∷ []) ≡ total_over seats_in ss + s.view.seats
total_last [] s = omega arith
total_last (x ∷ xs) s = let r = total_last xs s in omega arith

-- what holds of each element and of one more
pub each_more : {X : Type 0} (P : ℕ → X → Type 0) (l : List X) (x : X) → ((i : ℕ) (d : X) → i < length l → P i (get_or l i d)) → P (length l) x → (i : ℕ) (d : X) → i < length (l ++ x ∷ []) → P i (get_or (l ++ x ∷ []) i d)
each_more P [] x h p zero d less = p
each_more P [] x h p (suc i) d less = absurd (omega arith)
each_more P (y ∷ ys) x h p zero d less = h 0 d (omega arith)
each_more P (y ∷ ys) x h p (suc i) d less = each_more (λ k z. P (suc k) z) ys x (λ k e l. h (suc k) e (omega arith)) p i d (omega arith)
