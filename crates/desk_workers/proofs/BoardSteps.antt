-- Steps of a desk on a board, one after another.
use Rattle.std.proofs.Common.{◌≡◌, ℕ, ◌+◌, ◌/◌, ◌%◌, ◌<◌, List, ◌∷◌, length, Option, Some, None, refl, sym, ap, ◌∙◌, subst, inl, inr, arith}
use Rattle.std.specs.Prelude.{slice_get, ◌^◌}
use Rattle.std.specs.declared.alloc.Global.{Global}
use Rattle.std.specs.declared.boxed.Box.{Box}
use Rattle.plan_model.specs.Plans.{Plan}
use Rattle.plan_model.specs.Numbers.{message}
use Rattle.share_world.specs.Laws.{IsWhole}
use Rattle.share_world.specs.Worlds.{World, word}
use Rattle.message_board.specs.declared.cells.Posted.{Posted}
use Rattle.message_board.specs.declared.cells.Cells.{Ghosts as Meaning}
use Rattle.message_board.specs.Pairs.{Knows, Grows}
use Rattle.message_board.specs.Seats.{BoardModel, Sitting, IsSeatOf, HasPosted, HasTaken, AllBelow}
use Rattle.program_model.specs.declared.instruction.Instruction.{Instruction}
use Rattle.program_model.specs.declared.instruction.Instruction.TheVariants.{Draw, Deal, Post, Take, Linear, Own, Sum, Open, Join, Deliver, End}
use Rattle.party_desk.specs.declared.desk.Desk.{Desk}
use Rattle.party_desk.specs.declared.desk.Stepped.{Stepped}
use Rattle.party_desk.specs.declared.desk.Stepped.TheVariants.{Moved, NotYet, Ended}
use Rattle.party_desk.specs.Desks.{instruction_at}
use Rattle.desk_walks.proofs.GatePosts.{post_view}
use Rattle.program_laws.specs.Lawful.{given_to, program_of}
use Rattle.program_laws.proofs.LawfulWorlds.{lawful}
use Rattle.message_board.specs.declared.seat_at.SeatAt.{SeatAt}
use Rattle.desk_laws.specs.InWorld.{DoesIn, StepsIn, MayStepIn}
use Rattle.desk_laws.specs.Pools.{Stuck, moves_of, left}
use Rattle.desk_laws.proofs.StepCounts as counting
use Rattle.desk_laws.proofs.PostedWords.{posts_stay}
use Rattle.desk_workers.specs.declared.promised.Promised.{Promised}
use Rattle.desk_workers.specs.Promises.{world_in, words_of}
use Rattle.desk_workers.specs.Pools.{IsPool, StandsInWorld, Leads}
use Rattle.desk_workers.proofs.PostedPairs.{many_words, word_at, word_is}

-- a desk that can't move for what is known can't for less
pub stuck_less : (xs ys : List (ℕ × ℕ)) (w : World) (k q : ℕ) → Grows xs ys → Stuck (Knows ys) w k q → Stuck (Knows xs) w k q
stuck_less xs ys w k q more (inl e) = inl e
stuck_less xs ys w k q more (inr t) = inr (t.0, t.1, t.2, λ v known. t.3 v (more t.0 v known))

module _ (w : World) (k : ℕ) where
  pub at_rest : (s : Sitting Promised) (d : Desk) → StandsInWorld w s.view.seen k d → Leads w k s d s d 0
  at_rest s d h = record { stands = h; counts = omega arith; still = λ z. refl; grows = λ n v known. known; seats = refl; out = refl }

  pub follows : (s t u : Sitting Promised) (d e f : Desk) (m n : ℕ) → Leads w k s d t e m → Leads w k t e u f n → Leads w k s d u f (m + n)
  follows s t u d e f m n a b = record {
    stands = b.stands;
    counts = (let x = a.counts in let y = b.counts in omega arith);
    still = λ z. b.still (omega arith) ∙ a.still (omega arith);
    grows = λ j v known. b.grows j v (a.grows j v known);
    seats = b.seats ∙ a.seats;
    out = b.out ∙ a.out;
  }

-- few instructions are left
pub left_small : (w : World) → IsWhole w → (seen : List (ℕ × ℕ)) (k : ℕ) (d : Desk) → StandsInWorld w seen k d → left d < 2 ^ 32
left_small w whole seen k d h =
    let short : length (program_of w k) < 4294967295 = (lawful w whole).short (k % w.plan.parties) (k / w.plan.parties) in
    let same : d.instructions ≡ length (program_of w k) = h.desk.instructions in
    omega arith

-- ---- what a post and a take do to a seat

record Kept (s t : Sitting Promised) : Type 0 where
  pub grows : Grows s.view.seen t.view.seen
  pub seats : t.view.seats ≡ s.view.seats
  pub out : t.view.out ≡ s.view.out

same_seat : (s t : Sitting Promised) → t ≡ s → Kept s t
same_seat s t e = subst (Kept s) (sym e) record { grows = λ n v known. known; seats = refl; out = refl }

module _ (board : BoardModel Promised) (s t : Sitting Promised) where
  pub post_known : (n x : ℕ) (r : Posted) → HasPosted board s t n x r → Knows t.view.seen n x
  post_known n x r h =
      let is : t.view.seen ≡ (n, x) ∷ s.view.seen = ap (λ v. v.seen) h.1 ∙ (post_view s.view n x r h.2).0 in
      subst (λ l. Knows l n x) (sym is) (inl (refl, refl))

  post_keeps : (n x : ℕ) (r : Posted) → HasPosted board s t n x r → Kept s t
  post_keeps n x r h =
      let view = post_view s.view n x r h.2 in
      let is : t.view.seen ≡ (n, x) ∷ s.view.seen = ap (λ v. v.seen) h.1 ∙ view.0 in
      record {
        grows = λ j y known. subst (λ l. Knows l j y) (sym is) (inr known);
        seats = ap (λ v. v.seats) h.1 ∙ view.1;
        out = ap (λ v. v.out) h.1 ∙ view.2;
      }

  take_keeps : (list : Promised → List ℕ) (n : ℕ) (r : Option ℕ) → HasTaken list board s t n r → Kept s t
  take_keeps list n None h = record {
    grows = λ j y known. subst (λ v. Knows v.seen j y) (sym h.1.2) known;
    seats = ap (λ v. v.seats) h.1.2;
    out = ap (λ v. v.out) h.1.2;
  }
  take_keeps list n (Some x) h = record {
    grows = λ j y known. subst (λ v. Knows v.seen j y) (sym h.1) (inr known);
    seats = ap (λ v. v.seats) h.1;
    out = ap (λ v. v.out) h.1;
  }

-- ---- a step

module _ {C : Type 0} (cells : Meaning C) (seat_of : C → Sitting Promised) (list : Promised → List ℕ) (board : BoardModel Promised) (w : World) (k : ℕ) (c f : C) (d e : Desk)
    (put_is : (n v : ℕ) (a : Posted) → cells.put c n v a f → HasPosted board (seat_of c) (seat_of f) n v a)
    (took_is : (n : ℕ) (a : Option ℕ) → cells.took c n a f → HasTaken list board (seat_of c) (seat_of f) n a)
    (h : StandsInWorld w (seat_of c).view.seen k d) where
  abbrev s : ℕ
  s = k / w.plan.parties

  abbrev p : ℕ
  p = k % w.plan.parties

  abbrev Did : Stepped → Type 0
  Did r = StepsIn cells w s p d c e f (instruction_at (given_to w k) d) r

  does_keep : (i : Instruction) → DoesIn cells w p c f i → Kept (seat_of c) (seat_of f)
  does_keep (Draw a) x = same_seat _ _ (ap seat_of x)
  does_keep (Deal a b) x = same_seat _ _ (ap seat_of x)
  does_keep (Post n j) x = post_keeps board (seat_of c) (seat_of f) n (word w (message w.plan n)) x.answer (put_is n (word w (message w.plan n)) x.answer x.put)
  does_keep (Take n j) x = take_keeps board (seat_of c) (seat_of f) list n (Some (word w (message w.plan n))) (took_is n (Some (word w (message w.plan n))) x.took)
  does_keep (Linear a) x = same_seat _ _ (ap seat_of x)
  does_keep (Own a) x = same_seat _ _ (ap seat_of x)
  does_keep (Sum a) x = same_seat _ _ (ap seat_of x)
  does_keep (Open a) x = same_seat _ _ (ap seat_of x)
  does_keep (Join a) x = same_seat _ _ (ap seat_of x)
  does_keep (Deliver a) x = same_seat _ _ (ap seat_of x)
  does_keep End x = absurd x

  step_keeps : (r : Stepped) → Did r → Kept (seat_of c) (seat_of f)
  step_keeps Moved x = does_keep (instruction_at (given_to w k) d) x.1
  step_keeps (NotYet m) x = let y = counting.waited cells d e c f m (instruction_at (given_to w k) d) x in take_keeps board (seat_of c) (seat_of f) list y.number None (took_is y.number None y.none)
  step_keeps Ended x = same_seat _ _ (ap seat_of x.2)

  pub step_leads : (r : Stepped) → Did r → Leads w k (seat_of c) d (seat_of f) e (moves_of r)
  step_leads r x =
      let kept = step_keeps r x in record {
        stands = record {
          desk = counting.stays cells w s p c d h.desk e f r x;
          posted = posts_stay cells w s p c d h.desk e f r x (Knows (seat_of c).view.seen) (Knows (seat_of f).view.seen) h.posted kept.grows (λ n v a put. post_known board (seat_of c) (seat_of f) n v a (put_is n v a put));
        };
        counts = counting.counts cells w s p c d h.desk e f r x;
        still = counting.still cells w s p c d h.desk e f r x;
        grows = kept.grows;
        seats = kept.seats;
        out = kept.out;
      }

  none_known : (m v : ℕ) → HasTaken list board (seat_of c) (seat_of f) m None → Knows (seat_of c).view.seen m v → ⊥
  none_known m v took known = let no : None ≡ Some v = took.3 v known in cc

  pub step_stuck : (r : Stepped) → Did r → moves_of r ≡ 0 → Stuck (Knows (seat_of c).view.seen) w k d.position
  step_stuck Moved x z = absurd (omega arith)
  step_stuck (NotYet m) x z =
      let y = counting.waited cells d e c f m (instruction_at (given_to w k) d) x in
      inr (y.number, y.share, y.takes, λ v known. none_known y.number v (took_is y.number None y.none) known)
  step_stuck Ended x z = inl x.0

  -- what each put, each take and standing still leave holds after a step
  pub step_leaves : (P : Type 0) → ((n v : ℕ) (a : Posted) → cells.put c n v a f → P) → ((n : ℕ) (a : Option ℕ) → cells.took c n a f → P) → (f ≡ c → P) → (r : Stepped) → Did r → P
  step_leaves P put took same Moved x = does (instruction_at (given_to w k) d) x.1
    where
      does : (i : Instruction) → DoesIn cells w p c f i → P
      does (Draw a) x = same x
      does (Deal a b) x = same x
      does (Post n j) x = put n (word w (message w.plan n)) x.answer x.put
      does (Take n j) x = took n (Some (word w (message w.plan n))) x.took
      does (Linear a) x = same x
      does (Own a) x = same x
      does (Sum a) x = same x
      does (Open a) x = same x
      does (Join a) x = same x
      does (Deliver a) x = same x
      does End x = absurd x
  step_leaves P put took same (NotYet m) x = let y = counting.waited cells d e c f m (instruction_at (given_to w k) d) x in took y.number None y.none
  step_leaves P put took same Ended x = same x.2

-- ---- a step over a seat of a board

-- what a board with a seat means as cells
abbrev seat_cells : Meaning (SeatAt Promised (Box Desk Global))
seat_cells = record {
  may_post = λ c n v. IsSeatOf c.board.now c.seat.now × (slice_get (words_of (world_in c.board.now.about.world)) n ≡ Some v);
  may_take = λ c n. IsSeatOf c.board.now c.seat.now × (n < length (words_of (world_in c.board.now.about.world)));
  got = λ c n v. Knows c.seat.now.view.seen n v;
  put = λ c n v a f. (f.board ≡ c.board) × (f.seat.ghost_name ≡ c.seat.ghost_name) × HasPosted c.board.now c.seat.now f.seat.now n v a;
  took = λ c n a f. (f.board ≡ c.board) × (f.seat.ghost_name ≡ c.seat.ghost_name) × HasTaken (λ x. words_of (world_in x)) c.board.now c.seat.now f.seat.now n a;
  below = λ c k. AllBelow k (words_of (world_in c.board.now.about.world));
}

module _ (plan : Plan) (c : SeatAt Promised (Box Desk Global)) (pool : IsPool plan c.board.now) (seat : IsSeatOf c.board.now c.seat.now) (k : ℕ) (d : Desk) (h : StandsInWorld (world_in c.board.now.about.world) c.seat.now.view.seen k d) where
  abbrev here : World
  here = world_in c.board.now.about.world

  pub may_step : MayStepIn seat_cells plan here (k / here.plan.parties) (k % here.plan.parties) c d
  may_step = record {
    same = pool.same;
    whole = pool.whole;
    desk = h.desk;
    serves = record {
      below = λ n v e. let is = word_is here n v e in subst (λ z. z < 2 ^ here.plan.bits) (sym is.1) ((lawful here pool.whole).small n is.0);
      posts = λ n inside sender. (seat, word_at here n inside);
      takes = λ n inside receiver. (seat, subst (λ z. n < z) (sym (many_words here)) inside);
      gives = λ n v f took got. (word_is here n v took.2.2).1;
    };
  }

  module _ (f : SeatAt Promised (Box Desk Global)) (e : Desk) (r : Stepped) (did : StepsIn seat_cells here (k / here.plan.parties) (k % here.plan.parties) d c e f (instruction_at (given_to here k) d) r) where
    abbrev L : Type 0
    L = Leads here k c.seat.now d f.seat.now e (moves_of r)

    pub leads_on : L
    leads_on = step_leads seat_cells (λ x. x.seat.now) (λ x. words_of (world_in x)) c.board.now here k c f d e (λ n v a put. put.2) (λ n a took. took.2) h r did

    pub is_stuck : moves_of r ≡ 0 → Stuck (Knows c.seat.now.view.seen) here k d.position
    is_stuck = step_stuck seat_cells (λ x. x.seat.now) (λ x. words_of (world_in x)) c.board.now here k c f d e (λ n v a put. put.2) (λ n a took. took.2) h r did

    pub seated : (f.board ≡ c.board) × (f.seat.ghost_name ≡ c.seat.ghost_name) × IsSeatOf c.board.now f.seat.now
    seated = step_leaves seat_cells (λ x. x.seat.now) (λ x. words_of (world_in x)) c.board.now here k c f d e (λ n v a put. put.2) (λ n a took. took.2) h
        ((f.board ≡ c.board) × (f.seat.ghost_name ≡ c.seat.ghost_name) × IsSeatOf c.board.now f.seat.now)
        (λ n v a put. (put.0, put.1, put.2.0))
        (λ n a took. (took.0, took.1, took.2.0))
        (λ same. (ap (λ x. x.board) same, ap (λ x. x.seat.ghost_name) same, subst (λ x. IsSeatOf c.board.now x.seat.now) (sym same) seat))
        r did
