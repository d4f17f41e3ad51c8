-- Steps of a desk on a board, for whatever inputs, tape and words it goes by.
use Rattle.std.proofs.Common.{◌≡◌, ◌≢◌, ℕ, ◌+◌, ◌<◌, List, length, Option, Some, None, refl, sym, ap, ◌∙◌, subst, inl, inr, arith}
use Rattle.std.specs.Prelude.{slice_get}
use Rattle.std.proofs.lemmas.Bool.{cases_eq}
use Rattle.std.proofs.lemmas.Option.{slice_get_within}
use Rattle.circuit_model.specs.Circuits.{set_at}
use Rattle.circuit_model.proofs.SetAt.{set_here, set_there}
use Rattle.plan_model.specs.Plans.{Plan}
use Rattle.message_board.specs.declared.cells.Posted.{Posted}
use Rattle.message_board.specs.declared.cells.Cells.{Ghosts as Meaning}
use Rattle.message_board.specs.Pairs.{Knows}
use Rattle.message_board.specs.declared.steps.View.{View}
use Rattle.message_board.specs.Seats.{BoardModel, Sitting, HasPosted, HasTaken}
use Rattle.program_model.specs.declared.instruction.Instruction.{Instruction}
use Rattle.program_model.specs.declared.instruction.Instruction.TheVariants.{Draw, Deal, Post, Take, Linear, Own, Sum, Open, Join, Deliver, End}
use Rattle.program_model.specs.Programs.{program, at}
use Rattle.program_model.specs.States.{Given}
use Rattle.party_desk.specs.declared.desk.Desk.{Desk}
use Rattle.party_desk.specs.declared.desk.Stepped.{Stepped}
use Rattle.party_desk.specs.declared.desk.Stepped.TheVariants.{Moved, NotYet, Ended}
use Rattle.party_desk.specs.Desks.{IsDesk, Waits, instruction_at}
use Rattle.party_desk.specs.Steps.{word_at, with_word, Allows, MayStep, Does, Steps}
use Rattle.desk_walks.specs.Walks.{Computes, HasWords, Sends, Walks}
use Rattle.party_desk.proofs.AllowedSteps.{goes_by}
use Rattle.desk_walks.proofs.GateWalks.{computes_walk, rest_walks}
use Rattle.desk_walks.proofs.GatePosts.{look_walks, one_sent, sent_walks, took_given}

-- ---- what a desk goes by, once the word that it took is the one that it goes by

got_same : (got : ℕ → ℕ) (n w m : ℕ) → w ≡ got n → set_at got n w m ≡ got m
got_same got n w m word = elim (cases_eq m n) [
  | inl e ↦ set_here got n m w e ∙ word ∙ ap got (sym e)
  | inr ne ↦ set_there got n m w ne
]

pub heard_same : (l : Given) (e : Desk) (n w : ℕ) → w ≡ l.got n → IsDesk (with_word l n w) e → IsDesk l e
heard_same l e n w word h = goes_by (with_word l n w) l.got e h (λ p m i less is. got_same l.got n w m word)

-- ---- a step

module _ {C W : Type 0} (cells : Meaning C) (seat_of : C → Sitting W) (list : W → List ℕ) (board : BoardModel W) (l : Given) (c : C) (d : Desk) (h : IsDesk l d) (words : HasWords l (list board.about.world)) where
  -- what it may rest on
  allows_at : (i : Instruction) → instruction_at l d ≡ i → ((n w : ℕ) → slice_get (list board.about.world) n ≡ Some w → cells.may_post c n w) → ((n : ℕ) → n < length (list board.about.world) → cells.may_take c n) → Allows cells c l d.position i
  allows_at (Post n j) is posts takes = posts n (word_at l d.position n j) (words.posts d.position n j is)
  allows_at (Take n j) is posts takes = takes n (slice_get_within (list board.about.world) n (l.got n) (words.takes d.position n j is))
  allows_at (Draw k) is posts takes = tt
  allows_at (Deal k j) is posts takes = tt
  allows_at (Linear k) is posts takes = tt
  allows_at (Own k) is posts takes = tt
  allows_at (Sum k) is posts takes = tt
  allows_at (Open k) is posts takes = tt
  allows_at (Join k) is posts takes = tt
  allows_at (Deliver k) is posts takes = tt
  allows_at End is posts takes = tt

  pub may_step : (plan : Plan) → l.plan ≡ plan → ((n w : ℕ) → slice_get (list board.about.world) n ≡ Some w → cells.may_post c n w) → ((n : ℕ) → n < length (list board.about.world) → cells.may_take c n) → MayStep cells plan c l d
  may_step plan same posts takes = record { same = same; desk = h; allows = allows_at (instruction_at l d) refl posts takes }

  module _ (f : C) (e : Desk) where
    module _ (P : Type 0) (put : (n w : ℕ) (a : Posted) → cells.put c n w a f → P) (took : (n : ℕ) (a : Option ℕ) → cells.took c n a f → P) (same : f ≡ c → P) where
      does_leave : (i : Instruction) → Does cells l d c e f i → P
      does_leave (Post n j) x = put n (word_at l d.position n j) x.0.0 x.0.1
      does_leave (Take n j) x = took n (Some x.0) x.1
      does_leave (Draw k) x = same x.0
      does_leave (Deal k j) x = same x.0
      does_leave (Linear k) x = same x.0
      does_leave (Own k) x = same x.0
      does_leave (Sum k) x = same x.0
      does_leave (Open k) x = same x.0
      does_leave (Join k) x = same x.0
      does_leave (Deliver k) x = same x.0
      does_leave End x = absurd x

      waits_leave : (m : ℕ) (i : Instruction) → Waits cells d c e f m i → P
      waits_leave m (Take n j) x = took n None x.2
      waits_leave m (Post n j) x = absurd x
      waits_leave m (Draw k) x = absurd x
      waits_leave m (Deal k j) x = absurd x
      waits_leave m (Linear k) x = absurd x
      waits_leave m (Own k) x = absurd x
      waits_leave m (Sum k) x = absurd x
      waits_leave m (Open k) x = absurd x
      waits_leave m (Join k) x = absurd x
      waits_leave m (Deliver k) x = absurd x
      waits_leave m End x = absurd x

      -- what each put, each take and standing still leave holds after a step
      pub step_leaves : (r : Stepped) → Steps cells l d c e f (instruction_at l d) r → P
      step_leaves Moved x = does_leave (instruction_at l d) x.1
      step_leaves (NotYet m) x = waits_leave m (instruction_at l d) x
      step_leaves Ended x = same x.2

    -- a step that found nothing to do leaves the desk as it was
    waits_same : (m : ℕ) (i : Instruction) → Waits cells d c e f m i → e ≡ d
    waits_same m (Take n j) x = x.1
    waits_same m (Post n j) x = absurd x
    waits_same m (Draw k) x = absurd x
    waits_same m (Deal k j) x = absurd x
    waits_same m (Linear k) x = absurd x
    waits_same m (Own k) x = absurd x
    waits_same m (Sum k) x = absurd x
    waits_same m (Open k) x = absurd x
    waits_same m (Join k) x = absurd x
    waits_same m (Deliver k) x = absurd x
    waits_same m End x = absurd x

    pub step_moved : (r : Stepped) → r ≡ Moved → Steps cells l d c e f (instruction_at l d) r → e.position ≡ d.position + 1
    step_moved Moved is x = x.0
    step_moved (NotYet m) is x = cc
    step_moved Ended is x = cc

    pub step_still : (r : Stepped) → r ≢ Moved → Steps cells l d c e f (instruction_at l d) r → e ≡ d
    step_still Moved ne x = absurd (ne refl)
    step_still (NotYet m) ne x = waits_same m (instruction_at l d) x
    step_still Ended ne x = x.1

    module _ (put_is : (n w : ℕ) (a : Posted) → cells.put c n w a f → HasPosted board (seat_of c) (seat_of f) n w a) (took_is : (n : ℕ) (a : Option ℕ) → cells.took c n a f → HasTaken list board (seat_of c) (seat_of f) n a) where
      -- an instruction without a message
      quiet : (i : Instruction) → instruction_at l d ≡ i → ((n j : ℕ) → i ≢ Post n j) → e.position ≡ d.position + 1 → f ≡ c → IsDesk l e → Walks l (seat_of c) d (seat_of f) e
      quiet i is none more same after =
          let computes : Computes l d e = record {
            desk = after;
            forth = omega (arith, more);
            no_post = λ x n j from to there.
                let here : x ≡ d.position = omega (arith, from, to, more) in
                none n j (sym is ∙ ap (at (program l.plan l.party l.session)) (sym here) ∙ there);
          } in
          subst (λ z. Walks l (seat_of c) d (seat_of z) e) (sym same) (computes_walk l (seat_of c) d e computes)

      does_walk : (i : Instruction) → instruction_at l d ≡ i → e.position ≡ d.position + 1 → Does cells l d c e f i → Walks l (seat_of c) d (seat_of f) e
      does_walk (Post n j) is more x =
          let posted = put_is n (word_at l d.position n j) x.0.0 x.0.1 in
          sent_walks l (seat_of c) (seat_of f) d e x.1
          (subst (λ q. Sends l (seat_of c) d.position (seat_of f) q) (sym more)
          (one_sent l (seat_of c) (seat_of f) d.position n j (word_at l d.position n j) x.0.0 is refl posted.1 posted.2))
      does_walk (Take n j) is more x =
          let taken = took_is n (Some x.0) x.1 in
          let word : x.0 ≡ l.got n = took_given x.0 (l.got n) (slice_get (list board.about.world) n) taken.2 (words.takes d.position n j is) in
          record {
            desk = heard_same l e n x.0 word x.3;
            forth = omega (arith, more);
            posted = λ q m i from to there.
                let here : q ≡ d.position = omega (arith, from, to, more) in
                let both : Take n j ≡ Post m i = sym is ∙ ap (at (program l.plan l.party l.session)) (sym here) ∙ there in cc;
            grows = λ k v known. subst (λ (z : View W). Knows z.seen k v) (sym taken.1) (inr known);
            seats = ap (λ (v : View W). v.seats) taken.1;
            out = ap (λ (v : View W). v.out) taken.1;
          }
      does_walk (Draw k) is more x = quiet (Draw k) is (λ n j z. cc) more x.0 x.1
      does_walk (Deal k j) is more x = quiet (Deal k j) is (λ n j z. cc) more x.0 x.1
      does_walk (Linear k) is more x = quiet (Linear k) is (λ n j z. cc) more x.0 x.1
      does_walk (Own k) is more x = quiet (Own k) is (λ n j z. cc) more x.0 x.1
      does_walk (Sum k) is more x = quiet (Sum k) is (λ n j z. cc) more x.0 x.1
      does_walk (Open k) is more x = quiet (Open k) is (λ n j z. cc) more x.0 x.1
      does_walk (Join k) is more x = quiet (Join k) is (λ n j z. cc) more x.0 x.1
      does_walk (Deliver k) is more x = quiet (Deliver k) is (λ n j z. cc) more x.0 x.1
      does_walk End is more x = absurd x

      waits_walk : (m : ℕ) (i : Instruction) → Waits cells d c e f m i → Walks l (seat_of c) d (seat_of f) e
      waits_walk m (Take n j) x =
          let looked = took_is n None x.2 in
          subst (Walks l (seat_of c) d (seat_of f)) (sym x.1)
          (look_walks l (seat_of c) (seat_of c) (seat_of f) d d _ _ looked.1.2 (rest_walks l (seat_of c) d h))
      waits_walk m (Post n j) x = absurd x
      waits_walk m (Draw k) x = absurd x
      waits_walk m (Deal k j) x = absurd x
      waits_walk m (Linear k) x = absurd x
      waits_walk m (Own k) x = absurd x
      waits_walk m (Sum k) x = absurd x
      waits_walk m (Open k) x = absurd x
      waits_walk m (Join k) x = absurd x
      waits_walk m (Deliver k) x = absurd x
      waits_walk m End x = absurd x

      pub step_walks : (r : Stepped) → Steps cells l d c e f (instruction_at l d) r → Walks l (seat_of c) d (seat_of f) e
      step_walks Moved x = does_walk (instruction_at l d) refl x.0 x.1
      step_walks (NotYet m) x = waits_walk m (instruction_at l d) x
      step_walks Ended x = subst (λ z. Walks l (seat_of c) d (seat_of z) e) (sym x.2) (subst (Walks l (seat_of c) d (seat_of c)) (sym x.1) (rest_walks l (seat_of c) d h))
