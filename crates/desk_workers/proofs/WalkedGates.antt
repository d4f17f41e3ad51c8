-- Walks of a desk through gates, on a board that is about its world.
use Rattle.std.proofs.Common.{◌≡◌, ℕ, ◌+◌, ◌/◌, ◌%◌, ◌<◌, ◌≤◌, length, Some, sym, ap, ◌∙◌, subst, inl, inr, arith}
use Rattle.std.specs.Prelude.{◌^◌}
use Rattle.std.proofs.lemmas.Bool.{cases_lt}
use Rattle.plan_model.specs.Plans.{Plan}
use Rattle.plan_model.specs.Numbers.{message}
use Rattle.share_world.specs.Laws.{IsWhole}
use Rattle.share_world.specs.Worlds.{World, word}
use Rattle.message_board.specs.Pairs.{Knows}
use Rattle.message_board.specs.Seats.{Sitting}
use Rattle.program_model.specs.declared.instruction.Instruction.{Instruction}
use Rattle.program_model.specs.declared.instruction.Instruction.TheVariants.{Post, Take}
use Rattle.program_model.specs.Programs.{at, program}
use Rattle.program_model.specs.Proper.{Proper}
use Rattle.program_model.specs.States.{Given}
use Rattle.party_desk.specs.declared.desk.Desk.{Desk}
use Rattle.party_desk.specs.Desks.{IsDesk}
use Rattle.party_desk.specs.Steps as steps
use Rattle.desk_walks.specs.Walks.{MayWalk, HasWords, Walks}
use Rattle.program_laws.specs.Lawful.{given_to, Lawful}
use Rattle.program_laws.proofs.LawfulWorlds.{lawful}
use Rattle.desk_workers.specs.declared.promised.Promised.{Promised}
use Rattle.desk_workers.specs.Promises.{words_of}
use Rattle.desk_workers.specs.Pools.{StandsInWorld, Leads}
use Rattle.desk_workers.proofs.PostedPairs.{word_at, word_is}

module _ (w : World) (whole : IsWhole w) (k : ℕ) (d : Desk) (h : IsDesk (given_to w k) d) where
  abbrev s : ℕ
  s = k / w.plan.parties

  abbrev p : ℕ
  p = k % w.plan.parties

  abbrev given : Given
  given = given_to w k

  law : Lawful w
  law = lawful w whole

  proper_at : (q : ℕ) (i : Instruction) → at (program w.plan p s) q ≡ i → Proper w.plan s i
  proper_at q i is = subst (Proper w.plan s) is (law.proper s p q h.suits.session h.suits.party)

  word_right : (q n i : ℕ) → at (program w.plan p s) q ≡ Post n i → steps.word_at given q n i ≡ word w (message w.plan n)
  word_right q n i is = law.right s p q n i h.suits.session h.suits.party is

  -- the words of the world's messages are what its desk posts and takes
  promises : HasWords given (words_of w)
  promises = record {
    posts = λ q n i is. word_at w n (proper_at q (Post n i) is).number ∙ ap Some (sym (word_right q n i is));
    takes = λ q n i is. word_at w n (proper_at q (Take n i) is).number;
    below = λ n v e. (let is = word_is w n v e in subst (λ z. z < 2 ^ w.plan.bits) (sym is.1) (law.small n is.0));
  }

  pub may_walk : (plan : Plan) → w.plan ≡ plan → MayWalk plan (words_of w) given d
  may_walk plan same = record { goes = record { same = same; desk = h }; promises = promises }

  module _ (a b : Sitting Promised) (e : Desk) (n : ℕ) (before : StandsInWorld w a.view.seen k d) (walks : Walks given a d b e) (more : e.position ≡ d.position + n) where
    posted_now : (q m i : ℕ) → q < e.position → at (program w.plan p s) q ≡ Post m i → Knows b.view.seen m (word w (message w.plan m))
    posted_now q m i less is = elim (cases_lt q d.position) [
      | inl early ↦ walks.grows m (word w (message w.plan m)) (before.posted q m i early is)
      | inr late ↦ subst (Knows b.view.seen m) (word_right q m i is) (walks.posted q m i late less is)
    ]

    -- instructions of gates lead on
    walks_lead : (n ≡ 0 → e ≡ d) → Leads w k a d b e n
    walks_lead still =
        let short : e.position ≤ length (program w.plan p s) = walks.desk.position in
        let all : d.instructions ≡ length (program w.plan p s) = h.instructions in
        let same : e.instructions ≡ length (program w.plan p s) = walks.desk.instructions in
        record {
          stands = record { desk = walks.desk; posted = posted_now };
          counts = omega (arith, more, short, all, same);
          still = still;
          grows = walks.grows;
          seats = walks.seats;
          out = walks.out;
        }

  -- the same, of a desk that may walk
  pub gates_lead : (plan : Plan) (a b : Sitting Promised) (e : Desk) (n : ℕ) → w.plan ≡ plan → StandsInWorld w a.view.seen k d → (MayWalk plan (words_of w) given d → Walks given a d b e) → e.position ≡ d.position + n → (n ≡ 0 → e ≡ d) → Leads w k a d b e n
  gates_lead plan a b e n same before walks more still = walks_lead a b e n before (walks (may_walk plan same)) more still
