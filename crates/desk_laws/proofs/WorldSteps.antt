-- A step of a desk of a world.
use Rattle.std.proofs.Common.{◌≡◌, ℕ, ◌≤◌, length, refl, sym, ap, ◌∙◌, subst, arith}
use Rattle.std.specs.Prelude.{Some}
use Rattle.std.proofs.lemmas.Bool.{cases_eq, cases_lt}
use mathlib.Core.Logic.{inl, inr}
use Rattle.circuit_model.proofs.SetAt.{set_here, set_there}
use Rattle.plan_model.specs.Plans.{Plan}
use Rattle.plan_model.specs.Numbers.{message}
use Rattle.share_world.specs.Worlds.{World, word}
use Rattle.share_world.proofs.SmallWords.{is_plan}
use Rattle.message_board.specs.declared.cells.Cells.{Ghosts as Meaning}
use Rattle.program_model.specs.declared.instruction.Instruction.{Instruction}
use Rattle.program_model.specs.declared.instruction.Instruction.TheVariants.{Draw, Deal, Post, Take, Linear, Own, Sum, Open, Join, Deliver, End}
use Rattle.program_model.specs.Programs.{program, at}
use Rattle.program_model.specs.States.{Given}
use Rattle.program_model.specs.Proper.{Proper}
use Rattle.party_desk.specs.declared.desk.Desk.{Desk}
use Rattle.party_desk.specs.declared.desk.Stepped.{Stepped}
use Rattle.party_desk.specs.declared.desk.Stepped.TheVariants.{Moved, NotYet, Ended}
use Rattle.party_desk.specs.Desks.{IsDesk, instruction_at}
use Rattle.party_desk.specs.Steps.{word_at, with_word, Allows, MayStep, Does, Steps}
use Rattle.party_desk.proofs.AllowedSteps.{goes_by}
use Rattle.program_laws.specs.Lawful.{given_in, Lawful}
use Rattle.program_laws.proofs.LawfulWorlds.{lawful}
use Rattle.program_laws.proofs.OncePosted.{once}
use Rattle.desk_laws.specs.InWorld.{MayStepIn, DoesIn, StepsIn}
use Rattle.program_laws.proofs.Ranks.{end_is_last}

module _ {C : Type 0} (cells : Meaning C) (plan : Plan) (w : World) (s p : ℕ) (c : C) (d : Desk) (may : MayStepIn cells plan w s p c d) where
  abbrev l : Given
  l = given_in w s p

  abbrev i : Instruction
  i = instruction_at l d

  law : Lawful w
  law = lawful w may.whole

  here : i ≡ at (program w.plan p s) d.position
  here = refl

  proper : (e : Instruction) → i ≡ e → Proper w.plan s e
  proper e is = subst (Proper w.plan s) (sym here ∙ is) (law.proper s p d.position may.desk.suits.session may.desk.suits.party)

  word_is : (n j : ℕ) → i ≡ Post n j → word_at l d.position n j ≡ word w (message w.plan n)
  word_is n j is = law.right s p d.position n j may.desk.suits.session may.desk.suits.party (sym here ∙ is)

  sender_is : (n j : ℕ) → i ≡ Post n j → (message w.plan n).sender ≡ p
  sender_is n j is = sym ((once w.plan n (is_plan w may.whole) (proper (Post n j) is).number).posted.alone p s d.position j (sym here ∙ is)).0

  receiver_is : (n j : ℕ) → i ≡ Take n j → (message w.plan n).receiver ≡ p
  receiver_is n j is = sym ((once w.plan n (is_plan w may.whole) (proper (Take n j) is).number).taken.alone p s d.position j (sym here ∙ is)).0

  allows_at : (e : Instruction) → i ≡ e → Allows cells c l d.position e
  allows_at (Draw k) is = tt
  allows_at (Deal k j) is = tt
  allows_at (Post n j) is = subst (cells.may_post c n) (sym (word_is n j is)) (may.serves.posts n (proper (Post n j) is).number (sender_is n j is))
  allows_at (Take n j) is = may.serves.takes n (proper (Take n j) is).number (receiver_is n j is)
  allows_at (Linear k) is = tt
  allows_at (Own k) is = tt
  allows_at (Sum k) is = tt
  allows_at (Open k) is = tt
  allows_at (Join k) is = tt
  allows_at (Deliver k) is = tt
  allows_at End is = tt

  -- the desk may step for what the world gives it
  pub may_for : MayStep cells plan c (given_in w s p) d
  may_for = record {
    same = may.same;
    desk = may.desk;
    allows = allows_at i refl;
  }

  pub below : cells.below c plan.bits
  below = subst (λ (z : Plan). cells.below c z.bits) may.same may.serves.below

  -- ---- what a step leaves

  module _ (e : Desk) (f : C) where
    -- the word that was taken is what the desk goes by
    hears : (n v : ℕ) → v ≡ word w (message w.plan n) → IsDesk (with_word (given_in w s p) n v) e → IsDesk (given_in w s p) e
    hears n v is h = goes_by (with_word (given_in w s p) n v) (λ m. word w (message w.plan m)) e h (λ q m j less at'. elim (cases_eq m n) [
      | inl eq ↦ set_here l.got n m v eq ∙ is ∙ ap (λ z. word w (message w.plan z)) (sym eq)
      | inr ne ↦ set_there l.got n m v ne
    ])

    does : (j : Instruction) → i ≡ j → Does cells (given_in w s p) d c e f j → DoesIn cells w p c f j × IsDesk (given_in w s p) e
    does (Draw k) is x = (x.0, x.1)
    does (Deal k n) is x = (x.0, x.1)
    does (Post n k) is x = (record { there = (proper (Post n k) is).number; sender = sender_is n k is; answer = x.0.0; put = subst (λ z. cells.put c n z x.0.0 f) (word_is n k is) x.0.1 }, x.1)
    does (Take n k) is x =
        let right : x.0 ≡ word w (message w.plan n) = may.serves.gives n x.0 f x.1 x.2 in
        (record { there = (proper (Take n k) is).number; receiver = receiver_is n k is; took = subst (λ z. cells.took c n (Some z) f) right x.1 }, hears n x.0 right x.3)
    does (Linear k) is x = (x.0, x.1)
    does (Own k) is x = (x.0, x.1)
    does (Sum k) is x = (x.0, x.1)
    does (Open k) is x = (x.0, x.1)
    does (Join k) is x = (x.0, x.1)
    does (Deliver k) is x = (x.0, x.1)
    does End is x = absurd x

    at_end : i ≡ End → d.position ≡ length (program w.plan p s)
    at_end is = elim (cases_lt d.position (length (program w.plan p s))) [
      | inl b ↦ absurd (end_is_last w.plan may.whole.sound s may.desk.suits.session p d.position b (sym here ∙ is))
      | inr past ↦ (let a : d.position ≤ length (program w.plan p s) = may.desk.position in omega arith)
    ]

    pub steps_in : (r : Stepped) → Steps cells (given_in w s p) d c e f i r → StepsIn cells w s p d c e f i r
    steps_in Moved x = (let both = does i refl x.1 in (x.0, both.0, both.1))
    steps_in (NotYet m) x = x
    steps_in Ended x = (at_end x.0, x.1, x.2)
