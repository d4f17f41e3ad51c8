-- What a step of a desk of a world tells of the desk alone, over any cells.
use Rattle.std.proofs.Common.{◌≡◌, ℕ, zero, suc, ◌+◌, ◌<◌, List, [], ◌∷◌, length, get_or, set, refl, sym, ap, ◌∙◌, subst, arith}
use Rattle.std.specs.Prelude.{None}
use Rattle.std.proofs.lemmas.Bool.{cases_lt}
use Rattle.std.proofs.lemmas.List.{get_or_past}
use mathlib.Core.Logic.{inl, inr}
use Rattle.share_world.specs.Worlds.{World}
use Rattle.message_board.specs.declared.cells.Cells.{Ghosts as Meaning}
use Rattle.program_model.specs.declared.instruction.Instruction.{Instruction}
use Rattle.program_model.specs.declared.instruction.Instruction.TheVariants.{Draw, Deal, Post, Take, Linear, Own, Sum, Open, Join, Deliver, End}
use Rattle.program_model.specs.Programs.{program, at}
use Rattle.party_desk.specs.declared.desk.Desk.{Desk}
use Rattle.party_desk.specs.declared.desk.Stepped.{Stepped}
use Rattle.party_desk.specs.declared.desk.Stepped.TheVariants.{Moved, NotYet, Ended}
use Rattle.party_desk.specs.Desks.{IsDesk, Waits, instruction_at}
use Rattle.program_laws.specs.Lawful.{given_in}
use Rattle.desk_laws.specs.InWorld.{DoesIn, StepsIn}
use Rattle.desk_laws.specs.Pools.{moves_of, left, left_all}

pub left_set : (ds : List Desk) (k : ℕ) (e d : Desk) → k < length ds → left_all (set ds k e) + left (get_or ds k d) ≡ left_all ds + left e
left_set [] k e d l = absurd (omega arith)
left_set (x ∷ ds) zero e d l = omega arith
left_set (x ∷ ds) (suc k) e d l = let a = left_set ds k e d (omega arith) in omega arith

pub one_at_most : (r : Stepped) → moves_of r < 2
one_at_most Moved = omega arith
one_at_most (NotYet n) = omega arith
one_at_most Ended = omega arith

module _ {C : Type 0} (cells : Meaning C) where
  -- a desk that waits is as it was, and its cells found nothing
  pub record Waited (d e : Desk) (c f : C) (i : Instruction) : Type 0 where
    pub number : ℕ
    pub share : ℕ
    pub takes : i ≡ Take number share
    pub same : e ≡ d
    pub none : cells.took c number None f

  pub waited : (d e : Desk) (c f : C) (m : ℕ) (i : Instruction) → Waits cells d c e f m i → Waited d e c f i
  waited d e c f m (Take n j) x = record { number = n; share = j; takes = refl; same = x.1; none = x.2 }
  waited d e c f m (Draw k) x = absurd x
  waited d e c f m (Deal k j) x = absurd x
  waited d e c f m (Post k j) x = absurd x
  waited d e c f m (Linear k) x = absurd x
  waited d e c f m (Own k) x = absurd x
  waited d e c f m (Sum k) x = absurd x
  waited d e c f m (Open k) x = absurd x
  waited d e c f m (Join k) x = absurd x
  waited d e c f m (Deliver k) x = absurd x
  waited d e c f m End x = absurd x

  module _ (w : World) (s p : ℕ) (c : C) (d : Desk) (is_desk : IsDesk (given_in w s p) d) (e : Desk) (f : C) where
    here : instruction_at (given_in w s p) d ≡ at (program w.plan p s) d.position
    here = refl

    -- a desk that did an instruction was not at its end
    pub less : DoesIn cells w p c f (instruction_at (given_in w s p) d) → d.position < length (program w.plan p s)
    less does = elim (cases_lt d.position (length (program w.plan p s))) [
      | inl b ↦ b
      | inr past ↦ absurd (subst (DoesIn cells w p c f) (here ∙ get_or_past (program w.plan p s) d.position End past) does)
    ]

    pub still : (r : Stepped) → StepsIn cells w s p d c e f (instruction_at (given_in w s p) d) r → moves_of r ≡ 0 → e ≡ d
    still Moved x none = absurd (omega arith)
    still (NotYet m) x none = (waited d e c f m (instruction_at (given_in w s p) d) x).same
    still Ended x none = x.1

    pub counts : (r : Stepped) → StepsIn cells w s p d c e f (instruction_at (given_in w s p) d) r → moves_of r + left e ≡ left d
    counts Moved x =
        let inside = less x.1 in
        let before : d.instructions ≡ length (program w.plan p s) = is_desk.instructions in
        let after : e.instructions ≡ length (program w.plan p s) = x.2.instructions in
        let more : e.position ≡ d.position + 1 = x.0 in
        omega arith
    counts (NotYet m) x = let a = ap left (still (NotYet m) x refl) in omega arith
    counts Ended x = let a = ap left x.1 in omega arith

    pub stays : (r : Stepped) → StepsIn cells w s p d c e f (instruction_at (given_in w s p) d) r → IsDesk (given_in w s p) e
    stays Moved x = x.2
    stays (NotYet m) x = subst (IsDesk (given_in w s p)) (sym (still (NotYet m) x refl)) is_desk
    stays Ended x = subst (IsDesk (given_in w s p)) (sym x.1) is_desk
