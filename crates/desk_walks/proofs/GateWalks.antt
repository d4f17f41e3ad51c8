-- Instructions at gates, one after another.
use Rattle.std.proofs.Common.{◌≡◌, ◌≢◌, ℕ, ◌+◌, ◌-◌, ◌<◌, ◌≤◌, Bool, true, false, if◌then◌else◌, List, refl, sym, ap, ◌∙◌, subst, inl, inr, arith}
use Rattle.std.proofs.lemmas.Bool.{cases_lt}
use Rattle.plan_model.specs.Plans.{Plan, slot}
use Rattle.message_board.specs.Seats.{Sitting}
use Rattle.party_program.specs.declared.place.Place.{Place}
use Rattle.program_model.specs.declared.instruction.Instruction.{Instruction}
use Rattle.program_model.specs.declared.instruction.Instruction.TheVariants.{Deal, Post, End}
use Rattle.program_model.specs.Programs.{program, at}
use Rattle.party_program.specs.ProgramPlaces.{IsPlace}
use Rattle.program_model.specs.Proper.{Proper, IsGivenWord}
use Rattle.program_model.specs.States.{Given}
use Rattle.party_desk.specs.declared.desk.Desk.{Desk}
use Rattle.party_desk.specs.declared.memory.Memory.{Memory}
use Rattle.party_desk.specs.Memories.{CanDeal, IsMemoryOf}
use Rattle.party_desk.specs.Desks.{Advanced, IsDesk, NamesSlot, Stands, instruction_at}
use Rattle.party_desk.specs.Steps.{word_at}
use Rattle.desk_walks.specs.Walks.{IsDeskOfPlan, MayWalk, NoPosts, Computes, Walks, at_place}
use Rattle.party_desk.proofs.AllowedSteps.{deals, names_own, proper_own, stands, stays}

-- only its place tells where a desk stands in its program
pub moved_place : (l : Given) (d : Desk) (place : Place) → IsDesk l d → IsPlace l.plan l.party l.session place d.position → IsDesk l (at_place d place)
moved_place l d place h is = record {
  suits = h.suits;
  party = h.party;
  session = h.session;
  own_program = h.own_program;
  instructions = h.instructions;
  place = is;
  position = h.position;
  sent = h.sent;
  taken = h.taken;
  fits = h.fits;
  inputs = h.inputs;
  piece = h.piece;
  tape = h.tape;
  memory = record { rows = h.memory.rows; own = h.memory.own; sums = h.memory.sums; excess = h.memory.excess; given = h.memory.given; outputs = h.memory.outputs };
}

-- a desk goes by few instructions
pub few_done : (l : Given) (d : Desk) → IsDesk l d → d.position < 4294967295
few_done l d h = (stands l d h).position

-- a desk that went on has less before it, and one that did not goes round no more
pub fewer : (p q : ℕ) (goes before : Bool) → before ≡ true → p ≤ q → (goes ≡ true → p < q) → q < 4294967295 → 4294967296 - q + (if goes then 1 else 0) < 4294967296 - p + (if before then 1 else 0)
fewer p q true true is forth on few = let more = on refl in omega (arith, more, few)
fewer p q false true is forth on few = omega (arith, forth, few)
fewer p q goes false is forth on few = absurd (let clash : false ≡ true = is in cc)

-- another memory that fits changes nothing of where the desk stands
pub stands_with : (plan : Plan) (d : Desk) (m : Memory) → Stands plan d → IsMemoryOf plan d.session m → Stands plan (record d { memory = m })
stands_with plan d m h fits = record {
  sound = h.sound;
  session = h.session;
  party = h.party;
  own_program = h.own_program;
  place = h.place;
  position = h.position;
  sent = h.sent;
  taken = h.taken;
  fits = fits;
}

-- ---- what a desk of this plan may do

module _ (plan : Plan) (l : Given) (d : Desk) (goes : IsDeskOfPlan plan l d) where
  pub goes_stand : Stands plan d
  goes_stand = subst (λ z. Stands z d) goes.same (stands l d goes.desk)

  pub goes_proper : (i : Instruction) → i ≡ instruction_at l d → Proper plan d.session i
  goes_proper i is = subst (λ z. Proper z d.session i) goes.same (subst (Proper l.plan d.session) (sym is) (proper_own l d goes.desk))

  pub goes_names : (i : Instruction) → i ≡ instruction_at l d → NamesSlot plan d.session i d.place.slot
  goes_names i is =
      subst (λ z. NamesSlot plan z i d.place.slot) (sym goes.desk.session)
      (subst (λ z. NamesSlot z l.session i d.place.slot) goes.same (subst (λ j. NamesSlot l.plan l.session j d.place.slot) (sym is) (names_own l d goes.desk)))

  -- a deal finds its words
  pub goes_deals : (k j : ℕ) → Deal k j ≡ instruction_at l d → CanDeal plan (slot plan d.session k) d.memory
  goes_deals k j is =
      subst (λ z. CanDeal z (slot z d.session k) d.memory) goes.same
      (subst (λ z. CanDeal l.plan (slot l.plan z k) d.memory) (sym goes.desk.session) (deals l d goes.desk k j (sym is)))

-- ---- instructions without a post

module _ (l : Given) where
  pub posts_on : (q r s : ℕ) → NoPosts l q r → NoPosts l r s → NoPosts l q s
  posts_on q r s a b x n i from to is = elim (cases_lt x r) [
    | inl less ↦ a x n i from less is
    | inr more ↦ b x n i more to is
  ]

  pub rest_computes : (d : Desk) → IsDesk l d → Computes l d d
  rest_computes d h = record { desk = h; forth = omega arith; no_post = λ x n i from to is. absurd (omega (arith, from, to)) }

  pub computes_on : (d e f : Desk) → Computes l d e → Computes l e f → Computes l d f
  computes_on d e f a b =
      let first = a.forth in
      let second = b.forth in
      record {
        desk = b.desk;
        forth = omega (arith, first, second);
        no_post = posts_on d.position e.position f.position a.no_post b.no_post;
      }

  -- the same, where the desk between is not placed yet
  pub silent_computes : (d e f : Desk) → NoPosts l d.position e.position → d.position ≤ e.position → Computes l e f → Computes l d f
  silent_computes d e f silent forth after =
      let more = after.forth in
      record {
        desk = after.desk;
        forth = omega (arith, forth, more);
        no_post = posts_on d.position e.position f.position silent after.no_post;
      }

  -- one instruction that is no post and takes what is given
  pub one_computes : (d e : Desk) (w : ℕ) (i : Instruction) → IsDesk l d → instruction_at l d ≡ i → i ≢ End → ((n j : ℕ) → i ≢ Post n j) → IsGivenWord l w i → Advanced l.plan w i d e → Computes l d e
  one_computes d e w i h is ne no_post given a =
      let more = a.position in
      record {
        desk = stays l d h e w i is ne given a;
        forth = omega (arith, more);
        no_post = λ x n j from to at'.
            let here : x ≡ d.position = omega (arith, from, to, more) in
            no_post n j (sym is ∙ ap (at (program l.plan l.party l.session)) (sym here) ∙ at');
      }

-- ---- instructions with posts

module _ {W : Type 0} (l : Given) where
  pub rest_walks : (s : Sitting W) (d : Desk) → IsDesk l d → Walks l s d s d
  rest_walks s d h = record {
    desk = h;
    forth = omega arith;
    posted = λ x n i from to is. absurd (omega (arith, from, to));
    grows = λ n v known. known;
    seats = refl;
    out = refl;
  }

  pub computes_walk : (s : Sitting W) (d e : Desk) → Computes l d e → Walks l s d s e
  computes_walk s d e a = record {
    desk = a.desk;
    forth = a.forth;
    posted = λ x m i from to is. absurd (a.no_post x m i from to is);
    grows = λ m v known. known;
    seats = refl;
    out = refl;
  }

  pub walks_on : (s t u : Sitting W) (d e f : Desk) → Walks l s d t e → Walks l t e u f → Walks l s d u f
  walks_on s t u d e f a b =
      let first = a.forth in
      let second = b.forth in
      record {
        desk = b.desk;
        forth = omega (arith, first, second);
        posted = λ x k i from to is. elim (cases_lt x e.position) [
          | inl l' ↦ b.grows k (word_at l x k i) (a.posted x k i from l' is)
          | inr l' ↦ b.posted x k i l' to is
        ];
        grows = λ k v known. b.grows k v (a.grows k v known);
        seats = b.seats ∙ a.seats;
        out = b.out ∙ a.out;
      }

-- ---- after some instructions a desk may go on

pub computes_may : (plan : Plan) (list : List ℕ) (l : Given) (d e : Desk) → MayWalk plan list l d → Computes l d e → MayWalk plan list l e
computes_may plan list l d e may a = record { goes = record { same = may.goes.same; desk = a.desk }; promises = may.promises }

pub walks_may : {W : Type 0} (plan : Plan) (list : List ℕ) (l : Given) (s t : Sitting W) (d e : Desk) → MayWalk plan list l d → Walks l s d t e → MayWalk plan list l e
walks_may plan list l s t d e may a = record { goes = record { same = may.goes.same; desk = a.desk }; promises = may.promises }
