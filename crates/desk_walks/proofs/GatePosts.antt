-- Posts and takes of a product, one after another.
use Rattle.std.proofs.Common.{◌≡◌, ◌≢◌, ℕ, ◌+◌, ◌-◌, ◌<◌, ◌≤◌, ◌^◌, Bool, true, false, List, length, Option, Some, ◌∷◌, refl, sym, ap, ap₂, ◌∙◌, subst, inl, inr, arith}
use Rattle.std.specs.Prelude.{slice_index, slice_index_or}
use Rattle.std.proofs.lemmas.Bool.{cases_lt}
use Rattle.secret_sharing.specs.Schemes.{has_pair}
use Rattle.session_slots.specs.KeptWires.{sets_in}
use Rattle.plan_model.specs.declared.pattern.Pattern.TheVariants.{Multiplied}
use Rattle.plan_model.specs.Plans.{Plan, scheme, session, slot, slots}
use Rattle.plan_model.specs.Numbers.{message}
use Rattle.plan_model.specs.Sound.{IsSound}
use Rattle.message_board.specs.declared.cells.Posted.{Posted}
use Rattle.message_board.specs.declared.steps.View.{View}
use Rattle.message_board.specs.Pairs.{Knows}
use Rattle.message_board.specs.Rule.{posts, looks, sees}
use Rattle.message_board.specs.Seats.{Sitting, IsPostAnswer}
use Rattle.plan_model.proofs.PlanSchemes.{plan_is}
use Rattle.program_model.specs.declared.half.Half.TheVariants.{Head, Tail}
use Rattle.party_program.specs.declared.place.Place.{Place}
use Rattle.program_model.specs.declared.instruction.Instruction.{Instruction}
use Rattle.program_model.specs.declared.instruction.Instruction.TheVariants.{Post, Take, Sum, End}
use Rattle.party_program.specs.declared.step.Step.{Step}
use Rattle.program_model.specs.Programs.{half_program, program, at}
use Rattle.party_program.specs.PartySteps.{steps}
use Rattle.party_program.specs.ProgramPlaces.{position_of, InProduct, IsPlace, IsProgram}
use Rattle.program_model.specs.Proper.{IsGivenWord, IsSlot, Multiplies}
use Rattle.program_model.specs.States.{Given, posted, taking_slot, took_in}
use Rattle.party_program.proofs.GateSlots.{product_at, product_count, product_ends, product_there, product_two}
use Rattle.party_program.proofs.ProgramPlaces.{batch_of, count_at, half_within, in_slot, is_own}
use Rattle.program_laws.proofs.Lengths.{program_is_short}
use Rattle.program_laws.specs.WordsRead.{gate_at}
use Rattle.party_desk.specs.declared.desk.Desk.{Desk}
use Rattle.party_desk.specs.declared.memory.Memory.{Memory}
use Rattle.party_desk.specs.Memories.{state_of, row_of, on_rows, on_wires, added, Alike, GateWithin, IsMemoryOf, KeepsGiven}
use Rattle.row_steps.specs.Rows.{row, SameRow}
use Rattle.party_desk.specs.Desks.{Advanced, IsDesk, instruction_at, word_in_memory}
use Rattle.party_desk.specs.Steps.{word_at}
use Rattle.desk_walks.specs.Walks.{Computes, DoesHead, DoesSilentHead, IsBefore, IsDeskOfPlan, IsSending, NoPosts, NothingToCompute, Sends, Walks, WentOn, at_place, further, taken_on}
use Rattle.party_desk.proofs.AllowedSteps.{posts_right, stands, stays}
use Rattle.desk_walks.proofs.ComputedGates.{head_takes_none}
use Rattle.desk_walks.proofs.GateWalks.{goes_names, goes_proper, rest_walks}
use Rattle.desk_walks.proofs.GatePlaces.{place_on, position_more, product_gate, unplaced}
use Rattle.desk_walks.proofs.ProductSteps.{posts_there, product_long, takes_there}
use Rattle.party_desk.proofs.NamedRows.{slot_within_rows}
use Rattle.party_desk.proofs.RowStates.{AddsUp, added_on_rows, posted_of_product, products_add_up}

-- the instruction that was found at the place of a desk
module _ (plan : Plan) (l : Given) (d : Desk) (goes : IsDeskOfPlan plan l d) where
  pub goes_place : IsPlace plan d.program.party d.program.session d.place d.position
  goes_place =
      let own = goes.desk.own_program in
      subst (λ z. IsPlace z d.program.party d.program.session d.place d.position) goes.same
      (subst (λ z. IsPlace l.plan z d.program.session d.place d.position) (sym own.of_party)
      (subst (λ z. IsPlace l.plan l.party z d.place d.position) (sym own.of_session) goes.desk.place))

  pub goes_at : (i : Instruction) → ((q : ℕ) → IsPlace plan d.program.party d.program.session d.place q → i ≡ at (program plan d.program.party d.program.session) q) → i ≡ instruction_at l d
  goes_at i found =
      let own = goes.desk.own_program in
      found d.position goes_place ∙ (λ z. at (program (sym goes.same z) (own.of_party z) (own.of_session z)) d.position)

  -- the word that was found for a post
  pub goes_word : (n i w : ℕ) → instruction_at l d ≡ Post n i → w ≡ word_in_memory plan d n i → w ≡ word_at l d.position n i
  goes_word n i w is found = found ∙ ap (λ z. word_in_memory z d n i) (sym goes.same) ∙ posts_right l d goes.desk n i is

-- a desk at a product
module _ (plan : Plan) (l : Given) (d : Desk) (goes : IsDeskOfPlan plan l d) (in_product : InProduct Tail d.place) where
  abbrev there : l.session < length l.plan.sessions
  there = goes.desk.own_program.session_there

  pub product_within : d.place.slot < slots plan d.session
  product_within =
      subst (λ z. d.place.slot < slots z d.session) goes.same
      (subst (λ z. d.place.slot < slots l.plan z) (sym goes.desk.session)
      (product_there l.plan l.party l.session (plan_is l.plan goes.desk.own_program.sound) there Tail d.place in_product d.position goes.desk.place))

  -- the last instruction of its tail is the sum
  pub product_sum : d.place.done + 1 ≡ d.place.count → instruction_at l d ≡ Sum d.place.slot
  product_sum last =
      let here : d.position + 0 ≡ d.position = omega arith in
      sym (ap (at (program l.plan l.party l.session)) here)
      ∙ product_ends l.plan l.party l.session (plan_is l.plan goes.desk.own_program.sound) there d.place in_product d.position goes.desk.place 0 (omega (arith, last))

-- an instruction that was found further on in the tail of a product, where the memory alone has changed since
module _ (plan : Plan) (l : Given) (d e : Desk) (goes : IsDeskOfPlan plan l d) (in_product : InProduct Tail d.place) (at' : ℕ) (from : d.place.done ≤ at') (left : at' < d.place.count) (same : e ≡ record d { memory = e.memory }) where
  far : d.place.done + (at' - d.place.done) ≡ at'
  far = omega (arith, from)

  module _ (i : Instruction) (found : i ≡ slice_index_or (half_program plan e.program.party e.program.session d.place.half d.place.slot) at' End) where
    its : i ≡ slice_index_or (half_program l.plan l.party l.session Tail d.place.slot) at' End
    its =
        let own = goes.desk.own_program in
        let found_before : i ≡ slice_index_or (half_program plan d.program.party d.program.session d.place.half d.place.slot) at' End =
        subst (λ (z : Desk). i ≡ slice_index_or (half_program plan z.program.party z.program.session d.place.half d.place.slot) at' End) same found in
        found_before ∙ (λ z. slice_index_or (half_program (sym goes.same z) (own.of_party z) (own.of_session z) (in_product.0 z) d.place.slot) at' End)

    pub takes_next : instruction_at l (taken_on e (at' - d.place.done)) ≡ i
    takes_next =
        ap (λ (z : Desk). at (program l.plan l.party l.session) (z.position + (at' - d.place.done))) same
        ∙ product_at l.plan l.party l.session (plan_is l.plan goes.desk.own_program.sound) goes.desk.own_program.session_there Tail d.place in_product d.position goes.desk.place (at' - d.place.done) (omega (arith, from, left))
        ∙ ap (λ n. slice_index_or (half_program l.plan l.party l.session Tail d.place.slot) n End) far
        ∙ sym its

    -- before the last one it is a take
    pub take_found : at' + 1 < d.place.count → (n j : ℕ) × (i ≡ Take n j)
    take_found more =
        let there = takes_there l.plan l.party l.session (plan_is l.plan goes.desk.own_program.sound) goes.desk.own_program.session_there d.place d.position at' goes.desk.place in_product more in
        (there.0, there.1, its ∙ there.2)

-- the program of a desk is that of its party in its session
pub goes_program : (plan : Plan) (l : Given) (d : Desk) → IsDeskOfPlan plan l d → IsProgram plan d.program.party d.program.session d.program
goes_program plan l d goes =
    subst (λ z. IsProgram z d.program.party d.program.session d.program) goes.same
    (is_own l.plan l.party l.session d.program goes.desk.own_program)

-- a tail has so many steps
pub tail_long : (plan : Plan) (l : Given) (d : Desk) → IsDeskOfPlan plan l d → InProduct Tail d.place → d.place.count ≡ length (steps plan d.program.party Tail Multiplied)
tail_long plan l d goes in_product =
    product_long plan d.program.party d.program.session (plan_is plan (goes_program plan l d goes).sound) (goes_program plan l d goes).session_there Tail d.place in_product d.position (goes_place plan l d goes)

pub tail_listed : (plan : Plan) (l : Given) (d : Desk) (goes : IsDeskOfPlan plan l d) → InProduct Tail d.place → (list : List Step) → ((z : Plan) (p s : ℕ) → IsProgram z p s d.program → list ≡ steps z p Tail Multiplied) → d.place.count ≡ length list
tail_listed plan l d goes in_product list are =
    tail_long plan l d goes in_product ∙ ap (length {A = Step}) (sym (are plan d.program.party d.program.session (goes_program plan l d goes)))

-- it has few
pub half_few : (l : Given) (d : Desk) → IsDesk l d → d.place.done < d.place.count → d.place.count < 4294967295
half_few l d h left =
    let there = in_slot l.plan l.party l.session d.place d.position h.place left in
    let found = batch_of l.plan l.party l.session d.place d.position h.place there in
    let within = half_within l.plan l.party l.session d.place.batch d.place.end d.place.slot found.0 found.1 found.2 d.place.half in
    let count : d.place.count ≡ length (half_program l.plan l.party l.session d.place.half d.place.slot) = h.place.count ∙ count_at l.plan l.party l.session d.place.half d.place.slot there in
    let short = program_is_short l.plan h.suits.sound l.party l.session in
    omega (arith, within, count, short)

-- no take leaves the desk as it is
none_taken : (d : Desk) → d ≡ taken_on d 0
none_taken d i =
    let done : d.place.done ≡ d.place.done + 0 = omega arith in
    let position : d.position ≡ d.position + 0 = omega arith in
    let taken : d.taken ≡ d.taken + 0 = omega arith in
    record d { place = record d.place { done = done i }; position = position i; taken = taken i }

pub takes_start : {W : Type 0} (l : Given) (s : Sitting W) (d : Desk) → IsDesk l d → (n : ℕ) → 0 ≡ n → Walks l s d s (taken_on d n)
takes_start l s d h n none = subst (λ k. Walks l s d s (taken_on d k)) none (subst (Walks l s d s) (none_taken d) (rest_walks l s d h))

-- at the end of a tail no take comes next
pub none_at_sum : (l : Given) (d : Desk) (h : IsDesk l d) → InProduct Tail d.place → d.place.done + 1 ≡ d.place.count → (n i : ℕ) → instruction_at l d ≢ Take n i
none_at_sum l d h in_product last n i is =
    let both : Take n i ≡ Sum d.place.slot = sym is ∙ product_sum l.plan l d (record { same = refl; desk = h }) in_product last in cc

-- a promised word that was taken is the one that is given
pub took_given : (w got : ℕ) (found : Option ℕ) → found ≡ Some w → found ≡ Some got → w ≡ got
took_given w got found is promised = let both : Some w ≡ Some got = sym is ∙ promised in cc

-- ---- what a post and a take do to a seat

module _ {W : Type 0} where
  pub post_view : (v : View W) (n x : ℕ) (r : Posted) → IsPostAnswer x r → ((posts v n x r).seen ≡ (n, x) ∷ v.seen) × ((posts v n x r).seats ≡ v.seats) × ((posts v n x r).out ≡ v.out)
  post_view v n x r (inl e) = subst (λ r. ((posts v n x r).seen ≡ (n, x) ∷ v.seen) × ((posts v n x r).seats ≡ v.seats) × ((posts v n x r).out ≡ v.out)) (sym e) (refl, refl, refl)
  post_view v n x r (inr e) = subst (λ r. ((posts v n x r).seen ≡ (n, x) ∷ v.seen) × ((posts v n x r).seats ≡ v.seats) × ((posts v n x r).out ≡ v.out)) (sym e) (refl, refl, refl)

  -- ---- one post

  -- between two positions without a post
  pub none_sent : (l : Given) (s : Sitting W) (q r : ℕ) → q ≤ r → NoPosts l q r → Sends l s q s r
  none_sent l s q r forth none = record {
    forth = forth;
    posted = λ x n i from to is. absurd (none x n i from to is);
    grows = λ n v known. known;
    seats = refl;
    out = refl;
  }

  pub sent_on : (l : Given) (s t u : Sitting W) (q r v : ℕ) → Sends l s q t r → Sends l t r u v → Sends l s q u v
  sent_on l s t u q r v a b =
      let first = a.forth in
      let second = b.forth in
      record {
        forth = omega (arith, first, second);
        posted = λ x k i from to is. elim (cases_lt x r) [
          | inl less ↦ b.grows k (word_at l x k i) (a.posted x k i from less is)
          | inr past ↦ b.posted x k i past to is
        ];
        grows = λ k w known. b.grows k w (a.grows k w known);
        seats = b.seats ∙ a.seats;
        out = b.out ∙ a.out;
      }

  -- which led to a desk
  pub sent_walks : (l : Given) (s t : Sitting W) (d e : Desk) → IsDesk l e → Sends l s d.position t e.position → Walks l s d t e
  sent_walks l s t d e h a = record { desk = h; forth = a.forth; posted = a.posted; grows = a.grows; seats = a.seats; out = a.out }

  module _ (l : Given) (s t : Sitting W) (q n i w : ℕ) (r : Posted) (is : at (program l.plan l.party l.session) q ≡ Post n i) (word : w ≡ word_at l q n i) (view : t.view ≡ posts s.view n w r) (answer : IsPostAnswer w r) where
    knows : t.view.seen ≡ (n, w) ∷ s.view.seen
    knows = ap (λ (v : View W). v.seen) view ∙ (post_view s.view n w r answer).0

    pub one_sent : Sends l s q t (q + 1)
    one_sent = record {
      forth = omega arith;
      posted = λ x m j from to at'.
          let here : q ≡ x = omega (arith, from, to) in
          let both : Post n i ≡ Post m j = sym is ∙ ap (at (program l.plan l.party l.session)) here ∙ at' in
          let number : n ≡ m = cc in
          let share : i ≡ j = cc in
          subst (λ z. Knows t.view.seen m (word_at l z m j)) here
          (subst (λ z. Knows t.view.seen m (word_at l q m z)) share
          (subst (λ z. Knows t.view.seen z (word_at l q z i)) number
          (subst (λ z. Knows t.view.seen n z) word (subst (λ xs. Knows xs n w) (sym knows) (inl (refl, refl))))));
      grows = λ k v known. subst (λ xs. Knows xs k v) (sym knows) (inr known);
      seats = ap (λ (v : View W). v.seats) view ∙ (post_view s.view n w r answer).1;
      out = ap (λ (v : View W). v.out) view ∙ (post_view s.view n w r answer).2;
    }

  -- ---- one take

  -- a look at a cell
  module _ (l : Given) (s t u : Sitting W) (d e : Desk) (k n : ℕ) (view : u.view ≡ looks t.view k n) (so_far : Walks l s d t e) where
    pub look_walks : Walks l s d u e
    look_walks = record {
      desk = so_far.desk;
      forth = so_far.forth;
      posted = λ x m j from to at'. subst (λ (v : View W). Knows v.seen m (word_at l x m j)) (sym view) (so_far.posted x m j from to at');
      grows = λ m v known. subst (λ (z : View W). Knows z.seen m v) (sym view) (so_far.grows m v known);
      seats = ap (λ (v : View W). v.seats) view ∙ so_far.seats;
      out = ap (λ (v : View W). v.out) view ∙ so_far.out;
    }

  module _ (l : Given) (s t : Sitting W) (e f : Desk) (h : IsDesk l e) (n i w : ℕ) (is : instruction_at l e ≡ Take n i) (word : w ≡ l.got n)
      (view : t.view ≡ sees s.view n w) (a : Advanced l.plan w (Take n i) e f) where
    pub take_walks : Walks l s e t f
    take_walks =
        let more = a.position in
        record {
          desk = stays l e h f w (Take n i) is (λ z. cc) word a;
          forth = omega (arith, more);
          posted = λ x m j from to at'.
              let here : e.position ≡ x = omega (arith, from, to, more) in
              let both : Take n i ≡ Post m j = sym is ∙ ap (at (program l.plan l.party l.session)) here ∙ at' in cc;
          grows = λ k v known. subst (λ (z : View W). Knows z.seen k v) (sym view) (inr known);
          seats = ap (λ (v : View W). v.seats) view;
          out = ap (λ (v : View W). v.out) view;
        }

-- ---- in the head of a product

-- a desk at its start
pub sending_start : (plan : Plan) (l : Given) (d : Desk) → IsDeskOfPlan plan l d → InProduct Head d.place → d.place.done ≡ 0 → has_pair (scheme l.plan) l.party ≡ true → IsSending plan l 0 d
sending_start plan l d goes in_product starts has = record {
  unplaced = unplaced plan l d goes;
  product = in_product;
  starts = starts;
  has = has;
  begun = d.position;
  place = goes.desk.place;
  position = omega arith;
}

-- a desk that has done n instructions of it
module _ (plan : Plan) (l : Given) (n : ℕ) (d : Desk) (sending : IsSending plan l n d) (left : n < d.place.count) where
  abbrev ls : l.session < length l.plan.sessions
  ls = sending.unplaced.own_program.session_there

  abbrev pub sender : Desk
  sender = at_place d (further d.place n)

  at_here : IsPlace l.plan l.party l.session (further d.place n) d.position
  at_here =
      let none = sending.starts in
      subst (IsPlace l.plan l.party l.session (further d.place n)) (sym sending.position)
      (place_on l.plan l.party l.session d.place sending.begun n sending.place (omega (arith, none, left)))

  pub sender_goes : IsDeskOfPlan plan l sender
  sender_goes = record { same = sending.unplaced.same; desk = sending.unplaced.desk (further d.place n) at_here }

  pub sender_within : d.place.slot < slots plan d.session
  sender_within =
      subst (λ z. d.place.slot < slots z d.session) sending.unplaced.same
      (subst (λ z. d.place.slot < slots l.plan z) (sym sending.unplaced.session)
      (product_there l.plan l.party l.session (plan_is l.plan sending.unplaced.own_program.sound) ls Head d.place sending.product sending.begun sending.place))

  -- the instruction that comes next
  pub sender_next : (i : Instruction) → i ≡ slice_index_or (half_program plan d.program.party d.program.session Head d.place.slot) n End → instruction_at l sender ≡ i
  sender_next i found =
      let own = sending.unplaced.own_program in
      let none = sending.starts in
      let far : d.place.done + n ≡ n = omega (arith, none) in
      ap (at (program l.plan l.party l.session)) sending.position
      ∙ product_at l.plan l.party l.session (plan_is l.plan sending.unplaced.own_program.sound) ls Head d.place sending.product sending.begun sending.place n (omega (arith, none, left))
      ∙ ap (λ j. slice_index_or (half_program l.plan l.party l.session Head d.place.slot) j End) far
      ∙ sym (found ∙ (λ z. slice_index_or (half_program (sym sending.unplaced.same z) (own.of_party z) (own.of_session z) Head d.place.slot) n End))

  -- past the deal it is a post
  pub post_found : (i : Instruction) → i ≡ slice_index_or (half_program plan d.program.party d.program.session Head d.place.slot) n End → 2 ≤ n → (m j : ℕ) × (i ≡ Post m j)
  post_found i found from =
      let own = sending.unplaced.own_program in
      let there = posts_there l.plan l.party l.session (plan_is l.plan sending.unplaced.own_program.sound) ls d.place sending.begun n sending.place sending.product sending.has from left in
      (there.0, there.1, found ∙ (λ z. slice_index_or (half_program (sym sending.unplaced.same z) (own.of_party z) (own.of_session z) Head d.place.slot) n End) ∙ there.2)

  -- and after it
  pub sends_on : (sent : ℕ) (m : Memory) (i : Instruction) → instruction_at l sender ≡ i → i ≢ End → IsGivenWord l 0 i → IsMemoryOf l.plan d.session m
      → ((place : Place) → IsPlace l.plan l.party l.session place (d.position + 1) → Advanced l.plan 0 i sender (record d { place = place; position = d.position + 1; sent = sent; memory = m }))
      → IsSending plan l (n + 1) (record d { position = d.position + 1; sent = sent; memory = m })
  sends_on sent m i is ne given fits advances =
      let here = sending.position in
      record {
        unplaced = record {
          same = sending.unplaced.same;
          party = sending.unplaced.party;
          session = sending.unplaced.session;
          own_program = sending.unplaced.own_program;
          fits = subst (λ z. IsMemoryOf l.plan z m) sending.unplaced.session fits;
          desk = λ place at'. stays l sender sender_goes.desk (record d { place = place; position = d.position + 1; sent = sent; memory = m }) 0 i is ne given (advances place at');
        };
        product = sending.product;
        starts = sending.starts;
        has = sending.has;
        begun = sending.begun;
        place = sending.place;
        position = omega (arith, here);
      }

  -- a post
  pub posts_on : (k j : ℕ) → instruction_at l sender ≡ Post k j → IsSending plan l (n + 1) (record d { position = d.position + 1; sent = d.sent + 1 })
  posts_on k j is =
      let fits : IsMemoryOf l.plan d.session d.memory = subst (λ z. IsMemoryOf l.plan z d.memory) (sym sending.unplaced.session) sending.unplaced.fits in
      sends_on (d.sent + 1) d.memory (Post k j) is (λ z. cc) tt fits
      (λ place at'. record {
        party = refl;
        session = refl;
        program = refl;
        instructions = refl;
        position = refl;
        place = subst (λ z. IsPlace l.plan z d.session place (d.position + 1)) (sym sending.unplaced.party) (subst (λ z. IsPlace l.plan l.party z place (d.position + 1)) (sym sending.unplaced.session) at');
        sent = refl;
        taken = omega arith;
        piece = refl;
        fits = fits;
        table = refl;
        inputs = refl;
        tape = refl;
        state = record { rows = λ v j lj. refl; own = refl; sums = λ j lj. refl; excess = λ side. refl; given = refl; outputs = λ o. refl };
      })

module _ (plan : Plan) (l : Given) (d : Desk) (goes : IsDeskOfPlan plan l d) (within : d.place.slot < slots plan d.session) (product : d.place.pattern ≡ Multiplied) where
  -- the slot of a desk at a product is of one
  pub of_product : Multiplies (slot plan d.session d.place.slot)
  of_product =
      let within' = subst (λ z. d.place.slot < slots z d.session) (sym goes.same) within in
      let here : d.place.slot < slots l.plan l.session = subst (λ z. d.place.slot < slots l.plan z) goes.desk.session within' in
      subst (λ z. Multiplies (slot z d.session d.place.slot)) goes.same
      (subst (λ z. Multiplies (slot l.plan z d.place.slot)) (sym goes.desk.session)
      (product_gate l.plan l.session d.place.slot (sym (goes.desk.place.pattern here) ∙ product)))

  -- what it posts
  pub summand_posted : (n i : ℕ) (summands : List ℕ) (wire : ℕ) → instruction_at l d ≡ Post n i → wire ≡ (gate_at plan d.session d.place.slot).output
      → SameRow (length plan.groups) (slice_index summands) (row (length plan.groups) d.memory.rows.items (row_of d.memory wire)) → slice_index summands i ≡ word_in_memory plan d n i
  summand_posted n i summands wire is same are =
      let proper = goes_proper plan l d goes (Post n i) (sym is) in
      let here : (message plan n).slot ≡ d.place.slot = goes_names plan l d goes (Post n i) (sym is) in
      are i proper.share
      ∙ ap (λ v. row (length plan.groups) d.memory.rows.items (row_of d.memory v) i) same
      ∙ sym (posted_of_product plan d.session (slot plan d.session d.place.slot) i (on_wires (row_of d.memory) (state_of (length plan.groups) d.memory)) of_product)
      ∙ ap₂ (λ s k. posted plan d.session (slot plan s k) i (on_wires (row_of d.memory) (state_of (length plan.groups) d.memory))) (sym proper.session) (sym here)

  -- a word that it takes joins the sums
  pub product_taken : (n i w : ℕ) → instruction_at l d ≡ Take n i → (m : Memory) → Alike (length plan.groups) (state_of (length plan.groups) m) (added (2 ^ plan.bits) i w (state_of (length plan.groups) d.memory))
      → Alike (length plan.groups) (state_of (length plan.groups) m) (on_rows (row_of d.memory) (sets_in (session plan d.session) (taking_slot plan n)) (took_in plan d.session (taking_slot plan n) i w) (state_of (length plan.groups) d.memory))
  product_taken n i w is m state =
      let proper = goes_proper plan l d goes (Take n i) (sym is) in
      let here : slot plan d.session d.place.slot ≡ taking_slot plan n = ap (slot plan d.session) (sym (goes_names plan l d goes (Take n i) (sym is))) ∙ proper.taken_is in
      added_on_rows plan d.session (row_of d.memory) (state_of (length plan.groups) d.memory) (state_of (length plan.groups) m) i w state (taking_slot plan n)
      (subst AddsUp here (products_add_up plan d.session (slot plan d.session d.place.slot) of_product))

-- ---- one post after another

-- the desk after so many posts, whose place stays behind
abbrev pub posted_on : Desk → ℕ → Desk
posted_on d posts = record d { position = d.position + posts; sent = d.sent + posts }

none_posted : (d : Desk) → d ≡ posted_on d 0
none_posted d i =
    let position : d.position ≡ d.position + 0 = omega arith in
    let sent : d.sent ≡ d.sent + 0 = omega arith in
    record d { position = position i; sent = sent i }

one_posted : (d : Desk) (at' : ℕ) → 2 ≤ at' → record (posted_on d (at' - 2)) { position = d.position + (at' - 2) + 1; sent = d.sent + (at' - 2) + 1 } ≡ posted_on d (at' + 1 - 2)
one_posted d at' from i =
    let position : d.position + (at' - 2) + 1 ≡ d.position + (at' + 1 - 2) = omega (arith, from) in
    let sent : d.sent + (at' - 2) + 1 ≡ d.sent + (at' + 1 - 2) = omega (arith, from) in
    record d { position = position i; sent = sent i }

module _ (plan : Plan) (l : Given) (d : Desk) (sending : IsSending plan l 2 d) where
  abbrev own : IsProgram l.plan l.party l.session d.program
  own = sending.unplaced.own_program

  pub sending_program : IsProgram plan d.program.party d.program.session d.program
  sending_program =
      subst (λ z. IsProgram z d.program.party d.program.session d.program) sending.unplaced.same
      (is_own l.plan l.party l.session d.program own)

  pub sending_place : IsPlace plan d.program.party d.program.session d.place sending.begun
  sending_place =
      subst (λ z. IsPlace z d.program.party d.program.session d.place sending.begun) sending.unplaced.same
      (subst (λ z. IsPlace l.plan z d.program.session d.place sending.begun) (sym own.of_party)
      (subst (λ z. IsPlace l.plan l.party z d.place sending.begun) (sym own.of_session) sending.place))

  -- its head has so many steps
  pub head_long : d.place.count ≡ length (steps plan d.program.party Head Multiplied)
  head_long =
      product_long l.plan l.party l.session (plan_is l.plan own.sound) own.session_there Head d.place sending.product sending.begun sending.place
      ∙ (λ z. length (steps (sending.unplaced.same z) (sym own.of_party z) Head Multiplied))

  pub head_listed : (list : List Step) → ((z : Plan) (p s : ℕ) → IsProgram z p s d.program → list ≡ steps z p Head Multiplied) → d.place.count ≡ length list
  head_listed list are = head_long ∙ ap (length {A = Step}) (sym (are plan d.program.party d.program.session sending_program))

  pub head_two : 2 ≤ d.place.count
  head_two = product_two l.plan l.party l.session (plan_is l.plan own.sound) own.session_there d.place sending.product sending.begun sending.place sending.starts sending.has

  -- the instructions of the head are few
  pub head_few : d.position + (d.place.count - 2) < 4294967295
  head_few =
      let there = product_there l.plan l.party l.session (plan_is l.plan own.sound) own.session_there Head d.place sending.product sending.begun sending.place in
      let found = batch_of l.plan l.party l.session d.place sending.begun sending.place there in
      let within = half_within l.plan l.party l.session d.place.batch d.place.end d.place.slot found.0 found.1 found.2 d.place.half in
      let count : d.place.count ≡ length (half_program l.plan l.party l.session d.place.half d.place.slot) = sending.place.count ∙ count_at l.plan l.party l.session d.place.half d.place.slot there in
      let done : sending.begun ≡ position_of l.plan l.party l.session d.place.half d.place.batch d.place.end d.place.slot + d.place.done = sending.place.done in
      let none = sending.starts in
      let short = program_is_short l.plan own.sound l.party l.session in
      let here = sending.position in
      let two = head_two in
      omega (arith, within, count, done, none, short, here, two)

  pub sent_few : d.sent < 4294967296 → d.sent + (d.place.count - 2) < 4294967296
  sent_few fits = elim (cases_lt 2 d.place.count) [
    | inl more ↦
        let there = stands l (sender plan l 2 d sending more) (sender_goes plan l 2 d sending more).desk in
        let sent = there.sent in
        let few = head_few in
        omega (arith, sent, few)
    | inr none ↦ omega (arith, none, fits)
  ]

  pub post_start : IsSending plan l 2 (posted_on d (2 - 2))
  post_start = subst (IsSending plan l 2) (none_posted d) sending

-- past all of its instructions all before the next head is done
pub sent_all : (plan : Plan) (l : Given) (n : ℕ) (d : Desk) → IsSending plan l n d → n ≡ d.place.count → IsBefore plan l Head (d.place.slot + 1) d
sent_all plan l n d now all =
    let own = now.unplaced.own_program in
    let there = product_there l.plan l.party l.session (plan_is l.plan own.sound) own.session_there Head d.place now.product now.begun now.place in
    let found = batch_of l.plan l.party l.session d.place now.begun now.place there in
    let from = found.1 in
    let to = found.2 in
    let count = product_count l.plan l.party l.session (plan_is l.plan own.sound) own.session_there Head d.place now.product now.begun now.place in
    let done : now.begun ≡ position_of l.plan l.party l.session Head d.place.batch d.place.end d.place.slot + d.place.done =
    now.place.done ∙ ap (λ z. position_of l.plan l.party l.session z d.place.batch d.place.end d.place.slot + d.place.done) now.product.0 in
    let none = now.starts in
    let here = now.position in
    let more = position_more l.plan l.party l.session Head d.place.batch d.place.end d.place.slot in
    record {
      unplaced = now.unplaced;
      batch = found.0;
      from = omega (arith, from);
      to = omega (arith, to);
      position = omega (arith, here, done, none, more, count, all);
    }

-- its slot is of a product
pub sent_gate : (plan : Plan) (l : Given) (n : ℕ) (d : Desk) → IsSending plan l n d → IsSlot l.plan l.session d.place.slot Multiplies
sent_gate plan l n d now =
    let own = now.unplaced.own_program in
    let there = product_there l.plan l.party l.session (plan_is l.plan own.sound) own.session_there Head d.place now.product now.begun now.place in
    record { kind = product_gate l.plan l.session d.place.slot (sym (now.place.pattern there) ∙ now.product.1); slot = there }

pub sent_slot : (plan : Plan) (l : Given) (n : ℕ) (d : Desk) → IsSending plan l n d → IsSlot plan d.session d.place.slot Multiplies
sent_slot plan l n d now =
    subst (λ z. IsSlot z d.session d.place.slot Multiplies) now.unplaced.same
    (subst (λ z. IsSlot l.plan z d.place.slot Multiplies) (sym now.unplaced.session) (sent_gate plan l n d now))

-- the wire of its product has a row
pub sent_within : (plan : Plan) (l : Given) (n : ℕ) (d : Desk) → IsSending plan l n d → GateWithin plan d.session (gate_at plan d.session d.place.slot)
sent_within plan l n d now =
    let own = now.unplaced.own_program in
    slot_within_rows plan (subst IsSound now.unplaced.same own.sound) d.session
    (subst (λ (z : Plan). d.session < length z.sessions) now.unplaced.same (subst (λ z. z < length l.plan.sessions) (sym now.unplaced.session) own.session_there))
    d.place.slot (sent_slot plan l n d now)

-- a post that was found
module _ (plan : Plan) (l : Given) (d : Desk) (first : IsSending plan l 2 d) (n : ℕ) (from : 2 ≤ n) (left : n < d.place.count) (now : IsSending plan l n (posted_on d (n - 2))) (i : Instruction)
    (found : i ≡ slice_index_or (half_program plan d.program.party d.program.session d.place.half d.place.slot) n End) where
  abbrev found_head : i ≡ slice_index_or (half_program plan d.program.party d.program.session Head d.place.slot) n End
  found_head = found ∙ ap (λ z. slice_index_or (half_program plan d.program.party d.program.session z d.place.slot) n End) first.product.0

  pub is_post : (m j : ℕ) × (i ≡ Post m j)
  is_post = post_found plan l n (posted_on d (n - 2)) now left i found_head from

  module _ (m j : ℕ) (is : i ≡ Post m j) where
    abbrev pub poster : Desk
    poster = sender plan l n (posted_on d (n - 2)) now left

    pub post_goes : IsDeskOfPlan plan l poster
    post_goes = sender_goes plan l n (posted_on d (n - 2)) now left

    pub post_is : instruction_at l poster ≡ Post m j
    post_is = sender_next plan l n (posted_on d (n - 2)) now left i found_head ∙ is

    -- its word
    module _ (summands : List ℕ) (wire : ℕ) (same : wire ≡ (gate_at plan d.session d.place.slot).output) (are : SameRow (length plan.groups) (slice_index summands) (row (length plan.groups) d.memory.rows.items (row_of d.memory wire))) where
      pub post_word : slice_index summands j ≡ word_at l poster.position m j
      post_word =
          goes_word plan l poster post_goes m j (slice_index summands j) post_is
          (summand_posted plan l poster post_goes (sender_within plan l n (posted_on d (n - 2)) now left) first.product.1 m j summands wire post_is same are)

    pub post_share : j < length plan.groups
    post_share = (goes_proper plan l poster post_goes (Post m j) (sym post_is)).share

    pub post_next : IsSending plan l (n + 1) (posted_on d (n + 1 - 2))
    post_next = subst (IsSending plan l (n + 1)) (one_posted d n from) (posts_on plan l n (posted_on d (n - 2)) now left m j post_is)

    module _ {W : Type 0} (s t u : Sitting W) (w : ℕ) (r : Posted) (so_far : Sends l s d.position t (d.position + (n - 2))) (word : w ≡ word_at l poster.position m j) (view : u.view ≡ posts t.view m w r) (answer : IsPostAnswer w r) where
      pub post_sent : Sends l s d.position u (d.position + (n + 1 - 2))
      post_sent =
          let next : d.position + (n - 2) + 1 ≡ d.position + (n + 1 - 2) = omega (arith, from) in
          subst (Sends l s d.position u) next
          (sent_on l s t u d.position (d.position + (n - 2)) (d.position + (n - 2) + 1) so_far
          (one_sent l t u (d.position + (n - 2)) m j w r post_is word view answer))

-- ---- the desk after one more take

module _ (l : Given) (d : Desk) (moves : ℕ) (more : d.place.done + moves + 1 < d.place.count) where
  next_is : (e : Desk) (q : ℕ) → e.party ≡ l.party → e.session ≡ l.session → q ≡ d.position + moves + 1 → IsPlace l.plan l.party l.session (further d.place moves) (d.position + moves) → IsPlace l.plan e.party e.session (further d.place (moves + 1)) q
  next_is e q party session same here =
      let again : d.place.done + moves + 1 ≡ d.place.done + (moves + 1) = omega arith in
      subst (λ z. IsPlace l.plan z e.session (further d.place (moves + 1)) q) (sym party)
      (subst (λ z. IsPlace l.plan l.party z (further d.place (moves + 1)) q) (sym session)
      (subst (IsPlace l.plan l.party l.session (further d.place (moves + 1))) (sym same)
      (subst (λ n. IsPlace l.plan l.party l.session (record d.place { done = n }) (d.position + moves + 1)) again
      (place_on l.plan l.party l.session (further d.place moves) (d.position + moves) 1 here more))))

  pub taken_more : (n i w : ℕ) (m : Memory) → IsDesk l (taken_on d moves) → IsMemoryOf l.plan d.session m → KeepsGiven d.memory m
      → Alike (length l.plan.groups) (state_of (length l.plan.groups) m) (on_rows (row_of d.memory) (sets_in (session l.plan d.session) (taking_slot l.plan n)) (took_in l.plan d.session (taking_slot l.plan n) i w) (state_of (length l.plan.groups) d.memory))
      → Advanced l.plan w (Take n i) (taken_on d moves) (taken_on (record d { memory = m }) (moves + 1))
  taken_more n i w m h fits kept state = record {
    party = refl;
    session = refl;
    program = refl;
    instructions = refl;
    position = omega arith;
    place = next_is d (d.position + (moves + 1)) h.party h.session (omega arith) h.place;
    sent = omega arith;
    taken = omega arith;
    piece = refl;
    fits = fits;
    table = kept.table;
    inputs = kept.inputs;
    tape = kept.tape;
    state = state;
  }

-- ---- the heads of gates

module _ {W : Type 0} (plan : Plan) (l : Given) (s t : Sitting W) (d e : Desk) where
  -- a head without a post
  pub silent_head : DoesSilentHead plan l d e → DoesHead plan l s d s e
  silent_head does =
      let on = does.on in
      record { gate = does.gate; before = does.before; on = on; sends = none_sent l s d.position e.position (omega (arith, on)) does.no_post }

  -- and the gates after it
  pub head_went : (f : Desk) (goes : Bool) → goes ≡ true → DoesHead plan l s d t e → Computes l e f → WentOn l s d t f goes
  head_went f goes went does computes =
      let on = does.on in
      let forth = computes.forth in
      record {
        walks = sent_walks l s t d f computes.desk (sent_on l s t t d.position e.position f.position does.sends (none_sent l t e.position f.position forth computes.no_post));
        on = λ z. omega (arith, on, forth);
        through = λ z. absurd (let clash : true ≡ false = sym went ∙ z in cc);
        looked = λ z. absurd (let clash : true ≡ false = sym went ∙ z in cc);
      }

  -- a desk in a head stays where nothing of a gate comes next
  pub head_stays : (goes : Bool) → goes ≡ false → (e ≡ d) × (t ≡ s) → IsDesk l d → d.place.half ≡ Head → NothingToCompute l d → WentOn l s d t e goes
  head_stays goes stays same h head none =
      subst (λ z. WentOn l s d z e goes) (sym same.1)
      (subst (λ z. WentOn l s d s z goes) (sym same.0)
      (record {
        walks = rest_walks l s d h;
        on = λ z. absurd (let clash : false ≡ true = sym stays ∙ z in cc);
        through = λ z. none;
        looked = λ z product n i w is known. head_takes_none l d h head n i is;
      }))
