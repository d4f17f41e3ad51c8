-- The own product at the start of a product, and its deal.
use Rattle.std.proofs.Common.{◌≡◌, ℕ, ◌+◌, ◌-◌, ◌<◌, ◌≤◌, true, [], ◌∷◌, length, refl, sym, ap, ◌∙◌, subst, arith}
use Rattle.std.specs.Prelude.{slice_index}
use Rattle.circuit_model.specs.declared.gate.Gate.{Gate}
use Rattle.secret_sharing.specs.Schemes.{has_pair}
use Rattle.plan_model.specs.Plans.{Plan, scheme, slot}
use Rattle.plan_model.specs.Numbers.{deals_before}
use Rattle.plan_model.proofs.PlanSchemes.{plan_is}
use Rattle.program_model.specs.declared.half.Half.TheVariants.{Head}
use Rattle.program_model.specs.declared.instruction.Instruction.TheVariants.{Deal, Own, Post}
use Rattle.program_model.specs.Programs.{program, at}
use Rattle.party_program.specs.ProgramPlaces.{InProduct, IsPlace}
use Rattle.program_model.specs.Proper.{IsSlot, Multiplies}
use Rattle.program_model.specs.States.{Given, dealt_as, multiplied}
use Rattle.party_program.proofs.GateSlots.{product_deal, product_own, product_two}
use Rattle.program_laws.specs.WordsRead.{gate_at}
use Rattle.party_desk.specs.declared.desk.Desk.{Desk}
use Rattle.party_desk.specs.declared.memory.Memory.{Memory}
use Rattle.party_desk.specs.Memories.{state_of, row_of, on_rows, Alike, Drew, IsMemoryOf, KeepsGiven}
use Rattle.party_desk.specs.Desks.{after_on_rows}
use Rattle.desk_walks.specs.Walks.{IsDeskOfPlan, IsSending, NoPosts}
use Rattle.desk_walks.proofs.GateWalks.{few_done, goes_deals, goes_proper, posts_on}
use Rattle.desk_walks.proofs.GatePosts.{sender, sender_goes, sending_start, sends_on}
use Rattle.party_desk.proofs.RowStates.{dealt_at_product}

-- the desk so many instructions on, with this memory
abbrev pub stepped_on : Desk → ℕ → Memory → Desk
stepped_on d steps m = record d { position = d.position + steps; memory = m }

-- the own product of gate g, in memory m
abbrev pub FormsOwn : Plan → Desk → Gate → Memory → Type 0
FormsOwn plan d g m =
    IsMemoryOf plan d.session m × KeepsGiven d.memory m
    × Alike (length plan.groups) (state_of (length plan.groups) m) (on_rows (row_of d.memory) [] (multiplied plan d.party g) (state_of (length plan.groups) d.memory))

-- its deal, from memory m to memory n
abbrev pub DealsProduct : Plan → Desk → Gate → Memory → Memory → Type 0
DealsProduct plan d g m n =
    IsMemoryOf plan d.session n × Drew (length plan.groups - 1) m n
    × Alike (length plan.groups) (state_of (length plan.groups) n) (on_rows (row_of m) (g.output ∷ []) (dealt_as plan (slice_index m.tape) m.own g.output) (state_of (length plan.groups) m))

-- a desk at the start of a product, for which it has a pair of summands to multiply
module _ (plan : Plan) (l : Given) (d : Desk) (goes : IsDeskOfPlan plan l d) (in_product : InProduct Head d.place) (starts : d.place.done ≡ 0) (has : has_pair (scheme l.plan) l.party ≡ true) where
  abbrev ls : l.session < length l.plan.sessions
  ls = goes.desk.own_program.session_there

  abbrev k : ℕ
  k = d.place.slot

  abbrev next_deal : ℕ
  next_deal = deals_before l.plan l.party l.session k

  two : 2 ≤ d.place.count
  two = product_two l.plan l.party l.session (plan_is l.plan goes.desk.own_program.sound) ls d.place in_product d.position goes.desk.place starts has

  own_next : at (program l.plan l.party l.session) d.position ≡ Own k
  own_next = product_own l.plan l.party l.session (plan_is l.plan goes.desk.own_program.sound) ls d.place in_product d.position goes.desk.place starts has

  deal_next : at (program l.plan l.party l.session) (d.position + 1) ≡ Deal k next_deal
  deal_next = product_deal l.plan l.party l.session (plan_is l.plan goes.desk.own_program.sound) ls d.place in_product d.position goes.desk.place starts has

  -- none of both is a post
  pub own_silent : NoPosts l d.position (d.position + 2)
  own_silent =
      let next : d.position + 1 + 1 ≡ d.position + 2 = omega arith in
      subst (NoPosts l d.position) next
      (posts_on l d.position (d.position + 1) (d.position + 1 + 1)
      (λ x n i from to is.
      let here : x ≡ d.position = omega (arith, from, to) in
      let both : Own k ≡ Post n i = sym own_next ∙ ap (at (program l.plan l.party l.session)) (sym here) ∙ is in cc)
      (λ x n i from to is.
      let here : x ≡ d.position + 1 = omega (arith, from, to) in
      let both : Deal k next_deal ≡ Post n i = sym deal_next ∙ ap (at (program l.plan l.party l.session)) (sym here) ∙ is in cc))

  start : IsSending plan l 0 d
  start = sending_start plan l d goes in_product starts has

  some : 0 < d.place.count
  some = let all = two in omega (arith, all)

  own_slot_here : IsSlot plan d.session k Multiplies
  own_slot_here = goes_proper plan l d goes (Own k) (sym own_next)

  -- the own product, in this memory
  module _ (m : Memory) (multiplies : FormsOwn l.plan d (gate_at l.plan d.session k) m) where
    abbrev fits : IsMemoryOf l.plan d.session m
    fits = multiplies.0

    own_done : IsSending plan l (0 + 1) (stepped_on d 1 m)
    own_done =
        sends_on plan l 0 d start some d.sent m (Own k) own_next (λ z. cc) tt fits
        (λ place at'. record {
          party = refl;
          session = refl;
          program = refl;
          instructions = refl;
          position = refl;
          place = subst (λ z. IsPlace l.plan z d.session place (d.position + 1)) (sym goes.desk.party) (subst (λ z. IsPlace l.plan l.party z place (d.position + 1)) (sym goes.desk.session) at');
          sent = omega arith;
          taken = omega arith;
          piece = refl;
          fits = fits;
          table = multiplies.1.table;
          inputs = multiplies.1.inputs;
          tape = multiplies.1.tape;
          state = multiplies.2;
        })

    one_less : 0 + 1 < d.place.count
    one_less = let all = two in omega (arith, all)

    abbrev between : Desk
    between = sender plan l (0 + 1) (stepped_on d 1 m) own_done one_less

    goes_between : IsDeskOfPlan plan l between
    goes_between = sender_goes plan l (0 + 1) (stepped_on d 1 m) own_done one_less

    -- the deal finds its words
    pub own_words : length plan.groups - 1 ≤ length m.tape
    own_words = (goes_deals plan l between goes_between k next_deal (sym deal_next)).words

    -- and its deal, in this one
    module _ (n : Memory) (deals : DealsProduct l.plan d (gate_at l.plan d.session k) m n) where
      gate_here : Multiplies (slot l.plan d.session k)
      gate_here = subst (λ z. Multiplies (slot z d.session k)) (sym goes.same) own_slot_here.kind

      state : Alike (length l.plan.groups) (state_of (length l.plan.groups) n)
          (after_on_rows (row_of m) l.plan d.party d.session (slice_index m.tape) (slice_index m.inputs.items m.given) 0 (Deal k next_deal) (state_of (length l.plan.groups) m))
      state =
          subst (Alike (length l.plan.groups) (state_of (length l.plan.groups) n))
          (dealt_at_product l.plan d.session (row_of m) (slice_index m.tape) (slice_index m.inputs.items m.given) (slot l.plan d.session k) (state_of (length l.plan.groups) m) gate_here)
          deals.2

      both_done : IsSending plan l (0 + 1 + 1) (record d { position = d.position + 1 + 1; memory = n })
      both_done =
          sends_on plan l (0 + 1) (stepped_on d 1 m) own_done one_less d.sent n (Deal k next_deal) deal_next (λ z. cc) tt deals.0
          (λ place at'. record {
            party = refl;
            session = refl;
            program = refl;
            instructions = refl;
            position = refl;
            place = subst (λ z. IsPlace l.plan z d.session place (d.position + 1 + 1)) (sym goes.desk.party) (subst (λ z. IsPlace l.plan l.party z place (d.position + 1 + 1)) (sym goes.desk.session) at');
            sent = omega arith;
            taken = omega arith;
            piece = refl;
            fits = deals.0;
            table = deals.1.table;
            inputs = deals.1.inputs;
            tape = deals.1.tape;
            state = state;
          })

      pub both_sending : IsSending plan l 2 (stepped_on d 2 n)
      both_sending =
          let position : d.position + 1 + 1 ≡ d.position + 2 = omega arith in
          subst (λ q. IsSending plan l 2 (record d { position = q; memory = n })) position both_done

      pub both_few : d.position + 2 < 4294967296
      both_few =
          let few = few_done l between goes_between.desk in
          omega (arith, few)

-- ---- the same of a desk of this plan

module _ (plan : Plan) (l : Given) (d : Desk) (goes : IsDeskOfPlan plan l d) (in_product : InProduct Head d.place) (starts : d.place.done ≡ 0) (has : has_pair (scheme plan) d.party ≡ true) where
  abbrev has_here : has_pair (scheme l.plan) l.party ≡ true
  has_here = subst (λ z. has_pair (scheme z) l.party ≡ true) (sym goes.same) (subst (λ z. has_pair (scheme plan) z ≡ true) goes.desk.party has)

  -- its slot is of a product
  pub own_slot : IsSlot plan d.session d.place.slot Multiplies
  own_slot = own_slot_here plan l d goes in_product starts has_here

  pub own_no_post : NoPosts l d.position (d.position + 2)
  own_no_post = own_silent plan l d goes in_product starts has_here

module _ (plan : Plan) (l : Given) (d : Desk) (goes : IsDeskOfPlan plan l d) (in_product : InProduct Head d.place) (starts : d.place.done ≡ 0) (has : has_pair (scheme plan) d.party ≡ true) (g : Gate) (is : g ≡ gate_at plan d.session d.place.slot) (m : Memory)
    (multiplies : FormsOwn plan d g m) where
  abbrev has_own : has_pair (scheme l.plan) l.party ≡ true
  has_own = has_here plan l d goes in_product starts has

  multiplies_here : FormsOwn l.plan d (gate_at l.plan d.session d.place.slot) m
  multiplies_here =
      subst (λ z. FormsOwn z d (gate_at z d.session d.place.slot) m) (sym goes.same) (subst (λ z. FormsOwn plan d z m) is multiplies)

  pub own_can_deal : length plan.groups - 1 ≤ length m.tape
  own_can_deal = own_words plan l d goes in_product starts has_own m multiplies_here

  module _ (n : Memory) (deals : DealsProduct plan d g m n) where
    deals_here : DealsProduct l.plan d (gate_at l.plan d.session d.place.slot) m n
    deals_here =
        subst (λ z. DealsProduct z d (gate_at z d.session d.place.slot) m n) (sym goes.same) (subst (λ z. DealsProduct plan d z m n) is deals)

    pub own_and_deal : IsSending plan l 2 (stepped_on d 2 n)
    own_and_deal = both_sending plan l d goes in_product starts has_own m multiplies_here n deals_here

    pub own_few : d.position + 2 < 4294967296
    own_few = both_few plan l d goes in_product starts has_own m multiplies_here n deals_here
