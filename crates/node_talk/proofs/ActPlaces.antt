-- The instructions of a party by their place in all, and the messages that they name.
use Rattle.std.proofs.Common.{◌≡◌, ℕ, zero, suc, ◌+◌, ◌-◌, ◌<◌, ◌≤◌, ◌++◌, length, List, refl, sym, ap, ◌∙◌, subst, arith, length-append}
use Rattle.std.proofs.lemmas.Bool.{cases_lt, cases_eq}
use Rattle.std.proofs.lemmas.List.{get_or-append-add}
use Rattle.std.proofs.Math.ListN.{get_or-append}
use mathlib.Core.Logic.{inl, inr}
use Rattle.list_laws.specs.Lists.{joined}
use Rattle.plan_model.specs.Messages.{messages}
use Rattle.plan_model.specs.Numbers.{message}
use Rattle.share_world.specs.Worlds.{World}
use Rattle.program_model.specs.declared.instruction.Instruction.{Instruction}
use Rattle.program_model.specs.declared.instruction.Instruction.TheVariants.{Post, Take, End}
use Rattle.program_model.specs.Programs.{program, at, post}
use Rattle.program_model.specs.Proper.{Proper}
use Rattle.program_laws.specs.Meets.{local_given}
use Rattle.program_laws.specs.Parts.{IsPart}
use Rattle.program_laws.proofs.OncePosted.{once}
use Rattle.program_laws.specs.Once.{take_slot}
use Rattle.program_laws.specs.Orders.{ComesTo}
use Rattle.program_laws.proofs.Ranks.{batches_post_first}
use Rattle.program_laws.proofs.ProperPrograms.{is_proper}
use Rattle.program_laws.proofs.PartLaws.{part_plan, part_suits}
use Rattle.node_talk.specs.Talks.{Node, acts}

-- ---- joined lists

pub joined_within : (f : ℕ → List Instruction) (a b : ℕ) → a ≤ b → length (joined a f) ≤ length (joined b f)
joined_within f a zero le = let same : a ≡ 0 = omega arith in subst (λ z. length (joined z f) ≤ 0) (sym same) (omega arith)
joined_within f a (suc b) le = elim (cases_eq a (suc b)) [
  | inl e ↦ subst (λ z. length (joined z f) ≤ length (joined b f ++ f b)) (sym e) (omega arith)
  | inr ne ↦ omega (arith, joined_within f a b (omega arith), length-append (joined b f) (f b))
]

at_joined : (f : ℕ → List Instruction) (n s q : ℕ) → s < n → q < length (f s) → at (joined n f) (length (joined s f) + q) ≡ at (f s) q
at_joined f zero s q ls lq = absurd (omega arith)
at_joined f (suc n) s q ls lq = elim (cases_eq s n) [
  | inl e ↦ subst (λ z. at (joined n f ++ f n) (length (joined z f) + q) ≡ at (f z) q) (sym e) (get_or-append-add (joined n f) (f n) q End)
  | inr ne ↦ get_or-append (joined n f) (f n) End (length (joined s f) + q) (let a = joined_within f (suc s) n (omega arith) in omega (arith, a, length-append (joined s f) (f s))) ∙ at_joined f n s q (omega arith) lq
]

-- where an instruction of joined lists stands
record Stands (f : ℕ → List Instruction) (n k : ℕ) : Type 0 where
  pub part : ℕ
  pub position : ℕ
  pub part_there : part < n
  pub within : position < length (f part)
  pub is : k ≡ length (joined part f) + position

stands_in : (f : ℕ → List Instruction) (n k : ℕ) → k < length (joined n f) → Stands f n k
stands_in f zero k l = absurd (omega arith)
stands_in f (suc n) k l = elim (cases_lt k (length (joined n f))) [
  | inl before ↦ let r = stands_in f n k before in record { part = r.part; position = r.position; part_there = (let a = r.part_there in omega arith); within = r.within; is = r.is }
  | inr past ↦ record { part = n; position = k - length (joined n f); part_there = omega arith; within = omega (arith, l, past, length-append (joined n f) (f n)); is = omega arith }
]

-- ---- all that a party does

-- how many instructions stand before session s
abbrev pub before_session : Node → ℕ → ℕ
before_session n s = length (joined s (program n.world.plan n.me))

pub next_session : (n : Node) (s : ℕ) → before_session n (suc s) ≡ before_session n s + length (program n.world.plan n.me s)
next_session n s = length-append (joined s (program n.world.plan n.me)) (program n.world.plan n.me s)

pub at_act : (n : Node) (s q : ℕ) → s < length n.world.plan.sessions → q < length (program n.world.plan n.me s) → at (acts n) (before_session n s + q) ≡ at (program n.world.plan n.me s) q
at_act n s q ls lq = at_joined (program n.world.plan n.me) (length n.world.plan.sessions) s q ls lq

pub within_acts : (n : Node) (s q : ℕ) → s < length n.world.plan.sessions → q ≤ length (program n.world.plan n.me s) → before_session n s + q ≤ length (acts n)
within_acts n s q ls lq = let a = joined_within (program n.world.plan n.me) (suc s) (length n.world.plan.sessions) (omega arith) in omega (arith, a, next_session n s, lq)

-- the instruction at a place of all, by its session and its position there
pub record Act (n : Node) (k : ℕ) : Type 0 where
  pub session : ℕ
  pub position : ℕ
  pub session_there : session < length n.world.plan.sessions
  pub within : position < length (program n.world.plan n.me session)
  pub place : k ≡ before_session n session + position
  pub same : at (acts n) k ≡ at (program n.world.plan n.me session) position

pub act_there : (n : Node) (k : ℕ) → k < length (acts n) → Act n k
act_there n k l =
    let r = stands_in (program n.world.plan n.me) (length n.world.plan.sessions) k l in
    record {
      session = r.part;
      position = r.position;
      session_there = r.part_there;
      within = r.within;
      place = r.is;
      same = ap (at (acts n)) r.is ∙ at_act n r.part r.position r.part_there r.within;
    }

-- ---- the messages that instructions name

module _ (w : World) (p : ℕ) (part : IsPart w p) (s : ℕ) (ls : s < length w.plan.sessions) (q m i : ℕ) where
  proper_here : Proper w.plan s (at (program w.plan p s) q)
  proper_here = is_proper (local_given w (λ key. 0) s p) (part_suits w p part (λ key. 0) s ls) q

  pub posted_there : at (program w.plan p s) q ≡ Post m i → (m < length (messages w.plan)) × ((message w.plan m).sender ≡ p)
  posted_there e =
      let g = subst (Proper w.plan s) e proper_here in
      (g.number, sym ((once w.plan m (part_plan w p part) g.number).posted.alone p s q i e).0)

  pub taken_there : at (program w.plan p s) q ≡ Take m i → (m < length (messages w.plan)) × ((message w.plan m).receiver ≡ p)
  taken_there e =
      let g = subst (Proper w.plan s) e proper_here in
      (g.number, sym ((once w.plan m (part_plan w p part) g.number).taken.alone p s q i e).0)

-- the message of a take
pub taken_by : (n : Node) → IsPart n.world n.me → (k m i : ℕ) → k < length (acts n) → at (acts n) k ≡ Take m i → (m < length (messages n.world.plan)) × ((message n.world.plan m).receiver ≡ n.me)
taken_by n part k m i l is =
    let a = act_there n k l in
    taken_there n.world n.me part a.session a.session_there a.position m i (sym a.same ∙ is)

-- the message of a post
pub posted_by : (n : Node) → IsPart n.world n.me → (k m i : ℕ) → k < length (acts n) → at (acts n) k ≡ Post m i → (m < length (messages n.world.plan)) × ((message n.world.plan m).sender ≡ n.me)
posted_by n part k m i l is =
    let a = act_there n k l in
    posted_there n.world n.me part a.session a.session_there a.position m i (sym a.same ∙ is)

-- ---- messages that stay with the party

-- sessions stand in their order
pub sessions_rise : (n : Node) (r s q u : ℕ) → r < s → q < length (program n.world.plan n.me r) → before_session n r + q < before_session n s + u
sessions_rise n r s q u less lq = let a = joined_within (program n.world.plan n.me) (suc r) s (omega arith) in omega (arith, a, next_session n r, lq)

-- what the party takes of itself it posted before
pub record PostedBefore (n : Node) (k m : ℕ) : Type 0 where
  pub place : ℕ
  pub before : place < k
  pub share : ℕ
  pub is : at (acts n) place ≡ Post m share

pub posted_before_take : (n : Node) → IsPart n.world n.me → (k m i : ℕ) → k < length (acts n) → at (acts n) k ≡ Take m i → (message n.world.plan m).sender ≡ n.me → PostedBefore n k m
posted_before_take n part k m i l is from =
    let a = act_there n k l in
    let plan = n.world.plan in
    let here : at (program plan n.me a.session) a.position ≡ Take m i = sym a.same ∙ is in
    let comes : ComesTo plan a.session m = (batches_post_first plan part.sound a.session n.me a.session_there).takes a.position m i a.within here in
    let o = once plan m (part_plan n.world n.me part) comes.number in
    let r : ℕ = (message plan m).session in
    let posts : (q : ℕ) × (q < length (program plan n.me r)) × (at (program plan n.me r) q ≡ post plan m) = (batches_post_first plan part.sound r n.me o.session_there).posts m comes.number refl from in
    record {
      place = before_session n r + posts.0;
      before = subst (λ z. before_session n r + posts.0 < z) (sym a.place) (earlier a.session a.position posts.0 a.session_there comes posts.1 posts.2 here);
      share = (message plan m).share;
      is = at_act n r posts.0 o.session_there posts.1 ∙ posts.2;
    }
  where
    earlier : (s u q : ℕ) → s < length n.world.plan.sessions → ComesTo n.world.plan s m → q < length (program n.world.plan n.me (message n.world.plan m).session) → at (program n.world.plan n.me (message n.world.plan m).session) q ≡ post n.world.plan m
        → at (program n.world.plan n.me s) u ≡ Take m i → before_session n (message n.world.plan m).session + q < before_session n s + u
    earlier s u q ls comes lq posts takes = elim comes.order [
      | inl here ↦
          let plan = n.world.plan in
          let same : s ≡ (message plan m).session = sym comes.session ∙ ap (λ (z : ℕ × ℕ). z.0) here in
          let slot : take_slot plan m ≡ (message plan m).slot = ap (λ (z : ℕ × ℕ). z.1) here in
          let posts' : at (program plan n.me s) q ≡ post plan m = subst (λ z. at (program plan n.me z) q ≡ post plan m) (sym same) posts in
          let first = (batches_post_first plan part.sound s n.me ls).order q u m (message plan m).share m i posts' takes (omega (arith, slot)) in
          omega (arith, first, ap (before_session n) same)
      | inr later ↦ sessions_rise n (message n.world.plan m).session s q u (omega (arith, later, comes.session)) lq
    ]
