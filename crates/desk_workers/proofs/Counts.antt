-- What desks count together.
use Rattle.std.proofs.Common.{◌≡◌, ℕ, zero, suc, ◌+◌, ◌*◌, ◌/◌, ◌%◌, ◌<◌, ◌≤◌, ◌^◌, List, [], ◌∷◌, length, take, get_or, refl, ap, ◌∙◌, arith}
use Rattle.std.proofs.Math.Nat.{mul-le-mul_right}
use Rattle.list_laws.specs.Lists as sums
use Rattle.message_board.specs.Pairs.{total_over}
use Rattle.plan_model.specs.Plans.{Plan}
use Rattle.plan_model.specs.Sound.{IsSound}
use Rattle.share_world.specs.Worlds.{World}
use Rattle.party_desk.specs.declared.desk.Desk.{Desk}
use Rattle.share_world.specs.Laws.{IsWhole}
use Rattle.program_laws.specs.Lawful.{program_of}
use Rattle.program_laws.proofs.LawfulWorlds.{lawful}
use Rattle.desk_laws.specs.Pools.{AreDesks, AllEnded}
use Rattle.desk_laws.proofs.Elements.{by_place}
use Rattle.desk_workers.specs.Runs.{instructions_of}

-- within the limits there are few desks
pub few_desks : (plan : Plan) → IsSound plan → plan.parties * length plan.sessions ≤ 192
few_desks plan sound =
    let a : plan.parties * length plan.sessions ≤ 12 * length plan.sessions = mul-le-mul_right (length plan.sessions) sound.parties in
    let b = sound.few_sessions in omega arith

next_term : (f : Desk → ℕ) (ds : List Desk) (i : ℕ) (d : Desk) → i < length ds → total_over f (take (suc i) ds) ≡ total_over f (take i ds) + f (get_or ds i d)
next_term f [] i d l = absurd (omega arith)
next_term f (x ∷ ds) zero d l = omega arith
next_term f (x ∷ ds) (suc i) d l = let r = next_term f ds i d (omega arith) in omega arith

one_more : (f : Desk → ℕ) (ds : List Desk) (i : ℕ) (d : Desk) → i < length ds → total_over f (take (i + 1) ds) ≡ total_over f (take i ds) + f (get_or ds i d)
one_more f ds i d l = ap (λ n. total_over f (take n ds)) (let e : i + 1 ≡ suc i = omega arith in e) ∙ next_term f ds i d l

take_all : (ds : List Desk) (n : ℕ) → n ≡ length ds → take n ds ≡ ds
take_all [] zero e = refl
take_all [] (suc n) e = absurd (omega arith)
take_all (x ∷ ds) zero e = absurd (omega arith)
take_all (x ∷ ds) (suc n) e = ap (λ l. x ∷ l) (take_all ds n (omega arith))

-- ---- a loop that counts by desks, each of which has less than 2 ^ 32

abbrev pub IsCount : (Desk → ℕ) → List Desk → ℕ → ℕ → Type 0
IsCount f ds i count = (count ≡ total_over f (take i ds)) × (count ≤ i * 2 ^ 32)

pub count_next : (f : Desk → ℕ) (ds : List Desk) (i : ℕ) (d : Desk) (count more : ℕ) → i < length ds → d ≡ get_or ds i d → more ≡ f d → more < 2 ^ 32 → IsCount f ds i count → IsCount f ds (i + 1) (count + more)
count_next f ds i d count more l is more_is small so_far =
    let step : total_over f (take (i + 1) ds) ≡ total_over f (take i ds) + f (get_or ds i d) = one_more f ds i d l in
    let same : f d ≡ f (get_or ds i d) = ap f is in
    let before : count ≡ total_over f (take i ds) = so_far.0 in
    let bound : count ≤ i * 2 ^ 32 = so_far.1 in
    (omega arith, omega arith)

pub count_all : (f : Desk → ℕ) (ds : List Desk) (i count : ℕ) → i ≡ length ds → IsCount f ds i count → count ≡ total_over f ds
count_all f ds i count all so_far = so_far.0 ∙ ap (λ l. total_over f l) (take_all ds i all)

-- the first term of a sum
first_term : (n : ℕ) (g : ℕ → ℕ) → sums.total (suc n) g ≡ g 0 + sums.total n (λ k. g (suc k))
first_term zero g = omega arith
first_term (suc n) g = let r = first_term n g in omega arith

-- a sum over desks is a sum over their numbers
by_number : (f : Desk → ℕ) (g : ℕ → ℕ) (ds : List Desk) → ((k : ℕ) (d : Desk) → k < length ds → f (get_or ds k d) ≡ g k) → total_over f ds ≡ sums.total (length ds) g
by_number f g [] h = refl
by_number f g (x ∷ ds) h =
    let r = by_number f (λ k. g (suc k)) ds (λ k d l. h (suc k) d (omega arith)) in
    let a = h 0 x (omega arith) in
    let b = first_term (length ds) g in
    omega arith

module _ (w : World) (ds : List Desk) (h : AreDesks w ds) where
  pub all_instructions : total_over (λ (d : Desk). d.instructions) ds ≡ instructions_of w
  all_instructions =
      by_number (λ d. d.instructions) (λ k. length (program_of w k)) ds (by_place (λ k (d : Desk). d.instructions ≡ length (program_of w k)) ds (λ k d is. (h.desks k d is).instructions))
      ∙ ap (λ n. sums.total n (λ k. length (program_of w k))) h.many

  pub all_steps : AllEnded w ds → total_over (λ (d : Desk). d.position) ds ≡ instructions_of w
  all_steps ended =
      by_number (λ d. d.position) (λ k. length (program_of w k)) ds (by_place (λ k (d : Desk). d.position ≡ length (program_of w k)) ds ended)
      ∙ ap (λ n. sums.total n (λ k. length (program_of w k))) h.many

-- within the limits there are few instructions
all_below : (n : ℕ) (f : ℕ → ℕ) → ((k : ℕ) → f k < 2 ^ 32) → sums.total n f ≤ n * 2 ^ 32
all_below zero f h = omega arith
all_below (suc n) f h = let r = all_below n f h in let a = h n in omega arith

pub few_instructions : (w : World) → IsWhole w → instructions_of w < 2 ^ 40
few_instructions w whole =
    let few = few_desks w.plan whole.sound in
    let all = all_below (w.plan.parties * length w.plan.sessions) (λ k. length (program_of w k))
    (λ k. let short : length (program_of w k) < 4294967295 = (lawful w whole).short (k % w.plan.parties) (k / w.plan.parties) in omega arith) in
    omega arith
