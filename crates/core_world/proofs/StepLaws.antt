-- A step of a desk keeps the state of a world.
use Rattle.std.proofs.Common.{◌≡◌, ◌⊎◌, ℕ, zero, suc, ◌+◌, ◌/◌, ◌%◌, ◌<◌, ◌≤◌, ◌≢◌, ◌^◌, List, [], ◌∷◌, length, get_or, set, get_or-set_other, get_or-set_same, refl, sym, ap, ap₂, ◌∙◌, subst, arith, inl, inr, ⊎_elim}
use Rattle.std.specs.Prelude.{Option, Some, None, is_some, if◌then◌else◌, slice_get, map}
use Rattle.std.specs.Option.{option_map}
use Rattle.std.proofs.Math.ListN.{length-set}
use Rattle.std.proofs.lemmas.List.{set-get_or, get_or_past}
use Rattle.std.proofs.lemmas.Bool.{cases_eq, cases_lt}
use mathlib.Core.Logic.{inl as left', inr as right}
use Rattle.plan_model.specs.Numbers.{message}
use Rattle.share_world.specs.Worlds.{World, word}
use Rattle.message_board.specs.Plain.{plain_cell, plain_put, answer}
use Rattle.message_board.specs.declared.plain.PlainCells.{PlainCells}
use Rattle.program_model.specs.declared.instruction.Instruction.{Instruction}
use Rattle.program_model.specs.declared.instruction.Instruction.TheVariants.{Draw, Deal, Post, Take, Linear, Own, Sum, Open, Join, Deliver, End}
use Rattle.party_desk.specs.declared.desk.Desk.{Desk}
use Rattle.party_desk.specs.declared.desk.Stepped.{Stepped}
use Rattle.party_desk.specs.declared.desk.Stepped.TheVariants.{Moved, NotYet, Ended}
use Rattle.program_model.specs.Programs.{at}
use Rattle.party_desk.specs.Desks.{IsDesk, Waits, instruction_at}
use Rattle.core_world.specs.Schedules.{Standing, standing, told, cells_after, step_from, step, tells}
use Rattle.core_world.specs.States.{IsState, StuckOn}
use Rattle.desk_laws.specs.Pools.{moves_of, left_all}
use Rattle.share_world.specs.Laws.{IsWhole}
use Rattle.program_laws.specs.Lawful.{given_to, program_of}
use Rattle.program_laws.proofs.LawfulWorlds.{lawful}
use Rattle.plan_model.specs.Plans.{Plan}
use Rattle.message_board.specs.declared.cells.Cells.{Ghosts as Meaning}
use Rattle.desk_laws.specs.InWorld.{Serves, MayStepIn, DoesIn, StepsIn}
use Rattle.desk_laws.proofs.Elements.{element_there, stands_at, by_place, by_element}
use Rattle.desk_laws.proofs.StepCounts.{left_set, waited, counts as desk_counts}
use Rattle.message_board.proofs.CellPosts.{put_length, put_keeps, put_new, put_full}

-- the positions of desks
pub position_at : (ds : List Desk) (k : ℕ) (d : Desk) → k < length ds → slice_get (map (λ z. z.position) ds) k ≡ Some (get_or ds k d).position
position_at [] k d l = absurd (omega arith)
position_at (x ∷ ds) zero d l = refl
position_at (x ∷ ds) (suc k) d l = position_at ds k d (omega arith)

pub no_position : (ds : List Desk) (k : ℕ) → length ds ≤ k → slice_get (map (λ z. z.position) ds) k ≡ None
no_position [] k l = refl
no_position (x ∷ ds) zero l = absurd (omega arith)
no_position (x ∷ ds) (suc k) l = no_position ds k (omega arith)

positions_set : (ds : List Desk) (k : ℕ) (e : Desk) → map (λ z. z.position) (set ds k e) ≡ set (map (λ z. z.position) ds) k e.position
positions_set [] k e = refl
positions_set (x ∷ ds) zero e = refl
positions_set (x ∷ ds) (suc k) e = ap (λ z. x.position ∷ z) (positions_set ds k e)

-- what plain cells mean
abbrev pub plain_cells : Meaning PlainCells
plain_cells = record {
  may_post = λ c n x. (n < length c.cells) × (x < 2 ^ c.bits);
  may_take = λ c n. n < length c.cells;
  got = λ c n x. plain_cell c.cells n ≡ Some x;
  put = λ c n x a d. (d ≡ record c { cells = plain_put c.cells n x }) × (a ≡ answer (plain_cell c.cells n));
  took = λ c n a d. (d ≡ c) × (a ≡ plain_cell c.cells n);
  below = λ c k. c.bits ≡ k;
}

plain_serves : (w : World) → IsWhole w → (ds : List Desk) (cells : PlainCells) → IsState w ds cells → (p : ℕ) → Serves plain_cells w p cells
plain_serves w whole ds cells h p = record {
  below = h.bits;
  posts = λ n ln e. ((let a = h.count in omega arith), subst (λ z. word w (message w.plan n) < 2 ^ z) (sym h.bits) ((lawful w whole).small n ln));
  takes = λ n ln e. (let a = h.count in omega arith);
  gives = λ n v f took got. h.words n v (sym took.1);
}

pub may_step : (w : World) (plan : Plan) → w.plan ≡ plan → IsWhole w → (ds : List Desk) (cells : PlainCells) → IsState w ds cells → (k : ℕ) → k < length ds → (d : Desk) → MayStepIn plain_cells plan w (k / w.plan.parties) (k % w.plan.parties) cells (get_or ds k d)
may_step w plan same whole ds cells h k inside d = record { same = same; whole = whole; desk = by_place (λ j (desk : Desk). IsDesk (given_to w j) desk) ds h.desks k d inside; serves = plain_serves w whole ds cells h (k % w.plan.parties) }

module _ (w : World) (whole : IsWhole w) (ds : List Desk) (cells : PlainCells) (h : IsState w ds cells) (k : ℕ) (inside : k < length ds) (d0 : Desk) where
  abbrev d : Desk
  d = get_or ds k d0

  abbrev s : ℕ
  s = k / w.plan.parties

  abbrev p : ℕ
  p = k % w.plan.parties

  abbrev i : Instruction
  i = instruction_at (given_to w k) d

  is_desk : IsDesk (given_to w k) d
  is_desk = by_place (λ j (desk : Desk). IsDesk (given_to w j) desk) ds h.desks k d0 inside

  -- what the state says of posts, with any default
  full_at : (k' q n j : ℕ) (d1 : Desk) → k' < length ds → q < (get_or ds k' d1).position → at (program_of w k') q ≡ Post n j → plain_cell cells.cells n ≡ Some (word w (message w.plan n))
  full_at k' q n j d1 l less at' = by_place (λ m (desk : Desk). q < desk.position → at (program_of w m) q ≡ Post n j → plain_cell cells.cells n ≡ Some (word w (message w.plan n)))
      ds (λ m desk is less' e. h.full m q n j desk is less' e) k' d1 l less at'

  here : i ≡ at (program_of w k) d.position
  here = refl

  abbrev Did : Desk → PlainCells → Stepped → Type 0
  Did e new r = StepsIn plain_cells w s p d cells e new i r

  abbrev Does : PlainCells → Instruction → Type 0
  Does new j = DoesIn plain_cells w p cells new j

  -- ---- what a step leaves

  record CellsAfter (new : PlainCells) : Type 0 where
    pub count : length new.cells ≡ length cells.cells
    pub bits : new.bits ≡ cells.bits
    pub words : (n v : ℕ) → plain_cell new.cells n ≡ Some v → v ≡ word w (message w.plan n)
    pub keeps : (n v : ℕ) → plain_cell cells.cells n ≡ Some v → plain_cell new.cells n ≡ Some v
    pub posts : (n j : ℕ) → i ≡ Post n j → plain_cell new.cells n ≡ Some (word w (message w.plan n))
    pub comes : (n v : ℕ) → plain_cell new.cells n ≡ Some v → (plain_cell cells.cells n ≡ Some v) ⊎ ((j : ℕ) × (i ≡ Post n j))

  same_cells : (new : PlainCells) → new ≡ cells → ((n j : ℕ) → i ≢ Post n j) → CellsAfter new
  same_cells new e none = record {
    count = ap (λ z. length z.cells) e;
    bits = ap (λ z. z.bits) e;
    words = λ n v f. h.words n v (sym (ap (λ z. plain_cell z.cells n) e) ∙ f);
    keeps = λ n v f. ap (λ z. plain_cell z.cells n) e ∙ f;
    posts = λ n j f. absurd (none n j f);
    comes = λ n v f. inl (sym (ap (λ z. plain_cell z.cells n) e) ∙ f);
  }

  put_cells : (new : PlainCells) (n j : ℕ) (x : ℕ) → i ≡ Post n j → n < length cells.cells → x ≡ word w (message w.plan n) → new.cells ≡ plain_put cells.cells n x → new.bits ≡ cells.bits → CellsAfter new
  put_cells new n j x e less is put bits = record {
    count = ap length put ∙ put_length cells.cells n x less;
    bits = bits;
    words = λ m v f. ⊎_elim (λ (a : plain_cell cells.cells m ≡ Some v). h.words m v a) (λ (b : (m ≡ n) × (v ≡ x)). b.1 ∙ is ∙ ap (λ z. word w (message w.plan z)) (sym b.0))
        (put_new cells.cells n x m v less (sym (ap (λ z. plain_cell z m) put) ∙ f));
    keeps = λ m v f. ap (λ z. plain_cell z m) put ∙ put_keeps cells.cells n x m v less f;
    posts = λ m j' f.
        let same : m ≡ n = (let g : Post m j' ≡ Post n j = sym f ∙ e in cc) in
        ap (λ z. plain_cell z m) put ∙ ap (plain_cell (plain_put cells.cells n x)) same ∙ put_full cells.cells n x less (λ v g. h.words n v g ∙ sym is) ∙ ap Some (is ∙ ap (λ z. word w (message w.plan z)) (sym same));
    comes = λ m v f. ⊎_elim (λ (a : plain_cell cells.cells m ≡ Some v). inl a) (λ (b : (m ≡ n) × (v ≡ x)). inr (j, e ∙ ap (λ z. Post z j) (sym b.0)))
        (put_new cells.cells n x m v less (sym (ap (λ z. plain_cell z m) put) ∙ f));
  }

  after_effect : (e : Instruction) (new : PlainCells) → i ≡ e → Does new e → CellsAfter new
  after_effect (Draw k) new e f = same_cells new f (λ n j' g. let a : Draw k ≡ Post n j' = sym e ∙ g in cc)
  after_effect (Deal k j) new e f = same_cells new f (λ n j' g. let a : Deal k j ≡ Post n j' = sym e ∙ g in cc)
  after_effect (Post n j) new e f = put_cells new n j (word w (message w.plan n)) e (let a = f.there in let b = h.count in omega arith) refl (ap (λ z. z.cells) f.put.0) (ap (λ z. z.bits) f.put.0)
  after_effect (Take n j) new e f = same_cells new f.took.0 (λ n' j' g. let a : Take n j ≡ Post n' j' = sym e ∙ g in cc)
  after_effect (Linear k) new e f = same_cells new f (λ n j' g. let a : Linear k ≡ Post n j' = sym e ∙ g in cc)
  after_effect (Own k) new e f = same_cells new f (λ n j' g. let a : Own k ≡ Post n j' = sym e ∙ g in cc)
  after_effect (Sum k) new e f = same_cells new f (λ n j' g. let a : Sum k ≡ Post n j' = sym e ∙ g in cc)
  after_effect (Open k) new e f = same_cells new f (λ n j' g. let a : Open k ≡ Post n j' = sym e ∙ g in cc)
  after_effect (Join k) new e f = same_cells new f (λ n j' g. let a : Join k ≡ Post n j' = sym e ∙ g in cc)
  after_effect (Deliver k) new e f = same_cells new f (λ n j' g. let a : Deliver k ≡ Post n j' = sym e ∙ g in cc)
  after_effect End new e f = absurd f

  moved : (e : Desk) (new : PlainCells) → e.position ≡ d.position + 1 → Does new i → IsDesk (given_to w k) e → IsState w (set ds k e) new
  moved e new more f desk =
      let c : CellsAfter new = after_effect i new refl f in
      let long : length (set ds k e) ≡ length ds = length-set ds k e in record {
        many = long ∙ h.many;
        desks = by_element (λ j (desk : Desk). IsDesk (given_to w j) desk) (set ds k e) (λ k' d1 b. elim (cases_eq k' k) [
          | left' eq ↦ subst (λ z. IsDesk (given_to w z) (get_or (set ds k e) z d1)) (sym eq) (subst (IsDesk (given_to w k)) (sym (get_or-set_same ds k e d1 inside)) desk)
          | right ne ↦ subst (IsDesk (given_to w k')) (sym (get_or-set_other ds k k' e d1 ne)) (by_place (λ j (desk : Desk). IsDesk (given_to w j) desk) ds h.desks k' d1 (omega (arith, b, long)))
        ]);
        count = c.count ∙ h.count;
        bits = c.bits ∙ h.bits;
        words = c.words;
        sent = λ n v f. ⊎_elim
            (λ (a' : plain_cell cells.cells n ≡ Some v).
            let r = h.sent n v a' in
            let was = stands_at ds r.0 r.3 d0 r.4 in
            let within : r.0 < length (set ds k e) = (let b = was.0 in omega (arith, long, b)) in
            let now = element_there (set ds k e) r.0 within in (
              r.0,
              r.1,
              r.2,
              now.0,
              now.1,
              elim (cases_eq r.0 k) [
                | left' eq ↦
                    let pos : now.0.position ≡ d.position + 1 =
                    ap (λ z. z.position) (sym now.2) ∙ ap (λ z. (get_or (set ds k e) z now.0).position) eq ∙ ap (λ z. z.position) (get_or-set_same ds k e now.0 inside) ∙ more in
                    let old : r.3.position ≡ d.position = ap (λ z. z.position) (sym was.1) ∙ ap (λ z. (get_or ds z d0).position) eq in
                    let b = r.5 in omega arith
                | right ne ↦
                    let same : r.3 ≡ now.0 = sym (stands_at ds r.0 r.3 now.0 r.4).1 ∙ sym (get_or-set_other ds k r.0 e now.0 ne) ∙ now.2 in
                    subst (λ z. r.1 < z.position) same r.5
              ],
              r.6,
            ))
            (λ (b : (j : ℕ) × (i ≡ Post n j)).
            let within : k < length (set ds k e) = omega (arith, long) in
            let now = element_there (set ds k e) k within in
            let pos : now.0.position ≡ d.position + 1 = ap (λ z. z.position) (sym now.2 ∙ get_or-set_same ds k e now.0 inside) ∙ more in
            (k, d.position, b.0, now.0, now.1, omega arith, sym here ∙ b.1))
            (c.comes n v f);
        full = λ k' q n j d1 is lq at'.
            let there = stands_at (set ds k e) k' d1 d1 is in
            let b = there.0 in
            elim (cases_eq k' k) [
              | left' eq ↦
                  let pos : d1.position ≡ d.position + 1 = ap (λ z. z.position) (sym there.1) ∙ ap (λ z. (get_or (set ds k e) z d1).position) eq ∙ ap (λ z. z.position) (get_or-set_same ds k e d1 inside) ∙ more in
                  elim (cases_lt q d.position) [
                    | left' before ↦ c.keeps n _ (full_at k q n j d0 inside before (ap (λ z. at (program_of w z) q) (sym eq) ∙ at'))
                    | right past ↦ let same : q ≡ d.position = omega (arith, pos, lq, past) in
                        c.posts n j (here ∙ ap (at (program_of w k)) (sym same) ∙ ap (λ z. at (program_of w z) q) (sym eq) ∙ at')
                  ]
              | right ne ↦ c.keeps n _ (full_at k' q n j d1 (omega (arith, b, long)) (subst (λ z. q < z.position) (sym there.1 ∙ get_or-set_other ds k k' e d1 ne) lq) at')
            ];
      }

  stayed : (e : Desk) (new : PlainCells) → e ≡ d → new ≡ cells → IsState w (set ds k e) new
  stayed e new a b = subst (λ z. IsState w z new) (sym (ap (set ds k) a ∙ set-get_or ds k d0)) (subst (IsState w ds) (sym b) h)

  pub stepped : (e : Desk) (new : PlainCells) (r : Stepped) → Did e new r → IsState w (set ds k e) new
  stepped e new Moved f = moved e new f.0 f.1 f.2
  stepped e new (NotYet m) f = let x = waited plain_cells d e cells new m i f in stayed e new x.same x.none.0
  stepped e new Ended f = stayed e new f.1 f.2

  -- ---- where a step leaves the desks and the cells

  record StepsAs (e : Desk) (new : PlainCells) (r : Stepped) (j : Instruction) : Type 0 where
    pub position : e.position ≡ d.position + moves_of r
    pub holds : new.cells ≡ cells_after w j cells.cells
    pub tells : r ≡ told cells.cells j

  moved_as : (e : Desk) (new : PlainCells) (j : Instruction) → e.position ≡ d.position + 1 → Does new j → StepsAs e new Moved j
  moved_as e new (Draw k) a f = record { position = a; holds = ap (λ z. z.cells) f; tells = refl }
  moved_as e new (Deal k j) a f = record { position = a; holds = ap (λ z. z.cells) f; tells = refl }
  moved_as e new (Post n j) a f = record { position = a; holds = ap (λ z. z.cells) f.put.0; tells = refl }
  moved_as e new (Take n j) a f = record { position = a; holds = ap (λ z. z.cells) f.took.0; tells = ap (λ z. if is_some z then Moved else NotYet n) f.took.1 }
  moved_as e new (Linear k) a f = record { position = a; holds = ap (λ z. z.cells) f; tells = refl }
  moved_as e new (Own k) a f = record { position = a; holds = ap (λ z. z.cells) f; tells = refl }
  moved_as e new (Sum k) a f = record { position = a; holds = ap (λ z. z.cells) f; tells = refl }
  moved_as e new (Open k) a f = record { position = a; holds = ap (λ z. z.cells) f; tells = refl }
  moved_as e new (Join k) a f = record { position = a; holds = ap (λ z. z.cells) f; tells = refl }
  moved_as e new (Deliver k) a f = record { position = a; holds = ap (λ z. z.cells) f; tells = refl }
  moved_as e new End a f = absurd f

  waited_as : (e : Desk) (new : PlainCells) (m : ℕ) (j : Instruction) → Waits plain_cells d cells e new m j → StepsAs e new (NotYet m) j
  waited_as e new m (Take n j) f = record { position = ap (λ z. z.position) f.1 ∙ omega arith; holds = ap (λ z. z.cells) f.2.0; tells = ap NotYet f.0 ∙ ap (λ z. if is_some z then Moved else NotYet n) f.2.1 }
  waited_as e new m (Draw k) f = absurd f
  waited_as e new m (Deal k j) f = absurd f
  waited_as e new m (Post k j) f = absurd f
  waited_as e new m (Linear k) f = absurd f
  waited_as e new m (Own k) f = absurd f
  waited_as e new m (Sum k) f = absurd f
  waited_as e new m (Open k) f = absurd f
  waited_as e new m (Join k) f = absurd f
  waited_as e new m (Deliver k) f = absurd f
  waited_as e new m End f = absurd f

  steps_as : (e : Desk) (new : PlainCells) (r : Stepped) → Did e new r → StepsAs e new r i
  steps_as e new Moved f = moved_as e new i f.0 f.1
  steps_as e new (NotYet m) f = waited_as e new m i f
  steps_as e new Ended f =
      let ended : i ≡ End = here ∙ get_or_past (program_of w k) d.position End (let a = f.0 in omega arith) in
      subst (StepsAs e new Ended) (sym ended) (record { position = ap (λ z. z.position) f.1 ∙ omega arith; holds = ap (λ z. z.cells) f.2; tells = refl })

  found : slice_get (map (λ z. z.position) ds) k ≡ Some d.position
  found = position_at ds k d0 inside

  next : Instruction
  next = at (program_of w k) d.position

  pub stands_as : (e : Desk) (new : PlainCells) (r : Stepped) → Did e new r → standing (set ds k e) new ≡ step w k (standing ds cells)
  stands_as e new r f =
      let a = subst (StepsAs e new r) here (steps_as e new r f) in
      ap₂ (λ (xs : List ℕ) (ys : List (Option ℕ)). let both : Standing = record { positions = xs; cells = ys } in both)
      (positions_set ds k e ∙ ap (set (map (λ z. z.position) ds) k) (a.position ∙ ap (λ z. d.position + moves_of z) a.tells))
      a.holds
      ∙ ap (step_from w k (standing ds cells)) (sym found)

  pub tells_as : (e : Desk) (new : PlainCells) (r : Stepped) → Did e new r → Some r ≡ tells w k (standing ds cells)
  tells_as e new r f =
      ap Some (subst (StepsAs e new r) here (steps_as e new r f)).tells
      ∙ ap (option_map (λ q. told cells.cells (at (program_of w k) q))) (sym found)

  -- ---- what a step counts

  pub counts : (e : Desk) (new : PlainCells) (r : Stepped) → Did e new r → moves_of r + left_all (set ds k e) ≡ left_all ds
  counts e new r f =
      let step = desk_counts plain_cells w s p cells d is_desk e new r f in
      let sum = left_set ds k e d0 inside in
      omega arith

  pub stays : (e : Desk) (new : PlainCells) (r : Stepped) → Did e new r → moves_of r ≡ 0 → (set ds k e ≡ ds) × (new ≡ cells)
  stays e new Moved f z = absurd (omega arith)
  stays e new (NotYet m) f z = let x = waited plain_cells d e cells new m i f in (ap (set ds k) x.same ∙ set-get_or ds k d0, x.none.0)
  stays e new Ended f z = (ap (set ds k) f.1 ∙ set-get_or ds k d0, f.2)

  pub is_stuck : (e : Desk) (new : PlainCells) (r : Stepped) → Did e new r → moves_of r ≡ 0 → StuckOn w cells.cells k d
  is_stuck e new Moved f z = absurd (omega arith)
  is_stuck e new (NotYet m) f z = let x = waited plain_cells d e cells new m i f in inr (x.number, x.share, sym here ∙ x.takes, sym x.none.1)
  is_stuck e new Ended f z = inl f.0
