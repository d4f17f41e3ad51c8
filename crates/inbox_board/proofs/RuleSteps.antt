-- Each step of an inbox keeps its rule.
use Rattle.std.proofs.Common.{◌≡◌, ◌≢◌, ℕ, zero, suc, ◌+◌, ◌<◌, ◌≤◌, List, [], ◌∷◌, ◌++◌, length, get_or, set, Option, Some, None, sym, refl, ap, ◌∙◌, subst, inl, inr, ⊎_elim, ◌⊎◌, arith, get_or-set_same}
use Rattle.std.proofs.lemmas.List.{get_or-set_other, set-get_or}
use Rattle.std.proofs.lemmas.Bool.{cases_eq}
use mathlib.Core.Option.{none, some}
use lib.ListN.{get_elem?}
use Rattle.atomic_table.specs.Table.{State, Me, step, keeps, Allows, Splits, Joins}
use Rattle.atomic_table.proofs.Lists.{at_set, at_snoc, set_again}
use Rattle.message_board.proofs.Pairs.{knows_split, total_set, total_snoc, total_two, length_set}
use Rattle.inbox_board.specs.declared.steps.InboxView.{InboxView}
use Rattle.inbox_board.specs.Rule.{IsInbox, IsWriter, IsTold, count_in, mark_in, value_in, newcomer, stores, counts_it, finds, gets, ends, notes, total_after, later, later_total, folds, stored_step, counted_step, found_step, got_step, ended_step, noted_step, compared_step}

abbrev St : Type 0
St = State (Unit {0}) InboxView

abbrev M : Type 0
M = Me (Unit {0}) InboxView

abbrev pens_of : InboxView → ℕ
pens_of v = v.pens

-- what a view knows stays true where the count falls by nothing, the mark stays or was 0, where there is a mark the count stays, and no value below the count changes
reads_on : (vs ws : List ℕ) → count_in vs ≤ count_in ws → ((m : ℕ) → m ≢ 0 → m ≡ mark_in vs → (m ≡ mark_in ws) × (count_in ws ≡ count_in vs)) → ((p : ℕ) → p < count_in vs → value_in ws p ≡ value_in vs p) → (u : InboxView) → IsTold vs u → IsTold ws u
reads_on vs ws more mark values u h =
    record {
      seen = λ p w known. let r = h.seen p w known in let l = r.0 in (omega arith, values p r.0 ∙ r.1);
      upto = (let a = h.upto in omega arith);
      noted = λ ne. (mark u.noted ne (h.noted ne)).0;
      total = λ n e. let t = h.total n e in (t.0, t.1 ∙ sym (mark u.noted t.0 (h.noted t.0)).1);
    }

-- a total that is known is the count just found, after a mark, or was known
total_found : (noted n : ℕ) (known : Option ℕ) (x : ℕ) → total_after noted n known ≡ Some x → ((noted ≢ 0) × (x ≡ n)) ⊎ (known ≡ Some x)
total_found zero n known x e = inr e
total_found (suc noted) n known x e = inl ((λ z. absurd (omega arith)), (let f : Some n ≡ Some x = e in cc))

later_total_is : (a b : Option ℕ) (n : ℕ) → later_total a b ≡ Some n → (a ≡ Some n) ⊎ (b ≡ Some n)
later_total_is a None n e = inl e
later_total_is a (Some b) n e = inr e

later_some : (a b : ℕ) → (a ≢ 0) ⊎ (b ≢ 0) → later a b ≢ 0
later_some a zero h = ⊎_elim (λ l. l) (λ r. absurd (r refl)) h
later_some a (suc b) h = λ z. absurd (omega arith)

later_is : (a b m : ℕ) → (a ≢ 0 → a ≡ m) → (b ≢ 0 → b ≡ m) → later a b ≢ 0 → later a b ≡ m
later_is a zero m f g ne = f ne
later_is a (suc b) m f g ne = g ne

nothing_read : (ws : List ℕ) → IsTold ws (newcomer 0)
nothing_read ws = record { seen = λ p w known. absurd known; upto = omega arith; noted = λ ne. absurd (ne refl); total = λ n e. absurd (let f : None ≡ Some n = e in cc) }

module _ (places : ℕ) where
  abbrev R : St → Type 0
  R = IsInbox places

  -- no other view has a pen
  lone : (s : St) → R s → (id : ℕ) (v : InboxView) → get_elem? s.views id ≡ some v → 0 < v.pens → (j : ℕ) (u : InboxView) → j ≢ id → get_elem? s.views j ≡ some u → ¬ (0 < u.pens)
  lone s h id v at pen j u ne there more = let two = total_two pens_of s.views id j v u (λ e. ne (sym e)) at there in let o = h.pen in absurd (omega arith)

  changed : (s : St) → R s → (id : ℕ) (v w : InboxView) → get_elem? s.views id ≡ some v → w.pens ≡ v.pens → (ws : List ℕ) → length ws ≡ length s.words
      → (0 < w.pens → IsWriter ws w) → IsTold ws w
      → ((j : ℕ) (u : InboxView) → j ≢ id → get_elem? s.views j ≡ some u → 0 < u.pens → IsWriter ws u)
      → ((u : InboxView) → IsTold s.words u → IsTold ws u)
      → R record { words = ws; homes = s.homes; views = set s.views id w }
  changed s h id v w at pens ws len writes reads others on =
      record {
        size = len ∙ h.size;
        pen = (let t = total_set pens_of s.views id v w at in let o = h.pen in omega arith);
        writer = λ j u e. ⊎_elim (λ (t : (j ≡ id) × (w ≡ u)). subst (λ (y : InboxView). 0 < y.pens → IsWriter ws y) t.1 writes) (λ (t : (j ≢ id) × (get_elem? s.views j ≡ some u)). others j u t.0 t.1) (at_set s.views id j w u e);
        told = λ j u e. ⊎_elim (λ (t : (j ≡ id) × (w ≡ u)). subst (λ (y : InboxView). IsTold ws y) t.1 reads) (λ (t : (j ≢ id) × (get_elem? s.views j ≡ some u)). on u (h.told j u t.1)) (at_set s.views id j w u e);
      }

  -- one view changes, and no word
  quiet : (s : St) → R s → (id i : ℕ) (v w : InboxView) → get_elem? s.views id ≡ some v → w.pens ≡ v.pens → (0 < w.pens → IsWriter s.words w) → IsTold s.words w
      → R record { words = set s.words i (get_or s.words i 0); homes = s.homes; views = set s.views id w }
  quiet s h id i v w at pens writes reads =
      subst (λ ws. R record { words = ws; homes = s.homes; views = set s.views id w }) (sym (set-get_or s.words i 0))
      (changed s h id v w at pens s.words refl writes reads (λ j u ne there. h.writer j u there) (λ u r. r))

  module _ (slots id : ℕ) (me : M) where
    pub stores_keep : (w i : ℕ) → 0 < me.0.pens → me.0.length < places → i ≡ me.0.length + 3 → Allows R slots id me i (λ _. w) (λ _. stored_step (step slots i w 0 none) me w)
    stores_keep w i pen free place s h _ at _ =
        let writes = h.writer id me.0 at pen in
        let ws = set s.words i w in
        let here : value_in ws me.0.length ≡ w = ap (λ k. get_or (set s.words k w) (me.0.length + 3) 0) place ∙ get_or-set_same s.words (me.0.length + 3) w 0 (let z = h.size in omega arith) in
        let else : (k : ℕ) → k ≢ i → get_or ws k 0 ≡ get_or s.words k 0 = λ k ne. get_or-set_other s.words i k w 0 ne in
        let count : count_in ws ≡ count_in s.words = else 1 (λ e. omega arith) in
        let mark : mark_in ws ≡ mark_in s.words = else 2 (λ e. omega arith) in
        let on : (u : InboxView) → IsTold s.words u → IsTold ws u = reads_on s.words ws (omega arith) (λ m ne e. (e ∙ sym mark, count)) (λ p less. else (p + 3) (λ e. let l = writes.length in omega arith)) in (
          stores me.0 w,
          keeps,
          tt,
          changed s h id me.0 (stores me.0 w) at refl ws (length_set s.words i w)
              (λ _. record { length = writes.length ∙ sym count; ended = writes.ended ∙ sym mark; stored = λ x e. here ∙ some_same w x e })
              (let r = on me.0 (h.told id me.0 at) in record { seen = r.seen; upto = r.upto; noted = r.noted; total = r.total })
              (λ j u ne there more. absurd (lone s h id me.0 at pen j u ne there more))
              on,
          (refl, refl),
        )
      where
        some_same : (a b : ℕ) → Some a ≡ Some b → a ≡ b
        some_same a b e = cc

    pub counts_keep : (w n : ℕ) → 0 < me.0.pens → me.0.ended ≡ 0 → me.0.stored ≡ Some w → n ≡ me.0.length + 1 → Allows R slots id me 1 (λ _. n) (λ _. counted_step (step slots 1 n 0 none) me n)
    counts_keep w n pen open_ held next s h _ at _ =
        let writes = h.writer id me.0 at pen in
        let reads = h.told id me.0 at in
        let v' = counts_it me.0 w in
        let ws = set s.words 1 n in
        let count : count_in ws ≡ n = get_or-set_same s.words 1 n 0 (let z = h.size in omega arith) in
        let mark : mark_in ws ≡ mark_in s.words = get_or-set_other s.words 1 2 n 0 (λ e. omega arith) in
        let value : (p : ℕ) → value_in ws p ≡ value_in s.words p = λ p. get_or-set_other s.words 1 (p + 3) n 0 (λ e. omega arith) in
        let on : (u : InboxView) → IsTold s.words u → IsTold ws u = reads_on s.words ws (let l = writes.length in omega arith) (λ m ne e. absurd (ne (e ∙ sym writes.ended ∙ open_))) (λ p less. value p) in
        let r = on me.0 reads in (
          v',
          keeps,
          tt,
          changed s h id me.0 v' at refl ws (length_set s.words 1 n)
              (λ _. record { length = sym next ∙ sym count; ended = writes.ended ∙ sym mark; stored = λ x e. absurd (nothing x e) })
              record {
                seen = λ p x known. ⊎_elim (λ (q : (me.0.length ≡ p) × (w ≡ x)). ((let a = q.0 in omega arith), ap (value_in ws) (sym q.0) ∙ value me.0.length ∙ writes.stored w held ∙ q.1)) (λ old. r.seen p x old) known;
                upto = r.upto;
                noted = r.noted;
                total = r.total;
              }
              (λ j u ne there more. absurd (lone s h id me.0 at pen j u ne there more))
              on,
          λ x e. (refl, ap (counts_it me.0) (some_same w x (sym held ∙ e))),
        )
      where
        some_same : (a b : ℕ) → Some a ≡ Some b → a ≡ b
        some_same a b e = cc

        nothing : (x : ℕ) → ¬ (None ≡ Some x)
        nothing x e = absurd (cc)

    pub finds_keep : Allows R slots id me 1 (λ n. n) (found_step (step slots 1 0 0 none) me)
    finds_keep s h _ at _ =
        let n : ℕ = get_or s.words 1 0 in
        let reads = h.told id me.0 at in (
          finds me.0 n,
          keeps,
          tt,
          quiet s h id 1 me.0 (finds me.0 n) at refl
              (λ pen. let w = h.writer id me.0 at pen in record { length = w.length; ended = w.ended; stored = w.stored })
              record { seen = reads.seen; upto = omega arith; noted = reads.noted; total = λ x e. ⊎_elim (λ now. now) (λ old. reads.total x old) (total_found me.0.noted n me.0.total x e) },
          (refl, refl, λ p w known. (reads.seen p w known).0),
        )

    pub gets_keep : (p i : ℕ) → p < me.0.upto → i ≡ p + 3 → Allows R slots id me i (λ n. n) (got_step (step slots i 0 0 none) me)
    gets_keep p i less place s h _ at _ =
        let n : ℕ = get_or s.words i 0 in
        let is : value_in s.words p ≡ n = ap (λ k. get_or s.words k 0) (sym place) in
        let reads = h.told id me.0 at in
        let up = reads.upto in (
          gets me.0 p n,
          keeps,
          tt,
          quiet s h id i me.0 (gets me.0 p n) at refl
              (λ pen. let w = h.writer id me.0 at pen in record { length = w.length; ended = w.ended; stored = w.stored })
              record {
                seen = λ q x known. ⊎_elim (λ (t : (p ≡ q) × (n ≡ x)). ((let a = t.0 in omega arith), ap (value_in s.words) (sym t.0) ∙ is ∙ t.1)) (λ old. reads.seen q x old) known;
                upto = reads.upto;
                noted = reads.noted;
                total = reads.total;
              },
          λ q e. let same : p ≡ q = omega arith in (refl, ap (λ k. gets me.0 k n) same, λ w known. sym (reads.seen q w known).1 ∙ ap (value_in s.words) (sym same) ∙ is),
        )

    pub ends_keep : (m : ℕ) → 0 < me.0.pens → me.0.ended ≡ 0 → Allows R slots id me 2 (λ _. m) (λ _. ended_step (step slots 2 m 0 none) me m)
    ends_keep m pen open_ s h _ at _ =
        let writes = h.writer id me.0 at pen in
        let ws = set s.words 2 m in
        let mark : mark_in ws ≡ m = get_or-set_same s.words 2 m 0 (let z = h.size in omega arith) in
        let count : count_in ws ≡ count_in s.words = get_or-set_other s.words 2 1 m 0 (λ e. omega arith) in
        let value : (p : ℕ) → value_in ws p ≡ value_in s.words p = λ p. get_or-set_other s.words 2 (p + 3) m 0 (λ e. omega arith) in
        let on : (u : InboxView) → IsTold s.words u → IsTold ws u = reads_on s.words ws (omega arith) (λ x ne e. absurd (ne (e ∙ sym writes.ended ∙ open_))) (λ p less. value p) in
        let r = on me.0 (h.told id me.0 at) in (
          ends me.0 m,
          keeps,
          tt,
          changed s h id me.0 (ends me.0 m) at refl ws (length_set s.words 2 m)
              (λ _. record { length = writes.length ∙ sym count; ended = sym mark; stored = λ x e. value me.0.length ∙ writes.stored x e })
              record { seen = r.seen; upto = r.upto; noted = r.noted; total = r.total }
              (λ j u ne there more. absurd (lone s h id me.0 at pen j u ne there more))
              on,
          (refl, refl),
        )

    pub notes_keep : Allows R slots id me 2 (λ n. n) (noted_step (step slots 2 0 0 none) me)
    notes_keep s h _ at _ =
        let n : ℕ = get_or s.words 2 0 in
        let reads = h.told id me.0 at in (
          notes me.0 n,
          keeps,
          tt,
          quiet s h id 2 me.0 (notes me.0 n) at refl
              (λ pen. let w = h.writer id me.0 at pen in record { length = w.length; ended = w.ended; stored = w.stored })
              record { seen = reads.seen; upto = reads.upto; noted = λ ne. refl; total = λ x e. let t = reads.total x e in (λ z. t.0 (reads.noted t.0 ∙ z), t.1) },
          (refl, refl, λ ne. sym (reads.noted ne)),
        )

    pub compares_keep : Allows R slots id me 0 (λ n. n) (compared_step (step slots 0 0 0 none) me)
    compares_keep s h _ at _ =
        let reads = h.told id me.0 at in (
          me.0,
          keeps,
          tt,
          quiet s h id 0 me.0 me.0 at refl (h.writer id me.0 at) reads,
          (
            refl,
            refl,
            record {
              words = λ p w x a b. sym (reads.seen p w a).1 ∙ (reads.seen p x b).1;
              places = λ pen p w known. let l = (h.writer id me.0 at pen).length in let r = (reads.seen p w known).0 in omega arith;
              mark = λ pen ne. reads.noted ne ∙ sym (h.writer id me.0 at pen).ended;
              total = λ pen n e. (reads.total n e).1 ∙ sym (h.writer id me.0 at pen).length;
            },
          ),
        )

  -- a seat makes one that reads
  pub splits_keep : (id : ℕ) (v : InboxView) → Splits R id v v (newcomer 0)
  splits_keep id v s h at = subst (λ vs. R record { words = s.words; homes = s.homes; views = vs ++ newcomer 0 ∷ [] }) (sym (set_again s.views id v at))
      record {
        size = h.size;
        pen = (let t = total_snoc pens_of s.views (newcomer 0) in let o = h.pen in omega arith);
        writer = λ j u e. ⊎_elim (λ was. h.writer j u was) (λ (new : newcomer 0 ≡ u). subst (λ (y : InboxView). 0 < y.pens → IsWriter s.words y) new (λ more. absurd (omega arith))) (at_snoc s.views (newcomer 0) u j e);
        told = λ j u e. ⊎_elim (λ was. h.told j u was) (λ (new : newcomer 0 ≡ u). subst (λ (y : InboxView). IsTold s.words y) new (nothing_read s.words)) (at_snoc s.views (newcomer 0) u j e);
      }

  -- a seat takes in what another knows
  pub joins_keep : (id : ℕ) (v : InboxView) (other : ℕ) (u : InboxView) → v.stored ≡ None → (v.pens ≡ 0 → (v.length ≡ 0) × (v.ended ≡ 0)) → (u.pens ≡ 0 → (u.length ≡ 0) × (u.ended ≡ 0)) → Joins R id v other u (folds v u) (newcomer 0)
  joins_keep id v other u none_stored v_none u_none s h at apart there =
      let both = folds v u in
      let views = set s.views id both in
      let theirs : get_elem? s.views other ≡ some u = ⊎_elim (λ (t : (other ≡ id) × (both ≡ u)). absurd (apart t.0)) (λ (t : (other ≢ id) × (get_elem? s.views other ≡ some u)). t.1) (at_set s.views id other both u there) in
      let two = total_two pens_of s.views id other v u (λ e. apart (sym e)) at theirs in
      let sum = h.pen in
      let nothing_stored : (x : ℕ) → v.stored ≡ Some x → value_in s.words both.length ≡ x = λ x e. absurd (nothing x (sym none_stored ∙ e)) in
      let writes : 0 < both.pens → IsWriter s.words both = λ more.
      ⊎_elim
      (λ (z : v.pens ≡ 0). let w = h.writer other u theirs (omega arith) in let n = v_none z in let l = n.0 in let m = n.1 in let a = w.length in let b = w.ended in record { length = omega arith; ended = omega arith; stored = nothing_stored })
      (λ (ne : v.pens ≢ 0). let w = h.writer id v at (omega arith) in let n = u_none (omega arith) in let l = n.0 in let m = n.1 in let a = w.length in let b = w.ended in record { length = omega arith; ended = omega arith; stored = nothing_stored })
      (cases_eq v.pens 0) in
      let a = h.told id v at in
      let b = h.told other u theirs in
      let reads : IsTold s.words both = record { seen = λ p x known. ⊎_elim (λ l. a.seen p x l) (λ r. b.seen p x r) (knows_split v.seen u.seen p x known); upto = a.upto; noted = later_is v.noted u.noted (mark_in s.words) a.noted b.noted; total = λ n e. ⊎_elim (λ l. let t = a.total n l in (later_some v.noted u.noted (inl t.0), t.1)) (λ r. let t = b.total n r in (later_some v.noted u.noted (inr t.0), t.1)) (later_total_is v.total u.total n e) } in
      record {
        size = h.size;
        pen = (let c = total_set pens_of s.views id v both at in let d = total_set pens_of views other u (newcomer 0) there in omega arith);
        writer = each s id both other (λ y. 0 < y.pens → IsWriter s.words y) (λ more. absurd (omega arith)) writes h.writer;
        told = each s id both other (λ y. IsTold s.words y) (nothing_read s.words) reads h.told;
      }
    where
      nothing : (x : ℕ) → ¬ (None ≡ Some x)
      nothing x e = absurd (cc)

      -- what holds of the two and of each other view, holds of each
      each : (s : St) (id : ℕ) (both : InboxView) (other : ℕ) (P : InboxView → Type 0) → P (newcomer 0) → P both → ((j : ℕ) (y : InboxView) → get_elem? s.views j ≡ some y → P y)
          → (j : ℕ) (y : InboxView) → get_elem? (set (set s.views id both) other (newcomer 0)) j ≡ some y → P y
      each s id both other P at_spent at_both at_rest j y e =
          ⊎_elim (λ (t : (j ≡ other) × (newcomer 0 ≡ y)). subst P t.1 at_spent)
          (λ (t : (j ≢ other) × (get_elem? (set s.views id both) j ≡ some y)). ⊎_elim (λ (r : (j ≡ id) × (both ≡ y)). subst P r.1 at_both) (λ (r : (j ≢ id) × (get_elem? s.views j ≡ some y)). at_rest j y r.1) (at_set s.views id j both y t.1))
          (at_set (set s.views id both) other j (newcomer 0) y e)
