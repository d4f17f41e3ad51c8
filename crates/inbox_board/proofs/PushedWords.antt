-- Words that are pushed one after another, and what the fold with a reader tells of them.
use Rattle.std.proofs.Common.{◌≡◌, ℕ, zero, suc, ◌+◌, ◌<◌, List, [], ◌∷◌, ◌++◌, length, Option, Some, None, refl, sym, ◌∙◌, subst, arith, inl, inr}
use Rattle.std.specs.Prelude.{slice_index}
use Rattle.message_board.specs.Pairs.{Knows}
use Rattle.message_board.proofs.Pairs.{knows_left, knows_right}
use Rattle.inbox_board.specs.declared.steps.InboxView.{InboxView}
use Rattle.inbox_board.specs.Rule.{newcomer, pushes, later, later_total}
use Rattle.inbox_board.specs.Folds.{pushed, FoldTells}

pub pushed_pens : (v : InboxView) (words : List ℕ) → (pushed v words).pens ≡ v.pens
pushed_pens v [] = refl
pushed_pens v (word ∷ words) = pushed_pens (pushes v word) words

pub pushed_ended : (v : InboxView) (words : List ℕ) → (pushed v words).ended ≡ v.ended
pushed_ended v [] = refl
pushed_ended v (word ∷ words) = pushed_ended (pushes v word) words

pub pushed_length : (v : InboxView) (words : List ℕ) → (pushed v words).length ≡ v.length + length words
pushed_length v [] = omega arith
pushed_length v (word ∷ words) = let a = pushed_length (pushes v word) words in omega arith

pub pushed_more : (v : InboxView) (words : List ℕ) (word : ℕ) → pushed v (words ++ word ∷ []) ≡ pushes (pushed v words) word
pushed_more v [] word = refl
pushed_more v (w ∷ words) word = pushed_more (pushes v w) words word

pushed_noted : (v : InboxView) (words : List ℕ) → (pushed v words).noted ≡ v.noted
pushed_noted v [] = refl
pushed_noted v (word ∷ words) = pushed_noted (pushes v word) words

pushed_total : (v : InboxView) (words : List ℕ) → (pushed v words).total ≡ v.total
pushed_total v [] = refl
pushed_total v (word ∷ words) = pushed_total (pushes v word) words

-- a word that is known stays known
still_known : (v : InboxView) (words : List ℕ) (p w : ℕ) → Knows v.seen p w → Knows (pushed v words).seen p w
still_known v [] p w h = h
still_known v (word ∷ words) p w h = still_known (pushes v word) words p w (inr h)

pushed_known : (v : InboxView) (words : List ℕ) (p : ℕ) → p < length words → Knows (pushed v words).seen (v.length + p) (slice_index words p)
pushed_known v [] p l = absurd (omega arith)
pushed_known v (word ∷ words) zero l = still_known (pushes v word) words (v.length + 0) word (inl (omega arith, refl))
pushed_known v (word ∷ words) (suc p) l = subst (λ z. Knows (pushed (pushes v word) words).seen z (slice_index words p)) (omega arith) (pushed_known (pushes v word) words p (omega arith))

later_none : (a n : ℕ) → a ≡ 0 → later a n ≡ n
later_none a zero e = e
later_none a (suc n) e = refl

later_total_none : (a b : Option ℕ) → a ≡ None → later_total a b ≡ b
later_total_none a None e = e
later_total_none a (Some n) e = refl

pub fold_tells : FoldTells
fold_tells words given reader none unended h =
    let v : InboxView = pushed (newcomer 1) words in
    let long : v.length ≡ 0 + length words = pushed_length (newcomer 1) words in
    let pens : v.pens ≡ 1 = pushed_pens (newcomer 1) words in
    let noted : v.noted ≡ 0 = pushed_noted (newcomer 1) words in
    record {
      known = λ place w k.
          let all = knows_right v.seen reader.seen place w k in
          let less : place < v.length + reader.length = h.places (omega arith) place w all in
          let inside : place < length words = omega arith in
          let mine = knows_left v.seen reader.seen place (slice_index words place) (subst (λ z. Knows v.seen z (slice_index words place)) (omega arith) (pushed_known (newcomer 1) words place inside)) in
          (inside, h.words place (slice_index words place) w mine all);
      mark = λ ne.
          let same : later v.noted reader.noted ≡ reader.noted = later_none v.noted reader.noted noted in
          let e : later v.noted reader.noted ≡ given + reader.ended = h.mark (omega arith) (λ z. ne (sym same ∙ z)) in
          sym same ∙ e ∙ (let o = unended in omega arith);
      total = λ n e.
          let all : n ≡ v.length + reader.length = h.total (omega arith) n (later_total_none v.total reader.total (pushed_total (newcomer 1) words) ∙ e) in
          omega arith;
    }
