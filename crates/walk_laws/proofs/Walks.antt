-- Walks one after another end once where each does.
use Rattle.std.proofs.Common.{◌≡◌, ℕ, List, inl, inr, refl, sym, ap, ap₂, ◌∙◌, subst}
use Rattle.job_walk.specs.Verdict.{Verdict, accepted, missing, refused, Ends, Then, EndsOnce}

pub ends_once : {A : Type 0} (verdict : Verdict A) → EndsOnce (Ends verdict)
ends_once verdict v w e f = e ∙ sym f

accepted_same : {A : Type 0} (a b : A) → accepted a ≡ accepted b → a ≡ b
accepted_same a b e = cc

no_accepted_missing : {A : Type 0} {P : Type 0} (a : A) (name : List ℕ) → accepted a ≡ missing name → P
no_accepted_missing a name e = cc

no_accepted_refused : {A : Type 0} {P : Type 0} (a : A) (status : ℕ) (line : List ℕ) → accepted a ≡ refused status line → P
no_accepted_refused a status line e = cc

no_missing_refused : {A P : Type 0} (name : List ℕ) (s : ℕ) (line : List ℕ) (v w : Verdict A) → v ≡ missing name → w ≡ refused s line → v ≡ w → P
no_missing_refused name s line v w e f same = cc

same_names : {A : Type 0} (name name' : List ℕ) (v w : Verdict A) → v ≡ missing name → w ≡ missing name' → v ≡ w → name ≡ name'
same_names name name' v w e f same = cc

same_refusals : {A : Type 0} (s s' : ℕ) (line line' : List ℕ) (v w : Verdict A) → v ≡ refused s line → w ≡ refused s' line' → v ≡ w → (s ≡ s') × (line ≡ line')
same_refusals s s' line line' v w e f same = (cc, cc)

module _ {A B : Type 0} (first : Verdict A → Type 0) (next : A → Verdict B → Type 0) (once : EndsOnce first) (then : (a : A) → first (accepted a) → EndsOnce (next a)) where
  abbrev Same : Verdict B → Verdict B → Type 0
  Same v w = v ≡ w

  -- both walks go on
  both : (a a' : A) (v w : Verdict B) → first (accepted a) → first (accepted a') → next a v → next a' w → v ≡ w
  both a a' v w f f' n n' = then a f v w n (subst (λ x. next x w) (sym (accepted_same a a' (once (accepted a) (accepted a') f f'))) n')

  missing_same : (name name' : List ℕ) → first (missing name) → first (missing name') → Same (missing name) (missing name')
  missing_same name name' f f' = ap missing (same_names name name' (missing name) (missing name') refl refl (once (missing name) (missing name') f f'))

  refused_same : (s s' : ℕ) (line line' : List ℕ) → first (refused s line) → first (refused s' line') → Same (refused s line) (refused s' line')
  refused_same s s' line line' f f' =
      let both : (s ≡ s') × (line ≡ line') = same_refusals s s' line line' (refused s line) (refused s' line') refl refl (once (refused s line) (refused s' line') f f') in
      ap₂ refused both.0 both.1

  missing_refused : {P : Type 0} (name : List ℕ) (s : ℕ) (line : List ℕ) → first (missing name) → first (refused s line) → P
  missing_refused name s line f f' = no_missing_refused name s line (missing name) (refused s line) refl refl (once (missing name) (refused s line) f f')

  -- where what follows ends once after what the first accepts
  pub then_once_of : EndsOnce (Then first next)
  unfolding Then
  then_once_of (accepted b) (accepted b') (a, f, n) (a', f', n') = both a a' (accepted b) (accepted b') f f' n n'
  then_once_of (accepted b) (missing name) (a, f, n) (inl g) = no_accepted_missing a name (once (accepted a) (missing name) f g)
  then_once_of (accepted b) (missing name) (a, f, n) (inr (a', f', n')) = both a a' (accepted b) (missing name) f f' n n'
  then_once_of (accepted b) (refused s line) (a, f, n) (inl g) = no_accepted_refused a s line (once (accepted a) (refused s line) f g)
  then_once_of (accepted b) (refused s line) (a, f, n) (inr (a', f', n')) = both a a' (accepted b) (refused s line) f f' n n'
  then_once_of (missing name) (accepted b) (inl g) (a, f, n) = no_accepted_missing a name (once (accepted a) (missing name) f g)
  then_once_of (missing name) (accepted b) (inr (a', f', n')) (a, f, n) = both a' a (missing name) (accepted b) f' f n' n
  then_once_of (missing name) (missing name') (inl g) (inl g') = missing_same name name' g g'
  then_once_of (missing name) (missing name') (inl g) (inr (a, f, n)) = no_accepted_missing a name (once (accepted a) (missing name) f g)
  then_once_of (missing name) (missing name') (inr (a, f, n)) (inl g) = no_accepted_missing a name' (once (accepted a) (missing name') f g)
  then_once_of (missing name) (missing name') (inr (a, f, n)) (inr (a', f', n')) = both a a' (missing name) (missing name') f f' n n'
  then_once_of (missing name) (refused s line) (inl g) (inl g') = missing_refused name s line g g'
  then_once_of (missing name) (refused s line) (inl g) (inr (a, f, n)) = no_accepted_missing a name (once (accepted a) (missing name) f g)
  then_once_of (missing name) (refused s line) (inr (a, f, n)) (inl g) = no_accepted_refused a s line (once (accepted a) (refused s line) f g)
  then_once_of (missing name) (refused s line) (inr (a, f, n)) (inr (a', f', n')) = both a a' (missing name) (refused s line) f f' n n'
  then_once_of (refused s line) (accepted b) (inl g) (a, f, n) = no_accepted_refused a s line (once (accepted a) (refused s line) f g)
  then_once_of (refused s line) (accepted b) (inr (a', f', n')) (a, f, n) = both a' a (refused s line) (accepted b) f' f n' n
  then_once_of (refused s line) (missing name) (inl g) (inl g') = missing_refused name s line g' g
  then_once_of (refused s line) (missing name) (inl g) (inr (a, f, n)) = no_accepted_refused a s line (once (accepted a) (refused s line) f g)
  then_once_of (refused s line) (missing name) (inr (a, f, n)) (inl g) = no_accepted_missing a name (once (accepted a) (missing name) f g)
  then_once_of (refused s line) (missing name) (inr (a, f, n)) (inr (a', f', n')) = both a a' (refused s line) (missing name) f f' n n'
  then_once_of (refused s line) (refused s' line') (inl g) (inl g') = refused_same s s' line line' g g'
  then_once_of (refused s line) (refused s' line') (inl g) (inr (a, f, n)) = no_accepted_refused a s line (once (accepted a) (refused s line) f g)
  then_once_of (refused s line) (refused s' line') (inr (a, f, n)) (inl g) = no_accepted_refused a s' line' (once (accepted a) (refused s' line') f g)
  then_once_of (refused s line) (refused s' line') (inr (a, f, n)) (inr (a', f', n')) = both a a' (refused s line) (refused s' line') f f' n n'

pub then_once : {A B : Type 0} (first : Verdict A → Type 0) (next : A → Verdict B → Type 0) → EndsOnce first → ((a : A) → EndsOnce (next a)) → EndsOnce (Then first next)
then_once first next once then = then_once_of first next once (λ a is. then a)
