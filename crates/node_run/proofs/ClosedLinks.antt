-- Links that are closed one after another.
use Rattle.std.proofs.Common.{◌≡◌, ℕ, zero, suc, ◌<◌, ◌≤◌, List, [], ◌∷◌, length, false, get_or, set, map, refl, sym, ap, ap₂, ◌∙◌, arith}
use Rattle.std.specs.Prelude.{IsTrue, not, ◌&&◌, slice_index_or}
use Rattle.std.specs.List.{list_all}
use Rattle.outer_io.specs.Inlet.{InletReading, shut_inlet}
use Rattle.outer_io.specs.Links.{are_flushed}
use Rattle.outer_io.specs.Outlet.{OutletReading, shut_outlet}
use Rattle.link_reader.specs.Heard.{KeepsCalm}
use Rattle.node_talk.specs.PeerLinks.{no_inlet, no_outlet}
use Rattle.node_run.specs.Remains.{AllKeepCalm}

-- the first so many are closed
module _ {R : Type 0} (close : R → R) where
  abbrev pub shut_first : ℕ → List R → List R
  shut_first zero xs = xs
  shut_first (suc n) [] = []
  shut_first (suc n) (x ∷ xs) = close x ∷ shut_first n xs

  pub shut_all : (n : ℕ) (xs : List R) → length xs ≤ n → shut_first n xs ≡ map close xs
  shut_all zero [] e = refl
  shut_all zero (x ∷ xs) e = absurd (omega arith)
  shut_all (suc n) [] e = refl
  shut_all (suc n) (x ∷ xs) e = ap (λ z. close x ∷ z) (shut_all n xs (omega arith))

  shut_next : {A : Type 0} (f : A → R) (k : ℕ) (xs : List A) (ys : List R) (x a : A) → k < length xs → map f xs ≡ shut_first k ys → f x ≡ close (f (get_or xs k a)) → map f (set xs k x) ≡ shut_first (suc k) ys
  shut_next f k [] ys x a l e is = absurd (omega arith)
  shut_next f zero (z ∷ xs) [] x a l e is = absurd (cc)
  shut_next f zero (z ∷ xs) (y ∷ ys) x a l e is =
      let head : f z ≡ y = cc in
      let tail : map f xs ≡ ys = cc in
      ap₂ (λ h t. h ∷ t) (is ∙ ap close head) tail
  shut_next f (suc k) (z ∷ xs) [] x a l e is = absurd (cc)
  shut_next f (suc k) (z ∷ xs) (y ∷ ys) x a l e is =
      let head : f z ≡ close y = cc in
      let tail : map f xs ≡ shut_first k ys = cc in
      ap₂ (λ h t. h ∷ t) head (shut_next f k xs ys x a (omega arith) tail is)

  -- one more is closed
  pub shut_more : {A : Type 0} (f : A → R) (k m : ℕ) (xs : List A) (ys : List R) (x a : A) → m ≡ suc k → k < length xs → map f xs ≡ shut_first k ys → f x ≡ close (f (get_or xs k a)) → map f (set xs k x) ≡ shut_first m ys
  shut_more f k m xs ys x a e l is same = shut_next f k xs ys x a l is same ∙ ap (λ z. shut_first z ys) (sym e)

-- ---- inlets

pub calm_same : (x : InletReading) → KeepsCalm x x
calm_same x = record { faults_grow = omega arith; steady = λ s. refl }

pub all_shut : (xs : List InletReading) → AllKeepCalm xs (map shut_inlet xs)
all_shut [] = tt
all_shut (x ∷ xs) = (record { faults_grow = omega arith; steady = λ s. refl }, all_shut xs)

pub inlets_closed : (xs : List InletReading) → IsTrue (list_all (λ (i : InletReading). i.closed) (map shut_inlet xs))
inlets_closed [] = refl
inlets_closed (x ∷ xs) = inlets_closed xs

pub inlet_shut : (xs : List InletReading) (k : ℕ) → k < length xs → slice_index_or (map shut_inlet xs) k no_inlet ≡ shut_inlet (slice_index_or xs k no_inlet)
inlet_shut [] k l = absurd (omega arith)
inlet_shut (x ∷ xs) zero l = refl
inlet_shut (x ∷ xs) (suc k) l = inlet_shut xs k (omega arith)

-- ---- outlets

pub outlets_closed : (xs : List OutletReading) → IsTrue (list_all (λ (o : OutletReading). o.closed) (map shut_outlet xs))
outlets_closed [] = refl
outlets_closed (x ∷ xs) = outlets_closed xs

pub outlet_shut : (xs : List OutletReading) (k : ℕ) → (slice_index_or (map shut_outlet xs) k no_outlet).sink ≡ record (slice_index_or xs k no_outlet).sink { steady = false }
outlet_shut [] k = refl
outlet_shut (x ∷ xs) zero = refl
outlet_shut (x ∷ xs) (suc k) = outlet_shut xs k

-- closing leaves what waits
pub still_out : (xs : List OutletReading) → are_flushed (map shut_outlet xs) ≡ are_flushed xs
still_out [] = refl
still_out (x ∷ xs) = ap (λ z. not x.holds && z) (still_out xs)
