-- What checks that passed tell.
use Rattle.std.proofs.Common.{◌≡◌, ℕ, Bool, true, false, ◌&&◌, Option, Some, None, Result, Ok, Err, refl}
use Rattle.std.specs.Option.{is_some, unwrap_or}
use Rattle.list_laws.specs.Checks.{then_fault}
use Rattle.circuit_model.specs.declared.fault.CircuitFault.{CircuitFault}
use Rattle.list_laws.specs.Answers.{◌>>=◌}

pub then_ok : {A : Type 0} (o : Option CircuitFault) (r : Result A CircuitFault) (x : A) → then_fault o r ≡ Ok x → (o ≡ None) × (r ≡ Ok x)
then_ok None r x e = (refl, e)
then_ok (Some f) r x e = cc

pub bind_ok : {A B : Type 0} (r : Result A CircuitFault) (f : A → Result B CircuitFault) (y : B) → (r >>= f) ≡ Ok y → (x : A) × (r ≡ Ok x) × (f x ≡ Ok y)
bind_ok (Ok a) f y e = (a, refl, e)
bind_ok (Err d) f y e = cc

pub bind_from : {A B : Type 0} (r : Result A CircuitFault) (f : A → Result B CircuitFault) (x : A) → r ≡ Ok x → (r >>= f) ≡ f x
bind_from r f x e = rw e refl

pub ok_same : {A : Type 0} (x y : A) → ◌≡◌ {A = Result A CircuitFault} (Ok x) (Ok y) → x ≡ y
ok_same x y e = cc

pub and_off : (a b : Bool) → (a && b) ≡ false → a ≡ true → b ≡ false
and_off true b e f = e
and_off false b e f = cc

pub some_is : (o : Option ℕ) → is_some o ≡ true → o ≡ Some (unwrap_or o 0)
some_is None e = cc
some_is (Some n) e = refl
