-- A fact of what a branch gives, from the fact on each way.
use Rattle.std.proofs.Common.{◌≡◌, ℕ, Bool, true, false, Some, None, Ok, Err, Option, Result, refl, arith}

pub bool_both : {X : Type 0} (b : Bool) (x y : X) (P : X → Type 0) → (b ≡ true → P x) → (b ≡ false → P y) → P (elim b [ true ↦ x | false ↦ y ])
bool_both true x y P f g = f refl
bool_both false x y P f g = g refl

pub option_both : {A X : Type 0} (o : Option A) (x : X) (y : A → X) (P : X → Type 0) → (o ≡ None → P x) → ((a : A) → o ≡ Some a → P (y a)) → P (elim o [ None ↦ x | Some a ↦ y a ])
option_both None x y P f g = f refl
option_both (Some a) x y P f g = g a refl

pub result_both : {A E X : Type 0} (r : Result A E) (x : E → X) (y : A → X) (P : X → Type 0) → ((e : E) → r ≡ Err e → P (x e)) → ((a : A) → r ≡ Ok a → P (y a)) → P (elim r [ Err e ↦ x e | Ok a ↦ y a ])
result_both (Err e) x y P f g = f e refl
result_both (Ok a) x y P f g = g a refl

-- ---- where a check that refuses gave a result, what it asked is so, and what follows gave the result
err_ok : {A E X : Type 0} {e : E} {a : A} → ◌≡◌ {A = Result A E} (Err e) (Ok a) → X
err_ok h = let z : ◌≡◌ {A = ℕ} 0 1 = cc in absurd (omega arith)

pub true_ok : {A E : Type 0} (b : Bool) (e : E) (r : Result A E) (a : A) → elim b as (λ _. Result A E) [ true ↦ r | false ↦ Err e ] ≡ Ok a → (b ≡ true) × (r ≡ Ok a)
true_ok true e r a h = (refl, h)
true_ok false e r a h = err_ok h

pub some_ok : {A E X : Type 0} (o : Option X) (e : E) (r : X → Result A E) (a : A) → elim o as (λ _. Result A E) [ None ↦ Err e | Some x ↦ r x ] ≡ Ok a → (x : X) × (o ≡ Some x) × (r x ≡ Ok a)
some_ok None e r a h = err_ok h
some_ok (Some x) e r a h = (x, refl, h)

pub none_ok : {A E X : Type 0} (o : Option X) (e : E) (r : Result A E) (a : A) → elim o as (λ _. Result A E) [ None ↦ r | Some x ↦ Err e ] ≡ Ok a → (o ≡ None) × (r ≡ Ok a)
none_ok None e r a h = (refl, h)
none_ok (Some x) e r a h = err_ok h
