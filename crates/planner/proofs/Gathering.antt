-- What slots give, all together.
use Rattle.std.proofs.Common.{◌≡◌, ℕ, zero, suc, ◌<◌, eqb, List, [], ◌∷◌, ◌++◌, length, get_or, map, Some, None, Option, sym, refl, ap, ap₂, ◌∙◌, subst, ⊎_elim, arith}
use Rattle.std.proofs.lemmas.Bool.{ne_eqb, cond-false, cases_eq}
use Rattle.std.proofs.lemmas.Option.{none-some, same_Some}
use Rattle.pool.specs.Counts.{names, times}
use Rattle.pool.proofs.Counted.{times_here}
use Rattle.encodings.specs.Meaning.{present}
use Rattle.encodings.specs.Rows.{gathered}

-- a first and the rest, none where either is missing
abbrev pub first_of : {A : Type 0} → Option A → Option (List A) → Option (List A)
first_of o rest = elim o [ None ↦ None | Some a ↦ elim rest [ None ↦ None | Some l ↦ Some (a ∷ l) ] ]

pub first_is : {A : Type 0} (o : Option A) (rest : Option (List A)) (l : List A) → first_of o rest ≡ Some l → (a : A) × (more : List A) × (o ≡ Some a) × (rest ≡ Some more) × (l ≡ a ∷ more)
first_is None rest l e = absurd (none-some l e)
first_is (Some a) None l e = absurd (none-some l e)
first_is (Some a) (Some more) l e = (a, more, refl, refl, sym (same_Some (a ∷ more) l e))

no_rest : {A : Type 0} (o : Option A) (rest : Option (List A)) → rest ≡ None → first_of o rest ≡ None
no_rest None rest e = refl
no_rest (Some a) rest e = rw e refl

pub names_present : (rs : List ℕ) → names (present rs) ≡ rs
names_present [] = refl
names_present (r ∷ rs) = ap (λ (l : List ℕ). r ∷ l) (names_present rs)

module _ {A : Type 0} (g : ℕ → Option A) where
  pub gathered_long : (rs : List ℕ) (l : List A) → gathered g (present rs) ≡ Some l → length l ≡ length rs
  gathered_long [] l e = ap (λ (x : List A). length x) (sym (same_Some [] l e))
  gathered_long (r ∷ rs) l e =
      let p = first_is (g r) (gathered g (present rs)) l e in
      ap (λ (x : List A). length x) p.4 ∙ ap (λ (n : ℕ). suc n) (gathered_long rs p.1 p.3)

  -- one root more
  pub gathered_push : (rs : List ℕ) (r : ℕ) (l : List A) (a : A) → gathered g (present rs) ≡ Some l → g r ≡ Some a → gathered g (present (rs ++ r ∷ [])) ≡ Some (l ++ a ∷ [])
  gathered_push [] r l a e at = rw at (ap (λ (x : List A). Some (x ++ a ∷ [])) (same_Some [] l e))
  gathered_push (x ∷ rs) r l a e at =
      let p = first_is (g x) (gathered g (present rs)) l e in
      rw (p.2, gathered_push rs r p.1 a p.3 at) (ap (λ (y : List A). Some (y ++ a ∷ [])) (sym p.4))

  -- one that has none
  pub gathered_none : (rs : List ℕ) (k d : ℕ) → k < length rs → g (get_or rs k d) ≡ None → gathered g (present rs) ≡ None
  gathered_none [] k d h e = absurd (omega arith)
  gathered_none (r ∷ rs) zero d h e = rw e refl
  gathered_none (r ∷ rs) (suc k) d h e = no_rest (g r) (gathered g (present rs)) (gathered_none rs k d (omega arith) e)

  -- what each that is there gives, the other gives too
  pub gathered_carries : (h : ℕ → Option A) → ((r : ℕ) (a : A) → g r ≡ Some a → h r ≡ Some a) → (rs : List ℕ) (l : List A) → gathered g (present rs) ≡ Some l → gathered h (present rs) ≡ Some l
  gathered_carries h carries [] l e = e
  gathered_carries h carries (r ∷ rs) l e =
      let p = first_is (g r) (gathered g (present rs)) l e in
      rw (carries r p.0 p.2, gathered_carries h carries rs p.1 p.3) (ap (λ (x : List A). Some x) (sym p.4))

-- what each of these nodes gives for sure
pub gathered_each : {A : Type 0} (g : ℕ → Option A) (h : ℕ → A) (cs : List ℕ) → ((c : ℕ) → 0 < times c cs → g c ≡ Some (h c)) → gathered g (present cs) ≡ Some (map h cs)
gathered_each g h [] e = refl
gathered_each g h (c ∷ cs) e = rw (e c (times_here c cs), gathered_each g h cs (λ d i. e d (omega arith))) refl

-- what the nodes under roots give is what the roots give, where each root gives what its node does
pub gathered_under : {A : Type 0} (under : ℕ → Option ℕ) (g h : ℕ → Option A) → ((r c : ℕ) → under r ≡ Some c → g c ≡ h r) → (rs cs : List ℕ) → gathered under (present rs) ≡ Some cs → gathered g (present cs) ≡ gathered h (present rs)
gathered_under under g h same [] cs e = ap (λ (l : List ℕ). gathered g (present l)) (sym (same_Some [] cs e))
gathered_under under g h same (r ∷ rs) cs e =
    let p = first_is (under r) (gathered under (present rs)) cs e in
    ap (λ (l : List ℕ). gathered g (present l)) p.4 ∙ ap₂ first_of (same r p.0 p.2) (gathered_under under g h same rs p.1 p.3)

-- each of the nodes stands under one of the roots
pub gathered_from : (under : ℕ → Option ℕ) (rs cs : List ℕ) → gathered under (present rs) ≡ Some cs → (c : ℕ) → 0 < times c cs → (r : ℕ) × (under r ≡ Some c)
gathered_from under [] cs e c h = absurd (omega (arith, ap (λ (l : List ℕ). times c l) (sym (same_Some [] cs e))))
gathered_from under (r ∷ rs) cs e c h =
    let p = first_is (under r) (gathered under (present rs)) cs e in
    let more : 0 < times c (p.0 ∷ p.1) = subst (λ (l : List ℕ). 0 < times c l) p.4 h in
    ⊎_elim
    (λ (is : p.0 ≡ c). (r, p.2 ∙ ap (λ (k : ℕ). Some k) is))
    (λ (ne : p.0 ≡ c → ⊥).
    gathered_from under rs p.1 p.3 c (omega (arith, more, cond-false {A = ℕ} (eqb p.0 c) 1 0 (ne_eqb p.0 c ne))))
    (cases_eq p.0 c)
