-- Roots as holders.
use Rattle.std.proofs.Common.{◌≡◌, ℕ, zero, suc, ◌<◌, eqb, List, [], ◌∷◌, length, get_or, set, Some, None, Option, sym, ap, arith}
use Rattle.std.proofs.lemmas.Bool.{eq-eqb, ne_eqb, cond-true, cond-false}
use Rattle.pool.specs.Counts.{name, names, times}
use Rattle.pool.proofs.Slotting.{names_set}

-- what a root names is held
pub names_at : (k : ℕ) (ss : List (Option ℕ)) (j : ℕ) → get_or ss j None ≡ Some k → 0 < times k (names ss)
names_at k [] j e = let z : ◌≡◌ {A = ℕ} 0 1 = cc in absurd (omega arith)
names_at k (None ∷ ss) zero e = let z : ◌≡◌ {A = ℕ} 0 1 = cc in absurd (omega arith)
names_at k (Some c ∷ ss) zero e = let z : c ≡ k = cc in omega (arith, cond-true {A = ℕ} (eqb c k) 1 0 (eq-eqb c k z))
names_at k (None ∷ ss) (suc j) e = names_at k ss j e
names_at k (Some c ∷ ss) (suc j) e = omega (arith, names_at k ss j e)

-- an empty root takes k: one holder of k more
pub names_filled : (x k : ℕ) (ss : List (Option ℕ)) (j : ℕ) → j < length ss → get_or ss j None ≡ None → times x (k ∷ names ss) ≡ times x (names (set ss j (Some k)))
names_filled x k ss j h e =
    let z : times x (name (get_or ss j None)) ≡ 0 = ap (λ (o : Option ℕ). times x (name o)) e in
    omega (arith, names_set x ss j (Some k) h)

-- a root that held k is emptied: one holder of k less
pub names_emptied : (x k : ℕ) (ss : List (Option ℕ)) (j : ℕ) → j < length ss → get_or ss j None ≡ Some k → times x (names ss) ≡ times x (k ∷ names (set ss j None))
names_emptied x k ss j h e =
    let z : times x (name (get_or ss j None)) ≡ times x (k ∷ []) = ap (λ (o : Option ℕ). times x (name o)) e in
    omega (arith, names_set x ss j None h)

-- a holder other than the first is one of the rest
pub held_other : (a i : ℕ) (hs : List ℕ) → (a ≡ i → ⊥) → 0 < times a (i ∷ hs) → 0 < times a hs
held_other a i hs ne h = omega (arith, cond-false {A = ℕ} (eqb i a) 1 0 (ne_eqb i a (λ e. ne (sym e))))
