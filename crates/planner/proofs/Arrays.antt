-- What `map` of an array gives, where each call gives what a function does.
use Rattle.std.proofs.Common.{◌≡◌, ℕ, zero, suc, ◌+◌, ◌<◌, ◌≤◌, List, length, map, get_or, sym, ap, ◌∙◌, subst, ⊎_elim, arith}
use Rattle.std.proofs.lemmas.List.{same_lists, get_or-map, length-map}
use Rattle.std.proofs.lemmas.Bool.{cases_eq}
use Rattle.std.specs.Array.{MapsFrom, IsMapOf}
use Rattle.std.specs.Fn.{Mut, Called}

module _ {F A B : Type 0} (g : Mut F (A × Unit {0}) B) (h : A → B) (f : F) (calls : (x : A) (y : B) (q : F) → Called g f (x, tt) y q → (q ≡ f) × (y ≡ h x)) (xs : List A) (ys : List B) where
  each_mapped : (i n : ℕ) → i + n ≤ length xs → MapsFrom g f xs ys i n → (k : ℕ) (d : B) → i ≤ k → k < i + n → get_or ys k d ≡ get_or (map h xs) k d
  each_mapped i zero long each k d low high = absurd (omega arith)
  each_mapped i (suc n) long (q, x, y, at, to, call, rest) k d low high =
      let c = calls x y q call in
      ⊎_elim
      (λ (e : k ≡ i).
      subst (λ (j : ℕ). get_or ys j d ≡ get_or (map h xs) j d) (sym e)
      (to.1 d ∙ c.1 ∙ ap h (sym (at.1 x)) ∙ sym (get_or-map h xs i x d (omega arith))))
      (λ (ne : k ≡ i → ⊥).
      each_mapped (i + 1) n (omega arith) (subst (λ (p : F). MapsFrom g p xs ys (i + 1) n) c.0 rest) k d (omega (arith, ne)) (omega arith))
      (cases_eq k i)

  pub mapped : (n : ℕ) → length xs ≡ n → IsMapOf g f xs ys n → ys ≡ map h xs
  mapped n long m =
      same_lists ys (map h xs) (m.long ∙ sym (length-map xs h ∙ long))
      (λ k d l. each_mapped 0 n (omega (arith, long)) m.each k d (omega arith) (omega (arith, m.long)))
