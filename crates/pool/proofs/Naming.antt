-- The children that slots name, in the order in which a chain gives them.
use Rattle.std.proofs.Common.{◌≡◌, Bor, Iter, ℕ, zero, suc, ◌+◌, ◌<◌, ◌≤◌, max, List, [], ◌∷◌, ◌++◌, length, map, get_or, drop, map-id, Some, None, Option, unwrap_or, sym, refl, ap, ◌∙◌, subst, ap₂, arith, fold}
use Rattle.std.specs.Fn.{Mut, Called}
use Rattle.std.specs.Iterator.{Yields}
use Rattle.std.specs.Iterator.Adapters.{filter_map_source, filter_map_callee, filter_map_steps}
use Rattle.std.specs.List.{filter_map, reduce}
use Rattle.std.specs.Slice.Iter.{iter_rest, iter_steps}
use Rattle.std.specs.declared.iter.FilterMap.{FilterMap}
use Rattle.std.proofs.lemmas.List.{take-append-drop, drop_more}
use Rattle.std.proofs.lemmas.Iterator.{YieldsList, YieldsList-from_slice}
use Rattle.std.proofs.lemmas.Iterator.Consumers.{YieldsList-from_filter_map, YieldsList-so_far, YieldsList-turn, YieldsList-end}
use Rattle.pool.specs.declared.node.Node.{Node}
use Rattle.pool.specs.Memory.{Memory, height_at}
use Rattle.pool.specs.Counts.{names, times, tallest}
use Rattle.pool.specs.Sharing.{each_slot}
use Rattle.pool.proofs.Counted.{hit_same}

names_picked : (ss : List (Option ℕ)) → filter_map (λ o. o) ss ≡ names ss
names_picked [] = refl
names_picked (None ∷ ss) = names_picked ss
names_picked (Some c ∷ ss) = ap (λ (l : List ℕ). c ∷ l) (names_picked ss)

pub each_named : (f : Memory → ℕ → Memory) (m : Memory) (ss : List (Option ℕ)) → fold f m (names ss) ≡ each_slot f m ss
each_named f m [] = refl
each_named f m (None ∷ ss) = each_named f m ss
each_named f m (Some c ∷ ss) = each_named f (f m c) ss

-- the chain `slots.iter().filter_map(|slot| *slot)` gives the children that the slots name
pub names_given : {F : Type 0} {s : FilterMap (Iter (Option ℕ)) F} {g : Mut F (Bor (Option ℕ) × Unit {0}) (Option ℕ)} {f : F} (ss : List (Option ℕ)) → iter_rest (filter_map_source s) ≡ ss → filter_map_callee s ≡ f
    → ((x : Bor (Option ℕ)) (r : Option ℕ) (q : F) → Called g f (x, tt) r q → (q ≡ f) × (r ≡ x.now)) → YieldsList (filter_map_steps iter_steps g) (λ x. x) s (names ss)
names_given {F} {s} {g} ss source callee call =
    subst (λ (l : List ℕ). YieldsList (filter_map_steps iter_steps g) (λ x. x) s l) (names_picked ss)
    (YieldsList-from_filter_map g (λ o. o) (YieldsList-from_slice ss source) callee call)

-- in a loop over it, the children so far are followed by this one, and at the end they are all
module _ {S : Type 0} {steps : S → Option ℕ → S → Type 0} {s : S} (ss : List (Option ℕ)) (all : YieldsList steps (λ x. x) s (names ss))
    (xs : List ℕ) (t : S) (ran : Yields steps s xs t) {r : Option ℕ} (u : S) (step : steps t r u) where
  pub turn_splits : (c : ℕ) → r ≡ Some c → (rest : List ℕ) × (names ss ≡ xs ++ (c ∷ rest))
  turn_splits c is =
      let n : ℕ = length xs in
      let at = YieldsList-turn all xs t ran r u c is step in (
        drop (n + 1) (names ss),
        sym (take-append-drop n (names ss))
            ∙ ap₂ (λ (a b : List ℕ). a ++ b) (sym (YieldsList-so_far all xs t ran) ∙ map-id xs) (drop_more (names ss) n c at.0 ∙ ap (λ (x : ℕ). x ∷ drop (n + 1) (names ss)) (sym at.1)),
      )

  pub end_gives : (f : Memory → ℕ → Memory) (m : Memory) → r ≡ None → fold f m xs ≡ each_slot f m ss
  end_gives f m is = ap (λ (cs : List ℕ). fold f m cs) (sym (map-id xs) ∙ (YieldsList-end all xs t ran r u is step).0) ∙ each_named f m ss

pub names_long : (ss : List (Option ℕ)) → length (names ss) ≤ length ss
names_long [] = omega arith
names_long (None ∷ ss) = omega (arith, names_long ss)
names_long (Some c ∷ ss) = omega (arith, names_long ss)

-- what stands in a list is in it
pub times_at : (xs : List ℕ) (k x : ℕ) → k < length xs → x ≡ get_or xs k x → 0 < times x xs
times_at [] k x l e = absurd (omega arith)
times_at (y ∷ xs) zero x l e = omega (arith, hit_same y x (sym e))
times_at (y ∷ xs) (suc k) x l e = omega (arith, times_at xs k x (omega arith) e)

folded : (ns : List Node) (a : ℕ) (ss : List (Option ℕ)) → fold max a (map (height_at ns) (names ss)) ≡ max a (tallest ns ss)
folded ns a [] = omega arith
folded ns a (None ∷ ss) = folded ns a ss
folded ns a (Some c ∷ ss) = folded ns (max a (height_at ns c)) ss ∙ omega arith

pub tallest_named : (ns : List Node) (ss : List (Option ℕ)) → unwrap_or (reduce max (map (height_at ns) (names ss))) 0 ≡ tallest ns ss
tallest_named ns [] = refl
tallest_named ns (None ∷ ss) = tallest_named ns ss
tallest_named ns (Some c ∷ ss) = folded ns (height_at ns c) ss
