-- One holder less: what it leaves, and the steps of the code.
use Rattle.std.proofs.Common.{◌≡◌, ℕ, zero, suc, ◌-◌, ◌<◌, ◌≤◌, Bool, true, false, fold, List, [], ◌∷◌, ◌++◌, Some, None, Option, sym, refl, ap, ◌∙◌, subst, ⊎_elim, append_assoc, arith}
use Rattle.std.proofs.lemmas.List.Sums.{fold_push}
use Rattle.std.proofs.lemmas.Bool.{cases_eq, cases_lt, eq-eqb, ne_eqb}
use Rattle.pool.specs.declared.node.Node.{Node}
use Rattle.pool.specs.Memory.{Memory, node_at, count_at, height_at, slots_at}
use Rattle.pool.specs.Counts.{names, Counts, tallest, Falling, Owed, OwedAll}
use Rattle.pool.specs.Order.{Within, Ordered, SameAt, Change}
use Rattle.pool.specs.Sharing.{recounted, vacated, each_slot, released, release}
use Rattle.pool.proofs.Counted.{owed_used, owed_in, less_counts, free_counts, heights_falling, above, above_slots, above_lower, above_tallest, above_split, tallest_above}
use Rattle.pool.proofs.Naming.{each_named}
use Rattle.pool.proofs.Spared.{Spared, spared_refl, spared_trans, spared_within, spared_same, spared_keeps, spared_ordered, kept_height, kept_falling, recount_spared, vacate_spared}

-- ---- one step of `released`
pub released_last : (f : ℕ) (m : Memory) (n : ℕ) → count_at m.nodes n ≡ 1 → released (suc f) m n ≡ each_slot (released f) (vacated m n) (slots_at m.nodes n)
unfolding released
released_last f m n e =
    ap (λ (b : Bool). elim b [ true ↦ each_slot (released f) (vacated m n) (slots_at m.nodes n) | false ↦ recounted m n (count_at m.nodes n - 1) ]) (eq-eqb (count_at m.nodes n) 1 e)

pub released_less : (f : ℕ) (m : Memory) (n : ℕ) → (count_at m.nodes n ≡ 1 → ⊥) → released (suc f) m n ≡ recounted m n (count_at m.nodes n - 1)
unfolding released
released_less f m n e =
    ap (λ (b : Bool). elim b [ true ↦ each_slot (released f) (vacated m n) (slots_at m.nodes n) | false ↦ recounted m n (count_at m.nodes n - 1) ]) (ne_eqb (count_at m.nodes n) 1 e)

-- ---- what a release needs, and what it owes
pub record Sound (m : Memory) (hs : List ℕ) : Type 0 where
  pub counts : Counts m.nodes hs
  pub falling : Falling m.nodes
  pub within : Within m.nodes m.words

pub record Good (a b : Memory) (hs : List ℕ) : Type 0 where
  pub sound : Sound b hs
  pub spared : Spared a b

pub spared_sound : (a b : Memory) (hs hs' : List ℕ) → Sound a hs → Spared a b → Counts b.nodes hs' → Sound b hs'
spared_sound a b hs hs' s p counts =
    record { counts = counts; falling = kept_falling a.nodes b.nodes p.kept s.falling; within = spared_within a b p s.within }

pub spared_height : (a b : Memory) → Spared a b → (k : ℕ) → height_at b.nodes k ≤ height_at a.nodes k
spared_height a b p k = kept_height (node_at a k) (node_at b k) (p.kept k)

pub spared_above : (a b : Memory) → Spared a b → (cs : List ℕ) → above b.nodes cs ≤ above a.nodes cs
spared_above a b p cs = above_lower a.nodes b.nodes (spared_height a b p) cs

pub good_trans : (a b c : Memory) (hs hs' : List ℕ) → Good a b hs → Good b c hs' → Good a c hs'
good_trans a b c hs hs' p q = record { sound = q.sound; spared = spared_trans a b p.spared c q.spared }

module _ (m : Memory) (n : ℕ) (hs : List ℕ) (s : Sound m (n ∷ hs)) where
  -- others still hold it
  pub less_good : (count_at m.nodes n ≡ 1 → ⊥) → Good m (recounted m n (count_at m.nodes n - 1)) hs
  less_good ne =
      let u = owed_used m.nodes n hs s.counts in
      let p = recount_spared m n (count_at m.nodes n - 1) u (omega arith) in
      record {
        sound = spared_sound m (recounted m n (count_at m.nodes n - 1)) (n ∷ hs) hs s p (less_counts m.nodes n hs s.counts (count_at m.nodes n - 1) (omega arith) (omega arith));
        spared = p;
      }

  -- the last one has gone, and what the slots name is still held
  pub last_good : count_at m.nodes n ≡ 1 → Good m (vacated m n) (names (slots_at m.nodes n) ++ hs)
  last_good e =
      let p = vacate_spared m n (owed_in m.nodes n hs s.counts) (s.within n) in
      record {
        sound = spared_sound m (vacated m n) (n ∷ hs) (names (slots_at m.nodes n) ++ hs) s p (free_counts m.nodes n hs s.counts e);
        spared = p;
      }

  pub last_low : count_at m.nodes n ≡ 1 → above (vacated m n).nodes (names (slots_at m.nodes n)) ≤ height_at m.nodes n
  last_low e =
      omega (arith, spared_above m (vacated m n) (last_good e).spared (names (slots_at m.nodes n)), above_slots m.nodes n s.falling (owed_used m.nodes n hs s.counts))

abbrev pub Releases : ℕ → Type 0
Releases f = (m : Memory) (n : ℕ) (hs : List ℕ) → Sound m (n ∷ hs) → height_at m.nodes n < f → Good m (released f m n) hs

names_good : (f : ℕ) → Releases f → (m : Memory) (xs hs : List ℕ) → Sound m (xs ++ hs) → above m.nodes xs ≤ f → Good m (fold (released f) m xs) hs
names_good f r m [] hs s t = record { sound = s; spared = spared_refl m }
names_good f r m (c ∷ xs) hs s t =
    let b : Memory = released f m c in
    let one : Good m b (xs ++ hs) = r m c (xs ++ hs) s (omega arith) in
    let rest : Good b (fold (released f) b xs) hs = names_good f r b xs hs one.sound (omega (arith, spared_above m b one.spared xs)) in
    good_trans m b (fold (released f) b xs) (xs ++ hs) hs one rest

pub slots_good : (f : ℕ) → Releases f → (m : Memory) (ss : List (Option ℕ)) (hs : List ℕ) → Sound m (names ss ++ hs) → above m.nodes (names ss) ≤ f → Good m (each_slot (released f) m ss) hs
slots_good f r m ss hs s t = subst (λ (b : Memory). Good m b hs) (each_named (released f) m ss) (names_good f r m (names ss) hs s t)

pub released_good : (f : ℕ) → Releases f
released_good zero m n hs s t = absurd (omega arith)
released_good (suc f) m n hs s t =
    ⊎_elim
    (λ e.
    let v : Memory = vacated m n in
    let p = last_good m n hs s e in
    let q = slots_good f (released_good f) v (slots_at m.nodes n) hs p.sound (omega (arith, last_low m n hs s e)) in
    subst (λ (b : Memory). Good m b hs) (sym (released_last f m n e))
    (good_trans m v (each_slot (released f) v (slots_at m.nodes n)) (names (slots_at m.nodes n) ++ hs) hs p q))
    (λ e. subst (λ (b : Memory). Good m b hs) (sym (released_less f m n e)) (less_good m n hs s e))
    (cases_eq (count_at m.nodes n) 1)

-- ---- one holder of n less, in a pool in order
pub ordered_sound : (m : Memory) (hs : List ℕ) → Ordered m hs → Sound m hs
ordered_sound m hs o = record { counts = o.counts; falling = heights_falling m.nodes hs o.counts o.heights; within = o.within }

pub release_good : (m : Memory) (n : ℕ) (hs : List ℕ) → Ordered m (n ∷ hs) → Good m (release m n) hs
release_good m n hs o = released_good (suc (height_at m.nodes n)) m n hs (ordered_sound m (n ∷ hs) o) (omega arith)

pub release_kept : (m : Memory) (n : ℕ) (hs : List ℕ) → Ordered m (n ∷ hs) → (k : ℕ) → 0 < count_at (release m n).nodes k → SameAt m (release m n) k
release_kept m n hs o k u = spared_same m (release m n) (release_good m n hs o).spared o.apart k u

pub release_change : (m : Memory) (n : ℕ) (hs : List ℕ) → Ordered m (n ∷ hs) → Change m (release m n) hs hs
release_change m n hs o =
    let g = release_good m n hs o in
    record {
      ordered = spared_ordered m (release m n) g.spared (n ∷ hs) hs o g.sound.counts;
      keeps = spared_keeps m (release m n) g.spared hs hs g.sound.counts (λ k h. h) o.apart;
    }

-- ---- the code
-- slots that name nothing
slots_none : (f : Memory → ℕ → Memory) (ns : List Node) (m : Memory) (ss : List (Option ℕ)) → above ns (names ss) ≤ 0 → each_slot f m ss ≡ m
slots_none f ns m [] h = refl
slots_none f ns m (None ∷ ss) h = slots_none f ns m ss h
slots_none f ns m (Some c ∷ ss) h = absurd (omega arith)

module _ (m : Memory) (n : ℕ) (owed : Owed m.nodes n) (falling : Falling m.nodes) (within : Within m.nodes m.words) where
  pub code_sound : Sound m (n ∷ owed.0)
  code_sound = record { counts = owed.1; falling = falling; within = within }

  -- b is what the slots' release gave
  pub code_last : (b : Memory) → count_at m.nodes n ≡ 1
      → ((f : ℕ) → tallest (vacated m n).nodes (slots_at m.nodes n) < f → b ≡ each_slot (released f) (vacated m n) (slots_at m.nodes n))
      → (f : ℕ) → height_at m.nodes n < f → b ≡ released f m n
  code_last b e r zero h = absurd (omega arith)
  code_last b e r (suc f) h =
      let ss : List (Option ℕ) = slots_at m.nodes n in
      let v : Memory = vacated m n in
      let low = last_low m n owed.0 code_sound e in
      ⊎_elim
      (λ l. r f (omega (arith, tallest_above v.nodes ss)))
      (λ l.
      r (suc (tallest v.nodes ss)) (omega arith)
      ∙ slots_none (released (suc (tallest v.nodes ss))) v.nodes v ss (omega arith)
      ∙ sym (slots_none (released f) v.nodes v ss (omega arith)))
      (cases_lt 0 f)
      ∙ sym (released_last f m n e)

  pub code_less : (count_at m.nodes n ≡ 1 → ⊥) → (f : ℕ) → height_at m.nodes n < f → recounted m n (count_at m.nodes n - 1) ≡ released f m n
  code_less ne zero h = absurd (omega arith)
  code_less ne (suc f) h = sym (released_less f m n ne)

-- c is next where xs, which stand before it, are released
module _ (m : Memory) (ss : List (Option ℕ)) (owed : OwedAll m.nodes ss) (falling : Falling m.nodes) (within : Within m.nodes m.words)
    (xs rest : List ℕ) (c : ℕ) (split : names ss ≡ xs ++ (c ∷ rest)) (b : Memory) (e : (f : ℕ) → tallest m.nodes ss < f → b ≡ fold (released f) m xs) where
  split_above : above m.nodes (names ss) ≡ above m.nodes (xs ++ (c ∷ rest))
  split_above = ap (λ (cs : List ℕ). above m.nodes cs) split

  pub next_good : Good m b (c ∷ (rest ++ owed.0))
  next_good =
      let f : ℕ = suc (tallest m.nodes ss) in
      let s : Sound m (xs ++ (c ∷ (rest ++ owed.0))) = record { counts = subst (λ (cs : List ℕ). Counts m.nodes cs) (ap (λ (cs : List ℕ). cs ++ owed.0) split ∙ append_assoc xs (c ∷ rest) owed.0) owed.1; falling = falling; within = within } in
      subst (λ (x : Memory). Good m x (c ∷ (rest ++ owed.0))) (sym (e f (omega arith)))
      (names_good f (released_good f) m xs (c ∷ (rest ++ owed.0)) s (omega (arith, split_above, above_split m.nodes xs rest c, above_tallest m.nodes ss)))

  pub next_low : height_at b.nodes c < above m.nodes (names ss)
  next_low = omega (arith, split_above, above_split m.nodes xs rest c, spared_height m b next_good.spared c)

  pub next_gives : (d : Memory) → ((f : ℕ) → height_at b.nodes c < f → d ≡ released f b c) → (f : ℕ) → tallest m.nodes ss < f → d ≡ fold (released f) m (xs ++ (c ∷ []))
  next_gives d r f h =
      r f (omega (arith, next_low, above_tallest m.nodes ss))
      ∙ ap (λ (x : Memory). released f x c) (e f h)
      ∙ sym (fold_push (released f) m xs c)
