-- A whole array has the rows that its own encoding gives from its children's.
use Rattle.std.proofs.Common.{◌≡◌, ℕ, ◌≢◌, true, false, List, length, is_some, Some, None, Option, sym, refl, ap, ◌∙◌}
use Rattle.std.proofs.lemmas.Bool.{true≢false}
use Rattle.rows.specs.declared.row.Row.{Row}
use Rattle.rows.specs.Kind.{Kinds}
use Rattle.pool.specs.Memory.{Memory, node_at}
use Rattle.pool.specs.Counts.{here}
use Rattle.encodings.specs.Meaning.{Encodings, present, Sized}
use Rattle.encodings.specs.Rows.{fields_of, slots_of, rows_of, WholeAt, StandsAt, given}
use Rattle.encodings.specs.Pinned.{Looked, children_rows}
use Rattle.encodings.proofs.Wholes.{offered_gapless, offered_sized, child_used, whole_children, whole_gapless, whole_stands, whole_long, whole_rows, stands_within}

pub some_there : {A : Type 0} (o : Option A) → is_some o ≡ true → (a : A) × (o ≡ Some a)
some_there None e = absurd (true≢false (sym e))
some_there (Some a) e = (a, refl)

module _ (ks : Kinds) (own es : Encodings) (m : Memory) (hs : List ℕ) (k id : ℕ) (l : Looked ks own es m hs k id) (mine : own.has id ≡ true) where
  has_it : own.has (node_at m k).encoding ≡ true
  has_it = ap (λ (x : ℕ). own.has x) l.encoding ∙ mine

  whole_at : WholeAt ks es m k
  whole_at = l.whole k here

  -- it stands in its own encoding, and has the rows of the shapes there
  pub looked_stands : StandsAt own m k
  looked_stands = stands_within ks es m hs l.ordered own l.within k has_it (whole_stands ks es m hs l.ordered k whole_at)

  pub looked_sized : (cs : List (List Row)) → children_rows ks es m k ≡ Some cs → Sized (present cs) looked_stands.shapes
  looked_sized cs e =
      (offered_sized m (rows_of ks es m) (slots_of (node_at m k)) looked_stands.shapes (present cs) looked_stands.fills
      (λ c h. whole_long ks es m hs l.ordered l.set.lawful c (child_used ks es m hs l.ordered k c l.used h) (whole_children ks es m hs l.ordered k l.whole c h))
      (offered_gapless (rows_of ks es m) (slots_of (node_at m k)) (whole_gapless ks es m hs l.ordered k whole_at)
      ∙ ap (λ (o : Option (List (List Row))). elim o as (λ _. Option (List (Option (List Row)))) [ None ↦ None | Some cs ↦ Some (present cs) ]) e)).0

  -- its rows are as many as it says
  pub looked_long : (rs : List Row) → rows_of ks es m k ≡ Some rs → length rs ≡ (node_at m k).len
  looked_long = whole_long ks es m hs l.ordered l.set.lawful k l.used l.whole

  -- and they are those that its encoding gives
  pub looked_rows : own.has 1 ≡ false → rows_of ks es m k ≡ given own (fields_of (node_at m k)) (children_rows ks es m k)
  looked_rows other = whole_rows ks es m hs l.ordered l.set.lawful k l.used not_flat l.whole ∙ go (children_rows ks es m k)
    where
      not_flat : (node_at m k).encoding ≢ 1
      not_flat e = true≢false (sym has_it ∙ ap (λ (x : ℕ). own.has x) e ∙ other)

      go : (o : Option (List (List Row))) → given es (fields_of (node_at m k)) o ≡ given own (fields_of (node_at m k)) o
      go None = refl
      go (Some cs) = l.within.rows (fields_of (node_at m k)) has_it not_flat cs
