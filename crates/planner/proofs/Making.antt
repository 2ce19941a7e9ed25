-- The checks of a making, and what its building leaves in order.
use Rattle.std.proofs.Common.{◌≡◌, ℕ, ◌*◌, ◌<◌, ◌≤◌, Bool, true, false, eqb, leb, List, length, get_or, set, is_some, Some, None, Ok, Err, Option, Result, sym, refl, ap, ◌∙◌, subst, arith}
use Rattle.std.proofs.lemmas.Bool.{eqb-true, and_parts, leb-true}
use Rattle.rows.specs.declared.row.Row.{Row}
use Rattle.rows.specs.Kind.{Kinds, LawfulKind}
use Rattle.pool.specs.declared.node.PoolFault.{PoolFault}
use Rattle.pool.specs.Memory.{Memory}
use Rattle.pool.specs.Counts.{names}
use Rattle.pool.specs.Order.{Ordered}
use Rattle.pool.specs.Building.{built}
use Rattle.pool.proofs.Building.{Outcome, built_is}
use Rattle.planner.specs.Called.{in_range, sized, parsed_rows, rows_made}
use Rattle.planner.specs.Contract.{rows_parsed}
use Rattle.planner.proofs.Parsing.{parsed_value}
use Rattle.planner.proofs.Parsing as parsing
use Rattle.planner.proofs.Rooted.{filled_ordered}

module _ (ks : Kinds) (kind n : ℕ) (bytes : List ℕ) where
  -- the test of the size, by whether kind and length are in range
  size_by : Bool → Bool
  size_by b = elim b [ true ↦ eqb (length bytes) (n * (ks.kind kind).width) | false ↦ true ]

  rows_by : Bool → Option (List Row)
  rows_by b = elim b [ true ↦ parsed_rows (ks.kind kind) n bytes | false ↦ None ]

  none_of : (o : Option (List Row)) → is_some o ≡ false → o ≡ None
  none_of None e = refl
  none_of (Some xs) e = let z : ◌≡◌ {A = ℕ} 0 1 = cc in absurd (omega arith)

  pub few_rows : in_range ks kind n ≡ true → n ≤ 1024
  few_rows e = leb-true n 1024 (and_parts (ks.has kind) (leb n 1024) e).1

  pub rows_are : in_range ks kind n ≡ true → rows_made ks kind n bytes ≡ parsed_rows (ks.kind kind) n bytes
  unfolding rows_by
  rows_are e = ap rows_by e

  pub rows_known : in_range ks kind n ≡ true → is_some (parsed_rows (ks.kind kind) n bytes) ≡ true → rows_made ks kind n bytes ≡ Some (rows_parsed (ks.kind kind) n bytes)
  rows_known e good = rows_are e ∙ parsed_value (ks.kind kind) n bytes good

  -- rows there are only where kind and length are in range, and each of the bytes' rows parses
  pub made_known : is_some (rows_made ks kind n bytes) ≡ true → (in_range ks kind n ≡ true) × (is_some (parsed_rows (ks.kind kind) n bytes) ≡ true)
  made_known e = by (in_range ks kind n) refl e
    where
      by : (b : Bool) → in_range ks kind n ≡ b → is_some (elim b as (λ v. Option (List Row)) [ true ↦ parsed_rows (ks.kind kind) n bytes | false ↦ None ]) ≡ true → (in_range ks kind n ≡ true) × (is_some (parsed_rows (ks.kind kind) n bytes) ≡ true)
      by true is t = (is, t)
      by false is t = let z : ◌≡◌ {A = ℕ} 0 1 = cc in absurd (omega arith)

  pub made_none : is_some (rows_made ks kind n bytes) ≡ false → rows_made ks kind n bytes ≡ None
  made_none e = none_of (rows_made ks kind n bytes) e

  pub made_sized : sized ks kind n bytes ≡ true → in_range ks kind n ≡ true → length bytes ≡ n * (ks.kind kind).width
  unfolding size_by
  made_sized size known = eqb-true (length bytes) (n * (ks.kind kind).width) (sym (ap size_by known) ∙ size)

  module _ (m : Memory) (rs : List (Option ℕ)) (o : Ordered m (names rs)) (law : LawfulKind (ks.kind kind)) (good : is_some (parsed_rows (ks.kind kind) n bytes) ≡ true) where
    outcome : Outcome ks m (names rs) kind n (rows_parsed (ks.kind kind) n bytes) (built ks m kind n (rows_parsed (ks.kind kind) n bytes)).0 (built ks m kind n (rows_parsed (ks.kind kind) n bytes)).1
    outcome =
        let p = parsing.rows_parsed (ks.kind kind) law n bytes (rows_parsed (ks.kind kind) n bytes) (parsed_value (ks.kind kind) n bytes good) in
        built_is ks m (names rs) kind n (rows_parsed (ks.kind kind) n bytes) law o p.long p.taken

    -- a building that is refused leaves the memory as it was
    pub build_kept : (e : PoolFault) (q : Memory) → (Err e, q) ≡ built ks m kind n (rows_parsed (ks.kind kind) n bytes) → q ≡ m
    build_kept e q is = subst (λ (b : Result ℕ PoolFault × Memory). Outcome ks m (names rs) kind n (rows_parsed (ks.kind kind) n bytes) b.0 b.1) (sym is) outcome

    -- a building that is accepted leaves the pool in order, with the new array under its root
    pub build_ordered : (i : ℕ) (q : Memory) (root : ℕ) → (Ok i, q) ≡ built ks m kind n (rows_parsed (ks.kind kind) n bytes) → root < length rs → get_or rs root None ≡ None → Ordered q (names (set rs root (Some i)))
    build_ordered i q root is h e =
        let b = subst (λ (b : Result ℕ PoolFault × Memory). Outcome ks m (names rs) kind n (rows_parsed (ks.kind kind) n bytes) b.0 b.1) (sym is) outcome in
        filled_ordered m rs o q root i h e b.change.ordered
