-- A Flat array has the rows that its words mean.
use Rattle.std.proofs.Common.{◌≡◌, ℕ, Some, refl}
use Rattle.std.proofs.lemmas.Bool.{eq-eqb}
use Rattle.rows.specs.Kind.{Kinds}
use Rattle.pool.specs.Memory.{Memory, node_at}
use Rattle.encodings.specs.Meaning.{Encodings}
use Rattle.encodings.specs.Rows.{flat_rows, rows_at, rows_of}

pub flat_rows_of : (ks : Kinds) (es : Encodings) (m : Memory) (k : ℕ) → (node_at m k).encoding ≡ 1 → rows_of ks es m k ≡ Some (flat_rows ks m k)
unfolding rows_of
flat_rows_of ks es m k e = let t = eq-eqb (node_at m k).encoding 1 e in rw (t, rows_at) refl
