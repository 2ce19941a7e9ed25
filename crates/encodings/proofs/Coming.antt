-- An array that is appended to a builder piece by piece: some rows are appended, and the others are still to come.
use Rattle.std.proofs.Common.{◌≡◌, ℕ, ◌+◌, List, [], ◌++◌, length, Some, None, Ok, Err, Option, sym, refl, ap, ◌∙◌, append_assoc, arith}
use Rattle.std.proofs.lemmas.List.{length-append, append-nil}
use Rattle.rows.specs.declared.row.Row.{Row}
use Rattle.rows.specs.Kind.{Kinds}
use Rattle.pool.specs.declared.builder.Builder.{Builder}
use Rattle.pool.specs.Memory.{Memory}
use Rattle.pool.specs.Building.{append_rows}
use Rattle.pool.proofs.Filling.{SoFar, none_so_far, rows_more}
use Rattle.encodings.specs.declared.step.StepFault.TheVariants.{NoRows}
use Rattle.encodings.specs.Flattening.{Filled}

-- rows, and those that follow them; none where what follows is none
abbrev pub followed : List Row → Option (List Row) → Option (List Row)
followed rs None = None
followed rs (Some xs) = Some (rs ++ xs)

followed_two : (rs xs : List Row) (o : Option (List Row)) → followed rs (followed xs o) ≡ followed (rs ++ xs) o
followed_two rs xs None = refl
followed_two rs xs (Some ys) = ap (λ (l : List Row). Some l) (sym (append_assoc rs xs ys))

followed_none : (o : Option (List Row)) → o ≡ followed [] o
followed_none None = refl
followed_none (Some xs) = refl

-- Builder a is b now, with n rows, and memory m is q; all are these rows, and those that are still to come.
pub record Partly (ks : Kinds) (m : Memory) (a : Builder) (all : Option (List Row)) (q : Memory) (b : Builder) (n : ℕ) (coming : Option (List Row)) : Type 0 where
  pub rows : List Row
  pub so_far : SoFar ks m a rows q b
  pub many : length rows ≡ n
  pub whole : all ≡ followed rows coming

module _ (ks : Kinds) (m : Memory) (a : Builder) (all : Option (List Row)) where
  -- at first all are to come
  pub all_coming : Partly ks m a all m a 0 all
  all_coming = record { rows = []; so_far = none_so_far ks m a; many = refl; whole = followed_none all }

  module _ (q : Memory) (b : Builder) (n : ℕ) (coming : Option (List Row)) (part : Partly ks m a all q b n coming) where
    -- rows that were to come are appended
    pub more_come : (xs : List Row) (later : Option (List Row)) (z : Memory) (c : Builder) (l : ℕ) → coming ≡ followed xs later → z ≡ append_rows ks q b.node b.filled xs → c.node ≡ b.node → c.filled ≡ b.filled + length xs → l ≡ n + length xs → Partly ks m a all z c l later
    more_come xs later z c l next after node filled many =
        record {
          rows = part.rows ++ xs;
          so_far = rows_more ks m a part.rows q b part.so_far xs z c after node filled;
          many = omega (arith, length-append part.rows xs, part.many, many);
          whole = part.whole ∙ ap (followed part.rows) next ∙ followed_two part.rows xs later;
        }

    module _ (none : a.filled ≡ 0) where
      after : q ≡ append_rows ks m a.node 0 part.rows
      after = part.so_far.after ∙ ap (λ (k : ℕ). append_rows ks m a.node k part.rows) none

      -- at last none are to come, or those to come are not there
      pub all_came : coming ≡ Some [] → Filled ks m q a.node all (Ok tt)
      all_came e = (part.rows, part.whole ∙ ap (followed part.rows) e ∙ ap (λ (l : List Row). Some l) (append-nil part.rows), after)

      pub none_come : coming ≡ None → Filled ks m q a.node all (Err NoRows)
      none_come e = (refl, part.whole ∙ ap (followed part.rows) e, (part.rows, after))
