-- Constant keeps the law, and each of its rows is its value.
use Rattle.std.proofs.Common.{◌≡◌, ℕ, zero, suc, ◌&&◌, true, List, [], length, take, replicate, is_some, ◌==◌, sym, refl, ap, ◌∙◌, subst}
use Rattle.std.proofs.lemmas.Bool.{and_parts, eqb-true}
use Rattle.std.proofs.lemmas.Option.{same_Some}
use Rattle.std.proofs.lemmas.List.{length-replicate, get_or-replicate}
use Rattle.rows.specs.declared.row.Row.{Row}
use Rattle.rows.specs.Kind.{Kind, Kinds, Taken}
use Rattle.rows.specs.Ours.{LawfulKinds}
use Rattle.pool.specs.Memory.{node_at, slots_at}
use Rattle.encodings.specs.declared.fields.Fields.{Fields}
use Rattle.encodings.specs.Meaning.{Encodings, LawfulEncodings, in_range, no_shapes}
use Rattle.encodings.specs.Rows.{fields_of, gathered, rows_of, given}
use Rattle.encodings.specs.Step.{LawfulSteps}
use Rattle.encodings.specs.Flattening.{flattening_steps}
use Rattle.encodings.specs.Constant.{constant_row, constant_rows, constant_encodings}
use Rattle.encodings.specs.Pinned.{row_at, ConstantRows}
use Rattle.encodings.proofs.Undivided.{one_piece_lawful}
use Rattle.encodings.proofs.FlatteningLaw.{TakenRows, flattening_keeps}
use Rattle.encodings.proofs.Looked.{looked_stands, looked_long, looked_rows}

pub constant_lawful : (ks : Kinds) → LawfulEncodings ks (constant_encodings ks)
constant_lawful ks =
    one_piece_lawful ks (constant_encodings ks)
    (record {
      builder_none = refl;
      flat_none = refl;
      ranged = λ f has fit. (and_parts (in_range ks f) ((ks.kind f.kind).takes (constant_row ks f)) fit).0;
      long = λ f ss cs r fit sized e. ap length (sym (same_Some (replicate f.len (constant_row ks f)) r e)) ∙ length-replicate f.len (constant_row ks f);
      rest = λ f os. refl;
      rest_length = λ f os. refl;
    })

-- a row that is taken is so as often as it stands
pub taken_replicate : (kd : Kind) (n : ℕ) (r : Row) → kd.takes r ≡ true → Taken kd (replicate n r)
taken_replicate kd zero r t = tt
taken_replicate kd (suc n) r t = (t, taken_replicate kd n r t)

pub constant_taken : (ks : Kinds) → TakenRows ks (constant_encodings ks)
constant_taken ks f shapes cs rs has fit slots sized taken e =
    let row : Row = constant_row ks f in
    subst (λ (l : List Row). Taken (ks.kind f.kind) l) (same_Some (replicate f.len row) rs e)
    (taken_replicate (ks.kind f.kind) f.len row (and_parts (in_range ks f) ((ks.kind f.kind).takes row) fit).1)

pub constant_keeps : (ks : Kinds) → LawfulKinds ks → LawfulSteps ks (constant_encodings ks) (flattening_steps ks (constant_encodings ks))
constant_keeps ks kinds = flattening_keeps ks kinds (constant_encodings ks) refl (λ f os has. refl) (constant_taken ks)

-- ---- its rows
pub constant_rows_are : ConstantRows constant_encodings
constant_rows_are ks es m hs k l =
    let own : Encodings = constant_encodings ks in
    let f : Fields = fields_of (node_at m k) in
    let stands = looked_stands ks own es m hs k 2 l refl in
    let bare : f.arity ≡ 0 = eqb-true f.arity 0 (and_parts (f.arity == 0) (no_shapes stands.shapes && no_shapes stands.shapes) stands.slots_fit).0 in
    let is : rows_of ks es m k ≡ constant_rows ks f []
    = looked_rows ks own es m hs k 2 l refl refl ∙ ap (λ (n : ℕ). given own f (gathered (rows_of ks es m) (take n (slots_at m.nodes k)))) bare in
    record {
      exist = λ u. ap is_some is;
      only = λ h. tt;
      long = looked_long ks own es m hs k 2 l refl;
      each = λ rs j e h.
          ap (λ (xs : List Row). row_at xs j) (sym (same_Some (replicate f.len (constant_row ks f)) rs (sym is ∙ e)))
          ∙ get_or-replicate f.len j (constant_row ks f) (record { value = 0 }) h;
    }
