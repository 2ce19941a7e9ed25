-- Flat keeps the law.
use Rattle.std.proofs.Common.{◌≡◌, ◌==◌, ◌∷◌, Some, inr, sym, refl, ap, ◌∙◌}
use Rattle.std.proofs.lemmas.Bool.{eqb-true, and_parts}
use Rattle.rows.specs.Kind.{Kinds}
use Rattle.rows.specs.Ours.{LawfulKinds}
use Rattle.pool.specs.Memory.{node_at}
use Rattle.encodings.specs.Meaning.{LawfulEncodings, LawfulSet, in_range}
use Rattle.encodings.specs.Rows.{flat_rows}
use Rattle.encodings.specs.Step.{refusal, LawfulSteps}
use Rattle.encodings.specs.Flattening.{no_need}
use Rattle.encodings.specs.Flat.{flat_encodings, flat_steps}
use Rattle.encodings.proofs.Flats.{flat_rows_of}
use Rattle.encodings.specs.Pinned.{FlatRows}
use Rattle.encodings.proofs.Answering.{rowless_none, unchanged_step, done_itself}

-- Flat alone is a lawful set
pub flat_lawful : (ks : Kinds) → LawfulEncodings ks (flat_encodings ks)
flat_lawful ks = record {
  builder_none = refl;
  flat = λ h. record {
    fields = λ f e. refl;
    count = λ f e. refl;
    kinds = λ f ss e. refl;
    lengths = λ f ss e. refl;
  };
  ranged = λ f has fit. (and_parts (in_range ks f) (f.parameter == 0) fit).0;
  long = λ f ss cs r fit sized e. absurd (fit.not_flat (eqb-true f.encoding 1 fit.known));
  rest_whole = λ f ss cs fit sized. refl;
  rest_length_whole = λ f ss os fit e. refl;
  rest_long = λ f ss os r fit sized e. absurd (fit.not_flat (eqb-true f.encoding 1 fit.known));
}

pub flat_set : (ks : Kinds) → LawfulSet ks (flat_encodings ks)
flat_set ks = record { lawful = flat_lawful ks; has_flat = refl }

-- a Flat array is done with itself, and has rows
pub flat_keeps : (ks : Kinds) → LawfulKinds ks → LawfulSteps ks (flat_encodings ks) flat_steps
flat_keeps ks kinds es set within m hs i st =
    let flat : (node_at m i).encoding ≡ 1 = eqb-true (node_at m i).encoding 1 st.mine in
    record {
      refusals = sym (ap (refusal (no_need m i) m i) (flat_rows_of ks es m i flat) ∙ unchanged_step m (i ∷ hs) i (Some (flat_rows ks m i)) st.ordered ∙ rowless_none m i (flat_rows ks m i));
      answer = done_itself ks es (flat_encodings ks) m hs i st (inr (st.flat flat));
    }

pub flat_rows_are : FlatRows flat_encodings
flat_rows_are ks es m hs k look = flat_rows_of ks es m k look.encoding
