-- An encoding that owes its rows in one piece is lawful, if its rows are as long as the array.
use Rattle.std.proofs.Common.{◌≡◌, ℕ, true, false, List, [], ◌∷◌, length, Some, None, Option, sym, refl, ap, ◌∙◌, subst, rules}
use Rattle.std.proofs.lemmas.Option.{none-some, same_Some}
use Rattle.rows.specs.declared.row.Row.{Row}
use Rattle.rows.specs.Kind.{Kinds}
use Rattle.encodings.specs.declared.fields.Fields.{Fields}
use Rattle.encodings.specs.declared.fields.Shape.{Shape}
use Rattle.encodings.specs.Meaning.{Encodings, LawfulEncodings, Fitting, in_range, present, all_present, undivided, lengths, Sized}

-- what is present is all there
pub all_of_present : {A : Type 0} (xs : List A) → all_present (present xs) ≡ Some xs
all_of_present [] = refl
all_of_present {A = A} (x ∷ xs) = ap (λ (o : Option (List A)). elim o as (λ _. Option (List A)) [ None ↦ None | Some l ↦ Some (x ∷ l) ]) (all_of_present xs)

-- where all are there, they are what is present
pub present_of_all : {A : Type 0} (os : List (Option A)) (xs : List A) → all_present os ≡ Some xs → os ≡ present xs
present_of_all [] xs e = ap present (same_Some [] xs e)
present_of_all (None ∷ os) xs e = absurd (none-some xs e)
present_of_all (Some a ∷ os) xs e = more a os xs (all_present os) (λ l q. present_of_all os l q) e
  where
    more : {A : Type 0} (a : A) (os : List (Option A)) (xs : List A) (o : Option (List A)) → ((l : List A) → o ≡ Some l → os ≡ present l)
        → elim o as (λ _. Option (List A)) [ None ↦ None | Some l ↦ Some (a ∷ l) ] ≡ Some xs → Some a ∷ os ≡ present xs
    more a os xs None same e = absurd (none-some xs e)
    more {A = A} a os xs (Some l) same e = ap (λ (t : List (Option A)). Some a ∷ t) (same l refl) ∙ ap present (same_Some (a ∷ l) xs e)

-- An encoding that is not Flat, and owes its rows in one piece: none while a slot is absent, and then all of them.
pub record OnePiece (ks : Kinds) (es : Encodings) : Type 0 where
  pub builder_none : es.has 0 ≡ false
  pub flat_none : es.has 1 ≡ false
  pub ranged : (f : Fields) → es.has f.encoding ≡ true → es.fields_fit f ≡ true → in_range ks f ≡ true
  pub long : (f : Fields) (ss : List Shape) (cs : List (List Row)) (r : List Row) → Fitting es f ss → Sized (present cs) ss → es.rows f cs ≡ Some r → length r ≡ f.len
  pub rest : (f : Fields) (os : List (Option (List Row))) → es.rest f os ≡ undivided es.rows f os
  pub rest_length : (f : Fields) (os : List (Option ℕ)) → es.rest_length f os ≡ f.len

module _ (ks : Kinds) (es : Encodings) (one : OnePiece ks es) where
  -- a rest that exists is of slots that are all present, and as long as the array
  rest_is_long : (f : Fields) (ss : List Shape) (os : List (Option (List Row))) (r : List Row) → Fitting es f ss → Sized os ss → undivided es.rows f os ≡ Some r → length r ≡ f.len
  rest_is_long f ss os r fit sized = go (all_present os) refl
    where
      go : (o : Option (List (List Row))) → all_present os ≡ o → elim o as (λ _. Option (List Row)) [ None ↦ None | Some cs ↦ es.rows f cs ] ≡ Some r → length r ≡ f.len
      go None q e = absurd (none-some r e)
      go (Some cs) q e = one.long f ss cs r fit (subst (λ (l : List (Option (List Row))). Sized l ss) (present_of_all os cs q) sized) e

  pub one_piece_lawful : LawfulEncodings ks es
  one_piece_lawful = record {
    builder_none = one.builder_none;
    flat = λ h. absurd (search (rules, h, one.flat_none));
    ranged = one.ranged;
    long = one.long;
    rest_whole = λ f ss cs fit sized.
        one.rest f (present cs)
        ∙ ap (λ (o : Option (List (List Row))). elim o as (λ _. Option (List Row)) [ None ↦ None | Some cs ↦ es.rows f cs ]) (all_of_present cs);
    rest_length_whole = λ f ss os fit e. one.rest_length f os;
    rest_long = λ f ss os r fit sized e. rest_is_long f ss os r fit sized (sym (one.rest f os) ∙ e) ∙ sym (one.rest_length f (lengths os));
  }
