-- Two sets of encodings that share no id but Flat's make a set: its ids, its laws and its steps.
use Rattle.std.proofs.Common.{◌≡◌, ℕ, ◌≢◌, ◌⊎◌, ⊎_elim, Bool, true, false, ◌==◌, ◌||◌, ◌&&◌, not, List, [], ◌∷◌, ◌++◌, sym, refl, ap, ◌∙◌, subst, rules}
use Rattle.std.proofs.lemmas.Bool.{true≢false, eqb-true, and_parts, or_cases, or_from, or_left, or_right, not-true, cases_Bool, cases_eq}
use Rattle.rows.specs.Kind.{Kinds}
use Rattle.pool.specs.Memory.{node_at}
use Rattle.encodings.specs.declared.fields.Fields.{Fields}
use Rattle.encodings.specs.declared.fields.Shape.{Shape}
use Rattle.encodings.specs.Meaning.{Encodings, slots_fit, present, lengths, FlatIn, Fitting, LawfulEncodings, LawfulSet, Within}
use Rattle.encodings.specs.Step.{Steps, Steppable, StepKeeps, LawfulSteps}
use Rattle.encodings.specs.Ids.{member, apart}
use Rattle.encodings.specs.Pairing.{by_id, paired, paired_steps}

-- ---- which ids it has
or_assoc : (x y z : Bool) → ((x || y) || z) ≡ (x || (y || z))
or_assoc true y z = refl
or_assoc false y z = refl

pub member_paired : (id : ℕ) (xs ys : List ℕ) → (member id xs || member id ys) ≡ member id (xs ++ ys)
member_paired id [] ys = refl
member_paired id (x ∷ xs) ys = or_assoc (id == x) (member id xs) (member id ys) ∙ ap (λ (t : Bool). (id == x) || t) (member_paired id xs ys)

pub paired_own : (x y : Bool) (a b : Encodings) (id : ℕ) → x ≡ a.has id → y ≡ b.has id → (x || y) ≡ (paired a b).has id
paired_own x y a b id p q = λ i. p i || q i

pub paired_known : (a b : Encodings) (xs ys : List ℕ) → ((id : ℕ) → a.has id ≡ member id xs) → ((id : ℕ) → b.has id ≡ member id ys) → (id : ℕ) → (paired a b).has id ≡ member id (xs ++ ys)
paired_known a b xs ys p q id = (λ i. p id i || q id i) ∙ member_paired id xs ys

-- an id of two sets that are apart is Flat's
pub apart_ids : (id : ℕ) (xs ys : List ℕ) → apart xs ys ≡ true → member id xs ≡ true → member id ys ≡ true → id ≡ 1
apart_ids id [] ys p h k = absurd (search rules)
apart_ids id (x ∷ xs) ys p h k =
    let both = and_parts ((x == 1) || not (member x ys)) (apart xs ys) p in
    ⊎_elim
    (λ here. first (eqb-true id x here) (or_cases (x == 1) (not (member x ys)) both.0))
    (λ later. apart_ids id xs ys both.1 later k)
    (or_cases (id == x) (member id xs) h)
  where
    first : id ≡ x → ((x == 1) ≡ true) ⊎ (not (member x ys) ≡ true) → id ≡ 1
    first e t =
        ⊎_elim
        (λ flat. e ∙ eqb-true x 1 flat)
        (λ out. absurd (true≢false (sym k ∙ ap (λ (n : ℕ). member n ys) e ∙ not-true (member x ys) out)))
        t

pub apart_known : (a b : Encodings) (xs ys : List ℕ) → ((id : ℕ) → a.has id ≡ member id xs) → ((id : ℕ) → b.has id ≡ member id ys) → apart xs ys ≡ true
    → (id : ℕ) → a.has id ≡ true → b.has id ≡ true → id ≡ 1
apart_known a b xs ys p q e id h k = apart_ids id xs ys e (sym (p id) ∙ h) (sym (q id) ∙ k)

-- ---- the one of the two that has an id
-- what is taken of the chosen one is chosen of what is taken of both
chosen : {A B : Type 0} (g : A → B) (t : Bool) (x y : A) → by_id t (g x) (g y) ≡ g (by_id t x y)
chosen g true x y = refl
chosen g false x y = refl

-- what holds of both holds of the chosen one
of_chosen : {A : Type 0} (P : A → Type 0) (t : Bool) (x y : A) → P x → P y → P (by_id t x y)
of_chosen P true x y p q = p
of_chosen P false x y p q = q

module _ (a b : Encodings) where
  -- the one that gives an id its rows
  abbrev giver : ℕ → Encodings
  giver id = by_id (a.has id) a b

  giver_has : (id : ℕ) → (paired a b).has id ≡ true → (giver id).has id ≡ true
  giver_has id h = one (a.has id) refl h
    where
      one : (t : Bool) → a.has id ≡ t → (t || b.has id) ≡ true → (by_id t a b).has id ≡ true
      one true e h = e
      one false e h = h

  giver_slots : (f : Fields) (ss : List Shape) → slots_fit (paired a b) f ss ≡ slots_fit (giver f.encoding) f ss
  giver_slots f ss =
      λ i. chosen (λ (s : Encodings). s.count_fits f) (a.has f.encoding) a b i
      && (chosen (λ (s : Encodings). s.kinds_fit f ss) (a.has f.encoding) a b i && chosen (λ (s : Encodings). s.lengths_fit f ss) (a.has f.encoding) a b i)

  giver_fitting : (f : Fields) (ss : List Shape) → Fitting (paired a b) f ss → Fitting (giver f.encoding) f ss
  giver_fitting f ss fit =
      record {
        known = giver_has f.encoding fit.known;
        not_flat = fit.not_flat;
        fields = sym (chosen (λ (s : Encodings). s.fields_fit f) (a.has f.encoding) a b) ∙ fit.fields;
        slots = sym (giver_slots f ss) ∙ fit.slots;
      }

-- ---- its laws
module _ (ks : Kinds) (a b : Encodings) (first : LawfulEncodings ks a) (second : LawfulEncodings ks b) where
  law : (id : ℕ) → LawfulEncodings ks (giver a b id)
  law id = of_chosen (λ (s : Encodings). LawfulEncodings ks s) (a.has id) a b first second

  -- the one that gives Flat its rows has Flat's tests
  paired_flat : (paired a b).has 1 ≡ true → FlatIn ks (paired a b)
  paired_flat h =
      record {
        fields = λ f e. chosen (λ (s : Encodings). s.fields_fit f) (a.has f.encoding) a b ∙ (flat f e).fields f e;
        count = λ f e. chosen (λ (s : Encodings). s.count_fits f) (a.has f.encoding) a b ∙ (flat f e).count f e;
        kinds = λ f ss e. chosen (λ (s : Encodings). s.kinds_fit f ss) (a.has f.encoding) a b ∙ (flat f e).kinds f ss e;
        lengths = λ f ss e. chosen (λ (s : Encodings). s.lengths_fit f ss) (a.has f.encoding) a b ∙ (flat f e).lengths f ss e;
      }
    where
      flat : (f : Fields) → f.encoding ≡ 1 → FlatIn ks (giver a b f.encoding)
      flat f e =
          let has = giver_has a b f.encoding (subst (λ (id : ℕ). (paired a b).has id ≡ true) (sym e) h) in
          (law f.encoding).flat (subst (λ (id : ℕ). (giver a b f.encoding).has id ≡ true) e has)

  pub paired_lawful : LawfulEncodings ks (paired a b)
  paired_lawful =
      record {
        builder_none = or_from (a.has 0) (b.has 0) first.builder_none second.builder_none;
        flat = paired_flat;
        ranged = λ f h fits. (law f.encoding).ranged f (giver_has a b f.encoding h) (sym (chosen (λ (s : Encodings). s.fields_fit f) (a.has f.encoding) a b) ∙ fits);
        long = λ f ss cs r fit sized e.
            (law f.encoding).long f ss cs r (giver_fitting a b f ss fit) sized (sym (chosen (λ (s : Encodings). s.rows f cs) (a.has f.encoding) a b) ∙ e);
        rest_whole = λ f ss cs fit sized.
            chosen (λ (s : Encodings). s.rest f (present cs)) (a.has f.encoding) a b
            ∙ (law f.encoding).rest_whole f ss cs (giver_fitting a b f ss fit) sized
            ∙ sym (chosen (λ (s : Encodings). s.rows f cs) (a.has f.encoding) a b);
        rest_length_whole = λ f ss os fit e.
            chosen (λ (s : Encodings). s.rest_length f os) (a.has f.encoding) a b
            ∙ (law f.encoding).rest_length_whole f ss os (giver_fitting a b f ss fit) e;
        rest_long = λ f ss os r fit sized e.
            (law f.encoding).rest_long f ss os r (giver_fitting a b f ss fit) sized (sym (chosen (λ (s : Encodings). s.rest f os) (a.has f.encoding) a b) ∙ e)
            ∙ sym (chosen (λ (s : Encodings). s.rest_length f (lengths os)) (a.has f.encoding) a b);
      }

pub paired_set : (ks : Kinds) (a b : Encodings) → LawfulSet ks a → LawfulEncodings ks b → LawfulSet ks (paired a b)
paired_set ks a b first second = record { lawful = paired_lawful ks a b first.lawful second; has_flat = or_left (a.has 1) (b.has 1) first.has_flat }

-- ---- what lies within it, and within what it lies
pub within_trans : (a b c : Encodings) → Within a b → Within b c → Within a c
within_trans a b c p q =
    record {
      has = λ id h. q.has id (p.has id h);
      fields_fit = λ f h. q.fields_fit f (p.has f.encoding h) ∙ p.fields_fit f h;
      count_fits = λ f h. q.count_fits f (p.has f.encoding h) ∙ p.count_fits f h;
      kinds_fit = λ f h ss. q.kinds_fit f (p.has f.encoding h) ss ∙ p.kinds_fit f h ss;
      lengths_fit = λ f h ss. q.lengths_fit f (p.has f.encoding h) ss ∙ p.lengths_fit f h ss;
      rows = λ f h ne cs. q.rows f (p.has f.encoding h) ne cs ∙ p.rows f h ne cs;
      rest = λ f h ne os. q.rest f (p.has f.encoding h) ne os ∙ p.rest f h ne os;
      rest_length = λ f h ne os. q.rest_length f (p.has f.encoding h) ne os ∙ p.rest_length f h ne os;
    }

pub within_first : (a b : Encodings) → Within a (paired a b)
within_first a b =
    record {
      has = λ id h. or_left (a.has id) (b.has id) h;
      fields_fit = λ f h i. by_id (h i) (a.fields_fit f) (b.fields_fit f);
      count_fits = λ f h i. by_id (h i) (a.count_fits f) (b.count_fits f);
      kinds_fit = λ f h ss i. by_id (h i) (a.kinds_fit f ss) (b.kinds_fit f ss);
      lengths_fit = λ f h ss i. by_id (h i) (a.lengths_fit f ss) (b.lengths_fit f ss);
      rows = λ f h ne cs i. by_id (h i) (a.rows f cs) (b.rows f cs);
      rest = λ f h ne os i. by_id (h i) (a.rest f os) (b.rest f os);
      rest_length = λ f h ne os i. by_id (h i) (a.rest_length f os) (b.rest_length f os);
    }

module _ (ks : Kinds) (a b es : Encodings) (second : LawfulEncodings ks b) (whole : LawfulEncodings ks es) (alone : (id : ℕ) → a.has id ≡ true → b.has id ≡ true → id ≡ 1)
    (within : Within (paired a b) es) where
  pair_has : (f : Fields) → b.has f.encoding ≡ true → (paired a b).has f.encoding ≡ true
  pair_has f h = or_right (a.has f.encoding) (b.has f.encoding) h

  -- the first has no id of the second's but Flat's
  second_only : (id : ℕ) → b.has id ≡ true → id ≢ 1 → a.has id ≡ false
  second_only id h ne = ⊎_elim (λ has. absurd (ne (alone id has h))) (λ out. out) (cases_Bool (a.has id))

  -- so what the pair gives of another is the second's; and of Flat's tests there is one only
  as_second : {A : Type 0} (g : Encodings → A) (f : Fields) → b.has f.encoding ≡ true → f.encoding ≢ 1 → g es ≡ by_id (a.has f.encoding) (g a) (g b) → g es ≡ g b
  as_second g f h ne e = e ∙ ap (λ (t : Bool). by_id t (g a) (g b)) (second_only f.encoding h ne)

  test_same : {A : Type 0} (g : Encodings → A) (f : Fields) → b.has f.encoding ≡ true → g es ≡ by_id (a.has f.encoding) (g a) (g b)
      → (FlatIn ks es → FlatIn ks b → f.encoding ≡ 1 → g es ≡ g b) → g es ≡ g b
  test_same g f h e flat =
      ⊎_elim
      (λ (one : f.encoding ≡ 1).
      flat
      (whole.flat (subst (λ (id : ℕ). es.has id ≡ true) one (within.has f.encoding (pair_has f h))))
      (second.flat (subst (λ (id : ℕ). b.has id ≡ true) one h)) one)
      (λ ne. as_second g f h ne e)
      (cases_eq f.encoding 1)

  pub within_second : Within b es
  within_second =
      record {
        has = λ id h. within.has id (or_right (a.has id) (b.has id) h);
        fields_fit = λ f h. test_same (λ (s : Encodings). s.fields_fit f) f h (within.fields_fit f (pair_has f h)) (λ p q one. p.fields f one ∙ sym (q.fields f one));
        count_fits = λ f h. test_same (λ (s : Encodings). s.count_fits f) f h (within.count_fits f (pair_has f h)) (λ p q one. p.count f one ∙ sym (q.count f one));
        kinds_fit = λ f h ss.
            test_same (λ (s : Encodings). s.kinds_fit f ss) f h (within.kinds_fit f (pair_has f h) ss) (λ p q one. p.kinds f ss one ∙ sym (q.kinds f ss one));
        lengths_fit = λ f h ss.
            test_same (λ (s : Encodings). s.lengths_fit f ss) f h (within.lengths_fit f (pair_has f h) ss) (λ p q one. p.lengths f ss one ∙ sym (q.lengths f ss one));
        rows = λ f h ne cs. as_second (λ (s : Encodings). s.rows f cs) f h ne (within.rows f (pair_has f h) ne cs);
        rest = λ f h ne os. as_second (λ (s : Encodings). s.rest f os) f h ne (within.rest f (pair_has f h) ne os);
        rest_length = λ f h ne os. as_second (λ (s : Encodings). s.rest_length f os) f h ne (within.rest_length f (pair_has f h) ne os);
      }

-- ---- its steps
pub paired_keeps : (ks : Kinds) (a b : Encodings) (s t : Steps) → LawfulEncodings ks b → ((id : ℕ) → a.has id ≡ true → b.has id ≡ true → id ≡ 1)
    → LawfulSteps ks a s → LawfulSteps ks b t → LawfulSteps ks (paired a b) (paired_steps a s t)
paired_keeps ks a b s t second alone p q es set within m hs i ready = one (a.has (node_at m i).encoding) refl
  where
    -- what a step may count on, where it is this one's
    mine : (own : Encodings) → own.has (node_at m i).encoding ≡ true → Steppable ks es own m hs i
    mine own h = record { ordered = ready.ordered; mine = h; stands = ready.stands; children = ready.children; flat = ready.flat }

    one : (c : Bool) → a.has (node_at m i).encoding ≡ c
        → StepKeeps ks es (by_id c (s.need m i) (t.need m i)) m hs i (by_id c (s.stepped m i) (t.stepped m i)).0 (by_id c (s.stepped m i) (t.stepped m i)).1
    one true e = p es set (within_trans a (paired a b) es (within_first a b) within) m hs i (mine a e)
    one false e =
        q es set (within_second ks a b es second set.lawful alone within) m hs i
        (mine b (subst (λ (c : Bool). (c || b.has (node_at m i).encoding) ≡ true) e ready.mine))
