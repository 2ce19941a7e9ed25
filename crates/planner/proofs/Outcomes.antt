-- The definition of each call, by what its checks find.
use Rattle.std.proofs.Common.{◌≡◌, ℕ, ◌<◌, Bool, true, false, ◌&&◌, eqb, ltb, List, is_some, Some, None, Ok, Err, Option, Result, sym, refl, ap, ap₂, ◌∙◌, subst, arith}
use Rattle.std.proofs.lemmas.Bool.{ltb-true}
use Rattle.rows.specs.declared.row.Row.{Row}
use Rattle.rows.specs.Kind.{Kinds}
use Rattle.rows.specs.Ours.{LawfulKinds}
use Rattle.pool.specs.Memory.{Memory, node_at, start_at, run_of}
use Rattle.pool.specs.Sharing as sharing
use Rattle.pool.specs.Building.{built}
use Rattle.pool.specs.Inserting.{inserted}
use Rattle.encodings.specs.declared.fields.Fields.{Fields}
use Rattle.encodings.specs.Meaning.{Encodings, LawfulSet}
use Rattle.planner.specs.declared.call.Refusal.{Refusal}
use Rattle.planner.specs.declared.call.Refusal.TheVariants.{Line, RootRange, RootEmpty, RootTaken, Field, NotFlat}
use Rattle.planner.specs.Calls.{Told, Said, done, rows, refused}
use Rattle.planner.specs.Called.{State, root_at, root_in, held_in, with_root, sized, rows_made, placed, made, node_of, shared, emptied, handed, read_out, called}
use Rattle.planner.specs.declared.planner.Planner.{Planner}
use Rattle.planner.specs.Contract.{Does}
use Rattle.planner.specs.Seen.{state_of, called_on, Answers}
use Rattle.planner.proofs.Histories.{extended}

-- a call that answers by its definition does all that it promises
pub does : (ks : Kinds) (es : Encodings) → LawfulKinds ks → LawfulSet ks es → (s t : State) (c : Told) (a : Said) → (a, t) ≡ called ks es s c → Does ks es s c a t
does ks es lawful means s t c a e = record { value = e; law = λ h r. extended ks lawful es means h s t c a r e }

-- the same, of a planner that keeps its session
pub answered : {K E B M : Type 0} {kinds_of : K → Kinds} {means_of : E → Kinds → Encodings} → ((k : K) → LawfulKinds (kinds_of k)) → ((e : E) (ks : Kinds) → LawfulSet ks (means_of e ks)) → {p q : Planner K E B M} {c : Told} {a : Said} → (a, state_of q) ≡ called_on kinds_of means_of p c → q.session ≡ p.session → Answers kinds_of means_of p q c a
answered kinds encodings {p} {q} e same = record { does = does _ _ (kinds p.session.kinds) (encodings p.session.encodings _) (state_of p) (state_of q) _ _ e; session = same }

-- ---- what is under a root, by: whether the root exists, what is under it
abbrev held_by : Bool → Option ℕ → Result ℕ Refusal
held_by range held = elim range [ true ↦ elim held [ None ↦ Err RootEmpty | Some k ↦ Ok k ] | false ↦ Err RootRange ]

abbrev root_by : Bool → Option ℕ → Result (Option ℕ) Refusal
root_by range held = elim range [ true ↦ Ok held | false ↦ Err RootRange ]

pub root_ok : (s : State) (r : ℕ) (o : Option ℕ) → Ok o ≡ root_in s r → (r < 32) × (root_at s r ≡ o)
root_ok s r o e = by (ltb r 32) refl e
  where
    by : (b : Bool) → ltb r 32 ≡ b → Ok o ≡ root_by b (root_at s r) → (r < 32) × (root_at s r ≡ o)
    by true is e = (ltb-true r 32 is, cc)
    by false is e = let z : ◌≡◌ {A = ℕ} 0 1 = cc in absurd (omega arith)

pub held_ok : (s : State) (r k : ℕ) → Ok k ≡ held_in s r → (r < 32) × (root_at s r ≡ Some k)
held_ok s r k e = by (ltb r 32) (root_at s r) refl refl e
  where
    by : (b : Bool) (o : Option ℕ) → ltb r 32 ≡ b → root_at s r ≡ o → Ok k ≡ held_by b o → (r < 32) × (root_at s r ≡ Some k)
    by true (Some j) is held e = let z : k ≡ j = cc in (ltb-true r 32 is, held ∙ ap (λ (x : ℕ). Some x) (sym z))
    by true None is held e = let z : ◌≡◌ {A = ℕ} 0 1 = cc in absurd (omega arith)
    by false o is held e = let z : ◌≡◌ {A = ℕ} 0 1 = cc in absurd (omega arith)

-- a root that exists is refused only where it is empty
pub held_err : (s : State) (r : ℕ) (x : Refusal) → ltb r 32 ≡ true → Err x ≡ held_in s r → (x ≡ RootEmpty) × (root_at s r ≡ None)
held_err s r x low e = by (root_at s r) refl (e ∙ ap (λ (b : Bool). held_by b (root_at s r)) low)
  where
    by : (o : Option ℕ) → root_at s r ≡ o → Err x ≡ held_by true o → (x ≡ RootEmpty) × (root_at s r ≡ None)
    by None is e = (cc, is)
    by (Some k) is e = let z : ◌≡◌ {A = ℕ} 0 1 = cc in absurd (omega arith)

-- what is done with the array under a root, and what is refused
abbrev for_held : {X : Type 0} → (Refusal → X) → (ℕ → X) → Result ℕ Refusal → X
for_held f g r = elim r [ Err e ↦ f e | Ok k ↦ g k ]

held_for : {X : Type 0} (f : Refusal → X) (g : ℕ → X) (range : Bool) (held : Option ℕ) → for_held f g (held_by range held) ≡ elim range [ false ↦ f RootRange | true ↦ elim held [ None ↦ f RootEmpty | Some k ↦ g k ] ]
held_for f g false held = refl
held_for f g true None = refl
held_for f g true (Some k) = refl

module _ (s : State) (root : ℕ) (r : Result ℕ Refusal) (e : r ≡ held_in s root) where
  pub emptied_is : for_held (λ x. (refused x, s)) (λ k. (done, with_root s (sharing.release s.memory k) root None)) r ≡ emptied s root
  emptied_is =
      ap (λ (x : Result ℕ Refusal). for_held (λ x. (refused x, s)) (λ k. (done, with_root s (sharing.release s.memory k) root None)) x) e
      ∙ held_for {X = Said × State} (λ x. (refused x, s)) (λ k. (done, with_root s (sharing.release s.memory k) root None)) (ltb root 32) (root_at s root)

  pub read_is : for_held (λ x. refused x) (λ k. handed s.memory k) r ≡ read_out s root
  read_is = ap (λ (x : Result ℕ Refusal). for_held (λ x. refused x) (λ k. handed s.memory k) x) e ∙ held_for {X = Said} (λ x. refused x) (λ k. handed s.memory k) (ltb root 32) (root_at s root)

-- ---- sharing, by: what is under the target, what is under the source
abbrev pub share_by : State → ℕ → Result (Option ℕ) Refusal → Result ℕ Refusal → Said × State
share_by s to target source =
    elim target [
      | Err e ↦ (refused e, s)
      | Ok o ↦ elim source [
        | Err e ↦ (refused e, s)
        | Ok k ↦ elim o [
          | Some j ↦ (refused RootTaken, s)
          | None ↦ (done, with_root s (sharing.retained s.memory k) to (Some k))
        ]
      ]
    ]

abbrev share_with : State → ℕ → Bool → Option ℕ → Option ℕ → Said × State
share_with s to range source target =
    elim range [
      | false ↦ (refused RootRange, s)
      | true ↦ elim source [
        | None ↦ (refused RootEmpty, s)
        | Some k ↦ elim target [
          | Some j ↦ (refused RootTaken, s)
          | None ↦ (done, with_root s (sharing.retained s.memory k) to (Some k))
        ]
      ]
    ]

share_for : (s : State) (to : ℕ) (a b : Bool) (target source : Option ℕ) → share_by s to (root_by a target) (held_by b source) ≡ share_with s to (a && b) source target
share_for s to false b target source = refl
share_for s to true false target source = refl
share_for s to true true target None = refl
share_for s to true true target (Some k) = refl

pub shared_is : (s : State) (to from : ℕ) (target : Result (Option ℕ) Refusal) (source : Result ℕ Refusal) → target ≡ root_in s to → source ≡ held_in s from → share_by s to target source ≡ shared s to from
shared_is s to from target source a b =
    ap₂ (λ (x : Result (Option ℕ) Refusal) (y : Result ℕ Refusal). share_by s to x y) a b
    ∙ share_for s to (ltb to 32) (ltb from 32) (root_at s to) (root_at s from)

-- ---- reading, by: whether the array is Flat
abbrev pub hand_by : Memory → ℕ → Bool → Said
hand_by m k flat = elim flat [ true ↦ rows (node_at m k).kind (node_at m k).len (start_at m.nodes k) (run_of m k) | false ↦ refused NotFlat ]

pub handed_is : (m : Memory) (k : ℕ) (flat : Bool) → eqb (node_at m k).encoding 1 ≡ flat → hand_by m k flat ≡ handed m k
handed_is m k flat e = sym (ap (λ (x : Bool). hand_by m k x) e)

-- ---- making, by: the bytes' number, what is under the root, the rows
abbrev pub make_by : Kinds → State → ℕ → ℕ → ℕ → Bool → Result (Option ℕ) Refusal → Option (List Row) → Said × State
make_by ks s root kind n size target rs =
    elim size [
      | false ↦ (refused Line, s)
      | true ↦ elim target [
        | Err e ↦ (refused e, s)
        | Ok held ↦ elim held [
          | Some k ↦ (refused RootTaken, s)
          | None ↦ elim rs [
            | None ↦ (refused Field, s)
            | Some xs ↦ placed s root (built ks s.memory kind n xs)
          ]
        ]
      ]
    ]

abbrev make_with : Kinds → State → ℕ → ℕ → ℕ → Bool → Bool → Option ℕ → Option (List Row) → Said × State
make_with ks s root kind n size range held rs =
    elim size [
      | false ↦ (refused Line, s)
      | true ↦ elim range [
        | false ↦ (refused RootRange, s)
        | true ↦ elim held [
          | Some k ↦ (refused RootTaken, s)
          | None ↦ elim rs [
            | None ↦ (refused Field, s)
            | Some xs ↦ placed s root (built ks s.memory kind n xs)
          ]
        ]
      ]
    ]

make_for : (ks : Kinds) (s : State) (root kind n : ℕ) (size range : Bool) (held : Option ℕ) (rs : Option (List Row)) → make_by ks s root kind n size (root_by range held) rs ≡ make_with ks s root kind n size range held rs
make_for ks s root kind n false range held rs = refl
make_for ks s root kind n true false held rs = refl
make_for ks s root kind n true true held rs = refl

pub made_is : (ks : Kinds) (s : State) (root kind n : ℕ) (bytes : List ℕ) (size : Bool) (target : Result (Option ℕ) Refusal) (rs : Option (List Row)) → sized ks kind n bytes ≡ size → target ≡ root_in s root → rows_made ks kind n bytes ≡ rs → make_by ks s root kind n size target rs ≡ made ks s root kind n bytes
made_is ks s root kind n bytes size target rs a b c =
    sym (ap (λ (x : Bool). make_by ks s root kind n x target (rows_made ks kind n bytes)) a ∙ ap (λ (x : Option (List Row)). make_by ks s root kind n size target x) c)
    ∙ ap (λ (x : Result (Option ℕ) Refusal). make_by ks s root kind n (sized ks kind n bytes) x (rows_made ks kind n bytes)) b
    ∙ make_for ks s root kind n (sized ks kind n bytes) (ltb root 32) (root_at s root) (rows_made ks kind n bytes)

-- ---- an array of given fields, by: its slots
abbrev pub assemble_by : State → ℕ → Fields → Result (List (Option ℕ)) Refusal → Said × State
assemble_by s root f slots = elim slots [ Err e ↦ (refused e, s) | Ok ss ↦ placed s root (inserted s.memory (node_of f ss)) ]

-- a root that is taken refuses, whatever it holds
pub taken_by : {X : Type 0} (x : X) (y : X) (o : Option ℕ) → is_some o ≡ true → x ≡ elim o [ Some k ↦ x | None ↦ y ]
taken_by x y None e = let z : ◌≡◌ {A = ℕ} 0 1 = cc in absurd (omega arith)
taken_by x y (Some k) e = refl

-- a root that is not taken is empty
pub empty_by : (o : Option ℕ) → is_some o ≡ false → o ≡ None
empty_by None e = refl
empty_by (Some k) e = let z : ◌≡◌ {A = ℕ} 0 1 = cc in absurd (omega arith)

module _ (ks : Kinds) (es : Encodings) (s : State) (c : Told) (a : Said) (t : State) (d : Does ks es s c a t) where
  -- the answer and the state of a call that did what it promises
  pub answer_is : a ≡ (called ks es s c).0
  answer_is = ap (λ (p : Said × State). p.0) d.value

  pub state_is : t ≡ (called ks es s c).1
  state_is = ap (λ (p : Said × State). p.1) d.value

  -- the same promise, with the answer by its definition
  pub does_called : Does ks es s c (called ks es s c).0 t
  does_called = subst (λ (x : Said). Does ks es s c x t) answer_is d

-- and of a planner
pub answers_called : {K E B M : Type 0} {kinds_of : K → Kinds} {means_of : E → Kinds → Encodings} {p q : Planner K E B M} {c : Told} {a : Said} → Answers kinds_of means_of p q c a → Answers kinds_of means_of p q c (called_on kinds_of means_of p c).0
answers_called x = record { does = does_called _ _ _ _ _ _ x.does; session = x.session }
